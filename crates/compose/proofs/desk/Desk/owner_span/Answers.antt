-- `owner_span`: lemmas of std alone.
use Rattle.compose.specs.{refl, sym, subst, arith, Windows, windows as windows_of, panels, HasPanelWindows}
use Rattle.picture.proofs.Standard.{sound-windows}
use Rattle.compose.proofs.desk.Desk.owner_span.Goals as goal

pub owner_span-requires : goal.owner_span-requires
owner_span-requires c κs =
    let d = c.self.inside in let ps = panels d.stack in let inside = c.requires.column in let size = c.size-columns.ensures.size in
    let owned = subst (λ (ws : Windows). HasPanelWindows ws.window ps) (sym c.of-rows.ensures.windows) (sound-windows (windows_of d.windows.table).window ps c.self.invariant.sound.panels) in
    ((refl, record {}), (owned, grind (arith, inside, size)))
