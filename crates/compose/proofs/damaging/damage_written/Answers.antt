-- `damage_written`: where no panel is visible, the frame of a write in the standard screen is what is shown of it (`StandardWrites`).
use Rattle.std.specs.Prelude.{◌≡◌}
use Rattle.compose.specs.{rules, ℕ, sym, subst, ◌∙◌, standard_screen, HasPlace, frame_shows_at, Some, length, windows, panels, frame_holds, Damages}
use Rattle.picture.proofs.DamageLaws.{damages-as, damages-rectangle}
use Rattle.compose.proofs.StandardWrites.{standard-inside, standard-alone}
use Rattle.compose.proofs.damaging.damage_written.Goals as goal

pub returns-then-has_no_panel : goal.returns-then-has_no_panel
returns-then-has_no_panel c =
    let a = c.args in
    let ws = windows a.table.now in
    let ps = panels a.stack.now in
    let r = a.frame in
    let same : a.win.0 ≡ standard_screen = search rules in
    let none : length ps.visible ≡ 0 = search rules in
    let possible = c.requires.inside in
    let sound = c.has_window.ensures.sound in
    let inside = subst (λ (w : ℕ). HasPlace ws.window w r.bottom r.right) same possible.2 in
    let shows = standard-alone ws r sound inside possible.0 possible.1 ps none in
    record {
      damaged = subst (λ (w : ℕ). Damages ws.columns (frame_shows_at ws.window ps w (Some r)) a.damage.now c.rectangle.new.self) (sym same)
          (damages-as ws.columns (frame_holds r) (frame_shows_at ws.window ps standard_screen (Some r)) a.damage.now c.rectangle.new.self
          (damages-rectangle ws.columns r a.damage.now c.rectangle.new.self c.rectangle.ensures.height c.rectangle.ensures.each possible.1
          (standard-inside ws r sound inside).1)
          (λ y x below left is. shows y x ∙ is) (λ y x left is. sym (shows y x) ∙ is));
    }
