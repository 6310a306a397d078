-- `compose`: what it leaves is a desk, which reads no less than it changes, and no more than all of the damaged lines (`CellsRead`).
use Rattle.std.specs.Prelude.{◌≡◌, ◌||◌, ◌+◌, ◌%◌, ◌^◌}
use Rattle.compose.specs.{ℕ, Ok, refl, sym, ap, subst, ◌∙◌, arith, picture_of, shown, cursor_of_topmost, found_from_top, Windows, world_after, UpdatePanels, Composed, windows as windows_of, panels}
use Rattle.compose.specs.{cells_above, IsRepairable, Called, IsDesk, DeskTable, world}
use Rattle.world.specs.declared.call.Call.TheVariants as calls
use Rattle.compose.specs.contracts.desk.Desk.{the_view}
use Rattle.compose.proofs.CellsRead.{update-made}
use Rattle.compose.proofs.desk.Desk.compose.Goals as goal

repairable : (d : DeskTable) → IsDesk d → IsRepairable (windows_of d.windows) (panels d.panels) d.pairs d.damage d.virtual.picture
repairable d h = record {
  windows = h.sound.windows;
  panels = h.sound.panels;
  height = h.covered.height;
  within = h.covered.within;
  size = h.sound.virtual.size;
  covered = h.covered.shown;
}

pub show_damaged-cells-requires : goal.show_damaged-cells-requires
show_damaged-cells-requires c κs =
    let d = the_view c.self.inside in
    let back = sym c.of-rows.ensures.windows in
    let lines = ap (λ (ws : Windows). ws.lines) back in (
      (refl, record {}),
      (
        subst (λ (ws : Windows). IsRepairable ws (panels d.panels) d.pairs d.damage d.virtual.picture) back (repairable d c.self.invariant),
        (ap (λ (p : ℕ × ℕ). p.0) c.size-lines.ensures.size ∙ ap (λ (t : DeskTable). t.windows.lines) (sym c.self.view_is) ∙ lines, c.self.invariant.changes ∙ lines),
      ),
    )

abbrev new : goal.After-self-3-1 → DeskTable
new c = record (the_view c.self.inside) {
  windows = c.unmark_composed.new.marks;
  virtual = record {
    picture = c.show_damaged-cells.new.picture;
    cursor = c.wanted_cursor-self-inside.result;
    clear = c.self.inside.clear || c.unmark_composed.result;
  };
  changes = c.show_damaged-cells.new.changes;
  damage = c.show_damaged-cells.new.damage;
  cells_read = c.cells_read-self-inside.result;
}

left : (c : goal.After-self-3-1) → world (new c) ≡ world_after (world (the_view c.self.inside)) (calls.Refresh UpdatePanels)
left c =
    let d = the_view c.self.inside in
    let ps = panels d.panels in
    let rows = c.of-rows.ensures.windows in
    let picture = c.show_damaged-cells.ensures.shown
    ∙ ap (λ (ws : Windows). picture_of ws.lines ws.columns (λ y x. shown d.pairs (found_from_top ws.window ps y x))) rows in
    let cursor = subst (λ (ws : Windows). c.wanted_cursor-self-inside.result ≡ cursor_of_topmost ws.window ps) (c.show_damaged-cells.ensures.same ∙ rows) c.wanted_cursor-self-inside.ensures in
    λ i. record (world d) {
      windows = c.unmark_composed.ensures.unmarked i;
      virtual = record { picture = picture i; cursor = cursor i; clear = d.virtual.clear || c.unmark_composed.ensures.asked i };
    }

made : (c : goal.After-self-3-1) → IsDesk (new c) × Called (the_view c.self.inside) (calls.Refresh UpdatePanels) (Ok (Composed (record { cells = c.show_damaged-cells.result }))) (new c)
made c =
    let d = the_view c.self.inside in
    let done = c.show_damaged-cells.ensures in
    let lines = ap (λ (ws : Windows). ws.lines) c.of-rows.ensures.windows in
    let counted : c.cells_read-self-inside.result ≡ (d.cells_read + c.show_damaged-cells.result) % 2 ^ 64 = grind arith in
    update-made d (new c) c.show_damaged-cells.result c.self.invariant (left c) (done.height ∙ lines) done.none (done.read ∙ ap (cells_above d.damage) lines) counted done.changes

pub invariant_of-self : goal.invariant_of-self
invariant_of-self c = (made c).0

pub returns : goal.returns
returns c =
    subst (λ (d : DeskTable). Called d (calls.Refresh UpdatePanels) (Ok (Composed (record { cells = c.show_damaged-cells.result }))) (new c)) c.self.view_is
    (made c).1
