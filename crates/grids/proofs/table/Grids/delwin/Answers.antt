-- No window derives from the one that is deleted, so the table without it is sound.
use Rattle.std.specs.Prelude.{◌≡◌}
use Rattle.grids.specs.{false, rules, sym, ◌∙◌, has_derived, window_map}
use Rattle.grids.specs.contracts.table.Grids.{the_view}
use Rattle.grids.proofs.Deletion.{IsWindowTable-without}
use Rattle.grids.proofs.table.Grids.delwin.Goals as goal

pub invariant_of-self : goal.invariant_of-self
invariant_of-self c =
    let t = the_view c.self.inside in
    let none : has_derived (window_map t.slots) c.args.win.0 ≡ false = rw (← c.deref.ensures.value) (sym c.has_derived.ensures ∙ c.if-has_derived.false) in
    IsWindowTable-without t c.free_slot.new.slots.items c.args.win.0 c.free_slot.ensures c.self.invariant (search rules) none
