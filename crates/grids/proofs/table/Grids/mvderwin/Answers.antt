-- The window shows another part of its parent, and the origins are set again.
use Rattle.grids.specs.{◌∙◌, arith, rules, refl, sym, common_steps}
use Rattle.grids.specs.contracts.table.Grids.{the_view}
use Rattle.grids.proofs.Shifts.{IsWindowTable-shifted, chained-shifted, shifted_by, windows-shifted}
use Rattle.grids.proofs.Sounds.{sound}
use Rattle.grids.proofs.table.Grids.mvderwin.Goals as goal

pub settle-requires-clause-chained : goal.settle-requires-clause-chained
settle-requires-clause-chained c =
    chained-shifted (the_view c.self.inside) c.change_slot.new.slots.items c.args.win.0 c.args.par_y c.args.par_x c.self.invariant (shifted_by c.change_slot.ensures (search rules) (search rules) (search rules) (search rules) (search rules))
    c.in_ok-slot.slot.now c.in_ok-parent.parent.now c.in_ok-part.part
    (rw (← c.self.view_is) at c.in_ok-slot.ensures.found) (sym c.part.ensures ∙ c.in_ok-part.ensures.ok_part) (rw (← c.self.view_is) at c.in_ok-parent.ensures.found)
    (grind (arith, common_steps)) (grind (arith, common_steps))

pub invariant_of-self : goal.invariant_of-self
invariant_of-self c =
    IsWindowTable-shifted (the_view c.self.inside) c.change_slot.new.slots.items c.args.win.0 c.args.par_y c.args.par_x c.self.invariant (shifted_by c.change_slot.ensures (search rules) (search rules) (search rules) (search rules) (search rules))
    c.in_ok-slot.slot.now c.in_ok-parent.parent.now c.in_ok-part.part
    (rw (← c.self.view_is) at c.in_ok-slot.ensures.found) (sym c.part.ensures ∙ c.in_ok-part.ensures.ok_part) (rw (← c.self.view_is) at c.in_ok-parent.ensures.found)
    (grind (arith, common_steps)) (grind (arith, common_steps))
    c.settle.new.slots.items c.settle.ensures

pub returns : goal.returns
returns c = record {
  refused = search rules;
  reply = refl;
  changed =
      rw (← c.self.view_is)
      (windows-shifted (the_view c.self.inside) c.change_slot.new.slots.items c.args.win.0 c.args.par_y c.args.par_x c.self.invariant (shifted_by c.change_slot.ensures (search rules) (search rules) (search rules) (search rules) (search rules)) c.settle.new.slots.items c.settle.ensures);
  unchanged = tt;
  sound = sound _ (invariant_of-self c);
}
