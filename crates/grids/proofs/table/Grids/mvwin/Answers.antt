-- One slot has another place, and its window no other cell.
use Rattle.grids.specs.{arith, rules, refl, common_steps, nat_tests, with_place}
use Rattle.grids.proofs.Changes.{IsWindowTable-moved, changed_by, windows-changed}
use Rattle.grids.proofs.Sounds.{sound}
use Rattle.grids.proofs.table.Grids.mvwin.Goals as goal

pub invariant_of-self : goal.invariant_of-self
invariant_of-self c =
    IsWindowTable-moved c.self.invariant (changed_by {change = with_place c.args.y c.args.x} c.change_slot.ensures (search rules) (search rules))
    (grind (arith, common_steps, nat_tests), grind (arith, common_steps, nat_tests)) (λ e. grind (arith, common_steps, nat_tests))

pub returns : goal.returns
returns c = record {
  refused = search rules;
  reply = refl;
  changed = rw (← c.self.view_is) (windows-changed c.self.invariant (changed_by c.change_slot.ensures (search rules) (search rules)));
  unchanged = tt;
  sound = sound _ (invariant_of-self c);
}
