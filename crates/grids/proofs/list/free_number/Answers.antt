-- The loop goes along the slots as the search along the numbers does.
use Rattle.std.specs.Prelude.{◌≡◌}
use Rattle.grids.specs.{true, false, None, arith, sym, ap, ◌∙◌, length, is_none, common_steps, get_or_read, slot_at}
use Rattle.grids.proofs.FreeNumbers.{search_from, search-more, search-here, search-past, search-end}
use Rattle.grids.proofs.list.free_number.Goals as goal

pub returns-then-is_none-clause-number : goal.returns-then-is_none-clause-number
returns-then-is_none-clause-number c =
    let slots = c.args.slots.now in
    let n = c.loop-n.n in
    let read = get_or_read slots n _ c.loop-n-test.true c.index-slots-n.is None in
    let free : is_none (slot_at slots n) ≡ true = rw (← read) (grind (arith, common_steps)) in
    sym (search-here slots n (omega arith) free) ∙ c.loop-n.invariant

pub loop-n-preserved : goal.loop-n-preserved
loop-n-preserved c =
    let slots = c.args.slots.now in
    let n = c.loop-n.n in
    let read = get_or_read slots n _ c.loop-n-test.true c.index-slots-n.is None in
    let taken : is_none (slot_at slots n) ≡ false = rw (← read) (grind (arith, common_steps)) in
    sym (search-more slots n (omega arith) taken) ∙ c.loop-n.invariant

pub returns-then-slots-from-clause-number : goal.returns-then-slots-from-clause-number
returns-then-slots-from-clause-number c =
    let slots = c.args.slots.now in
    let last : c.loop-n.n ≡ length slots = omega arith in
    sym (search-past slots (omega arith)) ∙ ap (search_from slots) (sym last) ∙ c.loop-n.invariant

pub returns-else-slots-from-clause-number : goal.returns-else-slots-from-clause-number
returns-else-slots-from-clause-number c = sym (search-end c.args.slots.now c.loop-n.n (omega arith)) ∙ c.loop-n.invariant
