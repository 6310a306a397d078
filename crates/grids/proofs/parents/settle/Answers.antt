-- Each round sets the origin of one more slot, and those of its parents were set before.
use Rattle.std.specs.Prelude.{◌≡◌, ◌<◌}
use Rattle.grids.specs.{Some, None, length, arith, ap, rules, sym, ◌∙◌, get_or_read, slice_set, slot_at, Kept}
use Rattle.grids.proofs.Settling.{empty-slot, settled-empty, settled-next}
use Rattle.grids.proofs.parents.settle.Goals as goal
use Rattle.grids.proofs.parents.settle.Goals.{then-is_some, else-is_some}

pub loop-at-preserved : goal.loop-at-preserved
loop-at-preserved c =
    let old = c.args.slots.now.items in
    let cur = c.loop-at.slots.items in
    let at = c.loop-at.at in
    let below : at < length cur = omega (arith, c.loop-at-test.true, c.loop-at.auto.at-end, c.len-at-end.ensures, c.loop-at.invariant.size) in
    elim c.if-is_some.branch [
      | then-is_some w ↦ rw w.slots-is
          (settled-next old cur w.change_slot.new.slots.items at w.first_place-origin.result (omega (arith, c.requires.few, c.loop-at.invariant.size)) c.loop-at.invariant
          (let h = w.change_slot.ensures in
          let after : h.after ≡ record (h.before) { origin = w.first_place-origin.result } = search rules in
          record { before = h.before; was = h.was; set = h.set ∙ ap (λ (k : Kept). slice_set cur at (Some k)) after })
          (rw w.deref.ensures.value at w.first_place-origin.ensures.leads))
      | else-is_some w ↦
          let read = get_or_read cur at _ below c.index.ensures None in
          let none : slot_at cur at ≡ None = sym read ∙ empty-slot c.index.result.now (sym c.is_some.ensures ∙ w.if-is_some.false) in
          rw w.slots-is (settled-empty old cur at none c.loop-at.invariant)
    ]
