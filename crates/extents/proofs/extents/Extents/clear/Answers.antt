-- `clear`: line by line of the set.
use Rattle.std.proofs.Common.{◌≡◌, ◌+◌, ◌<◌, ℕ, true, false, Option, None, is_some, List, length, length-set, ap, sym, subst, inl, inr, ◌∙◌, arith}
use Rattle.std.proofs.lemmas.Bool.{cases_lt}
use Rattle.std.proofs.lemmas.List.{get_or_past}
use Rattle.small_set.specs.Sets.{IsNext}
use Rattle.extents.proofs.Lines.{cleared-more, looked-at, none-left, none-next}
use Rattle.world.specs.declared.settings.Columns.{Columns}
use Rattle.extents.proofs.extents.Extents.clear.Goals as goal

pub loop-next-preserved : goal.loop-next-preserved
loop-next-preserved c =
    let h = c.loop-next.invariant in
    let lines = c.self.inside.some in
    let items = c.loop-next.self-inside.lines.items in
    let y = c.in-Some.y in
    let here = looked-at lines items c.loop-next.next y c.in-Some.is h.cleared in
    let below : y < length items = elim (cases_lt y (length items)) [
      | inl inside ↦ inside
      | inr past ↦ let never : false ≡ true =
          sym (ap (λ (o : Option Columns). is_some o) (get_or_past c.self.inside.lines.items y None (omega (arith, past, h.height)))) ∙ sym (c.self.invariant.lines y) ∙ here.rest.0 in cc
    ] in
    let found = subst (λ (s : List ℕ). IsNext s (y + 1) c.next-next-in-Some.result) h.same c.next-next-in-Some.ensures in
    record {
      height = length-set items c.from.result None ∙ h.height;
      same = h.same;
      cleared = rw c.from.ensures (cleared-more lines items y below here c.next-next-in-Some.result found);
    }

pub returns : goal.returns
returns c =
    let h = c.loop-next.invariant in
    rw (← c.self.view_is) (none-left _ _ h.height (none-next c.self.inside.some c.loop-next.self-inside.lines.items c.loop-next.next c.in_default.is h.cleared))
