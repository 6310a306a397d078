-- Each round composes the damaged columns of one line more; the others were those of the picture before.
use Rattle.std.specs.Prelude.{◌≡◌, ◌+◌, ◌<◌, ◌≤◌, ◌==◌, ◌&&◌, if◌then◌else◌}
use Rattle.picture.specs.{rules, ℕ, suc, true, nat_le, nat_lt, None, Some, refl, subst, ap, sym, ◌∙◌, arith, add_assoc, shown_at, Shown, shown, found_from_top, holds, standard_screen}
use Rattle.picture.specs.{AreColumnsWithin, Windows, panels, AddsChanges, columns_of, cells_above, cells_of_line, HasPanelWindows, KnowsOwners, AreEnds, is_among, mod-add-mod}
use Rattle.cell.proofs.PictureLemmas.{length-line}
use Rattle.extents.proofs.Changing.{changes-more, changes-none}
use Rattle.picture.proofs.DamageLaws.{ends-more, ends-same}
use Rattle.picture.proofs.Composing.{ComposedAbove, composed-bare, composed-more, composed-none, composed-to, fits-more, no-more-to}
use Rattle.picture.proofs.Lines.{shown-all}
use Rattle.picture.proofs.Standard.{sound-windows, standard-holds}
use Rattle.picture.proofs.repair.show_damaged.Goals.{in-Some, in_default, then-changed, else-changed}
use Rattle.picture.proofs.repair.show_damaged.Goals as goal

pub compose_columns-changed-requires : goal.compose_columns-changed-requires
compose_columns-changed-requires g c κs =
    let old = g.R.Rows.windows c.args.rows.now in
    let ps = panels c.args.stack.now in
    let y = c.loop-y.y in
    let h = c.loop-y.invariant in
    let back = sym h.windows in
    let test = c.loop-y-test.true in
    let all = c.requires.lines in
    let below : y < old.lines = omega (arith, test, all) in
    let size = h.composed.above.size in
    let height = size.height in
    let wide = length-line y size below in
    let line : columns_of c.args.damage.now y ≡ Some c.in-Some.field-0 = sym (h.composed.left y (omega arith)) ∙ sym c.line.ensures ∙ c.in-Some.is in
    let within : AreColumnsWithin old.columns (Some c.in-Some.field-0) = subst (AreColumnsWithin old.columns) line (c.requires.repairable.within y) in
    let ordered = within.0 in
    let last = within.1 in (
      (refl, record {}),
      (
        λ u from upto. subst (λ (ws : Windows). holds ws.window standard_screen y u ≡ true) back (standard-holds old y u c.requires.repairable.windows below (omega (arith, upto, last))),
        (
          subst (λ (ws : Windows). HasPanelWindows ws.window ps) back (sound-windows old.window ps c.requires.repairable.panels),
          (ordered, (omega (arith, height, below), (omega (arith, wide, last), subst (λ (ws : Windows). KnowsOwners ws.window ps c.loop-y.owners) back h.known))),
        ),
      ),
    )

pub overflow_add-cells-in-Some : goal.overflow_add-cells-in-Some
overflow_add-cells-in-Some g c = grind (arith, fits-more)

pub loop-y-init : goal.loop-y-init
loop-y-init g c =
    let old = g.R.Rows.windows c.args.rows.now in
    let before = c.args.damage.now in
    let f : ℕ → ℕ → Shown = λ v u. shown c.args.pairs.now (found_from_top old.window (panels c.args.stack.now) v u) in
    let none : (v : ℕ) → 0 ≤ v → v < c.next-y.result → columns_of before v ≡ None = λ v from upto. c.next-y.ensures.none v from upto in
    let height = c.requires.repairable.height in
    let inside = c.next-y.ensures.inside (omega arith) in
    record {
      windows = refl;
      known = c.start_over.ensures old.window (panels c.args.stack.now);
      read = sym (no-more-to before 0 c.next-y.result (omega arith) none);
      changes = changes-none c.args.changes.now c.args.picture.now;
      few = λ v. ends-same old.columns (columns_of c.args.changes.now v) (is_among before v);
      count = search rules;
      composed = composed-to f old.lines old.columns before c.args.picture.now c.requires.repairable.covered 0 c.next-y.result before c.args.picture.now
          (composed-none f old.lines old.columns before c.args.picture.now c.requires.repairable.covered c.requires.repairable.height c.requires.repairable.size)
          (omega arith) (omega (arith, inside, height)) none;
      inside = omega (arith, inside, height);
    }

pub loop-y-preserved : goal.loop-y-preserved
loop-y-preserved g c =
    let old = g.R.Rows.windows c.args.rows.now in
    let ps = panels c.args.stack.now in
    let y = c.loop-y.y in
    let h = c.loop-y.invariant in
    let test = c.loop-y-test.true in
    let all = c.requires.lines in
    let below : y < old.lines = omega (arith, test, all) in
    let f : ℕ → ℕ → Shown = λ v u. shown c.args.pairs.now (found_from_top old.window ps v u) in
    let before = c.args.damage.now in
    let more : cells_above before (y + 1) ≡ cells_above before y + cells_of_line (columns_of before y) = let e : y + 1 ≡ suc y = omega arith in ap (cells_above before) e in
    let composed : ComposedAbove f old.lines old.columns before c.args.picture.now (y + 1) c.match-line.damage c.match-line.picture = elim c.match-line.branch [
      | in-Some s ↦
          let r = s.in-Some.field-0 in
          rw (s.damage-is, s.picture-is, s.clear_line.ensures)
          (composed-more f old.lines old.columns before c.args.picture.now c.requires.repairable.covered y r c.loop-y.damage c.loop-y.picture s.compose_columns-changed.new.picture h.composed below
          (sym c.line.ensures ∙ s.in-Some.is)
          (λ v u. s.compose_columns-changed.ensures.shown v u
          ∙ ap (λ (ws : Windows). if (v == y) && (nat_le r.first u && nat_lt u (r.last + 1)) then shown c.args.pairs.now (found_from_top ws.window ps y u) else shown_at c.loop-y.picture (v, u))
          h.windows)
          (s.compose_columns-changed.ensures.size old.lines old.columns h.composed.above.size))
      | in_default s ↦ rw (s.damage-is, s.picture-is)
          (composed-bare f old.lines old.columns before c.args.picture.now c.requires.repairable.covered y c.loop-y.damage c.loop-y.picture h.composed below (sym c.line.ensures ∙ s.in_default.is))
    ] in
    let known : KnowsOwners old.window ps c.match-line.owners = elim c.match-line.branch [
      | in-Some s ↦ rw s.owners-is (subst (λ (ws : Windows). KnowsOwners ws.window ps s.compose_columns-changed.new.owners) h.windows s.compose_columns-changed.ensures.known)
      | in_default s ↦ rw s.owners-is h.known
    ] in
    let changes : AddsChanges c.args.changes.now c.args.picture.now c.match-line.changes c.match-line.picture = elim c.match-line.branch [
      | in-Some s ↦
          let r = s.in-Some.field-0 in
          rw (s.changes-is, s.picture-is)
          (elim s.if-changed.branch [
            | then-changed t ↦ rw (t.changes-is, t.widen.ensures)
                (changes-more c.args.changes.now c.args.picture.now c.loop-y.changes c.loop-y.picture s.compose_columns-changed.new.picture y r.first (r.last + 1)
                (λ u. shown c.args.pairs.now (found_from_top (g.R.Rows.windows c.loop-y.rows).window ps y u)) h.changes (let same = h.changes.height in omega (arith, same, c.requires.height, below)) s.compose_columns-changed.ensures.shown r.last refl)
            | else-changed t ↦ rw (t.changes-is, s.compose_columns-changed.ensures.kept t.if-changed.false) h.changes
          ])
      | in_default s ↦ rw (s.changes-is, s.picture-is) h.changes
    ] in
    let few : (v : ℕ) → AreEnds old.columns (columns_of c.args.changes.now v) (is_among before v) (columns_of c.match-line.changes v) = elim c.match-line.branch [
      | in-Some s ↦
          let r = s.in-Some.field-0 in
          let some = sym (h.composed.left y (omega arith)) ∙ sym c.line.ensures ∙ s.in-Some.is in
          let within : AreColumnsWithin old.columns (Some r) = subst (AreColumnsWithin old.columns) some (c.requires.repairable.within y) in
          rw s.changes-is
          (elim s.if-changed.branch [
            | then-changed t ↦ rw (t.changes-is, t.widen.ensures)
                (ends-more old.columns before c.args.changes.now c.loop-y.changes y r h.few some (let same = h.changes.height in omega (arith, same, c.requires.height, below)) within.0 within.1)
            | else-changed t ↦ rw t.changes-is h.few
          ])
      | in_default s ↦ rw s.changes-is h.few
    ] in
    let next = c.next-y-in-loop-y.result in
    let from : y + 1 ≤ next = c.next-y-in-loop-y.ensures.from in
    let none : (v : ℕ) → y + 1 ≤ v → v < next → columns_of c.match-line.damage v ≡ None = λ v a b. c.next-y-in-loop-y.ensures.none v a b in
    let height = composed.height in
    let inside = c.next-y-in-loop-y.ensures.inside (omega (arith, below, height)) in
    let skipped : cells_above before next ≡ cells_above before (y + 1) = no-more-to before (y + 1) next from (λ v a b. sym (composed.left v a) ∙ none v a b) in
    record {
      windows = grind arith;
      known = known;
      read = grind arith;
      changes = changes;
      few = few;
      count = grind (arith, mod-add-mod, add_assoc);
      composed = grind (arith, composed-to);
      inside = omega (arith, inside, height);
    }

pub returns-clause-shown : goal.returns-clause-shown
returns-clause-shown g c =
    let old = g.R.Rows.windows c.args.rows.now in
    let end = c.loop-y-test.false in
    let all = c.requires.lines in
    shown-all (λ v u. shown c.args.pairs.now (found_from_top old.window (panels c.args.stack.now) v u)) old.lines old.columns c.loop-y.y c.loop-y.picture
    (omega (arith, end, all)) c.loop-y.invariant.composed.above
