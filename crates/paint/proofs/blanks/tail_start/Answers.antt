-- `tail_start`: cells that are looked at together are blank after the last that isn't.
use Rattle.std.specs.Prelude.{◌≡◌, ◌+◌, ◌-◌, ◌<◌, ◌≤◌}
use Rattle.paint.specs.{ℕ, zero, suc, ◌∙◌, List, drop, get_or, inl, inr, refl, sym, ap, arith, replicate, cases_lt, get_or-drop, Shown, shown_blank, cells_between}
use Rattle.paint.proofs.CellRuns.{part-of}
use Rattle.paint.proofs.blanks.tail_start.Goals as goal

blank-cells : (n j : ℕ) → get_or (replicate n shown_blank) j shown_blank ≡ shown_blank
blank-cells zero j = refl
blank-cells (suc n) zero = refl
blank-cells (suc n) (suc j) = blank-cells n j

-- a cell of a part whose cells are blank, or are from one of them on
blank-part : (n start end x : ℕ) (line : List Shown) → cells_between start end line ≡ replicate n shown_blank → start ≤ x → x < end → get_or line x shown_blank ≡ shown_blank
blank-part n start end x line e from to =
    let split : start + (x - start) ≡ x = omega (arith, from) in
    ap (λ k. get_or line k shown_blank) (sym split) ∙ sym (part-of start end (x - start) line (omega (arith, from, to)))
    ∙ ap (λ (l : List Shown). get_or l (x - start) shown_blank) e ∙ blank-cells n (x - start)

blank-later : (n start end k x : ℕ) (line : List Shown) → drop (k + 1) (cells_between start end line) ≡ drop (k + 1) (replicate n shown_blank) → start + k < x → x < end
    → get_or line x shown_blank ≡ shown_blank
blank-later n start end k x line e from to =
    let j = x - (start + k + 1) in
    let split : start + (k + 1 + j) ≡ x = omega (arith, from) in
    ap (λ k. get_or line k shown_blank) (sym split) ∙ sym (part-of start end (k + 1 + j) line (omega (arith, from, to)))
    ∙ sym (get_or-drop (k + 1) (cells_between start end line) j shown_blank) ∙ ap (λ (l : List Shown). get_or l j shown_blank) e
    ∙ get_or-drop (k + 1) (replicate n shown_blank) j shown_blank ∙ blank-cells n (k + 1 + j)

pub loop-start-preserved : goal.loop-start-preserved
loop-start-preserved c =
    let none = rw c.in_default.is at c.last_diff.ensures in
    record {
      within = omega (arith, c.loop-start.invariant.within);
      blank = λ x from. elim (cases_lt x c.loop-start.start) [
        | inl early ↦ blank-part 16 (c.loop-start.start - 16) c.loop-start.start x c.args.line.now none from early
        | inr late ↦ c.loop-start.invariant.blank x late
      ];
    }

pub returns-in-Some-clause-blank : goal.returns-in-Some-clause-blank
returns-in-Some-clause-blank c =
    let some = rw c.in-Some.is at c.last_diff.ensures in
    λ x from. elim (cases_lt x c.loop-start.start) [
      | inl early ↦ blank-later 16 (c.loop-start.start - 16) c.loop-start.start c.in-Some.last x c.args.line.now some.1 (omega (arith, from)) early
      | inr late ↦ c.loop-start.invariant.blank x late
    ]
