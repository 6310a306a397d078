-- Cells of one rendition that are printed together: runs, and a few cells between two that are shown already.
use Rattle.std.specs.Prelude.{◌≡◌, ◌+◌, ◌-◌, ◌<◌, ◌≤◌}
use Rattle.paint.specs.{ℕ, ◌∙◌, false, List, length, get_or, drop, inl, inr, arith, cases_lt, same_shown, Rendition, Shown, shown_blank, line_bytes, IsRun, IsStretch}
use Rattle.paint.proofs.CellRuns.{run-short}
use Rattle.paint.proofs.Costs.{left, line_bytes-later, line_bytes-other}

pub run-stretch : {shown wanted : List Shown} {start end stop : ℕ} → length shown ≡ length wanted → end ≤ length wanted → IsRun shown wanted start end stop → IsStretch shown wanted start end stop
run-stretch {shown} {wanted} {start} {end} {stop} same inside h = grind (arith, run-short)

-- what a run costs, with the cells before it
run-pays : (x stop : ℕ) (shown wanted : List Shown) → length shown ≡ length wanted → x < stop → stop ≤ length shown
    → ((v : ℕ) → x ≤ v → v < stop → same_shown (get_or shown v shown_blank) (get_or wanted v shown_blank) ≡ false)
    → stop - x + 6 + line_bytes (drop stop shown) (drop stop wanted) ≤ line_bytes (drop x shown) (drop x wanted)
run-pays x stop shown wanted same some inside differs =
    omega (
      arith,
      some,
      run-short x stop shown wanted same some inside differs,
      left x shown wanted same (omega (arith, some, inside)),
      line_bytes-other (get_or shown x shown_blank) (get_or wanted x shown_blank) (drop (x + 1) shown) (drop (x + 1) wanted) (differs x (omega arith) some),
    )

-- a further run, after a few cells of the rendition
pub stretch-further : {shown wanted : List Shown} {start end stop next later : ℕ} {rendition : Rendition} → length shown ≡ length wanted → end ≤ length wanted
    → IsStretch shown wanted start end stop → rendition ≡ (get_or wanted start shown_blank).rendition → stop ≤ next → next - stop ≤ 6
    → ((v : ℕ) → stop ≤ v → v ≤ next → (get_or wanted v shown_blank).rendition ≡ rendition) → IsRun shown wanted next end later → IsStretch shown wanted start end later
stretch-further {shown} {wanted} {start} {end} {stop} {next} {later} {rendition} same inside h is ordered few all run = record {
  cells = record {
    some = omega (arith, h.cells.some, run.some, ordered);
    within = omega (arith, run.within, inside);
    rendition = λ v from to. elim (cases_lt v stop) [
      | inl early ↦ h.cells.rendition v from early
      | inr late ↦ elim (cases_lt v next) [
        | inl between ↦ all v late (omega (arith, between)) ∙ is
        | inr after ↦ run.rendition v after to ∙ all next ordered (omega arith) ∙ is
      ]
    ];
  };
  within = run.within;
  changed = h.changed;
  short = omega (
    arith,
    h.cells.some,
    run.some,
    h.short,
    ordered,
    few,
    line_bytes-later stop next shown wanted ordered,
    run-pays next later shown wanted same run.some (omega (arith, run.within, inside, same)) run.changed,
  );
}
