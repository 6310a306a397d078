use Rattle.std.specs.Prelude.{◌≡◌, ◌-◌, ◌<◌, ◌≤◌}
use Rattle.paint.specs.{ℕ, get_or, shown_blank, IsStretch}
use Rattle.paint.proofs.line.stretch.Given as goal

abbrev pub invariant-loop-rendition : goal.invariant-loop-rendition
invariant-loop-rendition l = record {
  cells : IsStretch l.shown l.wanted l.start l.end l.stop;
  ordered : l.stop ≤ l.x;
  within : l.x ≤ l.end;
  alike : (v : ℕ) → l.stop ≤ v → v < l.x → get_or l.shown v shown_blank ≡ get_or l.wanted v shown_blank;
  all : (v : ℕ) → l.stop ≤ v → v < l.x → (get_or l.wanted v shown_blank).rendition ≡ l.rendition;
}

abbrev pub decreases-loop-rendition : goal.decreases-loop-rendition
decreases-loop-rendition l = l.end - l.x
