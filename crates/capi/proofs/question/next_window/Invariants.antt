use Rattle.std.proofs.Common.{◌≡◌, ℕ, ◌<◌, false}
use Rattle.compose.specs.Desks.{world}
use Rattle.capi.specs.Questions.{is_window}
use Rattle.capi.proofs.question.next_window.Given as goal

-- none of those that were looked at is there
abbrev pub invariant-loop-n : goal.invariant-loop-n
invariant-loop-n l = (m : ℕ) → l.fn.after.0 < m → m < l.n → is_window (world l.desk) m ≡ false
