use Rattle.std.proofs.Common.{◌≡◌, ℕ, ◌<◌, false}
use Rattle.compose.specs.Desks.{world}
use Rattle.capi.specs.Questions.{is_panel}
use Rattle.capi.proofs.question.next_panel.Given as goal

-- none of those that were looked at is there
abbrev pub invariant-loop-n : goal.invariant-loop-n
invariant-loop-n l = (m : ℕ) → l.fn.after.0 < m → m < l.n → is_panel (world l.desk) m ≡ false
