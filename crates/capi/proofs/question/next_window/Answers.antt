-- All numbers that a window can have were looked at.
use Rattle.std.proofs.Common.{arith}
use Rattle.cell.specs.declared.limits.TheConstants.{MOST_WINDOWS}
use Rattle.compose.specs.Desks.{world}
use Rattle.capi.specs.Questions.{is_window}
use Rattle.capi.proofs.Numbers.{no-window, none-after}
use Rattle.capi.proofs.question.next_window.Goals as goal

pub returns : goal.returns
returns c =
    let w = world c.args.desk.now in let n = c.loop-n.n in
    none-after (is_window w) MOST_WINDOWS n c.args.after.0 (omega arith) c.loop-n.invariant (no-window w.windows c.size-sound.ensures.sound.windows)
