-- All numbers that a panel can have were looked at.
use Rattle.std.proofs.Common.{arith}
use Rattle.cell.specs.declared.limits.TheConstants.{MOST_PANELS}
use Rattle.compose.specs.Desks.{world}
use Rattle.capi.specs.Questions.{is_panel}
use Rattle.capi.proofs.Numbers.{no-panel, none-after}
use Rattle.capi.proofs.question.next_panel.Goals as goal

pub returns : goal.returns
returns c =
    let w = world c.args.desk.now in let n = c.loop-n.n in
    none-after (is_panel w) MOST_PANELS n c.args.after.0 (omega arith) c.loop-n.invariant (no-panel w.windows.window w.panels c.size-sound.ensures.sound.panels)
