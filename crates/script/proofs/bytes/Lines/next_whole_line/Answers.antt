-- What is left out of a line that is too long is a beginning of it, which has no newline.
use Rattle.script.specs.{arith}
use Rattle.script.proofs.ByteLemmas.{ends_then, more_read, none_read, passed_end, passed_more, passed_none}
use Rattle.script.proofs.bytes.Lines.next_whole_line.Goals as goal

pub loop-end-init : goal.loop-end-init
loop-end-init g c = search (passed_none, none_read)

pub returns-in-Some-clause-line : goal.returns-in-Some-clause-line
returns-in-Some-clause-line g c = passed_end _ _ _ _ _ _ _ _ _ c.loop-end.invariant.passed c.in-Some.ensures.line

pub returns-in-Some-clause-ends : goal.returns-in-Some-clause-ends
returns-in-Some-clause-ends g c = grind (arith, ends_then)

pub loop-end-preserved : goal.loop-end-preserved
loop-end-preserved g c = grind (arith, passed_more, more_read)
