-- The bytes before the newline are the line, up to the greatest length.
use Rattle.script.specs.{arith, rules, nat_tests}
use Rattle.script.proofs.ByteLemmas.{gathered_failed, gathered_last, gathered_line, gathered_more, gathered_moved, gathered_none, gathered_too_long, more_read, none_read, reads_moved}
use Rattle.script.proofs.bytes.Bytes.gather_line.Goals as goal

pub loop-byte-init : goal.loop-byte-init
loop-byte-init g c = grind (arith, gathered_none, none_read)

pub returns-then-byte-eq10-clause-line : goal.returns-then-byte-eq10-clause-line
returns-then-byte-eq10-clause-line g c =
    gathered_line _ _ _ _ _ _ _ _ (gathered_moved _ _ _ _ _ _ _ c.loop-byte.invariant.gathered c.move_into.ensures) c.in-Byte.ensures.byte c.if-byte-eq10.true c.move_into.ensures.short

pub returns-then-is_full-clause-line : goal.returns-then-is_full-clause-line
returns-then-is_full-clause-line g c =
    gathered_too_long _ _ _ _ _ _ _ _ (gathered_moved _ _ _ _ _ _ _ c.loop-byte.invariant.gathered c.move_into.ensures) c.in-Byte.ensures.byte (grind (arith, nat_tests)) (grind (arith, nat_tests))

pub loop-byte-preserved : goal.loop-byte-preserved
loop-byte-preserved g c = record {
  gathered = gathered_more _ _ _ _ _ _ _ _ _ (gathered_moved _ _ _ _ _ _ _ c.loop-byte.invariant.gathered c.move_into.ensures) c.in-Byte.ensures.byte (grind (arith, nat_tests)) c.push.ensures.items;
  short = grind (arith, nat_tests);
  reads_on = more_read _ _ _ _ _ _ (reads_moved _ _ _ _ _ _ _ c.loop-byte.invariant.reads_on c.move_into.ensures) (grind arith);
}

pub returns-in-End-clause-line : goal.returns-in-End-clause-line
returns-in-End-clause-line g c = gathered_last _ _ _ _ _ _ _ (gathered_moved _ _ _ _ _ _ _ c.loop-byte.invariant.gathered c.move_into.ensures) c.in-End.ensures.byte c.move_into.ensures.short

pub returns-in-Failed-clause-line : goal.returns-in-Failed-clause-line
returns-in-Failed-clause-line g c = gathered_failed _ _ _ _ _ _ _ (gathered_moved _ _ _ _ _ _ _ c.loop-byte.invariant.gathered c.move_into.ensures) c.in-Failed.ensures.byte c.move_into.ensures.short

-- what the kit tries by itself takes seconds at these, which `search` finds at once
pub returns-in-End-clause-ends : goal.returns-in-End-clause-ends
returns-in-End-clause-ends c = search rules

pub returns-in-Failed-clause-ends : goal.returns-in-Failed-clause-ends
returns-in-Failed-clause-ends c = search rules
