use Rattle.script.specs.{work_left}
use Rattle.script.proofs.ByteLemmas.{Passed, ReadsOn}
use Rattle.script.proofs.bytes.Lines.next_whole_line.Given as goal

abbrev pub invariant-loop-end : goal.invariant-loop-end
invariant-loop-end g l =
    let seen = g.R.Source.seen in
    record {
      passed : Passed (seen l.fn.source) (seen l.source) l.fn.self.unused l.self.unused l.is_kept;
      reads_on : ReadsOn (seen l.fn.source) (seen l.source) l.fn.self.unused l.self.unused;
    }

abbrev pub decreases-loop-end : goal.decreases-loop-end
decreases-loop-end g l = work_left (g.R.Source.seen l.source) l.self.unused
