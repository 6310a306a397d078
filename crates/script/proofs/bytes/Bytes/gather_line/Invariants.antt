use Rattle.std.specs.Prelude.{◌≤◌}
use Rattle.script.specs.{length, work_left}
use Rattle.script.specs.declared.limits.TheConstants.{LONGEST_LINE}
use Rattle.script.proofs.ByteLemmas.{Gathered, ReadsOn}
use Rattle.script.proofs.bytes.Bytes.gather_line.Given as goal

abbrev pub invariant-loop-byte : goal.invariant-loop-byte
invariant-loop-byte g l =
    let seen = g.R.Source.seen in
    record {
      gathered : Gathered (seen l.fn.source) (seen l.source) l.fn.self l.self l.line.items;
      short : length l.line.items ≤ LONGEST_LINE;
      reads_on : ReadsOn (seen l.fn.source) (seen l.source) l.fn.self l.self;
    }

abbrev pub decreases-loop-byte : goal.decreases-loop-byte
decreases-loop-byte g l = work_left (g.R.Source.seen l.source) l.self
