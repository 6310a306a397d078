use Rattle.checks.specs.{length}
use Rattle.checks.proofs.findings.+append_calls.Given as goal

abbrev pub decreases-append_calls : goal.decreases-append_calls
decreases-append_calls l = length l.words.now
