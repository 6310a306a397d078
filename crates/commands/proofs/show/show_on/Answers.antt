-- `show_on`: lemmas of std alone.
use Rattle.commands.specs.{false, refl, blank_terminal}
use Rattle.commands.proofs.show.show_on.Goals as goal

pub returns-then-not-read_stream-clause-shown : goal.returns-then-not-read_stream-clause-shown
returns-then-not-read_stream-clause-shown g c = λ job blank. record {
  stream = c.read_stream.ensures.stream;
  is_whole = false;
  reads = rw c.if-not-read_stream.true at c.read_stream.ensures.reads;
  last = blank_terminal job.lines job.cols;
  ends = (c.log_failure.ensures.status, refl, c.log_failure.ensures.logs);
}
