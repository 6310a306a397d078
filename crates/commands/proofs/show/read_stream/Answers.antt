-- `read_stream`: a stream is read into a terminal piece by piece (`FeedingLemmas`).
use Rattle.commands.specs.{arith}
use Rattle.commands.proofs.FeedingLemmas.{more_fed, not_ended, not_past}
use Rattle.commands.proofs.show.read_stream.Goals as goal

pub loop-count-preserved : goal.loop-count-preserved
loop-count-preserved g c = grind (arith, more_fed, not_ended, not_past)
