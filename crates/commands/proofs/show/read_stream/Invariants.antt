use Rattle.std.specs.Prelude.{◌≡◌}
use Rattle.commands.specs.{false}
use Rattle.commands.proofs.FeedingLemmas.{IsPartlyFed}
use Rattle.commands.proofs.show.read_stream.Given as goal

abbrev pub invariant-loop-count : goal.invariant-loop-count
invariant-loop-count g l =
    let seen = g.R.Source.seen in
    record {
      fed : IsPartlyFed (seen l.fn.input) (seen l.input) l.fn.terminal l.terminal;
      ended : (seen l.input).met_end ≡ (seen l.fn.input).met_end;
      past : (seen l.fn.input).met_end ≡ false → (seen l.input).read_past_end ≡ (seen l.fn.input).read_past_end;
      failures : (seen l.input).failures ≡ (seen l.fn.input).failures;
    }

abbrev pub decreases-loop-count : goal.decreases-loop-count
decreases-loop-count g l = (g.R.Source.seen l.input).reads_left
