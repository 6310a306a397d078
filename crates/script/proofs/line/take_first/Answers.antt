-- Where a line goes on after its first argument, the pieces of the rest are those that are left.
use Rattle.script.specs.{refl, pieces_of}
use Rattle.script.proofs.line.take_first.Goals as goal

pub returns-else-take : goal.returns-else-take
returns-else-take c =
    let split = c.next_argument in
    record {
      takes = (split.result.0.now, pieces_of split.result.1, record { first = split.ensures.argument }, c.if-take.ensures.wrong refl);
      count = c.take.ensures.count;
      short = tt;
    }
