-- `paint`: what it does on the screen that it makes.
use Rattle.curspan.specs.{inr}
use Rattle.curspan.proofs.serve.Streams.paint.Goals as goal

pub returns-clause-painted : goal.returns-clause-painted
returns-clause-painted g c =
    let painted = c.paint_screen-status.ensures.painted in
    inr (record {
      last = painted.last;
      end = painted.end;
      log_after = painted.log_after;
      script = record {
        first = c.in-Ok.screen;
        blank = c.in-Ok.ensures.world;
        unpainted = c.in-Ok.ensures.painter;
        over = c.in-Ok.ensures.writer;
        runs = painted.runs;
      };
      prints = painted.prints;
    })
