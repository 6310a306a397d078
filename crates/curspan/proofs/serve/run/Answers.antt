-- `run`: lemmas of std alone.
use Rattle.curspan.specs.{None, ap, inr, rules, sym, ◌∙◌, PainterState, world, ScreenOver}
use Rattle.curspan.proofs.serve.run.Goals as goal

pub returns-clause-ran : goal.returns-clause-ran
returns-clause-ran g c =
    let is = c.with_writer-screen.ensures in
    inr (record {
      last = c.run_script-end.new.screen;
      end = c.run_script-end.result;
      script = record {
        first = c.with_writer-screen.result;
        blank = ap (λ (s : ScreenOver _). world s.desk) is ∙ c.in-Ok.ensures.world;
        unpainted = ap (λ (s : ScreenOver _). s.painter) is ∙ ap (λ (p : PainterState). let new : PainterState = record p { last = None } in new) c.in-Ok.ensures.painter;
        over = ap (λ (s : ScreenOver _). g.O.Sink.seen s.writer.now) is;
        runs = c.run_script-end.ensures.ran;
      };
      output = rw (sym c.into_writer.ensures) (search rules);
      shut = rw (sym c.into_writer.ensures) (search rules);
      status_is = c.status_of.ensures.status;
    })
