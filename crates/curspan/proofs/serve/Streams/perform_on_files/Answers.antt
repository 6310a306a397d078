-- `perform_on_files`: where the script was opened, the log is as it was made.
use Rattle.curspan.specs.{inr}
use Rattle.curspan.proofs.serve.Streams.perform_on_files.Goals as goal

pub returns-in-Ok-open_script : goal.returns-in-Ok-open_script
returns-in-Ok-open_script g c =
    let same = c.in-Ok-open_script.ensures.0 in
    inr (
      g.L.Sink.seen c.open_log.new.log,
      c.in-Ok.ensures,
      inr (g.R.Source.seen c.open_script.new.input, c.in-Ok-open_script.ensures.1, rw same at c.perform.ensures.done, rw same at c.perform.ensures.log),
    )
