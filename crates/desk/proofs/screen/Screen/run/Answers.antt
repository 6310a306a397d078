-- `run`: what a terminal shows after a run of calls (`ShowingLemmas`).
use Rattle.desk.proofs.ShowingLemmas.{run-keeps_size, run-shows}
use Rattle.desk.proofs.StateLemmas.{of-screen}
use Rattle.desk.proofs.screen.Screen.run.Goals as goal

pub returns-clause-shown : goal.returns-clause-shown
returns-clause-shown g c =
    run-shows g.W.Sink.seen c.args.self.now c.run_calls-end.new.self c.args.calls.now c.run_calls-end.result (of-screen c.self.view_is c.self.invariant).0 c.run_calls-end.ensures.run

pub returns-clause-sound : goal.returns-clause-sound
returns-clause-sound g c = (of-screen c.self-2.view_is c.self-2.invariant).1

pub returns-clause-size : goal.returns-clause-size
returns-clause-size g c =
    run-keeps_size g.W.Sink.seen c.args.self.now c.run_calls-end.new.self c.args.calls.now c.run_calls-end.result (of-screen c.self.view_is c.self.invariant).0 c.run_calls-end.ensures.run
