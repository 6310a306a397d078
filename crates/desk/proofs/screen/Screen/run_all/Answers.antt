-- `run_all`: what terminals show after a history (`HistoryLemmas`).
use Rattle.desk.proofs.HistoryLemmas.{all-shown, history-ends, history-keeps_size}
use Rattle.desk.proofs.StateLemmas.{of-screen}
use Rattle.desk.proofs.screen.Screen.run_all.Goals as goal

pub returns-clause-history : goal.returns-clause-history
returns-clause-history g c = history-ends g.W.Sink.seen g.W.Sink.name c.make_all-end.ensures.run

pub returns-clause-shown : goal.returns-clause-shown
returns-clause-shown g c = all-shown g.W.Sink.seen g.W.Sink.name c.make_all-end.ensures.run

pub returns-clause-sound : goal.returns-clause-sound
returns-clause-sound g c = (of-screen c.self-2.view_is c.self-2.invariant).1

pub returns-clause-size : goal.returns-clause-size
returns-clause-size g c = history-keeps_size g.W.Sink.seen g.W.Sink.name c.make_all-end.ensures.run
