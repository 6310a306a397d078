-- `run_script`: a script is run a line at a time (`ScriptLemmas`), and then its log is closed.
use Rattle.desk.proofs.ScriptLemmas.{lines_keep_size, script_ends}
use Rattle.desk.proofs.StateLemmas.{of-screen}
use Rattle.desk.proofs.screen.Screen.run_script.Goals as goal

pub returns-clause-script : goal.returns-clause-script
returns-clause-script g c =
    script_ends g.W.Sink.seen (of-screen c.self.view_is c.self.invariant).0 c.run_lines-end.ensures.lines c.close_log.ensures.closes c.close_log.ensures.refused c.close_log.ensures.writer

pub returns-clause-reading : goal.returns-clause-reading
returns-clause-reading g c = rw c.close_log.ensures.reading c.run_lines-end.ensures.reading

pub returns-clause-writer : goal.returns-clause-writer
returns-clause-writer g c = rw c.close_log.ensures.writer c.run_lines-end.ensures.writer

pub returns-clause-sound : goal.returns-clause-sound
returns-clause-sound g c = (of-screen c.self-2.view_is c.self-2.invariant).1

pub returns-clause-size : goal.returns-clause-size
returns-clause-size g c = lines_keep_size g.W.Sink.seen (of-screen c.self.view_is c.self.invariant).0 c.run_lines-end.ensures.lines
