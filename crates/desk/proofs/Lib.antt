-- What calls do to the writer of a screen; for `call`, `doupdate`
pub mod WriterLemmas
-- States with more lines damaged: the outcomes that calls may have in one, they may have in the other; for `AnswerLemmas`, `MakesLemmas`,
-- `RunLemmas` and others
pub mod StateLemmas
-- No call of a run sends more than its bound; for `MakesLemmas`
pub mod Shortness
-- How many cells a run reads; for `MakesLemmas`
pub mod ReadLemmas
-- Calls that were made, and what they leave: none, one, and one list after another; for `LineEndLemmas`, `RunLemmas`, `ScriptLemmas` and others
pub mod MakesLemmas
-- A run goes on by one call; for `run_calls`
pub mod RunLemmas
-- What a terminal shows after a run of calls; for `call`, `doupdate`, `run`
pub mod ShowingLemmas
-- Histories: what terminals show after one, and how one goes on by a call; for `run_all`, `make_all`
pub mod HistoryLemmas
-- How a line of a script ends; for `run_line`
pub mod LineEndLemmas
-- A script is run a line at a time; for `run_lines`, `run_script`, `close_log`
pub mod ScriptLemmas
