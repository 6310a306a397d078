-- `run_word`: how a line that makes a call ends (`LineEndLemmas`).
use Rattle.std.specs.Prelude.{◌≡◌}
use Rattle.desk.specs.{ℕ, [], None, Some, Ok, Err, Result, append-nil, is_some, refl, subst, sym, Appends, log_line, Log, Refusal, count_after, Reply, cut_of, call_end}
use Rattle.desk.specs.declared.screen.Fault.TheVariants.{Write}
use Rattle.desk.proofs.LineEndLemmas.{line_is_cut, line_of_call, placeless_ends}
use Rattle.desk.proofs.screen.Screen.run_word.Goals as goal

pub returns-in-Ok-log_answer-clause-line : goal.returns-in-Ok-log_answer-clause-line
returns-in-Ok-log_answer-clause-line g c =
    rw c.script_end.ensures (line_of_call g.W.Sink.seen _ c.in-Ok.answer None refl refl
    (rw c.call.ensures at (placeless_ends g.W.Sink.seen c.args.self.now c.call.result (call_end (Ok c.in-Ok.answer)) c.answer.new.self c.in-Ok.ensures.ends))
    c.is_err-refused.ensures.value (subst (Appends _ _) (sym (append-nil (log_line c.args.number c.in-Ok.answer))) c.in-Ok-log_answer.ensures.ok)
    c.in-Ok-log_answer.ensures.failures c.in-Ok-log_answer.ensures.flushes)

pub returns-in-Err-log_answer-clause-line : goal.returns-in-Err-log_answer-clause-line
returns-in-Err-log_answer-clause-line g c =
    let failed = c.in-Err-log_answer.ensures in
    rw c.script_end-in-Err-log_answer.ensures (line_of_call g.W.Sink.seen _ c.in-Ok.answer (Some Log) refl refl
    (rw c.call.ensures at (placeless_ends g.W.Sink.seen c.args.self.now c.call.result (call_end (Ok c.in-Ok.answer)) c.answer.new.self c.in-Ok.ensures.ends))
    c.is_err-refused.ensures.value
    (record { whole = []; last = log_line c.args.number c.in-Ok.answer; parts = refl; sent = c.in-Err-log_answer.field-0.sent; within = failed.err.0; taken = failed.err.1 })
    failed.failures failed.flushes)

pub returns-in-Err-clause-line : goal.returns-in-Err-clause-line
returns-in-Err-clause-line g c =
    rw c.script_end-in-Err.ensures (line_is_cut g.W.Sink.seen c.args.self.now c.answer.new.self c.args.number (g.L.Sink.seen c.args.log.now) _ _
    (rw c.call.ensures at (placeless_ends g.W.Sink.seen c.args.self.now c.call.result (Err (Write c.in-Err.fault)) c.answer.new.self c.in-Err.ensures.ends)))

-- ---- a call that wasn't cut short has no failed write

uncut : (answer : Result Reply Refusal) (old new : ℕ) → new ≡ count_after (is_some (cut_of (call_end (Ok answer)))) old → new ≡ old
uncut (Ok reply) old new h = h
uncut (Err refusal) old new h = h

pub returns-in-Ok-log_answer-clause-writer : goal.returns-in-Ok-log_answer-clause-writer
returns-in-Ok-log_answer-clause-writer g c = rw c.script_end.ensures (uncut c.in-Ok.answer _ _ c.in-Ok.ensures.failures)

pub returns-in-Err-log_answer-clause-writer : goal.returns-in-Err-log_answer-clause-writer
returns-in-Err-log_answer-clause-writer g c = rw c.script_end-in-Err-log_answer.ensures (uncut c.in-Ok.answer _ _ c.in-Ok.ensures.failures)
