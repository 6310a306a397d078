-- `send_on`: a text that is gathered, appended to, and passed on (`Gathering`).
use Rattle.paint.proofs.Gathering.{goes_out-failed, goes_out-faulted}
use Rattle.paint.proofs.outbox.send_on.Goals as goal

pub returns-then-failed-clause-goes_out : goal.returns-then-failed-clause-goes_out
returns-then-failed-clause-goes_out g c = λ start text h. goes_out-failed start _ _ text (rw c.if-failed.true at h)

pub returns-in-Err-clause-goes_out : goal.returns-in-Err-clause-goes_out
returns-in-Err-clause-goes_out g c = λ start text h.
    goes_out-faulted start _ _ _ _ _ _ text (rw c.if-failed.false at h) c.in-Err.ensures.sends c.saturating_add-in-Err.ensures
