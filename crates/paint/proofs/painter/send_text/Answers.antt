-- `send_text`: what a text that was sent means for a painter (`SentTexts`).
use Rattle.paint.specs.{arith, err_from_is_err_and}
use Rattle.paint.proofs.SentTexts.{updated, broken_flush, broken_text}
use Rattle.paint.proofs.painter.send_text.Goals as goal

pub returns-in_err-sent-clause-text : goal.returns-in_err-sent-clause-text
returns-in_err-sent-clause-text g c = λ painter clear wanted start holds.
    let fault = err_from_is_err_and c.from_residual.result c.from_residual.ensures.1 in
    rw (fault.1, fault.2) (broken_text holds.is_text (c.in_err-sent.ensures.sends start holds.text holds.gathered (omega (arith, holds.few))) (c.in_err-sent.ensures.few start holds.text holds.gathered))

pub returns-in-Ok-clause-text : goal.returns-in-Ok-clause-text
returns-in-Ok-clause-text g c = λ painter clear wanted start holds.
    updated holds.is_text (c.in_ok-sent.ensures.sends start holds.text holds.gathered (omega (arith, holds.few))) (c.in_ok-sent.ensures.few start holds.text holds.gathered) c.in-Ok.ensures.bytes
    c.in-Ok.ensures.failures c.in-Ok.ensures.writes c.in-Ok.ensures.flushes c.in-Ok.ensures.flushed

pub returns-in-Err-clause-text : goal.returns-in-Err-clause-text
returns-in-Err-clause-text g c = λ painter clear wanted start holds.
    broken_flush holds.is_text (c.in_ok-sent.ensures.sends start holds.text holds.gathered (omega (arith, holds.few))) (c.in_ok-sent.ensures.few start holds.text holds.gathered) c.in-Err.ensures.bytes
    c.in-Err.ensures.failures c.in-Err.ensures.writes c.in-Err.ensures.flushes
