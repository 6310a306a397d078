-- `close_log`: what the flush of a log leaves of it (`ScriptLemmas`).
use Rattle.desk.specs.{ap, refl, sym, read_failed, write_fault}
use Rattle.desk.proofs.ScriptLemmas.{closes_after_fault, closes_failed, closes_flushed, closes_unflushed, no_fault}
use Rattle.desk.proofs.run_script.close_log.Goals as goal

pub returns-then-log_failed-clause-closes : goal.returns-then-log_failed-clause-closes
returns-then-log_failed-clause-closes g c = closes_failed _ _ c.if-log_failed.ensures

pub returns-in-Ok-clause-closes : goal.returns-in-Ok-clause-closes
returns-in-Ok-clause-closes g c =
    closes_flushed _ _ _ c.if-log_failed.ensures (record {
      kept = c.in-Ok.ensures.bytes;
      no_failure = c.in-Ok.ensures.failures;
      flushes = c.in-Ok.ensures.flushes;
      flushed = c.in-Ok.ensures.flushed;
    })

pub returns-in-Err : goal.returns-in-Err
returns-in-Err g c =
    let none = no_fault _ (sym c.if-is_none.ensures) in
    rw c.script_end.ensures (record {
      closes = closes_unflushed _ _ _ none (record { kept = c.in-Err.ensures.bytes; failure = c.in-Err.ensures.failures; flushes = c.in-Err.ensures.flushes });
      refused = refl;
      reading = sym (ap read_failed none);
      writer = sym (ap write_fault none);
    })

pub returns-in-Err-2-clause-closes : goal.returns-in-Err-2-clause-closes
returns-in-Err-2-clause-closes g c =
    closes_after_fault _ _ _ c.if-log_failed.ensures c.if-is_none.ensures
    (record { kept = c.in-Err-2.ensures.bytes; failure = c.in-Err-2.ensures.failures; flushes = c.in-Err-2.ensures.flushes })
