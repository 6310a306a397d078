use Rattle.std.proofs.Common.{Some, sym, ap, ◌∙◌}
use Rattle.capi.proofs.key_handle.KeyHandle.delay.Goals as goal

pub returns-in-Some-clause-delayed : goal.returns-in-Some-clause-delayed
returns-in-Some-clause-delayed c =
    let was = c.in-Some.ensures.lifted ∙ ap Some (sym c.deref_mut.ensures.value) in let delay = c.delay.ensures in
    rw was (record {
      key = c.delay.result;
      is = delay.keys;
      taken_is = c.of-answer.ensures.taken;
      now = c.put_back.ensures ∙ ap Some delay.after;
    })
