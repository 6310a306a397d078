use Rattle.std.proofs.Common.{Some, sym, ap, ◌∙◌}
use Rattle.capi.proofs.key_handle.KeyHandle.bytes.Goals as goal

pub returns-in-Some-clause-fed : goal.returns-in-Some-clause-fed
returns-in-Some-clause-fed c = let bytes = c.bytes.ensures in
    rw (c.in-Some.ensures.lifted ∙ ap Some (sym c.deref_mut.ensures.value)) (record {
      progress = c.bytes.result;
      after = c.bytes.new.self;
      now = c.put_back.ensures;
      fed_is = c.of-answer.ensures.fed;
      used = bytes.used;
      all = bytes.all;
      in_order = bytes.in_order;
      asked = bytes.asked;
      read = bytes.read;
    })
