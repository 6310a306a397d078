use Rattle.std.proofs.Common.{Some, sym, ap, ◌∙◌}
use Rattle.capi.proofs.handle.Handle.invalidate.Goals as goal

pub returns-in-Some : goal.returns-in-Some
returns-in-Some c = let forgotten = c.invalidate-answer.ensures in
    rw (c.in-Some.ensures.lifted ∙ ap Some (sym c.deref_mut.ensures.value))
    (c.invalidate-answer.new.self, record { desk = forgotten.desk; writer = forgotten.writer; painter = forgotten.painter }, c.put_back.ensures)
