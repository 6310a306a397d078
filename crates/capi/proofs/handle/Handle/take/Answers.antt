use Rattle.std.proofs.Common.{Some, sym, ap, ◌∙◌}
use Rattle.capi.proofs.handle.Handle.take.Goals as goal

pub returns-in-Some : goal.returns-in-Some
returns-in-Some c = let taken = c.take-answer.ensures in
    rw (c.in-Some.ensures.lifted ∙ ap Some (sym c.deref_mut.ensures.value))
    (c.take-answer.new.self, record { desk = taken.desk; painter = taken.painter; all = taken.length; moved = taken.moved; kept = taken.kept }, c.put_back.ensures)
