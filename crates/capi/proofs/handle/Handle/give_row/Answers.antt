use Rattle.std.proofs.Common.{Some, sym, ap, ◌∙◌}
use Rattle.capi.proofs.handle.Handle.give_row.Goals as goal

pub returns-in-Some : goal.returns-in-Some
returns-in-Some c = rw (c.in-Some.ensures.lifted ∙ ap Some (sym c.deref_mut.ensures.value)) (c.give_row-answer.new.self, c.give_row-answer.ensures, c.put_back.ensures)
