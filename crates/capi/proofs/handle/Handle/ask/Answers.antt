-- The same box is put back.
use Rattle.std.proofs.Common.{Some, sym, ap, ◌∙◌}
use Rattle.capi.proofs.handle.Handle.ask.Goals as goal

pub returns-in-Some : goal.returns-in-Some
returns-in-Some c =
    let box = c.in-Some.ensures.lifted in let same = c.put_back.ensures ∙ sym box in let seen = ap Some (sym c.deref.ensures) in
    (rw (box ∙ seen) (c.deref.result.now, c.ask-answer.ensures, c.put_back.ensures ∙ seen), same)
