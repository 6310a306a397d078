-- `print`: the lines, what comes after them, and a flush (`PutLemmas`).
use Rattle.commands.specs.{refl}
use Rattle.commands.proofs.PutLemmas.{cut_before, not_put, put_after}
use Rattle.commands.proofs.printing.print.Goals as goal

pub returns-then-not-put_lines : goal.returns-then-not-put_lines
returns-then-not-put_lines g c = not_put _ _ _ _ (cut_before _ _ _ _ _ c.put_lines.ensures c.if-not-put_lines.true) refl

pub returns : goal.returns
returns g c =
    let put = rw (c.as_slice.ensures.value, c.ending.ensures) at c.put-is_put.ensures in
    c.flush_after.ensures _ _ (put_after _ _ _ _ _ _ _ c.put_lines.ensures c.if-not-put_lines.false put)
