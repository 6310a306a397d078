-- The line after the others is the fault's, with the bytes that were sent.
use Rattle.std.specs.Prelude.{◌≡◌, ◌++◌, ◌∷◌}
use Rattle.script.specs.{ℕ, List, append_assoc, refl, codes, decimal, [], newline}
use Rattle.script.proofs.log.last_line.Goals as goal

-- a line, put together piece by piece
joined : (beginning before sent after end : List ℕ) → (((beginning ++ before) ++ sent) ++ after) ++ end ≡ (beginning ++ ((before ++ sent) ++ after)) ++ end
joined beginning before sent after end = rw (append_assoc beginning before sent, append_assoc beginning (before ++ sent) after) refl

pub returns-in-Write : goal.returns-in-Write
returns-in-Write c =
    rw (c.end_line-in-Write.ensures, c.append_decimal.ensures.text, c.append.ensures, c.beginning-text.ensures.text, c.from.ensures, c.in-Write.is)
    (joined (codes "line " ++ decimal c.in-Write.line ++ codes ": ") (codes "write failed after ") (decimal c.in-Write.fault.sent) (codes " bytes") (newline ∷ []))
