-- A text with its bytes escaped is written piece by piece, as any is (`PutLemmas`).
use Rattle.commands.specs.{flat_map-append, escaped_byte, escaped_text}
use Rattle.commands.proofs.PutLemmas.{cut_put, more_put}
use Rattle.commands.proofs.escapes.put_escaped.Goals as goal

pub loop-rest-preserved : goal.loop-rest-preserved
loop-rest-preserved g c =
    let put = rw (c.as_slice.ensures.value, c.escaped_text.ensures) at c.put.ensures in
    more_put escaped_text (flat_map-append escaped_byte) _ _ _ _ _ _ _ _ _ c.loop-rest.invariant put c.if-not-put.false c.split_at.ensures.front c.split_at.ensures.back

pub returns-then-not-put : goal.returns-then-not-put
returns-then-not-put g c =
    let put = rw (c.as_slice.ensures.value, c.escaped_text.ensures) at c.put.ensures in
    cut_put escaped_text (flat_map-append escaped_byte) _ _ _ _ _ _ _ _ _ c.loop-rest.invariant put c.if-not-put.true c.split_at.ensures.front c.split_at.ensures.back
