-- The bytes that are moved come before the first newline.
use Rattle.script.specs.{arith, length-append, length-take, common_steps}
use Rattle.script.proofs.ByteLemmas.{moves_bytes}
use Rattle.script.proofs.bytes.Bytes.move_into.Goals as goal

pub returns : goal.returns
returns c =
    moves_bytes c.args.self.now _ _ _ c.min-count.result (grind (arith, common_steps)) c.leave_out.ensures (grind (arith, common_steps))
    (grind (arith, common_steps, length-append, length-take))
