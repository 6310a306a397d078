-- The origin of a window is where the walk from its first place ends.
use Rattle.std.specs.Prelude.{◌≡◌}
use Rattle.grids.specs.{Some, arith, common_steps, slot_at}
use Rattle.grids.proofs.Origins.{origin-is}
use Rattle.grids.proofs.list.origin_of.Goals as goal

pub returns : goal.returns
returns c =
    let there : slot_at c.args.slots.now c.args.win ≡ Some c.in-Some.slot = grind (arith, common_steps) in
    rw c.origin.ensures (origin-is c.args.slots.now c.requires.chained c.requires.origins c.requires.few c.args.win c.in-Some.slot there)
