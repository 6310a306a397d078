-- A line that a call doesn't affect has no place that it affects.
use Rattle.std.specs.Prelude.{◌≡◌, ◌<◌}
use Rattle.world.specs.{arith, ℕ, false, World, affects_line, affects_place}
use Rattle.world.proofs.Below.{any_below-some}
use Rattle.world.specs.declared.call.Call.{Call}

pub free-place : (world : World) (call : Call) (y x : ℕ) → x < world.windows.columns → affects_line world call y ≡ false → affects_place world call y x ≡ false
free-place world call y x left free = grind (arith, (any_below-some world.windows.columns (affects_place world call y)))
