-- How a call is refused, at each layer.
use Rattle.std.specs.Prelude.{◌≡◌}
use Rattle.world.specs.Names.{Bool, true, false, Option, Result, result_err, RefusedBy, Refusal}

-- exactly by its tests; where it takes memory and none of them holds, also for lack of memory
abbrev pub Refused : {T : Type 0} → Bool → Option Refusal → Result T Refusal → Type 0
Refused true refusal r = RefusedBy refusal r
Refused false refusal r = result_err r ≡ refusal
