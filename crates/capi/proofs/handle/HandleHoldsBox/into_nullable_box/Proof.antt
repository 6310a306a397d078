use Rattle.raw_box.proofs.Moving.{moves}
use Rattle.capi.proofs.Handles.{boxed, handle}
use Rattle.capi.specs.contracts.handle.HandleHoldsBox.into_nullable_box.Key.{name}
use Rattle.capi.proofs.handle.HandleHoldsBox.into_nullable_box.Statement.{statement}
use Rattle.capi.proofs.handle.HandleHoldsBox.into_nullable_box.Code as code

pub into_nullable_box_spec : {M : Type 1} → statement M
into_nullable_box_spec 𝓤 𝓛 𝓜 𝓡 wired = moves handle boxed 𝓤 𝓛 𝓜 𝓡 name (code.unfolded 𝓤 𝓛.H 𝓜 𝓡 wired)
