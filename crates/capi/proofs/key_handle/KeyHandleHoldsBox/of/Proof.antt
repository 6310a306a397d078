use Rattle.raw_box.proofs.Moving.{moves}
use Rattle.capi.proofs.KeyHandles.{boxed, handle}
use Rattle.capi.specs.contracts.key_handle.KeyHandleHoldsBox.of.Key.{name}
use Rattle.capi.proofs.key_handle.KeyHandleHoldsBox.of.Statement.{statement}
use Rattle.capi.proofs.key_handle.KeyHandleHoldsBox.of.Code as code

pub of_spec : {M : Type 1} → statement M
of_spec 𝓤 𝓛 𝓜 𝓡 wired = moves boxed handle 𝓤 𝓛 𝓜 𝓡 name (code.unfolded 𝓤 𝓛.H 𝓜 𝓡 wired)
