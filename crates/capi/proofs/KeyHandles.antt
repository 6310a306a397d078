-- A handle of keys as a struct of one pointer.
use Rattle.std.proofs.Common.{refl}
use Rattle.raw_box.proofs.Pointers.{Pointer, nullable, of_struct}
use Rattle.keys.specs.contracts.decoder.Decoder.{the_row}
use Rattle.capi.specs.contracts.key_handle.KeyHandle.{the_type}

abbrev pub handle : Pointer the_row
handle =
    of_struct the_type (λ h. h.at) (λ h. h.value) (λ p x. record { at = p; value = x }) (λ p x. refl) (λ p x. refl)

abbrev pub boxed : Pointer the_row
boxed = nullable the_row
