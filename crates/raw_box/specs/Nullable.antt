-- What a pointer owns that may be null: nothing where it is, and else a box in the C library's heap.
use Rattle.std.specs.Prelude.{Option, Some, None}
use base.Fml.{Fml, ftrue, fex}
use mir.Syntax.{Ty}
use denote.RattleType.{RattleType}
use denote.RawPtr.{Ptr, block_ptr, null_ptr}
use Rattle.std.specs.contracts.impls.GlobalAllocator.TheImpl.{ghosts}
use Rattle.std_alloc.specs.Box.Ownership.{box_owns}

-- the right to free a block of the C library's heap
abbrev pub token : Ty → Ptr → Fml
token = ghosts.dealloc_token (record { memory = record { seal = tt } })

abbrev pub nullable_owns : (R : RattleType) → Ptr → Option R.Denot → Fml
nullable_owns R null_ptr None = ftrue
nullable_owns R null_ptr (Some x) = fex ⊥ (λ _. ftrue)
nullable_owns R (block_ptr b o) None = fex ⊥ (λ _. ftrue)
nullable_owns R (block_ptr b o) (Some x) = box_owns token R (block_ptr b o) x
