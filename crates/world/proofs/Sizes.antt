-- No effect changes the size of the screen, and so no call.
use Rattle.std.specs.Prelude.{◌≡◌, ◌∷◌}
use Rattle.world.specs.{arith, ℕ, List, [], Windows, Panels, World, after_text, Change, Edit, Effect, Order, after, after_change, after_edit, windows_after}
use Rattle.world.specs.{world_after}
use Rattle.world.specs.declared.call.Call.{Call}

pub record SameSize (one other : Windows) : Type 0 where
  pub lines : one.lines ≡ other.lines
  pub columns : one.columns ≡ other.columns

-- ---- characters

size-text : (w : ℕ) (text : List ℕ) (windows : Windows) → SameSize (after_text windows w text) windows
size-text w [] windows = grind arith
size-text w (character ∷ text) windows = grind (arith, (size-text w text))

-- ---- effects

pub size-edit : (windows : Windows) (edit : Edit) → SameSize (after_edit windows edit) windows
size-edit windows edit = grind (arith, size-text)

pub size-change : (windows : Windows) (change : Change) → SameSize (after_change windows change) windows
size-change windows change = grind (arith, size-edit)

pub size-order : (windows : Windows) (panels : Panels) (order : Order) → SameSize (windows_after windows panels order) windows
size-order windows panels order = grind (arith, size-change)

pub size-effect : (world : World) (effect : Effect) → SameSize (after world effect).windows world.windows
size-effect world effect = grind (arith, size-text)

pub size-call : (world : World) (call : Call) → SameSize (world_after world call).windows world.windows
size-call world call = grind (arith, size-effect)
