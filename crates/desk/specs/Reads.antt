-- How many cells the update_panels of a run read: by how much the desk's count of them grew, and its bounds. The run's
-- calls are listed with whether each was accepted.
-- X/Open Curses Issue 7 and NetBSD panel(3) say nothing of it: these bounds are Curspan's own.
use Rattle.std.specs.Prelude.{◌≡◌, ◌+◌, ◌%◌, ◌^◌, ◌≤◌, if◌then◌else◌, ◌∷◌}
use Rattle.desk.specs.Names.{ℕ, List, [], Bool, difference, World, bound_on_reads, is_update_panels, world_after, DeskTable, Call}
use Rattle.desk.specs.States.{State}
use Rattle.desk.specs.Runs.{Outcome, is_accepted}

-- the count of the cells that were read grew by so many, modulo 2^64
pub record CountGrew (cells : ℕ) (old new : DeskTable) : Type 0 where
  pub sum : new.cells_read % 2 ^ 64 ≡ (old.cells_read + cells) % 2 ^ 64

abbrev pub with_acceptance : List Call → List Outcome → List (Call × Bool)
with_acceptance (call ∷ calls) (outcome ∷ outcomes) = (call, is_accepted outcome) ∷ with_acceptance calls outcomes
with_acceptance _ _ = []

-- how many places of the virtual screen an update_panels changes
abbrev pub places_redrawn : World → Call → ℕ
places_redrawn world call = if is_update_panels call then difference world.virtual.picture (world_after world call).virtual.picture else 0

-- how many all update_panels of a run change
abbrev pub places_redrawn_in_run : World → List (Call × Bool) → ℕ
places_redrawn_in_run world [] = 0
places_redrawn_in_run world (call ∷ calls) =
    if call.1 then places_redrawn world call.0 + places_redrawn_in_run (world_after world call.0) calls else places_redrawn_in_run world calls

-- The update_panels of a run read at least as many cells as they changed places, and at most as many as
-- `bound_on_reads` says.
pub record ReadsFew (s : State) (calls : List (Call × Bool)) (cells : ℕ) : Type 0 where
  pub at_least : places_redrawn_in_run s.world calls ≤ cells
  pub at_most : cells ≤ bound_on_reads s.world s.damaged calls
