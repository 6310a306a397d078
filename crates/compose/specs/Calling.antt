-- A call that sends nothing, made on a desk: what it answers, and what it leaves.
use Rattle.std.specs.Prelude.{◌≡◌, ◌≤◌, ◌⊎◌, ◌+◌, ◌%◌, ◌^◌}
use Rattle.compose.specs.Names.{ℕ, Bool, true, Some, None, Result, Ok, Err, IsSound, World, affected_after, most_cells, refusal, reply_of, takes_memory, world_after, difference, Refusal, NoMemory}
use Rattle.compose.specs.Names.{AddsChanges, Call, UpdatePanels, Reply, Composed}
use Rattle.compose.specs.Desks.{DeskTable, is_damaged_line, world}
use Rattle.world.specs.declared.call.Call.TheVariants as calls

-- An update_panels may read so many cells, where these lines are damaged: at least as many as there are places of the
-- virtual screen that it changes, and at most all of these lines.
pub record MayRead (world : World) (damaged : ℕ → Bool) (cells : ℕ) : Type 0 where
  pub at_least : difference world.virtual.picture (world_after world (calls.Refresh UpdatePanels)).virtual.picture ≤ cells
  pub at_most : cells ≤ most_cells world damaged (calls.Refresh UpdatePanels)

-- What an accepted call may answer that sends nothing: update_panels how many cells it read, others what tables say.
abbrev pub MayTell : World → (ℕ → Bool) → Call → Reply → Type 0
MayTell world damaged (calls.Refresh UpdatePanels) reply = (cells : ℕ) × MayRead world damaged cells × (reply ≡ Composed (record { cells = cells }))
MayTell world damaged call reply = reply ≡ reply_of world call

-- The call may be refused so: by its tests, or, where none of them holds, for lack of the memory that it takes.
abbrev pub MayRefuse : World → Call → Refusal → Type 0
MayRefuse world call e = (refusal world call ≡ Some e) ⊎ ((refusal world call ≡ None) × (takes_memory world call ≡ true) × (e ≡ NoMemory))

-- What an accepted call, which sends nothing, may leave of a desk. A query leaves all of it.
abbrev pub MayLeave : DeskTable → Call → DeskTable → Type 0
MayLeave old (calls.Query query) new = new ≡ old
MayLeave old call new = world new ≡ world_after (world old) call

-- Only lines are damaged that were so before, or that the call affects; after update_panels none is.
abbrev pub DamagesFew : DeskTable → Call → DeskTable → Type 0
DamagesFew old call new = (line : ℕ) → is_damaged_line new line ≡ true → affected_after (world old) (is_damaged_line old) call line ≡ true

-- how many cells an answer of update_panels says were read
abbrev pub cells_of_reply : Reply → ℕ
cells_of_reply (Composed composed) = composed.cells
cells_of_reply _ = 0

-- An update_panels answers what the count of the cells of windows that it reads grew by, modulo 2^64. No other call
-- changes the count.
abbrev pub CountsReads : DeskTable → Call → Reply → DeskTable → Type 0
CountsReads old (calls.Refresh UpdatePanels) reply new = new.cells_read ≡ (old.cells_read + cells_of_reply reply) % 2 ^ 64
CountsReads old call reply new = new.cells_read ≡ old.cells_read

-- The call, which sends nothing, was made on a desk, and leaves it sound. What it changed on the virtual screen is
-- among the changes. A refused one changed nothing.
abbrev pub Called : DeskTable → Call → Result Reply Refusal → DeskTable → Type 0
Called old call (Ok reply) new =
    (refusal (world old) call ≡ None)
    × MayTell (world old) (is_damaged_line old) call reply
    × MayLeave old call new
    × DamagesFew old call new
    × IsSound (world new)
    × CountsReads old call reply new
    × AddsChanges old.changes old.virtual.picture new.changes new.virtual.picture
Called old call (Err e) new = MayRefuse (world old) call e × (new ≡ old)
