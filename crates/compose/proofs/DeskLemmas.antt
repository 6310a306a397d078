-- What a desk keeps, and the world that it represents, call by call.
use Rattle.std.specs.Prelude.{◌≡◌}
use Rattle.compose.specs.{ℕ, Bool, Option, None, Result, Ok, Err, arith, IsShown, shown_blank, World, first_world, AreSoundWindows, IsSound, refusal, takes_memory, world_after, Refused, Refusal}
use Rattle.compose.specs.{IsDesk, DeskTable, world, Called, MayLeave, Call, Reply, as_reply}
use Rattle.cell.proofs.PictureLemmas.{ArePairs-first, EachCell-all_of, HasSize-all_of, IsShown-blank}
use Rattle.world.proofs.Sizes.{size-call}

-- the first world
pub IsSound-first : (w : World) (lines columns : ℕ) → w ≡ first_world lines columns → AreSoundWindows w.windows → IsSound w
IsSound-first w lines columns first sound =
    let there = rw first at sound in rw first (grind (arith, ArePairs-first, (HasSize-all_of shown_blank lines columns), (EachCell-all_of IsShown shown_blank lines columns IsShown-blank)))

pub world-left : (old new : DeskTable) (call : Call) → MayLeave old call new → world new ≡ world_after (world old) call
world-left old new call h = grind arith

-- no call changes the size of a desk
pub size-called : (old new : DeskTable) (call : Call) (r : Result Reply Refusal) → Called old call r new → (new.windows.lines ≡ old.windows.lines) × (new.windows.columns ≡ old.windows.columns)
size-called old new call r h = grind (arith, size-call, world-left)

-- each call leaves it sound
pub sound-called : (old new : DeskTable) (call : Call) (r : Result Reply Refusal) → IsSound (world old) → Called old call r new → IsSound (world new)
sound-called old new call r sound h = grind arith

-- ---- calls

pub accepted-by : {T : Type 0} (takes : Bool) (t : Option Refusal) (r : Result T Refusal) → Refused takes t r → (done : T) → r ≡ Ok done → t ≡ None
accepted-by takes t r h done is = grind arith

-- an answer is accepted or refused also where it is that of a call
pub refused-as : {T : Type 0} (takes : Bool) (t : Option Refusal) (reply_of : T → Reply) (r : Result T Refusal) → Refused takes t r → Refused takes t (as_reply reply_of r)
refused-as takes t reply_of r h = grind arith

-- a refused call leaves all as it was
pub call-refused : (old new : DeskTable) (call : Call) (e : Refusal) → IsDesk old → new ≡ old → Refused {T = Reply} (takes_memory (world old) call) (refusal (world old) call) (Err e)
    → IsDesk new × Called old call (Err e) new
call-refused old new call e h same refused = grind arith
