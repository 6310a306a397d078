-- A call on panels: what the stack of panels says of it, and the desk on which it is made.
use Rattle.std.specs.Prelude.{◌≡◌, ◌∷◌, ◌++◌}
use Rattle.compose.specs.{Bool, true, false, Option, None, [], refl, Result, Ok, Err, List, arith, first_of, Refusal, AreSoundPanels, windows_after, stacking_order, stacking_refusal, Reply, Stacking}
use Rattle.compose.specs.{Columns, WindowTable, windows, Arranged, PanelTable, panels, Called, IsDesk, DeskTable, Ordered, OrderedDamaging}
use Rattle.world.specs.declared.call.Call.TheVariants as calls
use Rattle.world.proofs.SoundOrders.{sound-stacking}
use Rattle.world.proofs.Sizes.{SameSize, size-order}
use Rattle.extents.proofs.Changing.{changes-none}
use Rattle.compose.proofs.DamageCovers.{call-accepted}
use Rattle.compose.proofs.DeskLemmas.{accepted-by, call-refused}

-- ---- a call that the stack makes alone

-- tests of which none holds, before others
pub first-after : (tests rest : List (Bool × Refusal)) → first_of tests ≡ None → first_of (tests ++ rest) ≡ first_of rest
first-after [] rest h = refl
first-after ((true, e) ∷ tests) rest h = cc
first-after ((false, e) ∷ tests) rest h = first-after tests rest h

-- the windows stay as they are
pub ordered : {T : Type 0} (table : WindowTable) (ps : PanelTable) (reply_of : T → Reply) (tests : List (Bool × Refusal)) (stacking : Stacking) (r : Result T Refusal) (new : PanelTable)
    → Arranged reply_of tests ps stacking r new → first_of tests ≡ stacking_refusal (windows table) (panels ps) stacking
    → windows_after (windows table) (panels ps) (stacking_order (panels ps) stacking) ≡ windows table → Ordered reply_of table ps stacking r table new
ordered table ps reply_of tests stacking r new a same still = grind arith

-- panels are sound after it
pub panels-ordered : (old : WindowTable) (ps : PanelTable) (stacking : Stacking) (reply : Reply) (new : WindowTable) (new_ps : PanelTable) → AreSoundPanels (windows old).window (panels ps)
    → Ordered (λ reply. reply) old ps stacking (Ok reply) new new_ps → AreSoundPanels (windows new).window (panels new_ps)
panels-ordered old ps stacking reply new new_ps sound h = grind (arith, accepted-by, sound-stacking)

-- ---- the desk

pub size-ordered : {T : Type 0} (reply_of : T → Reply) (old : WindowTable) (ps : PanelTable) (stacking : Stacking) (r : Result T Refusal) (new : WindowTable) (new_ps : PanelTable)
    → Ordered reply_of old ps stacking r new new_ps → SameSize (windows new) (windows old)
size-ordered reply_of old ps stacking r new new_ps h = grind (arith, size-order)

pub order-made : (old : DeskTable) (w : WindowTable) (ps : PanelTable) (d : List (Option Columns)) (stacking : Stacking) (r : Result Reply Refusal) → IsDesk old
    → OrderedDamaging old.windows old.panels stacking old.damage r w ps d
    → IsDesk (record old { windows = w; panels = ps; damage = d }) × Called old (calls.Stacking stacking) r (record old { windows = w; panels = ps; damage = d })
order-made old w ps d stacking (Ok reply) h m =
    call-accepted old _ (calls.Stacking stacking) h (accepted-by _ _ _ m.call.refused reply refl) refl (grind arith) m.damaged refl (changes-none old.changes old.virtual.picture) reply m.call.reply
order-made old w ps d stacking (Err e) h m = call-refused old _ (calls.Stacking stacking) e h (grind arith) m.call.refused
