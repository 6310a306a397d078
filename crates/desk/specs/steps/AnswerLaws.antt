-- The answer of each call on a screen but doupdate is of the kind that the call has, and no update_panels is refused.
use Rattle.std.specs.Prelude.{◌≡◌}
use Rattle.desk.specs.Names.{ℕ, false, Ok, Err, refl, Seen, is_doupdate, Call, Refresh, UpdatePanels, Reply, is_damaged_line, world, IsAnswerTo, kind-of-answer, never-refused}
use Rattle.desk.specs.Methods.{CallMade}
use Rattle.desk.specs.States.{ScreenOver, state_of}
use Rattle.desk.specs.steps.Quiet.{quiet-reply}
use Rattle.desk.specs.declared.screen.Fault.{Fault}
use Rattle.desk.specs.declared.screen.Fault.TheVariants.{Refused, Write}

pub answers-made : {W : Type 0} (seen : W → Seen) (name : W → ℕ) (old : ScreenOver W) (call : Call) (reply : Reply) (new : ScreenOver W) → is_doupdate call ≡ false
    → CallMade seen name old call (Ok reply) new → IsAnswerTo call reply
answers-made seen name old call reply new other made =
    let sent = made.ends.sent in
    let may = made.ends.answer in
    let quiet = (quiet-reply (state_of old) reply sent call other).0 may.1 in
    (world old.desk, kind-of-answer (world old.desk) (is_damaged_line old.desk) call reply other may.0 quiet.1)

pub composes-made : {W : Type 0} (seen : W → Seen) (name : W → ℕ) (old : ScreenOver W) (e : Fault) (new : ScreenOver W)
    → CallMade seen name old (Refresh UpdatePanels) (Err e) new → ⊥
composes-made seen name old (Refused e) new made = never-refused (world old.desk) (Refresh UpdatePanels) e refl refl made.ends.0
composes-made seen name old (Write fault) new made = let never = made.ends.0 in cc
