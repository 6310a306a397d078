-- Doupdate is the only call that sends, and the others may answer what a desk answers.
use Rattle.std.specs.Prelude.{◌≡◌}
use Rattle.desk.specs.Names.{ℕ, false, List, [], MayTell, is_doupdate, Call, Doupdate, Reply}
use Rattle.world.specs.declared.call.Call.TheVariants as calls
use Rattle.desk.specs.Runs.{MayReply}
use Rattle.desk.specs.States.{State}

-- such a call sends nothing
abbrev pub IsQuiet : State → Reply → List ℕ → Call → Type 0
IsQuiet s reply sent call = (sent ≡ []) × MayTell s.world s.damaged call reply

pub quiet-reply : (s : State) (reply : Reply) (sent : List ℕ) (call : Call) → is_doupdate call ≡ false
    → (MayReply s call reply sent → IsQuiet s reply sent call) × (IsQuiet s reply sent call → MayReply s call reply sent)
quiet-reply s reply sent (calls.Refresh Doupdate) other = cc
quiet-reply s reply sent call other = (λ h. h, λ h. h)
