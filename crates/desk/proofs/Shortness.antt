-- No call of a run sends more than its bound.
use Rattle.std.specs.Prelude.{◌≡◌, ◌≤◌, ◌∷◌}
use Rattle.desk.specs.{ℕ, List, [], length, Result, Ok, Err, arith, Refusal, State, Outcome, AreShort, MayAnswer, Run, most_sent, state_after, Call, Doupdate, Reply}
use Rattle.world.specs.declared.call.Call.TheVariants as calls

sends-nothing : (sent : List ℕ) (most : ℕ) → sent ≡ [] → length sent ≤ most
sends-nothing sent most none = grind arith

short-call : (s : State) (call : Call) (answer : Result Reply Refusal) (sent : List ℕ) → MayAnswer s call answer sent → length sent ≤ most_sent s call
short-call s call (Err e) sent may = sends-nothing sent (most_sent s call) may.1
short-call s (calls.Refresh Doupdate) (Ok r) sent may = may.1.0.short
short-call s call (Ok r) sent may = sends-nothing sent (most_sent s call) may.1.0

pub short-run : (s : State) (cs : List Call) (outcomes : List Outcome) → Run s cs outcomes → AreShort s cs outcomes
short-run s [] [] run = tt
short-run s (c ∷ cs) (o ∷ os) run = (short-call s c o.answer o.sent run.0, short-run (state_after s c o.answer) cs os run.1)
short-run s calls outcomes run = absurd run
