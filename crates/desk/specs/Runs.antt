-- A run of calls: one outcome after another.
use Rattle.std.specs.Prelude.{◌≡◌, ◌≤◌, if◌then◌else◌, ◌∷◌}
use Rattle.desk.specs.Names.{ℕ, List, [], Bool, length, None, Result, Ok, Err, ⊤, is_ok, not, flat_map, Refusal, IsUpdateText, most_bytes, count_after, MayRefuse, MayTell, cells_of_reply, is_doupdate}
use Rattle.desk.specs.Names.{refusal, Call, Doupdate, Reply, Sent}
use Rattle.desk.specs.States.{State, after, wanted}
use Rattle.world.specs.declared.call.Call.TheVariants as calls

-- the outcome of a call: its answer, and the bytes that were sent
pub record Outcome : Type 0 where
  pub answer : Result Reply Refusal
  pub sent : List ℕ

-- What an accepted call may answer and send: doupdate a text that shows the virtual screen, the others nothing.
abbrev pub MayReply : State → Call → Reply → List ℕ → Type 0
MayReply s (calls.Refresh Doupdate) reply sent =
    IsUpdateText s.painter s.world.virtual.clear (wanted s.world) sent × (reply ≡ Sent (record { bytes = length sent }))
MayReply s call reply sent = (sent ≡ []) × MayTell s.world s.damaged call reply

-- The call may answer this and send these bytes, while writes and flushes succeed. A refused call sends nothing.
abbrev pub MayAnswer : State → Call → Result Reply Refusal → List ℕ → Type 0
MayAnswer s call (Err e) sent = MayRefuse s.world call e × (sent ≡ [])
MayAnswer s call (Ok reply) sent = (refusal s.world call ≡ None) × MayReply s call reply sent

abbrev pub MayCome : State → Call → Outcome → Type 0
MayCome s call outcome = MayAnswer s call outcome.answer outcome.sent

-- A refused call leaves all as it was.
abbrev pub state_after : State → Call → Result Reply Refusal → State
state_after s call (Ok reply) = after s call
state_after s call (Err e) = s

-- The calls may have these outcomes, one after another.
abbrev pub Run : State → List Call → List Outcome → Type 0
Run s [] [] = ⊤
Run s (call ∷ calls) (outcome ∷ outcomes) = MayCome s call outcome × Run (state_after s call outcome.answer) calls outcomes
Run s [] (outcome ∷ outcomes) = ⊥
Run s (call ∷ calls) [] = ⊥

-- the state that a run leaves
abbrev pub state_at_end : State → List Call → List Outcome → State
state_at_end s (call ∷ calls) (outcome ∷ outcomes) = state_at_end (state_after s call outcome.answer) calls outcomes
state_at_end s _ _ = s

-- the most bytes that a call sends: a doupdate by what differs from what its painter knows, the others none
abbrev pub most_sent : State → Call → ℕ
most_sent s call = if is_doupdate call then most_bytes s.painter s.world.virtual.clear (wanted s.world) else 0

-- no call sent more than that
abbrev pub AreShort : State → List Call → List Outcome → Type 0
AreShort s (call ∷ calls) (outcome ∷ outcomes) = (length outcome.sent ≤ most_sent s call) × AreShort (state_after s call outcome.answer) calls outcomes
AreShort s _ _ = ⊤

abbrev pub is_accepted : Outcome → Bool
is_accepted outcome = is_ok outcome.answer

abbrev pub is_refused : Outcome → Bool
is_refused outcome = not (is_accepted outcome)

-- how many cells an answer says were read, and a refusal none
abbrev pub cells_of_answer : Result Reply Refusal → ℕ
cells_of_answer (Ok r) = cells_of_reply r
cells_of_answer (Err e) = 0

abbrev pub cells_read : Outcome → ℕ
cells_read outcome = cells_of_answer outcome.answer

-- a count of flushes after these calls: a doupdate flushes once
abbrev pub flushes_after : ℕ → List Call → ℕ
flushes_after flushes [] = flushes
flushes_after flushes (call ∷ calls) = flushes_after (count_after (is_doupdate call) flushes) calls

-- all bytes that were sent
abbrev pub all_sent : List Outcome → List ℕ
all_sent = flat_map (λ outcome. outcome.sent)
