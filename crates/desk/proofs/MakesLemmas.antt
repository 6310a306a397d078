-- Calls that were made, and what they leave: none, one, and one list after another.
use Rattle.std.specs.Prelude.{◌≡◌, ◌∷◌, ◌++◌}
use Rattle.desk.specs.{arith, ℕ, CallEnds, Err, List, Ok, [], Result, call_end, refl, sym, subst, ◌∙◌, add-zero, append-nil, sum_by, flat_map-append, sum_by-append, sum_by-cons, Refusal, Seen, IsWithin, ScreenOver, State}
use Rattle.desk.specs.{state_of, MayAnswer, Outcome, Run, all_sent, cells_of_answer, cells_read, state_after, state_at_end, Makes, Writes, CountGrew, Call, Reply}
use Rattle.desk.proofs.ReadLemmas.{call-grew, reads-run, same-grew, then-grew}
use Rattle.desk.proofs.Shortness.{short-run}
use Rattle.desk.proofs.StateLemmas.{IsWithin-refl, IsWithin-trans, Run-within, state_at_end-within}
use Rattle.desk.proofs.WriterLemmas.{Writes-nothing, Writes-refused, Writes-trans}

Run-append : (state : State) (calls more : List Call) (outcomes others : List Outcome) → Run state calls outcomes
    → Run (state_at_end state calls outcomes) more others → Run state (calls ++ more) (outcomes ++ others)
Run-append state [] more [] others run next = next
Run-append state (c ∷ cs) more (o ∷ os) others run next = (run.0, Run-append (state_after state c o.answer) cs more os others run.1 next)
Run-append state calls more outcomes others run next = absurd run

state_at_end-append : (state : State) (calls more : List Call) (outcomes others : List Outcome) → Run state calls outcomes
    → state_at_end state (calls ++ more) (outcomes ++ others) ≡ state_at_end (state_at_end state calls outcomes) more others
state_at_end-append state [] more [] others run = refl
state_at_end-append state (c ∷ cs) more (o ∷ os) others run = state_at_end-append (state_after state c o.answer) cs more os others run.1
state_at_end-append state calls more outcomes others run = absurd run

module _ {W : Type 0} (seen : W → Seen) where
  -- what follows of a run
  Makes-run : {old new : ScreenOver W} {calls : List Call} {outcomes : List Outcome} → Run (state_of old) calls outcomes
      → IsWithin (state_of new) (state_at_end (state_of old) calls outcomes) → Writes seen old new calls (all_sent outcomes) → CountGrew (sum_by cells_read outcomes) old.desk new.desk
      → Makes seen old calls outcomes new
  Makes-run {old} {new} {calls} {outcomes} run state writes counted = grind (arith, short-run, reads-run)

  pub Makes-nothing : (old : ScreenOver W) → Makes seen old [] [] old
  Makes-nothing old = Makes-run tt (IsWithin-refl (state_of old)) (Writes-nothing seen old) (same-grew old.desk)

  made-one : (old new : ScreenOver W) (call : Call) (answer : Result Reply Refusal) (sent : List ℕ) → MayAnswer (state_of old) call answer sent
      → IsWithin (state_of new) (state_after (state_of old) call answer) → Writes seen old new (call ∷ []) sent
      → CountGrew (cells_of_answer answer) old.desk new.desk → Makes seen old (call ∷ []) (record { answer = answer; sent = sent } ∷ []) new
  made-one old new call answer sent may state writes counted =
      Makes-run (may, tt) state (subst (Writes seen old new (call ∷ [])) (sym (append-nil sent)) writes)
      (subst (λ n. CountGrew n old.desk new.desk) (sym (sum_by-cons cells_read (record { answer = answer; sent = sent }) [] ∙ add-zero _)) counted)

  -- one call was made, and not cut short
  pub Makes-one : (old new : ScreenOver W) (call : Call) (answer : Result Reply Refusal) → CallEnds seen old call (call_end (Ok answer)) new
      → (sent : List ℕ) × Makes seen old (call ∷ []) (record { answer = answer; sent = sent } ∷ []) new
  Makes-one old new call (Ok reply) h =
      (h.sent, made-one old new call (Ok reply) h.sent h.answer h.state h.writes (call-grew (state_of old) call reply h.sent old.desk new.desk h.answer h.counted))
  Makes-one old new call (Err e) h =
      let made = made-one old old call (Err e) [] (h.0, refl) (IsWithin-refl (state_of old)) (Writes-refused seen old call e h.0) (same-grew old.desk) in
      ([], subst (Makes seen old (call ∷ []) (record { answer = Err e; sent = [] } ∷ [])) (sym h.1) made)

  pub Makes-append : {old mid new : ScreenOver W} {calls more : List Call} {outcomes others : List Outcome} → Makes seen old calls outcomes mid → Makes seen mid more others new
      → Makes seen old (calls ++ more) (outcomes ++ others) new
  Makes-append {old} {mid} {new} {calls} {more} {outcomes} {others} first second =
      Makes-run (Run-append (state_of old) calls more outcomes others first.run (Run-within more others first.state second.run))
      (subst (IsWithin (state_of new)) (sym (state_at_end-append (state_of old) calls more outcomes others first.run))
      (IsWithin-trans second.state (state_at_end-within more others first.state)))
      (subst (Writes seen old new (calls ++ more)) (sym (flat_map-append _ outcomes others))
      (Writes-trans seen old mid new calls more (all_sent outcomes) (all_sent others) first.writes second.writes))
      (subst (λ n. CountGrew n old.desk new.desk) (sym (sum_by-append cells_read outcomes others)) (then-grew _ _ old.desk mid.desk new.desk first.counted second.counted))
