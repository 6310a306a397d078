-- A run goes on by one call.
use Rattle.std.specs.Prelude.{◌≡◌, ◌+◌, ◌≤◌, ◌++◌, ◌∷◌, ◌<◌, ◌%◌, ◌^◌}
use Rattle.desk.specs.{ℕ, List, Result, call_end, cells_of_answer, is_ok, not, [], length, take, drop, get_or, None, Some, Ok, Err, refl, sym, ap, ◌∙◌, subst, count_by, sum_by, cond, Option, append-nil, take-append-drop, take_all}
use Rattle.desk.specs.{drop_more, take_more, sum_by_push, Refusal, Seen, WriteFault, Outcome, cells_read, is_accepted, is_refused, CountGrew, ReadsFew, with_acceptance, CallEnds}
use Rattle.desk.specs.{Makes, RunEnds, Stops, begins_with_doupdate, Call, Reply, ScreenOver, state_of}
use Rattle.desk.proofs.MakesLemmas.{Makes-append, Makes-nothing, Makes-one}
use Rattle.desk.specs.declared.screen.Fault.TheVariants.{Write}
use Rattle.desk.specs.declared.screen.RunEnd.{RunEnd}

module _ {W : Type 0} (seen : W → Seen) where
  -- a run, with what was counted of it
  pub record SoFar (old : ScreenOver W) (calls : List Call) (new : ScreenOver W) (accepted refused cells : ℕ) : Type 0 where
    pub outcomes : List Outcome
    pub makes : Makes seen old calls outcomes new
    pub is_done : accepted ≡ count_by is_accepted outcomes
    pub is_refused : refused ≡ count_by is_refused outcomes
    pub is_composed : cells ≡ sum_by cells_read outcomes

  -- no call yet
  pub so_far_none : (old : ScreenOver W) → SoFar old [] old 0 0 0
  so_far_none old = record { outcomes = []; makes = Makes-nothing seen old; is_done = refl; is_refused = refl; is_composed = refl }

  -- one more call was made, and not cut short
  pub so_far_next : (old mid new : ScreenOver W) (calls : List Call) (d r c i : ℕ) (call : Call) (answer : Result Reply Refusal) → SoFar old (take i calls) mid d r c → i < length calls
      → CallEnds seen mid (get_or calls i call) (call_end (Ok answer)) new
      → SoFar old (take (i + 1) calls) new (d + cond (is_ok answer) 1 0) (r + cond (not (is_ok answer)) 1 0) (c + cells_of_answer answer)
  so_far_next old mid new calls d r c i call answer so_far h ends =
      let one = Makes-one seen mid new (get_or calls i call) answer ends in
      let outcome : Outcome = record { answer = answer; sent = one.0 } in
      rw (take_more calls i call h) (record {
        outcomes = so_far.outcomes ++ outcome ∷ [];
        makes = Makes-append seen so_far.makes one.1;
        is_done = ap (λ n. n + cond (is_ok answer) 1 0) so_far.is_done ∙ sym (sum_by_push (λ (o : Outcome). cond (is_accepted o) 1 0) so_far.outcomes outcome);
        is_refused = ap (λ n. n + cond (not (is_ok answer)) 1 0) so_far.is_refused ∙ sym (sum_by_push (λ (o : Outcome). cond (is_refused o) 1 0) so_far.outcomes outcome);
        is_composed = ap (λ n. n + cells_of_answer answer) so_far.is_composed ∙ sym (sum_by_push cells_read so_far.outcomes outcome);
      })

  -- what ends a run reads nothing
  stop-grew : (old mid new : ScreenOver W) (fault : Option WriteFault) (cells : ℕ) (left : List Call) → CountGrew cells old.desk mid.desk → Stops seen mid left fault new
      → CountGrew cells old.desk new.desk
  stop-grew old mid new None cells left grew stop = subst (λ s. CountGrew cells old.desk s.desk) (sym stop.1) grew
  stop-grew old mid new (Some fault) cells left grew stop = record { sum = ap (λ n. n % 2 ^ 64) stop.1.counted ∙ grew.sum }

  -- the run ends here
  ends : {old mid new : ScreenOver W} {calls made : List Call} {end : RunEnd} (left : List Call) → SoFar old made mid end.done end.refused end.composed → calls ≡ made ++ left
      → Stops seen mid left end.fault new → RunEnds seen old calls end new
  ends {old} {mid} {new} {made = made} {end = end} left so_far parts stop = record {
    made = made;
    left = left;
    outcomes = so_far.outcomes;
    at_stop = mid;
    parts = parts;
    makes = so_far.makes;
    stop = stop;
    done = so_far.is_done;
    refused = so_far.is_refused;
    composed = so_far.is_composed;
    reads = subst (ReadsFew (state_of old) (with_acceptance made so_far.outcomes)) (sym so_far.is_composed) so_far.makes.reads;
    counted = subst (λ n. CountGrew n old.desk new.desk) (sym so_far.is_composed)
        (stop-grew old mid new end.fault (sum_by cells_read so_far.outcomes) left so_far.makes.counted stop);
  }

  -- every call was made
  pub ends_whole : {old new : ScreenOver W} {calls : List Call} {i : ℕ} {end : RunEnd} → SoFar old (take i calls) new end.done end.refused end.composed
      → end.fault ≡ None → length calls ≤ i → RunEnds seen old calls end new
  ends_whole {new} {calls} {i} so_far none h =
      ends [] so_far (sym (append-nil (take i calls) ∙ take_all i calls h)) (subst (λ f. Stops seen new [] f new) (sym none) (refl, refl))

  -- a doupdate was cut short
  pub ends_cut : (old mid new : ScreenOver W) (calls : List Call) (d r c i : ℕ) (call : Call) (fault : WriteFault) → SoFar old (take i calls) mid d r c → i < length calls
      → CallEnds seen mid (get_or calls i call) (Err (Write fault)) new
      → RunEnds seen old calls (record { done = d; refused = r; composed = c; fault = Some fault }) new
  ends_cut old mid new calls d r c i call fault so_far h cut =
      ends (drop i calls) so_far (sym (take-append-drop i calls)) (ap begins_with_doupdate (drop_more calls i call h) ∙ cut.0, cut.1)
