-- Histories: what terminals show after one, and how one goes on by a call.
use Rattle.std.specs.Prelude.{◌≡◌, ◌<◌, ◌+◌, ◌∷◌, ◌++◌, if◌then◌else◌}
use Rattle.desk.specs.{arith, map-append, ℕ, List, [], Option, None, Result, Ok, Err, length, take, get_or, cond, is_ok, is_some, refl, sym, ap, ◌∙◌, subst, append_assoc, append-nil}
use Rattle.desk.specs.{Appends-nil, Appends-trans, take_more, sum_by_push, Appends, HasSize, Terminal, Seen, WriteFault, Agrees, is_doupdate, Call, Refresh}
use Rattle.desk.specs.{Doupdate, UpdatePanels, Reply, world, KeepsSize, ScreenOver, state_of, wanted, CallEnds, cut_of, CallMade, AreMade, HistoryEnds}
use Rattle.desk.specs.{HistoryShows, RunsAll, Step, calls_in, cells_in, fault_after, is_cut, is_done, is_refused_step, last_fault, refuses, screen_after, counted, never-refused}
use Rattle.paint.proofs.Repair.{Agrees-unknown, nothing-in_profile}
use Rattle.desk.specs.declared.screen.Fault.{Fault}
use Rattle.desk.specs.declared.screen.Fault.TheVariants.{Refused, Write}
use Rattle.desk.specs.declared.history.RunAllEnd.{RunAllEnd}
use Rattle.desk.proofs.ShowingLemmas.{EndsShown, VirtualIsKnown, shows-last, shows-whole, then-keeps_size}

-- ---- a history goes on by one call

fault-after_one : {W : Type 0} (fault : Option WriteFault) (steps : List (Step W)) (step : Step W)
    → fault_after fault (steps ++ step ∷ []) ≡ (if is_doupdate step.call then cut_of step.end else fault_after fault steps)
fault-after_one fault [] step = refl
fault-after_one fault (s ∷ ss) step = fault-after_one (if is_doupdate s.call then cut_of s.end else fault) ss step

screen-after_one : {W : Type 0} (screen : ScreenOver W) (steps : List (Step W)) (step : Step W) → screen_after screen (steps ++ step ∷ []) ≡ step.screen
screen-after_one screen [] step = refl
screen-after_one screen (s ∷ ss) step = screen-after_one s.screen ss step

module _ {W : Type 0} (seen : W → Seen) (name : W → ℕ) where
  made-front : (screen : ScreenOver W) (steps rest : List (Step W)) → AreMade seen name screen (steps ++ rest) → AreMade seen name screen steps
  made-front screen [] rest made = tt
  made-front screen (s ∷ ss) rest made = (made.0, made-front s.screen ss rest made.1)

  made-with_one : (screen : ScreenOver W) (steps : List (Step W)) (step : Step W) → AreMade seen name screen steps
      → CallMade seen name (screen_after screen steps) step.call step.end step.screen → AreMade seen name screen (steps ++ step ∷ [])
  made-with_one screen [] step made last = (last, tt)
  made-with_one screen (s ∷ ss) step made last = (made.0, made-with_one s.screen ss step made.1 last)

  -- ---- all that was sent agrees with the painter

  pub record Agreed (old new : ScreenOver W) : Type 0 where
    pub bytes : List ℕ
    pub taken : Appends (seen old.writer).taken (seen new.writer).taken bytes
    pub agrees : (stream : List ℕ) (t : Terminal) → HasSize old.desk.windows.lines old.desk.windows.columns t.picture
        → Agrees old.painter stream t → Agrees new.painter (stream ++ bytes) t
    pub size : KeepsSize old.desk new.desk

  agreed-then : (old mid new : ScreenOver W) → Agreed old mid → Agreed mid new → Agreed old new
  agreed-then old mid new first next = record {
    bytes = first.bytes ++ next.bytes;
    taken = Appends-trans _ _ _ _ _ first.taken next.taken;
    agrees = λ stream t fits h.
        subst (λ bytes. Agrees new.painter bytes t) (append_assoc stream first.bytes next.bytes)
        (next.agrees (stream ++ first.bytes) t (rw (first.size.lines, first.size.columns) fits) (first.agrees stream t fits h));
    size = then-keeps_size old.desk mid.desk new.desk first.size next.size;
  }

  agreed : (old : ScreenOver W) (steps : List (Step W)) → AreMade seen name old steps → Agreed old (screen_after old steps)
  agreed old [] made = record { bytes = []; taken = Appends-nil _; agrees = λ stream t fits h. rw append-nil h; size = record { lines = refl; columns = refl } }
  agreed old (step ∷ steps) made =
      let shown = made.0.shown in
      agreed-then old step.screen (screen_after step.screen steps) (record { bytes = shown.bytes; taken = shown.taken; agrees = shown.agrees; size = made.0.size })
      (agreed step.screen steps made.1)

  -- ---- a doupdate that succeeded

  known-after : (mid new : ScreenOver W) (end : Result Reply Fault) → CallEnds seen mid (Refresh Doupdate) end new → cut_of end ≡ None
      → VirtualIsKnown (state_of new)
  known-after mid new (Ok reply) h whole = grind arith
  known-after mid new (Err (Refused e)) h whole = absurd (never-refused (world mid.desk) (Refresh Doupdate) e refl refl h.0)
  known-after mid new (Err (Write fault)) h whole = cc

  shown-after : (first mid new : ScreenOver W) (one other : Result Reply Fault) → CallEnds seen first (Refresh UpdatePanels) one mid
      → CallEnds seen mid (Refresh Doupdate) other new
      → cut_of other ≡ None → EndsShown (state_of new)
  shown-after first mid new (Ok one) (Ok other) h k whole = record { before = world first.desk; world_is = grind arith; last_is = grind arith }
  shown-after first mid new (Err (Refused e)) other h k whole = absurd (never-refused (world first.desk) (Refresh UpdatePanels) e refl refl h.0)
  shown-after first mid new (Err (Write fault)) other h k whole = cc
  shown-after first mid new one (Err (Refused e)) h k whole = absurd (never-refused (world mid.desk) (Refresh Doupdate) e refl refl k.0)
  shown-after first mid new one (Err (Write fault)) h k whole = cc

  known : (old : ScreenOver W) (fault : Option WriteFault) (steps : List (Step W)) (others : List Call) → AreMade seen name old steps
      → calls_in steps ≡ others ++ Refresh Doupdate ∷ [] → fault_after fault steps ≡ None → VirtualIsKnown (state_of (screen_after old steps))
  known old fault (last ∷ []) [] made ends none =
      let is : last.call ≡ Refresh Doupdate = cc in
      known-after old last.screen last.end (subst (λ c. CallEnds seen old c last.end last.screen) is made.0.ends) (rw is at none)
  known old fault (step ∷ steps) (c ∷ cs) made ends none = known step.screen _ steps cs made.1 (cc) none
  known old fault steps [] made ends none = cc
  known old fault [] others made ends none = cc

  shown : (old : ScreenOver W) (fault : Option WriteFault) (steps : List (Step W)) (others : List Call) → AreMade seen name old steps
      → calls_in steps ≡ others ++ Refresh UpdatePanels ∷ Refresh Doupdate ∷ [] → fault_after fault steps ≡ None → EndsShown (state_of (screen_after old steps))
  shown old fault (one ∷ last ∷ []) [] made ends none =
      let is_one : one.call ≡ Refresh UpdatePanels = cc in
      let is : last.call ≡ Refresh Doupdate = cc in
      shown-after old one.screen last.screen one.end last.end (subst (λ c. CallEnds seen old c one.end one.screen) is_one made.0.ends)
      (subst (λ c. CallEnds seen one.screen c last.end last.screen) is made.1.0.ends) (rw is at none)
  shown old fault (step ∷ steps) (c ∷ cs) made ends none = shown step.screen _ steps cs made.1 (cc) none
  shown old fault steps [] made ends none = cc
  shown old fault [] others made ends none = cc

  -- ---- the theorem

  pub history-shows : (old : ScreenOver W) (steps : List (Step W)) → AreMade seen name old steps
      → HistoryShows seen old (screen_after old steps) (calls_in steps) (last_fault steps)
  history-shows old steps made =
      let new = screen_after old steps in
      let a = agreed old steps made in
      let from_nothing : old.painter.last ≡ None → (t : Terminal) → HasSize old.desk.windows.lines old.desk.windows.columns t.picture
      → Agrees new.painter a.bytes t =
      λ nothing t fits. a.agrees [] t fits (Agrees-unknown old.painter nothing [] t t (nothing-in_profile t)) in
      record {
        bytes = a.bytes;
        taken = a.taken;
        agrees = a.agrees;
        shows_virtual = λ ends none stream t fits h.
            shows-last new.painter (wanted (world new.desk)) (known old None steps ends.0 made ends.1 none) (stream ++ a.bytes) t (a.agrees stream t fits h);
        shows_virtual_on_any = λ ends none nothing t fits.
            shows-last new.painter (wanted (world new.desk)) (known old None steps ends.0 made ends.1 none) a.bytes t (from_nothing nothing t fits);
        shows = λ ends none stream t fits h. shows-whole (state_of new) (shown old None steps ends.0 made ends.1 none) (stream ++ a.bytes) t (a.agrees stream t fits h);
        shows_on_any = λ ends none nothing t fits. shows-whole (state_of new) (shown old None steps ends.0 made ends.1 none) a.bytes t (from_nothing nothing t fits);
      }

  -- ---- a list of calls that are all made

  pub all-shown : {old new : ScreenOver W} {calls : List Call} {end : RunAllEnd} → RunsAll seen name old calls end new
      → HistoryShows seen old new calls end.fault
  all-shown {old} run =
      subst (λ (p : ScreenOver W × List Call × Option WriteFault). HistoryShows seen old p.0 p.1 p.2) (λ i. (run.left i, run.calls_are i, sym run.fault i))
      (history-shows old run.steps run.made)

  pub history-ends : {old new : ScreenOver W} {calls : List Call} {end : RunAllEnd} → RunsAll seen name old calls end new
      → HistoryEnds seen name old calls end new
  history-ends {old} run = record {
    run = run;
    shown = λ first rest parts. history-shows old first (made-front old first rest (subst (AreMade seen name old) parts run.made));
  }

  -- the size stays
  pub history-keeps_size : {old new : ScreenOver W} {calls : List Call} {end : RunAllEnd} → RunsAll seen name old calls end new → KeepsSize old.desk new.desk
  history-keeps_size {old} run = subst (λ (s : ScreenOver W). KeepsSize old.desk s.desk) run.left (agreed old run.steps run.made).size

  pub one-more : (old mid new : ScreenOver W) (calls : List Call) (i : ℕ) (call : Call) (end : Result Reply Fault) (before : RunAllEnd)
      → RunsAll seen name old (take i calls) before mid
      → i < length calls → CallMade seen name mid (get_or calls i call) end new
      → RunsAll seen name old (take (i + 1) calls) (counted before (get_or calls i call) end) new
  one-more old mid new calls i call end before run h made =
      let step : Step W = record { call = get_or calls i call; end = end; screen = new } in
      record {
        steps = run.steps ++ step ∷ [];
        calls_are = map-append _ run.steps (step ∷ []) ∙ ap (λ cs. cs ++ step.call ∷ []) run.calls_are ∙ sym (take_more calls i call h);
        made = made-with_one old run.steps step run.made (subst (λ s. CallMade seen name s step.call end new) (sym run.left) made);
        left = screen-after_one old run.steps step;
        done = ap (λ n. n + cond (is_ok end) 1 0) run.done ∙ sym (sum_by_push (λ (s : Step W). cond (is_done s) 1 0) run.steps step);
        refused = ap (λ n. n + cond (is_refused_step step) 1 0) run.refused ∙ sym (sum_by_push (λ (s : Step W). cond (is_refused_step s) 1 0) run.steps step);
        failed = ap (λ n. n + cond (is_cut step) 1 0) run.failed ∙ sym (sum_by_push (λ (s : Step W). cond (is_cut s) 1 0) run.steps step);
        composed = ap (λ n. n + cells_in step) run.composed ∙ sym (sum_by_push cells_in run.steps step);
        fault = ap (λ f. if is_doupdate step.call then cut_of end else f) run.fault ∙ sym (fault-after_one None run.steps step);
      }

-- a call is accepted or refused, or it is cut short
pub counted-once : (done refused failed i : ℕ) (end : Result Reply Fault) → done + refused + failed ≡ i
    → done + cond (is_ok end) 1 0 + (refused + cond (refuses end) 1 0) + (failed + cond (is_some (cut_of end)) 1 0) ≡ i + 1
counted-once done refused failed i (Ok reply) h = omega arith
counted-once done refused failed i (Err (Refused e)) h = omega arith
counted-once done refused failed i (Err (Write fault)) h = omega arith
