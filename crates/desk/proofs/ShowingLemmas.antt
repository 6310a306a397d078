-- What a terminal shows after a run of calls.
use Rattle.std.specs.Prelude.{◌≡◌, ◌∷◌, ◌++◌}
use Rattle.desk.specs.{arith, ℕ, Bool, IsUpdateText, List, [], take, Some, None, Result, Ok, Err, is_some, refl, sym, ap, ◌∙◌, subst, append_assoc, append-nil, Appends-trans, ⊤, MatchOption, shown, shown_blank}
use Rattle.desk.specs.{HasSize, IsSound, World, picture, world_after, composed_windows, Refusal, never-refused, Terminal, Leads, LeadsWithBreaks, showing, count_after, Seen, Agrees, PainterState}
use Rattle.desk.specs.{ShownPicture, WriteFault, IsWithin, State, after, wanted, state_of, HasOneSize, KeepsSize, ScreenOver, Outcome, MayAnswer, Run, all_sent, state_after, state_at_end, DeskTable}
use Rattle.desk.specs.{world, CallEnds, IsCut, Makes, RunEnds, cut_of, CallMade, EndsInDoupdate, EndsInUpdate, ShowsWorld, RunShows, Call, UpdatePanels, Doupdate, Reply}
use Rattle.cell.proofs.PictureLemmas.{HasSize-lines_from, cell_or-lines_from}
use Rattle.world.proofs.RefreshLaws.{found-unmarked, cursor-unmarked}
use Rattle.ecma.proofs.Joining.{Leads-append}
use Rattle.ecma.proofs.Leading.{Leads-nothing}
use Rattle.ecma.proofs.PictureSizes.{size-effects}
use Rattle.paint.proofs.Repair.{Agrees-update, Agrees-fault, IsKnown, reads-known}
use Rattle.desk.proofs.MakesLemmas.{Makes-nothing, Makes-one}
use Rattle.world.proofs.Sizes.{size-call}
use Rattle.world.specs.declared.call.Call.TheVariants as calls
use Rattle.desk.specs.declared.screen.RunEnd.{RunEnd}
use Rattle.desk.specs.declared.screen.Fault.{Fault}
use Rattle.desk.specs.declared.screen.Fault.TheVariants.{Refused, Write}

abbrev pub after_update_panels : World → World
after_update_panels w = world_after w (calls.Refresh UpdatePanels)

abbrev pub after_doupdate : World → World
after_doupdate w = world_after w (calls.Refresh Doupdate)

-- ---- sizes

-- the screen and its painter have this size
pub record HasScreenSize (lines columns : ℕ) (s : State) : Type 0 where
  pub lines_of : s.world.windows.lines ≡ lines
  pub columns_of : s.world.windows.columns ≡ columns
  pub painter_lines : s.painter.lines ≡ lines
  pub painter_columns : s.painter.columns ≡ columns

still-sized : {lines columns : ℕ} {s t : State} → IsWithin s t → HasScreenSize lines columns t → HasScreenSize lines columns s
still-sized same h = grind arith

size-painter : (s : State) (call : Call) → ((after s call).painter.lines ≡ s.painter.lines) × ((after s call).painter.columns ≡ s.painter.columns)
size-painter s (calls.Refresh Doupdate) = (refl, refl)
size-painter s call = (refl, refl)

size-after : (lines columns : ℕ) (s : State) (call : Call) (answer : Result Reply Refusal) → HasScreenSize lines columns s → HasScreenSize lines columns (state_after s call answer)
size-after lines columns s call answer h = grind (arith, size-call, size-painter)

pub size-at_end : (lines columns : ℕ) (s : State) (cs : List Call) (outcomes : List Outcome) → HasScreenSize lines columns s → HasScreenSize lines columns (state_at_end s cs outcomes)
size-at_end lines columns s [] outcomes h = h
size-at_end lines columns s (c ∷ cs) [] h = h
size-at_end lines columns s (c ∷ cs) (o ∷ os) h = size-at_end lines columns (state_after s c o.answer) cs os (size-after lines columns s c o.answer h)

-- ---- over a run

-- What holds of a painter and of all that was sent holds after a run, if it goes on over each doupdate.
module _ (lines columns : ℕ) (P : PainterState → List ℕ → Type 0)
    (update : (painter : PainterState) (clear : Bool) (shown : ShownPicture) (bytes text : List ℕ) → painter.lines ≡ lines → painter.columns ≡ columns → IsUpdateText painter clear shown text
    → P painter bytes → P (record painter { last = Some shown }) (bytes ++ text)) where
  unsent : (painter : PainterState) (bytes sent : List ℕ) → sent ≡ [] → P painter bytes → P painter (bytes ++ sent)
  unsent painter bytes sent none h = grind (arith, append-nil)

  over-call : (s : State) (call : Call) (answer : Result Reply Refusal) (bytes sent : List ℕ) → HasScreenSize lines columns s → MayAnswer s call answer sent → P s.painter bytes
      → P (state_after s call answer).painter (bytes ++ sent)
  over-call s call (Err e) bytes sent size may h = unsent s.painter bytes sent may.1 h
  over-call s (calls.Refresh Doupdate) (Ok r) bytes sent size may h =
      update s.painter s.world.virtual.clear (wanted s.world) bytes sent size.painter_lines size.painter_columns may.1.0 h
  over-call s call (Ok r) bytes sent size may h = unsent s.painter bytes sent may.1.0 h

  over-run : (s : State) (cs : List Call) (outcomes : List Outcome) (bytes : List ℕ) → HasScreenSize lines columns s → Run s cs outcomes → P s.painter bytes
      → P (state_at_end s cs outcomes).painter (bytes ++ all_sent outcomes)
  over-run s [] [] bytes size run h = unsent s.painter bytes [] refl h
  over-run s (c ∷ cs) (o ∷ os) bytes size run h =
      subst (P (state_at_end (state_after s c o.answer) cs os).painter) (append_assoc bytes o.sent (all_sent os))
      (over-run (state_after s c o.answer) cs os (bytes ++ o.sent) (size-after lines columns s c o.answer size) run.1 (over-call s c o.answer bytes o.sent size run.0 h))
  over-run s cs outcomes bytes size run h = absurd run

-- the bytes of a run alone, read by a terminal
pub record LeadsOn (lines columns : ℕ) (t : Terminal) (painter : PainterState) (bytes : List ℕ) : Type 0 where
  pub last : Terminal
  pub leads : Leads bytes t last
  pub fits : HasSize lines columns last.picture
  pub known : IsKnown painter.last last

leads-update : (lines columns : ℕ) (t : Terminal) (painter : PainterState) (clear : Bool) (shown : ShownPicture) (bytes text : List ℕ) → painter.lines ≡ lines → painter.columns ≡ columns
    → IsUpdateText painter clear shown text → LeadsOn lines columns t painter bytes → LeadsOn lines columns t (record painter { last = Some shown }) (bytes ++ text)
leads-update lines columns t painter clear shown bytes text same_lines same_columns is_text h =
    let u = showing shown.picture shown.cursor in
    let leads = is_text.shows h.last (reads-known painter clear h.last (rw (same_lines, same_columns) h.fits) h.known) in
    record { last = u; leads = Leads-append bytes text t h.last u h.leads leads; fits = size-effects lines columns leads.items h.last u h.fits leads.have_effect; known = refl }

-- ---- a run that ends in doupdate

-- the painter knows that it showed the virtual screen
abbrev pub VirtualIsKnown : State → Type 0
VirtualIsKnown s = s.painter.last ≡ Some (wanted s.world)

still-known : {s t : State} → IsWithin s t → VirtualIsKnown t → VirtualIsKnown s
still-known same h = grind arith

pub virtual-known : (s : State) (others : List Call) (outcomes : List Outcome) → Run s (others ++ calls.Refresh Doupdate ∷ []) outcomes
    → VirtualIsKnown (state_at_end s (others ++ calls.Refresh Doupdate ∷ []) outcomes)
virtual-known s [] (o ∷ []) run = grind (arith, never-refused)
virtual-known s [] (o ∷ p ∷ os) run = absurd run.1
virtual-known s (c ∷ cs) (o ∷ os) run = virtual-known (state_after s c o.answer) cs os run.1
virtual-known s others outcomes run = absurd run

-- ---- a run that ends in update_panels and doupdate

-- the state after the two calls
pub record EndsShown (s : State) : Type 0 where
  pub before : World
  pub world_is : s.world ≡ after_doupdate (after_update_panels before)
  pub last_is : s.painter.last ≡ Some (wanted (after_update_panels before))

still-shown : {s t : State} → IsWithin s t → EndsShown t → EndsShown s
still-shown same h = grind arith

pub ends-shown : (s : State) (others : List Call) (outcomes : List Outcome) → Run s (others ++ calls.Refresh UpdatePanels ∷ calls.Refresh Doupdate ∷ []) outcomes
    → EndsShown (state_at_end s (others ++ calls.Refresh UpdatePanels ∷ calls.Refresh Doupdate ∷ []) outcomes)
ends-shown s [] (o ∷ []) run = absurd run.1
ends-shown s [] (o ∷ p ∷ []) run = grind (arith, never-refused)
ends-shown s [] (o ∷ p ∷ q ∷ os) run = absurd run.1.1
ends-shown s (c ∷ cs) (o ∷ os) run = ends-shown (state_after s c o.answer) cs os run.1
ends-shown s others outcomes run = absurd run

-- what the doupdate showed is the world after it
pub shows-world : (w : World) → ShowsWorld (after_doupdate (after_update_panels w)) (showing (wanted (after_update_panels w)).picture (wanted (after_update_panels w)).cursor)
shows-world w = record {
  size = HasSize-lines_from w.windows.lines w.windows.columns (picture w);
  cells = λ y x in_lines in_columns.
      cell_or-lines_from shown_blank w.windows.lines w.windows.columns (picture w) y x in_lines in_columns
      ∙ ap (shown w.pairs) (sym (found-unmarked w.windows.window (composed_windows w) w.panels y x));
  cursor = λ i. Some (sym (cursor-unmarked w.windows.window (composed_windows w) w.panels) i);
  rendition = refl;
}

-- and so it is where these two calls were the last
pub shows-shown : (s : State) (e : EndsShown s) → ShowsWorld s.world (showing (wanted (after_update_panels e.before)).picture (wanted (after_update_panels e.before)).cursor)
shows-shown s e =
    subst (λ w. ShowsWorld w (showing (wanted (after_update_panels e.before)).picture (wanted (after_update_panels e.before)).cursor)) (sym e.world_is) (shows-world e.before)

-- ---- the theorem of the screen

-- what the painter showed last is shown by a terminal that agrees with it
pub shows-last : (painter : PainterState) (shown : ShownPicture) → painter.last ≡ Some shown → (stream : List ℕ) (t : Terminal) → Agrees painter stream t
    → LeadsWithBreaks stream t (showing shown.picture shown.cursor)
shows-last painter shown last stream t h = subst (λ o. MatchOption o ⊤ (λ shown. LeadsWithBreaks stream t (showing shown.picture shown.cursor))) last h.leads

pub shows-whole : (s : State) → EndsShown s → (stream : List ℕ) (t : Terminal) → Agrees s.painter stream t → (u : Terminal) × LeadsWithBreaks stream t u × ShowsWorld s.world u
shows-whole s e stream t h =
    let shown = wanted (after_update_panels e.before) in
    (showing shown.picture shown.cursor, shows-last s.painter shown e.last_is stream t h, shows-shown s e)

pub screen-size : {W : Type 0} (s : ScreenOver W) → HasOneSize s.desk s.painter → HasScreenSize s.desk.windows.lines s.desk.windows.columns (state_of s)
screen-size s h = record { lines_of = refl; columns_of = refl; painter_lines = h.lines; painter_columns = h.columns }

module _ {W : Type 0} (seen : W → Seen) (old at_stop new : ScreenOver W) (cs made : List Call) (outcomes : List Outcome) (makes : Makes seen old made outcomes at_stop)
    (one_size : HasOneSize old.desk old.painter) where
  end : State
  end = state_at_end (state_of old) made outcomes

  agrees-stop : (stream : List ℕ) (t : Terminal) → HasSize old.desk.windows.lines old.desk.windows.columns t.picture → Agrees old.painter stream t
      → Agrees at_stop.painter (stream ++ all_sent outcomes) t
  agrees-stop stream t fits h =
      subst (λ p. Agrees p (stream ++ all_sent outcomes) t) (sym makes.state.painter)
      (over-run old.desk.windows.lines old.desk.windows.columns (λ painter bytes. Agrees painter bytes t)
      (λ painter clear shown bytes text lines columns is_text h. Agrees-update painter clear shown bytes text t (rw (lines, columns) fits) h is_text)
      (state_of old) made outcomes stream (screen-size old one_size) makes.run h)

  ended : EndsInUpdate made → EndsShown (state_of at_stop)
  ended ends = still-shown makes.state
      (subst (λ l. EndsShown (state_at_end (state_of old) l outcomes)) (sym ends.1)
      (ends-shown (state_of old) ends.0 outcomes (subst (λ l. Run (state_of old) l outcomes) ends.1 makes.run)))

  known : EndsInDoupdate made → VirtualIsKnown (state_of at_stop)
  known ends = still-known makes.state
      (subst (λ l. VirtualIsKnown (state_at_end (state_of old) l outcomes)) (sym ends.1)
      (virtual-known (state_of old) ends.0 outcomes (subst (λ l. Run (state_of old) l outcomes) ends.1 makes.run)))

  leads-stop : old.painter.last ≡ None → (t : Terminal) → HasSize old.desk.windows.lines old.desk.windows.columns t.picture
      → LeadsOn old.desk.windows.lines old.desk.windows.columns t at_stop.painter (all_sent outcomes)
  leads-stop nothing t fits =
      subst (λ p. LeadsOn old.desk.windows.lines old.desk.windows.columns t p (all_sent outcomes)) (sym makes.state.painter)
      (over-run old.desk.windows.lines old.desk.windows.columns (LeadsOn old.desk.windows.lines old.desk.windows.columns t) (leads-update old.desk.windows.lines old.desk.windows.columns t)
      (state_of old) made outcomes [] (screen-size old one_size) makes.run (record { last = t; leads = Leads-nothing t; fits = fits; known = rw nothing tt }))

  -- every call was made, and no write failed: a terminal shows what the painter showed last
  shows-last_on_any : (shown : ShownPicture) → at_stop.painter.last ≡ Some shown → old.painter.last ≡ None → (t : Terminal)
      → HasSize old.desk.windows.lines old.desk.windows.columns t.picture → Leads (all_sent outcomes) t (showing shown.picture shown.cursor)
  shows-last_on_any shown last nothing t fits =
      let r = leads-stop nothing t fits in
      subst (Leads (all_sent outcomes) t) (subst (λ o. MatchOption o ⊤ (λ shown. r.last ≡ showing shown.picture shown.cursor)) last r.known) r.leads

  shows-whole_on_any : EndsInUpdate made → old.painter.last ≡ None → (t : Terminal) → HasSize old.desk.windows.lines old.desk.windows.columns t.picture
      → (u : Terminal) × Leads (all_sent outcomes) t u × ShowsWorld (world at_stop.desk) u
  shows-whole_on_any ends nothing t fits =
      let e = ended ends in
      let shown = wanted (after_update_panels e.before) in
      (showing shown.picture shown.cursor, shows-last_on_any shown e.last_is nothing t fits, shows-shown (state_of at_stop) e)

  pub shows-unbroken : cs ≡ made → new ≡ at_stop → RunShows seen old new cs None
  shows-unbroken whole same = subst (λ s. RunShows seen old s cs None) (sym same) (record {
    bytes = all_sent outcomes;
    taken = makes.writes.taken;
    agrees = agrees-stop;
    shows_virtual = λ ends none stream t fits h. shows-last at_stop.painter _ (known (ends.0, sym whole ∙ ends.1)) (stream ++ all_sent outcomes) t (agrees-stop stream t fits h);
    shows_virtual_on_any = λ ends none. shows-last_on_any (wanted (world at_stop.desk)) (known (ends.0, sym whole ∙ ends.1));
    shows = λ ends none stream t fits h. shows-whole (state_of at_stop) (ended (ends.0, sym whole ∙ ends.1)) (stream ++ all_sent outcomes) t (agrees-stop stream t fits h);
    shows_on_any = λ ends none. shows-whole_on_any (ends.0, sym whole ∙ ends.1);
  })

  pub shows-broken : (fault : WriteFault) → IsCut seen at_stop new fault → RunShows seen old new cs (Some fault)
  shows-broken fault cut = record {
    bytes = all_sent outcomes ++ take fault.sent cut.text;
    taken = Appends-trans _ _ _ _ _ makes.writes.taken cut.bytes;
    agrees = λ stream t fits h.
        let size = still-sized makes.state (size-at_end old.desk.windows.lines old.desk.windows.columns (state_of old) made outcomes (screen-size old one_size)) in
        subst (λ p. Agrees p (stream ++ (all_sent outcomes ++ take fault.sent cut.text)) t) (ap (λ (s : State). s.painter) (sym cut.state))
        (subst (λ bytes. Agrees (record at_stop.painter { last = None }) bytes t) (append_assoc stream (all_sent outcomes) (take fault.sent cut.text))
        (Agrees-fault at_stop.painter at_stop.desk.virtual.clear (wanted (world at_stop.desk)) (stream ++ all_sent outcomes) cut.text fault.sent t (rw (size.painter_lines, size.painter_columns) fits)
        (agrees-stop stream t fits h) cut.is_text cut.within));
    shows_virtual = λ ends none. absurd (let never : Some fault ≡ None = none in cc);
    shows_virtual_on_any = λ ends none. absurd (let never : Some fault ≡ None = none in cc);
    shows = λ ends none. absurd (let never : Some fault ≡ None = none in cc);
    shows_on_any = λ ends none. absurd (let never : Some fault ≡ None = none in cc);
  }

pub run-shows : {W : Type 0} (seen : W → Seen) (old new : ScreenOver W) (cs : List Call) (end : RunEnd) → HasOneSize old.desk old.painter → RunEnds seen old cs end new
    → RunShows seen old new cs end.fault
run-shows seen old new cs end one_size h = grind (arith, shows-unbroken, shows-broken, append-nil)

-- ---- one call

pub call-shows : {W : Type 0} (seen : W → Seen) (old new : ScreenOver W) (call : Call) (r : Result Reply Fault) → HasOneSize old.desk old.painter → CallEnds seen old call r new
    → RunShows seen old new (call ∷ []) (cut_of r)
call-shows seen old new call (Ok reply) one_size h = let made = Makes-one seen old new call (Ok reply) h in shows-unbroken seen old new new (call ∷ []) (call ∷ []) _ made.1 one_size refl refl
call-shows seen old new call (Err (Refused e)) one_size h = let made = Makes-one seen old new call (Err e) h in shows-unbroken seen old new new (call ∷ []) (call ∷ []) _ made.1 one_size refl refl
call-shows seen old new call (Err (Write fault)) one_size h =
    shows-broken seen old old new (call ∷ []) [] [] (Makes-nothing seen old) one_size fault h.1

-- ---- the size stays

-- the world of the state has the size of the desk
size-of : {W : Type 0} (old new : ScreenOver W) → HasScreenSize old.desk.windows.lines old.desk.windows.columns (state_of new) → KeepsSize old.desk new.desk
size-of old new h = grind arith

pub cut-keeps_size : {W : Type 0} (seen : W → Seen) (old new : ScreenOver W) (fault : WriteFault) → IsCut seen old new fault → KeepsSize old.desk new.desk
cut-keeps_size seen old new fault h = grind arith

pub call-keeps_size : {W : Type 0} (seen : W → Seen) (old new : ScreenOver W) (call : Call) (r : Result Reply Fault) → HasOneSize old.desk old.painter → CallEnds seen old call r new
    → KeepsSize old.desk new.desk
call-keeps_size seen old new call (Ok reply) one_size h = size-of old new
    (still-sized h.state (size-after old.desk.windows.lines old.desk.windows.columns (state_of old) call (Ok reply) (screen-size old one_size)))
call-keeps_size seen old new call (Err (Refused e)) one_size h = subst (λ s. KeepsSize old.desk s.desk) (sym h.1) (record { lines = refl; columns = refl })
call-keeps_size seen old new call (Err (Write fault)) one_size h = cut-keeps_size seen old new fault h.1

pub makes-keep_size : {W : Type 0} (seen : W → Seen) (old new : ScreenOver W) (cs : List Call) (outcomes : List Outcome) → HasOneSize old.desk old.painter → Makes seen old cs outcomes new
    → KeepsSize old.desk new.desk
makes-keep_size seen old new cs outcomes one_size h = grind (arith, size-of, still-sized, size-at_end, screen-size)

pub then-keeps_size : (old mid new : DeskTable) → KeepsSize old mid → KeepsSize mid new → KeepsSize old new
then-keeps_size old mid new h k = grind arith

pub run-keeps_size : {W : Type 0} (seen : W → Seen) (old new : ScreenOver W) (cs : List Call) (end : RunEnd) → HasOneSize old.desk old.painter → RunEnds seen old cs end new
    → KeepsSize old.desk new.desk
run-keeps_size seen old new cs end one_size h = grind (arith, then-keeps_size, makes-keep_size, cut-keeps_size)

-- all that is known of it follows
pub call-made : {W : Type 0} (seen : W → Seen) (name : W → ℕ) (old new : ScreenOver W) (call : Call) (r : Result Reply Fault) → HasOneSize old.desk old.painter → CallEnds seen old call r new
    → (seen new.writer).failures ≡ count_after (is_some (cut_of r)) (seen old.writer).failures → name new.writer ≡ name old.writer → IsSound (world new.desk)
    → CallMade seen name old call r new
call-made seen name old new call r one_size h failures same sound =
    record { ends = h; shown = call-shows seen old new call r one_size h; failures = failures; same = same; sound = sound; size = call-keeps_size seen old new call r one_size h }
