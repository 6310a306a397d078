-- States with more lines damaged: the outcomes that calls may have in one, they may have in the other.
use Rattle.std.specs.Prelude.{◌≡◌, ◌≤◌, if◌then◌else◌, ◌∷◌}
use Rattle.desk.specs.{ℕ, Bool, true, false, List, [], Result, Ok, Err, subst, sym, ◌∙◌, arith, mul-le-mul_right, sum_by-le-sum_by, count_by, MatchOption, None, Some, ⊤, Picture, Refusal}
use Rattle.desk.specs.{PainterState, ShownPicture, IsSound, World, affected_after, is_doupdate, Called, MayRead, DifferOnly, DeskTable, world, HasOneSize, IsScreen, IsWithin, ScreenOver, State, after}
use Rattle.desk.specs.{MayAnswer, Outcome, Run, state_after, state_at_end, Call, UpdatePanels, Reply}
use Rattle.desk.specs.{ap, CellsGiven, Edit, KeepsSize, arranges, changes, edits}
use Rattle.world.proofs.Sizes.{size-effect}
use Rattle.compose.proofs.DeskLemmas.{size-called, sound-called}
use Rattle.world.specs.declared.call.Call.TheVariants as calls

-- ---- lines

-- the first lines are among the second
abbrev pub AreAmong : (ℕ → Bool) → (ℕ → Bool) → Type 0
AreAmong few more = (line : ℕ) → few line ≡ true → more line ≡ true

lines-among : (w : World) (few more : ℕ → Bool) (call : Call) → AreAmong few more → AreAmong (affected_after w few call) (affected_after w more call)
lines-among w few more call h = grind arith

count-among : (few more : ℕ → Bool) → AreAmong few more → (xs : List ℕ) → count_by few xs ≤ count_by more xs
count-among few more h xs = grind (arith, sum_by-le-sum_by)

read-among : (w : World) (few more : ℕ → Bool) (cells : ℕ) → AreAmong few more → MayRead w few cells → MayRead w more cells
read-among w few more cells h may = grind (arith, mul-le-mul_right, count-among)

-- ---- states

-- a call that sends nothing leaves the painter as it was
pub painter-quiet : (s : State) (call : Call) → is_doupdate call ≡ false → (after s call).painter ≡ s.painter
painter-quiet s call other = grind arith

pub IsWithin-refl : (s : State) → IsWithin s s
IsWithin-refl s = grind arith

pub IsWithin-trans : {s t u : State} → IsWithin s t → IsWithin t u → IsWithin s u
IsWithin-trans h k = grind arith

pub MayAnswer-within : {s t : State} (call : Call) (answer : Result Reply Refusal) (sent : List ℕ) → IsWithin s t → MayAnswer s call answer sent → MayAnswer t call answer sent
MayAnswer-within {s} {t} (calls.Refresh UpdatePanels) (Ok r) sent h may =
    let told = rw h.world at may in (told.0, (told.1.0, (told.1.1.0, read-among t.world s.damaged t.damaged told.1.1.0 h.damaged told.1.1.1, told.1.1.2)))
MayAnswer-within call answer sent h may = grind arith

pub state_after-within : {s t : State} (call : Call) (answer : Result Reply Refusal) → IsWithin s t → IsWithin (state_after s call answer) (state_after t call answer)
state_after-within call answer h = grind (arith, lines-among)

pub state_at_end-within : {s t : State} (calls : List Call) (outcomes : List Outcome) → IsWithin s t → IsWithin (state_at_end s calls outcomes) (state_at_end t calls outcomes)
state_at_end-within [] outcomes h = h
state_at_end-within (c ∷ cs) [] h = h
state_at_end-within {s = s} {t = t} (c ∷ cs) (o ∷ os) h =
    state_at_end-within {s = state_after s c o.answer} {t = state_after t c o.answer} cs os (state_after-within c o.answer h)

pub Run-within : {s t : State} (calls : List Call) (outcomes : List Outcome) → IsWithin s t → Run s calls outcomes → Run t calls outcomes
Run-within [] [] h run = run
Run-within {s = s} {t = t} (c ∷ cs) (o ∷ os) h run =
    (MayAnswer-within c o.answer o.sent h run.0, Run-within {s = state_after s c o.answer} {t = state_after t c o.answer} cs os (state_after-within c o.answer h) run.1)
Run-within calls outcomes h run = absurd run

-- ---- what always holds of a screen

pub of-screen : {W : Type 0} {s t : ScreenOver W} → s ≡ t → IsScreen s.desk s.painter → HasOneSize t.desk t.painter × IsSound (world t.desk)
of-screen is h = grind arith

pub sound-taken : (w : World) → IsSound w → IsSound (record w { virtual = record w.virtual { clear = false } })
sound-taken w h = grind arith

-- a call adds what it changes to the changes
still-differ : (old new : DeskTable) (call : Call) (r : Result Reply Refusal) (shown : Picture) → Called old call r new → DifferOnly old.changes shown old.virtual.picture
    → DifferOnly new.changes shown new.virtual.picture
still-differ old new call (Ok reply) shown made h = record { others = λ y x none. h.others y x (made.6.keeps y x none) ∙ sym (made.6.same y x none) }
still-differ old new call (Err e) shown made h = subst (λ (t : DeskTable). DifferOnly t.changes shown t.virtual.picture) (sym made.1) h

pub screen-called : (old new : DeskTable) (call : Call) (r : Result Reply Refusal) (painter : PainterState) → Called old call r new → IsScreen old painter → IsScreen new painter
screen-called old new call r painter made h = record {
  sound = sound-called old new call r h.sound made;
  size = let sized = size-called old new call r made in record { lines = h.size.lines ∙ sym sized.0; columns = h.size.columns ∙ sym sized.1 };
  changed = elim painter.last as (λ o. MatchOption o ⊤ (λ (s : ShownPicture). DifferOnly old.changes s.picture old.virtual.picture)
      → MatchOption o ⊤ (λ (s : ShownPicture). DifferOnly new.changes s.picture new.virtual.picture)) [
        | None ↦ λ h. h
        | Some s ↦ still-differ old new call r s.picture made
      ] h.changed;
}

-- given cells change neither the virtual screen nor the changes of it
pub size-given : (old new : DeskTable) (tests : List (Bool × Refusal)) (edit : Edit) (r : Result (Unit {0}) Refusal) → CellsGiven old tests edit r new → KeepsSize old new
size-given old new tests edit (Ok done) h =
    let size = size-effect (world old) (arranges (changes (edits edit))) in
    record { lines = ap (λ (w : World). w.windows.lines) h.written ∙ size.lines; columns = ap (λ (w : World). w.windows.columns) h.written ∙ size.columns }
size-given old new tests edit (Err e) h = record { lines = ap (λ (t : DeskTable). t.windows.lines) h.unchanged; columns = ap (λ (t : DeskTable). t.windows.columns) h.unchanged }

pub screen-given : (old new : DeskTable) (tests : List (Bool × Refusal)) (edit : Edit) (r : Result (Unit {0}) Refusal) (painter : PainterState) → CellsGiven old tests edit r new → IsScreen old painter
    → IsScreen new painter
screen-given old new tests edit r painter h screen =
    let size = size-given old new tests edit r h in
    record {
      sound = h.sound;
      size = record { lines = screen.size.lines ∙ sym size.lines; columns = screen.size.columns ∙ sym size.columns };
      changed = subst (λ (t : DeskTable). MatchOption painter.last ⊤ (λ (s : ShownPicture). DifferOnly t.changes s.picture t.virtual.picture)) (sym h.rest) screen.changed;
    }
