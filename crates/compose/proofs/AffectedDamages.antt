-- What a change damages, in terms of the windows before it.
use Rattle.std.specs.Prelude.{◌≡◌, ◌≤◌}
use Rattle.compose.specs.{ℕ, Ok, Option, Some, List, refl, sym, subst, ◌∙◌, arith, MatchOption, ⊤, option_map, Refusal, Rect, Panels, HasPlace, WindowMap, Windows, Change, after_change, after_edit}
use Rattle.compose.specs.{asks, deletes, edit_frame, edit_window, edits, makes, marks, moves, shifts, change_shows_at, frame_shows_at, Columns, WindowTable, windows, Damages, IsPossible, affected_by}
use Rattle.compose.specs.{any_shows_at, Affects, ChangedDamaging}
use Rattle.world.proofs.MoveLaws.{move_shows-moved}
use Rattle.world.proofs.PictureLaws.{SameView, frame_shows-same}
use Rattle.world.proofs.Sizes.{SameSize, size-change}
use Rattle.world.proofs.WritingLaws.{inside-edit, there-still, view-edit}
use Rattle.picture.proofs.DamageLaws.{damages-as}
use Rattle.compose.specs.declared.damaging.Affected.{Affected}
use Rattle.compose.specs.declared.damaging.Affected.TheVariants.{Written}
use Rattle.compose.specs.declared.dispatch.Outcome.{Outcome}
use Rattle.compose.proofs.DeskLemmas.{refused-as}

-- a rectangle that lies in the window before an edit lies in it after it
still-possible : (old new : WindowMap) → SameView new old → (w : ℕ) (frame : Option Rect)
    → ((r : Rect) → frame ≡ Some r → (r.top ≤ r.bottom) × (r.left ≤ r.right) × HasPlace old w r.bottom r.right)
    → MatchOption (option_map (λ r. Written (record { 0 = w }) r) frame) ⊤ (IsPossible new)
still-possible old new view w frame inside = grind (arith, there-still)

written-shows : (window : WindowMap) (panels : Panels) (w : ℕ) (frame : Option Rect) (y x : ℕ)
    → any_shows_at window panels (option_map (λ r. Written (record { 0 = w }) r) frame) y x ≡ frame_shows_at window panels w frame y x
written-shows window panels w frame y x = grind arith

possible-after : (old : Windows) (change : Change) → MatchOption (affected_by old change) ⊤ (IsPossible (after_change old change).window)
possible-after old (asks reply) = tt
possible-after old (edits edit) =
    still-possible old.window (after_edit old edit).window (view-edit old edit) (edit_window edit) (edit_frame old edit) (inside-edit old edit)
possible-after old (marks test change) = tt
possible-after old (makes n a) = tt
possible-after old (deletes w) = tt
possible-after old (moves w place) = tt
possible-after old (shifts w place) = tt

shows-after : (old : Windows) (panels : Panels) (change : Change) (y x : ℕ)
    → any_shows_at (after_change old change).window panels (affected_by old change) y x ≡ change_shows_at old panels change y x
shows-after old panels (asks reply) y x = refl
shows-after old panels (edits edit) y x =
    written-shows (after_edit old edit).window panels (edit_window edit) (edit_frame old edit) y x
    ∙ frame_shows-same (after_edit old edit).window old.window (view-edit old edit) panels (edit_window edit) (edit_frame old edit) y x
shows-after old panels (marks test change) y x = refl
shows-after old panels (makes n a) y x = refl
shows-after old panels (deletes w) y x = refl
shows-after old panels (moves w place) y x = refl
shows-after old panels (shifts w place) y x = move_shows-moved old w place.0 place.1 panels y x

possible-for : (old new : Windows) (change : Change) (affected : Option Affected) → new ≡ after_change old change → affected ≡ affected_by old change
    → MatchOption affected ⊤ (IsPossible new.window)
possible-for old new change affected is by = rw (is, by) (possible-after old change)

module _ (old new : WindowTable) (refusal : Option Refusal) (change : Change) (outcome : Outcome) (a : Affects old refusal change (Ok outcome) new) where
  changed : (windows new ≡ after_change (windows old) change) × (outcome.affected ≡ affected_by (windows old) change)
  unfolding Affects
  changed = (a.0.changed, a.1)

  same-size : SameSize (windows new) (windows old)
  same-size = subst (λ (ws : Windows). SameSize ws (windows old)) (sym changed.0) (size-change (windows old) change)

  pub lines-affected : new.lines ≡ old.lines
  lines-affected = same-size.lines

  pub possible-affected : MatchOption outcome.affected ⊤ (IsPossible (windows new).window)
  possible-affected = possible-for (windows old) (windows new) change outcome.affected changed.0 changed.1

  shows : (panels : Panels) (y x : ℕ) → any_shows_at (windows new).window panels outcome.affected y x ≡ change_shows_at (windows old) panels change y x
  shows panels y x = (λ i. any_shows_at (changed.0 i).window panels (changed.1 i) y x) ∙ shows-after (windows old) panels change y x

  -- it is accepted with its answer, where what it affects is damaged
  pub damaging : (panels : Panels) (before after : List (Option Columns)) → Damages new.columns (any_shows_at (windows new).window panels outcome.affected) before after
      → ChangedDamaging old panels refusal change before (Ok outcome.reply) new after
  unfolding Affects
  damaging panels before after h = grind (arith, refused-as, changed, same-size, damages-as, shows)
