-- Given cells, put on a desk: where damage covers what the edit may change, what it leaves is a desk.
use Rattle.std.specs.Prelude.{◌≡◌, ◌<◌, ◌||◌}
use Rattle.compose.specs.{ℕ, Bool, true, false, Option, List, Ok, ap, refl, subst, sym, ◌∙◌, first_of, Refusal, Edit, World, IsSound, edits, after_edit, edit_shows_at}
use Rattle.compose.specs.{picture, shown, shown_at, world_edited, Columns, Reply, WindowTable, windows, panels, Damages, is_among, CellsGiven, ChangedDamaging, DeskTable, IsDesk}
use Rattle.compose.specs.{edit_shows_in, is_damaged_line, world}
use Rattle.world.proofs.Fits.{FitsEdit}
use Rattle.world.proofs.Sizes.{SameSize, size-edit}
use Rattle.world.proofs.SoundCalls.{sound-edited}
use Rattle.world.proofs.WritingLaws.{found-edit}
use Rattle.picture.proofs.DamageLaws.{damages-line}
use Rattle.compose.proofs.DamageCovers.{off-both}

module _ (old : DeskTable) (w : WindowTable) (d : List (Option Columns)) (edit : Edit) (h : IsDesk old) (fits : FitsEdit (windows old.windows) edit) where
  abbrev new : DeskTable
  new = record old { windows = w; damage = d }

  module _ (is : windows w ≡ after_edit (windows old.windows) edit) (damages : Damages old.windows.columns (edit_shows_at (windows old.windows) (panels old.panels) edit) old.damage d) where
    left : world new ≡ world_edited (world old) edit
    left = λ i. record (world old) { windows = is i }

    size : SameSize (windows w) (windows old.windows)
    size = subst (λ ws. SameSize ws (windows old.windows)) (sym is) (size-edit (windows old.windows) edit)

    picture-kept : (y x : ℕ) → y < old.windows.lines → x < old.windows.columns → edit_shows_at (windows old.windows) (panels old.panels) edit y x ≡ false
        → picture (world new) y x ≡ picture (world old) y x
    picture-kept y x below inside free =
        ap (λ (v : World). picture v y x) left ∙ ap (shown old.pairs) (found-edit (windows old.windows) (panels old.panels) edit y x h.sound.windows below inside free)

    shown-after : (y x : ℕ) → y < w.lines → x < w.columns → is_among d y x ≡ false → shown_at old.virtual.picture (y, x) ≡ picture (world new) y x
    shown-after y x below inside free =
        let on_line : y < old.windows.lines = subst (λ n. y < n) size.lines below in
        let on_column : x < old.windows.columns = subst (λ n. x < n) size.columns inside in
        let off = off-both _ _ _ (damages.covers y x (subst (λ n. y < n) (sym h.covered.height) on_line) on_column) (damages.keeps y x) free in
        h.covered.shown y x on_line on_column off.1 ∙ sym (picture-kept y x on_line on_column off.0)

    few-after : (line : ℕ) → is_damaged_line new line ≡ true → (is_damaged_line old line || edit_shows_in (world old) edit line) ≡ true
    few-after line damaged = damages-line old.windows.columns _ old.damage d damages line damaged

    sound-after : IsSound (world new)
    sound-after = subst IsSound (sym left) (sound-edited (world old) edit h.sound fits)

    desk-after : IsDesk new
    desk-after = record {
      sound = sound-after;
      covered = record {
        height = damages.height ∙ h.covered.height ∙ sym size.lines;
        within = λ y. rw (size.columns) (damages.within y (h.covered.within y));
        shown = shown-after;
      };
      changes = h.changes ∙ sym size.lines;
    }

  -- it is accepted
  pub given-accepted : (tests : List (Bool × Refusal)) (reply : Reply) (done : Unit {0}) → ChangedDamaging old.windows (panels old.panels) (first_of tests) (edits edit) old.damage (Ok reply) w d
      → IsDesk new × CellsGiven old tests edit (Ok done) new
  given-accepted tests reply done m =
      let is = m.call.changed in (
        desk-after is m.damaged,
        record {
          refused = m.call.refused;
          unchanged = tt;
          written = left is m.damaged;
          damages = few-after is m.damaged;
          sound = sound-after is m.damaged;
          rest = refl;
        },
      )
