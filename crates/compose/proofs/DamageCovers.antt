-- Where damage covers what an accepted call may change, the damage of a desk still covers all that differs after it, and few lines are
-- damaged: so it leaves a desk, and was made.
use Rattle.std.specs.Prelude.{◌≡◌, ◌<◌}
use Rattle.compose.specs.{ℕ, zero, suc, Bool, true, false, Option, None, replicate, refl, sym, ap, ◌∙◌, Ok, arith, slice_index_or, length-replicate, blank_picture, shown_at, shown_blank, windows}
use Rattle.compose.specs.{window_limit, World, first_world, picture, AreSoundWindows, is_update_panels, refusal, world_after, affects_place, Columns, Call, UpdatePanels, Reply, AddsChanges, is_among}
use Rattle.compose.specs.{Damages, Called, CountsReads, DamagesFew, MayLeave, MayTell, IsDesk, DeskTable, is_damaged_line, world}
use Rattle.world.specs.declared.call.Call.TheVariants as calls
use Rattle.world.proofs.Sizes.{size-call}
use Rattle.picture.proofs.DamageLaws.{damages-line}
use Rattle.world.proofs.CallLaws.{picture-kept, virtual-kept}
use Rattle.world.proofs.SoundCalls.{sound-call}
use Rattle.compose.proofs.DeskLemmas.{IsSound-first, world-left}

-- what covers two tests, where it doesn't hold
pub off-both : (one other cover : Bool) → (one ≡ true → cover ≡ true) → (other ≡ true → cover ≡ true) → cover ≡ false → (one ≡ false) × (other ≡ false)
off-both one other cover h k free = grind arith

-- a call that isn't update_panels, and leaves the count
uncounted-counts : (old new : DeskTable) (call : Call) (reply : Reply) → is_update_panels call ≡ false → new.cells_read ≡ old.cells_read → CountsReads old call reply new
uncounted-counts old new (calls.Refresh UpdatePanels) reply other same = cc
uncounted-counts old new call reply other same = same

module _ (old new : DeskTable) (call : Call) (h : IsDesk old) (accepted : refusal (world old) call ≡ None) (other : is_update_panels call ≡ false)
    (leaves : MayLeave old call new) (damages : Damages old.windows.columns (affects_place (world old) call) old.damage new.damage)
    (uncounted : new.cells_read ≡ old.cells_read) (adds : AddsChanges old.changes old.virtual.picture new.changes new.virtual.picture) where
  left : world new ≡ world_after (world old) call
  left = world-left old new call leaves

  shown-after : (y x : ℕ) → y < new.windows.lines → x < new.windows.columns → is_among new.damage y x ≡ false → shown_at new.virtual.picture (y, x) ≡ picture (world new) y x
  shown-after y x below inside free =
      let (on_line, on_column) : (y < old.windows.lines) × (x < old.windows.columns) = grind (arith, left, size-call) in
      let off = off-both _ _ _ (damages.covers y x (omega (arith, h.covered.height, on_line)) on_column) (damages.keeps y x) free in
      ap (λ w. shown_at w.virtual.picture (y, x)) left ∙ virtual-kept (world old) y x on_line on_column call other off.0 ∙ h.covered.shown y x on_line on_column off.1
      ∙ sym (picture-kept (world old) y x h.sound on_line on_column call accepted off.0) ∙ sym (ap (λ w. picture w y x) left)

  few-after : DamagesFew old call new
  few-after line is = rw (other, accepted) (damages-line old.windows.columns (affects_place (world old) call) old.damage new.damage damages line is)

  counts : (reply : Reply) → CountsReads old call reply new
  counts reply = uncounted-counts old new call reply other uncounted

  -- what it leaves is a desk, and the call was made
  pub call-accepted : (reply : Reply) → MayTell (world old) (is_damaged_line old) call reply → IsDesk new × Called old call (Ok reply) new
  call-accepted reply tells = let same = left in let size = size-call (world old) call in grind (arith, (sound-call (world old) call h.sound), shown-after, few-after, (counts reply))

-- ---- a new desk

first-picture : (lines columns y x : ℕ) → picture (first_world lines columns) y x ≡ shown_blank
unfolding window_limit
first-picture lines columns y x = refl

replicated : {A : Type 0} (n i : ℕ) (a : A) → slice_index_or (replicate n a) i a ≡ a
replicated zero i a = refl
replicated (suc n) zero a = refl
replicated (suc n) (suc i) a = replicated n i a

blank-at : (lines columns y x : ℕ) → shown_at (blank_picture lines columns) (y, x) ≡ shown_blank
blank-at zero columns y x = refl
blank-at (suc n) columns zero x = replicated columns x shown_blank
blank-at (suc n) columns (suc y) x = blank-at n columns y x

pub IsDesk-new : (t : DeskTable) (lines columns : ℕ) → world t ≡ first_world lines columns → AreSoundWindows (windows t.windows) → t.damage ≡ replicate lines None → t.changes ≡ replicate lines None
    → IsDesk t
IsDesk-new t lines columns first sound undamaged unchanged = record {
  sound = IsSound-first (world t) lines columns first sound;
  covered = record {
    height = grind (arith, length-replicate);
    within = λ y. grind (arith, (replicated {A = Option Columns} lines y None));
    shown = λ y x below left free.
        ap (λ (w : World). shown_at w.virtual.picture (y, x)) first ∙ blank-at lines columns y x ∙ sym (ap (λ (w : World). picture w y x) first ∙ first-picture lines columns y x);
  };
  changes = grind (arith, length-replicate);
}
