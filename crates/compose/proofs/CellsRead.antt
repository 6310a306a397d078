-- What update_panels reads: no less than it changes, and no more than all of the damaged lines.
use Rattle.std.specs.Prelude.{◌≡◌, ◌+◌, ◌%◌, ◌^◌}
use Rattle.compose.specs.{ℕ, true, false, Option, None, is_some, length, Ok, refl, sym, ap, subst, ◌∙◌, arith, picture_of, shown, shown_blank, World, picture, after, composed_windows, composes}
use Rattle.compose.specs.{IsSound, world_after, UpdatePanels, Composed, Columns, AddsChanges, columns_of, cells_above, Called, DamagesFew, MayRead, IsCovered, IsDesk, DeskTable, is_damaged_line}
use Rattle.compose.specs.{world}
use Rattle.cell.proofs.PictureLemmas.{HasSize-lines_from, cell_or-lines_from, length-line}
use Rattle.world.specs.declared.call.Call.TheVariants as calls
use Rattle.world.proofs.RefreshLaws.{found-unmarked}
use Rattle.world.proofs.SoundCalls.{sound-call}
use Rattle.compose.proofs.Reading.{differs-less, few-cells}

module _ (t : DeskTable) (h : IsDesk t) (cells : ℕ) (read : cells ≡ cells_above t.damage t.windows.lines) where
  may-read : MayRead (world t) (is_damaged_line t) cells
  may-read =
      let size = h.sound.virtual.size in
      let new_size = HasSize-lines_from t.windows.lines t.windows.columns (picture (world t)) in
      let less = differs-less t.damage 0 t.virtual.picture (picture_of t.windows.lines t.windows.columns (picture (world t)))
      (λ y x below inside free. grind (arith, (length-line y size), (h.covered.shown y x), (cell_or-lines_from shown_blank t.windows.lines t.windows.columns (picture (world t)) y x)))
      (λ y below. grind (arith, (length-line y size), (length-line y new_size))) (size.height ∙ sym new_size.height) in
      let few = few-cells t.windows.columns t.damage h.covered.within t.windows.lines 0 in
      record { at_least = grind (arith, less); at_most = grind (arith, few) }

-- after it no line is damaged
none-damaged : (old new : DeskTable) → ((y : ℕ) → columns_of new.damage y ≡ None) → DamagesFew old (calls.Refresh UpdatePanels) new
none-damaged old new none line is = let never : false ≡ true = sym (ap (λ (o : Option Columns). is_some o) (none line)) ∙ is in cc

covered-composed : (new : DeskTable) → length new.damage ≡ new.windows.lines → ((y : ℕ) → columns_of new.damage y ≡ None)
    → new.virtual.picture ≡ picture_of new.windows.lines new.windows.columns (picture (world new)) → IsCovered new
covered-composed new height none shown = grind (arith, cell_or-lines_from)

-- the virtual screen shows the picture after it too
shown-composed : (old new : World) → new ≡ after old composes → new.virtual.picture ≡ picture_of new.windows.lines new.windows.columns (picture new)
shown-composed old new left =
    subst (λ (world : World). world.virtual.picture ≡ picture_of world.windows.lines world.windows.columns (picture world)) (sym left)
    (λ i. picture_of old.windows.lines old.windows.columns (λ y x. shown old.pairs (sym (found-unmarked old.windows.window (composed_windows old) old.panels y x) i)))

-- so the desk that it leaves is one, and the call was made
pub update-made : (old new : DeskTable) (cells : ℕ) → IsDesk old → world new ≡ world_after (world old) (calls.Refresh UpdatePanels) → length new.damage ≡ old.windows.lines
    → ((y : ℕ) → columns_of new.damage y ≡ None) → cells ≡ cells_above old.damage old.windows.lines
    → new.cells_read ≡ (old.cells_read + cells) % 2 ^ 64 → AddsChanges old.changes old.virtual.picture new.changes new.virtual.picture
    → IsDesk new × Called old (calls.Refresh UpdatePanels) (Ok (Composed (record { cells = cells }))) new
update-made old new cells h left height none read counted adds =
    let whole = subst IsSound (sym left) (sound-call (world old) (calls.Refresh UpdatePanels) h.sound refl) in let lines = ap (λ (w : World). w.windows.lines) left in (
      record { sound = whole; covered = covered-composed new (height ∙ sym lines) none (shown-composed (world old) (world new) left); changes = adds.height ∙ h.changes ∙ sym lines },
      (refl, (cells, may-read old h cells read, refl), left, none-damaged old new none, whole, counted, adds),
    )
