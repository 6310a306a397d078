-- A picture is changed in some columns of a line, which are added to its changes.
use Rattle.std.proofs.Common.{◌≡◌, ℕ, ◌+◌, ◌<◌, ◌==◌, ◌&&◌, false, nat_le, nat_lt, if◌then◌else◌, List, Option, Some, None, length, refl, arith}
use Rattle.std.specs.Prelude.{slice_set}
use Rattle.std.proofs.Common.{get_or-set_other, get_or-set_same}
use Rattle.std.proofs.lemmas.Bool.{cases_eq, cases_lt, eq-eqb, ne_eqb}
use Rattle.std.proofs.lemmas.Bool.Decides.{nat_tests}
use Rattle.std.proofs.lemmas.List.{length-set}
use Rattle.cell.specs.Pictures.{Picture, shown_at}
use Rattle.cell.specs.ShownCells.{Shown}
use Rattle.world.specs.WindowMaps.{joined_columns}
use Rattle.world.specs.calls.Refresh.{among}
use Rattle.world.specs.declared.settings.Columns.{Columns}
use Rattle.extents.specs.Extents.{AddsChanges, columns_of}

-- a column that isn't among columns to which others were added
not-joined : (o : Option Columns) (first last x : ℕ) → among (joined_columns o first last) x ≡ false → (among o x ≡ false) × (among (Some (record { first = first; last = last })) x ≡ false)
not-joined None first last x h = (refl, h)
not-joined (Some r) first last x h = grind (arith, nat_tests, cases_lt)

-- nothing changed
pub changes-none : (changes : List (Option Columns)) (picture : Picture) → AddsChanges changes picture changes picture
changes-none changes picture = record { height = refl; keeps = λ y x h. h; same = λ y x h. refl }

-- a piece of a line was written, and its columns were added
pub changes-more : (old : List (Option Columns)) (before : Picture) (now : List (Option Columns)) (picture next : Picture) (y x to : ℕ) (cell : ℕ → Shown) → AddsChanges old before now picture
    → y < length now → ((v u : ℕ) → shown_at next (v, u) ≡ (if (v == y) && (nat_le x u && nat_lt u to) then cell u else shown_at picture (v, u)))
    → (last : ℕ) → last + 1 ≡ to → AddsChanges old before (slice_set now y (joined_columns (columns_of now y) x last)) next
changes-more old before now picture next y x to cell h below written last end = grind (arith, length-set, cases_eq, cases_lt, eq-eqb, ne_eqb, nat_tests, get_or-set_same, get_or-set_other, not-joined)

-- one change after another
pub changes-then : {old now new : List (Option Columns)} {before picture next : Picture} → AddsChanges old before now picture → AddsChanges now picture new next → AddsChanges old before new next
changes-then first second = grind arith
