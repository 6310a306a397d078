-- Cells that a program gives, put on a desk.
use Rattle.std.specs.Prelude.{◌≡◌, ◌||◌}
use Rattle.compose.specs.Names.{ℕ, Bool, true, List, OnErr, OnOk, Result, result_err, first_of, Refusal, Rect, Edit, IsSound, World, any_below, edit_shows_at, fill_edit, fill_tests}
use Rattle.compose.specs.Names.{put_edit, put_tests, world_edited}
use Rattle.compose.specs.Desks.{DeskTable, is_damaged_line, world}

-- An edit shows at some place of the line.
abbrev pub edit_shows_in : World → Edit → ℕ → Bool
edit_shows_in world edit line = any_below world.windows.columns (edit_shows_at world.windows world.panels edit line)

-- It was refused exactly by these tests, and then nothing changed. Else the world is that after the edit, and only lines
-- are damaged that were so before, or where the edit shows. All else that the desk keeps stays.
pub record CellsGiven (old : DeskTable) (tests : List (Bool × Refusal)) (edit : Edit) (r : Result (Unit {0}) Refusal) (new : DeskTable) : Type 0 where
  pub refused : result_err r ≡ first_of tests
  pub unchanged : OnErr r (new ≡ old)
  pub written : OnOk r (world new ≡ world_edited (world old) edit)
  pub damages : OnOk r ((line : ℕ) → is_damaged_line new line ≡ true → (is_damaged_line old line || edit_shows_in (world old) edit line) ≡ true)
  pub sound : IsSound (world new)
  pub rest : new ≡ record old { windows = new.windows; damage = new.damage }

-- one cell in a rectangle, and a row of cells in a line
abbrev pub Filled : DeskTable → ℕ → Rect → ℕ → Result (Unit {0}) Refusal → DeskTable → Type 0
Filled old w rect number r new = CellsGiven old (fill_tests (world old).windows w rect number) (fill_edit w rect number) r new

abbrev pub RowPut : DeskTable → ℕ → ℕ → ℕ → List ℕ → Result (Unit {0}) Refusal → DeskTable → Type 0
RowPut old w y x numbers r new = CellsGiven old (put_tests (world old).windows w y x numbers) (put_edit w y x numbers) r new
