-- A new slot has a blank grid of its size, and nothing of it is touched.
use Rattle.grids.proofs.NewSlots.{IsKept-new, IsGridOf-blank, window-blank}
use Rattle.grids.specs.{refl, blank_sheet}
use Rattle.grids.specs.declared.slot.Cells.TheVariants.{Own}
use Rattle.grids.proofs.slot.Slot.with_grid.Goals as goal

pub invariant_of-result : goal.invariant_of-result
invariant_of-result c =
    let a = c.args in
    rw (c.in_ok-new.ensures, c.in_ok-none.ensures, c.first_settings.ensures)
    (IsKept-new a.lines a.columns 0 a.place (record { grid = a.number; line = 0; column = 0 }) (Own (blank_sheet a.lines a.columns)) c.requires.has_line c.requires.has_column c.requires.few_lines
    c.requires.few_columns (IsGridOf-blank a.lines a.columns))

pub returns-clause-window : goal.returns-clause-window
returns-clause-window c =
    rw (c.in_ok-new.ensures, c.in_ok-none.ensures, c.first_settings.ensures) (window-blank c.args.lines c.args.columns 0 c.args.place (record { grid = c.args.number; line = 0; column = 0 }))

pub returns-clause-kept : goal.returns-clause-kept
returns-clause-kept c =
    let a = c.args in
    rw (c.in_ok-new.ensures, c.in_ok-none.ensures, c.first_settings.ensures) (
      IsKept-new a.lines a.columns 0 a.place (record { grid = a.number; line = 0; column = 0 }) (Own (blank_sheet a.lines a.columns)) c.requires.has_line c.requires.has_column c.requires.few_lines
          c.requires.few_columns (IsGridOf-blank a.lines a.columns),
      refl,
      refl,
    )
