-- The row has the columns of its window.
use Rattle.std.proofs.Common.{◌≡◌, ℕ, Option, Some, sym, subst, ◌∙◌}
use Rattle.grids.specs.Tables.{WindowTable, windows}
use Rattle.world.specs.calls.Queries.{window_size}
use Rattle.compose.specs.Desks.{world}
use Rattle.capi.proofs.Rows.{line-width}
use Rattle.capi.proofs.line.line_of_window.Goals as goal

pub prove-unreachable-requires : goal.prove-unreachable-requires
prove-unreachable-requires c =
    let a = c.args in let ok = c.in_ok-lines in
    let size = subst (λ (table : WindowTable). ◌≡◌ {A = Option (ℕ × ℕ)} (window_size (windows table).window a.win.0) (Some (ok.lines, ok.columns))) c.windows.ensures ok.ensures.answer in
    c.if-prove.true (line-width (world a.desk.now).windows.window a.win.0 a.y ok.lines ok.columns size c.row-row.result.now c.row-row.ensures ∙ sym c.from.ensures)
