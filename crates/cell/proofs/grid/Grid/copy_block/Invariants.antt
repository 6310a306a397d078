use Rattle.std.proofs.Common.{◌≡◌, ◌+◌, ℕ, length}
use Rattle.cell.specs.{HasSize, EachCell, cell_or, start_of}
use Rattle.cell.proofs.Moves.{block_shown}
use Rattle.cell.proofs.grid.Grid.copy_block.Given as goal

-- so many lines are copied, from the first on or back from the last
abbrev pub invariant-loop-i : goal.invariant-loop-i
invariant-loop-i g l =
    let first = l.dy + start_of l.back l.lines 0 l.i in
    record {
      shown : (v u : ℕ) → cell_or g.T.Element.blank l.self (v, u) ≡ block_shown g.T.Element.blank l.fn.self l.sy l.sx l.dy l.dx first (first + l.i) l.columns v u;
      height : length l.self ≡ length l.fn.self;
      size : (lines columns : ℕ) → HasSize lines columns l.fn.self → HasSize lines columns l.self;
      cells : EachCell g.T.Element.Is l.fn.self → EachCell g.T.Element.Is l.self;
    }
