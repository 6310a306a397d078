use Rattle.std.specs.Prelude.{◌≡◌}
use Rattle.grids.specs.{new_number, window_map}
use Rattle.grids.proofs.FreeNumbers.{search_from}
use Rattle.grids.proofs.list.free_number.Given as goal

-- the search goes on from n
abbrev pub invariant-loop-n : goal.invariant-loop-n
invariant-loop-n l = search_from l.slots l.n ≡ new_number (window_map l.slots)
