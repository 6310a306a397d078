-- How the failures of a sink or a source, and the writes and flushes of a sink, are counted. No standard says it; the answers are
-- those of std::io.
use Rattle.std.specs.Prelude.{◌+◌, ◌%◌, ◌^◌, ◌==◌, ◌&&◌, if◌then◌else◌}
use Rattle.streams.specs.Names.{ℕ, nat_lt, Bool, List, length}

-- a counter that wraps around from the greatest u64 to 0
abbrev pub next_count : ℕ → ℕ
next_count n = (n + 1) % 2 ^ 64

-- a count after a call that is counted or isn't, as one that failed
abbrev pub count_after : Bool → ℕ → ℕ
count_after counted count = if counted then next_count count else count

-- no byte was taken of a piece that isn't empty, or none given to a buffer that has room
abbrev pub moved_nothing : ℕ → List ℕ → Bool
moved_nothing moved bytes = moved == 0 && nat_lt 0 (length bytes)
