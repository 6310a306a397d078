-- Streams on the start of a file.
use Rattle.std.specs.Prelude.{◌≡◌}
use Rattle.curspan.specs.Names.{[], ⊤, false, MatchOption, Seen, SourceSeen}

-- Nothing was read of the source.
pub record IsUnread (seen : SourceSeen) : Type 0 where
  pub end : seen.met_end ≡ false
  pub past : seen.read_past_end ≡ false
  pub failures : seen.failures ≡ 0

-- Nothing was written to the sink, and it wasn't flushed.
pub record IsUnwritten (seen : Seen) : Type 0 where
  pub empty : MatchOption seen.taken ⊤ (λ bytes. bytes ≡ [])
  pub failures : seen.failures ≡ 0
  pub flushes : seen.flushes ≡ 0
  pub flushed : seen.flushed ≡ false
