-- What a text that was sent means for a painter.
use Rattle.std.specs.Prelude.{◌≡◌, ◌%◌, ◌^◌}
use Rattle.paint.specs.{Bool, ℕ, true, List, length, Ok, Err, ap, ◌∙◌, arith, Keeps, take_all, WriteFault, next_count, Seen, Sends, PainterState, ShownPicture, IsUpdateText, Updates, BreaksOff}
use Rattle.paint.specs.{WritesFew}
use Rattle.streams.proofs.Sends.{Appends-keeps, cut-unflushed, whole-flushed}

-- a flush is no write
flushed-few : {old mid new : Seen} {bytes : ℕ} → WritesFew old mid bytes → new.whole_writes ≡ mid.whole_writes → WritesFew old new bytes
flushed-few h writes = record { writes = h.writes; few = h.few; count = ap (λ n. n % 2 ^ 64) writes ∙ h.count }

module _ {painter : PainterState} {clear : Bool} {wanted : ShownPicture} {text : List ℕ} (is_text : IsUpdateText painter clear wanted text) where
  pub updated : {old mid new : Seen} {total : ℕ} → Sends old mid 0 text (Ok total) → WritesFew old mid (length text) → Keeps mid.taken new.taken → new.failures ≡ mid.failures → new.whole_writes ≡ mid.whole_writes
      → new.flushes ≡ next_count mid.flushes → new.flushed ≡ true → Updates painter clear old new wanted total
  updated h few keeps failures writes flushes flushed = grind (arith, Appends-keeps, flushed-few)

  pub broken_flush : {old mid new : Seen} {total : ℕ} → Sends old mid 0 text (Ok total) → WritesFew old mid (length text) → Keeps mid.taken new.taken → new.failures ≡ next_count mid.failures → new.whole_writes ≡ mid.whole_writes
      → new.flushes ≡ next_count mid.flushes → BreaksOff painter clear old new wanted total
  broken_flush h few keeps failures writes flushes = grind (arith, take_all, Appends-keeps, flushed-few, whole-flushed)

  pub broken_text : {old new : Seen} {fault : WriteFault} → Sends old new 0 text (Err fault) → WritesFew old new (length text) → BreaksOff painter clear old new wanted fault.sent
  broken_text h few = grind (arith, cut-unflushed)
