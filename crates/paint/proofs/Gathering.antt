-- A text that is gathered, appended to, and passed on.
use Rattle.std.specs.Prelude.{◌≡◌, ◌+◌, ◌-◌, ◌%◌, ◌^◌, ◌≤◌, ◌++◌}
use Rattle.paint.specs.{ℕ, true, false, List, [], length, Err, arith, add_assoc, append-nil, mod-add-mod, min, Seen, Sends, WritesOnce, WriteFault, WritesFew, full_outbox, Gathers, GoesOut}
use Rattle.paint.specs.{IsGathered, Outbox}
use Rattle.streams.proofs.Sends.{Sends-then}

-- once a write failed the room is of no account
pub goes_out-failed : (start now : Seen) (sent : ℕ) (text : List ℕ) → GoesOut true start now [] sent text → GoesOut true start now [] sent (text ++ [])
goes_out-failed start now sent text h = rw append-nil h

-- ---- the room is sent

Sends-after_fault : {before after : Seen} {piece : List ℕ} {fault : WriteFault} (sent : ℕ) → Sends before after 0 piece (Err fault)
    → Sends before after sent piece (Err (record { sent = sent + fault.sent }))
Sends-after_fault sent h = grind arith

pub goes_out-faulted : (start mid now : Seen) (room : List ℕ) (sent total : ℕ) (fault : WriteFault) (text : List ℕ) → GoesOut false start mid room sent text → Sends mid now 0 room (Err fault)
    → total ≡ min (sent + fault.sent) (2 ^ 32 - 1) → GoesOut true start now [] total (text ++ [])
goes_out-faulted start mid now room sent total fault text h k e =
    (length h.0 + fault.sent, omega (arith, h.2), rw (append-nil, h.1) (Sends-then h.3 (Sends-after_fault (length h.0) k)))

-- ---- the writes

once-more : (start before after : Seen) (writes : ℕ) (once : WritesOnce before after) → before.whole_writes % 2 ^ 64 ≡ (start.whole_writes + writes) % 2 ^ 64
    → after.whole_writes % 2 ^ 64 ≡ (start.whole_writes + (writes + once.writes)) % 2 ^ 64
once-more start before after writes once count = let more = once.count in grind (arith, mod-add-mod, add_assoc)

-- a full outbox was sent
pub gathered-on : {before after : Seen} {old new : Outbox} → new.room ≡ [] → full_outbox ≤ length old.room
    → ((start : Seen) (text : List ℕ) → GoesOut old.failed start before old.room old.sent text → GoesOut new.failed start after [] new.sent (text ++ []))
    → WritesOnce before after → Gathers before after old new []
gathered-on {before} {after} empty large out once start text h = let full = h.full in let few = once.few in record {
  goes_out = rw empty (out start text h.goes_out);
  writes = h.writes + once.writes;
  full = rw (empty, append-nil) (omega (arith, full, few, large));
  count = once-more start before after h.writes once h.count;
}

-- the rest was sent
pub finished : {start before after : Seen} {outbox : Outbox} {text : List ℕ} → IsGathered start before outbox text → WritesOnce before after → WritesFew start after (length text)
finished {start} {before} {after} h once = let full = h.full in let few = once.few in record {
  writes = h.writes + once.writes;
  few = omega (arith, full, few);
  count = once-more start before after h.writes once h.count;
}
