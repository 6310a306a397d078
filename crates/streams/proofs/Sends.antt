-- Texts that are sent one after another.
use Rattle.std.specs.Prelude.{◌≡◌, ◌+◌, ◌<◌, ◌≤◌, ◌==◌, ◌++◌}
use Rattle.streams.specs.{eq-eqb, ne_eqb, ℕ, List, [], length, take, drop, Option, Result, Ok, Err, ◌∙◌, arith, append_assoc, length-append, Appends, Keeps, append-nil, take-append-drop}
use Rattle.streams.specs.{length-take-le, take-append-add, next_count, count_after, Seen, Sends}
use Rattle.streams.specs.declared.sending.WriteFault.{WriteFault}

-- one flush more exactly where all of a text was sent
pub whole-flushed : (sent : ℕ) (text : List ℕ) (flushes : ℕ) → sent ≡ length text → count_after (sent == length text) flushes ≡ next_count flushes
whole-flushed sent text flushes e = grind (arith, eq-eqb)

pub cut-unflushed : (sent : ℕ) (text : List ℕ) (flushes : ℕ) → sent < length text → count_after (sent == length text) flushes ≡ flushes
cut-unflushed sent text flushes h = grind (arith, ne_eqb)

pub Appends-append : (a b c : Option (List ℕ)) (s t : List ℕ) → Appends a b s → Appends b c t → Appends a c (s ++ t)
Appends-append a b c s t h k = grind (arith, append_assoc)

pub Appends-keeps : (a b c : Option (List ℕ)) (s : List ℕ) → Appends a b s → Keeps b c → Appends a c s
Appends-keeps a b c s h k = grind arith

-- a prefix of a piece went out, and the rest didn't yet
pub record IsPartlySent (old new : Seen) (sent : ℕ) (piece rest : List ℕ) (total : ℕ) : Type 0 where
  pub prefix : List ℕ
  pub whole : piece ≡ prefix ++ rest
  pub count : total ≡ sent + length prefix
  pub bytes : Appends old.taken new.taken prefix
  pub failures : new.failures ≡ old.failures
  pub flushes : new.flushes ≡ old.flushes

pub Sends-nothing : {old : Seen} {sent : ℕ} → Sends old old sent [] (Ok sent)
Sends-nothing {old} {sent} = search (arith, append-nil)

pub Sends-then : {a b c : Seen} {sent total : ℕ} {s t : List ℕ} {r : Result ℕ WriteFault} → Sends a b sent s (Ok total) → Sends b c total t r → Sends a c sent (s ++ t) r
Sends-then {a} {b} {c} {sent} {total} {s} {t} {r = Ok n} h k = grind (arith, length-append, Appends-append)
Sends-then {a} {b} {c} {sent} {total} {s} {t} {r = Err fault} h k = record {
  ends = (length s + k.ends.0, grind (arith, length-append), grind arith, grind (arith, Appends-append, take-append-add), grind arith);
  flushes = k.flushes ∙ h.flushes;
}

pub IsPartlySent-more : (old mid new : Seen) (sent : ℕ) (piece rest : List ℕ) (total n more : ℕ) → IsPartlySent old mid sent piece rest total → n ≤ length rest
    → Appends mid.taken new.taken (take n rest) → new.failures ≡ mid.failures → new.flushes ≡ mid.flushes → more ≡ total + n → IsPartlySent old new sent piece (drop n rest) more
IsPartlySent-more old mid new sent piece rest total n more h short bytes failures flushes e = record {
  prefix = h.prefix ++ take n rest;
  whole = rw (append_assoc, take-append-drop n rest) h.whole;
  count = grind (arith, length-append, length-take-le);
  bytes = grind (arith, Appends-append);
  failures = failures ∙ h.failures;
  flushes = flushes ∙ h.flushes;
}

-- ---- a text in pieces
