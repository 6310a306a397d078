-- A text is written piece by piece.
use Rattle.std.specs.Prelude.{◌≡◌, ◌+◌, ◌++◌}
use Rattle.commands.specs.{ℕ, Bool, true, false, List, [], length, take, drop, Result, Ok, Err, refl, sym, ap, subst, ◌∙◌, arith, append_assoc, take-append-drop, length-append, take-append-le}
use Rattle.commands.specs.{take-append-add, take-length, Appends-nil, Appends-trans, is_err, is_ok, Appends, Keeps, count_after, next_count, Seen, flushed_after_flush, Sends, WriteFault}
use Rattle.commands.specs.{IsNotWritten, PuttingEnds, TakesPrefix, WritingEnds}
use Rattle.streams.proofs.Sends.{Appends-keeps, cut-unflushed, whole-flushed}

-- ---- one of several texts

prefix_then : (old mid new : Seen) (prefix text : List ℕ) → Appends old.taken mid.taken prefix → TakesPrefix mid new text → TakesPrefix old new (prefix ++ text)
prefix_then old mid new prefix text before h = record {
  sent = length prefix + h.sent;
  within = grind (arith, length-append);
  taken = grind (arith, take-append-add, Appends-trans);
}

prefix_of : (old new : Seen) (text after : List ℕ) → TakesPrefix old new text → TakesPrefix old new (text ++ after)
prefix_of old new text after h = record { sent = h.sent; within = grind (arith, length-append); taken = grind (arith, take-append-le) }

pub nothing_put : (old : Seen) → PuttingEnds true old old []
nothing_put old = grind (arith, Appends-nil)

-- what was written after another text, all of it
pub put_after : (old mid new : Seen) (prefix text : List ℕ) (is_put written : Bool) → PuttingEnds is_put old mid prefix → is_put ≡ true → PuttingEnds written mid new text
    → PuttingEnds written old new (prefix ++ text)
put_after old mid new prefix text is_put written before is p = grind (arith, Appends-trans, prefix_then)

-- a text that was cut, and what was to come after it
pub cut_before : (old new : Seen) (text after : List ℕ) (is_put : Bool) → PuttingEnds is_put old new text → is_put ≡ false → PuttingEnds false old new (text ++ after)
cut_before old new text after is_put p is = grind (arith, prefix_of)

-- ---- a text, piece by piece

pub sent_piece : (old new : Seen) (piece : List ℕ) (r : Result ℕ WriteFault) → Sends old new 0 piece r → PuttingEnds (is_ok r) old new piece
sent_piece old new piece r s = grind arith

-- A prefix of a text was written, in the form that bytes are written in, and the rest wasn't yet.
pub record IsPartlyPut (form : List ℕ → List ℕ) (old new : Seen) (text rest : List ℕ) : Type 0 where
  pub prefix : List ℕ
  pub whole : text ≡ prefix ++ rest
  pub put : PuttingEnds true old new (form prefix)

through : (text prefix rest piece after : List ℕ) (at : ℕ) → text ≡ prefix ++ rest → piece ≡ take at rest → after ≡ drop at rest → text ≡ (prefix ++ piece) ++ after
through text prefix rest piece after at whole is rest_is = grind (arith, take-append-drop, append_assoc)

module _ (form : List ℕ → List ℕ) (joins : (a b : List ℕ) → form (a ++ b) ≡ form a ++ form b) where
  piece_put : (old mid new : Seen) (text rest piece : List ℕ) (written : Bool) (p : IsPartlyPut form old mid text rest) → PuttingEnds written mid new (form piece)
      → PuttingEnds written old new (form (p.prefix ++ piece))
  piece_put old mid new text rest piece written p h = rw (joins p.prefix piece) (put_after _ _ _ _ _ true written p.put refl h)

  pub more_put : (old mid new : Seen) (text rest piece after : List ℕ) (at : ℕ) (written : Bool) → IsPartlyPut form old mid text rest → PuttingEnds written mid new (form piece)
      → written ≡ true → piece ≡ take at rest → after ≡ drop at rest → IsPartlyPut form old new text after
  more_put old mid new text rest piece after at written p h is prefix back = record {
    prefix = p.prefix ++ piece;
    whole = through text p.prefix rest piece after at p.whole prefix back;
    put = subst (λ w. PuttingEnds w old new (form (p.prefix ++ piece))) is (piece_put old mid new text rest piece written p h);
  }

  -- a write failed
  pub cut_put : (old mid new : Seen) (text rest piece after : List ℕ) (at : ℕ) (written : Bool) → IsPartlyPut form old mid text rest → PuttingEnds written mid new (form piece)
      → written ≡ false → piece ≡ take at rest → after ≡ drop at rest → PuttingEnds false old new (form text)
  cut_put old mid new text rest piece after at written p h is prefix back =
      let cut = cut_before old new (form (p.prefix ++ piece)) (form after) written (piece_put old mid new text rest piece written p h) is in
      subst (PuttingEnds false old new) (sym (ap form (through text p.prefix rest piece after at p.whole prefix back) ∙ joins (p.prefix ++ piece) after)) cut

-- ---- a text, and a flush after it

pub not_put : (old new : Seen) (text : List ℕ) (is_put : Bool) → PuttingEnds is_put old new text → is_put ≡ false → IsNotWritten old new text
not_put old new text is_put p is = grind (arith, cut-unflushed)

pub flushed_after : {T E : Type 0} (old mid new : Seen) (text : List ℕ) (is_put : Bool) (r : Result T E) → PuttingEnds is_put old mid text → is_put ≡ true
    → Keeps mid.taken new.taken → new.failures ≡ count_after (is_err r) mid.failures → new.flushes ≡ next_count mid.flushes
    → new.flushed ≡ flushed_after_flush mid.flushed r → WritingEnds (is_ok r) old new text
flushed_after old mid new text is_put (Ok x) p is kept failure flush flushed = grind (arith, Appends-keeps)
flushed_after old mid new text is_put (Err e) p is kept failure flush flushed =
    record { sent = length text; within = omega arith; taken = grind (arith, take-length, Appends-keeps); failure = grind arith; flushes = grind (arith, whole-flushed) }
