-- A stream is read into a terminal piece by piece.
use Rattle.std.specs.Prelude.{◌≡◌, ◌++◌, ◌||◌, if◌then◌else◌}
use Rattle.commands.specs.{ℕ, Bool, false, true, List, subst, append_assoc, arith, ne_eqb, Consumes-trans, Consumes, SourceSeen, moved_nothing, Follows, Reader, HasRead}

-- a prefix of the stream was read
pub record IsPartlyFed (old new : SourceSeen) (before after : Reader) : Type 0 where
  pub prefix : List ℕ
  pub read : Consumes old.left new.left prefix
  pub follows : Follows prefix before after

pub more_fed : (old mid new : SourceSeen) (before between after : Reader) (piece : List ℕ) → IsPartlyFed old mid before between
    → Consumes mid.left new.left piece → Follows piece between after → IsPartlyFed old new before after
more_fed old mid new before between after piece fed read follows = record {
  prefix = fed.prefix ++ piece;
  read = Consumes-trans _ _ _ _ _ fed.read read;
  follows = λ stream first read. subst (λ s. HasRead s first after) (append_assoc stream fed.prefix piece) (follows (stream ++ fed.prefix) first (fed.follows stream first read));
}

-- ---- a read that gave some bytes

pub not_ended : (n : ℕ) (met : Bool) (buffer : List ℕ) → (n ≡ 0 → ⊥) → (if moved_nothing n buffer then true else met) ≡ met
not_ended n met buffer h = grind (arith, ne_eqb)

pub not_past : (past met : Bool) → met ≡ false → (past || met) ≡ past
not_past past met e = grind arith
