-- Whether nobody reads a stream, after a call of it.
-- No standard says it; the answers are those of std::io.
use Rattle.std.specs.Prelude.{◌≡◌, ◌⊎◌, ◌↔◌}
use Rattle.commands.specs.Names.{Bool, IsTrue, IsErrAnd, Result, BrokenPipe}
use Rattle.std.specs.IoError.{error_kind}
use Rattle.std.specs.declared.io.Error.{Error}

-- It is closed exactly if it was, or if the call failed since nobody reads (`EPIPE` of POSIX).
abbrev pub ClosedAfter : {T : Type 0} → Bool → Result T Error → Bool → Type 0
ClosedAfter old outcome new = IsTrue new ↔ (IsTrue old ⊎ IsErrAnd outcome (λ e. error_kind e ≡ BrokenPipe))
