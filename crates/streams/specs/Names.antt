-- The names from below: definitions take them from here, proofs and code from `specs`.
pub use Rattle.std.proofs.Common.{Bool, Err, IfErr, IsErr, IsErrAnd, IsTrue, List, None, Ok, Option, Result, [], append_assoc, arith, decimal, drop, false, is_err, length, length-append, nat_lt}
pub use Rattle.std.proofs.Common.{take, true, ℕ, ◌∙◌}
pub use Rattle.std.proofs.Math.Seq.{take-append-add}
pub use Rattle.std.proofs.lemmas.Bool.{eq-eqb, ne_eqb}
pub use Rattle.std.proofs.lemmas.Grind.{common_steps}
pub use Rattle.std.proofs.lemmas.List.{append-nil, length-take-le, take-append-drop, take_rest}
pub use Rattle.std.specs.Io.{ReadsAtMost, WritesAtMost}
pub use Rattle.std.specs.Io.KnownBytes.{Appends, Keeps, ReadConsumes, WriteAppends}
pub use Rattle.std.specs.IoError.{error_kind}
