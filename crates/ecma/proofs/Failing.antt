-- What a stream reaches, and where it fails.
use Rattle.std.specs.Prelude.{◌≡◌}
use Rattle.ecma.specs.{ℕ, List, length, arith, subst, Terminal, FailsAt, IsInProfile, Reaches}
use Rattle.ecma.proofs.Unique.{Splits-same}
use Rattle.ecma.proofs.Joining.{Reaches-in_profile}

pub Reaches-unique : (stream : List ℕ) (offset : ℕ) (t u v : Terminal) → Reaches stream t offset u → Reaches stream t offset v → u ≡ v
Reaches-unique stream offset t u v h k = grind (arith, Splits-same)

pub FailsAt-offset : (stream : List ℕ) (offset other : ℕ) (t u v : Terminal) → FailsAt stream t offset u → FailsAt stream t other v → offset ≡ other
FailsAt-offset stream offset other t u v h k = omega (arith, k.greatest offset u h.reaches, h.greatest other v k.reaches)

pub FailsAt-terminal : (stream : List ℕ) (offset other : ℕ) (t u v : Terminal) → FailsAt stream t offset u → FailsAt stream t other v → u ≡ v
FailsAt-terminal stream offset other t u v h k =
    let same = FailsAt-offset stream offset other t u v h k in
    Reaches-unique stream other t u v (subst (λ (at : ℕ). Reaches stream t at u) same h.reaches) k.reaches

pub FailsAt-outside : (stream : List ℕ) (offset : ℕ) (t u v : Terminal) → FailsAt stream t offset u → IsInProfile stream t v → ⊥
FailsAt-outside stream offset t u v h k = omega (arith, h.greatest (length stream) v (Reaches-in_profile stream t v k), h.short)
