-- What is printed, by whether a script ended with a fault.
use Rattle.std.specs.Prelude.{◌≡◌}
use Rattle.curspan.specs.{false, true, Option, Some, None, is_some, MatchOption}

pub without : {X : Type 0} {A : Type 0} (B : X → Type 0) (o : Option X) → is_some o ≡ false → A → MatchOption o A B
without B None none a = a
without B (Some x) none a = cc

pub of-some : {X : Type 0} (A : Type 0) (B : X → Type 0) (o : Option X) → is_some o ≡ true → ((x : X) → B x) → MatchOption o A B
of-some A B None some h = cc
of-some A B (Some x) some h = h x
