-- A fact of each item of a list.
use Rattle.std.specs.Prelude.{◌∷◌, ◌++◌}
use Rattle.ecma.specs.{List, [], AllByRecursion}

pub each-append : {X : Type 0} (P : X → Type 0) (a b : List X) → AllByRecursion P a → AllByRecursion P b → AllByRecursion P (a ++ b)
each-append P [] b h k = k
each-append P (x ∷ a) b h k = (h.0, each-append P a b h.1 k)

pub each-prefix : {X : Type 0} (P : X → Type 0) (a b : List X) → AllByRecursion P (a ++ b) → AllByRecursion P a
each-prefix P [] b h = tt
each-prefix P (x ∷ a) b h = (h.0, each-prefix P a b h.1)

pub each-back : {X : Type 0} (P : X → Type 0) (a b : List X) → AllByRecursion P (a ++ b) → AllByRecursion P b
each-back P [] b h = h
each-back P (x ∷ a) b h = each-back P a b h.1

pub each-weaker : {X : Type 0} (P Q : X → Type 0) → ((x : X) → P x → Q x) → (xs : List X) → AllByRecursion P xs → AllByRecursion Q xs
each-weaker P Q to [] h = tt
each-weaker P Q to (x ∷ xs) h = (to x h.0, each-weaker P Q to xs h.1)
