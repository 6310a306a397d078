-- Tests of the numbers below a number, and of the places of a rectangle.
use Rattle.std.specs.Prelude.{◌≡◌, ◌+◌, ◌<◌, ◌&&◌}
use Rattle.world.specs.{ℕ, zero, suc, Bool, true, nat_le, arith, cases_eq, and_parts, and_from, or_cases, or_left, or_right, leb-true, le-leb, any_below, IsIn, any_in, Rect}

pub record FoundBelow (n : ℕ) (test : ℕ → Bool) : Type 0 where
  pub number : ℕ
  pub below : number < n
  pub passes : test number ≡ true

pub any_below-true : (n : ℕ) (test : ℕ → Bool) → any_below n test ≡ true → FoundBelow n test
any_below-true zero test h = cc
any_below-true (suc n) test h = grind (arith, or_cases, (any_below-true n test))

pub any_below-some : (n : ℕ) (test : ℕ → Bool) (k : ℕ) → k < n → test k ≡ true → any_below n test ≡ true
any_below-some zero test k h is = grind arith
any_below-some (suc n) test k h is = grind (arith, cases_eq, or_left, or_right, (any_below-some n test k))

pub record FoundIn (r : Rect) (test : ℕ → ℕ → Bool) : Type 0 where
  pub line : ℕ
  pub column : ℕ
  pub inside : IsIn r line column
  pub passes : test line column ≡ true

pub any_in-true : (r : Rect) (test : ℕ → ℕ → Bool) → any_in r test ≡ true → FoundIn r test
any_in-true r test h =
    let line = any_below-true (r.bottom + 1) (λ y. nat_le r.top y && any_below (r.right + 1) (λ x. nat_le r.left x && test y x)) h in
    let lines = and_parts (nat_le r.top line.number) (any_below (r.right + 1) (λ x. nat_le r.left x && test line.number x)) line.passes in
    let column = any_below-true (r.right + 1) (λ x. nat_le r.left x && test line.number x) lines.1 in
    let columns = and_parts (nat_le r.left column.number) (test line.number column.number) column.passes in
    let bottom = line.below in
    let right = column.below in
    record {
      line = line.number;
      column = column.number;
      inside = record { top = leb-true r.top line.number lines.0; bottom = omega arith; left = leb-true r.left column.number columns.0; right = omega arith };
      passes = columns.1;
    }

pub any_in-some : (r : Rect) (test : ℕ → ℕ → Bool) (y x : ℕ) → IsIn r y x → test y x ≡ true → any_in r test ≡ true
any_in-some r test y x inside is =
    grind (
      arith,
      and_from,
      le-leb,
      (any_below-some (r.bottom + 1) (λ v. nat_le r.top v && any_below (r.right + 1) (λ z. nat_le r.left z && test v z)) y),
      (any_below-some (r.right + 1) (λ z. nat_le r.left z && test y z) x),
    )
