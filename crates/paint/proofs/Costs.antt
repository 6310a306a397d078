-- What changed cells may cost.
use Rattle.std.specs.Prelude.{◌≡◌, ◌+◌, ◌-◌, ◌<◌, ◌≤◌, ◌∷◌}
use Rattle.paint.specs.{ℕ, zero, suc, false, List, [], length, get_or, drop, inl, inr, sym, ap, ◌∙◌, subst, arith, cases_Bool, cases_lt, nat_tests, drop_all, drop-drop, drop_more, get_or_past, Shown}
use Rattle.paint.specs.{shown_blank, DiffersAt, same_shown, Picture, Place, line_of, bytes_from, is_before, cell_bytes, line_bytes, picture_bytes}
use Rattle.ecma.proofs.Difference.{same_shown-equal}

-- ---- of a line

pub line_bytes-other : (a b : Shown) (old new : List Shown) → same_shown a b ≡ false → line_bytes (a ∷ old) (b ∷ new) ≡ cell_bytes b + line_bytes old new
line_bytes-other a b old new h = grind arith

line_bytes-drop : (x : ℕ) (old new : List Shown) → line_bytes (drop x old) (drop x new) ≤ line_bytes old new
line_bytes-drop zero old new = omega arith
line_bytes-drop (suc x) [] new = omega arith
line_bytes-drop (suc x) (a ∷ old) [] = elim (drop x old) as (λ (rest : List Shown). line_bytes rest [] ≤ line_bytes (a ∷ old) []) [
  | [] ↦ omega arith
  | b ∷ rest ↦ omega arith
]
line_bytes-drop (suc x) (a ∷ old) (b ∷ new) = omega (arith, line_bytes-drop x old new)

-- what the cells from a later one on may cost, those from an earlier one on may cost too
pub line_bytes-later : (x z : ℕ) (old new : List Shown) → x ≤ z → line_bytes (drop z old) (drop z new) ≤ line_bytes (drop x old) (drop x new)
line_bytes-later x z old new before =
    let split : x + (z - x) ≡ z = omega (arith, before) in
    let one : drop (z - x) (drop x old) ≡ drop z old = drop-drop (z - x) x old ∙ ap (λ n. drop n old) split in
    let other : drop (z - x) (drop x new) ≡ drop z new = drop-drop (z - x) x new ∙ ap (λ n. drop n new) split in
    subst (λ n. n ≤ line_bytes (drop x old) (drop x new)) (λ i. line_bytes (one i) (other i)) (line_bytes-drop (z - x) (drop x old) (drop x new))

pub left : (x : ℕ) (shown wanted : List Shown) → length shown ≡ length wanted → x < length shown
    → line_bytes (drop x shown) (drop x wanted) ≡ line_bytes (get_or shown x shown_blank ∷ drop (x + 1) shown) (get_or wanted x shown_blank ∷ drop (x + 1) wanted)
left x shown wanted same inside = grind (arith, drop_more)

-- a changed cell may cost as much as a blank one
pub changed-bytes : (x : ℕ) (shown wanted : List Shown) → length shown ≡ length wanted → DiffersAt shown wanted x → 27 ≤ line_bytes (drop x shown) (drop x wanted)
changed-bytes x shown wanted same h = grind (arith, cases_Bool, same_shown-equal, left, line_bytes-other)

-- ---- of a picture

picture_bytes-drop : (x : ℕ) (old new : Picture) → picture_bytes (drop x old) (drop x new) ≤ picture_bytes old new
picture_bytes-drop zero old new = omega arith
picture_bytes-drop (suc x) [] new = omega arith
picture_bytes-drop (suc x) (a ∷ old) [] = elim (drop x old) as (λ (rest : Picture). picture_bytes rest [] ≤ picture_bytes (a ∷ old) []) [
  | [] ↦ omega arith
  | b ∷ rest ↦ omega arith
]
picture_bytes-drop (suc x) (a ∷ old) (b ∷ new) = omega (arith, picture_bytes-drop x old new)

-- what the lines from a later one on may cost, those from an earlier one on may cost too
pub picture_bytes-later : (y z : ℕ) (old new : Picture) → y ≤ z → picture_bytes (drop z old) (drop z new) ≤ picture_bytes (drop y old) (drop y new)
picture_bytes-later y z old new before =
    let split : y + (z - y) ≡ z = omega arith in
    let one : drop (z - y) (drop y old) ≡ drop z old = drop-drop (z - y) y old ∙ ap (λ n. drop n old) split in
    let other : drop (z - y) (drop y new) ≡ drop z new = drop-drop (z - y) y new ∙ ap (λ n. drop n new) split in
    let less : picture_bytes (drop (z - y) (drop y old)) (drop (z - y) (drop y new)) ≤ picture_bytes (drop y old) (drop y new) = picture_bytes-drop (z - y) (drop y old) (drop y new) in
    subst (λ n. n ≤ picture_bytes (drop y old) (drop y new)) (λ i. picture_bytes (one i) (other i)) less

-- ---- from a place on

pub bytes_from-line : (shown wanted : Picture) (y : ℕ) → length shown ≡ length wanted → bytes_from shown wanted (y, 0) ≡ picture_bytes (drop y shown) (drop y wanted)
bytes_from-line shown wanted y same = grind (arith, cases_lt, drop_more, get_or_past, drop_all)

pub bytes_from-later : (shown wanted : Picture) (from to : Place) → length shown ≡ length wanted → is_before to from ≡ false → bytes_from shown wanted to ≤ bytes_from shown wanted from
bytes_from-later shown wanted from to same ordered = elim (cases_lt from.0 to.0) [
  | inl below ↦ omega (
    arith,
    bytes_from-line shown wanted to.0 same,
    line_bytes-later 0 to.1 (line_of shown to.0) (line_of wanted to.0) (omega arith),
    picture_bytes-later (from.0 + 1) to.0 shown wanted (omega (arith, below)),
  )
  | inr here ↦
      let line : from.0 ≡ to.0 = grind (arith, nat_tests) in
      let column : from.1 ≤ to.1 = grind (arith, nat_tests) in
      subst (λ y. bytes_from shown wanted to ≤ bytes_from shown wanted (y, from.1)) (sym line)
      (omega (arith, line_bytes-later from.1 to.1 (line_of shown to.0) (line_of wanted to.0) column))
]

-- a changed place may cost as much as an erasure, and what comes after its line is left
pub bytes_from-changed : (shown wanted : Picture) (place : Place) → length shown ≡ length wanted → length (line_of shown place.0) ≡ length (line_of wanted place.0)
    → DiffersAt (line_of shown place.0) (line_of wanted place.0) place.1 → 27 + bytes_from shown wanted (place.0 + 1, 0) ≤ bytes_from shown wanted place
bytes_from-changed shown wanted place same wide h = omega (arith, bytes_from-line shown wanted (place.0 + 1) same, changed-bytes place.1 (line_of shown place.0) (line_of wanted place.0) wide h)
