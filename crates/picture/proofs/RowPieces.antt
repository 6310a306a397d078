-- A piece of a window's line is cut out of its row.
use Rattle.std.specs.Prelude.{◌≡◌, ◌+◌, ◌-◌, ◌<◌, ◌≤◌}
use Rattle.picture.specs.{ℕ, Option, List, length, take, drop, ◌∙◌, arith, IsSomeAnd, get_or-drop, get_or-take, length-drop, length-take, Glyph, blank, HasPlace, Window, WindowMap, line_shown}
use Rattle.picture.specs.{IsPiece}
use Rattle.grids.proofs.Showing.{line-has}

-- a place further left on the same line
place_before : (o : Option Window) (y x z : ℕ) → IsSomeAnd o (λ a. (y < a.lines) × (x < a.columns)) → z ≤ x → IsSomeAnd o (λ a. (y < a.lines) × (z < a.columns))
place_before o y x z h before = grind arith

pub place-before : (window : WindowMap) (w y x z : ℕ) → HasPlace window w y x → z ≤ x → HasPlace window w y z
place-before window w y x z h before = place_before (window w) y x z h before

-- the piece
pub piece-of : (window : WindowMap) (w y left n : ℕ) (row : List Glyph) → row ≡ line_shown window w y → 0 < n → HasPlace window w y (left + n - 1)
    → IsPiece window w y left n (take n (drop left row))
piece-of window w y left n row is some there =
    let inside : left + n - 1 < length row = (line-has window w y (left + n - 1) there row is).0 in
    record {
      number = length-take n (drop left row) ∙ (let rest = length-drop left row in omega (arith, rest, inside, some));
      each = λ k below.
          let on : left + k ≤ left + n - 1 = omega (arith, below) in
          get_or-take n (drop left row) k blank below
          ∙ get_or-drop left row k blank
          ∙ (line-has window w y (left + k) (place-before window w y (left + n - 1) (left + k) there on) row is).1 blank;
    }
