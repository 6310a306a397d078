-- The rectangle of a drawing is the smallest one that holds its places.
use Rattle.std.specs.Prelude.{◌≡◌, ◌<◌, if◌then◌else◌, ◌⊎◌}
use Rattle.world.specs.{ℕ, zero, suc, min, max, Bool, true, Option, Some, None, is_some, arith, cases_lt, Window, Windows, Drawing, over, put, frame_of_two, frame_at, frame_in_line, frame_above}
use Rattle.world.specs.{frame_of, Covers, IsSmallest, IsFrameOf, drawing_frame, Rect}

-- ---- there is only one

pub only_frame : (Has : ℕ → ℕ → Type 0) (o p : Option Rect) → IsFrameOf Has o → IsFrameOf Has p → o ≡ p
only_frame Has o p h k = grind arith

pub frame-same : (Has Other : ℕ → ℕ → Type 0) (o : Option Rect) → ((y x : ℕ) → Has y x → Other y x) → ((y x : ℕ) → Other y x → Has y x) → IsFrameOf Has o → IsFrameOf Other o
frame-same Has Other o to from h = grind arith

-- ---- two rectangles

least : (P : ℕ → Type 0) (m n : ℕ) → P m → P n → P (min m n)
least P m n h k = grind arith

greatest : (P : ℕ → Type 0) (m n : ℕ) → P m → P n → P (max m n)
greatest P m n h k = grind arith

module _ (Has Other : ℕ → ℕ → Type 0) where
  pub frame-joined : (o p : Option Rect) → IsFrameOf Has o → IsFrameOf Other p → IsFrameOf (λ y x. Has y x ⊎ Other y x) (frame_of_two o p)
  frame-joined (Some r) (Some s) h k = record {
    holds = grind arith;
    top = least (λ y. (x : ℕ) × (Has y x ⊎ Other y x)) r.top s.top (grind arith) (grind arith);
    bottom = greatest (λ y. (x : ℕ) × (Has y x ⊎ Other y x)) r.bottom s.bottom (grind arith) (grind arith);
    left = least (λ x. (y : ℕ) × (Has y x ⊎ Other y x)) r.left s.left (grind arith) (grind arith);
    right = greatest (λ x. (y : ℕ) × (Has y x ⊎ Other y x)) r.right s.right (grind arith) (grind arith);
  }
  frame-joined o p h k = grind arith

-- ---- the places of a drawing

pub record HasInLine (f : Drawing) (line columns y x : ℕ) : Type 0 where
  pub on : y ≡ line
  pub left : x < columns
  pub some : is_some (f y x) ≡ true

pub record IsAt (f : Drawing) (line column y x : ℕ) : Type 0 where
  pub on : y ≡ line
  pub at : x ≡ column
  pub some : is_some (f y x) ≡ true

frame_at-is : (f : Drawing) (line column : ℕ) (t : Bool) → is_some (f line column) ≡ t → IsFrameOf (IsAt f line column) (if t then frame_at line column else None)
frame_at-is f line column t h = grind arith

in_line-is : (f : Drawing) (line n : ℕ) → IsFrameOf (HasInLine f line n) (frame_in_line f line n)
unfolding frame_in_line
in_line-is f line zero = grind arith
in_line-is f line (suc n) = grind (arith, frame-same, cases_lt, frame-joined, frame_at-is, (in_line-is f line n))

above-is : (f : Drawing) (columns n : ℕ) → IsFrameOf (Covers f columns n) (frame_above f columns n)
unfolding frame_above
above-is f columns zero = grind arith
above-is f columns (suc n) = grind (arith, frame-same, cases_lt, frame-joined, in_line-is, (above-is f columns n))

-- the rectangle of a drawing is the smallest one that holds its places in the window
pub frame_of-is : (a : Window) (f : Drawing) → IsFrameOf (Covers f a.columns a.lines) (frame_of a f)
frame_of-is a f = grind (arith, above-is)

pub frame_of-only : (a : Window) (f : Drawing) (r : Rect) → IsSmallest (Covers f a.columns a.lines) r → frame_of a f ≡ Some r
frame_of-only a f r h = grind (arith, only_frame, frame_of-is)

pub frame_of-none : (a : Window) (f : Drawing) → ((y x : ℕ) → Covers f a.columns a.lines y x → ⊥) → frame_of a f ≡ None
frame_of-none a f h = grind (arith, only_frame, frame_of-is)

-- ---- one drawing over another

pub frame-over : (a : Window) (f g : Drawing) → frame_of a (over g f) ≡ frame_of_two (frame_of a f) (frame_of a g)
frame-over a f g =
    only_frame (Covers (over g f) a.columns a.lines) _ _ (frame_of-is a (over g f))
    (frame-same _ _ _ (λ y x there. grind arith) (λ y x there. grind arith) (frame-joined _ _ _ _ (frame_of-is a f) (frame_of-is a g)))

-- the rectangle in the window under a number, if there is one
pub drawing_frame-over : (windows : Windows) (w : ℕ) (f g : Drawing)
    → drawing_frame windows w (λ a. over g f) ≡ frame_of_two (drawing_frame windows w (λ a. f)) (drawing_frame windows w (λ a. g))
drawing_frame-over windows w f g = grind (arith, frame-over)

-- no write changes it
pub drawing_frame-put : (windows : Windows) (w : ℕ) (f g : Drawing) → drawing_frame (put windows w f) w (λ a. g) ≡ drawing_frame windows w (λ a. g)
drawing_frame-put windows w f g = grind arith
