-- The rectangle of a text is the smallest that holds those of its characters.
use Rattle.std.specs.Prelude.{◌≡◌, ◌∷◌, ◌++◌}
use Rattle.windows.specs.{ℕ, Option, None, List, [], ap, arith, refl, sym, ◌∙◌, option_and_then, Rect, Drawing, Window, Windows, frame_of, frame_of_two, after_character, after_text}
use Rattle.windows.specs.{drawing_of_character, text_drawing, drawing_frame, edit_frame, types}
use Rattle.world.proofs.FrameLaws.{drawing_frame-over, frame_of-none}
use Rattle.world.proofs.ViewLaws.{outline_of}
use Rattle.world.proofs.WritingLaws.{view-edit}
use Rattle.windows.proofs.Texts.{joined-none, joined-joined}

abbrev pub frame_of_character : Windows → ℕ → ℕ → Option Rect
frame_of_character windows w character = drawing_frame windows w (λ a. drawing_of_character windows w character)

abbrev pub text_frame : Windows → ℕ → List ℕ → Option Rect
text_frame windows w text = edit_frame windows (types w text)

nothing-framed : (o : Option Window) → option_and_then (λ a. frame_of a (λ y x. None)) o ≡ None
nothing-framed o = grind (arith, frame_of-none)

pub frame-nothing : (windows : Windows) (w : ℕ) → text_frame windows w [] ≡ None
frame-nothing windows w = nothing-framed (windows.window w)

-- in a window of the same size
same-size : (f : Drawing) (o p : Option Window) → outline_of o ≡ outline_of p → option_and_then (λ a. frame_of a f) o ≡ option_and_then (λ a. frame_of a f) p
same-size f o p same = grind arith

pub frame-first : (windows : Windows) (w character : ℕ) (text : List ℕ)
    → text_frame windows w (character ∷ text) ≡ frame_of_two (frame_of_character windows w character) (text_frame (after_character windows w character) w text)
frame-first windows w character text =
    let rest = text_drawing (after_character windows w character) w text in
    drawing_frame-over windows w (drawing_of_character windows w character) rest
    ∙ ap (frame_of_two (frame_of_character windows w character))
    (same-size rest (windows.window w) ((after_character windows w character).window w) (sym ((view-edit windows (types w (character ∷ []))).outlines w)))

pub frame-append : (one two : List ℕ) (windows : Windows) (w : ℕ)
    → text_frame windows w (one ++ two) ≡ frame_of_two (text_frame windows w one) (text_frame (after_text windows w one) w two)
frame-append [] two windows w = rw (frame-nothing windows w) refl
frame-append (first ∷ one) two windows w =
    frame-first windows w first (one ++ two)
    ∙ ap (frame_of_two (frame_of_character windows w first)) (frame-append one two (after_character windows w first) w)
    ∙ grind (arith, joined-joined, frame-first)

pub frame-one : (windows : Windows) (w character : ℕ) (frame : Option Rect) → frame ≡ frame_of_character windows w character → frame ≡ text_frame windows w (character ∷ [])
frame-one windows w character frame is = is ∙ sym (rw (frame-first windows w character [], frame-nothing, joined-none) refl)
