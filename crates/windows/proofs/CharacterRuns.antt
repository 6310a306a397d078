-- Characters that are printed in one line, before its last column, are one write of that line.
use Rattle.std.specs.Prelude.{◌≡◌, ◌+◌, ◌-◌, ◌<◌, ◌∷◌, ◌++◌}
use Rattle.windows.specs.{ℕ, zero, suc, true, false, Option, Some, IsSome, List, [], length, get_or, take, drop, map, ap, arith, refl, sym, ◌∙◌, eq-eqb, list_any, cases_eq, ne_eqb, eqb-true}
use Rattle.windows.specs.{nat_tests, take_more, take-append-drop, list_any-append, Glyph, is_printable, Place, Rect, Window, WindowMap, Windows, GridPlace, Drawing, own, own_within, window_limit}
use Rattle.windows.specs.{with_change, after_drawing, put, set_in, set, with_cursor, listed_cells, written_glyph, at_place, frame_of_two, drawn_to, character_printed, character_drawing, typed_in}
use Rattle.windows.specs.{typed_drawing, after_character, after_text, is_bad_character, Settings, printed_cell, IsStateOf}
use mathlib.Core.Path.{fun_ext}
use Rattle.world.proofs.WindowLaws.{own-put, put-nothing}
use Rattle.world.proofs.PutLaws.{put-then}
use Rattle.windows.specs.declared.state.WindowState.{WindowState}
use Rattle.windows.proofs.Calls.{with_state}
use Rattle.windows.proofs.Drawings.{frame-at_place}
use Rattle.windows.proofs.States.{spot-of, window-put}
use Rattle.windows.proofs.TextFrames.{frame-append, frame-first, frame-nothing, frame_of_character, text_frame}
use Rattle.windows.proofs.Texts.{HasSame, same-typed, joined-none, joined-joined}

-- ---- a text and then another

after-append : (one two : List ℕ) (windows : Windows) (w : ℕ) → after_text windows w (one ++ two) ≡ after_text (after_text windows w one) w two
after-append [] two windows w = refl
after-append (first ∷ one) two windows w = after-append one two (after_character windows w first) w

-- the first characters of what is left were written
module _ (windows now new : Windows) (w : ℕ) (text rest : List ℕ) (count : ℕ) (written : new ≡ after_text now w (take count rest)) where
  pub text_goes_on : after_text now w rest ≡ after_text windows w text → after_text new w (drop count rest) ≡ after_text windows w text
  text_goes_on before = grind (arith, (after-append (take count rest) (drop count rest) now w), take-append-drop)

  pub frame_goes_on : (frame one next : Option Rect) → frame_of_two frame (text_frame now w rest) ≡ text_frame windows w text → one ≡ text_frame now w (take count rest)
      → next ≡ frame_of_two frame one → frame_of_two next (text_frame new w (drop count rest)) ≡ text_frame windows w text
  frame_goes_on frame one next before covered is =
      rw (is, covered, written)
      (joined-joined frame _ _
      ∙ ap (frame_of_two frame) (sym (frame-append (take count rest) (drop count rest) now w) ∙ ap (text_frame now w) (take-append-drop count rest))
      ∙ before)

pub rest_accepted : (count : ℕ) (rest : List ℕ) → list_any is_bad_character rest ≡ false → list_any is_bad_character (drop count rest) ≡ false
rest_accepted count rest h = grind (arith, (list_any-append is_bad_character (take count rest) (drop count rest)), take-append-drop)

-- one character
pub one_written : (windows new : Windows) (w : ℕ) (text : List ℕ) → 0 < length text → new ≡ after_character windows w (get_or text 0 0) → new ≡ after_text windows w (take 1 text)
one_written windows new w text some is = grind (arith, (take_more text 0 0 some))

pub one_covered : (windows : Windows) (w : ℕ) (text : List ℕ) (frame : Option Rect) → 0 < length text → frame ≡ frame_of_character windows w (get_or text 0 0)
    → frame ≡ text_frame windows w (take 1 text)
one_covered windows w text frame some is = grind (arith, joined-none, frame-first, frame-nothing, (take_more text 0 0 some))

-- ---- no window comes or goes

same-text : (text : List ℕ) (windows : Windows) (w : ℕ) → HasSame windows (after_text windows w text)
same-text [] windows w u = refl
same-text (first ∷ text) windows w u = grind (arith, same-typed, (same-text text (after_character windows w first) w u))

pub text_keeps : (windows new : Windows) (w : ℕ) (text : List ℕ) → IsSome (windows.window w) → new ≡ after_text windows w text → IsSome (new.window w)
text_keeps windows new w text there is = grind (arith, same-text)

-- ---- a cursor that was set

own_within-set : (n : ℕ) (window : WindowMap) (w : ℕ) (change : Settings → Settings) (u y x : ℕ)
    → own_within n (with_change window w (set_in change)) u y x ≡ own_within n window u y x
own_within-set zero window w change u y x = refl
own_within-set (suc n) window w change u y x = grind (arith, (own_within-set n window w change))

-- a write and a cursor, in either order
put-set : (windows : Windows) (w : ℕ) (a : Window) (p : GridPlace) (f : Drawing) (place : Place) → windows.window w ≡ Some a → own windows.window w 0 0 ≡ Some p
    → put (set windows w (with_cursor place)) w f ≡ set (put windows w f) w (with_cursor place)
put-set windows w a p f place there spot = grind (arith, own_within-set, eq-eqb)

-- ---- one character of a run

module _ (a : Window) (character : ℕ) (printable : is_printable character ≡ true) where
  pub typed-printed : (windows : Windows) (w : ℕ) → typed_in windows w character a ≡ character_printed windows w character a
  typed-printed windows w = grind (arith, nat_tests)

  pub drawing-printed : (windows : Windows) (w : ℕ) → typed_drawing windows w character a ≡ character_drawing windows w character a
  drawing-printed windows w = grind (arith, nat_tests)

module _ (windows : Windows) (w : ℕ) (a : Window) (there : windows.window w ≡ Some a) (character : ℕ) (printable : is_printable character ≡ true)
    (inside : a.settings.cursor.1 + 1 < a.columns) where
  after-printed : after_character windows w character
      ≡ drawn_to windows w (at_place a.settings.cursor (written_glyph a.settings character)) (a.settings.cursor.0, a.settings.cursor.1 + 1)
  after-printed = grind (arith, typed-printed, nat_tests)

  covered-printed : a.settings.cursor.0 < a.lines
      → frame_of_character windows w character ≡ Some (record { top = a.settings.cursor.0; left = a.settings.cursor.1; bottom = a.settings.cursor.0; right = a.settings.cursor.1 })
  covered-printed below = grind (arith, drawing-printed, frame-at_place, nat_tests)

  -- the window then, and that it shows the same places
  module _ (p : GridPlace) (spot : own windows.window w 0 0 ≡ Some p) where
    abbrev next : Window
    next = set_in (with_cursor (a.settings.cursor.0, a.settings.cursor.1 + 1)) (after_drawing w a p (at_place a.settings.cursor (written_glyph a.settings character)) w a)

    there-next : (after_character windows w character).window w ≡ Some next
    there-next = rw after-printed (grind (arith, eq-eqb, window-put))

    spot-next : own (after_character windows w character).window w 0 0 ≡ Some p
    spot-next = rw after-printed (own_within-set window_limit _ w _ w 0 0 ∙ own-put _ w _ w 0 0 ∙ spot)

-- ---- the run

abbrev EachPrinted : List ℕ → Type 0
EachPrinted run = (k : ℕ) → k < length run → is_printable (get_or run k 0) ≡ true

-- a write, and then the cursor at a place, and another write of the same line that ends in it
written-more : (windows : Windows) (w : ℕ) (a : Window) (p : GridPlace) (y x : ℕ) (g : Glyph) (cells : List Glyph) (one last : Place) → windows.window w ≡ Some a
    → own windows.window w 0 0 ≡ Some p
    → set (put (drawn_to windows w (at_place (y, x) g) one) w (listed_cells y (x + 1) cells)) w (with_cursor last)
    ≡ set (put windows w (listed_cells y x (g ∷ cells))) w (with_cursor last)
written-more windows w a p y x g cells one last there spot =
    ap (λ v. set v w (with_cursor last)) (put-set (put windows w (at_place (y, x) g)) w _ p (listed_cells y (x + 1) cells) one (window-put windows.window w a p _ there spot) (grind (arith, own-put)))
    ∙ grind arith
    ∙ ap (λ (map : WindowMap). set (record windows { window = map }) w (with_cursor last))
    (put-then windows.window w a (at_place (y, x) g) (listed_cells y (x + 1) cells) (listed_cells y x (g ∷ cells)) there (λ v u below on. grind (arith, cases_eq, nat_tests)))

nothing-written : (windows : Windows) (w : ℕ) (a : Window) (y x : ℕ) (place : Place) → windows.window w ≡ Some a → place ≡ a.settings.cursor
    → set (put windows w (listed_cells y x [])) w (with_cursor place) ≡ windows
nothing-written windows w a y x place there same = rw (put-nothing windows.window w (listed_cells y x []) (λ v u. grind (arith, nat_tests))) (grind (arith, eqb-true))

-- the windows after the run is printed
run_written : (run : List ℕ) (windows : Windows) (w : ℕ) (a : Window) (p : GridPlace) → windows.window w ≡ Some a → own windows.window w 0 0 ≡ Some p → EachPrinted run
    → a.settings.cursor.1 + length run < a.columns
    → after_text windows w run
    ≡ set (put windows w (listed_cells a.settings.cursor.0 a.settings.cursor.1 (map (written_glyph a.settings) run))) w (with_cursor (a.settings.cursor.0, a.settings.cursor.1 + length run))
run_written [] windows w a p there spot printed inside = sym (nothing-written windows w a _ _ _ there (grind arith))
run_written (first ∷ run) windows w a p there spot printed inside =
    let on : a.settings.cursor.1 + 1 + length run ≡ a.settings.cursor.1 + suc (length run) = omega arith in
    let fits : a.settings.cursor.1 + 1 < a.columns = omega arith in
    let ok = printed 0 (omega arith) in
    run_written run _ w _ p (there-next windows w a there first ok fits p spot) (spot-next windows w a there first ok fits p spot) (λ k below. printed (suc k) (omega arith)) (omega arith)
    ∙ rw (after-printed windows w a there first ok fits, on) (written-more windows w a p _ _ (written_glyph a.settings first) (map (written_glyph a.settings) run) _ _ there spot)

-- what it covers
run_covered : (run : List ℕ) (first : ℕ) (windows : Windows) (w : ℕ) (a : Window) (p : GridPlace) → windows.window w ≡ Some a → own windows.window w 0 0 ≡ Some p
    → EachPrinted (first ∷ run) → a.settings.cursor.0 < a.lines → a.settings.cursor.1 + length (first ∷ run) < a.columns
    → text_frame windows w (first ∷ run)
    ≡ Some (record { top = a.settings.cursor.0; left = a.settings.cursor.1; bottom = a.settings.cursor.0; right = a.settings.cursor.1 + length run })
run_covered [] first windows w a p there spot printed below inside =
    rw (frame-first windows w first [], frame-nothing, joined-none, covered-printed windows w a there first (printed 0 (omega arith)) (omega arith) below) (grind arith)
run_covered (second ∷ run) first windows w a p there spot printed below inside =
    let fits : a.settings.cursor.1 + 1 < a.columns = omega arith in
    let ok = printed 0 (omega arith) in
    let more = run_covered run second (after_character windows w first) w _ p (there-next windows w a there first ok fits p spot) (spot-next windows w a there first ok fits p spot)
    (λ k in_run. printed (suc k) (omega arith)) below (omega arith) in
    rw (frame-first windows w first (second ∷ run), covered-printed windows w a there first ok fits below, more) (grind arith)

-- ---- as the code has it

inked-is : (settings : Settings) (character : ℕ) → printed_cell (written_glyph settings 32) character ≡ written_glyph settings character
inked-is settings character = grind (arith, cases_eq, eq-eqb, ne_eqb)

module _ (windows : Windows) (w : ℕ) (s : WindowState) (h : IsStateOf windows w s) (run : List ℕ) (printed : (k : ℕ) → k < length run → is_printable (get_or run k 0) ≡ true)
    (inside : s.settings.cursor.1 + length run < s.columns) where
  known : windows.window w ≡ Some (with_state s h.window)
  known = grind arith

  pub run_printed : (pen : Glyph) (now new : Windows) (x : ℕ) → pen ≡ written_glyph s.settings 32 → x ≡ s.settings.cursor.1 + length run
      → now ≡ put windows w (listed_cells s.settings.cursor.0 s.settings.cursor.1 (map (printed_cell pen) run)) → new ≡ set now w (with_cursor (s.settings.cursor.0, x))
      → new ≡ after_text windows w run
  run_printed pen now new x pen_is end after_drawing moved =
      let spot = spot-of windows w s h in
      rw (moved, after_drawing, pen_is, fun_ext (inked-is s.settings), end) (sym (run_written run windows w (with_state s h.window) spot.0 known spot.1 printed inside))

pub run_frame : (windows : Windows) (w : ℕ) (s : WindowState) (h : IsStateOf windows w s) (run : List ℕ) → ((k : ℕ) → k < length run → is_printable (get_or run k 0) ≡ true)
    → s.settings.cursor.1 + length run < s.columns → 0 < length run → (right : ℕ) → right ≡ s.settings.cursor.1 + length run - 1
    → Some (record { top = s.settings.cursor.0; left = s.settings.cursor.1; bottom = s.settings.cursor.0; right = right }) ≡ text_frame windows w run
run_frame windows w s h [] printed inside some right is = absurd (omega arith)
run_frame windows w s h (first ∷ run) printed inside some right is = let spot = spot-of windows w s h in grind (arith, known, run_covered)
