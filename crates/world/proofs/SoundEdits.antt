-- An edit leaves sound windows sound, and so do marks.
use Rattle.std.specs.Prelude.{◌≡◌, ◌+◌, ◌<◌, if◌then◌else◌, ◌==◌, ◌∷◌}
use Rattle.world.specs.{ℕ, Bool, true, false, nat_lt, Option, Some, None, List, [], arith, refl, MatchOption, ⊤, list_any, option_map, eqb-true, or_parts, nat_tests, is_printable, Place, Backing}
use Rattle.world.specs.{Drawing, GridPlace, Window, WindowMap, Windows, grid_drawing, if_there, laid_over, own, parent_number, put, put_from, with_change, within, set, with_cursor, at_place}
use Rattle.world.specs.{written_glyph, after_text, backspace, carriage_return, character_printed, is_last_line, newline, scrolls, to_next_line, typed_in, Edit, after_edit, after_marks, draws, marks}
use Rattle.world.specs.{sets, types, unmarked_lines, with_unmarked, AreColumnsWithin, AreSettingsWithin, AreSoundWindows, HasCells, IsSoundWindow, IsStandardScreen, is_bad_character}
use Rattle.world.proofs.Fits.{FitsChange, FitsEdit, HasCellsOnly, KeepsSettings}
use Rattle.world.proofs.PictureLaws.{SameView, outline-put}
use Rattle.world.proofs.SoundCells.{IsCell-written, cell-sound, cells-at_place, cells-to_end_of_line, touched-within}
use Rattle.world.proofs.ViewLaws.{outline, outline_of, own-same}
use Rattle.world.proofs.WritingLaws.{put-view}
use Rattle.world.specs.declared.settings.Columns.{Columns}
use Rattle.world.specs.declared.settings.Settings.{Settings}

-- ---- windows of the same view

-- the window b, which was the sound window a
record IsKept (window : WindowMap) (a b : Window) : Type 0 where
  parent : parent_number b.backing ≡ parent_number a.backing
  cells : HasCells window b b.backing
  settings : AreSettingsWithin b.lines b.columns b.settings
  touched : (y : ℕ) → AreColumnsWithin b.columns (b.touched y)

module _ (new old : Windows) (lines : new.lines ≡ old.lines) (columns : new.columns ≡ old.columns) (view : SameView new.window old.window) where
  sound-one : (u : ℕ) (a b : Window) → old.window u ≡ Some a → new.window u ≡ Some b → IsSoundWindow old u a → IsKept old.window a b → IsSoundWindow new u b
  sound-one u a b was is sound kept = grind (arith, view.outlines, view.places)

  standard-one : (a b : Window) (backing : Backing) → b.backing ≡ backing → IsStandardScreen old a → IsKept old.window a b → outline b ≡ outline a → IsStandardScreen new b
  standard-one a b backing backed standard kept size = grind arith

  -- if each window is kept
  sound-view : AreSoundWindows old → ((u : ℕ) (a b : Window) → old.window u ≡ Some a → new.window u ≡ Some b → IsSoundWindow old u a → IsKept old.window a b) → AreSoundWindows new
  sound-view sound kept =
      let each : (u : ℕ) → MatchOption (new.window u) ⊤ (IsSoundWindow new u) = λ u. grind (arith, sound-one, view.outlines, kept) in
      grind (arith, standard-one, each, view.outlines)

-- ---- settings and marks

-- some windows with other settings and touched columns
module _ (windows : Windows) (test : ℕ → Bool) (settings : Window → Settings) (touched : ℕ → Window → ℕ → Option Columns) where
  abbrev dressed : WindowMap
  dressed u = let change : Window → Window = λ a. record a { settings = settings a; touched = touched u a } in if test u then option_map change (windows.window u) else windows.window u

  sound-dressed : ((u : ℕ) (a : Window) → windows.window u ≡ Some a → test u ≡ true → IsSoundWindow windows u a
      → AreSettingsWithin a.lines a.columns (settings a) × ((y : ℕ) → AreColumnsWithin a.columns (touched u a y))) → AreSoundWindows windows → AreSoundWindows (record windows { window = dressed })
  sound-dressed kept sound =
      sound-view _ windows refl refl (record { outlines = λ u. grind arith; places = own-same dressed windows.window (λ u. grind arith) }) sound (λ u a b was is before. grind (arith, kept))

sound-set : (windows : Windows) (w : ℕ) (change : Settings → Settings) → AreSoundWindows windows → ((a : Window) → windows.window w ≡ Some a → KeepsSettings a change)
    → AreSoundWindows (set windows w change)
sound-set windows w change sound keeps = sound-dressed windows (λ u. u == w) (λ a. change a.settings) (λ u a. a.touched) (λ u a is one h. grind (arith, keeps, eqb-true)) sound

pub sound-marks : (windows : Windows) (test : ℕ → Bool) (change : ℕ → Window → Window) → AreSoundWindows windows → FitsChange windows (marks test change)
    → AreSoundWindows (after_marks windows test change)
sound-marks windows test change sound fits =
    sound-dressed windows test (λ a. a.settings) (λ u a. (change u a).touched) (λ u a is one h. (h.settings, fits u a is one h.has_column h.touched)) sound

pub sound-unmarked_lines : (windows : Windows) (w : ℕ) (test : ℕ → Bool) → AreSoundWindows windows
    → AreSoundWindows (record windows { window = with_change windows.window w (unmarked_lines test) })
sound-unmarked_lines windows w test = sound-dressed windows (λ u. u == w) _ _ (λ u a is one h. grind arith)

pub sound-unmarked : (windows : Windows) (ws : List ℕ) → AreSoundWindows windows → AreSoundWindows (record windows { window = with_unmarked windows.window ws })
sound-unmarked windows ws = sound-dressed windows (λ u. list_any (λ w. w == u) ws) _ _ (λ u a is one h. grind arith)

-- ---- drawings

laid-cells : (window : WindowMap) (p : GridPlace) (a b : Window) (f : Drawing) (backing : Backing) → HasCellsOnly a f → HasCells window b backing
    → HasCells window b (laid_over (grid_drawing p (within a f)) backing)
laid-cells window p a b f backing only h = grind (arith, only, nat_tests)

kept-put : (windows : Windows) (w : ℕ) (f : Drawing) (o : Option Window) (p : Option GridPlace) → MatchOption o ⊤ (λ a. HasCellsOnly a f) → (u : ℕ) (b : Window)
    → windows.window u ≡ Some b → IsSoundWindow windows u b → MatchOption (put_from windows.window w o p f u) ⊤ (IsKept windows.window b)
kept-put windows w f o p only u b was h =
    grind (arith, touched-within, (λ (a : Window) (p : GridPlace) (only : HasCellsOnly a f). laid-cells windows.window p a b f b.backing only h.cells))

-- ---- characters

-- sound windows, among them one of the size of a
module _ (w : ℕ) (a : Window) where
  abbrev Stands : Windows → Type 0
  Stands windows = AreSoundWindows windows × (outline_of (windows.window w) ≡ Some (outline a))

  drawn : (windows : Windows) (f : Drawing) → Stands windows → HasCellsOnly a f → Stands (put windows w f)
  drawn windows f h only =
      let kept = kept-put windows w f (windows.window w) (own windows.window w 0 0) (grind (arith, only)) in
      (sound-view _ windows refl refl (put-view windows.window w f) h.0 (λ u b c was is before. let one = kept u b was before in grind arith), grind (arith, outline-put))

  placed : (windows : Windows) (place : Place) → Stands windows → place.0 < a.lines → place.1 < a.columns → Stands (set windows w (with_cursor place))
  placed windows place h below left = (sound-set windows w (with_cursor place) h.0 (λ b is inside. grind arith), grind arith)

  module _ (settings : AreSettingsWithin a.lines a.columns a.settings) where
    chosen : (b : Bool) (one other : Windows) → (b ≡ true → Stands one) → (b ≡ false → Stands other) → Stands (if b then one else other)
    chosen b one other h k = grind arith

    next-line : (windows : Windows) (place : Place) → Stands windows → place.0 < a.lines → place.1 < a.columns → Stands (to_next_line windows w a place)
    next-line windows place h below left =
        chosen (scrolls a) _ _ (λ yes. placed _ _ (drawn windows _ h (λ y x below left. grind (arith, nat_tests, cell-sound))) settings.cursor_line (grind arith))
        (λ no. chosen (is_last_line a a.settings.cursor.0) _ _ (λ last. placed windows place h below left) (λ further. placed windows _ h (grind (arith, nat_tests)) (grind arith)))

    printed : (windows : Windows) (character : ℕ) → Stands windows → is_printable character ≡ true → Stands (character_printed windows w character a)
    printed windows character h good =
        let first = drawn windows (at_place a.settings.cursor (written_glyph a.settings character)) h (cells-at_place a _ (IsCell-written _ _ a.settings character settings good) _) in
        chosen (nat_lt (a.settings.cursor.1 + 1) a.columns) _ _ (λ yes. placed _ _ first settings.cursor_line (grind (arith, nat_tests)))
        (λ no. next-line _ _ first settings.cursor_line settings.cursor_column)

    typed : (windows : Windows) (character : ℕ) → Stands windows → is_bad_character character ≡ false → Stands (typed_in windows w character a)
    typed windows character h good =
        chosen (character == newline) _ _ (λ yes. next-line _ _ (drawn windows _ h (cells-to_end_of_line a _ settings.background _)) settings.cursor_line (grind arith))
        (λ no. chosen (character == carriage_return) _ _ (λ yes. placed windows _ h settings.cursor_line (grind arith))
        (λ neither. chosen (character == backspace) _ _ (λ yes. placed windows _ h settings.cursor_line (grind arith)) (λ none. printed windows character h (grind arith))))

-- ---- each edit

-- what becomes of a window that is there
in-window : (windows : Windows) (w : ℕ) (change : Window → Windows) → AreSoundWindows windows → ((a : Window) → windows.window w ≡ Some a → Stands w a windows → AreSoundWindows (change a))
    → AreSoundWindows (if_there windows w change)
in-window windows w change sound k = let at : (a : Window) → windows.window w ≡ Some a → AreSoundWindows (change a) = λ a is. k a is (sound, grind arith) in grind arith

add-text : (w : ℕ) (text : List ℕ) (windows : Windows) → list_any is_bad_character text ≡ false → AreSoundWindows windows → AreSoundWindows (after_text windows w text)
add-text w [] windows good sound = sound
add-text w (character ∷ text) windows good sound =
    let parts = or_parts _ _ good in
    add-text w text _ parts.1 (in-window windows w _ sound (λ a is h. (typed w a (grind arith) windows character h parts.0).0))

pub sound-edit : (windows : Windows) (edit : Edit) → AreSoundWindows windows → FitsEdit windows edit → AreSoundWindows (after_edit windows edit)
sound-edit windows (sets w change) sound fits = sound-set windows w change sound fits
sound-edit windows (draws w drawing None) sound fits = in-window windows w _ sound (λ a is h. (drawn w a windows (drawing a) h (fits a is).0).0)
sound-edit windows (draws w drawing (Some change)) sound fits =
    in-window windows w _ sound (λ a is h. let fit = fits a is in sound-set _ w change (drawn w a windows (drawing a) h fit.0).0 (λ b same. let keeps = fit.1 in grind arith))
sound-edit windows (types w text) sound fits = add-text w text windows fits sound
