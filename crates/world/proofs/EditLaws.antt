-- What an edit leaves is one write of its drawing, but for settings; and its frame is that of the drawing.
use Rattle.std.specs.Prelude.{◌≡◌, ◌+◌, ◌-◌, ◌==◌, if◌then◌else◌, ◌||◌, ◌∷◌}
use Rattle.world.specs.{ℕ, Bool, true, false, nat_lt, Option, Some, None, List, [], arith, refl, option_and_then, option_map, option_map_or, Place, Drawing, GridPlace, Window, WindowMap, Windows}
use Rattle.world.specs.{no_cells, over, put, put_from, put_windows, set, with_cursor, at_place, to_end_of_line, written_glyph, frame_of, after_character, after_text, backspace}
use Rattle.world.specs.{carriage_return, character_drawing, character_printed, drawn_to, is_last_line, line_ended, line_ended_drawing, newline, next_line_drawing, region_up, scrolls, text_drawing}
use Rattle.world.specs.{to_next_line, typed_drawing, typed_in, DifferInSettings, Edit, after_edit, draws, edit_drawing, edit_frame, edit_window, sets, types, with_its_settings, first_settings}
use Rattle.world.proofs.FrameLaws.{frame_of-none}
use Rattle.world.proofs.ViewLaws.{SameCells, own-same}
use Rattle.world.proofs.WindowLaws.{put-nothing, put-put}
use Rattle.world.specs.declared.settings.Settings.{Settings}

-- ---- windows that differ in settings

pub differ-then : (new middle old : WindowMap) → DifferInSettings new middle → DifferInSettings middle old → DifferInSettings new old
differ-then new middle old one other = grind arith

pub differ-cells : (new old : WindowMap) → DifferInSettings new old → SameCells new old
differ-cells new old same = record {
  outlines = λ u. let same = same.same u (first_settings 0) in grind arith;
  backings = λ u. let same = same.same u (first_settings 0) in grind arith;
}

-- ---- a write looks at no settings

module _ (w u : ℕ) (f : Drawing) (settings : Settings) where
  put-by : (new old : WindowMap) (a b : Option Window) (p : Option GridPlace) → option_map (with_its_settings settings) a ≡ option_map (with_its_settings settings) b
      → option_map (with_its_settings settings) (new u) ≡ option_map (with_its_settings settings) (old u)
      → option_map (with_its_settings settings) (put_from new w a p f u) ≡ option_map (with_its_settings settings) (put_from old w b p f u)
  put-by new old a b p e h = grind arith

put-differs : (new old : WindowMap) (w : ℕ) (f : Drawing) → DifferInSettings new old → DifferInSettings (put_windows new w f) (put_windows old w f)
put-differs new old w f same = record {
  same = λ u settings. rw (own-same new old (differ-cells new old same).backings w 0 0) (put-by w u f settings new old _ _ _ (same.same w settings) (same.same u settings));
}

-- ---- from windows to others that are the same but for settings after a drawing was written through window w

module _ (w : ℕ) where
  abbrev pub Draws : Windows → Drawing → Windows → Type 0
  Draws old f new = DifferInSettings new.window (put_windows old.window w f)

  as-it-was : (old : Windows) → Draws old no_cells old
  as-it-was old = rw (put-nothing old.window w no_cells (λ y x. refl)) (record { same = λ u settings. refl })

  drawn : (old : Windows) (f : Drawing) → Draws old f (put old w f)
  drawn old f = record { same = λ u settings. refl }

  -- a drawing and then another
  and-then : (old middle new : Windows) (f g : Drawing) → Draws old f middle → Draws middle g new → Draws old (over g f) new
  and-then old middle new f g first second =
      rw (← put-put old.window w f g) (differ-then new.window (put_windows middle.window w g) _ second (put-differs middle.window (put_windows old.window w f) w g first))

  -- and then settings
  and-set : (old middle : Windows) (f : Drawing) (change : Settings → Settings) → Draws old f middle → Draws old f (set middle w change)
  and-set old middle f change first = differ-then _ middle.window _ (grind arith) first

  settings-set : (old : Windows) (change : Settings → Settings) → Draws old no_cells (set old w change)
  settings-set old change = and-set old old no_cells change (as-it-was old)

  chosen : (b : Bool) (old one other : Windows) (f g : Drawing) → Draws old f one → Draws old g other → Draws old (if b then f else g) (if b then one else other)
  chosen true old one other f g h k = h
  chosen false old one other f g h k = k

  either : (b : Bool) (old one other : Windows) (f : Drawing) → Draws old f one → Draws old f other → Draws old f (if b then one else other)
  either true old one other f h k = h
  either false old one other f h k = k

  in-window : (windows : Windows) (o : Option Window) (drawing : Window → Drawing) (change : Window → Windows)
      → ((a : Window) → Draws windows (drawing a) (change a)) → Draws windows (option_map_or drawing o no_cells) (option_map_or change o windows)
  in-window windows None drawing change each = as-it-was windows
  in-window windows (Some a) drawing change each = each a

  module _ (a : Window) where
    to-next-line : (windows : Windows) (place : Place) → Draws windows (next_line_drawing windows.window w a) (to_next_line windows w a place)
    to-next-line windows place =
        let up = region_up windows.window w a in
        chosen (scrolls a) windows _ _ up no_cells (and-set windows (put windows w up) up (with_cursor (a.settings.cursor.0, 0)) (drawn windows up))
        (either (is_last_line a a.settings.cursor.0) windows _ _ no_cells (settings-set windows (with_cursor place))
        (settings-set windows (with_cursor (a.settings.cursor.0 + 1, 0))))

    printed : (windows : Windows) (character : ℕ) → Draws windows (character_drawing windows w character a) (character_printed windows w character a)
    printed windows character =
        let glyph = at_place a.settings.cursor (written_glyph a.settings character) in
        chosen (nat_lt (a.settings.cursor.1 + 1) a.columns) windows (drawn_to windows w glyph (a.settings.cursor.0, a.settings.cursor.1 + 1))
        (to_next_line (put windows w glyph) w a a.settings.cursor) glyph (over (next_line_drawing (put windows w glyph).window w a) glyph)
        (and-set windows (put windows w glyph) glyph (with_cursor (a.settings.cursor.0, a.settings.cursor.1 + 1)) (drawn windows glyph))
        (and-then windows (put windows w glyph) (to_next_line (put windows w glyph) w a a.settings.cursor) glyph _ (drawn windows glyph)
        (to-next-line (put windows w glyph) a.settings.cursor))

    ended : (windows : Windows) → Draws windows (line_ended_drawing windows w a) (line_ended windows w a)
    ended windows =
        let rest = to_end_of_line a.settings.cursor a.settings.background in
        and-then windows (put windows w rest) (to_next_line (put windows w rest) w a (a.settings.cursor.0, 0)) rest _ (drawn windows rest)
        (to-next-line (put windows w rest) (a.settings.cursor.0, 0))

    -- a carriage return, a backspace or a printed character
    moved-or-printed : (left right : Bool) (old one other printing : Windows) (f : Drawing) → Draws old no_cells one → Draws old no_cells other → Draws old f printing
        → Draws old (if left || right then no_cells else f) (if left then one else if right then other else printing)
    moved-or-printed true right old one other printing f h k l = h
    moved-or-printed false true old one other printing f h k l = k
    moved-or-printed false false old one other printing f h k l = l

    typed : (windows : Windows) (character : ℕ) → Draws windows (typed_drawing windows w character a) (typed_in windows w character a)
    typed windows character =
        chosen (character == newline) windows _ _ (line_ended_drawing windows w a) _ (ended windows)
        (moved-or-printed (character == carriage_return) (character == backspace) windows _ _ _ (character_drawing windows w character a)
        (settings-set windows (with_cursor (a.settings.cursor.0, 0))) (settings-set windows (with_cursor (a.settings.cursor.0, a.settings.cursor.1 - 1)))
        (printed windows character))

  text-draws : (text : List ℕ) (windows : Windows) → Draws windows (text_drawing windows w text) (after_text windows w text)
  text-draws [] windows = as-it-was windows
  text-draws (character ∷ text) windows =
      and-then windows (after_character windows w character) (after_text windows w (character ∷ text)) _ _
      (in-window windows (windows.window w) (typed_drawing windows w character) (typed_in windows w character) (λ a. typed a windows character))
      (text-draws text (after_character windows w character))

-- ---- each edit

pub edit-draws : (windows : Windows) (edit : Edit) → Draws (edit_window edit) windows (edit_drawing windows edit) (after_edit windows edit)
edit-draws windows (sets w change) = settings-set w windows change
edit-draws windows (draws w drawing None) = in-window w windows (windows.window w) drawing _ (λ a. drawn w windows (drawing a))
edit-draws windows (draws w drawing (Some change)) =
    in-window w windows (windows.window w) drawing _ (λ a. and-set w windows (put windows w (drawing a)) (drawing a) change (drawn w windows (drawing a)))
edit-draws windows (types w text) = text-draws w text windows

-- ---- its frame

pub frame-if-there : (o : Option Window) (drawing : Window → Drawing) → option_and_then (λ a. frame_of a (drawing a)) o ≡ option_and_then (λ a. frame_of a (option_map_or drawing o no_cells)) o
frame-if-there None drawing = refl
frame-if-there (Some a) drawing = refl

pub frame-edit : (windows : Windows) (edit : Edit) → edit_frame windows edit ≡ option_and_then (λ a. frame_of a (edit_drawing windows edit)) (windows.window (edit_window edit))
frame-edit windows (sets w change) = grind (arith, frame_of-none)
frame-edit windows (draws w drawing change) = frame-if-there (windows.window w) drawing
frame-edit windows (types w text) = refl
