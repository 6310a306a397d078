-- A character written at the cursor of a window of a known state.
use Rattle.std.specs.Prelude.{◌≡◌, ◌+◌, ◌-◌, ◌<◌, ◌≤◌, if◌then◌else◌, ◌==◌, ◌&&◌}
use Rattle.windows.specs.{ℕ, Bool, true, false, Option, Some, None, arith, refl, sym, ◌∙◌, bit_or, nat_tests, bits_of, valid_attributes, Glyph, Place, Windows, put, filled_cells, set, with_cursor}
use Rattle.windows.specs.{written_glyph, at_place, to_end_of_line, lines_up, frame_of, frame_of_two, to_next_line, next_line_drawing, character_printed, character_drawing, line_ended}
use Rattle.windows.specs.{line_ended_drawing, typed_in, typed_drawing, after_character, Rect, Settings, IsStateOf, window_in_state}
use Rattle.windows.specs.declared.state.WindowState.{WindowState}
use Rattle.world.proofs.EditLaws.{frame-if-there}
use Rattle.world.proofs.FrameLaws.{frame-over, frame_of-none}
use Rattle.windows.proofs.Drawings.{frame-at_place, frame-lines_up, frame-to_end_of_line, one_cell}
use Rattle.windows.proofs.Calls.{call-is, frame-is}
use Rattle.windows.proofs.TextFrames.{frame_of_character}
use Rattle.windows.proofs.States.{either-few, valid_attributes-small}

module _ (windows : Windows) (w : ℕ) (s : WindowState) (h : IsStateOf windows w s) where
  -- ---- the end of a line

  pub scrolled : (now new : Windows) (place : Place) → s.settings.scrolling ≡ true → s.settings.cursor.0 ≡ s.settings.region.1
      → now ≡ put windows w (lines_up windows.window w s.settings.region.0 s.settings.region.1 1 s.settings.background)
      → new ≡ set now w (with_cursor (s.settings.cursor.0, 0)) → new ≡ to_next_line windows w (window_in_state s) place
  scrolled now new place on last drawn moved = grind (arith, nat_tests)

  pub scrolled_frame : (r : Rect) → s.settings.scrolling ≡ true → s.settings.cursor.0 ≡ s.settings.region.1
      → r ≡ record { top = s.settings.region.0; left = 0; bottom = s.settings.region.1; right = s.columns - 1 }
      → Some r ≡ frame_of (window_in_state s) (next_line_drawing windows.window w (window_in_state s))
  scrolled_frame r on last e = grind (arith, frame-lines_up, nat_tests)

  pub not_scrolled_frame : (s.settings.scrolling && s.settings.cursor.0 == s.settings.region.1) ≡ false → None ≡ frame_of (window_in_state s) (next_line_drawing windows.window w (window_in_state s))
  not_scrolled_frame off = grind (arith, frame_of-none)

  -- ---- a printed character

  module _ (character : ℕ) where
    printed-then : (now new : Windows) → s.settings.cursor.1 + 1 < s.columns → now ≡ put windows w (at_place s.settings.cursor (written_glyph s.settings character))
        → new ≡ set now w (with_cursor (s.settings.cursor.0, s.settings.cursor.1 + 1)) → new ≡ character_printed windows w character (window_in_state s)
    printed-then now new inside drawn moved = grind (arith, nat_tests)

    pub printed_inside : (new : Windows) → s.settings.cursor.1 + 1 < s.columns
        → new ≡ set (put windows w (filled_cells s.settings.cursor.0 s.settings.cursor.1 s.settings.cursor.1 (written_glyph s.settings character)))
        w (with_cursor (s.settings.cursor.0, s.settings.cursor.1 + 1))
        → new ≡ character_printed windows w character (window_in_state s)
    printed_inside new inside typed =
        printed-then _ new inside (one_cell windows w s h _ s.settings.cursor.0 s.settings.cursor.1 (written_glyph s.settings character) refl) typed

    pub printed_at_end : (now new : Windows) → s.columns ≤ s.settings.cursor.1 + 1 → now ≡ put windows w (at_place s.settings.cursor (written_glyph s.settings character))
        → new ≡ to_next_line now w (window_in_state s) s.settings.cursor → new ≡ character_printed windows w character (window_in_state s)
    printed_at_end now new past drawn moved = grind (arith, nat_tests)

    pub printed_inside_frame : (r : Rect) → s.settings.cursor.1 + 1 < s.columns
        → r ≡ record { top = s.settings.cursor.0; left = s.settings.cursor.1; bottom = s.settings.cursor.0; right = s.settings.cursor.1 }
        → Some r ≡ frame_of (window_in_state s) (character_drawing windows w character (window_in_state s))
    printed_inside_frame r inside e = grind (arith, frame-at_place, nat_tests)

    pub printed_at_end_frame : (now : Windows) (r : Rect) (below o : Option Rect) → s.columns ≤ s.settings.cursor.1 + 1
        → now ≡ put windows w (at_place s.settings.cursor (written_glyph s.settings character))
        → r ≡ record { top = s.settings.cursor.0; left = s.settings.cursor.1; bottom = s.settings.cursor.0; right = s.settings.cursor.1 }
        → below ≡ frame_of (window_in_state s) (next_line_drawing now.window w (window_in_state s)) → o ≡ frame_of_two (Some r) below
        → o ≡ frame_of (window_in_state s) (character_drawing windows w character (window_in_state s))
    printed_at_end_frame now r below o past drawn e next is = grind (arith, frame-at_place, frame-over, nat_tests)

  -- ---- a newline

  pub ended : (now new : Windows) → now ≡ put windows w (to_end_of_line s.settings.cursor s.settings.background)
      → new ≡ to_next_line now w (window_in_state s) (s.settings.cursor.0, 0) → new ≡ line_ended windows w (window_in_state s)
  ended now new drawn moved = cc

  pub ended_frame : (now : Windows) (r : Rect) (below o : Option Rect) → now ≡ put windows w (to_end_of_line s.settings.cursor s.settings.background)
      → r ≡ record { top = s.settings.cursor.0; left = s.settings.cursor.1; bottom = s.settings.cursor.0; right = s.columns - 1 }
      → below ≡ frame_of (window_in_state s) (next_line_drawing now.window w (window_in_state s)) → o ≡ frame_of_two (Some r) below
      → o ≡ frame_of (window_in_state s) (line_ended_drawing windows w (window_in_state s))
  ended_frame now r below o drawn e next is = grind (arith, frame-to_end_of_line, frame-over)

  -- ---- any character

  pub added : (new : Windows) (character : ℕ) → new ≡ typed_in windows w character (window_in_state s) → new ≡ after_character windows w character
  added new character e = grind (arith, call-is windows w s h (typed_in windows w character) refl)

  pub added_frame : (o : Option Rect) (character : ℕ) → o ≡ frame_of (window_in_state s) (typed_drawing windows w character (window_in_state s))
      → o ≡ frame_of_character windows w character
  added_frame o character e =
      e ∙ sym (frame-is windows w s h (λ a. frame_of a (typed_drawing windows w character a)) refl) ∙ frame-if-there (windows.window w) (typed_drawing windows w character)

-- ---- the cell of a character

pub written-is : (settings : Settings) (character shown attributes pair : ℕ) (t : Bool) (cell : Glyph) → bits_of settings.attrs < 64 → settings.background.attributes < 64
    → shown ≡ (if character == 32 then settings.background.character else character) → attributes ≡ bit_or (bits_of settings.attrs) settings.background.attributes
    → pair ≡ (if settings.pair == 0 then settings.background.pair else settings.pair)
    → (let o : Option Glyph = if t then Some (record { character = shown; attributes = valid_attributes attributes; pair = 0 }) else None in Some cell ≡ o)
    → record cell { pair = pair } ≡ written_glyph settings character
written-is settings character shown attributes pair t cell few small shown_is attributes_are pair_is e = grind (arith, valid_attributes-small, either-few)
