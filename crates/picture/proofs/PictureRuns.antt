-- A line of the picture is made run by run, each from a piece of one window's line.
use Rattle.std.specs.Prelude.{◌≡◌, ◌+◌, ◌-◌, ◌≤◌, ◌==◌, ◌&&◌, if◌then◌else◌}
use Rattle.picture.specs.{ℕ, true, List, length, nat_le, nat_lt, sym, ap, ◌∙◌, arith, add_assoc, slice_index_or, nat_tests, Glyph, blank, HasSize, Picture, Place, line_of, shown_at, Pairs, shown}
use Rattle.picture.specs.{Rect, HasPlace, WindowMap, Windows, is_no_pad, panel_number, Panels, found_from_top, holds, owner, place_of, standard_screen, window_or_standard, GrewBy, IsPiece}
use Rattle.picture.specs.{frame_holds, IsSpan, mod-add-mod}
use Rattle.picture.specs.declared.span.Span.{Span}
use Rattle.picture.proofs.Held.{IsBetween, held-between, held-no-pad, held-place}
use Rattle.picture.proofs.Lines.{LineShown}
use Rattle.picture.proofs.Searching.{owner-held}

-- the search finds window w from a column on, up to a last one
pub record IsRun (window : WindowMap) (panels : Panels) (y x edge w last : ℕ) : Type 0 where
  pub from : x ≤ last
  pub within : last ≤ edge
  pub same : (u : ℕ) → x ≤ u → u ≤ last → window_or_standard panels (owner window panels y u) ≡ w

-- the window of a span's panel
pub run-of : {window : WindowMap} {panels : Panels} {y x edge w : ℕ} {span : Span} → IsSpan window panels y x edge span → w ≡ window_or_standard panels (panel_number span.panel)
    → IsRun window panels y x edge w span.end
run-of {panels = panels} h is = record { from = h.from; within = h.within; same = λ u from upto. ap (window_or_standard panels) (h.same u from upto) ∙ sym is }

-- A run of columns of which a window is the owner, where the standard screen holds the line. The windows are those before.
pub record IsHeldRun (old now : Windows) (panels : Panels) (y x edge w last : ℕ) : Type 0 where
  pub kept : now ≡ old
  pub run : IsRun old.window panels y x edge w last
  pub standard : (u : ℕ) → x ≤ u → u ≤ edge → holds old.window standard_screen y u ≡ true

pub held_run : {old now : Windows} {panels : Panels} {y left x edge w last : ℕ} → now ≡ old → IsRun now.window panels y x edge w last → left ≤ x
    → ((u : ℕ) → left ≤ u → u ≤ edge → holds old.window standard_screen y u ≡ true) → IsHeldRun old now panels y x edge w last
held_run {panels = panels} {y = y} {x = x} {edge = edge} {w = w} {last = last} kept run begun standard = grind arith

module _ {old now : Windows} {panels : Panels} {y x edge w last : ℕ} (h : IsHeldRun old now panels y x edge w last) where
  -- it holds those columns
  held-from : (u : ℕ) → x ≤ u → u ≤ last → holds old.window w y u ≡ true
  held-from u from upto = grind (arith, owner-held)

  pub run-held : (u : ℕ) → x ≤ u → u ≤ last → holds now.window w y u ≡ true
  run-held u from upto = ap (λ (ws : Windows). holds ws.window w y u) h.kept ∙ held-from u from upto

  pub run-no-pad : is_no_pad now.window w ≡ true
  run-no-pad = held-no-pad now.window w y x (run-held x (omega arith) (let s = h.run in s.from))

  pub run-between : (r : Rect) → ((v u : ℕ) → frame_holds r v u ≡ holds now.window w v u) → IsBetween r y x
  run-between r rectangle = held-between r y x (rectangle y x ∙ run-held x (omega arith) (let s = h.run in s.from))

  pub run-place : (r : Rect) → (r.top, r.left) ≡ place_of now.window w → HasPlace now.window w (y - r.top) (last - r.left)
  run-place r place =
      let top : r.top ≡ (place_of now.window w).0 = ap (λ (p : Place). p.0) place in
      let left : r.left ≡ (place_of now.window w).1 = ap (λ (p : Place). p.1) place in
      rw (top, left) (held-place now.window w y last (run-held last (let s = h.run in s.from) (omega arith)))

-- what is read of the window, and where it is on the screen
pub record IsRead (old now : Windows) (panels : Panels) (y x edge w last : ℕ) (r : Rect) (cells : List Glyph) : Type 0 where
  pub held : IsHeldRun old now panels y x edge w last
  pub place : (r.top, r.left) ≡ place_of now.window w
  pub rectangle : (v u : ℕ) → frame_holds r v u ≡ holds now.window w v u
  pub piece : IsPiece now.window w (y - r.top) (x - r.left) (last - r.left - (x - r.left) + 1) cells

module _ {old now : Windows} {panels : Panels} {y x edge w last : ℕ} {r : Rect} {cells : List Glyph} (h : IsRead old now panels y x edge w last r cells) where
  run : IsRun old.window panels y x edge w last
  run = let held = h.held in held.run

  between : IsBetween r y x
  between = run-between h.held r h.rectangle

  many : last - r.left - (x - r.left) + 1 ≡ last + 1 - x
  many = let s = run in let from = s.from in let b = between in let left = b.left in omega (arith, from, left)

  -- with them the line is made a run further
  pub run-line : (pairs : Pairs) (start : ℕ) (before after new : Picture) → LineShown (λ u. shown pairs (found_from_top old.window panels y u)) y start x before after → start ≤ x
      → ((v u : ℕ) → shown_at new (v, u) ≡ (if (v == y) && (nat_le x u && nat_lt u (x + length cells)) then shown pairs (slice_index_or cells (u - x) blank) else shown_at after (v, u)))
      → ((lines columns : ℕ) → HasSize lines columns after → HasSize lines columns new) → length new ≡ length after → length (line_of new y) ≡ length (line_of after y)
      → LineShown (λ u. shown pairs (found_from_top old.window panels y u)) y start (last + 1) before new
  run-line pairs start before after new so_far begun put size height width = grind (arith, many, run, nat_tests, held-from)

  -- and as many were read
  pub run-grew : (start a b c : ℕ) → start ≤ x → GrewBy (x - start) a b → GrewBy (last - r.left - (x - r.left) + 1) b c → GrewBy (last + 1 - start) a c
  run-grew start a b c begun before more = grind (arith, run, between, mod-add-mod, add_assoc)
