-- The strokes of a doupdate make a text of it.
use Rattle.std.proofs.lemmas.Grind.{common_steps}
use Rattle.std.specs.Prelude.{◌≡◌, ◌*◌, ◌<◌, ◌≤◌, ◌∷◌, ◌++◌}
use Rattle.paint.specs.{Bool, ℕ, List, [], length, Option, Some, None, refl, sym, ap, ◌∙◌, subst, arith, append_assoc, length-append, AllByRecursion, nil_from_length, Shown, no_rendition, Picture}
use Rattle.paint.specs.{Place, HasSize, line_of, line_difference, difference, line_colour_difference, colour_difference, Leads, Shows, showing, Terminal, Seen, PainterState, ShownPicture}
use Rattle.paint.specs.{IsUpdateText, MayRead, known_picture, move, opening, opening_from, start_from, start_of_update, IsGathered, IsUpdate, CanDraw, HoldsUpdate, IsStart, Columns, change, move_from}
use Rattle.paint.specs.{under, Draws, IsPlainAt, DrawsWithin, picture_bytes, LARGEST_SCREEN}
use Rattle.cell.proofs.PictureLemmas.{length-line}
use Rattle.ecma.proofs.Joining.{Leads-append, Leads-in_profile, Reaches-in_profile}
use Rattle.ecma.proofs.Leading.{Leads-nothing}
use Rattle.ecma.proofs.Failing.{Reaches-unique}
use Rattle.paint.specs.declared.pen.Pen.{Pen}
use Rattle.paint.proofs.Shows.{opening-leads}
use Rattle.paint.proofs.PenSteps.{length-ended, length-move}

-- ---- an empty text

-- it leads nowhere else
Leads-empty : (t u : Terminal) → Leads [] t u → t ≡ u
Leads-empty t u h = Reaches-unique [] 0 t t u (Reaches-in_profile [] t t (Leads-in_profile [] t t (Leads-nothing t))) (Reaches-in_profile [] t u (Leads-in_profile [] t u h))

-- ---- how many places differ

line-coloured : (old new : List Shown) → line_colour_difference old new ≤ line_difference old new
line-coloured [] new = omega arith
line-coloured (a ∷ old) [] = omega arith
line-coloured (a ∷ old) (b ∷ new) = grind (arith, line-coloured old new)

coloured : (old new : Picture) → colour_difference old new ≤ difference old new
coloured [] new = omega arith
coloured (line ∷ old) [] = omega arith
coloured (line ∷ old) (other ∷ new) = grind (arith, line-coloured, coloured old new)

line-most : (old new : List Shown) → line_difference old new ≤ length old
line-most [] new = omega arith
line-most (a ∷ old) [] = omega arith
line-most (a ∷ old) (b ∷ new) = grind (arith, line-most old new)

most : (columns : ℕ) (old new : Picture) → columns ≤ LARGEST_SCREEN → AllByRecursion (λ line. length line ≡ columns) old → difference old new ≤ LARGEST_SCREEN * length old
most columns [] new few wide = omega arith
most columns (line ∷ old) [] few wide = omega arith
most columns (line ∷ old) (other ∷ new) few wide = grind (arith, line-most, most columns old new few wide.1)

-- ---- the end of a text

opening-few : (last : Option ShownPicture) → length (opening_from last) ≤ 14
opening-few shown = grind arith

moved : (cursor place : Place) → change no_rendition no_rendition ++ move_from (Some cursor) place ≡ move cursor place
unfolding change move_from
moved cursor place = refl

-- ---- the text

-- what leads from the start shows the same after the opening, read from any terminal that may read it
shows-from : (painter : PainterState) (last : Option ShownPicture) (wanted : ShownPicture) (rest : List ℕ) → 0 < painter.lines → 0 < painter.columns
    → Shows rest (showing (start_from painter last).picture (start_from painter last).cursor) wanted.picture wanted.cursor
    → (t : Terminal) → MayRead painter last t → Shows (opening_from last ++ rest) t wanted.picture wanted.cursor
shows-from painter None wanted rest lines columns shows t size =
    Leads-append opening rest t (showing (start_from painter None).picture (start_from painter None).cursor) (showing wanted.picture wanted.cursor)
    (opening-leads painter.lines painter.columns t size lines columns) shows
shows-from painter (Some shown) wanted rest lines columns shows t is = grind arith

module _ (painter : PainterState) (clear : Bool) (wanted : ShownPicture) {a b c : Seen} {first drawn last : Pen} where
  -- a pen at the start drew the wanted picture, and went to its end
  pub is_update : 0 < painter.lines → 0 < painter.columns → wanted.cursor.0 < LARGEST_SCREEN → wanted.cursor.1 < LARGEST_SCREEN
      → IsPlainAt first (start_of_update painter clear).cursor
      → (strokes : DrawsWithin (picture_bytes (start_of_update painter clear).picture wanted.picture) a b first drawn (start_of_update painter clear).picture wanted.picture)
      → Draws (change drawn.rendition no_rendition ++ move_from drawn.cursor wanted.cursor) b c drawn last wanted.picture wanted.picture
      → IsPlainAt last wanted.cursor
      → IsUpdateText painter clear wanted (opening_from (known_picture painter clear) ++ (strokes.piece ++ (change drawn.rendition no_rendition ++ move_from drawn.cursor wanted.cursor)))
  is_update lines columns few_lines few_columns begin strokes ending end =
      let ended = change drawn.rendition no_rendition ++ move_from drawn.cursor wanted.cursor in
      let rest = strokes.piece ++ ended in
      let begun : under first (start_of_update painter clear).picture ≡ showing (start_of_update painter clear).picture (start_of_update painter clear).cursor = λ i.
      record { picture = (start_of_update painter clear).picture; cursor = begin.cursor i; rendition = begin.rendition i } in
      let done : under last wanted.picture ≡ showing wanted.picture wanted.cursor = λ i. record { picture = wanted.picture; cursor = end.cursor i; rendition = end.rendition i } in
      let leads : Leads rest (showing (start_of_update painter clear).picture (start_of_update painter clear).cursor) (showing wanted.picture wanted.cursor) =
      subst (λ t. Leads rest t (showing wanted.picture wanted.cursor)) begun
      (subst (λ t. Leads rest (under first (start_of_update painter clear).picture) t) done
      (Leads-append strokes.piece ended (under first (start_of_update painter clear).picture) (under drawn wanted.picture) (under last wanted.picture) strokes.draws.leads ending.leads)) in
      record {
        rest = rest;
        parts = refl;
        shows = shows-from painter (known_picture painter clear) wanted rest lines columns leads;
        short = omega (
          arith,
          strokes.short,
          length-append (opening_from (known_picture painter clear)) rest,
          length-append strokes.piece ended,
          length-append (change drawn.rendition no_rendition) (move_from drawn.cursor wanted.cursor),
          length-ended drawn.rendition,
          length-move drawn.cursor wanted.cursor few_lines few_columns,
        );
        unchanged = λ same.
            let nothing : strokes.piece ≡ [] = nil_from_length strokes.piece (omega (arith, strokes.short, coloured (start_of_update painter clear).picture wanted.picture)) in
            let stays = Leads-empty (under first (start_of_update painter clear).picture) (under drawn wanted.picture)
            (subst (λ piece. Leads piece (under first (start_of_update painter clear).picture) (under drawn wanted.picture)) nothing strokes.draws.leads) in
            let still : drawn.cursor ≡ Some (start_of_update painter clear).cursor = sym (ap (λ (t : Terminal). t.cursor) stays) ∙ begin.cursor in
            let plain : drawn.rendition ≡ no_rendition = sym (ap (λ (t : Terminal). t.rendition) stays) ∙ begin.rendition in
            (λ i. nothing i ++ (change (plain i) no_rendition ++ move_from (still i) wanted.cursor)) ∙ moved (start_of_update painter clear).cursor wanted.cursor;
      }

  pub holds : painter.lines ≤ LARGEST_SCREEN → painter.columns ≤ LARGEST_SCREEN → 0 < painter.lines → 0 < painter.columns → wanted.cursor.0 < LARGEST_SCREEN → wanted.cursor.1 < LARGEST_SCREEN
      → HasSize painter.lines painter.columns (start_of_update painter clear).picture → {seen : Seen} → IsGathered seen a first.outbox (opening_from (known_picture painter clear))
      → IsPlainAt first (start_of_update painter clear).cursor
      → DrawsWithin (picture_bytes (start_of_update painter clear).picture wanted.picture) a b first drawn (start_of_update painter clear).picture wanted.picture
      → Draws (change drawn.rendition no_rendition ++ move_from drawn.cursor wanted.cursor) b c drawn last wanted.picture wanted.picture
      → IsPlainAt last wanted.cursor
      → HoldsUpdate painter clear wanted seen c last.outbox
  holds most_lines most_columns lines columns few_lines few_columns size {seen} gathered begin strokes ending end =
      let ended = change drawn.rendition no_rendition ++ move_from drawn.cursor wanted.cursor in
      let is = is_update lines columns few_lines few_columns begin strokes ending end in
      record {
        text = opening_from (known_picture painter clear) ++ (strokes.piece ++ ended);
        gathered = subst (IsGathered seen c last.outbox) (append_assoc (opening_from (known_picture painter clear)) strokes.piece ended)
            (ending.gathers seen (opening_from (known_picture painter clear) ++ strokes.piece) (strokes.draws.gathers seen (opening_from (known_picture painter clear)) gathered));
        is_text = is;
        few = omega (
          arith,
          is.short,
          opening-few (known_picture painter clear),
          coloured (start_of_update painter clear).picture wanted.picture,
          most painter.columns (start_of_update painter clear).picture wanted.picture most_columns size.width,
          size.height,
        );
      }

  -- of an update, from where the text begins
  pub holds-start : {lines columns : ℕ} {changes : List (Option Columns)} {shown : Picture} → painter.lines ≡ lines → painter.columns ≡ columns
      → IsUpdate lines columns changes shown wanted.picture → CanDraw first lines columns wanted.cursor
      → {seen : Seen} → IsGathered seen a first.outbox (opening_from (known_picture painter clear)) → IsStart painter (known_picture painter clear) first shown
      → DrawsWithin (picture_bytes shown wanted.picture) a b first drawn shown wanted.picture
      → ((picture : Picture) → wanted.cursor.1 < length (line_of picture wanted.cursor.0) → Draws (change drawn.rendition no_rendition ++ move_from drawn.cursor wanted.cursor) b c drawn last
      picture picture)
      → IsPlainAt last wanted.cursor
      → HoldsUpdate painter clear wanted seen c last.outbox
  holds-start is_lines is_columns update can gathered begun strokes ending end = grind (arith, holds, length-line, common_steps)
