-- The strokes of a pen, one after another, and what each shows.
use Rattle.std.proofs.lemmas.Grind.{common_steps}
use Rattle.std.specs.Prelude.{◌≡◌, ◌+◌, ◌<◌, ◌≤◌, ◌∷◌, ◌++◌}
use Rattle.paint.specs.{ℕ, true, false, List, [], length, Option, Some, refl, sym, ap, ◌∙◌, subst, arith, append_assoc, append-nil, length-append, and_parts, cases_Bool, eqb-true, lt-ltb, length-map}
use Rattle.paint.specs.{no_rendition, Shown, Rendition, IsRendition, Picture, Place, line_of, same_rendition, Token, Print, Cup, Sgr, digits, spelling, codes_of_attributes, token_effect, IsToken}
use Rattle.paint.specs.{LARGEST_SCREEN, Seen, Gathers, Outbox, change, characters, is_at, most_approach, move_from, under, Draws, IsPlainAt, DrawsWithin}
use Rattle.ecma.proofs.Joining.{Leads-append}
use Rattle.ecma.proofs.Leading.{Leads-nothing, Leads-token}
use Rattle.ecma.proofs.Lengths.{length-spelling}
use Rattle.paint.specs.declared.pen.Pen.{Pen}

-- ---- one after another

pub Gathers-then : {a b c : Seen} {x y z : Outbox} {one other : List ℕ} → Gathers a b x y one → Gathers b c y z other → Gathers a c x z (one ++ other)
Gathers-then h k = grind (arith, append_assoc)

pub Draws-nothing : (seen : Seen) (pen : Pen) (picture : Picture) → Draws [] seen seen pen pen picture picture
Draws-nothing seen pen picture = grind (arith, append-nil, Leads-nothing)

pub Draws-then : {one other : List ℕ} {a b c : Seen} {x y z : Pen} {picture middle drawn : Picture} → Draws one a b x y picture middle → Draws other b c y z middle drawn
    → Draws (one ++ other) a c x z picture drawn
Draws-then {one} {other} {x} {y} {z} {picture} {middle} {drawn} h k = grind (arith, Gathers-then, Leads-append, common_steps)

pub DrawsWithin-nothing : (seen : Seen) (pen : Pen) (picture : Picture) → DrawsWithin 0 seen seen pen pen picture picture
DrawsWithin-nothing seen pen picture = record { piece = []; draws = Draws-nothing seen pen picture; short = omega arith }

pub DrawsWithin-then : {m n : ℕ} {a b c : Seen} {x y z : Pen} {picture middle drawn : Picture} → DrawsWithin m a b x y picture middle → DrawsWithin n b c y z middle drawn
    → DrawsWithin (m + n) a c x z picture drawn
DrawsWithin-then {m} {n} h k = record {
  piece = h.piece ++ k.piece;
  draws = Draws-then h.draws k.draws;
  short = omega (arith, h.short, k.short, length-append h.piece k.piece);
}

pub DrawsWithin-more : {m n : ℕ} {a b : Seen} {x y : Pen} {picture drawn : Picture} → DrawsWithin m a b x y picture drawn → m ≤ n → DrawsWithin n a b x y picture drawn
DrawsWithin-more h few = grind arith

-- ---- one token

pub Draws-token : {before after : Seen} {old new : Pen} (token : Token) (picture drawn : Picture) → IsToken token → Gathers before after old.outbox new.outbox (spelling token)
    → token_effect token (under old picture) ≡ Some (under new drawn) → Draws (spelling token) before after old new picture drawn
Draws-token token picture drawn is gathers effect = grind (arith, Leads-token)

-- ---- a selection

pub change-same : (old new : Rendition) → same_rendition new old ≡ true → change old new ≡ []
unfolding change
change-same old new h = rw h refl

pub change-other : (old new : Rendition) → same_rendition new old ≡ false → change old new ≡ spelling (Sgr new)
unfolding change
change-other old new h = rw h refl

pub selects-nothing : (seen : Seen) (pen : Pen) (rendition : Rendition) (picture : Picture) → same_rendition rendition pen.rendition ≡ true
    → Draws (change pen.rendition rendition) seen seen pen pen picture picture
selects-nothing seen pen rendition picture same = rw (change-same pen.rendition rendition same) (Draws-nothing seen pen picture)

pub selects : {before after : Seen} (old mid : Pen) (rendition : Rendition) (picture : Picture) → same_rendition rendition old.rendition ≡ false → IsRendition rendition
    → Gathers before after old.outbox mid.outbox (spelling (Sgr rendition)) → mid ≡ record old { outbox = mid.outbox }
    → Draws (change old.rendition rendition) before after old (record mid { rendition = rendition }) picture picture
selects old mid rendition picture other is gathers rest = rw (change-other old.rendition rendition other)
    (Draws-token (Sgr rendition) picture picture is gathers
    (λ i. Some (record { picture = picture; cursor = (sym rest i).cursor; rendition = rendition })))

-- ---- a move

pub is_at-known : (cursor : Option Place) (place : Place) → is_at cursor place ≡ true → cursor ≡ Some place
is_at-known cursor place h = grind (arith, and_parts, eqb-true)

move-none : (cursor : Option Place) (place : Place) → is_at cursor place ≡ true → move_from cursor place ≡ []
unfolding move_from
move-none cursor place h = rw h refl

move-some : (cursor : Option Place) (place : Place) → is_at cursor place ≡ false → move_from cursor place ≡ spelling (Cup place.0 place.1)
unfolding move_from
move-some cursor place h = rw h refl

pub goes-nowhere : (seen : Seen) (pen : Pen) (place : Place) (picture : Picture) → is_at pen.cursor place ≡ true → Draws (move_from pen.cursor place) seen seen pen pen picture picture
goes-nowhere seen pen place picture h = rw (move-none pen.cursor place h) (Draws-nothing seen pen picture)

pub goes : {before after : Seen} (old mid : Pen) (place : Place) (picture : Picture) → is_at old.cursor place ≡ false → place.0 < LARGEST_SCREEN → place.1 < LARGEST_SCREEN
    → place.1 < length (line_of picture place.0) → Gathers before after old.outbox mid.outbox (spelling (Cup place.0 place.1)) → mid ≡ record old { outbox = mid.outbox }
    → Draws (move_from old.cursor place) before after old (record mid { cursor = Some place }) picture picture
goes old mid place picture other few_lines few_columns inside gathers rest = rw (move-some old.cursor place other)
    (Draws-token (Cup place.0 place.1) picture picture (few_lines, few_columns) gathers
    (rw (lt-ltb place.1 (length (line_of picture place.0)) inside)
    (λ i. Some (record { picture = picture; cursor = Some place; rendition = (sym rest i).rendition }))))

-- ---- a character

pub spelled-print : (byte : ℕ) → spelling (Print byte) ≡ byte ∷ []
unfolding spelling
spelled-print byte = refl

-- ---- erasing

pub erases : {before after : Seen} (old new : Pen) (token : Token) (place : Place) (picture drawn : Picture) → IsPlainAt old place → IsToken token
    → token_effect token (record { picture = picture; cursor = Some place; rendition = no_rendition }) ≡ Some (record { picture = drawn; cursor = Some place; rendition = no_rendition })
    → Gathers before after old.outbox new.outbox (spelling token) → new ≡ record old { outbox = new.outbox } → Draws (spelling token) before after old new picture drawn
erases old new token place picture drawn at is effect gathers rest =
    Draws-token token picture drawn is gathers
    (rw (at.cursor, at.rendition) (effect ∙ (λ i. Some (record {
      picture = drawn;
      cursor = (sym at.cursor ∙ sym (ap (λ (p : Pen). p.cursor) rest)) i;
      rendition = (sym at.rendition ∙ sym (ap (λ (p : Pen). p.rendition) rest)) i;
    }))))

-- ---- the end: a move after what left the cursor where it was

pub ends : {a b c : Seen} {x y z : Pen} {one : List ℕ} {picture : Picture} (place : Place) → Draws one a b x y picture picture → y.cursor ≡ x.cursor
    → Draws (move_from y.cursor place) b c y z picture picture → Draws (one ++ move_from x.cursor place) a c x z picture picture
ends {b} {c} {y} {z} {picture} place h same k = Draws-then h (subst (λ cursor. Draws (move_from cursor place) b c y z picture picture) same k)

-- ---- how many bytes they have

pub length-move : (cursor : Option Place) (place : Place) → place.0 < LARGEST_SCREEN → place.1 < LARGEST_SCREEN → length (move_from cursor place) ≤ 10
length-move cursor place few_lines few_columns = grind (arith, cases_Bool, move-none, move-some, length-spelling)

pub length-change : (old new : Rendition) → length (change old new) ≤ length (spelling (Sgr new))
length-change old new = grind (arith, cases_Bool, change-same, change-other)

four : length (spelling (Sgr no_rendition)) ≡ 4
unfolding spelling codes_of_attributes digits
four = refl

-- the most bytes that end a rendition
pub length-ended : (old : Rendition) → length (change old no_rendition) ≤ 4
length-ended old = grind (arith, four, length-change)

-- ---- strokes of a move, of a selection, and of characters

pub move-within : {a b : Seen} {x y : Pen} {picture : Picture} (place : Place) → place.0 < LARGEST_SCREEN → place.1 < LARGEST_SCREEN
    → Draws (move_from x.cursor place) a b x y picture picture → DrawsWithin 10 a b x y picture picture
move-within {x = x} place few_lines few_columns h = record { piece = move_from x.cursor place; draws = h; short = length-move x.cursor place few_lines few_columns }

pub select-within : {a b : Seen} {x y : Pen} {picture : Picture} (rendition : Rendition) → Draws (change x.rendition rendition) a b x y picture picture
    → DrawsWithin (length (spelling (Sgr rendition))) a b x y picture picture
select-within {x = x} rendition h = record { piece = change x.rendition rendition; draws = h; short = length-change x.rendition rendition }

pub cells-within : {a b : Seen} {x y : Pen} {picture drawn : Picture} (cells : List Shown) → Draws (characters cells) a b x y picture drawn → DrawsWithin (length cells) a b x y picture drawn
cells-within cells h = record { piece = characters cells; draws = h; short = omega (arith, length-map cells (λ (cell : Shown). cell.character)) }

pub plain-within : {a b : Seen} {x y : Pen} {picture : Picture} → Draws (change x.rendition no_rendition) a b x y picture picture → DrawsWithin 4 a b x y picture picture
plain-within {x = x} h = record { piece = change x.rendition no_rendition; draws = h; short = length-ended x.rendition }

-- the most bytes of an approach with no rendition
pub plain-approach : most_approach no_rendition ≡ 14
plain-approach = omega (arith, four)
