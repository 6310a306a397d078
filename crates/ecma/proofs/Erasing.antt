-- Lines of a picture, erased.
use Rattle.std.specs.Prelude.{◌≡◌, ◌+◌, ◌-◌, ◌<◌, ◌≤◌, ◌∷◌, ◌++◌, ◌==◌, ◌&&◌, if◌then◌else◌}
use Rattle.ecma.specs.{ℕ, zero, suc, Bool, List, [], length, get_or, set, take, drop, map, inl, inr, refl, sym, ap, ◌∙◌, arith, append_assoc, length-append, nat_le, nat_lt, cases_eq, eq-eqb, ne_eqb}
use Rattle.ecma.specs.{le-leb, lt-leb, lt-ltb, le-ltb, drop_more, get_or_append_left, get_or-append_right, get_or-drop, get_or-set_other, get_or-set_same, get_or-take, get_or_at, length-drop}
use Rattle.ecma.specs.{length-map, length-take, length-take-le, map_push, set_at, take_more, Shown, shown_blank, Picture, HasSize, cell_or, line_of, blank_line, erased_line, erased_at}
use Rattle.ecma.specs.{append-nil, common_steps, take-append-drop}
use Rattle.cell.proofs.PictureLemmas.{length-line, same_pictures}
use Rattle.ecma.specs.declared.token.Erase.{Erase}
use Rattle.ecma.specs.declared.token.Erase.TheVariants.{ToEnd, FromStart, All}
use Rattle.ecma.proofs.PictureSizes.{size-erased_at}

-- ---- one line

blank_line-cell : (row : List Shown) (x : ℕ) → get_or (blank_line row) x shown_blank ≡ shown_blank
blank_line-cell [] x = refl
blank_line-cell (shown ∷ row) zero = refl
blank_line-cell (shown ∷ row) (suc x) = blank_line-cell row x

-- the columns that are erased, up to an end that is left out
abbrev pub span : Erase → ℕ → ℕ → ℕ × ℕ
span ToEnd column columns = (column, columns)
span FromStart column columns = (0, column + 1)
span All column columns = (0, columns)

abbrev is_within : ℕ × ℕ → ℕ → Bool
is_within ends x = nat_le ends.0 x && nat_lt x ends.1

erased-cell : (how : Erase) (column x : ℕ) (row : List Shown) → column < length row → x < length row
    → (if is_within (span how column (length row)) x then shown_blank else get_or row x shown_blank) ≡ get_or (erased_line how column row) x shown_blank
erased-cell how column x row h k =
    grind (arith, length-take, lt-leb, get_or_append_left, get_or-take, le-leb, lt-ltb, get_or-append_right, length-take-le, blank_line-cell, length-map, le-ltb, get_or-drop)

pub filled-is : (how : Erase) (line column lines columns : ℕ) (old new : Picture) → HasSize lines columns old → HasSize lines columns new → line < lines → column < columns
    → ((v u : ℕ) → cell_or shown_blank new (v, u) ≡ (if (v == line) && is_within (span how column columns) u then shown_blank else cell_or shown_blank old (v, u)))
    → new ≡ erased_at how (line, column) old
filled-is how line column lines columns old new h k below left filled =
    same_pictures shown_blank k (size-erased_at lines columns how (line, column) old h) (λ y x under within.
    let row = erased_line how column (line_of old line) in
    elim (cases_eq y line) [
      | inl same ↦
          let wide : length (line_of old line) ≡ columns = length-line line h below in
          let high : line < length old = omega (arith, h.height) in
          let at_line : cell_or shown_blank new (line, x) ≡ (if is_within (span how column columns) x then shown_blank else get_or (line_of old line) x shown_blank) =
          filled line x ∙ rw (eq-eqb line line refl) refl in
          let erased : (if is_within (span how column columns) x then shown_blank else get_or (line_of old line) x shown_blank) ≡ get_or row x shown_blank =
          ap (λ (n : ℕ). if is_within (span how column n) x then shown_blank else get_or (line_of old line) x shown_blank) (sym wide)
          ∙ erased-cell how column x (line_of old line) (omega arith) (omega arith) in
          ap (λ (v : ℕ). cell_or shown_blank new (v, x)) same ∙ at_line ∙ erased
          ∙ ap (λ (cells : List Shown). get_or cells x shown_blank) (sym (get_or-set_same old line row [] high))
          ∙ ap (λ (v : ℕ). cell_or shown_blank (erased_at how (line, column) old) (v, x)) (sym same)
      | inr other ↦
          filled y x ∙ rw (ne_eqb y line other) (ap (λ (cells : List Shown). get_or cells x shown_blank) (sym (get_or-set_other old line y row [] other)))
    ])

pub fill-erases : (how : Erase) (line column lines columns : ℕ) (ends : ℕ × ℕ) (old new : Picture) → HasSize lines columns old → HasSize lines columns new → line < lines → column < columns
    → ends ≡ span how column columns
    → ((v u : ℕ) → cell_or shown_blank new (v, u) ≡ (if (v == line) && is_within ends u then shown_blank else cell_or shown_blank old (v, u)))
    → new ≡ erased_at how (line, column) old
fill-erases how line column lines columns ends old new h k below left ends-are filled =
    filled-is how line column lines columns old new h k below left (λ v u.
    filled v u ∙ ap (λ (some : ℕ × ℕ). if (v == line) && is_within some u then shown_blank else cell_or shown_blank old (v, u)) ends-are)

-- ---- some lines

-- the lines from first up to end, which is left out, erased
abbrev pub lines_blanked : ℕ → ℕ → Picture → Picture
lines_blanked first end picture = take first picture ++ map blank_line (take (end - first) (drop first picture)) ++ drop end picture

length-prefix : (first i : ℕ) (picture : Picture) → first ≤ i → i < length picture → length (take first picture ++ map blank_line (take (i - first) (drop first picture))) ≡ i
length-prefix first i picture h k = grind (arith, length-take-le, length-map, length-drop, length-append)

pub lines_blanked-more : (first i : ℕ) (picture old : Picture) → first ≤ i → i < length old → picture ≡ lines_blanked first i old → erased_at All (i, 0) picture ≡ lines_blanked first (i + 1) old
lines_blanked-more first i picture old h k is =
    let prefix = take first old ++ map blank_line (take (i - first) (drop first old)) in
    let line = line_of old i in
    let long = length-prefix first i old h k in
    let whole : picture ≡ prefix ++ line ∷ drop (i + 1) old = is ∙ ap (λ (rest : Picture). prefix ++ rest) (drop_more old i [] k) in
    let here : line_of picture i ≡ line = ap (λ (p : Picture). line_of p i) whole ∙ get_or_at prefix line (drop (i + 1) old) [] i long in
    let more : i - first + 1 ≡ i + 1 - first = omega arith in
    let place : first + (i - first) ≡ i = omega arith in
    let there : get_or (drop first old) (i - first) [] ≡ line = get_or-drop first old (i - first) [] ∙ ap (λ (n : ℕ). get_or old n []) place in
    let taken : take (i + 1 - first) (drop first old) ≡ take (i - first) (drop first old) ++ line ∷ [] =
    ap (λ (n : ℕ). take n (drop first old)) (sym more)
    ∙ take_more (drop first old) (i - first) [] (omega (arith, length-drop first old))
    ∙ ap (λ (last : List Shown). take (i - first) (drop first old) ++ last ∷ []) there in
    let mapped : map blank_line (take (i + 1 - first) (drop first old)) ≡ map blank_line (take (i - first) (drop first old)) ++ blank_line line ∷ [] = ap (map blank_line) taken
    ∙ map_push blank_line (take (i - first) (drop first old)) line in
    ap (λ (row : List Shown). set picture i (blank_line row)) here
    ∙ ap (λ (p : Picture). set p i (blank_line line)) whole
    ∙ set_at prefix line (drop (i + 1) old) (blank_line line) i long
    ∙ sym (append_assoc prefix (blank_line line ∷ []) (drop (i + 1) old))
    ∙ ap (λ (rows : Picture). rows ++ drop (i + 1) old) (append_assoc (take first old) (map blank_line (take (i - first) (drop first old))) (blank_line line ∷ [])
    ∙ ap (λ (rows : Picture). take first old ++ rows) (sym mapped))

pub ruleset erased_lines = (common_steps, append-nil, take-append-drop, size-erased_at, lines_blanked, lines_blanked-more)
