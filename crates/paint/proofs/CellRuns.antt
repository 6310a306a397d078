-- Runs of cells: printed one after another, and drawn in a line.
use Rattle.std.specs.Prelude.{◌≡◌, ◌+◌, ◌-◌, ◌<◌, ◌≤◌, ◌∷◌, ◌++◌}
use Rattle.paint.specs.{Bool, ℕ, zero, suc, true, false, List, [], length, get_or, take, drop, Some, inl, inr, refl, sym, ap, ◌∙◌, subst, arith, length-append, length-set, not, and_parts, cases_lt}
use Rattle.paint.specs.{lt-ltb, take-add, drop-drop, get_or_default, get_or_past, get_or-drop, get_or-set_same, get_or-take, length-drop, length-take, length-take-le, set-get_or, IsRendition, IsShown}
use Rattle.paint.specs.{Rendition, Shown, shown_blank, Picture, line_of, with_shown, DiffersAt, same_rendition, same_shown, same_rendition-equal, Leads, Terminal, Print, Seen, Gathers, cells_between}
use Rattle.paint.specs.{AreOfRun, IsRun, all_have, Draws, DrawsWithin, characters, line_bytes, most_approach, run_bytes, with_cells, within}
use Rattle.ecma.proofs.Joining.{Leads-append}
use Rattle.ecma.proofs.Leading.{Leads-nothing, Leads-token}
use Rattle.ecma.proofs.Lengths.{length-selection}
use Rattle.ecma.proofs.Printing.{printable}
use Rattle.paint.specs.declared.pen.Pen.{Pen}
use Rattle.paint.proofs.PenSteps.{DrawsWithin-more, cells-within, spelled-print}
use Rattle.paint.proofs.Costs.{left, line_bytes-other}

-- ---- what a terminal shows after a run

abbrev at : Picture → ℕ → ℕ → ℕ → Rendition → Terminal
at picture columns line column rendition = record { picture = picture; cursor = within columns (line, column); rendition = rendition }

character-leads : (columns line column : ℕ) (picture : Picture) (rendition : Rendition) (cell : Shown)
    → IsShown cell → cell.rendition ≡ rendition → length (line_of picture line) ≡ columns → column < columns
    → Leads (cell.character ∷ []) (at picture columns line column rendition) (at (with_shown picture (line, column) cell) columns line (column + 1) rendition)
character-leads columns line column picture rendition cell is same wide inside = rw (← spelled-print cell.character)
    (Leads-token (Print cell.character) (at picture columns line column rendition) (at (with_shown picture (line, column) cell) columns line (column + 1) rendition)
    (printable cell.character is.from_space is.to_tilde)
    (rw (lt-ltb column columns inside, wide, ← same) refl))

-- a line keeps its width
still-wide : (columns line column : ℕ) (picture : Picture) (cell : Shown) → length (line_of picture line) ≡ columns → column < columns
    → length (line_of (with_shown picture (line, column) cell) line) ≡ columns
still-wide columns line column picture cell wide inside = grind (arith, cases_lt, get_or-set_same, length-set, get_or_past)

run-leads : (columns line column end : ℕ) (picture : Picture) (rendition : Rendition) (cells : List Shown) → ((k : ℕ) → k < length cells → IsShown (get_or cells k shown_blank))
    → ((k : ℕ) → k < length cells → (get_or cells k shown_blank).rendition ≡ rendition) → length (line_of picture line) ≡ columns → column + length cells ≡ end → end ≤ columns
    → Leads (characters cells) (at picture columns line column rendition) (at (with_cells picture (line, column) cells) columns line end rendition)
run-leads columns line column end picture rendition [] sound same wide ends room = grind (arith, Leads-nothing)
run-leads columns line column end picture rendition (cell ∷ cells) sound same wide ends room =
    let inside : column < columns = omega arith in
    Leads-append (cell.character ∷ []) (characters cells) (at picture columns line column rendition) (at (with_shown picture (line, column) cell) columns line (column + 1) rendition)
    (at (with_cells picture (line, column) (cell ∷ cells)) columns line end rendition)
    (character-leads columns line column picture rendition cell (sound 0 (omega arith)) (same 0 (omega arith)) wide inside)
    (run-leads columns line (column + 1) end (with_shown picture (line, column) cell) rendition cells (λ k few. sound (suc k) (omega arith)) (λ k few. same (suc k) (omega arith))
    (still-wide columns line column picture cell wide inside) (omega arith) room)

pub prints-run : {before after : Seen} (old new : Pen) (line column : ℕ) (cells : List Shown) (picture : Picture) → ((k : ℕ) → k < length cells → IsShown (get_or cells k shown_blank))
    → ((k : ℕ) → k < length cells → (get_or cells k shown_blank).rendition ≡ old.rendition) → 0 < length cells → column + length cells ≤ old.columns → old.cursor ≡ Some (line, column)
    → length (line_of picture line) ≡ old.columns → Gathers before after old.outbox new.outbox (characters cells)
    → new.rendition ≡ old.rendition → new.cursor ≡ within old.columns (line, column + length cells)
    → Draws (characters cells) before after old new picture (with_cells picture (line, column) cells)
prints-run old new line column cells picture sound same some room known wide gathers rendition cursor =
    let start : old.cursor ≡ within old.columns (line, column) = known ∙ sym (rw (lt-ltb column old.columns (omega arith)) refl) in
    let leads = run-leads old.columns line column (column + length cells) picture old.rendition cells sound same wide refl room in
    record { gathers = gathers; leads = rw (start, cursor, rendition) leads }

-- which is no more than it may have
pub drawn-short : (n : ℕ) (cells : List Shown) → IsRendition (get_or cells 0 shown_blank).rendition → 0 < length cells → n ≤ most_approach (get_or cells 0 shown_blank).rendition
    → n + length cells ≤ run_bytes cells
drawn-short n cells is some few = omega (arith, few, some, length-selection (get_or cells 0 shown_blank).rendition is)

-- ---- a run that begins with cells that are shown already

-- each of them has the rendition that all have
pub all-at : (rendition : Rendition) (cells : List Shown) (k : ℕ) → all_have rendition cells ≡ true → k < length cells → (get_or cells k shown_blank).rendition ≡ rendition
all-at rendition [] k all few = absurd (omega arith)
all-at rendition (cell ∷ cells) zero all few = same_rendition-equal cell.rendition rendition (and_parts (same_rendition cell.rendition rendition) (all_have rendition cells) all).0
all-at rendition (cell ∷ cells) (suc k) all few = all-at rendition cells k (and_parts (same_rendition cell.rendition rendition) (all_have rendition cells) all).1 (omega arith)

-- the cells from a gap on, up to the end of the run after it
pub gap-and : (gap start end : ℕ) (wanted : List Shown) → gap ≤ start → start ≤ end → end ≤ length wanted
    → cells_between gap end wanted ≡ cells_between gap start wanted ++ cells_between start end wanted
gap-and gap start end wanted one other inside =
    let both : end - gap ≡ (start - gap) + (end - start) = omega (arith, one, other) in
    let there : gap + (start - gap) ≡ start = omega (arith, one) in
    ap (λ n. take n (drop gap wanted)) both ∙ take-add (start - gap) (end - start) (drop gap wanted)
    ∙ ap (λ l. take (start - gap) (drop gap wanted) ++ take (end - start) l) (drop-drop (start - gap) gap wanted ∙ ap (λ n. drop n wanted) there)

-- these change nothing
cells-there : (picture : Picture) (line x : ℕ) (cells : List Shown) → x + length cells ≤ length (line_of picture line)
    → ((k : ℕ) → k < length cells → get_or cells k shown_blank ≡ get_or (line_of picture line) (x + k) shown_blank) → with_cells picture (line, x) cells ≡ picture
cells-there picture line x [] room are = refl
cells-there picture line x (cell ∷ cells) room are =
    let here : x + 0 ≡ x = omega arith in
    let is : cell ≡ get_or (line_of picture line) x shown_blank = are 0 (omega arith) ∙ ap (λ n. get_or (line_of picture line) n shown_blank) here in
    let same : with_shown picture (line, x) cell ≡ picture = grind (arith, set-get_or) in
    ap (λ p. with_cells p (line, x + 1) cells) same
    ∙ cells-there picture line (x + 1) cells (omega arith) (λ k few. let later : x + suc k ≡ x + 1 + k = omega arith in are (suc k) (omega arith) ∙ ap (λ n. get_or (line_of picture line) n shown_blank) later)

with_cells-append : (picture : Picture) (line x : ℕ) (some more : List Shown)
    → with_cells picture (line, x) (some ++ more) ≡ with_cells (with_cells picture (line, x) some) (line, x + length some) more
with_cells-append picture line x [] more = ap (λ n. with_cells picture (line, n) more) (omega arith)
with_cells-append picture line x (cell ∷ some) more = grind (arith, (with_cells-append (with_shown picture (line, x) cell) line (x + 1) some more))

-- they are printed with the cells after them
pub run-after : {a b : Seen} {x y : Pen} {picture : Picture} (line column : ℕ) (gap cells all : List Shown) → all ≡ gap ++ cells
    → column + length gap ≤ length (line_of picture line)
    → ((k : ℕ) → k < length gap → get_or gap k shown_blank ≡ get_or (line_of picture line) (column + k) shown_blank)
    → Draws (characters all) a b x y picture (with_cells picture (line, column) all)
    → DrawsWithin (length gap + length cells) a b x y picture (with_cells picture (line, column + length gap) cells)
run-after {a} {b} {x} {y} {picture} line column gap cells all is room are h = grind (arith, DrawsWithin-more, cells-within, length-append, with_cells-append, cells-there)

-- cells of a gap are shown
pub gap-at : (row gap : List Shown) (column k : ℕ) → take (length gap) (drop column row) ≡ gap → k < length gap → get_or gap k shown_blank ≡ get_or row (column + k) shown_blank
gap-at row gap column k are few = grind (arith, get_or-take, get_or-drop)

-- or alone, so many
pub gap-within : {a b : Seen} {x y : Pen} {picture : Picture} (line column : ℕ) (gap : List Shown) → column + length gap ≤ length (line_of picture line)
    → ((k : ℕ) → k < length gap → get_or gap k shown_blank ≡ get_or (line_of picture line) (column + k) shown_blank)
    → Draws (characters gap) a b x y picture (with_cells picture (line, column) gap) → DrawsWithin (length gap) a b x y picture picture
gap-within {a} {b} {x} {y} {picture} line column gap room are h = grind (arith, cells-within, cells-there)

-- ---- what it may cost

-- each may cost a byte at least
run-cost : (x n : ℕ) (shown wanted : List Shown) → length shown ≡ length wanted → x + n ≤ length shown
    → ((v : ℕ) → x ≤ v → v < x + n → same_shown (get_or shown v shown_blank) (get_or wanted v shown_blank) ≡ false)
    → n + line_bytes (drop (x + n) shown) (drop (x + n) wanted) ≤ line_bytes (drop x shown) (drop x wanted)
run-cost x zero shown wanted same room differs = grind arith
run-cost x (suc n) shown wanted same room differs = grind (arith, left, line_bytes-other, run-cost (x + 1) n shown wanted same (omega arith) (λ v from to. differs v (omega arith) (omega arith)))

-- a byte for each cell of a run but the first
pub run-short : (x stop : ℕ) (shown wanted : List Shown) → length shown ≡ length wanted → x < stop → stop ≤ length shown
    → ((v : ℕ) → x ≤ v → v < stop → same_shown (get_or shown v shown_blank) (get_or wanted v shown_blank) ≡ false)
    → stop - (x + 1) + line_bytes (drop stop shown) (drop stop wanted) ≤ line_bytes (drop (x + 1) shown) (drop (x + 1) wanted)
run-short x stop shown wanted same some inside differs =
    let all : x + 1 + (stop - (x + 1)) ≡ stop = omega (arith, some) in
    subst (λ n. stop - (x + 1) + line_bytes (drop n shown) (drop n wanted) ≤ line_bytes (drop (x + 1) shown) (drop (x + 1) wanted)) all
    (run-cost (x + 1) (stop - (x + 1)) shown wanted same (omega (arith, some, inside)) (λ v from to. differs v (omega arith) (omega (arith, to, some))))

-- ---- parts of a line

pub length-between : (start x : ℕ) (cells : List Shown) → start ≤ x → x ≤ length cells → length (cells_between start x cells) ≡ x - start
length-between start x cells ordered inside = grind (arith, length-take-le, length-drop)

-- the first of the cells from a column on
-- the gap before a column ends there
pub gap-ends : (start x : ℕ) (wanted : List Shown) → start ≤ x → x ≤ length wanted → start + length (cells_between start x wanted) ≡ x
gap-ends start x wanted ordered inside = grind (arith, length-between)

-- and is shown, where its cells are those of the wanted line
pub gap-shown : (start x : ℕ) (wanted row : List Shown) → start ≤ x → x ≤ length wanted → cells_between start x row ≡ cells_between start x wanted
    → take (length (cells_between start x wanted)) (drop start row) ≡ cells_between start x wanted
gap-shown start x wanted row ordered inside are = grind (arith, length-between)

-- a part of the wanted line as a run
pub part-of : (x stop k : ℕ) (wanted : List Shown) → k < stop - x → get_or (cells_between x stop wanted) k shown_blank ≡ get_or wanted (x + k) shown_blank
part-of x stop k wanted few = grind (arith, get_or-take, get_or-drop)

-- what a test of two cells of the lines said
pub same_shown-at : (shown wanted : List Shown) (x : ℕ) {a b : Shown} {same : Bool} → a ≡ get_or shown x a → b ≡ get_or wanted x b → x < length shown → x < length wanted → same ≡ same_shown a b
    → same_shown (get_or shown x shown_blank) (get_or wanted x shown_blank) ≡ same
same_shown-at shown wanted x old new inside high is = grind (arith, get_or_default)

pub not-other : (same : Bool) → not same ≡ false → same ≡ true
not-other same h = grind arith

-- the first cell of one
pub run-begun : (shown wanted : List Shown) (start end : ℕ) → start < end → same_shown (get_or shown start shown_blank) (get_or wanted start shown_blank) ≡ false
    → IsRun shown wanted start end (start + 1)
run-begun shown wanted start end some differs = grind arith

-- and further cells
pub run-further : (n w : ℕ) → n ≤ w → {shown wanted : List Shown} {start end x : ℕ} {rendition : Rendition} → IsRun shown wanted start end x → rendition ≡ (get_or wanted start shown_blank).rendition
    → AreOfRun (take w (drop x shown)) (take w (drop x wanted)) rendition n → x + n ≤ end → IsRun shown wanted start end (x + n)
run-further n w few {shown} {wanted} {x} h is more inside =
    let at = λ (l : List Shown) (v : ℕ) (from : x ≤ v) (to : v < x + n).
    let split : x + (v - x) ≡ v = omega arith in
    get_or-take w (drop x l) (v - x) shown_blank (omega (arith, few, from, to)) ∙ get_or-drop x l (v - x) shown_blank ∙ ap (λ k. get_or l k shown_blank) split in
    record {
      some = omega (arith, h.some);
      within = inside;
      changed = λ v from to. elim (cases_lt v x) [
        | inl early ↦ h.changed v from early
        | inr late ↦ (λ i. same_shown (sym (at shown v late to) i) (sym (at wanted v late to) i)) ∙ more.changed (v - x) (omega arith)
      ];
      rendition = λ v from to. elim (cases_lt v x) [
        | inl early ↦ h.rendition v from early
        | inr late ↦ ap (λ (cell : Shown). cell.rendition) (sym (at wanted v late to)) ∙ more.rendition_of (v - x) (omega arith) ∙ is
      ];
    }

-- the first cells of a part of two lines
pub part-same : (start n m v : ℕ) (a b : List Shown) → m ≤ n → take m (take n (drop start a)) ≡ take m (take n (drop start b)) → start ≤ v → v < start + m
    → get_or a v shown_blank ≡ get_or b v shown_blank
part-same start n m v a b few e from to =
    let split : start + (v - start) ≡ v = omega arith in
    let at = λ (l : List Shown). get_or-take m (take n (drop start l)) (v - start) shown_blank (omega arith) ∙ get_or-take n (drop start l) (v - start) shown_blank (omega arith)
    ∙ get_or-drop start l (v - start) shown_blank ∙ ap (λ k. get_or l k shown_blank) split in
    sym (at a) ∙ ap (λ (l : List Shown). get_or l (v - start) shown_blank) e ∙ at b

-- and the cells after one of them
pub part-later : (start end k v : ℕ) (a b : List Shown) → drop (k + 1) (cells_between start end a) ≡ drop (k + 1) (cells_between start end b) → start + k < v → v < end
    → get_or a v shown_blank ≡ get_or b v shown_blank
part-later start end k v a b e from to =
    let j = v - (start + k + 1) in
    let split : start + (k + 1 + j) ≡ v = omega arith in
    let at = λ (l : List Shown). get_or-drop (k + 1) (cells_between start end l) j shown_blank ∙ part-of start end (k + 1 + j) l (omega arith) ∙ ap (λ n. get_or l n shown_blank) split in
    sym (at a) ∙ ap (λ (l : List Shown). get_or l j shown_blank) e ∙ at b

-- one in which they differ
pub part-differs : (start end k : ℕ) (a b : List Shown) → DiffersAt (cells_between start end a) (cells_between start end b) k → end ≤ length a
    → (start + k < end) × (get_or a (start + k) shown_blank ≡ get_or b (start + k) shown_blank → ⊥)
part-differs start end k a b h inside = grind (arith, length-take, part-of)
