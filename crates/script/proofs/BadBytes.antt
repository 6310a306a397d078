-- Some byte of a text is bad where not all are printable; and whether all are is seen in pieces of it.
use Rattle.std.specs.Prelude.{◌≡◌, ◌+◌, ◌≤◌, ◌∷◌, ◌&&◌}
use Rattle.script.specs.{arith, take_rest, take-take, ℕ, true, false, List, [], not, refl, take, drop, take-append-drop, list_all-append, take-add, list_all, list_any, is_printable, is_bad_byte}

pub some_bad : (text : List ℕ) → list_any is_bad_byte text ≡ not (list_all is_printable text)
some_bad [] = refl
some_bad (byte ∷ text) = grind (arith, (some_bad text))

-- all are, where those of its beginning and of the rest are
in_two : (text : List ℕ) (at : ℕ) → list_all is_printable text ≡ (list_all is_printable (take at text) && list_all is_printable (drop at text))
in_two text at = rw (take-append-drop at text) at (list_all-append is_printable (take at text) (drop at text))

-- not all are, where not those of a piece are
pub not_all : (text : List ℕ) (at size : ℕ) → list_all is_printable (take size (drop at text)) ≡ false → list_all is_printable text ≡ false
not_all text at size h = grind (arith, (in_two text at), (in_two (drop at text) size))

-- those of the beginning with a further piece are
pub further : (text : List ℕ) (at size : ℕ) → list_all is_printable (take at text) ≡ true → list_all is_printable (take size (drop at text)) ≡ true
    → list_all is_printable (take (at + size) text) ≡ true
further text at size before piece = rw (take-add at size text) (grind (arith, (list_all-append is_printable (take at text) (take size (drop at text)))))

-- all are, where those are that the beginning lacks
pub last_decides : (text : List ℕ) (at last : ℕ) → last ≤ at → list_all is_printable (take at text) ≡ true
    → list_all is_printable (drop last text) ≡ list_all is_printable text
last_decides text at last below before = grind (arith, (in_two text last), (in_two (take at text) last), take-take)

pub ruleset printable_so_far = (further, last_decides, not_all, take_rest)
