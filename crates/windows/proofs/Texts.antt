-- Writing a character makes and deletes no window; and the rectangle of several characters.
use Rattle.std.specs.Prelude.{◌≡◌, if◌then◌else◌, ◌∷◌}
use Rattle.windows.specs.{ℕ, Bool, true, false, Option, None, is_some, List, [], arith, refl, option_map, list_all, list_any, and_parts, is_printable, Place, Window, WindowMap, Windows, GridPlace}
use Rattle.windows.specs.{Drawing, put_from, put, set, frame_of_two, drawn_to, to_next_line, character_printed, line_ended, typed_in, Rect, is_bad_character, Settings}

-- ---- no window comes or goes

abbrev pub HasSame : Windows → Windows → Type 0
HasSame before after = (u : ℕ) → is_some (after.window u) ≡ is_some (before.window u)

some-mapped : (change : Window → Window) (o : Option Window) → is_some (option_map change o) ≡ is_some o
some-mapped change o = grind arith

some-put_from : (window : WindowMap) (w : ℕ) (o : Option Window) (s : Option GridPlace) (f : Drawing) (u : ℕ) → is_some (put_from window w o s f u) ≡ is_some (window u)
some-put_from window w o s f u = grind (arith, some-mapped)

same-put : (windows : Windows) (w : ℕ) (f : Drawing) → HasSame windows (put windows w f)
same-put windows w f u = grind (arith, some-put_from)

some-if : (t : Bool) (change : Window → Window) (o : Option Window) → is_some (if t then option_map change o else o) ≡ is_some o
some-if t change o = grind (arith, some-mapped)

same-set : (windows : Windows) (w : ℕ) (change : Settings → Settings) → HasSame windows (set windows w change)
same-set windows w change u = grind (arith, some-if)

same-if : (t : Bool) (before one other : Windows) → HasSame before one → HasSame before other → HasSame before (if t then one else other)
same-if t before one other h k = grind arith

same-drawn : (windows : Windows) (w : ℕ) (f : Drawing) (place : Place) → HasSame windows (drawn_to windows w f place)
same-drawn windows w f place u = grind (arith, same-set, same-put)

same-next_line : (windows : Windows) (w : ℕ) (a : Window) (place : Place) → HasSame windows (to_next_line windows w a place)
same-next_line windows w a place = grind (arith, same-if, same-drawn, same-set)

same-printed : (windows : Windows) (w character : ℕ) (a : Window) → HasSame windows (character_printed windows w character a)
same-printed windows w character a u = grind (arith, same-drawn, same-next_line, same-put)

same-ended : (windows : Windows) (w : ℕ) (a : Window) → HasSame windows (line_ended windows w a)
same-ended windows w a u = grind (arith, same-next_line, same-put)

pub same-typed : (windows : Windows) (w character : ℕ) (a : Window) → HasSame windows (typed_in windows w character a)
same-typed windows w character a u = grind (arith, same-ended, same-set, same-printed)

-- ---- rectangles one after another

pub joined-none : (o : Option Rect) → frame_of_two o None ≡ o
joined-none o = grind arith

pub joined-joined : (o p q : Option Rect) → frame_of_two (frame_of_two o p) q ≡ frame_of_two o (frame_of_two p q)
joined-joined o p q = grind arith

-- ---- a printed character is accepted

pub none_bad : (text : List ℕ) → list_all is_printable text ≡ true → list_any is_bad_character text ≡ false
none_bad [] all = refl
none_bad (first ∷ text) all = grind (arith, and_parts, (none_bad text (grind (arith, and_parts))))
