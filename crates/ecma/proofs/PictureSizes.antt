-- No effect changes the size of the picture.
use Rattle.std.specs.Prelude.{◌≡◌, ◌+◌, ◌<◌, ◌∷◌}
use Rattle.ecma.specs.{ℕ, zero, suc, Bool, true, false, cond, List, [], length, set, take, drop, map, Option, Some, None, ◌∙◌, arith, length-append, length-take, length-drop, option_map}
use Rattle.ecma.specs.{option_and_then, AllByRecursion, length-set, length-map, Shown, shown_blank, shown_with, is_empty, Picture, Place, line_of, HasSize, Item, Printable, Control, Unfinished, CUP}
use Rattle.ecma.specs.{ED, EL, SGR, Terminal, blank_line, erased_line, erased_at, erased_page, erase_line, erase_page, print_at, effect, effects, erasure}
use Rattle.ecma.specs.declared.token.Erase.{Erase}
use Rattle.ecma.specs.declared.token.Erase.TheVariants.{ToEnd, FromStart, All}
use Rattle.ecma.proofs.Each.{each-append}
use Rattle.ecma.proofs.Joining.{effects_first}

abbrev AreWide : ℕ → Picture → Type 0
AreWide columns lines = AllByRecursion (λ line. length line ≡ columns) lines

wide-set : (columns : ℕ) (lines : Picture) (line : ℕ) (row : List Shown) → AreWide columns lines → (line < length lines → length row ≡ columns) → AreWide columns (set lines line row)
wide-set columns [] line row h e = tt
wide-set columns (first ∷ lines) zero row h e = grind arith
wide-set columns (first ∷ lines) (suc line) row h e = grind (arith, (wide-set columns lines line row h.1))

wide-take : (columns n : ℕ) (lines : Picture) → AreWide columns lines → AreWide columns (take n lines)
wide-take columns zero lines h = tt
wide-take columns (suc n) [] h = tt
wide-take columns (suc n) (line ∷ lines) h = (h.0, wide-take columns n lines h.1)

wide-drop : (columns n : ℕ) (lines : Picture) → AreWide columns lines → AreWide columns (drop n lines)
wide-drop columns zero lines h = h
wide-drop columns (suc n) [] h = tt
wide-drop columns (suc n) (line ∷ lines) h = wide-drop columns n lines h.1

wide-blank : (columns : ℕ) (lines : Picture) → AreWide columns lines → AreWide columns (map blank_line lines)
wide-blank columns [] h = tt
wide-blank columns (line ∷ lines) h = (length-map line (λ _. shown_blank) ∙ h.0, wide-blank columns lines h.1)

pub line-wide : (columns : ℕ) (lines : Picture) (line : ℕ) → AreWide columns lines → line < length lines → length (line_of lines line) ≡ columns
line-wide columns [] line h inside = grind arith
line-wide columns (first ∷ lines) zero h inside = h.0
line-wide columns (first ∷ lines) (suc line) h inside = line-wide columns lines line h.1 (omega arith)

length-erased_line : (how : Erase) (column : ℕ) (row : List Shown) → length (erased_line how column row) ≡ length row
length-erased_line how column row = grind (arith, length-append, length-map, length-take, length-drop)

size-row : (lines columns : ℕ) (picture : Picture) (line : ℕ) (row : List Shown) → HasSize lines columns picture → length row ≡ length (line_of picture line)
    → HasSize lines columns (set picture line row)
size-row lines columns picture line row h e = grind (arith, length-set, wide-set, line-wide)

pub size-erased_at : (lines columns : ℕ) (how : Erase) (place : Place) (picture : Picture) → HasSize lines columns picture → HasSize lines columns (erased_at how place picture)
size-erased_at lines columns how place picture h = search (arith, size-row, length-erased_line)

size-erased_page : (lines columns : ℕ) (how : Erase) (place : Place) (picture : Picture) → HasSize lines columns picture → HasSize lines columns (erased_page how place picture)
size-erased_page lines columns ToEnd place picture h =
    let at = size-erased_at lines columns ToEnd place picture h in
    record {
      height = simp (length-append, length-map, length-take, length-drop, length-set) (omega (arith, h.height));
      width = each-append (λ line. length line ≡ columns) (take (place.0 + 1) (erased_at ToEnd place picture)) (map blank_line (drop (place.0 + 1) picture))
          (wide-take columns (place.0 + 1) (erased_at ToEnd place picture) at.width) (wide-blank columns (drop (place.0 + 1) picture) (wide-drop columns (place.0 + 1) picture h.width));
    }
size-erased_page lines columns FromStart place picture h =
    let at = size-erased_at lines columns FromStart place picture h in
    record {
      height = simp (length-append, length-map, length-take, length-drop, length-set) (omega (arith, h.height));
      width = each-append (λ line. length line ≡ columns) (map blank_line (take place.0 picture)) (drop place.0 (erased_at FromStart place picture))
          (wide-blank columns (take place.0 picture) (wide-take columns place.0 picture h.width)) (wide-drop columns place.0 (erased_at FromStart place picture) at.width);
    }
size-erased_page lines columns All place picture h = record { height = length-map picture blank_line ∙ h.height; width = wide-blank columns picture h.width }

-- what an effect keeps, where there is one
abbrev Keeps : ℕ → ℕ → Option Terminal → Type 0
Keeps lines columns o = (u : Terminal) → o ≡ Some u → HasSize lines columns u.picture

keeps-some : (lines columns : ℕ) (t : Terminal) → HasSize lines columns t.picture → Keeps lines columns (Some t)
keeps-some lines columns t h u e = grind arith

keeps-none : (lines columns : ℕ) → Keeps lines columns None
keeps-none lines columns u e = grind arith

keeps-map : {A : Type 0} (lines columns : ℕ) (f : A → Terminal) (o : Option A) → ((x : A) → HasSize lines columns (f x).picture) → Keeps lines columns (option_map f o)
keeps-map lines columns = grind (arith, keeps-none, keeps-some)

keeps-then : {A : Type 0} (lines columns : ℕ) (f : A → Option Terminal) (o : Option A) → ((x : A) → Keeps lines columns (f x)) → Keeps lines columns (option_and_then f o)
keeps-then lines columns f None h = grind arith
keeps-then lines columns f (Some x) h = h x

keeps-cond : (lines columns : ℕ) (b : Bool) (o : Option Terminal) → Keeps lines columns o → Keeps lines columns (cond b o None)
keeps-cond lines columns true o h = h
keeps-cond lines columns false o h = keeps-none lines columns

size-erase_page : (lines columns : ℕ) (how : Erase) (t : Terminal) → HasSize lines columns t.picture → Keeps lines columns (erase_page how t)
size-erase_page lines columns ToEnd t h = keeps-cond lines columns (is_empty t.rendition) _ (keeps-map lines columns (λ place. record t { picture = erased_page ToEnd place t.picture }) t.cursor
    (λ place. size-erased_page lines columns ToEnd place t.picture h))
size-erase_page lines columns FromStart t h = keeps-cond lines columns (is_empty t.rendition) _ (keeps-map lines columns
    (λ place. record t { picture = erased_page FromStart place t.picture }) t.cursor (λ place. size-erased_page lines columns FromStart place t.picture h))
size-erase_page lines columns All t h = keeps-cond lines columns (is_empty t.rendition) _ (keeps-some lines columns (record t { picture = map blank_line t.picture })
    (size-erased_page lines columns All (0, 0) t.picture h))

size-effect : (lines columns : ℕ) (item : Item) (t : Terminal) → HasSize lines columns t.picture → Keeps lines columns (effect item t)
size-effect lines columns (Printable byte) t h = keeps-map lines columns (print_at byte t) t.cursor
    (λ place. size-row lines columns t.picture place.0 (set (line_of t.picture place.0) place.1 (shown_with t.rendition byte)) h (length-set (line_of t.picture place.0) place.1 _))
size-effect lines columns (Control CUP parameters) t h = grind (arith, keeps-then, keeps-cond, keeps-some)
size-effect lines columns (Control ED parameters) t h = keeps-then lines columns (λ how. erase_page how t) (erasure parameters) (λ how. size-erase_page lines columns how t h)
size-effect lines columns (Control EL parameters) t h = keeps-then lines columns (λ how. erase_line how t) (erasure parameters)
    (λ how. keeps-cond lines columns (is_empty t.rendition) _ (keeps-map lines columns (λ place. record t { picture = erased_at how place t.picture }) t.cursor
    (λ place. size-erased_at lines columns how place t.picture h)))
size-effect lines columns (Control SGR parameters) t h = grind (arith, keeps-map)
size-effect lines columns (Unfinished begun) t h = grind (arith, keeps-some)

pub size-effects : (lines columns : ℕ) (items : List Item) (t u : Terminal) → HasSize lines columns t.picture → effects items t ≡ Some u → HasSize lines columns u.picture
size-effects lines columns [] t u h e = grind arith
size-effects lines columns (item ∷ items) t u h e =
    let first = effects_first item items t u e in
    size-effects lines columns items first.0 u (size-effect lines columns item t h first.0 first.1) first.2
