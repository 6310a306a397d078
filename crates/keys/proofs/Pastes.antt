-- How a pasted text ends.
use Rattle.std.specs.Prelude.{◌∷◌, ◌≡◌, ◌≤◌}
use Rattle.keys.specs.{Asked, IsBegun, IsSequence, Item, List, PasteEnds, [], arith, as_asked, continues, false, get_or}
use Rattle.keys.specs.{is_whole, key_of, length, nat_tests, paste_end, refl, sym, true, ℕ, ◌∙◌}

-- a byte that goes on is that of the end
on : (bytes : List ℕ) (byte : ℕ) → 1 ≤ length bytes → continues true bytes byte ≡ true
    → byte ≡ get_or paste_end (length bytes) 0
unfolding continues
on bytes byte some goes = grind (arith, nat_tests, goes)

-- what isn't whole begins with an escape
escaped : (byte : ℕ) → is_whole true (byte ∷ []) ≡ false → byte ≡ 27
unfolding is_whole
escaped byte open_yet = grind (arith, nat_tests, open_yet)

whole : (bytes : List ℕ) → length bytes ≡ 6 → IsBegun true bytes → bytes ≡ paste_end
whole (a ∷ b ∷ c ∷ d ∷ e ∷ f ∷ []) six begun =
    let first = escaped a (begun.not_whole 1 (omega arith) (omega arith)) in
    let second = on (a ∷ []) b (omega arith) (begun.goes_on 1 (omega arith)) in
    let third = on (a ∷ b ∷ []) c (omega arith) (begun.goes_on 2 (omega arith)) in
    let fourth = on (a ∷ b ∷ c ∷ []) d (omega arith) (begun.goes_on 3 (omega arith)) in
    let fifth = on (a ∷ b ∷ c ∷ d ∷ []) e (omega arith) (begun.goes_on 4 (omega arith)) in
    let last = on (a ∷ b ∷ c ∷ d ∷ e ∷ []) f (omega arith) (begun.goes_on 5 (omega arith)) in
    rw (first, second, third, fourth, fifth, last) refl
whole bytes six begun = absurd (omega (arith, six))

key-ends : (asked : Asked) (bytes : List ℕ) → as_asked asked (key_of true bytes) ≡ PasteEnds → length bytes ≡ 6
unfolding key_of
key-ends asked bytes is = grind (arith, nat_tests, is)

pub paste-whole : (asked : Asked) (item : Item) → IsSequence asked true item → item.key ≡ PasteEnds
    → item.bytes ≡ paste_end
paste-whole asked item is ends = whole item.bytes (key-ends asked item.bytes (sym is.means ∙ ends)) is.begun
