-- The spelling of a token is one item, with the token's effect.
use Rattle.std.specs.Prelude.{◌≡◌, ◌+◌, ◌<◌, ◌≤◌, ◌∷◌, ◌++◌}
use Rattle.ecma.specs.{ℕ, List, [], length, map, Some, refl, sym, ap, arith, length-map, append-nil, decimal, AllByRecursion, join_with_byte, flat_map, length-decimal-le, lt-ltb, Rendition}
use Rattle.ecma.specs.{IsRendition, no_rendition, Printable, Control, CUP, ED, EL, SGR, IsDigit, AreParameters, number_or, select, erasure_of, place_from_one, codes_of, spelling, erasure_spelling}
use Rattle.ecma.specs.{IsToken, IsItemOf}
use Rattle.ecma.specs.declared.token.Erase.{Erase}
use Rattle.ecma.specs.declared.token.Token.{Token}
use Rattle.ecma.specs.declared.token.Token.TheVariants.{Print, Cup, Sgr, El, Ed}
use Rattle.ecma.proofs.ParameterNumbers.{are_digits-decimal, number_or-decimal, select_all-codes_of, codes_small, codes_few}

abbrev AreSmall : List ℕ → Type 0
AreSmall codes = AllByRecursion (λ code. code < 100) codes

-- ---- the parameters of SGR

joined-decimals : (first : List ℕ) (codes : List ℕ) → join_with_byte 59 (first ∷ map decimal codes) ≡ first ++ flat_map (λ code. 59 ∷ decimal code) codes
joined-decimals first [] = grind (arith, append-nil)
joined-decimals first (code ∷ codes) = grind (arith, (joined-decimals (decimal code) codes))

numbers-decimal : (codes : List ℕ) → AreSmall codes → map (number_or 0) (map decimal codes) ≡ codes
numbers-decimal [] h = refl
numbers-decimal (code ∷ codes) h = grind (arith, number_or-decimal, (numbers-decimal codes h.1))

digits-decimals : (codes : List ℕ) → AreSmall codes → AllByRecursion (AllByRecursion IsDigit) (map decimal codes)
digits-decimals [] h = tt
digits-decimals (code ∷ codes) h = grind (arith, are_digits-decimal, (digits-decimals codes h.1))

short-decimals : (codes : List ℕ) → AreSmall codes → AllByRecursion (λ digits. length digits ≤ 3) (map decimal codes)
short-decimals [] h = tt
short-decimals (code ∷ codes) h = grind (arith, length-decimal-le, (short-decimals codes h.1))

-- ---- each kind of token

place_from_one-suc : (line column : ℕ) → place_from_one (line + 1) (column + 1) ≡ Some (line, column)
place_from_one-suc line column = grind (arith, lt-ltb)

cup : (line column : ℕ) → IsToken (Cup line column) → IsItemOf (spelling (Cup line column)) (Cup line column)
unfolding spelling
cup line column h =
    record {
      item = Control CUP (decimal (line + 1) ∷ decimal (column + 1) ∷ []);
      well_formed = grind (arith, are_digits-decimal, length-decimal-le);
      finished = tt;
      spelled = refl;
      same_effect = λ t. grind (arith, number_or-decimal, place_from_one-suc);
    }

select-zero : (rendition : Rendition) → select 0 rendition ≡ Some no_rendition
unfolding select
select-zero rendition = refl

sgr : (rendition : Rendition) → IsRendition rendition → IsItemOf (spelling (Sgr rendition)) (Sgr rendition)
unfolding spelling
sgr rendition h =
    let fine : AreSmall (codes_of rendition) = codes_small rendition h in
    record {
      item = Control SGR ((48 ∷ []) ∷ map decimal (codes_of rendition));
      well_formed = grind (arith, codes_few, length-map, digits-decimals, short-decimals);
      finished = tt;
      spelled = ap (λ (text : List ℕ). 27 ∷ 91 ∷ text ++ 109 ∷ []) (sym (joined-decimals (48 ∷ []) (codes_of rendition)));
      same_effect = λ t. rw (numbers-decimal (codes_of rendition) fine, select-zero t.rendition, select_all-codes_of rendition h) refl;
    }

erasure_of-spelling : (how : Erase) → erasure_of (number_or 0 (erasure_spelling how)) ≡ Some how
erasure_of-spelling how = grind arith

erasing : (how : Erase) → AreParameters (erasure_spelling how ∷ [])
erasing how = grind arith

pub is_item_of : (token : Token) → IsToken token → IsItemOf (spelling token) token
unfolding spelling
is_item_of (Print byte) h = record { item = Printable byte; well_formed = h; finished = tt; spelled = refl; same_effect = λ t. refl }
is_item_of (Cup line column) h = cup line column h
is_item_of (Sgr rendition) h = sgr rendition h
is_item_of (El how) h = record { item = Control EL (erasure_spelling how ∷ []); well_formed = erasing how; finished = tt; spelled = refl; same_effect = λ t. rw (erasure_of-spelling how) refl }
is_item_of (Ed how) h = record { item = Control ED (erasure_spelling how ∷ []); well_formed = erasing how; finished = tt; spelled = refl; same_effect = λ t. rw (erasure_of-spelling how) refl }

pub is_item_of_bytes : (token : Token) (bytes : List ℕ) → IsToken token → bytes ≡ spelling token → IsItemOf bytes token
is_item_of_bytes token bytes h e = rw e (is_item_of token h)
