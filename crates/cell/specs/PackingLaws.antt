-- Unpacking a number and packing it again gives that number, so numbers that hold the same are equal.
use Rattle.std.specs.Prelude.{◌≡◌, ◌%◌, ◌/◌, ◌==◌}
use Rattle.cell.specs.Names.{ℕ, zero, suc, Bool, true, IsEquivalence, arith, eq-eqb, ne_eqb, refl, sym, ap, subst, ◌∙◌, inl, inr, cases_eq, false_from_ne_true}
use Rattle.cell.specs.Packing.{glyph_of, colour_of, colours_of, rendition_of, shown_of, glyph_bits, colour_code, colour_bits, rendition_bits, shown_bits}

-- ---- none is lost

colour_code-of : (code : ℕ) → colour_code (colour_of code) ≡ code
colour_code-of zero = refl
colour_code-of (suc code) = let off = ne_eqb (suc code) 0 (λ e. omega arith) in rw off (omega arith)

pub glyph_bits-of : (bits : ℕ) → glyph_bits (glyph_of bits) ≡ bits
glyph_bits-of bits = omega arith

pub colour_bits-of : (bits : ℕ) → bits % 65536 ≡ 0 → colour_bits (colours_of bits) ≡ bits
colour_bits-of bits low = omega (arith, colour_code-of (bits / 65536 % 16), colour_code-of (bits / 1048576))

pub rendition_bits-of : (bits : ℕ) → bits % 256 ≡ 0 → rendition_bits (rendition_of bits) ≡ bits
rendition_bits-of bits low = omega (arith, colour_code-of (bits / 65536 % 16), colour_code-of (bits / 1048576))

pub shown_bits-of : (bits : ℕ) → shown_bits (shown_of bits) ≡ bits
shown_bits-of bits = omega (arith, colour_code-of (bits / 65536 % 16), colour_code-of (bits / 1048576))

-- ---- equal numbers hold the same

module _ {A : Type 0} {same : A → A → Bool} (law : IsEquivalence same) (equal : (a b : A) → same a b ≡ true → a ≡ b) (held : ℕ → A) (bits : A → ℕ) where
  pub same_bits : (a b : ℕ) → bits (held a) ≡ a → bits (held b) ≡ b → (a == b) ≡ same (held a) (held b)
  same_bits a b one other = elim (cases_eq a b) [
    | inl e ↦ eq-eqb a b e ∙ sym (subst (λ c. same (held a) (held c) ≡ true) e (law.refl (held a)))
    | inr apart ↦ ne_eqb a b apart ∙ sym (false_from_ne_true (same (held a) (held b)) (λ h. apart (sym one ∙ ap bits (equal (held a) (held b) h) ∙ other)))
  ]
