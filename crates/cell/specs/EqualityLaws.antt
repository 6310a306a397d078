-- Two glyphs, renditions and shown cells are the same where all that they hold is.
use Rattle.std.specs.Prelude.{◌≡◌, ◌==◌, ◌&&◌}
use Rattle.cell.specs.Names.{ℕ, true, refl, ap, Option, Some, None, IsEquivalence, and_parts, eqb-true, nat_eq_equiv, on_equiv, and_equiv, options_equiv}
use Rattle.cell.specs.Glyphs.{Glyph, same_glyph}
use Rattle.cell.specs.ShownCells.{Rendition, Shown}
use Rattle.cell.specs.Differences.{same_colour, same_rendition, same_shown}

same_colour-equal : (a b : Option ℕ) → same_colour a b ≡ true → a ≡ b
same_colour-equal None None h = refl
same_colour-equal (Some a) (Some b) h = ap Some (eqb-true a b h)
same_colour-equal None (Some b) h = absurd cc
same_colour-equal (Some a) None h = absurd cc

pub same_rendition-equal : (a b : Rendition) → same_rendition a b ≡ true → a ≡ b
same_rendition-equal a b h =
    let parts = and_parts (a.attributes == b.attributes) (same_colour a.foreground b.foreground && same_colour a.background b.background) h in
    let colours = and_parts (same_colour a.foreground b.foreground) (same_colour a.background b.background) parts.1 in
    let attributes : a.attributes ≡ b.attributes = eqb-true a.attributes b.attributes parts.0 in
    let foreground = same_colour-equal a.foreground b.foreground colours.0 in
    let background = same_colour-equal a.background b.background colours.1 in
    λ i. record { attributes = attributes i; foreground = foreground i; background = background i }

pub same_shown-equal : (a b : Shown) → same_shown a b ≡ true → a ≡ b
same_shown-equal a b h =
    let parts = and_parts (a.character == b.character) (same_rendition a.rendition b.rendition) h in
    let character : a.character ≡ b.character = eqb-true a.character b.character parts.0 in
    let rendition : a.rendition ≡ b.rendition = same_rendition-equal a.rendition b.rendition parts.1 in
    λ i. record { character = character i; rendition = rendition i }

-- ---- each is an equivalence

pub same_glyph-equivalence : IsEquivalence same_glyph
same_glyph-equivalence =
    and_equiv (on_equiv (λ (a : Glyph). a.character) nat_eq_equiv)
    (and_equiv (on_equiv (λ (a : Glyph). a.attributes) nat_eq_equiv) (on_equiv (λ (a : Glyph). a.pair) nat_eq_equiv))

pub same_rendition-equivalence : IsEquivalence same_rendition
same_rendition-equivalence =
    and_equiv (on_equiv (λ (a : Rendition). a.attributes) nat_eq_equiv)
    (and_equiv (on_equiv (λ (a : Rendition). a.foreground) (options_equiv nat_eq_equiv)) (on_equiv (λ (a : Rendition). a.background) (options_equiv nat_eq_equiv)))

pub same_shown-equivalence : IsEquivalence same_shown
same_shown-equivalence = and_equiv (on_equiv (λ (a : Shown). a.character) nat_eq_equiv) (on_equiv (λ (a : Shown). a.rendition) same_rendition-equivalence)

pub same_shown-self : (a : Shown) → same_shown a a ≡ true
same_shown-self a = same_shown-equivalence.refl a
