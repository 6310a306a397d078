-- A place of a derived window leads where its place of the parent leads: a longer walk comes to the same place.
use Rattle.std.specs.Prelude.{◌≡◌, ◌+◌, ◌≤◌}
use Rattle.grids.specs.{ℕ, zero, suc, Some, IsSome, arith, refl, sym, ◌∙◌, part_of, GridPlace, Window, WindowMap, own, own_within}
use Rattle.world.proofs.WindowLaws.{own-onward}
use Rattle.grids.specs.declared.slot.Part.{Part}

own-more : (n m : ℕ) → n ≤ m → (window : WindowMap) (w y x : ℕ) (s : GridPlace) → own_within n window w y x ≡ Some s → own_within m window w y x ≡ Some s
own-more zero m le window w y x s h = cc
own-more (suc n) zero le window w y x s h = absurd (omega (arith, le))
own-more (suc n) (suc m) le window w y x s h = grind (arith, (own-more n m))

-- the place of the parent to which a place leads
pub own_of_part : (n : ℕ) (window : WindowMap) (u : ℕ) (b : Window) (part : Part) (y x : ℕ) → window u ≡ Some b → b.backing ≡ part_of part.parent part.line part.column
    → own_within (suc n) window u y x ≡ own_within n window part.parent (y + part.line) (x + part.column)
own_of_part n window u b part y x e is = rw (e, is) refl

own_parent : (limit : ℕ) (window : WindowMap) (u : ℕ) (b : Window) (part : Part) (y x : ℕ) (s : GridPlace) → window u ≡ Some b → b.backing ≡ part_of part.parent part.line part.column
    → own_within limit window u y x ≡ Some s → own_within limit window part.parent (y + part.line) (x + part.column) ≡ Some s
own_parent zero window u b part y x s e is h = cc
own_parent (suc n) window u b part y x s e is h =
    own-more n (suc n) (omega arith) window part.parent (y + part.line) (x + part.column) s (sym (own_of_part n window u b part y x e is) ∙ h)

pub own-parent : (window : WindowMap) (u : ℕ) (b : Window) (part : Part) → window u ≡ Some b → b.backing ≡ part_of part.parent part.line part.column → IsSome (own window u 0 0)
    → (y x : ℕ) → own window u y x ≡ own window part.parent (y + part.line) (x + part.column)
own-parent window u b part e is ends y x = grind (arith, own-onward, own_parent)
