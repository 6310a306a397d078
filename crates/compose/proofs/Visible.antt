-- The damage of one window after another.
use Rattle.std.specs.Prelude.{◌≡◌, ◌||◌, ◌∷◌}
use Rattle.compose.specs.{ℕ, Bool, false, Option, List, refl, ◌∙◌, arith, list_any, Columns, Damages}
use Rattle.picture.proofs.DamageLaws.{damages-none, damages-then}

or-together : (a b c : Bool) → ((a || b) || c) ≡ (a || (b || c))
or-together a b c = grind arith

or-none : (a : Bool) → (a || false) ≡ a
or-none a = grind arith

module _ (columns : ℕ) (P : ℕ → ℕ → ℕ → Bool) (all : List ℕ) (old : List (Option Columns)) where
  -- all windows but these have damaged what they show
  pub record DamagedBut (rest : List ℕ) (now : List (Option Columns)) : Type 0 where
    pub places : ℕ → ℕ → Bool
    pub damages : Damages columns places old now
    pub same : (y x : ℕ) → (places y x || list_any (P y x) rest) ≡ list_any (P y x) all

  pub damaged-none : DamagedBut all old
  damaged-none = record { places = λ y x. false; damages = damages-none columns (λ y x. false) old (λ y x below left. refl); same = λ y x. refl }

  pub damaged-more : (u : ℕ) (rest : List ℕ) (now new : List (Option Columns)) → DamagedBut (u ∷ rest) now → Damages columns (λ y x. P y x u) now new → DamagedBut rest new
  damaged-more u rest now new h more = record {
    places = λ y x. h.places y x || P y x u;
    damages = damages-then columns h.places (λ y x. P y x u) old now new h.damages more;
    same = λ y x. or-together (h.places y x) (P y x u) (list_any (P y x) rest) ∙ h.same y x;
  }
