-- What a search finds is found as well where each panel, from the top down, takes the columns that it holds and no panel above it does.
use Rattle.std.specs.Prelude.{◌≡◌, ◌≢◌, ◌⊎◌, ◌≤◌, if◌then◌else◌, ◌∷◌}
use Rattle.picture.specs.{ℕ, Bool, true, false, Option, Some, None, List, [], inl, inr, reverse, refl, sym, ap, subst, ◌∙◌, arith, find, option_map_or, option_or, reverse-append, Rect, AreOnce}
use Rattle.picture.specs.{IsOut, Panels, holds, owner, panel_holds, WindowMap, frame_holds, AreInside, AreSpans, KnowsOwners}
use Rattle.picture.specs.declared.owners.Owners.{Owners}
use Rattle.stack.proofs.DistinctNumbers.{once-push, out-reverse}

pub once-reverse : (ps : List ℕ) → AreOnce ps → AreOnce (reverse ps)
once-reverse [] h = tt
once-reverse (p ∷ ps) h = subst AreOnce (sym (reverse-append (p ∷ []) ps)) (once-push p (reverse ps) (once-reverse ps h.1) (out-reverse p ps h.0))

-- ---- one or the other

pub or-twice : (a b c : Option ℕ) → option_or a (option_or b c) ≡ option_or (option_or a b) c
or-twice None b c = refl
or-twice (Some p) b c = refl

pub or-none : (a : Option ℕ) → option_or a None ≡ a
or-none None = refl
or-none (Some p) = refl

or-some : (a b : Option ℕ) → a ≢ None → option_or a b ≡ a
or-some None b some = absurd (some refl)
or-some (Some p) b some = refl

first-some : (a b : Option ℕ) → a ≢ None → option_or a b ≢ None
first-some None b some = absurd (some refl)
first-some (Some p) b some = λ never. cc

second-some : (a : Option ℕ) (p : ℕ) (test : Bool) → test ≡ true → option_or a (if test then Some p else None) ≢ None
second-some None p true is = λ never. cc
second-some None p false is = absurd (let never : false ≡ true = is in cc)
second-some (Some q) p test is = λ never. cc

-- ---- laid from the top down

-- In the lines that are known a column's owner is the panel that was laid there, or else the first of those that are left and hold it. None of
-- these was laid, and each column that is known is owned.
pub record AreLaid (window : WindowMap) (panels : Panels) (rest : List ℕ) (owners : Owners) : Type 0 where
  pub inside : AreInside owners.spans
  pub laid : ℕ → Option ℕ
  pub spans : AreSpans laid owners.spans
  pub found : (y x : ℕ) → owners.top ≤ y → y ≤ owners.bottom → owner window panels y x ≡ option_or (laid x) (find (panel_holds window panels y x) rest)
  pub owned : (x : ℕ) → owners.left ≤ x → x ≤ owners.right → laid x ≢ None
  pub once : AreOnce rest
  pub out : (x p : ℕ) → laid x ≡ Some p → IsOut p rest

-- the first that does is this one, or else is found among the rest
find-first : (f : ℕ → Bool) (p : ℕ) (rest : List ℕ) (test : Bool) → f p ≡ test → find f (p ∷ rest) ≡ option_or (if test then Some p else None) (find f rest)
find-first f p rest true is = grind arith
find-first f p rest false is = grind arith

out-of : (p q : ℕ) (rest : List ℕ) (before : Option ℕ) (test : Bool) → AreOnce (p ∷ rest) → (before ≡ Some q → IsOut q (p ∷ rest)) → option_or before (if test then Some p else None) ≡ Some q → IsOut q rest
out-of p q rest (Some o) test once out is = (out is).1
out-of p q rest None true once out is = let same : p ≡ q = cc in subst (λ k. IsOut k rest) same once.0
out-of p q rest None false once out is = (out is).1

module _ (window : WindowMap) (panels : Panels) where
  pub laid-first : (owners : Owners) → AreInside owners.spans → AreSpans (λ x. None) owners.spans → owners.left ≡ 1 → owners.right ≡ 0 → AreOnce panels.visible
      → AreLaid window panels (reverse panels.visible) owners
  laid-first owners inside none left right once = record {
    inside = inside;
    laid = λ x. None;
    spans = none;
    found = λ y x from upto. refl;
    owned = λ x from upto. absurd (omega (arith, left, right, from, upto));
    once = once-reverse panels.visible once;
    out = λ x p never. absurd (let e : None ≡ Some p = never in cc);
  }

  -- one more is laid, in lines in which its rectangle is the same
  pub laid-next : (y p w : ℕ) (r : Rect) (rest : List ℕ) (old new : Owners) → AreLaid window panels (p ∷ rest) old → old.top ≡ y → panels.window p ≡ Some w
      → ((v x : ℕ) → frame_holds r v x ≡ holds window w v x) → AreInside new.spans → new.top ≡ old.top → new.bottom ≤ old.bottom
      → ((v x : ℕ) → y ≤ v → v ≤ new.bottom → frame_holds r v x ≡ frame_holds r y x)
      → ((x : ℕ) → new.left ≤ x → x ≤ new.right → ((old.left ≤ x) × (x ≤ old.right)) ⊎ (frame_holds r y x ≡ true))
      → ((o : ℕ → Option ℕ) → AreSpans o old.spans → ((x : ℕ) → o x ≢ Some p) → AreSpans (λ x. option_or (o x) (if frame_holds r y x then Some p else None)) new.spans)
      → AreLaid window panels rest new
  laid-next y p w r rest old new h top is rectangle inside same_top fewer same owned laid = record {
    inside = inside;
    laid = λ x. option_or (h.laid x) (if frame_holds r y x then Some p else None);
    spans = laid h.laid h.spans (λ x has. (h.out x p has).0 refl);
    found = λ v x from upto.
        let held : panel_holds window panels v x p ≡ frame_holds r y x =
        ap (λ (o : Option ℕ). option_map_or (λ w. holds window w v x) o false) is ∙ sym (rectangle v x) ∙ same v x (omega (arith, from, same_top, top)) upto in
        h.found v x (omega (arith, from, same_top)) (omega (arith, upto, fewer))
        ∙ ap (option_or (h.laid x)) (find-first (panel_holds window panels v x) p rest (frame_holds r y x) held)
        ∙ or-twice (h.laid x) (if frame_holds r y x then Some p else None) (find (panel_holds window panels v x) rest);
    owned = λ x from upto. elim (owned x from upto) [
      | inl before ↦ first-some (h.laid x) (if frame_holds r y x then Some p else None) (h.owned x before.0 before.1)
      | inr held ↦ second-some (h.laid x) p (frame_holds r y x) held
    ];
    once = h.once.1;
    out = λ x q is. out-of p q rest (h.laid x) (frame_holds r y x) h.once (h.out x q) is;
  }

  -- the columns that are known are owned
  pub laid-some : (rest : List ℕ) (owners : Owners) → AreLaid window panels rest owners → KnowsOwners window panels owners
  laid-some rest owners h = record {
    inside = h.inside;
    laid = h.laid;
    spans = h.spans;
    found = λ y x from upto begun within. h.found y x from upto ∙ or-some (h.laid x) (find (panel_holds window panels y x) rest) (h.owned x begun within);
  }

  -- all are laid, so all columns are known
  pub laid-all : (owners : Owners) (left right : ℕ) → AreLaid window panels [] owners
      → KnowsOwners window panels (record { top = owners.top; bottom = owners.bottom; left = left; right = right; spans = owners.spans })
  laid-all owners left right h = record {
    inside = h.inside;
    laid = h.laid;
    spans = h.spans;
    found = λ y x from upto begun within. h.found y x from upto ∙ or-none (h.laid x);
  }
