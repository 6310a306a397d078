-- Structs of one pointer that may be null, and that own what it does. Assumes `Logic`.
use Rattle.std.proofs.Common.{◌≡◌, ℕ, List, [], ◌∷◌, ◌++◌, refl, sym, subst}
use seplogic.Ra.Ura.{Ura}
use mir.Raw.{raw as bare}
use mir.Syntax.{Sym, Lifetime}
use mir.Val.{Val, vstruct, vcons, vnil, of_list}
use base.Logic.{SProp, ent, guard, via, snd∗, guard_i, id⊢}
use base.Fml.{Fml, Lft, fsep, fex}
use base.Fraction.{full_share}
use base.Stored.{Coded}
use types.Logic.{Logic, sem}
use types.Kit.{Item, Goal, Seq, Step, step, ‵, given, ◌$◌, drop, fsplit, fjoin, fpick, fpack, feq_i, feq_l, use1, learn}
use contract.Monad.{fact_use}
use denote.Exit.{under, hidden}
use denote.RattleType.{RattleType, Valss}
use denote.Builtin.{RawPtr}
use denote.Memory.{lone}
use denote.RawPtr.{Ptr, block_ptr, null_ptr, ptr_val, lies_at, Testable}
use denote.Steps.{nothing}
use denote.Param.{layout}
use denote.Struct.Field.{Field, RawPtr-field, rows}
use denote.Struct.Values.{intos}
use denote.Struct.Struct.{exits_of, within}
use denote.Struct.Owning.{Owning, shape, row}
use Rattle.core.proofs.atomic.Steps.{Ptr-Good}
use Rattle.core.proofs.cell.Inside.{Good}
use Rattle.std.proofs.GlobalToken.{dealloc_token-Testable}
use Rattle.std.specs.declared.option.Option.{Option}
use Rattle.std.specs.declared.option.Option.TheVariants.{None, Some}
use Rattle.std_alloc.specs.Box.Ownership.{box_owns}
use Rattle.raw_box.specs.Nullable.{nullable_owns, token}
use Rattle.raw_box.specs.contracts.nullable_box.NullableBox.{the_type}

abbrev pub one : Val → Val
one v = vstruct (vcons v vnil)

-- what such a struct is called, its values, of each its pointer and what that owns, and the value that these make
pub record Pointer (R : RattleType) : Type 2 where
  pub name : Sym
  pub args : List Lifetime
  pub types : List RattleType
  pub D : Type 0
  pub at : D → Ptr
  pub value : D → Option R.Denot
  pub make : Ptr → Option R.Denot → D
  pub at_made : (p : Ptr) (x : Option R.Denot) → at (make p x) ≡ p
  pub value_made : (p : Ptr) (x : Option R.Denot) → value (make p x) ≡ x
  pub coded : Coded D
  pub shr_at : D → ℕ → ℕ → Lft → Fml

abbrev parts : List Field
parts = RawPtr-field ∷ []

module _ {R : RattleType} (P : Pointer R) where
  abbrev pub type : Owning
  type = record {
    name = P.name;
    args = P.args;
    types = P.types;
    parts = parts;
    D = P.D;
    as_values = λ d. (P.at d, tt);
    coded = P.coded;
    heap = λ d. nullable_owns R (P.at d) (P.value d);
    exit = λ k. hidden (under (λ d. intos parts (P.at d, tt)) (exits_of k (rows parts)));
    shr_at = P.shr_at;
  }

  abbrev pub Row : RattleType
  Row = row type

  pub good : (p : Ptr) → Good (layout Row) (one (ptr_val p))
  good null_ptr = (tt, ((Ptr-Good null_ptr).1, tt))
  good (block_ptr b o) = (tt, (tt, tt))

  -- what a value owns, by its pointer and what that owns
  abbrev holds : Ptr → Option R.Denot → List Val → Fml
  holds p x vs = fsep (fex (Valss (RawPtr ∷ [])) (within (shape type) (p, tt) vs)) (nullable_owns R p x)

  module _ {M : Type 1} {𝓤 : Ura M} {𝓛 : Logic 𝓤} {K : Type 0} {Γ : List (Item 𝓤)} {G : Goal 𝓤 𝓛.H} where
    pub row_in : K → (p : Ptr) (x : Option R.Denot)
        → Step K 𝓛 (‵ (Row.own_val (P.make p x) (one (ptr_val p) ∷ [])) ∷ Γ) G (‵ (nullable_owns R p x) ∷ Γ) G
    row_in t p x = step (λ s. let v : Val = one (ptr_val p) in let d = P.make p x in
        let from : SProp 𝓤 = sem 𝓛 (holds p x (v ∷ [])) in
        nothing t $ feq_i t (List Val) (ptr_val p ∷ []) (ptr_val p ∷ []) refl $ fjoin t $
        feq_i t (List Val) (v ∷ []) (v ∷ []) refl $ fjoin t $
        fpack t (Valss (RawPtr ∷ [])) (within (shape type) (p, tt) (v ∷ [])) (ptr_val p ∷ [], tt) $ fjoin t $
        use1 𝓛 (‵ (Row.own_val d (v ∷ [])))
        (subst (λ (q : Ptr). ent 𝓤 from (sem 𝓛 (holds q (P.value d) (v ∷ [])))) (sym (P.at_made p x))
        (subst (λ (y : Option R.Denot). ent 𝓤 from (sem 𝓛 (holds p y (v ∷ [])))) (sym (P.value_made p x)) (id⊢ 𝓤 from)))
        $ s)

    pub row_out : K → (d : P.D) (vs : List Val) → (vs ≡ one (ptr_val (P.at d)) ∷ []
        → Seq K 𝓛 (‵ (nullable_owns R (P.at d) (P.value d)) ∷ Γ) G) → Seq K 𝓛 (‵ (Row.own_val d vs) ∷ Γ) G
    row_out t d vs k =
        fsplit t $ fpick t (λ vss. fsplit t $ feq_l t (λ ev. fsplit t $ feq_l t (λ ep. drop t $
        k (subst (λ (ps : List Val). vs ≡ vstruct (of_list (ps ++ [])) ∷ []) ep ev))))

-- a struct that has a pointer, and beside it what that owns
abbrev pub of_struct : {R : RattleType} (T : Owning) (at : T.D → Ptr) (value : T.D → Option R.Denot)
    (make : Ptr → Option R.Denot → T.D) → ((p : Ptr) (x : Option R.Denot) → at (make p x) ≡ p)
    → ((p : Ptr) (x : Option R.Denot) → value (make p x) ≡ x) → Pointer R
of_struct T at value make at_made value_made = record {
  name = T.name;
  args = T.args;
  types = T.types;
  D = T.D;
  at = at;
  value = value;
  make = make;
  at_made = at_made;
  value_made = value_made;
  coded = T.coded;
  shr_at = T.shr_at;
}

abbrev pub nullable : (R : RattleType) → Pointer R
nullable R = of_struct (the_type R) (λ n. n.at) (λ n. n.value) (λ p x. record { at = p; value = x }) (λ p x. refl)
    (λ p x. refl)

module _ (R : RattleType) where
  -- the box at a pointer
  abbrev pub boxed : Ptr → R.Denot → Fml
  boxed p x = box_owns token R p x

  module _ {M : Type 1} {𝓤 : Ura M} (𝓛 : Logic 𝓤) where
    pub tested : (p : Ptr) (x : R.Denot) → ent 𝓤 (sem 𝓛 (boxed p x)) (guard 𝓤 (Testable p) (sem 𝓛 (boxed p x)))
    tested p x =
        fact_use 𝓤 (Testable p)
        (via 𝓤 _ (snd∗ 𝓤 (sem 𝓛 (lies_at R full_share p x)) (sem 𝓛 (token (bare (lone R.mir)) p)))
        (dealloc_token-Testable 𝓛 (record { memory = record { seal = tt } }) (bare (lone R.mir)) p))
        (guard_i 𝓤 (Testable p) (sem 𝓛 (boxed p x)))

  module _ {M : Type 1} {𝓤 : Ura M} {𝓛 : Logic 𝓤} {K : Type 0} {Γ : List (Item 𝓤)} {G : Goal 𝓤 𝓛.H} where
    pub either : K → (p : Ptr) (x : Option R.Denot) → (p ≡ null_ptr → x ≡ None → Seq K 𝓛 Γ G)
        → ((b o : ℕ) (y : R.Denot) → p ≡ block_ptr b o → x ≡ Some y → Testable (block_ptr b o)
        → Seq K 𝓛 (‵ (boxed (block_ptr b o) y) ∷ Γ) G)
        → Seq K 𝓛 (‵ (nullable_owns R p x) ∷ Γ) G
    either t null_ptr None none some = drop t $ none refl refl
    either t null_ptr (Some y) none some = fpick t (λ wrong. absurd wrong)
    either t (block_ptr b o) None none some = fpick t (λ wrong. absurd wrong)
    either t (block_ptr b o) (Some y) none some =
        use1 𝓛 (given (Testable (block_ptr b o)) (‵ (boxed (block_ptr b o) y))) (tested 𝓛 (block_ptr b o) y) $
        learn t (λ e. some b o y refl refl e)
