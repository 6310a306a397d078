-- A function that takes a struct of one pointer apart, casts the pointer, and makes another of it. Assumes `Logic`.
use Rattle.std.proofs.Common.{◌≡◌, List, [], ◌∷◌, ◌++◌, refl, sym, subst}
use seplogic.Ra.Ura.{Ura}
use mir.Syntax.{Callee, Fn, local, value_local, ty_ptr, ty_struct, tnil, tcons, assign, place, rv_opd, copy, field}
use mir.Syntax.{aggregate, return, seq}
use mir.Val.{Val}
use base.Logic.{SProp, ent, emp, id⊢}
use base.Fml.{ftrue}
use prog.Model.{Model}
use prog.Wp.{WpFn, Closed}
use types.Logic.{Logic}
use types.Kit.{‵, raw, ◌⊛◌, ◌$◌, ◌∵◌, !, qed, by, move, keep, drop, split, fsplit, fjoin, suffices, use0}
use types.Run.{stop, fld, of_opd, no_more, and_then, returns, enter}
use types.ByLocal.{alloc_all, pass_all, free_all, look_at, get, get_in, sets}
use types.Part.{agg, sub, whole}
use contract.Monad.{fact, fact_i}
use contract.Notation.{Connectives, connectives}
use contract.Running.{Running, tables}
use denote.Exit.{yes}
use denote.RattleType.{RattleType, owns}
use denote.Signature.{types_at, plain}
use denote.RawPtr.{ptr_val}
use denote.Steps.{nothing}
use denote.Triple.Clauses.{Ended, Clauses, closing}
use denote.Triple.Spec.{Meets}
use denote.Triple.Walked.{Stays, stay_dropped, walk_of, Goes-dropped}
use Rattle.core.proofs.atomic.Steps.{Ptr-Good}
use Rattle.std.proofs.raw_atomic.Walks.{proved_at, leaves}
use Rattle.raw_box.proofs.Pointers.{Pointer, Row, one, good, row_in, row_out}

module _ {R : RattleType} (from to : Pointer R) where
  abbrev pub moving : Fn
  moving = record {
    lifetimes = 0;
    outlives = [];
    ty_params = [];
    givens = 0;
    params = 1;
    locals = local (ty_struct to.name (tcons ty_ptr tnil)) value_local
        ∷ local (ty_struct from.name (tcons ty_ptr tnil)) value_local ∷ local ty_ptr value_local
        ∷ local ty_ptr value_local ∷ [];
    body = seq (assign (place 2 []) (rv_opd (copy (place 1 (field 0 ∷ [])))))
        (seq (assign (place 3 []) (rv_opd (copy (place 2 []))))
        (seq (assign (place 0 []) (aggregate (copy (place 3 []) ∷ []))) return));
  }

  abbrev pub moved : Ended
  moved = record {
    signature = record {
      lifetimes = 0;
      outlives = [];
      params = plain (λ _. Row from) ∷ [];
      result = plain (λ _. Row to);
    };
    kept = (yes, tt);
  }

  module _ {M : Type 1} (𝓤 : Ura M) (𝓛 : Logic 𝓤) where
    abbrev 𝓝 : Connectives 𝓤
    𝓝 = connectives 𝓤

    open 𝓝 use {⌜◌⌝, ⊤ₛ}

    abbrev pub clauses : Clauses 𝓤 moved
    clauses κs args = record {
      ghost = Unit {0};
      requires = λ _. ⊤ₛ;
      ensures = λ _ r _. ⌜◌⌝ (to.value r ≡ from.value args.0);
    }

    abbrev stayed : Stays moved.signature.params moved.kept
    stayed = (stay_dropped (plain (λ _. Row from)) yes, tt)

    pub moves : (𝓜 : Model 𝓤 𝓛.H) (𝓡 : Running 𝓤 𝓛.H 𝓜) (k : Callee)
        → Closed 𝓤 𝓛.H (tables 𝓤 𝓛.H 𝓜 𝓡 𝓡.env).C (tables 𝓤 𝓛.H 𝓜 𝓡 𝓡.env).Λ k moving
        → Meets 𝓛 moved.signature ((tables 𝓤 𝓛.H 𝓜 𝓡 𝓡.env).C k) (closing 𝓛 moved clauses)
    moves 𝓜 𝓡 k unfolded =
        let H = 𝓛.H in let 𝓣 = tables 𝓤 H 𝓜 𝓡 𝓡.env in let c = clauses in
        proved_at 𝓛 moved stayed c 𝓜 𝓡 (Goes-dropped 𝓛 0 (plain (λ _. Row from)) yes (λ κs x w. refl), tt)
        k moving unfolded (λ z are.
        let d = z.0.3.0 in let p = from.at d in let x = from.value d in let w : List Val = one (ptr_val p) ∷ [] in
        let Post : Val → SProp 𝓤 = (walk_of 𝓛 moved stayed c).post z in
        let Run : List Val → SProp 𝓤 = λ ws. WpFn 𝓤 H 𝓣.C 𝓣.Λ moving ws Post in
        qed 𝓛 ((‵ ftrue ⊛ ‵ (owns (types_at moved.signature.params z.0.0) z.0.3 z.0.4))
        ∷ raw ((c z.0.0 z.0.3).requires z.1) ∷ []) ∵ split ! $ drop ! $ fsplit ! $ row_out from ! d z.0.4.0 (λ ws.
        suffices ! (Run w) (subst (λ (us : List Val). ent 𝓤 (Run w) (Run us)) (sym (λ i. ws i ++ [])) (id⊢ 𝓤 (Run w))) $
        keep ! (0 ∷ []) $
        enter ! 𝓣.C 𝓣.Λ moving w Post $ alloc_all ! (λ l. pass_all ! refl (good from p, tt) $
        sets ! (of_opd ! (get_in ! (fld ! refl (stop !)) (sub ! 0 refl (whole !)))) refl (Ptr-Good p) $
        sets ! (of_opd ! (get ! refl)) refl (Ptr-Good p) $
        sets ! (agg ! (and_then ! (get ! refl) (no_more !))) refl (good to p) $
        returns ! (look_at ! 0 refl) $ free_all ! refl $ row_in to ! p x $
        use0 𝓛 (raw (fact 𝓤 (to.value (to.make p x) ≡ x)))
        (fact_i 𝓤 (to.value (to.make p x) ≡ x) (emp 𝓤) (to.value_made p x)) $
        move ! (1 ∷ []) $ nothing ! $ nothing ! $ fjoin ! $ nothing ! $
        by ! (leaves 𝓛 moved stayed c z (one (ptr_val p)) (to.make p x) (tt, tt) (tt, tt)))))
