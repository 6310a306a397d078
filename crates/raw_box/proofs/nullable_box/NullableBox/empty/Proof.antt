-- `empty` is a null pointer, which owns nothing.
use Rattle.std.proofs.Common.{◌≡◌, [], ◌∷◌, refl}
use mir.Syntax.{a_type, dcons, dnil}
use mir.Val.{Val}
use mir.MapTy.{inst_fn}
use base.Logic.{SProp, emp}
use base.Fml.{ftrue, flft}
use types.Kit.{‵, raw, ◌⊛◌, ◌$◌, ◌∵◌, !, qed, by, keep, split, use0}
use types.Run.{lit, no_more, and_then, returns, enter}
use types.ByLocal.{alloc_all, pass_all, free_all, look_at, sets}
use types.Part.{agg}
use contract.Monad.{fact, fact_i}
use contract.Running.{tables}
use denote.RattleType.{RattleType}
use denote.RawPtr.{null_ptr, ptr_val}
use denote.Steps.{nothing}
use denote.Param.{param, bounded}
use denote.Triple.Walked.{Stays, walk_of}
use Rattle.std.proofs.raw_atomic.Walks.{proved_at, leaves}
use Rattle.std.specs.declared.option.Option.TheVariants.{None}
use Rattle.raw_box.proofs.Pointers.{nullable, one, good, row_in}
use Rattle.raw_box.specs.contracts.nullable_box.NullableBox.empty as f
use Rattle.raw_box.proofs.nullable_box.NullableBox.empty.Statement.{statement}
use Rattle.raw_box.proofs.nullable_box.NullableBox.empty.Code as code

pub empty_spec : {M : Type 1} → statement M
empty_spec 𝓤 𝓛 𝓜 𝓡 wired T L dd glued =
    let H = 𝓛.H in let 𝓣 = tables 𝓤 H 𝓜 𝓡 𝓡.env in let R : RattleType = param 0 T in let En = f.ended T dd in
    let c = f.clauses T dd 𝓛 𝓜.mem 𝓡.returns in
    let at = bounded (a_type ∷ []) (T, tt) (dcons dd dnil) in let fn = inst_fn at code.function in
    let hs : Stays En.signature.params En.kept = tt in
    proved_at 𝓛 En hs c 𝓜 𝓡 tt (f.Key.name at) fn (code.unfolded 𝓤 H 𝓜 𝓡 wired (T, tt) dd) (λ z are.
    let Post : Val → SProp 𝓤 = (walk_of 𝓛 En hs c).post z in let toks = ‵ (flft z.0.0.0 z.0.1.0) ⊛ ‵ ftrue in
    qed 𝓛 ((toks ⊛ ‵ ftrue) ∷ raw ((c z.0.0 z.0.3).requires z.1) ∷ []) ∵ split ! $ keep ! (0 ∷ []) $
    enter ! 𝓣.C 𝓣.Λ fn [] Post $ alloc_all ! (λ l. pass_all ! refl tt $
    sets ! (agg ! (and_then ! (lit ! tt) (no_more !))) refl (good (nullable R) null_ptr) $
    returns ! (look_at ! 0 refl) $ free_all ! refl $
    use0 𝓛 (raw (fact 𝓤 (None ≡ None))) (fact_i 𝓤 (None ≡ None) (emp 𝓤) refl) $ nothing ! $
    row_in (nullable R) ! null_ptr None $ nothing ! $ keep ! (3 ∷ 0 ∷ 1 ∷ 2 ∷ []) $
    by ! (leaves 𝓛 En hs c z (one (ptr_val null_ptr)) (record { at = null_ptr; value = None }) tt tt)))
