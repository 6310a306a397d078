-- The answers of a call are of its kind.
use Rattle.std.specs.Prelude.{◌≡◌}
use Rattle.calls.specs.{true, false, Result, Ok, Err, refl, subst, IfOk, World, is_doupdate, Call, Doupdate, Reply, IsAnswerTo, IsOfKind, Kind, kind_of, is_query}
use Rattle.world.specs.declared.call.Call.TheVariants as calls

pub query-other : (call : Call) → is_query call ≡ true → is_doupdate call ≡ false
query-other (calls.Refresh Doupdate) h = cc
query-other call h = refl

-- what is known of a call that was made, where it was accepted
pub of-kind : {E : Type 0} (Made : Result Reply E → Type 0) (call : Call) (kind : Kind) → ((world : World) → kind_of world call ≡ kind)
    → ((reply : Reply) → Made (Ok reply) → IsAnswerTo call reply) → (r : Result Reply E) → Made r → IfOk r (IsOfKind kind)
of-kind Made call kind same answers (Ok reply) made = let answer = answers reply made in subst (λ kind. IsOfKind kind reply) (same answer.0) answer.1
of-kind Made call kind same answers (Err e) made = tt
