-- What calls do to the writer of a screen.
use Rattle.std.specs.Prelude.{◌≡◌, ◌∷◌, ◌++◌}
use Rattle.desk.specs.{arith, ℕ, false, List, [], Ok, Err, refl, sym, Appends-nil, Appends-trans, list_any-append, Refusal, count_after, Seen, is_doupdate, world_after, Call, Doupdate, Reply}
use Rattle.desk.specs.{DeskTable, world, IsWithin, ScreenOver, after, state_of, Called, DamagesFew, MayRefuse, never-refused, flushes_after, quiet-reply, CallEnds, Writes}
use Rattle.world.specs.declared.call.Call.TheVariants as calls
use Rattle.desk.proofs.StateLemmas.{painter-quiet}
use Rattle.compose.proofs.DeskLemmas.{world-left}
use Rattle.desk.specs.declared.screen.Fault.TheVariants.{Refused}

flushes_after-append : (flushes : ℕ) (calls more : List Call) → flushes_after flushes (calls ++ more) ≡ flushes_after (flushes_after flushes calls) more
flushes_after-append flushes [] more = refl
flushes_after-append flushes (call ∷ calls) more = flushes_after-append (count_after (is_doupdate call) flushes) calls more

module _ {W : Type 0} (seen : W → Seen) where
  pub Writes-nothing : (old : ScreenOver W) → Writes seen old old [] []
  Writes-nothing old = grind (arith, Appends-nil)

  pub Writes-trans : (old mid new : ScreenOver W) (calls more : List Call) (bytes others : List ℕ) → Writes seen old mid calls bytes → Writes seen mid new more others
      → Writes seen old new (calls ++ more) (bytes ++ others)
  Writes-trans old mid new calls more bytes others h k = grind (arith, Appends-trans, flushes_after-append, list_any-append)

  quiet : (old new : ScreenOver W) (call : Call) → is_doupdate call ≡ false → new.writer ≡ old.writer → Writes seen old new (call ∷ []) []
  quiet old new call other same = grind (arith, Appends-nil)

  -- a refused call
  pub Writes-refused : (old : ScreenOver W) (call : Call) (e : Refusal) → MayRefuse (world old.desk) call e → Writes seen old old (call ∷ []) []
  Writes-refused old (calls.Refresh Doupdate) e h = absurd (never-refused (world old.desk) (calls.Refresh Doupdate) e refl refl h)
  Writes-refused old call e h = quiet old old call refl refl

  -- ---- one call

  is-after : (old : ScreenOver W) (desk : DeskTable) (call : Call) → world desk ≡ world_after (world old.desk) call → DamagesFew old.desk call desk
      → (after (state_of old) call).painter ≡ old.painter → IsWithin (state_of (record old { desk = desk })) (after (state_of old) call)
  is-after old desk call left few same = record { world = left; painter = sym same; damaged = few }

  -- a call of the desk was accepted
  pub called-ends : (old : ScreenOver W) (desk : DeskTable) (call : Call) (reply : Reply) → is_doupdate call ≡ false → Called old.desk call (Ok reply) desk
      → CallEnds seen old call (Ok reply) (record old { desk = desk })
  called-ends old desk call reply other h = record {
    state = is-after old desk call (world-left old.desk desk call h.2) h.3 (painter-quiet (state_of old) call other);
    sent = [];
    answer = (h.0, (quiet-reply (state_of old) reply [] call other).1 (refl, h.1));
    writes = quiet old (record old { desk = desk }) call other refl;
    counted = h.5;
  }

  -- a call of the desk was refused
  pub refused-ends : (old : ScreenOver W) (desk : DeskTable) (call : Call) (e : Refusal) → Called old.desk call (Err e) desk
      → CallEnds seen old call (Err (Refused e)) (record old { desk = desk })
  refused-ends old desk call e h = grind arith
