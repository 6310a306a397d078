-- A call on windows, made on a desk: it leaves a desk, and was made.
use Rattle.std.specs.Prelude.{◌≡◌}
use Rattle.compose.specs.{ℕ, Bool, true, false, Option, List, Result, Ok, Err, inl, refl, sym, subst, arith, IfOk, Refusal, Change, Effect, arranges, changes, IsSound, effect_shows_at, effect_of}
use Rattle.compose.specs.{is_update_panels, refusal, reply_of, world_after, Call, IsLinetouched, IsWintouched, UpdatePanels, PanelAbove, PanelBelow, PanelHidden, PanelWindow, Reply, Columns, World}
use Rattle.compose.specs.{is_query, WindowTable, panels, Damages, Called, CountsReads, DamagesFew, MayLeave, MayTell, IsDesk, DeskTable, is_damaged_line, world, Answered, ChangedDamaging}
use Rattle.world.specs.declared.call.Call.TheVariants as calls
use Rattle.extents.proofs.Changing.{changes-none}
use Rattle.compose.proofs.DamageCovers.{call-accepted}
use Rattle.compose.proofs.DeskLemmas.{accepted-by, call-refused}

module _ (old : DeskTable) (w : WindowTable) (d : List (Option Columns)) (call : Call) (change : Change) (h : IsDesk old) (is : effect_of (world old) call ≡ arranges (changes change)) where
  abbrev new : DeskTable
  new = record old { windows = w; damage = d }

  pub change-made : (r : Result Reply Refusal) → ChangedDamaging old.windows (panels old.panels) (refusal (world old) call) change old.damage r w d → is_update_panels call ≡ false
      → IfOk r (λ reply. MayTell (world old) (is_damaged_line old) call reply) → (world new ≡ world_after (world old) call → MayLeave old call new) → IsDesk new × Called old call r new
  change-made (Ok reply) m other tells leaves =
      call-accepted old new call h (accepted-by _ _ _ m.call.refused reply refl) other (leaves (rw is (λ i. record (world old) { windows = m.call.changed i })))
      (subst (λ (e : Effect). Damages old.windows.columns (effect_shows_at (world old) e) old.damage d) (sym is) m.damaged) refl (changes-none old.changes old.virtual.picture) reply tells
  change-made (Err e) m other tells leaves = grind (arith, call-refused)

-- ---- a call that only asks

query-tells : (w : World) (damaged : ℕ → Bool) (query : Call) (reply : Reply) → is_query query ≡ true → reply ≡ reply_of w query → MayTell w damaged query reply
query-tells w damaged (calls.Refresh UpdatePanels) reply asks is = cc
query-tells w damaged query reply asks is = is

query-leaves : (old : DeskTable) (query : Call) → is_query query ≡ true → MayLeave old query old
query-leaves old (calls.Query query) asks = refl
query-leaves old (calls.Copying (IsLinetouched win y)) asks = refl
query-leaves old (calls.Copying (IsWintouched win)) asks = refl
query-leaves old (calls.Stacking (PanelAbove panel)) asks = refl
query-leaves old (calls.Stacking (PanelBelow panel)) asks = refl
query-leaves old (calls.Stacking (PanelWindow panel)) asks = refl
query-leaves old (calls.Stacking (PanelHidden panel)) asks = refl
query-leaves old call asks = cc

query-damages : (old : DeskTable) (query : Call) → is_query query ≡ true → DamagesFew old query old
query-damages old (calls.Refresh UpdatePanels) asks = cc
query-damages old query asks = λ line damaged. grind arith

query-counts : (old : DeskTable) (query : Call) (reply : Reply) → is_query query ≡ true → CountsReads old query reply old
query-counts old (calls.Refresh UpdatePanels) reply asks = cc
query-counts old query reply asks = refl

-- it leaves the desk as it was
pub query-made : (old : DeskTable) (query : Call) (r : Result Reply Refusal) → is_query query ≡ true → IsSound (world old) → Answered (refusal (world old) query) (reply_of (world old) query) r
    → Called old query r old
query-made old query (Ok reply) asks sound h = (
  sym h.refused,
  query-tells (world old) (is_damaged_line old) query reply asks h.reply,
  query-leaves old query asks,
  query-damages old query asks,
  sound,
  query-counts old query reply asks,
  changes-none old.changes old.virtual.picture,
)
query-made old query (Err e) asks sound h = (inl (sym h.refused), refl)
