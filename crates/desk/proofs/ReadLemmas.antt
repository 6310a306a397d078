-- How many cells a run reads.
use Rattle.std.specs.Prelude.{◌≡◌, ◌≤◌, ◌+◌, ◌∷◌, ◌%◌, ◌^◌}
use Rattle.desk.specs.{ℕ, List, [], Bool, false, Result, Ok, refl, sym, subst, ap, ◌∙◌, sum_by, is_ok, arith, add_assoc, add-le-add, mod-add-mod, mod-mod, sum_by-cons}
use Rattle.desk.specs.{Refusal, World, most_cells, is_update_panels, reply_of, CountsReads, cells_of_reply, DeskTable, State, MayAnswer, Outcome, Run}
use Rattle.desk.specs.{cells_of_answer, cells_read, state_after, CountGrew, ReadsFew, places_redrawn, with_acceptance, Call, Syncup, Delwin, Inch, UpdatePanels, Doupdate, Reply}
use Rattle.desk.specs.{DelPanel}
use Rattle.world.specs.declared.call.Call.TheVariants as calls

-- ---- only update_panels answers a number of cells

-- what the effect of a call answers; a row with a call lets the last go through its group
reply_of-no_cells : (w : World) (call : Call) → cells_of_reply (reply_of w call) ≡ 0
reply_of-no_cells w (calls.Making (Delwin win)) = refl
reply_of-no_cells w (calls.Copying (Syncup win)) = refl
reply_of-no_cells w (calls.Query (Inch win)) = grind arith
reply_of-no_cells w (calls.Query query) = grind arith
reply_of-no_cells w (calls.Stacking (DelPanel panel)) = refl
reply_of-no_cells w (calls.Refresh Doupdate) = refl
reply_of-no_cells w call = refl

-- ---- one call

-- what one call read is between these
pub record CallReads (s : State) (call : Call) (cells : ℕ) : Type 0 where
  pub least : places_redrawn s.world call ≤ cells
  pub most : cells ≤ most_cells s.world s.damaged call

reads-nothing : (s : State) (call : Call) (cells : ℕ) → is_update_panels call ≡ false → cells ≡ 0 → CallReads s call cells
reads-nothing s call cells other none = grind arith

call-reads : (s : State) (call : Call) (reply : Reply) (sent : List ℕ) → MayAnswer s call (Ok reply) sent → CallReads s call (cells_of_reply reply)
call-reads s (calls.Refresh UpdatePanels) reply sent may = grind arith
call-reads s (calls.Refresh Doupdate) reply sent may = reads-nothing s (calls.Refresh Doupdate) _ refl (ap cells_of_reply may.1.1)
call-reads s call reply sent may = reads-nothing s call _ refl (ap cells_of_reply may.1.1 ∙ reply_of-no_cells s.world call)

-- ---- the count

kept-grew : (old new : DeskTable) (cells : ℕ) → cells ≡ 0 → new.cells_read ≡ old.cells_read → CountGrew cells old new
kept-grew old new cells none same = record { sum = ap (λ k. k % 2 ^ 64) (same ∙ (let sum : old.cells_read ≡ old.cells_read + cells = omega (arith, none) in sum)) }

pub same-grew : (old : DeskTable) → CountGrew 0 old old
same-grew old = kept-grew old old 0 refl refl

-- it grows by what an accepted call answers
pub call-grew : (s : State) (call : Call) (reply : Reply) (sent : List ℕ) (old new : DeskTable) → MayAnswer s call (Ok reply) sent → CountsReads old call reply new
    → CountGrew (cells_of_reply reply) old new
call-grew s (calls.Refresh UpdatePanels) reply sent old new may counts =
    record { sum = ap (λ k. k % 2 ^ 64) counts ∙ mod-mod (old.cells_read + cells_of_reply reply) (2 ^ 64) }
call-grew s (calls.Refresh Doupdate) reply sent old new may counts = kept-grew old new _ (ap cells_of_reply may.1.1) counts
call-grew s call reply sent old new may counts = kept-grew old new _ (ap cells_of_reply may.1.1 ∙ reply_of-no_cells s.world call) counts

pub then-grew : (first second : ℕ) (old mid new : DeskTable) → CountGrew first old mid → CountGrew second mid new → CountGrew (first + second) old new
then-grew first second old mid new h k = grind (arith, mod-add-mod, add_assoc)

-- ---- a run

reads-next : (s : State) (call : Call) (answer : Result Reply Refusal) (sent : List ℕ) (others : List (Call × Bool)) (cells : ℕ) → MayAnswer s call answer sent
    → ReadsFew (state_after s call answer) others cells → ReadsFew s ((call, is_ok answer) ∷ others) (cells_of_answer answer + cells)
reads-next s call answer sent others cells may few = grind (arith, call-reads, add-le-add)

pub reads-run : (s : State) (calls : List Call) (outcomes : List Outcome) → Run s calls outcomes → ReadsFew s (with_acceptance calls outcomes) (sum_by cells_read outcomes)
reads-run s [] [] run = record { at_least = omega arith; at_most = omega arith }
reads-run s (c ∷ cs) (o ∷ os) run =
    subst (ReadsFew s (with_acceptance (c ∷ cs) (o ∷ os))) (sym (sum_by-cons cells_read o os))
    (reads-next s c o.answer o.sent (with_acceptance cs os) (sum_by cells_read os) run.0 (reads-run (state_after s c o.answer) cs os run.1))
reads-run s calls outcomes run = absurd run
