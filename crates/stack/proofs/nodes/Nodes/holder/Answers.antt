-- The search finds the only node that has the window.
use Rattle.std.specs.Prelude.{◌≡◌}
use Rattle.stack.specs.{ℕ, List, Some, subst, window_at}
use Rattle.stack.specs.declared.nodes.Node.{Node}
use Rattle.stack.proofs.Indexes.{searched-one}
use Rattle.stack.proofs.nodes.Nodes.holder.Goals as goal

pub returns-else-win-le-MOST_WINDOWS-clause-none : goal.returns-else-win-le-MOST_WINDOWS-clause-none
returns-else-win-le-MOST_WINDOWS-clause-none c =
    let a = c.self.inside in
    let w = c.args.win.0 in
    let n = c.search.result in
    subst (λ (l : List Node). (p : ℕ) → window_at l p ≡ Some w → n ≡ p) c.self.view_is
    (searched-one a.end a.panels.items w n (λ p q. c.self.invariant.alone p q w) (rw c.deref.ensures.value at c.search.ensures.panel) (rw c.deref.ensures.value at c.search.ensures.none))
