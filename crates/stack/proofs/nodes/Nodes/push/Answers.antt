-- A node that no panel has changes neither index.
use Rattle.std.specs.Prelude.{◌∷◌, ◌≤◌}
use Rattle.stack.specs.{List, length, refl, sym, subst, MOST_PANELS}
use Rattle.stack.specs.declared.nodes.Node.{Node}
use Rattle.stack.proofs.Indexes.{indexed-pushed, indexed-same}
use Rattle.stack.proofs.nodes.Nodes.push.Goals as goal

pub invariant_of-self-2 : goal.invariant_of-self-2
invariant_of-self-2 c =
    let a = c.self.inside in
    let few = subst (λ (l : List Node). length l ≤ MOST_PANELS) (sym c.self.view_is) c.requires.few in
    rw c.in_ok-push.ensures.items
    (indexed-pushed (a.end ∷ a.panels.items) c.args.node a.numbers a.holders c.grow.new.self
    c.self.invariant few c.requires.free c.in_ok-grow.ensures.room c.in_ok-grow.ensures.same)

pub invariant_of-self-in_err-push : goal.invariant_of-self-in_err-push
invariant_of-self-in_err-push c =
    let a = c.self.inside in
    let nodes = a.end ∷ a.panels.items in
    rw c.in_err-push.ensures.items (indexed-same nodes nodes a.numbers a.holders c.grow.new.self c.self.invariant c.self.invariant.few (λ some. c.in_ok-grow.ensures.room) (λ p. refl) c.in_ok-grow.ensures.same)
