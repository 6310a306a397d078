-- A node with the same window changes neither index.
use Rattle.std.specs.Prelude.{◌∷◌, ◌<◌}
use Rattle.stack.specs.{List, sym, ap, subst, ◌∙◌, arith, length, IsIndexed, window_at}
use Rattle.stack.specs.declared.nodes.Node.{Node}
use Rattle.stack.proofs.Indexes.{indexed-set, set-past}
use Rattle.stack.proofs.nodes.Nodes.set.Goals as goal

pub invariant_of-self : goal.invariant_of-self
invariant_of-self c =
    let a = c.self.inside in
    let same = c.requires.window ∙ ap (λ (l : List Node). window_at l c.args.at) (sym c.self.view_is) in
    indexed-set (a.end ∷ a.panels.items) 0 c.args.node (omega arith) a.numbers a.holders c.self.invariant (same ∙ ap (window_at (a.end ∷ a.panels.items)) c.if-at-eq0.true)

pub invariant_of-self-else-at-eq0 : goal.invariant_of-self-else-at-eq0
invariant_of-self-else-at-eq0 c =
    let a = c.self.inside in
    let nodes = a.end ∷ a.panels.items in
    let p = c.args.at in
    let positive = c.if-at-eq0.false in
    let same = c.requires.window ∙ ap (λ (l : List Node). window_at l p) (sym c.self.view_is) in
    let within = subst (λ (l : List Node). p < length l) (sym c.self.view_is) c.requires.within in
    rw c.from.ensures
    (subst (λ (l : List Node). IsIndexed l a.numbers a.holders) (set-past a.end a.panels.items p c.args.node (omega arith))
    (indexed-set nodes p c.args.node within a.numbers a.holders c.self.invariant same))
