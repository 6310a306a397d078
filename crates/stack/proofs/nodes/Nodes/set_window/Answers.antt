-- Both indexes follow the window that the node has now.
use Rattle.std.specs.Prelude.{◌≡◌, ◌∷◌, ◌<◌, ◌==◌, if◌then◌else◌}
use Rattle.stack.specs.{Bool, List, sym, ap, subst, ◌∙◌, set, length, option_map, WinId, held_by, holder_at, IsIndexed, node_at, window_in, Windowed, contains}
use Rattle.stack.specs.declared.nodes.Node.{Node}
use Rattle.stack.proofs.Indexes.{free-window, indexed-windowed, set-past, some-window, windowed-set}
use Rattle.stack.proofs.nodes.Nodes.set_window.Goals as goal

pub invariant_of-self : goal.invariant_of-self
invariant_of-self c =
    let a = c.self.inside in
    let nodes : List Node = a.end ∷ a.panels.items in
    let p = c.args.at in
    let node : Node = record { window = c.args.win; above = c.get-node.result.above; below = c.get-node.result.below } in
    let within = subst (λ (l : List Node). p < length l) (sym c.self.view_is) c.requires.within in
    let got : c.get-node.result ≡ node_at nodes p = c.get-node.ensures ∙ ap (λ (l : List Node). node_at l p) (sym c.self.view_is) in
    let windowed = windowed-set nodes p node within (ap (λ (n : Node). n.above) got) (ap (λ (n : Node). n.below) got) in
    let win = option_map (λ (w : WinId). w.0) c.args.win in
    let free = rw (← c.self.view_is) at c.requires.free in
    rw c.from.ensures
    (subst (λ (l : List Node). IsIndexed l c.set_taken.new.numbers c.set-2.new.self) (set-past a.end a.panels.items p node c.requires.panel)
    (indexed-windowed nodes (set nodes p node) a.numbers c.set_taken.new.numbers a.holders c.set.new.self c.set-2.new.self p win
    c.self.invariant c.requires.panel within windowed.length windowed.window (free-window nodes c.args.win free)
    (λ w few. c.set.ensures.panel w few ∙ ap (λ (n : Node). held_by (window_in n) 0 (holder_at a.holders) w) got)
    c.set-2.ensures.panel c.set.ensures.len c.set-2.ensures.len
    (λ q. c.set_taken.ensures q ∙ ap (λ (b : Bool). if q == p then b else contains a.numbers q) (c.is_some.ensures ∙ some-window c.args.win))))

pub returns : goal.returns
returns c =
    let a = c.self.inside in
    let nodes : List Node = a.end ∷ a.panels.items in
    let p = c.args.at in
    let node : Node = record { window = c.args.win; above = c.get-node.result.above; below = c.get-node.result.below } in
    let within = subst (λ (l : List Node). p < length l) (sym c.self.view_is) c.requires.within in
    let got : c.get-node.result ≡ node_at nodes p = c.get-node.ensures ∙ ap (λ (l : List Node). node_at l p) (sym c.self.view_is) in
    let windowed = windowed-set nodes p node within (ap (λ (n : Node). n.above) got) (ap (λ (n : Node). n.below) got) in
    rw c.from.ensures (rw (← c.self.view_is)
    (subst (λ (l : List Node). Windowed nodes l p (window_in node)) (set-past a.end a.panels.items p node c.requires.panel) windowed))
