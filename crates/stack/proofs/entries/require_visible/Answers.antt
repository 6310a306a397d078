-- A node that names itself is a hidden panel's.
use Rattle.stack.specs.{not, sym, ap, ◌∙◌, eq-eqb, ne_eqb, above_at, from_bottom, panels, table_of}
use Rattle.stack.specs.declared.nodes.Node.{Node}
use Rattle.stack.proofs.Neighbours.{hidden-is}
use Rattle.stack.proofs.Tables.{accepted-visible, panel-from, refused-hidden, taken}
use Rattle.stack.proofs.entries.require_visible.Goals as goal

pub returns-then-node-panel-clause-refused : goal.returns-then-node-panel-clause-refused
returns-then-node-panel-clause-refused c =
    let nodes = c.args.nodes.now in
    let p = c.args.panel.0 in
    let panel = panel-from nodes c.requires p c.get-node.result c.get-node.ensures (c.is_none.ensures ∙ ap not c.if-is_none.false) in
    let hidden = sym (hidden-is nodes (from_bottom nodes) c.requires.threaded p panel)
    ∙ eq-eqb (above_at nodes p) p (ap (λ (n : Node). n.above) (sym c.get-node.ensures) ∙ c.if-node-panel.true) in
    sym (refused-hidden (panels (table_of nodes)) p (taken nodes p panel) hidden)

pub returns-clause-refused : goal.returns-clause-refused
returns-clause-refused c =
    let nodes = c.args.nodes.now in
    let p = c.args.panel.0 in
    let panel = panel-from nodes c.requires p c.get-node.result c.get-node.ensures (c.is_none.ensures ∙ ap not c.if-is_none.false) in
    let shown = sym (hidden-is nodes (from_bottom nodes) c.requires.threaded p panel)
    ∙ ne_eqb (above_at nodes p) p (λ e. c.if-node-panel.false (ap (λ (n : Node). n.above) c.get-node.ensures ∙ e)) in
    sym (accepted-visible (panels (table_of nodes)) p (taken nodes p panel) shown)

pub returns-clause-shown : goal.returns-clause-shown
returns-clause-shown c =
    let nodes = c.args.nodes.now in
    let p = c.args.panel.0 in
    let panel = panel-from nodes c.requires p c.get-node.result c.get-node.ensures (c.is_none.ensures ∙ ap not c.if-is_none.false) in
    sym (hidden-is nodes (from_bottom nodes) c.requires.threaded p panel)
    ∙ ne_eqb (above_at nodes p) p (λ e. c.if-node-panel.false (ap (λ (n : Node). n.above) c.get-node.ensures ∙ e))
