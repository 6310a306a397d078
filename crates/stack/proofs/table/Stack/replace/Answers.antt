-- The panel has another window, which no panel had, and the order is as it was.
use Rattle.stack.specs.{ap, arith, ◌∙◌, rules, refl, after_replace_panel, panels, PanelTable}
use Rattle.stack.proofs.Searches.{none-has}
use Rattle.stack.proofs.Tables.{replaced-panels, replaced-table, sound}
use Rattle.stack.proofs.table.Stack.replace.Goals as goal

pub set_window-requires-clause-free : goal.set_window-requires-clause-free
set_window-requires-clause-free c = grind (arith, none-has)

pub invariant_of-self : goal.invariant_of-self
invariant_of-self c =
    let old = c.self.inside.nodes in
    let free = none-has old c.self.invariant c.args.win.0 (grind (arith, c.holder.ensures.some)) in
    replaced-table old c.set_window.new.self c.args.panel.0 c.args.win.0
    c.self.invariant c.in_ok-require_panel.ensures.panel c.set_window.ensures free

pub returns : goal.returns
returns c = record {
  refused = search rules;
  reply = refl;
  arranged =
      replaced-panels c.self.inside.nodes c.set_window.new.self c.args.panel.0 c.args.win.0
      c.self.invariant c.in_ok-require_panel.ensures.panel c.set_window.ensures
      ∙ ap (λ (t : PanelTable). after_replace_panel (panels t) c.args.panel.0 c.args.win.0) c.self.view_is;
  unchanged = tt;
  sound = sound c.set_window.new.self (invariant_of-self c);
}
