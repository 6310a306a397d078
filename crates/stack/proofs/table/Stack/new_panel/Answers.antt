-- The least free number is a panel's, with a window that no panel had, and on top.
use Rattle.std.specs.Prelude.{◌≡◌}
use Rattle.stack.specs.{ap, arith, rules, sym, ◌∙◌, unwrap_or, new_panel_number, next_panel, with_panel, panels, PanelTable, IsFree}
use Rattle.stack.proofs.Searches.{none-has}
use Rattle.stack.proofs.Tables.{made-panels, made-table, sound}
use Rattle.stack.proofs.table.Stack.new_panel.Goals as goal

pub enter-requires-clause-window : goal.enter-requires-clause-window
enter-requires-clause-window c = grind (arith, none-has)

pub invariant_of-self-2 : goal.invariant_of-self-2
invariant_of-self-2 c = search (rules, none-has, made-table)

pub returns : goal.returns
returns c =
    let old = c.self.inside.nodes in
    let number = c.in_ok-number.number in
    let w = c.args.win.0 in
    let free : IsFree old number = search rules in
    record {
      refused = search rules;
      reply = search rules;
      arranged =
          let next : next_panel (panels c.args.self.now) ≡ number =
          ap (λ o. unwrap_or o 0) (sym ((rw c.in_ok-number.ensures.ok_part at c.free_number.ensures.number) ∙ ap (λ (t : PanelTable). new_panel_number (panels t)) c.self.view_is)) in
          made-panels old c.enter.new.nodes c.put_on_top.new.nodes number w c.self.invariant free c.in_ok-enter.ensures.entered c.put_on_top.ensures
          ∙ ap (λ (t : PanelTable). with_panel (panels t) number w) c.self.view_is
          ∙ ap (λ p. with_panel (panels c.args.self.now) p w) (sym next);
      unchanged = tt;
      sound = sound c.put_on_top.new.nodes (invariant_of-self-2 c);
    }
