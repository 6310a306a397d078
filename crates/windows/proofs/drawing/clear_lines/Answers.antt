-- Some lines are a rectangle, and no lines are nothing.
use Rattle.windows.specs.{arith, nat_tests, rules, windows}
use Rattle.windows.proofs.States.{state-written}
use Rattle.windows.proofs.NextWrites.{nothing, once}
use Rattle.windows.proofs.drawing.clear_lines.Goals as goal

pub returns-then-top-end : goal.returns-then-top-end
returns-then-top-end c = record {
  written = nothing (windows c.args.table.now) c.args.win.0 c.args.state.now c.requires.state _ (λ y x. grind (arith, nat_tests));
  state = c.requires.state;
}

pub returns : goal.returns
returns c = record {
  written = once _ _ _ c.requires.state _ _ _ (λ y x below on. grind (arith, nat_tests)) c.fill_rectangle.ensures.written;
  state = search (rules, state-written);
}
