-- `move_panel`: the window of a panel that is there is moved.
use Rattle.compose.specs.{rules}
use Rattle.compose.proofs.panels.move_panel.Goals as goal

pub returns : goal.returns
returns c = record {
  refused = search rules;
  reply = search rules;
  changed = search rules;
  arranged = search rules;
  unchanged = search rules;
  unordered = search rules;
}
