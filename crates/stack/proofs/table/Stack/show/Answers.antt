-- The order is that of the others with the panel after them.
use Rattle.stack.specs.{rules, refl, arith}
use Rattle.stack.proofs.Tables.{reordered-panels, reordered-table, sound}
use Rattle.stack.proofs.table.Stack.show.Goals as goal

pub returns : goal.returns
returns c = record {
  refused = search rules;
  reply = refl;
  arranged = search (rules, reordered-panels);
  unchanged = tt;
  sound = grind (arith, sound, reordered-table);
}
