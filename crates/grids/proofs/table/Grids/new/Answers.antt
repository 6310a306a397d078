-- A table of the standard screen alone is sound.
use Rattle.std.specs.Prelude.{◌≡◌, ◌∷◌}
use Rattle.grids.specs.{rules, Some, []}
use Rattle.grids.proofs.Origins.{origins-first}
use Rattle.grids.proofs.table.Grids.new.Goals as goal

pub invariant_of-grids : goal.invariant_of-grids
invariant_of-grids c =
    let k = c.in_ok-standard.standard in
    let items : c.push.new.self.items ≡ Some k ∷ [] = search rules in
    record {
      some_slot = search rules;
      few_slots = search rules;
      has_line = search rules;
      has_column = search rules;
      few_lines = search rules;
      few_columns = search rules;
      standard = search rules;
      chained = search rules;
      origins = rw items (origins-first k c.in_ok-standard.ensures.kept.2 c.in_ok-standard.ensures.origin);
      placed = search rules;
    }
