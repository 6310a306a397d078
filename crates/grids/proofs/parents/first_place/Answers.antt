-- The walk goes from parent to parent, and ends because each is nearer to the grid.
use Rattle.std.specs.Prelude.{◌≡◌}
use Rattle.grids.specs.{Some, None, option_map, slot_at, part_in, in_parent}
use Rattle.grids.proofs.Chain.{some_and, from_parent, no_parent, ComesTo-step, ComesTo-end}
use Rattle.grids.proofs.parents.first_place.Goals as goal

pub loop-next-preserved : goal.loop-next-preserved
loop-next-preserved c =
    let slots = c.args.slots.now in
    let at = c.loop-next.at in
    let k = some_and (slot_at slots at.win.0) (λ k. Some c.in-Some.next ≡ option_map (in_parent at) (part_in k.cells)) c.in-Some.ensures.next in
    let part = from_parent at c.in-Some.next (part_in k.0.cells) k.2 in
    record { there = c.in-Some.ensures.inside; leads = rw part.2 (ComesTo-step slots c.requires.chained c.args.win at.win.0 at.line at.column k.0 part.0 k.1 part.1 c.loop-next.invariant.leads) }

pub returns : goal.returns
returns c =
    let slots = c.args.slots.now in
    let at = c.loop-next.at in
    let k = some_and (slot_at slots at.win.0) (λ k. None ≡ option_map (in_parent at) (part_in k.cells)) c.in_default.ensures.next in
    record {
      leads = ComesTo-end slots c.requires.chained c.requires.few c.args.win at.win.0 at.line at.column k.0 c.requires.taken k.1
          (no_parent at (part_in k.0.cells) k.2) c.loop-next.invariant.leads;
    }
