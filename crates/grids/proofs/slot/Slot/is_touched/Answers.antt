use Rattle.grids.specs.{is_some, arith, refl, sym, ◌∙◌, Columns}
use Rattle.grids.proofs.Derived.{any_below-list}
use Rattle.grids.proofs.slot.Slot.is_touched.Goals as goal

pub returns : goal.returns
returns c =
    rw (← c.self.view_is) (c.are_touched.ensures ∙ sym (any_below-list {A = Columns} is_some refl c.self.inside.touched c.self.inside.lines
    (omega (arith, c.self.invariant.touched_each))))
