use Rattle.cell.specs.{sym, ◌∙◌}
use Rattle.cell.proofs.ShownPieces.{shown_alike}
use Rattle.cell.proofs.colour.Pairs.show_many.Goals as goal

pub returns-then-lanes_have_pair-clause-shown : goal.returns-then-lanes_have_pair-clause-shown
returns-then-lanes_have_pair-clause-shown c =
    c.copy_from_slice.ensures.after ∙ c.show_in.ensures.shown ∙ shown_alike _ _ _ _ c.colours_of.ensures.value (sym c.lanes_have_pair.ensures ∙ c.if-lanes_have_pair.true)
