use Rattle.cell.specs.{◌∙◌, sym}
use Rattle.cell.proofs.ShownPieces.{shown_alike}
use Rattle.cell.proofs.colour.Pairs.show_block.Goals as goal

pub returns-then-have_pair-clause-shown : goal.returns-then-have_pair-clause-shown
returns-then-have_pair-clause-shown c =
    c.show_alike.ensures.shown ∙ shown_alike _ _ _ _ c.colours_of.ensures.value (sym c.have_pair.ensures ∙ c.if-have_pair.true)
