use Rattle.cell.specs.{sym, ◌∙◌}
use Rattle.cell.proofs.ShownPieces.{shown_alike}
use Rattle.cell.proofs.colour.Pairs.are_many_shown.Goals as goal

pub returns-then-have_pair : goal.returns-then-have_pair
returns-then-have_pair c all =
    c.are_shown_in.ensures all ∙ shown_alike _ _ _ _ c.colours_of.ensures.value (sym c.have_pair.ensures ∙ c.if-have_pair.true)
