-- There is no space in the bytes that are looked through at once, or the first is among them.
use Rattle.script.specs.{arith, sym, ◌∙◌, is_space}
use Rattle.script.specs.declared.line.TheConstants.{WORD_LANES}
use Rattle.script.proofs.LineLemmas.{space_at}
use Rattle.script.proofs.NewlineLemmas.{found_after, none_after, none_up_to}
use Rattle.script.proofs.line.first_space.Goals as goal

pub returns-then-before-lt-WORD_LANES : goal.returns-then-before-lt-WORD_LANES
returns-then-before-lt-WORD_LANES c = grind (arith, space_at)

pub returns-in-Some : goal.returns-in-Some
returns-in-Some c =
    found_after is_space c.args.text.now WORD_LANES _ (none_up_to is_space _ WORD_LANES c.before_space-before.result (omega (arith, c.if-before-lt-WORD_LANES.false)) c.before_space-before.ensures.none)
    (sym c.in-Some.is ∙ c.space_of_any.ensures)

pub returns-in-None : goal.returns-in-None
returns-in-None c =
    none_after is_space c.args.text.now WORD_LANES (none_up_to is_space _ WORD_LANES c.before_space-before.result (omega (arith, c.if-before-lt-WORD_LANES.false)) c.before_space-before.ensures.none)
    (sym c.in-None.is ∙ c.space_of_any.ensures)
