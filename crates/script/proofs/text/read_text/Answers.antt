-- Each round reads one character more.
use Rattle.script.specs.{arith, ◌∙◌, ap, option_map, common_steps}
use Rattle.script.proofs.TextLemmas.{nothing_before, one_before, plain_text}
use Rattle.script.proofs.ByteLemmas.{ok_parts}
use Rattle.script.proofs.text.read_text.Goals as goal

pub returns-then-not-contains : goal.returns-then-not-contains
returns-then-not-contains c = grind (arith, ok_parts, plain_text)

pub loop-rest-init : goal.loop-rest-init
loop-rest-init c = (grind (arith, nothing_before), grind (arith, common_steps))

pub loop-rest-preserved : goal.loop-rest-preserved
loop-rest-preserved c =
    (one_before _ _ _ _ _ (c.loop-rest.invariant.0 ∙ ap (option_map _) c.in-Some.ensures.text) c.push.ensures.items, grind (arith, common_steps))
