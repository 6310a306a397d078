-- `report_call`: what is reported of a call, wherever its text is (`CheckLemmas`).
use Rattle.std.specs.Prelude.{◌∷◌}
use Rattle.checks.specs.{[], sym}
use Rattle.checks.proofs.CheckLemmas.{call_found, none_more}
use Rattle.checks.proofs.report.report_call.Goals as goal

pub returns-in-Some : goal.returns-in-Some
returns-in-Some g c =
    let refused = call_found _ _ c.in-Some.why (rw c.in-Some.is at c.refusal_everywhere.ensures) c.call.ensures in
    (_ ∷ [], ((c.in-Some.why, refused), rw (sym c.as_slice.ensures.value) at c.refused.ensures), c.report_text.ensures)

pub returns-in-None : goal.returns-in-None
returns-in-None g c = ([], tt, none_more _ c.args.report)
