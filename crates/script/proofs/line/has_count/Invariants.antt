use Rattle.script.specs.{pieces_of}
use Rattle.script.proofs.ArgumentLemmas.{Counted}
use Rattle.script.proofs.line.has_count.Given as goal

abbrev pub invariant-loop-form : goal.invariant-loop-form
invariant-loop-form l = Counted l.forms (pieces_of l.text) l.form-index (pieces_of l.rest)
