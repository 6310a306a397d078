-- A bit of the mask says of each byte whether it is a newline.
use Rattle.script.specs.{sym, ◌∙◌, arith, eqb, w8, bitmask_splat, length-chunk, none_from_empty_mask, run_in_chunk_fails, run_in_chunk_le, run_in_chunk_stops, is_newline, newline}
use Rattle.script.specs.declared.bytes.TheConstants.{LANES}
use Rattle.script.proofs.NewlineLemmas.{before_marked}
use Rattle.script.proofs.bytes.before_newline.Goals as goal

pub returns-then-newlines-eq0-clause-none : goal.returns-then-newlines-eq0-clause-none
returns-then-newlines-eq0-clause-none c =
    none_from_empty_mask is_newline _ _ LANES 0 c.requires
    (sym (bitmask_splat w8 eqb _ LANES newline (length-chunk c.args.from LANES c.args.text.now c.requires) (omega arith)) ∙ c.if-newlines-eq0.true)

pub returns-else-newlines-eq0-clause-within : goal.returns-else-newlines-eq0-clause-within
returns-else-newlines-eq0-clause-within c = run_in_chunk_le is_newline _ _ LANES _ 0 c.requires
    (before_marked is_newline _ _ LANES _ c.requires (omega arith)
    (bitmask_splat w8 eqb _ LANES newline (length-chunk c.args.from LANES c.args.text.now c.requires) (omega arith)) c.if-newlines-eq0.false)

pub returns-else-newlines-eq0-clause-none : goal.returns-else-newlines-eq0-clause-none
returns-else-newlines-eq0-clause-none c = run_in_chunk_fails is_newline _ _ LANES _ 0 c.requires
    (before_marked is_newline _ _ LANES _ c.requires (omega arith)
    (bitmask_splat w8 eqb _ LANES newline (length-chunk c.args.from LANES c.args.text.now c.requires) (omega arith)) c.if-newlines-eq0.false)

pub returns-else-newlines-eq0-clause-found : goal.returns-else-newlines-eq0-clause-found
returns-else-newlines-eq0-clause-found c = run_in_chunk_stops is_newline _ _ LANES _ 0 c.requires
    (before_marked is_newline _ _ LANES _ c.requires (omega arith)
    (bitmask_splat w8 eqb _ LANES newline (length-chunk c.args.from LANES c.args.text.now c.requires) (omega arith)) c.if-newlines-eq0.false)
