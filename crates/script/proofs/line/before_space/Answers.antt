-- A bit of the mask says of each byte whether it is a space.
use Rattle.script.specs.{sym, ◌∙◌, arith, eqb, w8, bitmask_splat, length-chunk, none_from_empty_mask, run_in_chunk_fails, run_in_chunk_le, is_space, space}
use Rattle.script.specs.declared.line.TheConstants.{WORD_LANES}
use Rattle.script.proofs.LineLemmas.{from_start}
use Rattle.script.proofs.NewlineLemmas.{before_marked}
use Rattle.script.proofs.line.before_space.Goals as goal

pub returns-then-spaces-eq0-clause-none : goal.returns-then-spaces-eq0-clause-none
returns-then-spaces-eq0-clause-none c = λ k below.
    none_from_empty_mask is_space _ 0 WORD_LANES 0 c.requires
    (sym (bitmask_splat w8 eqb _ WORD_LANES space (length-chunk 0 WORD_LANES c.args.text.now c.requires) (omega arith)) ∙ c.if-spaces-eq0.true) k (omega arith) (omega arith)

pub returns-else-spaces-eq0-clause-within : goal.returns-else-spaces-eq0-clause-within
returns-else-spaces-eq0-clause-within c = run_in_chunk_le is_space _ 0 WORD_LANES _ 0 c.requires
    (before_marked is_space _ 0 WORD_LANES _ c.requires (omega arith)
    (bitmask_splat w8 eqb _ WORD_LANES space (length-chunk 0 WORD_LANES c.args.text.now c.requires) (omega arith)) c.if-spaces-eq0.false)

pub returns-else-spaces-eq0-clause-none : goal.returns-else-spaces-eq0-clause-none
returns-else-spaces-eq0-clause-none c = λ k below. run_in_chunk_fails is_space _ 0 WORD_LANES _ 0 c.requires
    (before_marked is_space _ 0 WORD_LANES _ c.requires (omega arith)
    (bitmask_splat w8 eqb _ WORD_LANES space (length-chunk 0 WORD_LANES c.args.text.now c.requires) (omega arith)) c.if-spaces-eq0.false) k (omega arith) (omega arith)

pub returns-else-spaces-eq0-clause-found : goal.returns-else-spaces-eq0-clause-found
returns-else-spaces-eq0-clause-found c = from_start _ WORD_LANES _
    (before_marked is_space _ 0 WORD_LANES _ c.requires (omega arith)
    (bitmask_splat w8 eqb _ WORD_LANES space (length-chunk 0 WORD_LANES c.args.text.now c.requires) (omega arith)) c.if-spaces-eq0.false) c.requires
