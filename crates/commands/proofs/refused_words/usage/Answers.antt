-- `usage`: what is said by the kind of the error (`RefusedLemmas`).
use Rattle.std.specs.Prelude.{◌≡◌}
use Rattle.commands.specs.{false, inl, inr, refl, true, LacksMemory}
use Rattle.commands.specs.declared.status.Need.TheVariants.{Help, Usage}
use Rattle.commands.proofs.RefusedLemmas.{help_told, mistake_told}
use Rattle.commands.proofs.refused_words.usage.Goals as goal

pub returns-in-Ok-clause-explained : goal.returns-in-Ok-clause-explained
returns-in-Ok-clause-explained g c =
    let other = rw c.kind.ensures at c.if-eq.ensures in
    mistake_told _ _ _ _ other (c.if-use_stderr.ensures.0 refl) (inl (c.as_bytes.result.now, refl, refl, c.log_escaped.ensures))

pub returns-in-Ok-2-clause-explained : goal.returns-in-Ok-2-clause-explained
returns-in-Ok-2-clause-explained g c =
    let other = rw c.kind.ensures at c.if-eq.ensures in
    help_told _ _ _ _ other (λ is. let never : false ≡ true = c.if-use_stderr.ensures.1 is in cc) (inl (_, c.show_text.ensures.shown))

pub returns-in-Err-clause-explained : goal.returns-in-Err-clause-explained
returns-in-Err-clause-explained g c =
    let other = rw c.kind.ensures at c.if-eq.ensures in
    let lacks : LacksMemory Usage _ _ _ = record { status_is = c.no_memory-in-Err.ensures.status; output = refl; logs = c.no_memory-in-Err.ensures.logs } in
    mistake_told _ _ _ _ other (c.if-use_stderr-2.ensures.0 refl) (inr lacks)

pub returns-in-Err-2-clause-explained : goal.returns-in-Err-2-clause-explained
returns-in-Err-2-clause-explained g c =
    let other = rw c.kind.ensures at c.if-eq.ensures in
    let lacks : LacksMemory Help _ _ _ = record { status_is = c.no_memory-in-Err-2.ensures.status; output = refl; logs = c.no_memory-in-Err-2.ensures.logs } in
    help_told _ _ _ _ other (λ is. let never : false ≡ true = c.if-use_stderr-2.ensures.1 is in cc) (inr lacks)
