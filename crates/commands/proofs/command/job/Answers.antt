-- `job`: where clap refuses nothing of the words, they name a subcommand, and each number that they give is a size (`TakenLemmas`).
use Rattle.commands.specs.{map, ◌∙◌, sym, IfErr-weaker, IfOk-weaker, fault_of, found_of, rows_of, curspan, sizes_of}
use Rattle.clap.proofs.FaultLemmas.{failed_up}
use Rattle.commands.proofs.JobLemmas.{named_by, refused_by, unnamed}
use Rattle.commands.proofs.TakenLemmas.{asked, refused_asked, some_subcommand}
use Rattle.commands.proofs.command.job.Goals as goal

pub returns-in_err-matches-clause-faults : goal.returns-in_err-matches-clause-faults
returns-in_err-matches-clause-faults g c =
    let words = map g.S.AsStr.text c.args.words.now in
    refused_by (sizes_of c.args.variables.now) words c.from_residual.result
    (failed_up c.from_residual.result c.in_err-matches.field-0.0 _ (fault_of curspan words) c.from_residual.ensures.1 c.in_err-matches.ensures.faults)

pub returns-clause-asked : goal.returns-clause-asked
returns-clause-asked g c =
    let words = map g.S.AsStr.text c.args.words.now in
    let matches = c.in_ok-matches.matches in
    let rows = rows_of (found_of c.in-Some.found.now) in
    let is = sym c.in_ok-matches.ensures.subcommand ∙ named_by matches c.in-Some.name.now rows c.in-Some.ensures.name c.in-Some.ensures.rows in
    IfOk-weaker c.invocation.result _ _ (λ i h. asked (sizes_of c.args.variables.now) words c.in-Some.name.now rows i c.in_ok-matches.ensures.faults is h)
    c.invocation.ensures.asked

pub returns-clause-faults : goal.returns-clause-faults
returns-clause-faults g c =
    let words = map g.S.AsStr.text c.args.words.now in
    let matches = c.in_ok-matches.matches in
    let rows = rows_of (found_of c.in-Some.found.now) in
    let is = sym c.in_ok-matches.ensures.subcommand ∙ named_by matches c.in-Some.name.now rows c.in-Some.ensures.name c.in-Some.ensures.rows in
    IfErr-weaker c.invocation.result _ _ (λ e h. refused_asked (sizes_of c.args.variables.now) words c.in-Some.name.now rows e c.in_ok-matches.ensures.faults is h)
    c.invocation.ensures.faults

pub unreachable-requires : goal.unreachable-requires
unreachable-requires g c =
    let words = map g.S.AsStr.text c.args.words.now in
    let is = sym c.in_ok-matches.ensures.subcommand ∙ unnamed c.in_ok-matches.matches c.in-None.ensures.variant in
    absurd (some_subcommand words c.in_ok-matches.ensures.faults is)
