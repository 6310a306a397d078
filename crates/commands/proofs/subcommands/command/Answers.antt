-- `command`: the subcommands are added in turn (`SubcommandLemmas`).
use Rattle.std.specs.Prelude.{◌≡◌, ◌∷◌}
use Rattle.commands.specs.{◌∙◌, [], arith, ap, map, IfOk-weaker, bare, check_mode, mode}
use Rattle.commands.specs.declared.requests.Kind.TheVariants.{Run, Paint, Show}
use Rattle.commands.proofs.SubcommandLemmas.{all_added, kind_made, one_more}
use Rattle.commands.proofs.subcommands.command.Goals as goal

pub returns : goal.returns
returns c =
    let ends : c.loop-kind.kind-index ≡ 3 = omega arith in
    let made = rw ends at c.loop-kind.invariant in
    let all = one_more _ c.in_ok-checking.field-0 _ check_mode made c.in_ok-checking.ensures.app c.in_ok-checking.ensures.local in
    IfOk-weaker c.subcommands.result _ _
    (λ r adds. all_added _ r _ (mode Run ∷ mode Paint ∷ mode Show ∷ check_mode ∷ []) bare adds (ap (map _) c.in_ok-push-2.ensures.items ∙ all) c.program.ensures.app)
    c.subcommands.ensures

pub loop-kind-preserved : goal.loop-kind-preserved
loop-kind-preserved c =
    ap (map _) c.in_ok-push.ensures.items ∙ kind_made _ _ (Run ∷ Paint ∷ Show ∷ []) _ _ c.loop-kind-test.true c.loop-kind.invariant c.in_ok-subcommand.ensures.mode
    c.in_ok-subcommand.ensures.local
