use Rattle.std.specs.Prelude.{◌≡◌}
use Rattle.commands.specs.{map, take}
use Rattle.commands.proofs.SubcommandLemmas.{defined, made}
use Rattle.commands.proofs.subcommands.command.Given as goal

abbrev pub invariant-loop-kind : goal.invariant-loop-kind
invariant-loop-kind l = map defined l.subcommands.items ≡ made (take l.kind-index l.kind-items)
