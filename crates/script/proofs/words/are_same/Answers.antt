-- All bytes were compared.
use Rattle.std.specs.Prelude.{◌≡◌}
use Rattle.script.specs.{arith, sym, take_all, bytes_eq-Decides}
use Rattle.script.proofs.words.are_same.Goals as goal

pub returns : goal.returns
returns c =
    let same : c.args.text.now ≡ c.args.name.now = grind (arith, take_all) in
    sym ((bytes_eq-Decides c.args.text.now c.args.name.now).1 same)
