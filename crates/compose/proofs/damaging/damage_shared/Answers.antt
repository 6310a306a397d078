-- `damage_shared`: lemmas of std alone.
use Rattle.compose.specs.{sym, ◌∙◌, windows, part_holds, shows_at}
use Rattle.picture.proofs.DamageLaws.{damages-as, part-right}
use Rattle.compose.proofs.damaging.damage_shared.Goals as goal

pub returns : goal.returns
returns c =
    let a = c.args in
    let table = a.table.now in
    let window = (windows table).window in
    let part = c.shared_part.result in
    let e = c.shared_part.ensures in
    record {
      damaged = damages-as table.columns (part_holds part) (λ y x. shows_at window a.win.0 a.frame y x a.u.0) a.damage.now c.damage_part.new.damage
          (c.damage_part.ensures.damaged table.columns (part-right table.lines table.columns part e.within)) (λ y x below left is. e.holds y x ∙ is) (λ y x left is. sym (e.holds y x) ∙ is);
    }
