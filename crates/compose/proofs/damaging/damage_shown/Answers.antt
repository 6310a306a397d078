-- `damage_shown`: lemmas of std alone.
use Rattle.compose.specs.{list_any, windows_from_top, shows_at, windows, panels}
use Rattle.picture.proofs.DamageLaws.{damages-then}
use Rattle.compose.proofs.damaging.damage_shown.Goals as goal

pub returns : goal.returns
returns c =
    let a = c.args in
    let table = a.table.now in
    let window = (windows table).window in
    record {
      damaged = damages-then table.columns (λ y x. shows_at window a.win.0 a.frame y x 0)
          (λ y x. list_any (shows_at window a.win.0 a.frame y x) (windows_from_top (panels a.stack.now))) a.damage.now
          c.damage_change.new.damage c.damage_visible.new.damage c.damage_change.ensures.damaged c.damage_visible.ensures.damaged;
    }
