-- `damage_change`: windows of two grids show nothing of one another.
use Rattle.std.specs.Prelude.{◌≡◌}
use Rattle.compose.specs.{ℕ, arith, false, sym, subst, ◌∙◌, and_parts, false_from_ne_true, Rect, WindowMap, Damages, follows_at, grid_of, shows_at, windows, part_holds, affected_shows_at, IsGridOf}
use Rattle.compose.specs.declared.damaging.Affected.{Affected}
use Rattle.grids.proofs.Shared.{shares-grid}
use Rattle.picture.proofs.DamageLaws.{damages-as, damages-none, part-right}
use Rattle.compose.proofs.damaging.damage_change.Goals as goal

apart : (window : WindowMap) (w u : ℕ) (r : Rect) (y x : ℕ) → (grid_of window u ≡ grid_of window w → ⊥) → shows_at window w r y x u ≡ false
apart window w u r y x other = false_from_ne_true (shows_at window w r y x u) (λ is. other (shares-grid window w u r _ _ (and_parts _ _ is).1))

pub returns-else-eq : goal.returns-else-eq
returns-else-eq c =
    let a = c.args in
    let table = a.table.now in
    let window = (windows table).window in
    let grid = subst (λ affected. IsGridOf window affected a.grid) c.in-Written.is c.requires.grid in
    record {
      damaged = subst (λ (affected : Affected). Damages table.columns (λ y x. affected_shows_at window affected y x a.u.0) a.damage.now a.damage.now) (sym c.in-Written.is)
          (damages-none table.columns (λ y x. shows_at window c.in-Written.win.0 c.in-Written.frame y x a.u.0) a.damage.now
          (λ y x below left. apart window c.in-Written.win.0 a.u.0 c.in-Written.frame y x (λ same. grind (arith, same, grid))));
    }

pub returns-in-Moved : goal.returns-in-Moved
returns-in-Moved c =
    let a = c.args in
    let table = a.table.now in
    let window = (windows table).window in
    let part = c.following_part.result in
    let e = c.following_part.ensures in
    record {
      damaged = subst (λ (affected : Affected). Damages table.columns (λ y x. affected_shows_at window affected y x a.u.0) a.damage.now c.damage_part.new.damage) (sym c.in-Moved.is)
          (damages-as table.columns (part_holds part) (λ y x. follows_at window c.in-Moved.win.0 y x a.u.0) a.damage.now c.damage_part.new.damage
          (c.damage_part.ensures.damaged table.columns (part-right table.lines table.columns part e.within)) (λ y x below left is. e.holds y x ∙ is) (λ y x left is. sym (e.holds y x) ∙ is));
    }
