-- `damage_visible`: the damage of one window after another (`Visible`).
use Rattle.std.specs.Prelude.{◌≡◌, ◌∷◌}
use Rattle.compose.specs.{ℕ, List, map, sym, ap, subst, ◌∙◌, windows_from_top, windows, panels, affected_shows_at}
use Rattle.compose.proofs.Visible.{DamagedBut, damaged-more, damaged-none}
use Rattle.compose.proofs.damaging.damage_visible.Goals as goal

pub loop-u-init : goal.loop-u-init
loop-u-init c =
    let a = c.args in
    let ps = panels a.stack.now in
    let shows = affected_shows_at (windows a.table.now).window a.affected in
    let is : map (λ s. s.1) c.into_iter-u-iterator.result ≡ windows_from_top ps =
    ap (λ (l : List (ℕ × ℕ)). map (λ s. s.1) l) c.into_iter-u-iterator.ensures.into_iter_gives ∙ c.visible_from_top-u-items.ensures.all.windows in
    record {
      can_next = tt;
      is_finite = tt;
      height = c.requires.height;
      left = subst (λ us. DamagedBut a.table.now.columns shows (windows_from_top ps) a.damage.now us a.damage.now) (sym is)
          (damaged-none a.table.now.columns shows (windows_from_top ps) a.damage.now);
    }

pub loop-u-preserved : goal.loop-u-preserved
loop-u-preserved c =
    let a = c.args in
    let ps = panels a.stack.now in
    let shows = affected_shows_at (windows a.table.now).window a.affected in
    let us : map (λ s. s.1) c.loop-u.u-iterator ≡ c.in-Some.u.0 ∷ map (λ s. s.1) c.next.new.self = ap (λ (l : List (ℕ × ℕ)). map (λ s. s.1) l) c.in-Some.ensures.steps in
    record {
      can_next = tt;
      is_finite = tt;
      height = c.damage_change.ensures.damaged.height ∙ c.loop-u.invariant.height;
      left = damaged-more a.table.now.columns shows (windows_from_top ps) a.damage.now c.in-Some.u.0 (map (λ s. s.1) c.next.new.self)
          c.loop-u.damage c.damage_change.new.damage
          (subst (λ us. DamagedBut a.table.now.columns shows (windows_from_top ps) a.damage.now us c.loop-u.damage) us c.loop-u.invariant.left)
          c.damage_change.ensures.damaged;
    }
