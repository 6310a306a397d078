-- Each round comes to the next ancestor: it touches that one, or takes from it what is touched of it.
use Rattle.std.specs.Prelude.{◌<◌}
use Rattle.grids.specs.{true, false, arith, ap, windows, depth_at}
use Rattle.grids.proofs.Syncs.{has-come, place-reached, synced-all, synced-none, synced-on}
use Rattle.grids.proofs.table.Grids.sync.Goals as goal

pub loop-next-init : goal.loop-next-init
loop-next-init c =
    let a = c.args in
    rw c.first_of-at.ensures (record { so_far = synced-none a.down (windows a.self.now) a.win c.requires; depth = omega arith })

pub place_above-requires : goal.place_above-requires
place_above-requires c =
    let old = windows c.args.self.now in
    let cur = windows c.loop-next.self in
    let at = c.loop-next.at in
    let come = has-come c.args.down old cur c.args.win at c.loop-next.invariant.so_far in
    place-reached old cur c.args.win at.win.0 at.line at.column c.has_window.ensures.sound come.walk come.same

pub loop-next-preserved-then-down : goal.loop-next-preserved-then-down
loop-next-preserved-then-down c =
    let a = c.args in
    let l = c.loop-next in
    let depths = c.touch_shown.ensures.depths in
    let deeper : depth_at l.self.slots c.in-Some.next.win.0 < depth_at l.self.slots l.at.win.0 = c.in-Some.ensures.depth in
    record {
      so_far = rw c.if-down.true
          (synced-on true (windows a.self.now) c.has_window.ensures.sound a.win l.at c.in-Some.next (windows l.self) (windows c.touch_shown.new.self) (rw c.if-down.true at l.invariant.so_far)
          c.in-Some.ensures.next (λ e. let same = ap (depth_at l.self.slots) e in omega (arith, same, deeper, l.invariant.depth)) c.touch_shown.ensures.touched);
      depth = omega (arith, depths c.in-Some.next.win.0, depths a.win, deeper, l.invariant.depth);
    }

pub loop-next-preserved : goal.loop-next-preserved
loop-next-preserved c =
    let a = c.args in
    let l = c.loop-next in
    let touched = c.touch_shown-else-down in
    let depths = touched.ensures.depths in
    let deeper : depth_at l.self.slots c.in-Some.next.win.0 < depth_at l.self.slots l.at.win.0 = c.in-Some.ensures.depth in
    record {
      so_far = rw c.if-down.false
          (synced-on false (windows a.self.now) c.has_window.ensures.sound a.win l.at c.in-Some.next (windows l.self) (windows touched.new.self) (rw c.if-down.false at l.invariant.so_far)
          c.in-Some.ensures.next (λ e. let same = ap (depth_at l.self.slots) e in omega (arith, same, deeper, l.invariant.depth)) touched.ensures.touched);
      depth = omega (arith, depths c.in-Some.next.win.0, depths a.win, deeper, l.invariant.depth);
    }

pub returns : goal.returns
returns c = synced-all c.args.down (windows c.args.self.now) (windows c.loop-next.self) c.args.win c.loop-next.at c.loop-next.invariant.so_far c.in_default.ensures.next
