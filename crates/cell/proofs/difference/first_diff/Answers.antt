use Rattle.std.specs.Prelude.{◌≡◌, ◌+◌, ◌-◌}
use Rattle.cell.specs.{take, subst, arith}
use Rattle.cell.proofs.Ranges.{differs_further, same_further}
use Rattle.cell.proofs.difference.first_diff.Goals as goal

pub loop-start-preserved : goal.loop-start-preserved
loop-start-preserved c =
    let start = c.loop-start.start in
    let all : c.same_before-same.result ≡ 16 = omega (arith, c.same_before-same.ensures.within, c.if-same-lt-LANES.false) in
    record {
      within = omega arith;
      same = subst (λ k. take (start + k) c.args.old.now ≡ take (start + k) c.args.new.now) all
          (same_further _ _ start (start + 16 - start) c.same_before-same.result (omega arith) c.loop-start.invariant.same c.same_before-same.ensures.same);
    }

pub returns-then-same-lt-LANES : goal.returns-then-same-lt-LANES
returns-then-same-lt-LANES c = (
  differs_further _ _ c.loop-start.start _ c.same_before-same.result c.requires (omega arith) (omega arith) (c.same_before-same.ensures.differs (omega arith)),
  same_further _ _ c.loop-start.start _ c.same_before-same.result (omega arith) c.loop-start.invariant.same c.same_before-same.ensures.same,
)
