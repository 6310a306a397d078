use Rattle.std.specs.Prelude.{◌+◌, ◌<◌}
use Rattle.compose.specs.{subst, arith, MatchOption, length, ⊤, IsFrameWithin}
use Rattle.picture.proofs.DamageLaws.{damages-rectangle}
use Rattle.compose.proofs.damaging.damage_part.Goals as goal

pub returns-in-Some : goal.returns-in-Some
returns-in-Some c = record {
  damaged = λ columns inside.
      let rect = c.in-Some.rect in
      let h = c.rectangle.ensures in
      let within = subst (λ part. MatchOption part ⊤ (λ r. IsFrameWithin (length c.args.damage.now) (r.right + 1) r)) c.in-Some.is c.requires in
      rw c.in-Some.is (damages-rectangle columns rect c.args.damage.now c.rectangle.new.self h.height h.each (let o = within.ordered in omega (arith, o))
      (subst (λ part. MatchOption part ⊤ (λ r. r.right < columns)) c.in-Some.is inside));
}
