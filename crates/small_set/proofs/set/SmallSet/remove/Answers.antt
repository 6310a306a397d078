-- `remove`: one bit of a word is cleared, and that of the word where it has no number left (`Words`).
use Rattle.std.proofs.Common.{◌∙◌, ◌/◌, ◌<◌, arith, length-set}
use Rattle.small_set.proofs.Words.{contains-removed, numbers-emptied, numbers-left}
use Rattle.small_set.proofs.set.SmallSet.remove.Goals.{then-word-eq0, else-word-eq0}
use Rattle.small_set.proofs.set.SmallSet.remove.Goals as goal

pub returns : goal.returns
returns c n = elim c.if-word-eq0.branch [
  | then-word-eq0 w ↦ rw w.self-inside-is (grind (arith, contains-removed))
  | else-word-eq0 w ↦ rw w.self-inside-is (grind (arith, contains-removed))
]

pub invariant_of-self : goal.invariant_of-self
invariant_of-self c =
    let words = c.self.inside.words in
    let some = c.self.inside.some in
    let within : c.args.number / 64 < 16 = omega (arith, c.requires) in
    elim c.if-word-eq0.branch [
      | then-word-eq0 w ↦ rw w.self-inside-is (
        length-set _ _ _ ∙ c.self.invariant.0,
        rw (c.from.ensures, c.from-2.ensures) (numbers-emptied words some (c.args.number / 64) c.self.invariant.0 within c.self.invariant.1 _ (rw c.from.ensures at w.if-word-eq0.true)),
      )
      | else-word-eq0 w ↦ rw w.self-inside-is (
        length-set _ _ _ ∙ c.self.invariant.0,
        rw (c.from.ensures, c.from-2.ensures) (numbers-left words some (c.args.number / 64) c.self.invariant.0 within c.self.invariant.1 _ (rw c.from.ensures at w.if-word-eq0.false)),
      )
    ]
