-- `bytes`: one more byte of the piece (`Readings`).
use Rattle.keys.specs.{sym, ◌∙◌}
use Rattle.keys.proofs.Readings.{HasRead-none, HasRead-piece, is_none}
use Rattle.keys.proofs.decoder.Decoder.bytes.Goals as goal

pub returns-then-is_some-clause-read : goal.returns-then-is_some-clause-read
returns-then-is_some-clause-read c = λ events taken h.
    HasRead-piece events c.args.piece.now c.loop-at.at _ _ c.loop-at-test.true
    (c.byte-answer.ensures.read _ _ (c.loop-at.invariant.read events taken h))

pub loop-at-preserved : goal.loop-at-preserved
loop-at-preserved c =
    let no_first = is_none c.byte-answer.result.first (sym c.is_some.ensures ∙ c.if-is_some.false) in
    record {
      asked = c.byte-answer.ensures.asked ∙ c.loop-at.invariant.asked;
      read = λ events taken h.
          HasRead-none _ taken c.byte-answer.result _ no_first (c.byte-answer.ensures.in_order no_first)
          (HasRead-piece events c.args.piece.now c.loop-at.at _ _ c.loop-at-test.true
          (c.byte-answer.ensures.read _ _ (c.loop-at.invariant.read events taken h)));
    }
