-- `append_first`: of a piece that is written whole the first bytes count.
use Rattle.std.specs.Prelude.{◌≡◌, ◌+◌, ◌-◌, ◌≤◌, ◌++◌}
use Rattle.ecma.specs.{ℕ, ◌∙◌, List, length, take, ap, sym, arith, take-append-add, length-take-le, take-take, take-put_mid}
use borrow.Rule.Slice.PartMut.{put_mid}
use Rattle.ecma.proofs.positions.append_first.Goals as goal

first-written : (out written piece : List ℕ) (at n count : ℕ) → written ≡ piece → length piece ≡ n → count ≤ n → at + n ≤ length out
    → take (at + count) (put_mid at n out written) ≡ take at out ++ take count piece
first-written out written piece at n count is long few room =
    let whole : take (at + n) (put_mid at n out written) ≡ take at out ++ piece =
    take-put_mid at n out written (at + n) (omega (arith, ap (length {A = ℕ}) is, long)) (omega arith) ∙ ap (λ l. take at out ++ l) is in
    sym (take-take (at + count) (at + n) (put_mid at n out written) (omega arith)) ∙ ap (take (at + count)) whole
    ∙ ap (λ k. take (k + count) (take at out ++ piece)) (sym (length-take-le at out (omega arith))) ∙ take-append-add (take at out) piece count

pub returns-clause-text : goal.returns-clause-text
returns-clause-text c =
    first-written c.args.out.now c.copy_from_slice.new.self c.args.piece.now c.args.at (c.args.at + 4 - c.args.at) c.args.count c.copy_from_slice.ensures.after (omega arith) (omega arith) (omega arith)
