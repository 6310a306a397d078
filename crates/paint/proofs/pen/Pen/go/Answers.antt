-- `go`: the strokes of a pen, one after another, and what each shows (`PenSteps`).
use Rattle.paint.specs.{sym, ◌∙◌, arith}
use Rattle.paint.proofs.PenSteps.{goes, goes-nowhere, is_at-known}
use Rattle.paint.proofs.pen.Pen.go.Goals as goal

pub returns-then-is_at-clause-draws : goal.returns-then-is_at-clause-draws
returns-then-is_at-clause-draws g c = λ picture inside. goes-nowhere _ c.args.self.now (c.args.line, c.args.column) picture (sym c.is_at.ensures ∙ c.if-is_at.true)

pub returns-then-is_at-clause-cursor : goal.returns-then-is_at-clause-cursor
returns-then-is_at-clause-cursor g c = is_at-known c.args.self.now.cursor (c.args.line, c.args.column) (sym c.is_at.ensures ∙ c.if-is_at.true)

pub returns-clause-draws : goal.returns-clause-draws
returns-clause-draws g c = λ picture inside.
    goes c.args.self.now c.put_position.new.self (c.args.line, c.args.column) picture (sym c.is_at.ensures ∙ c.if-is_at.false) (omega (arith, c.requires.line, c.requires.few))
    (omega (arith, c.requires.column, c.requires.few)) inside c.put_position.ensures.gathers c.put_position.ensures.rest
