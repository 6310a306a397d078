-- `ask`: a call that only asks leaves the desk as it was (`WriterLemmas`), and all that is known of it follows
-- (`ShowingLemmas`).
use Rattle.desk.specs.{Ok, Err, refl, err_from_is_err_and}
use Rattle.calls.proofs.AnswerKinds.{query-other}
use Rattle.desk.specs.declared.screen.Fault.TheVariants.{Refused}
use Rattle.desk.proofs.ShowingLemmas.{call-made}
use Rattle.desk.proofs.WriterLemmas.{called-ends, refused-ends}
use Rattle.desk.proofs.screen.ScreenCalls.ask.Goals as goal

pub returns : goal.returns
returns g c =
    let reply = c.in_ok-ask.field-0 in
    let made = c.in_ok-ask.ensures in
    rw (← c.self.view_is)
    (call-made g.W.Sink.seen g.W.Sink.name _ _ c.args.query.now (Ok reply) c.self.invariant.size
    (called-ends g.W.Sink.seen _ c.self.inside.desk c.args.query.now reply (query-other c.args.query.now c.requires) made) refl refl made.4)

pub returns-in_err-ask : goal.returns-in_err-ask
returns-in_err-ask g c =
    let fault = err_from_is_err_and c.from_residual.result c.from_residual.ensures.1 in
    let e = c.in_err-ask.field-0.0 in
    rw (fault.1, fault.2, ← c.self.view_is)
    (call-made g.W.Sink.seen g.W.Sink.name _ _ c.args.query.now (Err (Refused e)) c.self.invariant.size
    (refused-ends g.W.Sink.seen _ c.self.inside.desk c.args.query.now e c.in_err-ask.ensures) refl refl c.self.invariant.sound)
