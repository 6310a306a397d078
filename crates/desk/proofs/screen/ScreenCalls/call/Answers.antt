-- `call`: what it changes is among the changes (`StateLemmas`), and all that is known of a call follows from how it ended (`ShowingLemmas`,
-- `WriterLemmas`).
use Rattle.std.specs.Prelude.{◌≡◌}
use Rattle.desk.specs.{Ok, Err, false, rules, refl, err_from_is_err_and, is_doupdate}
use Rattle.compose.proofs.DeskLemmas.{sound-called}
use Rattle.desk.specs.declared.screen.Fault.TheVariants.{Refused}
use Rattle.desk.proofs.ShowingLemmas.{call-made}
use Rattle.desk.proofs.StateLemmas.{screen-called}
use Rattle.desk.proofs.WriterLemmas.{called-ends, refused-ends}
use Rattle.desk.proofs.screen.ScreenCalls.call.Goals as goal

pub invariant_of-self : goal.invariant_of-self
invariant_of-self g c = screen-called c.self.inside.desk c.call.new.self c.args.call.now c.call.result c.self.inside.painter c.call.ensures c.self.invariant

pub invariant_of-self-in_default : goal.invariant_of-self-in_default
invariant_of-self-in_default g c = screen-called c.self.inside.desk c.call.new.self c.args.call.now c.call.result c.self.inside.painter c.call.ensures c.self.invariant

pub returns-in_ok-call-in_default : goal.returns-in_ok-call-in_default
returns-in_ok-call-in_default g c =
    let other : is_doupdate c.args.call.now ≡ false = search rules in
    let reply = c.in_ok-call-in_default.field-0 in
    let made = c.in_ok-call-in_default.ensures in
    rw (← c.self.view_is)
    (call-made g.W.Sink.seen g.W.Sink.name _ _ c.args.call.now (Ok reply) c.self.invariant.size (called-ends g.W.Sink.seen _ c.call.new.self c.args.call.now reply other made) refl refl made.4)

pub returns-in_err-call-in_default : goal.returns-in_err-call-in_default
returns-in_err-call-in_default g c =
    let fault = err_from_is_err_and c.from_residual-in_err-call-in_default.result c.from_residual-in_err-call-in_default.ensures.1 in
    let e = c.in_err-call-in_default.field-0.0 in
    let made = c.in_err-call-in_default.ensures in
    rw (fault.1, fault.2, ← c.self.view_is)
    (call-made g.W.Sink.seen g.W.Sink.name _ _ c.args.call.now (Err (Refused e)) c.self.invariant.size (refused-ends g.W.Sink.seen _ c.call.new.self c.args.call.now e made) refl refl
    (sound-called c.self.inside.desk c.call.new.self c.args.call.now (Err e) c.self.invariant.sound made))
