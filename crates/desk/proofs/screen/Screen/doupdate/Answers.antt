-- `doupdate`: all that is known of a call follows from how it ended (`ShowingLemmas`).
use Rattle.desk.specs.{rules, Ok, Err, Refresh, Doupdate, Sent, world}
use Rattle.desk.specs.declared.screen.Fault.TheVariants.{Write}
use Rattle.desk.proofs.ShowingLemmas.{call-made}
use Rattle.desk.proofs.StateLemmas.{sound-taken}
use Rattle.desk.proofs.screen.Screen.doupdate.Goals as goal

pub invariant_of-self : goal.invariant_of-self
invariant_of-self g c = record {
  sound = rw c.mark_taken.ensures (sound-taken (world c.self.inside.desk) c.self.invariant.sound);
  size = search rules;
  changed = search rules;
}

pub returns-in-Ok : goal.returns-in-Ok
returns-in-Ok g c =
    rw (← c.self.view_is)
    (call-made g.W.Sink.seen g.W.Sink.name _ _ (Refresh Doupdate) (Ok (Sent c.in-Ok.sent)) c.self.invariant.size (search rules) (search rules) (search rules)
    (rw c.mark_taken.ensures (sound-taken (world c.self.inside.desk) c.self.invariant.sound)))

pub returns-in-Err : goal.returns-in-Err
returns-in-Err g c =
    rw (← c.self.view_is)
    (call-made g.W.Sink.seen g.W.Sink.name _ _ (Refresh Doupdate) (Err (Write c.in-Err.fault)) c.self.invariant.size (search rules) (search rules) (search rules) c.self.invariant.sound)
