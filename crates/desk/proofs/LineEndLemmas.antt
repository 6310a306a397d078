-- How a line of a script ends.
use Rattle.std.specs.Prelude.{◌≡◌, ◌∷◌}
use Rattle.desk.specs.{arith, ℕ, [], Bool, true, false, Option, None, Some, Ok, Err, Result, is_err, is_ok, not, refl, sym, ◌∙◌, Appends-nil, or-false, count_after, Seen, is_doupdate, CallEnds}
use Rattle.desk.specs.{call_end, TextFault, log_line, LineEnds, LineSays, Logs, StopsAt, log_failed, Call, Refresh, Doupdate, Reply, Refusal, WriteFault, ScreenOver, placeless, ScriptFault, Write}
use Rattle.desk.proofs.MakesLemmas.{Makes-nothing, Makes-one}
use Rattle.desk.specs.declared.screen.Fault.{Fault}
use Rattle.desk.specs.declared.screen.Fault.TheVariants.{Write as Cut}

the_doupdate : (call : Call) → is_doupdate call ≡ true → call ≡ Refresh Doupdate
the_doupdate (Refresh Doupdate) h = refl
the_doupdate call h = cc

refused_is : (answer : Result Reply Refusal) (r : Bool) → r ≡ is_err answer → r ≡ not (is_ok answer)
refused_is answer r e = grind arith

module _ {W : Type 0} (seen : W → Seen) where
  -- A call of a script is the call that its line says, wherever its text lies.
  pub placeless_ends : (old : ScreenOver W) (call : Call) (r : Result Reply Fault) (new : ScreenOver W) → CallEnds seen old call r new → CallEnds seen old (placeless call) r new
  placeless_ends old call r new h = grind arith

  -- No call was made.
  pub line_without_call : {old new : ScreenOver W} {n : ℕ} {said : Result (Option Call) TextFault} {log : Seen} (fault : Option ScriptFault) → LineSays n said None fault → StopsAt seen old fault new
      → Logs log log [] fault → log.failures ≡ count_after (log_failed fault) log.failures → LineEnds seen old new n said log log (record { refused = false; fault = fault })
  line_without_call {old} fault says stop logs failures = record {
    call = None;
    outcomes = [];
    at_stop = old;
    makes = Makes-nothing seen old;
    says = says;
    stop = stop;
    logs = logs;
    failures = failures;
    flushes = refl;
    refused = refl;
  }

  -- A call was made, and not cut short.
  pub line_of_call : {old new : ScreenOver W} {n : ℕ} {said : Result (Option Call) TextFault} {log written : Seen} {r : Bool} (call : Call) (answer : Result Reply Refusal) (fault : Option ScriptFault)
      → LineSays n said (Some call) fault → StopsAt seen new fault new → CallEnds seen old call (call_end (Ok answer)) new → r ≡ is_err answer
      → Logs log written (log_line n answer ∷ []) fault → written.failures ≡ count_after (log_failed fault) log.failures → written.flushes ≡ log.flushes
      → LineEnds seen old new n said log written (record { refused = r; fault = fault })
  line_of_call {old} {new} {r} call answer fault says stop h e logs failures flushes = let made = Makes-one seen old new call answer h in record {
    call = Some call;
    outcomes = record { answer = answer; sent = made.0 } ∷ [];
    at_stop = new;
    makes = made.1;
    says = says;
    stop = stop;
    logs = logs;
    failures = failures;
    flushes = flushes;
    refused = refused_is answer r e ∙ sym (or-false _);
  }

  pub line_is_cut : (old new : ScreenOver W) (n : ℕ) (log : Seen) (call : Call) (fault : WriteFault) → CallEnds seen old call (Err (Cut fault)) new
      → LineEnds seen old new n (Ok (Some call)) log log (record { refused = false; fault = Some (Write n fault) })
  line_is_cut old new n log call fault a = grind (arith, line_without_call, the_doupdate, Appends-nil)
