-- How it ended is what the screen answered.
use Rattle.std.proofs.Common.{Err, Ok, rules}
use Rattle.capi.proofs.c_screen.CScreen.fill.Goals as goal

pub returns-in-Ok : goal.returns-in-Ok
returns-in-Ok c = record { end = Ok tt; given = search rules; rest = search rules; answer_is = search rules }

pub returns-in-Err : goal.returns-in-Err
returns-in-Err c = record { end = Err c.in-Err.refusal; given = search rules; rest = search rules; answer_is = search rules }
