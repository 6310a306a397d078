-- What is counted of a history, when one more call was made.
use Rattle.std.specs.Prelude.{◌+◌, if◌then◌else◌}
use Rattle.desk.specs.Names.{Result, cond, is_ok, is_some, is_doupdate, Call, Reply}
use Rattle.desk.specs.Ends.{cut_of}
use Rattle.desk.specs.Histories.{cells_of_end, refuses}
use Rattle.desk.specs.declared.history.RunAllEnd.{RunAllEnd}
use Rattle.desk.specs.declared.screen.Fault.{Fault}

abbrev pub counted : RunAllEnd → Call → Result Reply Fault → RunAllEnd
counted end call made = record {
  done = end.done + cond (is_ok made) 1 0;
  refused = end.refused + cond (refuses made) 1 0;
  failed = end.failed + cond (is_some (cut_of made)) 1 0;
  composed = end.composed + cells_of_end made;
  fault = (if is_doupdate call then cut_of made else end.fault);
}
