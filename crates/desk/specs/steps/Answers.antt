-- A call's end as the log has it: an answer, or a text that was cut short.
use Rattle.desk.specs.Names.{Result, Ok, Err, Refusal, WriteFault, Reply}
use Rattle.desk.specs.declared.screen.Fault.{Fault}
use Rattle.desk.specs.declared.screen.Fault.TheVariants.{Refused, Write}

abbrev pub call_end : Result (Result Reply Refusal) WriteFault → Result Reply Fault
call_end (Ok (Ok reply)) = Ok reply
call_end (Ok (Err refusal)) = Err (Refused refusal)
call_end (Err fault) = Err (Write fault)
