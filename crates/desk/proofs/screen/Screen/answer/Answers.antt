-- `answer`: what is known of the call.
use Rattle.desk.proofs.screen.Screen.answer.Goals as goal

pub returns-in-Err-Refused : goal.returns-in-Err-Refused
returns-in-Err-Refused g c = rw c.in-Err-Refused.field-0-is at c.in-Err-Refused.ensures

pub returns-in-Err-Write : goal.returns-in-Err-Write
returns-in-Err-Write g c = rw c.in-Err-Write.field-0-is at c.in-Err-Write.ensures
