-- What C gets for an answer to a call.
use Rattle.std.specs.Prelude.{◌+◌, ◌*◌, ℕ, true, false, Some, None, Result, Ok, Err}
use Rattle.cell.specs.declared.refusal.Refusal.{Refusal}
use Rattle.cell.specs.declared.refusal.Refusal.TheVariants as refusals
use Rattle.cell.specs.declared.attr.Attr.{Attr}
use Rattle.world.specs.declared.call.Reply.{Reply}
use Rattle.world.specs.declared.call.Reply.TheVariants as replies
use Rattle.desk.specs.declared.screen.Fault.{Fault}
use Rattle.desk.specs.declared.screen.Fault.TheVariants as faults
use Rattle.capi.specs.declared.answer.Answer.{Answer}

abbrev pub write_failed : ℕ
write_failed = 21

abbrev pub closed : Answer
closed = record { status = 22; first = 0; second = 0 }

-- the number of a refusal, as in the log
abbrev pub number_of : Refusal → ℕ
number_of refusals.NoSuchWindow = 1
number_of refusals.NoSuchPanel = 2
number_of refusals.OffScreen = 3
number_of refusals.OutsideParent = 4
number_of refusals.OutsideWindow = 5
number_of refusals.HasDerived = 6
number_of refusals.InPanel = 7
number_of refusals.IsPad = 8
number_of refusals.NotPad = 9
number_of refusals.NotDerived = 10
number_of refusals.BadSize = 11
number_of refusals.BadRegion = 12
number_of refusals.BadCharacter = 13
number_of refusals.StandardScreen = 14
number_of refusals.Hidden = 15
number_of refusals.ScrollingOff = 16
number_of refusals.TooMany = 17
number_of refusals.NoMemory = 18
number_of refusals.BadRectangle = 19
number_of refusals.BadPair = 20

abbrev pub ok : ℕ → ℕ → Answer
ok first second = record { status = 0; first = first; second = second }

abbrev pub of_reply : Reply → Answer
of_reply replies.Nothing = ok 0 0
of_reply (replies.Number win) = ok win.0 0
of_reply (replies.TwoNumbers y x) = ok y x
of_reply (replies.Cell cell) = ok (65536 * cell.pair + 256 * cell.attributes + cell.character) 0
of_reply (replies.Flag true) = ok 1 0
of_reply (replies.Flag false) = ok 0 0
of_reply (replies.Panel None) = ok 0 0
of_reply (replies.Panel (Some panel)) = ok panel.0 0
of_reply (replies.Composed composed) = ok composed.cells 0
of_reply (replies.Sent sent) = ok sent.bytes 0

abbrev pub of_end : Result Reply Fault → Answer
of_end (Ok reply) = of_reply reply
of_end (Err (faults.Refused refusal)) = record { status = number_of refusal; first = 0; second = 0 }
of_end (Err (faults.Write fault)) = record { status = write_failed; first = fault.sent; second = 0 }

-- the set of some bits
abbrev pub attrs_of : ℕ → Attr
attrs_of bits = record { 0 = bits }
