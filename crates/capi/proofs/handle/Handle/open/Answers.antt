use Rattle.std.proofs.Common.{inl}
use Rattle.capi.proofs.handle.Handle.open.Goals as goal

pub returns-in-Ok : goal.returns-in-Ok
returns-in-Ok c = inl (record { screen = c.in-Ok.c_screen.value; allowed = c.in-Ok.ensures.refused; answer_is = c.of.ensures; blank = c.in-Ok.ensures.blank; now = c.put.ensures })
