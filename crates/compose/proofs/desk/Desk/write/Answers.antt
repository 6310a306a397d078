-- `write`: a call on windows leaves a desk as its relation says (`WindowCalls`).
use Rattle.compose.specs.{refl}
use Rattle.world.specs.declared.call.Call.TheVariants as calls
use Rattle.compose.specs.contracts.desk.Desk.{the_view}
use Rattle.compose.proofs.WindowCalls.{change-made}
use Rattle.compose.proofs.desk.Desk.write.Goals as goal

pub returns : goal.returns
returns c =
    let m = c.write_damaging in
    rw (← c.self.view_is)
    (change-made (the_view c.self.inside) m.new.windows.table m.new.damage (calls.Writing c.args.writing) _ c.self.invariant refl m.result m.ensures refl m.ensures.call.reply (λ left. left)).1

pub invariant_of-self : goal.invariant_of-self
invariant_of-self c =
    let m = c.write_damaging in
    (change-made (the_view c.self.inside) m.new.windows.table m.new.damage (calls.Writing c.args.writing) _ c.self.invariant refl m.result m.ensures refl m.ensures.call.reply (λ left. left)).0
