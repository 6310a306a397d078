-- `arrange`: a call on panels leaves a desk as its relation says (`Arranging`).
use Rattle.compose.specs.contracts.desk.Desk.{the_view}
use Rattle.compose.proofs.Arranging.{order-made}
use Rattle.compose.proofs.desk.Desk.arrange.Goals as goal

pub returns : goal.returns
returns c =
    let m = c.arrange_damaging in
    rw (← c.self.view_is) (order-made (the_view c.self.inside) m.new.table m.new.stack m.new.damage c.args.stacking m.result c.self.invariant m.ensures).1

pub invariant_of-self : goal.invariant_of-self
invariant_of-self c =
    let m = c.arrange_damaging in
    (order-made (the_view c.self.inside) m.new.table m.new.stack m.new.damage c.args.stacking m.result c.self.invariant m.ensures).0
