-- `ask`: a call that only asks leaves the desk as it was (`WindowCalls`).
use Rattle.compose.specs.{world}
use Rattle.compose.specs.contracts.desk.Desk.{the_view}
use Rattle.compose.proofs.WindowCalls.{query-made}
use Rattle.compose.proofs.desk.DeskCalls.ask.Goals as goal

pub returns : goal.returns
returns c =
    let desk = the_view c.self.inside in
    rw (← c.self.view_is) (query-made desk c.args.query.now c.answer.result c.requires c.self.invariant.sound (c.answer.ensures (world desk)))
