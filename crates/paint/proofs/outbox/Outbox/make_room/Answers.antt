-- `make_room`: what is handed on is a full outbox (`Gathering`).
use Rattle.std.specs.Prelude.{◌≤◌}
use Rattle.paint.specs.{length, arith, full_outbox}
use Rattle.paint.proofs.Gathering.{gathered-on}
use Rattle.paint.proofs.outbox.Outbox.make_room.Goals as goal

pub returns-then-remaining_capacity-more-clause-gathers : goal.returns-then-remaining_capacity-more-clause-gathers
returns-then-remaining_capacity-more-clause-gathers g c =
    let large : full_outbox ≤ length c.args.self.now.room = grind arith in gathered-on c.hand_on.ensures.empty large c.hand_on.ensures.goes_out c.hand_on.ensures.once
