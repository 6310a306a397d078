-- `send_update`: the strokes of an update make a text of a doupdate (`Holding`).
use Rattle.paint.specs.{ShownPicture}
use Rattle.paint.proofs.Holding.{holds-start}
use Rattle.paint.proofs.painter.send_update.Goals as goal

pub returns-clause-text : goal.returns-clause-text
returns-clause-text g c = λ painter clear start lines columns gathered begun.
    let wanted : ShownPicture = record { picture = c.args.update.now.wanted.now; cursor = c.args.cursor } in
    c.send_text.ensures.text painter clear wanted start (holds-start painter clear wanted lines columns c.args.update.now.sound c.requires gathered begun c.paint.ensures.draws c.end.ensures.draws c.end.ensures.plain)
