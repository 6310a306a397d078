-- `begin`: what is known, or the opening (`Shows`).
use Rattle.paint.specs.{shown_blank}
use Rattle.cell.proofs.PictureLemmas.{HasSize-all_of}
use Rattle.paint.proofs.painter.begin.Goals as goal

pub returns-in-None-clause-gathered : goal.returns-in-None-clause-gathered
returns-in-None-clause-gathered g c = rw c.in-None.is (c.open.ensures.gathers _ _ (c.begin-in-None.ensures.nothing _))

pub returns-in-None-clause-start : goal.returns-in-None-clause-start
returns-in-None-clause-start g c = λ painter size. rw c.in-None.is (record {
  plain = c.open.ensures.plain;
  picture = c.clear.ensures painter.lines painter.columns size;
  size = rw (c.clear.ensures painter.lines painter.columns size) (HasSize-all_of shown_blank painter.lines painter.columns);
})
