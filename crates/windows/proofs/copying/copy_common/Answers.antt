-- The rectangle that is copied is where both windows cover the screen.
use Rattle.windows.specs.{◌∙◌, sym, rules, windows, common_cells}
use Rattle.windows.proofs.Calls.{drawn-there, drew}
use Rattle.windows.proofs.CommonParts.{common-put, common-frame}
use Rattle.windows.proofs.copying.copy_common.Goals as goal

pub returns : goal.returns
returns c =
    let a = c.args in
    let s = c.in_ok-source.ensures.state in
    let t = c.in_ok-target.ensures.state in
    let l = c.overlap-lines.ensures in
    let m = c.overlap-columns.ensures in
    let copied = rw (l.source, l.target, l.len, m.source, m.target, m.len, ← s.lines, ← s.columns, ← t.lines, ← t.columns) at c.copy_rectangle.ensures.copied in
    drew (search rules)
    (common-put (windows a.table.now) a.src.0 a.dst.0 s.window t.window _ _ s.there t.there c.in_ok-from.ensures.answer c.in_ok-to.ensures.answer a.overlay _ copied.written
    ∙ sym (drawn-there (windows a.table.now) a.dst.0 t.window (common_cells (windows a.table.now).window a.src.0 a.dst.0 a.overlay) t.there))
    (copied.frame ∙ common-frame (windows a.table.now) a.src.0 a.dst.0 s.window t.window _ _ s.there t.there c.in_ok-from.ensures.answer c.in_ok-to.ensures.answer a.overlay) (search rules)

-- what the kit tries by itself takes seconds at these, which `search` finds at once
pub returns-in_err-source : goal.returns-in_err-source
returns-in_err-source c = search rules

pub returns-in_err-target : goal.returns-in_err-target
returns-in_err-target c = search rules

pub returns-in_err-from : goal.returns-in_err-from
returns-in_err-from c = search rules

pub returns-in_err-to : goal.returns-in_err-to
returns-in_err-to c = search rules
