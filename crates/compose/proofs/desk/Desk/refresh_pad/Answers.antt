-- `refresh_pad`: the rectangle that is damaged is what the copy draws (`Padding`), which covers what the call may change (`DamageCovers`).
use Rattle.std.specs.Prelude.{◌≡◌, ◌||◌}
use Rattle.compose.specs.{rules, Ok, None, refl, Rect, refresh_refusal, Refresh, Pnoutrefresh, Nothing, windows, Called, IsDesk, DeskTable, world}
use Rattle.world.specs.declared.call.Call.TheVariants as calls
use Rattle.compose.specs.contracts.desk.Desk.{the_view}
use Rattle.compose.proofs.DamageCovers.{call-accepted}
use Rattle.compose.proofs.Padding.{pad-damages}
use Rattle.compose.proofs.RefreshedLines.{of-pad}
use Rattle.compose.proofs.desk.Desk.refresh_pad.Goals as goal

abbrev new : goal.After-self-1 → DeskTable
new c = record (the_view c.self.inside) {
  windows = c.unmark_lines.new.self;
  virtual = record { picture = c.show_rectangle.new.picture.cells; cursor = c.self.inside.cursor; clear = c.self.inside.clear || c.unmark_lines.result };
  changes = c.show_rectangle.new.picture.changes;
  damage = c.damage_part.new.damage;
}

abbrev refresh : goal.After-self-1 → Refresh
refresh c = Pnoutrefresh c.args.pad c.args.pminrow c.args.pmincol c.args.sminrow c.args.smincol c.args.smaxrow c.args.smaxcol

made : (c : goal.After-self-1) → IsDesk (new c) × Called (the_view c.self.inside) (calls.Refresh (refresh c)) (Ok Nothing) (new c)
made c =
    let a = c.args in let h = c.self.invariant in let ws = windows c.self.inside.windows.table in
    let target : Rect = record { top = a.sminrow; left = a.smincol; bottom = a.smaxrow; right = a.smaxcol } in
    let accepted : refresh_refusal (world (the_view c.self.inside)) (refresh c) ≡ None = search rules in
    let of = of-pad ws a.pad.0 a.pminrow a.pmincol a.sminrow a.smincol a.smaxrow a.smaxcol h.sound.windows accepted in
    let damaged = c.damage_part.ensures.damaged ws.columns of.on_column in
    call-accepted (the_view c.self.inside) (new c) (calls.Refresh (refresh c)) h accepted refl (search rules)
    (pad-damages ws a.pad.0 a.pminrow a.pmincol a.sminrow a.smincol a.smaxrow a.smaxcol of target refl refl refl refl
    c.self.inside.damage c.damage_part.new.damage damaged) refl c.show_rectangle.ensures.changes Nothing refl

pub invariant_of-self : goal.invariant_of-self
invariant_of-self c = (made c).0

pub returns : goal.returns
returns c = rw (← c.self.view_is) (made c).1
