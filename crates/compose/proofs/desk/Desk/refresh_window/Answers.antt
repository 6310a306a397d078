-- `refresh_window`: damage covers what the call may change (`DamageCovers`).
use Rattle.std.specs.Prelude.{◌||◌}
use Rattle.compose.specs.{rules, Ok, refl, Call, Noutrefresh, Nothing, Called, IsDesk, DeskTable, world}
use Rattle.world.specs.declared.call.Call.TheVariants as calls
use Rattle.compose.specs.contracts.desk.Desk.{the_view}
use Rattle.compose.proofs.DamageCovers.{call-accepted}
use Rattle.compose.proofs.desk.Desk.refresh_window.Goals as goal

abbrev new : goal.After-self-2-1 → DeskTable
new c = record (the_view c.self.inside) {
  windows = c.unmark.new.self;
  virtual = record { picture = c.show_touched.new.picture.cells; cursor = c.cursor_on_screen-self-inside.result; clear = c.self.inside.clear || c.unmark.result };
  changes = c.show_touched.new.picture.changes;
  damage = c.show_touched.new.damage;
}

abbrev call : goal.After-self-2-1 → Call
call c = calls.Refresh (Noutrefresh c.args.win)

made : (c : goal.After-self-2-1) → IsDesk (new c) × Called (the_view c.self.inside) (call c) (Ok Nothing) (new c)
made c =
    call-accepted (the_view c.self.inside) (new c) (call c) c.self.invariant (search rules) refl
    (λ i. record (world (the_view c.self.inside)) {
      windows = c.unmark.ensures.unmarked i;
      virtual = record { picture = c.show_touched.ensures.shown i; cursor = c.cursor_on_screen-self-inside.ensures i; clear = c.self.inside.clear || c.unmark.ensures.asked i };
    }) c.show_touched.ensures.damaged refl c.show_touched.ensures.changes Nothing refl

pub invariant_of-self : goal.invariant_of-self
invariant_of-self c = (made c).0

pub returns : goal.returns
returns c = rw (← c.self.view_is) (made c).1
