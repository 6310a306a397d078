-- The new slot fits the table; so the table with it is sound.
use Rattle.std.specs.Prelude.{◌≡◌}
use Rattle.grids.specs.{unwrap_or, ap, sym, rules, backing_by, new_window, next_window, standard_screen, windows}
use Rattle.grids.specs.contracts.table.Grids.{the_view}
use Rattle.grids.proofs.NewWindows.{IsWindowTable-added, windows-added, placed_new}
use Rattle.grids.proofs.Sounds.{sound}
use Rattle.grids.proofs.table.Grids.add.Goals as goal

pub invariant_of-self : goal.invariant_of-self
invariant_of-self c = rw c.in_err-fill_slot_at.ensures.unchanged c.self.invariant

pub invariant_of-self-2 : goal.invariant_of-self-2
invariant_of-self-2 c =
    let a = c.args in
    let t = the_view c.self.inside in
    let slot = c.in_ok-slot in
    let fits = rw (← c.self.view_is) at c.requires in
    let made = rw (← c.self.view_is) at slot.ensures in
    let free = rw (c.deref.ensures.value, c.in_ok-number.ensures.ok_part) at c.free_number.ensures.free in
    IsWindowTable-added t c.fill_slot_at.new.slots.items c.in_ok-number.number slot.slot c.in_ok-fill_slot_at.ensures.set c.self.invariant free made.kept.0 made.kept.1
    (placed_new t.lines t.columns a.lines a.columns a.place (backing_by a.part) slot.slot made.window fits.placed)
    (made.origin c.fill_slot_at.new.slots.items c.in_ok-fill_slot_at.ensures.set)

pub returns : goal.returns
returns c = record {
  refused = search rules;
  reply = search rules;
  changed =
      let a = c.args in
      let t = the_view c.self.inside in
      let n = c.in_ok-number.number in
      let free = rw (c.deref.ensures.value, c.in_ok-number.ensures.ok_part) at c.free_number.ensures.number in
      let next : next_window (windows t) ≡ n = ap (λ o. unwrap_or o standard_screen) (sym free) in
      rw (← c.self.view_is, next)
      (windows-added t c.fill_slot_at.new.slots.items n c.in_ok-slot.slot c.in_ok-fill_slot_at.ensures.set (new_window a.lines a.columns a.place (backing_by a.part)) c.in_ok-slot.ensures.window);
  unchanged = tt;
  sound = sound _ (invariant_of-self-2 c);
}

-- what the kit tries by itself takes seconds at these, which `search` finds at once
pub returns-in_err-number : goal.returns-in_err-number
returns-in_err-number c = search rules

pub returns-in_err-slot : goal.returns-in_err-slot
returns-in_err-slot c = search rules

pub returns-in_err-fill_slot_at : goal.returns-in_err-fill_slot_at
returns-in_err-fill_slot_at c = search rules
