-- One slot is changed, and its window stays in its place.
use Rattle.grids.specs.{refl, window_of}
use Rattle.grids.proofs.Changes.{IsWindowTable-stays, changed_by, depth-kept, line-kept, windows-changed}
use Rattle.grids.proofs.Sounds.{sound}
use Rattle.grids.proofs.table.Grids.change.Goals as goal

pub invariant_of-self : goal.invariant_of-self
invariant_of-self g c =
    let h = c.change_slot.ensures in
    let stays = c.requires.stays h.before _ h.after h.changed in
    IsWindowTable-stays c.self.invariant (changed_by {change = λ a. window_of h.after} h refl stays.0) stays.1

pub returns-clause-windows : goal.returns-clause-windows
returns-clause-windows g c = λ f is.
    let h = c.change_slot.ensures in
    rw (← c.self.view_is) (windows-changed c.self.invariant (changed_by {change = f} h (is h.before _ h.after h.changed) (c.requires.stays h.before _ h.after h.changed).0))

pub returns-clause-line : goal.returns-clause-line
returns-clause-line g c = λ y right there.
    let h = c.change_slot.ensures in
    let stays = c.requires.stays h.before _ h.after h.changed in
    let kept = line-kept c.self.invariant (changed_by {change = λ a. window_of h.after} h refl stays.0) stays.1 y right (rw (← c.self.view_is) at there) in
    rw (← c.self.view_is) (rw h.was kept)

pub returns-clause-depths : goal.returns-clause-depths
returns-clause-depths g c = λ u.
    let h = c.change_slot.ensures in
    let stays = c.requires.stays h.before _ h.after h.changed in
    rw (← c.self.view_is) (depth-kept c.self.invariant (changed_by {change = λ a. window_of h.after} h refl stays.0) u)

pub returns-clause-sound : goal.returns-clause-sound
returns-clause-sound g c = sound _ (invariant_of-self g c)
