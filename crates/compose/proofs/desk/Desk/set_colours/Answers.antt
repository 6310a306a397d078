-- `set_colours`: the whole screen is damaged, which covers what the call may change (`DamageCovers`).
use Rattle.std.specs.Prelude.{◌<◌}
use Rattle.compose.specs.{rules, true, Ok, refl, subst, ◌∙◌, Call, InitPair, Nothing, windows as windows_of, part_holds, Called, IsDesk, DeskTable}
use Rattle.world.specs.declared.call.Call.TheVariants as calls
use Rattle.picture.proofs.DamageLaws.{damages-as, part-right}
use Rattle.picture.proofs.Standard.{standard-holds}
use Rattle.compose.specs.contracts.desk.Desk.{the_view}
use Rattle.extents.proofs.Changing.{changes-none}
use Rattle.compose.proofs.DamageCovers.{call-accepted}
use Rattle.compose.proofs.desk.Desk.set_colours.Goals as goal

abbrev new : goal.After-damage_part → DeskTable
new c = record (the_view c.self.inside) { pairs = c.set.new.self; damage = c.damage_part.new.damage }

abbrev call : goal.After-damage_part → Call
call c = calls.Refresh (InitPair c.args.pair c.args.foreground c.args.background)

made : (c : goal.After-damage_part) → IsDesk (new c) × Called (the_view c.self.inside) (call c) (Ok Nothing) (new c)
made c =
    let d = c.self.inside in let h = c.self.invariant in let t = d.windows.table in let part = c.window_part-part.result in let is = c.window_part-part.ensures in
    call-accepted (the_view d) (new c) (call c) h (search rules) refl (search rules)
    (damages-as t.columns (part_holds part) (λ y x. true) d.damage c.damage_part.new.damage (c.damage_part.ensures.damaged t.columns (part-right t.lines t.columns part is.within))
    (λ y x below inside shown. is.holds y x ∙ standard-holds (windows_of t) y x h.sound.windows (subst (λ n. y < n) h.covered.height below) inside)
    (λ y x left held. refl)) refl (changes-none d.picture.changes d.picture.cells) Nothing refl

pub invariant_of-self : goal.invariant_of-self
invariant_of-self c = (made c).0

pub returns : goal.returns
returns c = rw (← c.self.view_is) (made c).1
