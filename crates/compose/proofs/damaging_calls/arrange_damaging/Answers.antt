-- `arrange_damaging`: a call on panels, made on a desk: the world after it, and what it damaged (`Arranging`); what a call on panels damages: the
-- part of the panel that it names, as it was, and that of the panel that it changed or made, as it is (`Parting`).
use Rattle.std.specs.Prelude.{◌≡◌}
use Rattle.compose.specs.{ℕ, true, false, ap, sym, ◌∙◌, arith, panels_after, stacking_order, windows, panels, part_holds, top_window, Rearranges}
use Rattle.picture.proofs.DamageLaws.{damages-as, damages-none, damages-then, part-right}
use Rattle.compose.proofs.Arranging.{panels-ordered, size-ordered}
use Rattle.compose.proofs.Parting.{order_stays, part-within, stacking-parts, stays-where-same, unseen-where-same}
use Rattle.compose.proofs.damaging_calls.arrange_damaging.Goals as goal

pub part_of-after-requires : goal.part_of-after-requires
unfolding Rearranges
part_of-after-requires c = panels-ordered c.args.table.now c.args.stack.now c.args.stacking _ c.arrange.new.table c.arrange.new.stack c.requires.panels c.in_ok-reply.ensures

pub damage_part-requires-2 : goal.damage_part-requires-2
unfolding Rearranges
damage_part-requires-2 c =
    let t = c.args.table.now in
    let damaged = c.damage_part.ensures.damaged t.columns (part-right t.lines t.columns c.part_of-before.result c.part_of-before.ensures.within) in
    let inside = c.part_of-after.ensures.within in grind (arith, damaged, inside, size-ordered, part-within)

pub returns : goal.returns
unfolding Rearranges
returns c =
    let a = c.args in let t = a.table.now in let new = c.arrange.new.table in let ps = panels a.stack.now in
    let before = c.part_of-before.result in let after = c.part_of-after.result in let order = stacking_order ps a.stacking in
    let size = size-ordered _ t a.stack.now a.stacking c.arrange.result new _ c.arrange.ensures in
    let are : panels c.arrange.new.stack ≡ panels_after ps order = c.in_ok-reply.ensures.arranged in
    let moves : order_stays ps order ≡ false =
    sym (stays-where-same ps c.args.stacking c.top_window-top.result c.top_window.result (c.top_window-top.ensures ∙ ap (top_window ps) c.ordered_panel-ordered.ensures)
    (c.top_window.ensures ∙ (λ i. top_window (are i) (c.ordered_panel-ordered.ensures i)))) ∙ sym c.is_same_window.ensures ∙ c.if-is_same_window.false in
    let shows = λ (y x : ℕ).
    stacking-parts (windows t) (windows new) ps (panels c.arrange.new.stack) a.stacking _ _ _ (part_holds before y x) (part_holds after y x) y x c.requires.panels c.in_ok-reply.ensures.changed are
    moves c.in_ok-reply.ensures.reply c.named_panel.ensures c.changed_panel.ensures (c.part_of-before.ensures.holds y x) (c.part_of-after.ensures.holds y x) in
    let first = c.damage_part.ensures.damaged t.columns (part-right t.lines t.columns before c.part_of-before.ensures.within) in
    let second = c.damage_part-2.ensures.damaged t.columns (rw (← size.columns) (part-right new.lines new.columns after c.part_of-after.ensures.within)) in
    let both = damages-then t.columns (part_holds before) (part_holds after) a.damage.now c.damage_part.new.damage c.damage_part-2.new.damage first second in
    let damaged = damages-as t.columns _ _ a.damage.now _ both (λ y x below left shown. sym (shows y x) ∙ shown) (λ y x left held. shows y x ∙ held) in
    record { call = c.in_ok-reply.ensures; damaged = damaged; undamaged = tt }

-- where the panel stays on top, no place is affected
pub returns-then-is_same_window : goal.returns-then-is_same_window
unfolding Rearranges
returns-then-is_same_window c =
    let ws = windows c.args.table.now in
    let ps = panels c.args.stack.now in
    let order = stacking_order ps c.args.stacking in
    let are : panels c.arrange.new.stack ≡ panels_after ps order = c.in_ok-reply.ensures.arranged in
    let stays : order_stays ps order ≡ true =
    sym (stays-where-same ps c.args.stacking c.top_window-top.result c.top_window.result (c.top_window-top.ensures ∙ ap (top_window ps) c.ordered_panel-ordered.ensures)
    (c.top_window.ensures ∙ (λ i. top_window (are i) (c.ordered_panel-ordered.ensures i)))) ∙ sym c.is_same_window.ensures ∙ c.if-is_same_window.true in
    record { call = c.in_ok-reply.ensures; damaged = damages-none _ _ _ (λ y x below left. unseen-where-same ws ps order y x stays); undamaged = tt }
