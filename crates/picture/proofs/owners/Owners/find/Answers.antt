-- Each panel from the top down takes the columns that it holds and no panel above it does.
use Rattle.std.specs.Prelude.{◌≡◌, ◌∷◌}
use Rattle.picture.specs.{ℕ, Option, Some, List, [], true, map, subst, ◌∙◌, arith, MatchOption, ⊤, AllByRecursion, recursion_from_All, is_no_pad, panels}
use Rattle.picture.proofs.OwnerLaws.{AreLaid, laid-first, laid-next}
use Rattle.picture.proofs.Searching.{once-from}
use Rattle.stack.proofs.DistinctNumbers.{each-reverse}
use Rattle.picture.proofs.owners.Owners.find.Goals as goal

-- what holds of the windows of panels, if they have one, holds of these
each-shown : (P : ℕ → Type 0) (window : ℕ → Option ℕ) (shown : List (ℕ × ℕ)) → AllByRecursion (λ s. window s.0 ≡ Some s.1) shown
    → AllByRecursion (λ p. MatchOption (window p) ⊤ P) (map (λ s. s.0) shown) → AllByRecursion (λ s. (window s.0 ≡ Some s.1) × P s.1) shown
each-shown P window [] has each = tt
each-shown P window (s ∷ shown) has each = ((has.0, subst (λ (o : Option ℕ). MatchOption o ⊤ P) has.0 each.0), each-shown P window shown has.1 each.1)

pub loop-panel-init : goal.loop-panel-init
loop-panel-init g c =
    let ws = g.R.Rows.windows c.args.rows.now in
    let ps = panels c.args.stack.now in
    let is = c.into_iter-panel-iterator.ensures.into_iter_gives in
    let all = c.visible_from_top-panel-items.ensures.all in
    let no_pads = each-reverse (λ p. MatchOption (ps.window p) ⊤ (λ w. is_no_pad ws.window w ≡ true)) ps.visible
    (recursion_from_All (λ p. MatchOption (ps.window p) ⊤ (λ w. is_no_pad ws.window w ≡ true)) ps.visible c.requires.panels) in
    let b = c.begin.ensures in
    record {
      can_next = tt;
      is_finite = tt;
      there = rw is (each-shown (λ w. is_no_pad ws.window w ≡ true) ps.window _ all.each (rw all.numbers no_pads));
      top = b.top;
      begun = omega (arith, b.bottom);
      laid = rw (is, all.numbers) (laid-first ws.window ps c.begin.new.self b.inside b.none b.left b.right (once-from ps.visible c.visible_from_top-panel-items.ensures.sound.once));
    }

pub loop-panel-preserved : goal.loop-panel-preserved
loop-panel-preserved g c =
    let ws = g.R.Rows.windows c.args.rows.now in
    let ps = panels c.args.stack.now in
    let p = c.in-Some.panel.0 in
    let rest = c.next.new.self in
    let h = c.loop-panel.invariant in
    let there = rw c.in-Some.ensures.steps at h.there in
    let now : AreLaid ws.window ps (p ∷ map (λ s. s.0) rest) c.loop-panel.self = rw c.in-Some.ensures.steps at h.laid in
    let e = c.lay.ensures in
    record {
      can_next = tt;
      is_finite = tt;
      there = there.1;
      top = e.top ∙ h.top;
      begun = e.bottom;
      laid = laid-next ws.window ps c.args.y p c.in-Some.win.0 c.rect.result (map (λ s. s.0) rest) c.loop-panel.self c.lay.new.self now h.top there.0.0 c.rect.ensures.holds
          e.inside e.top e.fewer e.same e.owned e.laid;
    }
