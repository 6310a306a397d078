-- `unmark_composed`: windows are unmarked one after another (`Unmarking`).
use Rattle.std.specs.Prelude.{◌≡◌, ◌||◌, ◌∷◌}
use Rattle.compose.specs.{arith, Bool, ℕ, List, [], ap, sym, ◌∙◌, list_any, map, standard_screen, windows_from_top, WindowMap, Windows, asks_for_clear}
use Rattle.compose.specs.{with_unmarked, panels}
use Rattle.compose.proofs.Unmarking.{asked-first, one-unmarked, still-left}
use Rattle.compose.proofs.marks.unmark_composed.Goals as goal

more : {whole : Bool} (before first asked others : Bool) → whole ≡ (first || others) → asked ≡ first → (before || whole) ≡ ((before || asked) || others)
more before first asked others is one = grind (arith, is, one)

pub loop-win-init : goal.loop-win-init
loop-win-init g c =
    let ps = panels c.args.stack.now in
    let old = g.M.Marks.windows c.args.marks.now in
    let now = g.M.Marks.windows c.unmark-asked.new.self in
    let is : map (λ s. s.1) c.into_iter-win-iterator.result ≡ windows_from_top ps =
    ap (λ (l : List (ℕ × ℕ)). map (λ s. s.1) l) c.into_iter-win-iterator.ensures.into_iter_gives ∙ c.visible_from_top-win-items.ensures.all.windows in
    let unmarked = c.unmark-asked.ensures.unmarked ∙ ap (λ (window : WindowMap). record old { window = window }) (one-unmarked old.window standard_screen) in
    record {
      can_next = tt;
      is_finite = tt;
      asked = asked-first old.window standard_screen (windows_from_top ps)
          ∙ (λ i. sym c.unmark-asked.ensures.asked i || list_any (asks_for_clear (ap (λ (v : Windows). v.window) (sym unmarked) i)) (sym is i));
      left = still-left old now standard_screen (windows_from_top ps) unmarked
          ∙ ap (λ (left : List ℕ). record now { window = with_unmarked now.window left }) (sym is);
    }

pub loop-win-preserved : goal.loop-win-preserved
loop-win-preserved g c =
    let now = g.M.Marks.windows c.loop-win.marks in
    let new = g.M.Marks.windows c.unmark-asked-in-loop-win.new.self in
    let ws : map (λ s. s.1) c.loop-win.win-iterator ≡ c.in-Some.win.0 ∷ map (λ s. s.1) c.next.new.self = ap (λ (l : List (ℕ × ℕ)). map (λ s. s.1) l) c.in-Some.ensures.steps in
    let unmarked = c.unmark-asked-in-loop-win.ensures.unmarked ∙ ap (λ (window : WindowMap). record now { window = window }) (one-unmarked now.window c.in-Some.win.0) in
    record {
      can_next = tt;
      is_finite = tt;
      asked = c.loop-win.invariant.asked ∙ ap (λ (left : List ℕ). c.loop-win.asked || list_any (asks_for_clear now.window) left) ws
          ∙ more c.loop-win.asked (asks_for_clear now.window c.in-Some.win.0) c.unmark-asked-in-loop-win.result (list_any (asks_for_clear (with_unmarked now.window (c.in-Some.win.0 ∷ []))) (map (λ s. s.1) c.next.new.self)) (asked-first now.window c.in-Some.win.0 (map (λ s. s.1) c.next.new.self)) c.unmark-asked-in-loop-win.ensures.asked
          ∙ (λ i. (c.loop-win.asked || c.unmark-asked-in-loop-win.result) || list_any (asks_for_clear (ap (λ (v : Windows). v.window) (sym unmarked) i)) (map (λ s. s.1) c.next.new.self));
      left = c.loop-win.invariant.left
          ∙ ap (λ (left : List ℕ). record now { window = with_unmarked now.window left }) ws
          ∙ still-left now new c.in-Some.win.0 (map (λ s. s.1) c.next.new.self) unmarked;
    }
