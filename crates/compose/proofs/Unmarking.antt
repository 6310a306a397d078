-- Windows are unmarked one after another.
use Rattle.std.specs.Prelude.{◌≡◌, ◌||◌, ◌==◌, if◌then◌else◌, ◌∷◌}
use Rattle.compose.specs.{ℕ, Bool, false, Option, List, [], arith, refl, cases_eq, option_map, list_any, Window, WindowMap, Windows, with_change, asks_for_clear, without_marks, with_unmarked}
use mathlib.Core.Path.{fun_ext}

twice : (first others : Bool) (o : Option Window)
    → (if first || others then option_map without_marks o else o)
    ≡ (if others then option_map without_marks (if first || false then option_map without_marks o else o) else (if first || false then option_map without_marks o else o))
twice first others o = grind arith

-- the first one, and then the others
pub unmarked-first : (window : WindowMap) (w : ℕ) (ws : List ℕ) → with_unmarked window (w ∷ ws) ≡ with_unmarked (with_unmarked window (w ∷ [])) ws
unmarked-first window w ws = fun_ext (λ u. twice (w == u) (list_any (λ v. v == u) ws) (window u))

-- the same of all windows, after the first one was
pub still-left : (old new : Windows) (w : ℕ) (ws : List ℕ) → new ≡ record old { window = with_unmarked old.window (w ∷ []) }
    → record old { window = with_unmarked old.window (w ∷ ws) } ≡ record new { window = with_unmarked new.window ws }
still-left old new w ws is = grind (arith, unmarked-first)

-- the first one, as one window that changed
marked : (window : WindowMap) (w u : ℕ) → with_change window w without_marks u ≡ with_unmarked window (w ∷ []) u
marked window w u = grind (arith, cases_eq)

pub one-unmarked : (window : WindowMap) (w : ℕ) → with_change window w without_marks ≡ with_unmarked window (w ∷ [])
one-unmarked window w = fun_ext (marked window w)

-- one that is unmarked asks for a clear screen no more
asks-once : (window : WindowMap) (w v : ℕ) → (asks_for_clear window w || asks_for_clear window v) ≡ (asks_for_clear window w || asks_for_clear (with_unmarked window (w ∷ [])) v)
asks-once window w v = grind (arith, cases_eq)

either : (a b c r s : Bool) → (a || b) ≡ (a || c) → (a || r) ≡ (a || s) → (a || (b || r)) ≡ (a || (c || s))
either a b c r s one rest = grind (arith, one, rest)

-- whether one of them asks for it: the first, or one of the others once that is unmarked
pub asked-first : (window : WindowMap) (w : ℕ) (ws : List ℕ) → list_any (asks_for_clear window) (w ∷ ws)
    ≡ (asks_for_clear window w || list_any (asks_for_clear (with_unmarked window (w ∷ []))) ws)
asked-first window w [] = refl
asked-first window w (v ∷ ws) =
    either (asks_for_clear window w) (asks_for_clear window v) (asks_for_clear (with_unmarked window (w ∷ [])) v) (list_any (asks_for_clear window) ws)
    (list_any (asks_for_clear (with_unmarked window (w ∷ []))) ws) (asks-once window w v) (asked-first window w ws)
