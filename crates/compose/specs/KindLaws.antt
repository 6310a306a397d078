-- The answer of each call is of the kind that Kinds has for it, and no update_panels is refused. These are proofs, but
-- they stand here since a desk's methods cite them (`Calls for Desk`), and `desk/specs` does.
use Rattle.std.specs.Prelude.{◌≡◌, ◌∷◌}
use Rattle.compose.specs.Names.{ℕ, Bool, true, false, Option, Some, None, [], Ok, Err, inl, inr, refl, subst, sym, is_none, option_and_then, option_map, option_map_or, Glyph, Place, first_of, Refusal}
use Rattle.compose.specs.Names.{IsPad, NoSuchWindow, NotDerived, World, Backing, own_grid, part_of, Window, Windows, Change, asks, edits, marks, makes, deletes, moves, shifts, Order, changes, adds}
use Rattle.compose.specs.Names.{orders, carries, Effect, arranges, refreshes, composes, shows, colours, change_reply, effect_reply, order_reply, effect_of, is_doupdate, refusal, takes_memory}
use Rattle.compose.specs.Names.{query_refusal, query_reply, offset_of, is_own, Call, Query, Getbegyx, Getparyx, Inch, UpdatePanels, Doupdate, Reply, Nothing, Number, TwoNumbers, Cell, Flag, Panel}
use Rattle.compose.specs.Names.{Composed, Sent, IsAnswerTo, IsOfKind, kind_of, kind_of_change, kind_of_effect, kind_of_order, kind_of_query, kind_of_reply, numbers, cell}
use Rattle.world.specs.declared.call.Call.TheVariants as calls
use Rattle.compose.specs.Calling.{Called, MayRefuse, MayTell}
use Rattle.compose.specs.Desks.{DeskTable, is_damaged_line, world}

-- ---- what a call asks for is there where it isn't refused

there : (o : Option Window) → first_of ((is_none o, NoSuchWindow) ∷ []) ≡ None → is_none o ≡ false
there None h = cc
there (Some a) h = refl

mapped : {A : Type 0} (f : Window → A) (o : Option Window) → is_none o ≡ false → is_none (option_map f o) ≡ false
mapped f None h = cc
mapped f (Some a) h = refl

placed : (p : Option Place) → first_of ((false, NoSuchWindow) ∷ (is_none p, IsPad) ∷ []) ≡ None → is_none p ≡ false
placed None h = cc
placed (Some p) h = refl

on_screen : (o : Option Window) → first_of ((is_none o, NoSuchWindow) ∷ (option_map_or (λ a. is_none a.place) o false, IsPad) ∷ []) ≡ None
    → is_none (option_and_then (λ (a : Window). a.place) o) ≡ false
on_screen None h = cc
on_screen (Some a) h = placed a.place h

has_offset : (b : Backing) → first_of ((false, NoSuchWindow) ∷ (is_own b, NotDerived) ∷ []) ≡ None → is_none (offset_of b) ≡ false
has_offset (own_grid cells) h = cc
has_offset (part_of parent line column) h = refl

derived : (o : Option Window) → first_of ((is_none o, NoSuchWindow) ∷ (option_map_or (λ a. is_own a.backing) o false, NotDerived) ∷ []) ≡ None
    → is_none (option_and_then (λ (a : Window). offset_of a.backing) o) ≡ false
derived None h = cc
derived (Some a) h = has_offset a.backing h

-- ---- the kinds of answers

two_numbers : (o : Option Place) → is_none o ≡ false → IsOfKind numbers (option_map_or (λ p. TwoNumbers p.0 p.1) o Nothing)
two_numbers None some = cc
two_numbers (Some p) some = (p.0, p.1, refl)

one_cell : (o : Option Glyph) → is_none o ≡ false → IsOfKind cell (option_map_or (λ shown. Cell shown) o Nothing)
one_cell None some = cc
one_cell (Some g) some = (g, refl)

of_query : (ws : Windows) (q : Query) → query_refusal ws q ≡ None → IsOfKind (kind_of_query q) (query_reply ws q)
of_query ws (Getbegyx win) h = two_numbers _ (on_screen (ws.window win.0) h)
of_query ws (Getparyx win) h = two_numbers _ (derived (ws.window win.0) h)
of_query ws (Inch win) h = one_cell _ (mapped _ (ws.window win.0) (there (ws.window win.0) h))
of_query ws q h = two_numbers _ (mapped _ _ (there _ h))

-- ---- by effect

of_reply : (reply : Reply) → IsOfKind (kind_of_reply reply) reply
of_reply Nothing = refl
of_reply (Number win) = (win, refl)
of_reply (TwoNumbers first second) = (first, second, refl)
of_reply (Cell glyph) = (glyph, refl)
of_reply (Flag is) = (is, refl)
of_reply (Panel panel) = (panel, refl)
of_reply (Composed read) = (read, refl)
of_reply (Sent bytes) = (bytes, refl)

of_change : (change : Change) → IsOfKind (kind_of_change change) (change_reply change)
of_change (asks reply) = of_reply reply
of_change (edits edit) = refl
of_change (marks test change) = refl
of_change (makes n a) = (record { 0 = n }, refl)
of_change (deletes w) = refl
of_change (moves w place) = refl
of_change (shifts w place) = refl

of_order : (order : Order) → IsOfKind (kind_of_order order) (order_reply order)
of_order (changes change) = of_change change
of_order (adds p w) = (record { 0 = p }, refl)
of_order (orders p order) = refl
of_order (carries p place) = refl

-- its answer is the one that effect_reply has
abbrev is_answered : Effect → Bool
is_answered composes = false
is_answered shows = false
is_answered effect = true

of_effect : (effect : Effect) → is_answered effect ≡ true → IsOfKind (kind_of_effect effect) (effect_reply effect)
of_effect (arranges order) h = of_order order
of_effect (refreshes w test drawing cursor) h = refl
of_effect composes h = cc
of_effect shows h = cc
of_effect (colours p foreground background) h = refl

-- what an accepted call answers that sends nothing
pub kind-of-answer : (w : World) (damaged : ℕ → Bool) (call : Call) (reply : Reply) → is_doupdate call ≡ false → refusal w call ≡ None → MayTell w damaged call reply
    → IsOfKind (kind_of w call) reply
kind-of-answer w damaged (calls.Query query) reply other h is = subst (IsOfKind (kind_of_query query)) (sym is) (of_query w.windows query h)
kind-of-answer w damaged (calls.Refresh UpdatePanels) reply other h is = (record { cells = is.0 }, is.2)
kind-of-answer w damaged (calls.Refresh Doupdate) reply other h is = cc
kind-of-answer w damaged call reply other h is = subst (IsOfKind (kind_of w call)) (sym is) (of_effect (effect_of w call) refl)

pub answers-called : (old : DeskTable) (call : Call) (reply : Reply) (new : DeskTable) → is_doupdate call ≡ false → Called old call (Ok reply) new → IsAnswerTo call reply
answers-called old call reply new other h = (world old, kind-of-answer (world old) (is_damaged_line old) call reply other h.0 h.1)

-- ---- a call that has no test and takes no memory is never refused

pub never-refused : (w : World) (call : Call) (e : Refusal) → refusal w call ≡ None → takes_memory w call ≡ false → MayRefuse w call e → ⊥
never-refused w call e none no_memory (inl tested) = cc
never-refused w call e none no_memory (inr lacking) = let takes = lacking.1 in cc

pub composes-called : (old : DeskTable) (e : Refusal) (new : DeskTable) → Called old (calls.Refresh UpdatePanels) (Err e) new → ⊥
composes-called old e new h = never-refused (world old) (calls.Refresh UpdatePanels) e refl refl h.0
