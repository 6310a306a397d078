-- What is touched of a window, passed on from window to window.
use Rattle.std.specs.Prelude.{◌≡◌, ◌≢◌, ◌+◌, ◌-◌, ◌≤◌, if◌then◌else◌, ◌==◌, ◌||◌, ◌∷◌}
use Rattle.grids.specs.{ℕ, Bool, true, false, Option, Some, None, IsSome, IsSomeAnd, [], ap, arith, refl, sym, ◌∙◌, eq-eqb, ne_eqb, zero-add, list_any, option_map, option_map_or, cases_eq, cases_lt}
use Rattle.grids.specs.{lt-ltb, le-ltb, nat_tests, part_of, GridPlace, HasPlace, Window, WindowMap, Windows, ancestors, with_change, onward, own, shows_part_of, AreSoundWindows, after_copying}
use Rattle.grids.specs.{in_line, shows_touched_of, with_touches, Syncdown, Syncup, Columns, in_parent, among, part_in_parent, shows_touched, syncing, touched_shown}
use Rattle.world.proofs.Below.{any_below-some, any_below-true}
use Rattle.world.proofs.WindowLaws.{own-onward, touched-touched}
use Rattle.grids.specs.declared.place.Place.{Place}
use Rattle.grids.specs.declared.slot.Part.{Part}
use Rattle.grids.proofs.Chain.{from_parent, no_parent, some_of}
use Rattle.grids.proofs.Shared.{shared-in, from-shared}
use Rattle.grids.proofs.Touches.{changed-here, changed-nothing, changed-other, changed-same, changed-twice, touching-is, touching-none}
use Rattle.grids.proofs.Ancestors.{Walk, Walk-start, Walk-step, ancestors-none, ancestors-parent, part-none, part-some, sound-there}

-- ---- the test by numbers

both_ways : (s t : Bool) → (s ≡ true → t ≡ true) → (t ≡ true → s ≡ true) → s ≡ t
both_ways s t f g = grind arith

module _ (window : WindowMap) (s t : ℕ) (a : Window) (g : GridPlace) (p0 p1 q0 q1 : ℕ) (there : window s ≡ Some a)
    (leads_s : own window s 0 0 ≡ Some (onward p0 p1 g)) (leads_t : own window t 0 0 ≡ Some (onward q0 q1 g)) where
  -- on line v of the window
  in_columns : Option Columns → ℕ → ℕ → ℕ → Bool
  in_columns o v y x = option_map_or (λ r. shows_part_of window s (in_line v r) t y x) o false

  record Meets (o : Option Columns) (v y x : ℕ) : Type 0 where
    line : p0 + v ≡ q0 + y
    column : p1 ≤ q1 + x
    touched : among o (q1 + x - p1) ≡ true

  meets : (o : Option Columns) (v y x : ℕ) → in_columns o v y x ≡ true → Meets o v y x
  unfolding in_columns
  meets None v y x h = cc
  meets (Some r) v y x h = grind (arith, nat_tests, shared-in window s t (onward p0 p1 g) (onward q0 q1 g) leads_s leads_t (in_line v r) y x h)

  from-meets : (o : Option Columns) (v y x : ℕ) → Meets o v y x → in_columns o v y x ≡ true
  unfolding in_columns
  from-meets None v y x h = grind arith
  from-meets (Some r) v y x h = grind (arith, nat_tests, from-shared window s t (onward p0 p1 g) (onward q0 q1 g) leads_s leads_t (in_line v r) y x)

  pub shows-is : (y x : ℕ) → shows_touched_of window s t y x ≡ shows_touched a (q0, q1) (p0, p1) y x
  unfolding in_columns
  shows-is y x = both_ways (shows_touched_of window s t y x) (shows_touched a (q0, q1) (p0, p1) y x)
      (λ h. grind (arith, nat_tests, meets, any_below-true a.lines (λ v. in_columns (a.touched v) v y x)))
      (λ h. grind (arith, nat_tests, any_below-some a.lines (λ v. in_columns (a.touched v) v y x) (q0 + y - p0), from-meets (a.touched (q0 + y - p0)) (q0 + y - p0) y x))

-- ---- of a window and one from which it derives

module _ (windows : Windows) (w u line column : ℕ) (sound : AreSoundWindows windows) (h : Walk windows.window w u line column) where
  end : (p : GridPlace) × (own windows.window u 0 0 ≡ Some p)
  end = grind (arith, some_of, sound-there)

  leads_u : own windows.window u 0 0 ≡ Some (onward 0 0 end.0)
  leads_u = grind (arith, own-onward, end)

  leads_w : own windows.window w 0 0 ≡ Some (onward line column end.0)
  leads_w = grind (arith, zero-add, own-onward, end)

  pub shows-up : (y x : ℕ) → shows_touched_of windows.window w u y x ≡ shows_touched h.below (0, 0) (line, column) y x
  shows-up y x = shows-is windows.window w u h.below end.0 line column 0 0 h.from_is leads_w leads_u y x

  pub shows-down : (y x : ℕ) → shows_touched_of windows.window u w y x ≡ shows_touched h.above (line, column) (0, 0) y x
  shows-down y x = shows-is windows.window u w h.above end.0 0 0 line column h.at_is leads_u leads_w y x

-- ---- touching twice

touching-twice : (a : Window) (s t : ℕ → ℕ → Bool) → with_touches s (with_touches t a) ≡ with_touches (λ y x. s y x || t y x) a
touching-twice a s t = grind (arith, touching-is, cases_lt, lt-ltb, touched-touched, le-ltb)

touched-twice : (window : WindowMap) (w : ℕ) (s t : ℕ → ℕ → Bool)
    → with_change (with_change window w (with_touches t)) w (with_touches s) ≡ with_change window w (with_touches (λ y x. s y x || t y x))
touched-twice window w s t = changed-twice window w (with_touches t) (with_touches s) ∙ changed-same window w _ _ (λ a is. touching-twice a s t)

again : (o : Option Window) (t : ℕ → ℕ → Bool) → option_map (with_touches t) (option_map (with_touches t) o) ≡ option_map (with_touches t) o
again None t = refl
again (Some a) t = grind (arith, touching-twice a t t)

-- ---- what is touched doesn't change what else a window is

abbrev pub untouched : Window → Window
untouched a = record a { touched = λ y. None }

pub record SameBut (o : Option Window) (b : Window) : Type 0 where
  pub window : Window
  pub there : o ≡ Some window
  pub lines : window.lines ≡ b.lines
  pub columns : window.columns ≡ b.columns
  pub backing : window.backing ≡ b.backing

same-window : (o p : Option Window) (b : Window) → option_map untouched o ≡ option_map untouched p → p ≡ Some b → SameBut o b
same-window o p b h e = grind arith

-- ---- upwards: window u has been reached, and what is touched was passed on to it and to all on the way

pub record IsHandedTo (old cur : Windows) (w u line column : ℕ) : Type 0 where
  pub walk : Walk old.window w u line column
  pub size : cur ≡ record old { window = cur.window }
  pub same : (v : ℕ) → option_map untouched (cur.window v) ≡ option_map untouched (old.window v)
  pub source : cur.window w ≡ old.window w
  pub rest : (v : ℕ) → (if list_any (λ p. p == v) (ancestors old.window u) then option_map (with_touches (shows_touched_of old.window w v)) (cur.window v) else cur.window v)
      ≡ (after_copying old (Syncup (record { 0 = w }))).window v

-- what the reached window is
pub reached : (old cur : Windows) (w u line column : ℕ) → (walk : Walk old.window w u line column) → ((v : ℕ) → option_map untouched (cur.window v) ≡ option_map untouched (old.window v))
    → SameBut (cur.window u) walk.above
reached old cur w u line column walk same = grind (arith, same-window)

-- the next one, and which part of it the reached one is
pub record NextPart (reached : Window) (at next : Place) : Type 0 where
  pub part : Part
  pub part_is : part_in_parent reached.backing ≡ Some part
  pub is : next ≡ in_parent at part

module _ (old cur : Windows) (w : ℕ) (at : Place) (walk : Walk old.window w at.win.0 at.line at.column)
    (same : (v : ℕ) → option_map untouched (cur.window v) ≡ option_map untouched (old.window v)) where
  pub next-part : (next : Place) → IsSomeAnd (cur.window at.win.0) (λ a. Some next ≡ option_map (in_parent at) (part_in_parent a.backing)) → NextPart walk.above at next
  next-part next h = grind (arith, reached, from_parent)

  pub no-part : IsSomeAnd (cur.window at.win.0) (λ a. None ≡ option_map (in_parent at) (part_in_parent a.backing)) → part_in_parent walk.above.backing ≡ None
  no-part h = grind (arith, reached, no_parent)

-- a place of it is there
pub place-reached : (old cur : Windows) (w u line column : ℕ) → AreSoundWindows old → (walk : Walk old.window w u line column)
    → ((v : ℕ) → option_map untouched (cur.window v) ≡ option_map untouched (old.window v))
    → HasPlace cur.window u line column
place-reached old cur w u line column sound walk same = grind (arith, reached, sound-there)

pub handed-none : (windows : Windows) (w : ℕ) → IsSome (windows.window w) → IsHandedTo windows windows w w 0 0
handed-none windows w there = grind (arith, Walk-start)

module _ (old : Windows) (sound : AreSoundWindows old) (w u line column : ℕ) (part : Part) (walk : Walk old.window w u line column)
    (part_is : part_in_parent walk.above.backing ≡ Some part) where
  backing_is : walk.above.backing ≡ part_of part.parent part.line part.column
  backing_is = grind (arith, part-some)

  pub next-walk : Walk old.window w part.parent (line + part.line) (column + part.column)
  next-walk = Walk-step old w u line column part sound walk backing_is

  pub next-ancestors : ancestors old.window u ≡ part.parent ∷ ancestors old.window part.parent
  next-ancestors = grind (arith, ancestors-parent, backing_is, sound-there)

  -- one window further up
  module _ (cur next : Windows) (h : IsHandedTo old cur w u line column) (other : part.parent ≢ w)
      (step : next ≡ record cur { window = with_change cur.window part.parent (with_touches (touched_shown cur.window w (0, 0) (line + part.line, column + part.column))) }) where
    test : ℕ → ℕ → Bool
    test = touched_shown cur.window w (0, 0) (line + part.line, column + part.column)

    test-is : test ≡ shows_touched_of old.window w part.parent
    unfolding test
    test-is = grind (arith, next-walk, shows-up)

    next_at : (v : ℕ) → next.window v ≡ with_change cur.window part.parent (with_touches test) v
    unfolding test
    next_at v = grind arith

    pub handed-on : IsHandedTo old next w part.parent (line + part.line) (column + part.column)
    unfolding test
    handed-on = grind (arith, next-walk, next_at, changed-other, next-ancestors, cases_eq, changed-here, test-is, eq-eqb, again, ne_eqb)

-- ---- at the last window

pub handed-all : (old cur : Windows) (w u line column : ℕ) → (h : IsHandedTo old cur w u line column) → part_in_parent h.walk.above.backing ≡ None → cur ≡ after_copying old (Syncup (record { 0 = w }))
handed-all old cur w u line column h last = grind (arith, part-none, ancestors-none)

-- ---- taken down: what is touched of window u and of all on the way was taken

pub record IsTakenFrom (old cur : Windows) (w u line column : ℕ) : Type 0 where
  pub walk : Walk old.window w u line column
  pub size : cur ≡ record old { window = cur.window }
  pub same : (v : ℕ) → option_map untouched (cur.window v) ≡ option_map untouched (old.window v)
  pub others : (v : ℕ) → v ≢ w → cur.window v ≡ old.window v
  pub rest : with_change cur.window w (with_touches (λ y x. list_any (λ v. shows_touched_of old.window v w y x) (ancestors old.window u))) ≡ (after_copying old (Syncdown (record { 0 = w }))).window

pub taken-none : (windows : Windows) (w : ℕ) → IsSome (windows.window w) → IsTakenFrom windows windows w w 0 0
taken-none windows w there = grind (arith, Walk-start)

module _ (old : Windows) (sound : AreSoundWindows old) (w u line column : ℕ) (part : Part) (walk : Walk old.window w u line column)
    (part_is : part_in_parent walk.above.backing ≡ Some part) (cur next : Windows) (h : IsTakenFrom old cur w u line column) (other : part.parent ≢ w)
    (step : next ≡ record cur { window = with_change cur.window w (with_touches (touched_shown cur.window part.parent (line + part.line, column + part.column) (0, 0))) }) where
  taken : ℕ → ℕ → Bool
  taken = touched_shown cur.window part.parent (line + part.line, column + part.column) (0, 0)

  further-walk : Walk old.window w part.parent (line + part.line) (column + part.column)
  further-walk = next-walk old sound w u line column part walk part_is

  taken-is : taken ≡ shows_touched_of old.window part.parent w
  unfolding taken further-walk
  taken-is = grind (arith, further-walk, shows-down)

  further : ℕ → ℕ → Bool
  further y x = list_any (λ v. shows_touched_of old.window v w y x) (ancestors old.window part.parent)

  of_any : ℕ → ℕ → Bool
  of_any y x = list_any (λ v. shows_touched_of old.window v w y x) (ancestors old.window u)

  all-further : (λ (y x : ℕ). further y x || taken y x) ≡ of_any
  unfolding further of_any
  all-further = grind (arith, taken-is, next-ancestors old sound w u line column part walk part_is)

  taken_at : next.window ≡ with_change cur.window w (with_touches taken)
  unfolding taken
  taken_at = grind arith

  taken-rest : with_change next.window w (with_touches further) ≡ (after_copying old (Syncdown (record { 0 = w }))).window
  unfolding of_any
  taken-rest = ap (λ (ws : WindowMap). with_change ws w (with_touches further)) taken_at ∙ touched-twice cur.window w further taken
      ∙ ap (λ (t : ℕ → ℕ → Bool). with_change cur.window w (with_touches t)) all-further ∙ h.rest

  pub taken-on : IsTakenFrom old next w part.parent (line + part.line) (column + part.column)
  unfolding taken further further-walk
  taken-on = record { walk = further-walk; size = grind (arith, taken_at); same = λ v. grind (arith, taken_at); others = λ v apart. grind (arith, taken_at, ne_eqb); rest = taken-rest }

touched-nowhere : (window : WindowMap) (w : ℕ) (t : ℕ → ℕ → Bool) → ((y x : ℕ) → t y x ≡ false) → with_change window w (with_touches t) ≡ window
touched-nowhere window w t h = changed-nothing window w (with_touches t) (λ a is. touching-none a t (λ y x below on. h y x))

pub taken-all : (old cur : Windows) (w u line column : ℕ) → (h : IsTakenFrom old cur w u line column) → part_in_parent h.walk.above.backing ≡ None → cur
    ≡ after_copying old (Syncdown (record { 0 = w }))
taken-all old cur w u line column h last =
    let none : ancestors old.window u ≡ [] = grind (arith, part-none, ancestors-none) in
    h.size ∙ ap (λ (ws : WindowMap). record old { window = ws }) (sym (touched-nowhere cur.window w _ (λ y x. ap (list_any (λ v. shows_touched_of old.window v w y x)) none)) ∙ h.rest)

-- ---- upwards or downwards

abbrev pub IsSynced : Bool → Windows → Windows → ℕ → Place → Type 0
IsSynced false old cur w at = IsHandedTo old cur w at.win.0 at.line at.column
IsSynced true old cur w at = IsTakenFrom old cur w at.win.0 at.line at.column

-- the walk came to a place of a window, and windows differ in what is touched of them
pub record HasCome (old cur : Windows) (w : ℕ) (at : Place) : Type 0 where
  pub walk : Walk old.window w at.win.0 at.line at.column
  pub same : (v : ℕ) → option_map untouched (cur.window v) ≡ option_map untouched (old.window v)

pub has-come : (down : Bool) (old cur : Windows) (w : ℕ) (at : Place) → IsSynced down old cur w at → HasCome old cur w at
has-come false old cur w at h = record { walk = h.walk; same = h.same }
has-come true old cur w at h = record { walk = h.walk; same = h.same }

pub synced-none : (down : Bool) (windows : Windows) (w : ℕ) → IsSome (windows.window w) → IsSynced down windows windows w (record { win = record { 0 = w }; line = 0; column = 0 })
synced-none false windows w there = handed-none windows w there
synced-none true windows w there = taken-none windows w there

-- what is touched was passed on to an ancestor, whose first place of the window is this one, or taken from it
abbrev passed : Bool → Windows → ℕ → Place → Windows
passed false cur w at = record cur { window = with_change cur.window at.win.0 (with_touches (touched_shown cur.window w (0, 0) (at.line, at.column))) }
passed true cur w at = record cur { window = with_change cur.window w (with_touches (touched_shown cur.window at.win.0 (at.line, at.column) (0, 0))) }

pub synced-on : (down : Bool) (old : Windows) → AreSoundWindows old → (w : ℕ) (at next : Place) (cur new : Windows) → IsSynced down old cur w at
    → IsSomeAnd (cur.window at.win.0) (λ a. Some next ≡ option_map (in_parent at) (part_in_parent a.backing)) → next.win.0 ≢ w → new ≡ passed down cur w next → IsSynced down old new w next
synced-on false old sound w at next cur new h there other is =
    let on = next-part old cur w at h.walk h.same next there in
    rw on.is (handed-on old sound w at.win.0 at.line at.column on.part h.walk on.part_is cur new h (rw on.is at other) (rw on.is at is))
synced-on true old sound w at next cur new h there other is =
    let on = next-part old cur w at h.walk h.same next there in
    rw on.is (taken-on old sound w at.win.0 at.line at.column on.part h.walk on.part_is cur new h (rw on.is at other) (rw on.is at is))

pub synced-all : (down : Bool) (old cur : Windows) (w : ℕ) (at : Place) → IsSynced down old cur w at
    → IsSomeAnd (cur.window at.win.0) (λ a. None ≡ option_map (in_parent at) (part_in_parent a.backing)) → cur ≡ after_copying old (syncing down (record { 0 = w }))
synced-all false old cur w at h last = handed-all old cur w at.win.0 at.line at.column h (no-part old cur w at h.walk h.same last)
synced-all true old cur w at h last = taken-all old cur w at.win.0 at.line at.column h (no-part old cur w at h.walk h.same last)
