-- Which cells windows show after a call: those that it wrote, and else those that were there.
use Rattle.std.specs.Prelude.{◌≡◌, ◌<◌, if◌then◌else◌, ◌==◌, ◌||◌}
use Rattle.world.specs.{ℕ, false, Option, Some, None, IsSome, arith, refl, ap, subst, sym, ◌∙◌, MatchOption, ⊤, option_map, cases_eq, eqb-false, eqb-true, ne_eqb, or_parts, Glyph, blank, Place}
use Rattle.world.specs.{Drawing, GridPlace, HasPlace, IsWrite, Window, WindowMap, Windows, cell_at, cell_in_grid, cell_of, derives, own, put, put_from}
use Rattle.world.specs.{put_windows, touched_by, unwritten, window_limit, with_window, AreSoundWindows, IsSound, World, Covers, IsFrameOf, Panels, Change, after_change, asks, edits, marks, makes}
use Rattle.world.specs.{deletes, moves, shifts, Edit, after_edit, edit_drawing, edit_frame, edit_window, Effect, after, arranges, refreshes, composes, shows, colours, effect_frame, changes, adds}
use Rattle.world.specs.{orders, carries, shifted_to, effect_of, refusal, has_derived, Writes, WritesAt, leads_elsewhere, leads_elsewhere_by, windows_after_call}
use Rattle.world.proofs.Allowed.{IsAllowed}
use Rattle.world.proofs.AncestorLaws.{own-beside, replaced-off}
use Rattle.world.proofs.CallLaws.{IsReady, ready}
use Rattle.world.proofs.EditLaws.{differ-cells, edit-draws, frame-edit}
use Rattle.world.proofs.FrameLaws.{frame-same, frame_of-is}
use Rattle.world.proofs.MoveLaws.{leading-some, no-part, underived}
use Rattle.world.proofs.ViewLaws.{backing_of, cell_at-same, own-same}
use Rattle.world.proofs.WindowLaws.{own-ends, own-put, put-keeps, put-takes}
use Rattle.world.proofs.WritingLaws.{view-edit}
use Rattle.world.specs.declared.call.Call.{Call}

-- ---- an edit

edited-cell : (windows : Windows) (edit : Edit) (u v z : ℕ)
    → cell_at (after_edit windows edit).window u v z ≡ cell_at (put_windows windows.window (edit_window edit) (edit_drawing windows edit)) u v z
edited-cell windows edit u v z = cell_at-same _ _ (differ-cells _ _ (edit-draws windows edit)).backings u v z

module _ (windows : Windows) (sound : AreSoundWindows windows) where
  -- a window that is there has a place where its (0, 0) leads
  has-origin : (w : ℕ) (a : Window) → windows.window w ≡ Some a → IsSome (own windows.window w 0 0)
  has-origin w a is = let each = sound.each w in grind arith

  put-shows : (w y x : ℕ) (f : Drawing) (glyph : Glyph) (u v z : ℕ) (o : Option Window) (p : Option GridPlace) → windows.window w ≡ o → own windows.window w 0 0 ≡ p
      → HasPlace windows.window w y x → f y x ≡ Some glyph → own windows.window u v z ≡ own windows.window w y x → cell_at (put_windows windows.window w f) u v z ≡ glyph
  put-shows w y x f glyph u v z None p is origin place cell leads = let place : ⊥ = rw is at place in absurd place
  put-shows w y x f glyph u v z (Some a) None is origin place cell leads = let some : IsSome (own windows.window w 0 0) = has-origin w a is in grind arith
  put-shows w y x f glyph u v z (Some a) (Some p) is origin place cell leads = let inside : (y < a.lines) × (x < a.columns) = rw is at place in
      put-takes windows.window w a p f y x glyph u v z is origin inside.0 inside.1 cell leads

  put-touches : (w u : ℕ) (f : Drawing) (o : Option Window) (p : Option GridPlace) → windows.window w ≡ o → own windows.window w 0 0 ≡ p
      → option_map (λ a. a.touched) (put_from windows.window w o p f u) ≡ option_map (λ a. if u == w then touched_by f a else a.touched) (windows.window u)
  put-touches w u f None p is origin = grind (arith, cases_eq, eqb-true, ne_eqb)
  put-touches w u f (Some a) None is origin = let some : IsSome (own windows.window w 0 0) = has-origin w a is in grind arith
  put-touches w u f (Some a) (Some p) is origin = grind arith

  put-leaves : (w u : ℕ) (f : Drawing) → option_map unwritten (put_windows windows.window w f u) ≡ option_map unwritten (windows.window u)
  put-leaves w u f = grind arith

  edited-takes : (edit : Edit) (w y x : ℕ) (glyph : Glyph) (u v z : ℕ) → edit_window edit ≡ w → HasPlace windows.window w y x → edit_drawing windows edit y x ≡ Some glyph
      → own windows.window u v z ≡ own windows.window w y x → cell_at (after_edit windows edit).window u v z ≡ glyph
  edited-takes edit w y x glyph u v z same place cell leads =
      edited-cell windows edit u v z ∙ rw same (put-shows w y x (edit_drawing windows edit) glyph u v z _ _ refl refl place cell leads)

edited-keeps : (windows : Windows) (edit : Edit) (u v z : ℕ)
    → ((y x : ℕ) → HasPlace windows.window (edit_window edit) y x → IsSome (edit_drawing windows edit y x) → own windows.window (edit_window edit) y x ≡ own windows.window u v z → ⊥)
    → cell_at (after_edit windows edit).window u v z ≡ cell_at windows.window u v z
edited-keeps windows edit u v z apart = edited-cell windows edit u v z ∙ put-keeps windows.window (edit_window edit) (edit_drawing windows edit) u v z apart

-- ---- a write

pub is-write : (windows : Windows) (w : ℕ) (f : Drawing) → AreSoundWindows windows → IsWrite windows.window (put windows w f).window w f
is-write windows w f sound = record {
  written = λ y x glyph u v z. put-shows windows sound w y x f glyph u v z _ _ refl refl;
  kept = put-keeps windows.window w f;
  leads = own-put windows.window w f;
  touched = λ u. put-touches windows sound w u f _ _ refl refl;
  rest = λ u. put-leaves windows sound w u f;
}

-- ---- what changes no grid

-- windows whose cells are where they were
module _ (new old : WindowMap) (same : (u : ℕ) → backing_of (new u) ≡ backing_of (old u)) where
  by-backings : (u v z : ℕ) → cell_at new u v z ≡ cell_in_grid old (own new u v z)
  by-backings u v z = cell_at-same new old same u v z ∙ ap (cell_in_grid old) (sym (own-same new old same u v z))

-- a new window's own grid is blank
abbrev IsBlank : Window → Type 0
IsBlank a = (y x : ℕ) → cell_of a.backing y x ≡ blank

abbrev StartsBlank : Change → Type 0
StartsBlank (makes n o) = MatchOption o ⊤ IsBlank
StartsBlank change = ⊤

grid-made : (window : WindowMap) (n : ℕ) (o : Option Window) (p : Option GridPlace) → window n ≡ None → MatchOption o ⊤ IsBlank → cell_in_grid (with_window window n o) p ≡ cell_in_grid window p
grid-made window n o p free new = grind (arith, eqb-true)

grid-deleted : (window : WindowMap) (w u v z : ℕ) (p : Option GridPlace) → own (with_window window w None) u v z ≡ p
    → cell_in_grid (with_window window w None) p ≡ cell_in_grid window p
grid-deleted window w u v z None leads = refl
grid-deleted window w u v z (Some p) leads = let ends = own-ends window_limit (with_window window w None) u v z p leads in grind arith

grid-shifted : (windows : Windows) (w y x : ℕ) (p : Option GridPlace) → cell_in_grid (shifted_to windows w (y, x)).window p ≡ cell_in_grid windows.window p
grid-shifted windows w y x p = grind arith

-- ---- where nothing was written, what was in the grid is shown

abbrev Apart : Windows → Effect → Option GridPlace → Type 0
Apart windows effect p = (w y x : ℕ) (glyph : Glyph) → WritesAt windows effect w y x glyph → own windows.window w y x ≡ p → ⊥

module _ (u v z : ℕ) where
  abbrev Keeps : WindowMap → WindowMap → Type 0
  Keeps new old = cell_at new u v z ≡ cell_in_grid old (own new u v z)

  edit-keeps : (windows : Windows) (edit : Edit) → Apart windows (arranges (changes (edits edit))) (own (after_edit windows edit).window u v z) → Keeps (after_edit windows edit).window windows.window
  edit-keeps windows edit apart = edited-keeps windows edit u v z (λ y x place some leads. unwritten y x place leads _ refl some) ∙ ap (cell_in_grid windows.window) (sym same)
    where
      same : own (after_edit windows edit).window u v z ≡ own windows.window u v z
      same = (view-edit windows edit).places u v z

      unwritten : (y x : ℕ) → HasPlace windows.window (edit_window edit) y x → own windows.window (edit_window edit) y x ≡ own windows.window u v z
          → (o : Option Glyph) → edit_drawing windows edit y x ≡ o → IsSome o → ⊥
      unwritten y x place leads None is some = cc
      unwritten y x place leads (Some glyph) is some =
          apart (edit_window edit) y x glyph (record { edit = edit; is = refl; window = refl; place = place; cell = is }) (leads ∙ sym same)

  change-keeps : (windows : Windows) (panels : Panels) (change : Change) → IsAllowed windows panels change → StartsBlank change
      → Apart windows (arranges (changes change)) (own (after_change windows change).window u v z) → Keeps (after_change windows change).window windows.window
  change-keeps windows panels (asks reply) allowed blank apart = refl
  change-keeps windows panels (edits edit) allowed blank apart = edit-keeps windows edit apart
  change-keeps windows panels (marks test change) allowed blank apart = by-backings _ windows.window (λ w. grind arith) u v z
  change-keeps windows panels (makes n o) allowed blank apart = grid-made windows.window n o _ allowed blank
  change-keeps windows panels (deletes w) allowed blank apart = grid-deleted windows.window w u v z _ refl
  change-keeps windows panels (moves w place) allowed blank apart = by-backings _ windows.window (λ w. grind arith) u v z
  change-keeps windows panels (shifts w place) allowed blank apart = grid-shifted windows w place.0 place.1 _

  effect-keeps : (world : World) (effect : Effect) → IsReady world effect → ((change : Change) → effect ≡ arranges (changes change) → StartsBlank change)
      → Apart world.windows effect (own (after world effect).windows.window u v z) → Keeps (after world effect).windows.window world.windows.window
  effect-keeps world (arranges (changes change)) ready blank apart = change-keeps world.windows world.panels change ready (blank change refl) apart
  effect-keeps world (arranges (adds p w)) ready blank apart = refl
  effect-keeps world (arranges (orders p order)) ready blank apart = refl
  effect-keeps world (arranges (carries p place)) ready blank apart = by-backings _ world.windows.window (λ w. grind arith) u v z
  effect-keeps world (refreshes w test drawing cursor) ready blank apart = by-backings _ world.windows.window (λ w. grind arith) u v z
  effect-keeps world composes ready blank apart = by-backings _ world.windows.window (λ w. grind arith) u v z
  effect-keeps world shows ready blank apart = refl
  effect-keeps world (colours pair foreground background) ready blank apart = refl

-- ---- where places lead

own-missing : (window : WindowMap) (u y x : ℕ) → window u ≡ None → own window u y x ≡ None
unfolding window_limit
own-missing window u y x missing = grind arith

module _ (windows : Windows) (sound : AreSoundWindows windows) (u v z : ℕ) where
  abbrev Leads : WindowMap → Type 0
  Leads new = own new u v z ≡ own windows.window u v z

  -- a window that is there derives from no number that is free
  lead-made : (n : ℕ) (o : Option Window) → windows.window n ≡ None → (u == n) ≡ false → (a : Option Window) → windows.window u ≡ a → Leads (with_window windows.window n o)
  lead-made n o free other None is = grind (arith, own-missing)
  lead-made n o free other (Some a) is =
      own-beside (with_window windows.window n o) windows.window n (replaced-off windows.window n o) u v z (eqb-false u n other)
      (leading-some windows.window n free u _ refl (has-origin windows sound u a is))

  lead-deleted : (w : ℕ) → has_derived windows.window w ≡ false → (u == w) ≡ false → Leads (with_window windows.window w None)
  lead-deleted w none other =
      own-beside (with_window windows.window w None) windows.window w (replaced-off windows.window w None) u v z (eqb-false u w other)
      (underived windows.window w (no-part windows w sound none) window_limit u)

  lead-shifted : (w : ℕ) (place : Place) → (u == w || derives windows.window w u) ≡ false → Leads (shifted_to windows w place).window
  lead-shifted w place other =
      let apart = or_parts _ _ other in
      own-beside (shifted_to windows w place).window windows.window w (λ t off. grind (arith, ne_eqb)) u v z (eqb-false u w apart.0) apart.1

  change-leads : (panels : Panels) (change : Change) → IsAllowed windows panels change → leads_elsewhere_by windows change u ≡ false → Leads (after_change windows change).window
  change-leads panels (asks reply) allowed other = refl
  change-leads panels (edits edit) allowed other = (view-edit windows edit).places u v z
  change-leads panels (marks test change) allowed other = own-same _ windows.window (λ w. grind arith) u v z
  change-leads panels (makes n o) allowed other = lead-made n o allowed other _ refl
  change-leads panels (deletes w) allowed other = lead-deleted w allowed.2 other
  change-leads panels (moves w place) allowed other = own-same _ windows.window (λ w. grind arith) u v z
  change-leads panels (shifts w place) allowed other = lead-shifted w place other

effect-leads : (world : World) (effect : Effect) (u v z : ℕ) → IsSound world → IsReady world effect → leads_elsewhere world.windows effect u ≡ false
    → own (after world effect).windows.window u v z ≡ own world.windows.window u v z
effect-leads world (arranges (changes change)) u v z sound ready other = change-leads world.windows sound.windows u v z world.panels change ready other
effect-leads world (arranges (adds p w)) u v z sound ready other = refl
effect-leads world (arranges (orders p order)) u v z sound ready other = refl
effect-leads world (arranges (carries p place)) u v z sound ready other = own-same _ world.windows.window (λ w. grind arith) u v z
effect-leads world (refreshes w test drawing cursor) u v z sound ready other = own-same _ world.windows.window (λ w. grind arith) u v z
effect-leads world composes u v z sound ready other = own-same _ world.windows.window (λ w. grind arith) u v z
effect-leads world shows u v z sound ready other = refl
effect-leads world (colours pair foreground background) u v z sound ready other = refl

-- ---- of a call

module _ (world : World) (call : Call) where
  pub call-takes : (w y x : ℕ) (glyph : Glyph) (u v z : ℕ) → IsSound world → WritesAt world.windows (effect_of world call) w y x glyph
      → own (windows_after_call world call) u v z ≡ own world.windows.window w y x → cell_at (windows_after_call world call) u v z ≡ glyph
  call-takes w y x glyph u v z sound at leads =
      let P : WindowMap → Type 0 = λ new. own new u v z ≡ own world.windows.window w y x → cell_at new u v z ≡ glyph in
      subst P (ap (λ (effect : Effect). (after world effect).windows.window) (sym at.is))
      (λ led. edited-takes world.windows sound.windows at.edit w y x glyph u v z at.window at.place at.cell (sym ((view-edit world.windows at.edit).places u v z) ∙ led)) leads

  starts-blank : (change : Change) → effect_of world call ≡ arranges (changes change) → StartsBlank change
  starts-blank change is = grind arith

  module _ (sound : IsSound world) (accepted : refusal world call ≡ None) where
    pub call-keeps : (u v z : ℕ) → Apart world.windows (effect_of world call) (own (windows_after_call world call) u v z)
        → cell_at (windows_after_call world call) u v z ≡ cell_in_grid world.windows.window (own (windows_after_call world call) u v z)
    call-keeps u v z apart = effect-keeps u v z world (effect_of world call) (ready world call accepted) starts-blank apart

    pub call-leads : (u v z : ℕ) → leads_elsewhere world.windows (effect_of world call) u ≡ false → own (windows_after_call world call) u v z ≡ own world.windows.window u v z
    call-leads u v z other = effect-leads world (effect_of world call) u v z sound (ready world call accepted) other

-- ---- the frame

module _ (windows : Windows) (edit : Edit) (a : Window) (there : windows.window (edit_window edit) ≡ Some a) (y x : ℕ) where
  covers-written : Covers (edit_drawing windows edit) a.columns a.lines y x → (o : Option Glyph) → edit_drawing windows edit y x ≡ o → Writes windows (arranges (changes (edits edit))) y x
  covers-written covers None is = grind arith
  covers-written covers (Some glyph) is = (edit_window edit, glyph, record { edit = edit; is = refl; window = refl; place = rw there (covers.below, covers.left); cell = is })

  written-covers : Writes windows (arranges (changes (edits edit))) y x → Covers (edit_drawing windows edit) a.columns a.lines y x
  written-covers written = grind arith

edit-written : (windows : Windows) (edit : Edit) (o : Option Window) → windows.window (edit_window edit) ≡ o → IsFrameOf (Writes windows (arranges (changes (edits edit)))) (edit_frame windows edit)
edit-written windows edit None is = grind (arith, frame-edit)
edit-written windows edit (Some a) is =
    rw (frame-edit windows edit, is)
    (frame-same (Covers (edit_drawing windows edit) a.columns a.lines) _ _ (λ y x covers. covers-written windows edit a is y x covers _ refl)
    (λ y x written. written-covers windows edit a is y x written)
    (frame_of-is a (edit_drawing windows edit)))

nothing-written : (windows : Windows) (effect : Effect) → ((edit : Edit) → effect ≡ arranges (changes (edits edit)) → ⊥) → IsFrameOf (Writes windows effect) None
nothing-written windows effect other = λ y x written. other written.2.edit written.2.is

pub effect-written : (windows : Windows) (effect : Effect) → IsFrameOf (Writes windows effect) (effect_frame windows effect)
effect-written windows (arranges (changes (edits edit))) = edit-written windows edit _ refl
effect-written windows (arranges (changes change)) = nothing-written windows _ (λ edit is. cc)
effect-written windows (arranges order) = nothing-written windows _ (λ edit is. cc)
effect-written windows effect = nothing-written windows _ (λ edit is. cc)
