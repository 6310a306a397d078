-- What a terminal shows after a run of calls: the theorem of the screen.
use Rattle.std.specs.Prelude.{◌≡◌, ◌<◌, ◌∷◌, ◌++◌}
use Rattle.desk.specs.Names.{ℕ, List, [], Option, Some, None, Appends, no_rendition, HasSize, shown_at, World, picture, topmost_cursor, Terminal, Leads, LeadsWithBreaks, showing, Seen, Agrees}
use Rattle.desk.specs.Names.{WriteFault, world, Call, Refresh, UpdatePanels, Doupdate}
use Rattle.desk.specs.States.{ScreenOver}

-- the calls end in doupdate
abbrev pub EndsInDoupdate : List Call → Type 0
EndsInDoupdate calls = (others : List Call) × (calls ≡ others ++ Refresh Doupdate ∷ [])

-- the terminal shows the virtual screen
abbrev pub showing_virtual : World → Terminal
showing_virtual world = showing world.virtual.picture world.virtual.cursor

-- the calls end in update_panels and doupdate
abbrev pub EndsInUpdate : List Call → Type 0
EndsInUpdate calls = (others : List Call) × (calls ≡ others ++ Refresh UpdatePanels ∷ Refresh Doupdate ∷ [])

-- The terminal shows in every cell what a search from the top visible panel down to the standard screen finds, and the
-- topmost's cursor; it prints with the empty rendition.
pub record ShowsWorld (world : World) (t : Terminal) : Type 0 where
  pub size : HasSize world.windows.lines world.windows.columns t.picture
  pub cells : (y x : ℕ) → y < world.windows.lines → x < world.windows.columns → shown_at t.picture (y, x) ≡ picture world y x
  pub cursor : t.cursor ≡ Some (topmost_cursor world)
  pub rendition : t.rendition ≡ no_rendition

-- A statement of each stream that agrees with the painter, and of each terminal of the size that it is sent to.
abbrev pub AfterAgreeing : {W : Type 0} → ScreenOver W → (List ℕ → Terminal → Type 0) → Type 0
AfterAgreeing screen P = (stream : List ℕ) (t : Terminal) → HasSize screen.desk.windows.lines screen.desk.windows.columns t.picture → Agrees screen.painter stream t
    → P stream t

-- A statement of each terminal of the size, where the painter knows nothing, as that of a screen just made.
abbrev pub OnAny : {W : Type 0} → ScreenOver W → (Terminal → Type 0) → Type 0
OnAny screen P = screen.painter.last ≡ None → (t : Terminal) → HasSize screen.desk.windows.lines screen.desk.windows.columns t.picture → P t

module _ {W : Type 0} (seen : W → Seen) where
  -- The writer took these bytes in a run of calls. All that was sent before, if it agreed with the painter, agrees with
  -- it again when the bytes follow, also where a write failed. Where the calls end in doupdate, and no write failed,
  -- all of it shows the virtual screen, and where they end in update_panels and doupdate, the world after the run; and
  -- if the painter knew nothing, then these bytes alone show it on any terminal.
  pub record RunShows (old new : ScreenOver W) (calls : List Call) (fault : Option WriteFault) : Type 0 where
    pub bytes : List ℕ
    pub taken : Appends (seen old.writer).taken (seen new.writer).taken bytes
    pub agrees : AfterAgreeing old (λ stream t. Agrees new.painter (stream ++ bytes) t)
    pub shows_virtual : EndsInDoupdate calls → fault ≡ None → AfterAgreeing old (λ stream t. LeadsWithBreaks (stream ++ bytes) t (showing_virtual (world new.desk)))
    pub shows_virtual_on_any : EndsInDoupdate calls → fault ≡ None → OnAny old (λ t. Leads bytes t (showing_virtual (world new.desk)))
    pub shows : EndsInUpdate calls → fault ≡ None
        → AfterAgreeing old (λ stream t. (u : Terminal) × LeadsWithBreaks (stream ++ bytes) t u × ShowsWorld (world new.desk) u)
    pub shows_on_any : EndsInUpdate calls → fault ≡ None → OnAny old (λ t. (u : Terminal) × Leads bytes t u × ShowsWorld (world new.desk) u)
