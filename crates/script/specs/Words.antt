-- The calls by their script words, with the forms of their arguments: one line for each call. The words are the names
-- of the calls in X/Open Curses Issue 7, and of those on panels in NetBSD's panel(3), without the `w` that some begin
-- with; their arguments come in the order that they have there. That a window is given by its number, and a character
-- with attributes by both, is Curspan's own (docs/curspan.1).
use Rattle.std.specs.Prelude.{◌∷◌}
use Rattle.script.specs.Names.{ℕ, ℤ, pos, Bool, false, List, [], codes, slice_index, Option, None, option_map, find, flat_map, bytes_eq, Bor, Attr, WinId, PanelId, Call, Making, Writing, Copying}
use Rattle.script.specs.Names.{Query, Stacking, Refresh, Newwin, Subwin, Derwin, Newpad, Subpad, Delwin, Mvwin, Mvderwin, Move, Addch, Addstr, Insch, Delch, Insertln, Deleteln, Erase, Clear}
use Rattle.script.specs.Names.{Clrtoeol, Clrtobot, Scrl, Setscrreg, Scrollok, Clearok, Attrset, Attron, Attroff, Bkgdset, ColorSet, Bkgdpair, Overlay, Overwrite, Copywin, Touchwin, Untouchwin}
use Rattle.script.specs.Names.{Touchline, Touchln, Syncup, Syncdown, IsLinetouched, IsWintouched, Getyx, Getbegyx, Getmaxyx, Getparyx, Inch, NewPanel, DelPanel, ShowPanel, HidePanel, TopPanel}
use Rattle.script.specs.Names.{BottomPanel, MovePanel, ReplacePanel, PanelAbove, PanelBelow, PanelWindow, PanelHidden, Noutrefresh, Pnoutrefresh, UpdatePanels, Doupdate, InitPair}
use Rattle.script.specs.declared.written_words.TheConstants.{WORDS}
use Rattle.script.specs.declared.words.Form.{Form}
use Rattle.script.specs.declared.words.Form.TheVariants.{Number, NumberOrNone, Signed, Attributes, Flag, Character, Text}
use Rattle.script.specs.declared.words.Word.{Word}
use Rattle.script.specs.declared.words.Word.TheVariants as word
use Rattle.script.specs.declared.written_words.MakingWord.TheVariants as making
use Rattle.script.specs.declared.written_words.WritingWord.TheVariants as writing
use Rattle.script.specs.declared.written_words.CopyingWord.TheVariants as copying
use Rattle.script.specs.declared.written_words.QueryWord.TheVariants as query
use Rattle.script.specs.declared.written_words.StackingWord.TheVariants as stacking
use Rattle.script.specs.declared.written_words.RefreshWord.TheVariants as refresh

-- What the arguments of a call say. Its numbers are in their order.
pub record Arguments : Type 0 where
  pub numbers : List ℕ
  pub number_or_none : Option ℕ
  pub signed : ℤ
  pub attributes : ℕ
  pub flag : Bool
  pub text : List ℕ

abbrev pub no_arguments : Arguments
no_arguments = record { numbers = []; number_or_none = None; signed = pos 0; attributes = 0; flag = false; text = [] }

abbrev pub number : Arguments → ℕ → ℕ
number a place = slice_index a.numbers place

abbrev pub window_at : Arguments → ℕ → WinId
window_at a place = record { 0 = number a place }

abbrev pub window : Arguments → WinId
window a = window_at a 0

abbrev pub panel : Arguments → PanelId
panel a = record { 0 = number a 0 }

abbrev pub panel_or_none : Arguments → Option PanelId
panel_or_none a = option_map (λ n. record { 0 = n }) a.number_or_none

abbrev pub character : Arguments → ℕ
character a = slice_index a.text 0

abbrev pub attributes : Arguments → Attr
attributes a = record { 0 = a.attributes }

-- a text, wherever it lies in memory
abbrev pub somewhere : List ℕ → Bor (List ℕ)
somewhere text = record { now = text; ref_ptr = (0, 0) }

-- a call, wherever its text lies in memory
abbrev pub placeless : Call → Call
placeless (Writing (Addstr win text)) = Writing (Addstr win (somewhere text.now))
placeless call = call

-- the word of a call in a script, the forms of its arguments, and the call that they make
pub record Entry : Type 0 where
  pub word : List ℕ
  pub forms : List Form
  pub call : Arguments → Call

-- the entry of each word
abbrev pub entry_of : Word → Entry
-- making and placing
entry_of (word.Making making.Newwin) = record { word = codes "newwin"; forms = Number ∷ Number ∷ Number ∷ Number ∷ []; call = λ a. Making (Newwin (number a 0) (number a 1) (number a 2) (number a 3)) }
entry_of (word.Making making.Subwin) = record {
  word = codes "subwin";
  forms = Number ∷ Number ∷ Number ∷ Number ∷ Number ∷ [];
  call = λ a. Making
      (Subwin (window a) (number a 1) (number a 2) (number a 3) (number a 4));
}
entry_of (word.Making making.Derwin) = record {
  word = codes "derwin";
  forms = Number ∷ Number ∷ Number ∷ Number ∷ Number ∷ [];
  call = λ a. Making
      (Derwin (window a) (number a 1) (number a 2) (number a 3) (number a 4));
}
entry_of (word.Making making.Newpad) = record { word = codes "newpad"; forms = Number ∷ Number ∷ []; call = λ a. Making (Newpad (number a 0) (number a 1)) }
entry_of (word.Making making.Subpad) = record {
  word = codes "subpad";
  forms = Number ∷ Number ∷ Number ∷ Number ∷ Number ∷ [];
  call = λ a. Making
      (Subpad (window a) (number a 1) (number a 2) (number a 3) (number a 4));
}
entry_of (word.Making making.Delwin) = record { word = codes "delwin"; forms = Number ∷ []; call = λ a. Making (Delwin (window a)) }
entry_of (word.Making making.Mvwin) = record { word = codes "mvwin"; forms = Number ∷ Number ∷ Number ∷ []; call = λ a. Making (Mvwin (window a) (number a 1) (number a 2)) }
entry_of (word.Making making.Mvderwin) = record { word = codes "mvderwin"; forms = Number ∷ Number ∷ Number ∷ []; call = λ a. Making (Mvderwin (window a) (number a 1) (number a 2)) }
-- writing
entry_of (word.Writing writing.Move) = record { word = codes "move"; forms = Number ∷ Number ∷ Number ∷ []; call = λ a. Writing (Move (window a) (number a 1) (number a 2)) }
entry_of (word.Writing writing.Addch) = record { word = codes "addch"; forms = Number ∷ Character ∷ []; call = λ a. Writing (Addch (window a) (character a)) }
entry_of (word.Writing writing.Addstr) = record { word = codes "addstr"; forms = Number ∷ Text ∷ []; call = λ a. Writing (Addstr (window a) (somewhere a.text)) }
entry_of (word.Writing writing.Insch) = record { word = codes "insch"; forms = Number ∷ Character ∷ []; call = λ a. Writing (Insch (window a) (character a)) }
entry_of (word.Writing writing.Delch) = record { word = codes "delch"; forms = Number ∷ []; call = λ a. Writing (Delch (window a)) }
entry_of (word.Writing writing.Insertln) = record { word = codes "insertln"; forms = Number ∷ []; call = λ a. Writing (Insertln (window a)) }
entry_of (word.Writing writing.Deleteln) = record { word = codes "deleteln"; forms = Number ∷ []; call = λ a. Writing (Deleteln (window a)) }
entry_of (word.Writing writing.Erase) = record { word = codes "erase"; forms = Number ∷ []; call = λ a. Writing (Erase (window a)) }
entry_of (word.Writing writing.Clear) = record { word = codes "clear"; forms = Number ∷ []; call = λ a. Writing (Clear (window a)) }
entry_of (word.Writing writing.Clrtoeol) = record { word = codes "clrtoeol"; forms = Number ∷ []; call = λ a. Writing (Clrtoeol (window a)) }
entry_of (word.Writing writing.Clrtobot) = record { word = codes "clrtobot"; forms = Number ∷ []; call = λ a. Writing (Clrtobot (window a)) }
entry_of (word.Writing writing.Scrl) = record { word = codes "scrl"; forms = Number ∷ Signed ∷ []; call = λ a. Writing (Scrl (window a) a.signed) }
entry_of (word.Writing writing.Setscrreg) = record { word = codes "setscrreg"; forms = Number ∷ Number ∷ Number ∷ []; call = λ a. Writing (Setscrreg (window a) (number a 1) (number a 2)) }
entry_of (word.Writing writing.Scrollok) = record { word = codes "scrollok"; forms = Number ∷ Flag ∷ []; call = λ a. Writing (Scrollok (window a) a.flag) }
entry_of (word.Writing writing.Clearok) = record { word = codes "clearok"; forms = Number ∷ Flag ∷ []; call = λ a. Writing (Clearok (window a) a.flag) }
entry_of (word.Writing writing.Attrset) = record { word = codes "attrset"; forms = Number ∷ Attributes ∷ []; call = λ a. Writing (Attrset (window a) (attributes a)) }
entry_of (word.Writing writing.Attron) = record { word = codes "attron"; forms = Number ∷ Attributes ∷ []; call = λ a. Writing (Attron (window a) (attributes a)) }
entry_of (word.Writing writing.Attroff) = record { word = codes "attroff"; forms = Number ∷ Attributes ∷ []; call = λ a. Writing (Attroff (window a) (attributes a)) }
entry_of (word.Writing writing.Bkgdset) = record { word = codes "bkgdset"; forms = Number ∷ Attributes ∷ Character ∷ []; call = λ a. Writing (Bkgdset (window a) (attributes a) (character a)) }
entry_of (word.Writing writing.ColorSet) = record { word = codes "color_set"; forms = Number ∷ Number ∷ []; call = λ a. Writing (ColorSet (window a) (number a 1)) }
entry_of (word.Writing writing.Bkgdpair) = record { word = codes "bkgdpair"; forms = Number ∷ Number ∷ []; call = λ a. Writing (Bkgdpair (window a) (number a 1)) }
-- copies and marks
entry_of (word.Copying copying.Overlay) = record { word = codes "overlay"; forms = Number ∷ Number ∷ []; call = λ a. Copying (Overlay (window a) (window_at a 1)) }
entry_of (word.Copying copying.Overwrite) = record { word = codes "overwrite"; forms = Number ∷ Number ∷ []; call = λ a. Copying (Overwrite (window a) (window_at a 1)) }
entry_of (word.Copying copying.Copywin) = record {
  word = codes "copywin";
  forms = Number ∷ Number ∷ Number ∷ Number ∷ Number ∷ Number ∷ Number ∷ Number ∷ Flag ∷ [];
  call = λ a. Copying
      (Copywin (window a) (window_at a 1) (number a 2) (number a 3) (number a 4) (number a 5) (number a 6) (number a 7) a.flag);
}
entry_of (word.Copying copying.Touchwin) = record { word = codes "touchwin"; forms = Number ∷ []; call = λ a. Copying (Touchwin (window a)) }
entry_of (word.Copying copying.Untouchwin) = record { word = codes "untouchwin"; forms = Number ∷ []; call = λ a. Copying (Untouchwin (window a)) }
entry_of (word.Copying copying.Touchline) = record { word = codes "touchline"; forms = Number ∷ Number ∷ Number ∷ []; call = λ a. Copying (Touchline (window a) (number a 1) (number a 2)) }
entry_of (word.Copying copying.Touchln) = record { word = codes "touchln"; forms = Number ∷ Number ∷ Number ∷ Flag ∷ []; call = λ a. Copying (Touchln (window a) (number a 1) (number a 2) a.flag) }
entry_of (word.Copying copying.Syncup) = record { word = codes "syncup"; forms = Number ∷ []; call = λ a. Copying (Syncup (window a)) }
entry_of (word.Copying copying.Syncdown) = record { word = codes "syncdown"; forms = Number ∷ []; call = λ a. Copying (Syncdown (window a)) }
entry_of (word.Copying copying.IsLinetouched) = record { word = codes "is_linetouched"; forms = Number ∷ Number ∷ []; call = λ a. Copying (IsLinetouched (window a) (number a 1)) }
entry_of (word.Copying copying.IsWintouched) = record { word = codes "is_wintouched"; forms = Number ∷ []; call = λ a. Copying (IsWintouched (window a)) }
-- queries
entry_of (word.Query query.Getyx) = record { word = codes "getyx"; forms = Number ∷ []; call = λ a. Query (Getyx (window a)) }
entry_of (word.Query query.Getbegyx) = record { word = codes "getbegyx"; forms = Number ∷ []; call = λ a. Query (Getbegyx (window a)) }
entry_of (word.Query query.Getmaxyx) = record { word = codes "getmaxyx"; forms = Number ∷ []; call = λ a. Query (Getmaxyx (window a)) }
entry_of (word.Query query.Getparyx) = record { word = codes "getparyx"; forms = Number ∷ []; call = λ a. Query (Getparyx (window a)) }
entry_of (word.Query query.Inch) = record { word = codes "inch"; forms = Number ∷ []; call = λ a. Query (Inch (window a)) }
-- panels
entry_of (word.Stacking stacking.NewPanel) = record { word = codes "new_panel"; forms = Number ∷ []; call = λ a. Stacking (NewPanel (window a)) }
entry_of (word.Stacking stacking.DelPanel) = record { word = codes "del_panel"; forms = Number ∷ []; call = λ a. Stacking (DelPanel (panel a)) }
entry_of (word.Stacking stacking.ShowPanel) = record { word = codes "show_panel"; forms = Number ∷ []; call = λ a. Stacking (ShowPanel (panel a)) }
entry_of (word.Stacking stacking.HidePanel) = record { word = codes "hide_panel"; forms = Number ∷ []; call = λ a. Stacking (HidePanel (panel a)) }
entry_of (word.Stacking stacking.TopPanel) = record { word = codes "top_panel"; forms = Number ∷ []; call = λ a. Stacking (TopPanel (panel a)) }
entry_of (word.Stacking stacking.BottomPanel) = record { word = codes "bottom_panel"; forms = Number ∷ []; call = λ a. Stacking (BottomPanel (panel a)) }
entry_of (word.Stacking stacking.MovePanel) = record { word = codes "move_panel"; forms = Number ∷ Number ∷ Number ∷ []; call = λ a. Stacking (MovePanel (panel a) (number a 1) (number a 2)) }
entry_of (word.Stacking stacking.ReplacePanel) = record { word = codes "replace_panel"; forms = Number ∷ Number ∷ []; call = λ a. Stacking (ReplacePanel (panel a) (window_at a 1)) }
entry_of (word.Stacking stacking.PanelAbove) = record { word = codes "panel_above"; forms = NumberOrNone ∷ []; call = λ a. Stacking (PanelAbove (panel_or_none a)) }
entry_of (word.Stacking stacking.PanelBelow) = record { word = codes "panel_below"; forms = NumberOrNone ∷ []; call = λ a. Stacking (PanelBelow (panel_or_none a)) }
entry_of (word.Stacking stacking.PanelWindow) = record { word = codes "panel_window"; forms = Number ∷ []; call = λ a. Stacking (PanelWindow (panel a)) }
entry_of (word.Stacking stacking.PanelHidden) = record { word = codes "panel_hidden"; forms = Number ∷ []; call = λ a. Stacking (PanelHidden (panel a)) }
-- refresh
entry_of (word.Refresh refresh.Noutrefresh) = record { word = codes "noutrefresh"; forms = Number ∷ []; call = λ a. Refresh (Noutrefresh (window a)) }
entry_of (word.Refresh refresh.Pnoutrefresh) = record {
  word = codes "pnoutrefresh";
  forms = Number ∷ Number ∷ Number ∷ Number ∷ Number ∷ Number ∷ Number ∷ [];
  call = λ a. Refresh
      (Pnoutrefresh (window a) (number a 1) (number a 2) (number a 3) (number a 4) (number a 5) (number a 6));
}
entry_of (word.Refresh refresh.UpdatePanels) = record { word = codes "update_panels"; forms = []; call = λ a. Refresh UpdatePanels }
entry_of (word.Refresh refresh.Doupdate) = record { word = codes "doupdate"; forms = []; call = λ a. Refresh Doupdate }
entry_of (word.Refresh refresh.InitPair) = record { word = codes "init_pair"; forms = Number ∷ Number ∷ Number ∷ []; call = λ a. Refresh (InitPair (number a 0) (number a 1) (number a 2)) }

-- every word, by their first letters
abbrev pub words : List Word
words = flat_map (λ letter. letter.now) WORDS

-- the call of a script word
abbrev pub word_of : List ℕ → Option Word
word_of text = find (λ w. bytes_eq text (entry_of w).word) words
