-- What C asks of a screen beside the calls, and what it gets.
-- X/Open Curses Issue 7: wattr_get, getbkgd. ncurses, curs_opaque(3X): is_cleared, is_pad, is_scrollok, wgetscrreg.
use Rattle.std.specs.Prelude.{◌≡◌, ◌<◌, ◌&&◌, ℕ, ◌∷◌, [], true, false, if◌then◌else◌, is_none, is_some, nat_lt, Bool, IfOk, MatchOption, Option, Some, None, Result, Ok, Err, ok_or, unwrap_or}
use Rattle.std.specs.Option.{option_map, option_map_or}
use Rattle.std.specs.Result.{result_err}
use Rattle.cell.specs.Attributes.{bits_of}
use Rattle.cell.specs.Glyphs.{Glyph}
use Rattle.cell.specs.Refusals.{first_of}
use Rattle.cell.specs.declared.refusal.Refusal.{Refusal}
use Rattle.cell.specs.declared.refusal.Refusal.TheVariants.{NoSuchWindow, OutsideWindow}
use Rattle.cell.specs.declared.window.TheConstants.WinId.{STANDARD}
use Rattle.cell.specs.declared.window.WinId.{WinId}
use Rattle.world.specs.PanelOrder.{Panels, is_in_panel}
use Rattle.world.specs.WindowMaps.{WindowMap, cell_at}
use Rattle.world.specs.Worlds.{World}
use Rattle.world.specs.calls.Rules.{missing_window}
use Rattle.world.specs.declared.call.Reply.{Reply}
use Rattle.world.specs.declared.call.Reply.TheVariants.{Number, TwoNumbers, Cell, Flag, Panel}
use Rattle.world.specs.declared.panel.PanelId.{PanelId}
use Rattle.world.specs.declared.settings.Settings.{Settings}
use Rattle.calls.specs.Methods.{as_reply}
use Rattle.grids.specs.Questions.{parent_answer}
use Rattle.compose.specs.Desks.{world}
use Rattle.desk.specs.declared.screen.Fault.TheVariants.{Refused}
use Rattle.capi.specs.declared.answer.Answer.{Answer}
use Rattle.capi.specs.declared.question.Question.{Question}
use Rattle.capi.specs.declared.question.Question.TheVariants as questions
use Rattle.capi.specs.declared.question.Setting.{Setting}
use Rattle.capi.specs.declared.question.Setting.TheVariants.{Attributes, Background, Region, Scrolls, Clears}
use Rattle.capi.specs.declared.c_screen.CScreen.{CScreen}
use Rattle.capi.specs.Answers.{closed, of_end}

-- ---- what is asked

abbrev pub settings_of : WindowMap → ℕ → Result Settings Refusal
settings_of window w = ok_or (option_map (λ a. a.settings) (window w)) NoSuchWindow

abbrev pub setting_reply : Setting → Settings → Reply
setting_reply Attributes settings = TwoNumbers (bits_of settings.attrs) settings.pair
setting_reply Background settings = Cell settings.background
setting_reply Region settings = TwoNumbers settings.region.0 settings.region.1
setting_reply Scrolls settings = Flag settings.scrolling
setting_reply Clears settings = Flag settings.clear

-- whether window w is a pad
abbrev pub pad_answer : WindowMap → ℕ → Result Bool Refusal
pad_answer window w = ok_or (option_map (λ a. is_none a.place) (window w)) NoSuchWindow

-- the cell that window w shows at line y and column x
abbrev pub cell_answer : WindowMap → ℕ → ℕ → ℕ → Result Glyph Refusal
cell_answer window w y x = option_map_or (λ a. if nat_lt y a.lines && nat_lt x a.columns then Ok (cell_at window w y x) else Err OutsideWindow)
    (window w) (Err NoSuchWindow)

-- the panel that has window w, or none, where no panel has it
abbrev pub IsPanelOf : Panels → ℕ → Option PanelId → Type 0
IsPanelOf panels w panel = MatchOption panel (is_in_panel panels w ≡ false) (λ p. panels.window p.0 ≡ Some w)

-- the least number after n that passes the test; or none, where none of those does
abbrev pub IsNext : (ℕ → Bool) → ℕ → Option ℕ → Type 0
IsNext test n next = MatchOption next ((m : ℕ) → n < m → test m ≡ false) (λ k. (n < k) × (test k ≡ true) × ((m : ℕ) → n < m → m < k → test m ≡ false))

abbrev pub is_window : World → ℕ → Bool
is_window world w = is_some (world.windows.window w)

abbrev pub is_panel : World → ℕ → Bool
is_panel world p = is_some (world.panels.window p)

-- ---- how it is answered

-- A question was refused, or answered so. The standard screen, number 0, comes after no window: as answer it is none.
abbrev pub IsAnswered : World → Question → Result Reply Refusal → Type 0
IsAnswered world (questions.Setting setting win) end = end ≡ as_reply (setting_reply setting) (settings_of world.windows.window win.0)
IsAnswered world (questions.IsPad win) end = end ≡ as_reply Flag (pad_answer world.windows.window win.0)
IsAnswered world (questions.Parent win) end = end ≡ as_reply Number (parent_answer world.windows.window win.0)
IsAnswered world (questions.PanelOf win) end = (answer : Result (Option PanelId) Refusal)
    × (result_err answer ≡ first_of (missing_window world.windows win.0 ∷ [])) × IfOk answer (IsPanelOf world.panels win.0) × (end ≡ as_reply Panel answer)
IsAnswered world (questions.NextWindow win) end = (next : Option WinId) × IsNext (is_window world) win.0 (option_map (λ w. w.0) next)
    × (end ≡ Ok (Number (unwrap_or next STANDARD)))
IsAnswered world (questions.Cell win y x) end = end ≡ as_reply Cell (cell_answer world.windows.window win.0 y x)
IsAnswered world (questions.NextPanel panel) end = (next : Option PanelId) × IsNext (is_panel world) panel.0 (option_map (λ p. p.0) next)
    × (end ≡ Ok (Panel next))

-- what C gets for it
abbrev pub of_answer : Result Reply Refusal → Answer
of_answer (Ok reply) = of_end (Ok reply)
of_answer (Err refusal) = of_end (Err (Refused refusal))

abbrev pub Told : Option CScreen → Question → Answer → Type 0
Told None question answer = answer ≡ closed
Told (Some s) question answer = (end : Result Reply Refusal) × IsAnswered (world s.screen.desk) question end × (answer ≡ of_answer end)
