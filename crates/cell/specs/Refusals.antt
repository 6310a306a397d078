-- Why a call is refused, as the log names it. X/Open Curses answers ERR alone; numbers and names are Curspan's own.
use Rattle.std.specs.Prelude.{◌≡◌, ◌∷◌, if◌then◌else◌, ◌⊎◌}
use Rattle.cell.specs.Names.{ℕ, List, [], Bool, codes, Option, Some, None, Result, MatchResult}
use Rattle.cell.specs.declared.written_refusals.Refusal.{Refusal}
use Rattle.cell.specs.declared.written_refusals.Refusal.TheVariants.{NoSuchWindow, NoSuchPanel, OffScreen, OutsideParent, OutsideWindow, HasDerived, InPanel, IsPad, NotPad, NotDerived, BadSize, BadRegion}
use Rattle.cell.specs.declared.written_refusals.Refusal.TheVariants.{BadCharacter, StandardScreen, Hidden, ScrollingOff, TooMany, NoMemory, BadRectangle, BadPair}

-- of the tests that hold, the first one's refusal
abbrev pub first_of : List (Bool × Refusal) → Option Refusal
first_of [] = None
first_of (row ∷ rows) = if row.0 then Some row.1 else first_of rows

-- a call that takes memory is refused by that refusal; where there is none, only for lack of memory
abbrev pub RefusedBy : {T : Type 0} → Option Refusal → Result T Refusal → Type 0
RefusedBy refusal result = MatchResult result (λ _. refusal ≡ None) (λ e. (refusal ≡ Some e) ⊎ ((refusal ≡ None) × (e ≡ NoMemory)))

abbrev pub refusal_text : Refusal → List ℕ
refusal_text NoSuchWindow = codes "E1 NoSuchWindow"
refusal_text NoSuchPanel = codes "E2 NoSuchPanel"
refusal_text OffScreen = codes "E3 OffScreen"
refusal_text OutsideParent = codes "E4 OutsideParent"
refusal_text OutsideWindow = codes "E5 OutsideWindow"
refusal_text HasDerived = codes "E6 HasDerived"
refusal_text InPanel = codes "E7 InPanel"
refusal_text IsPad = codes "E8 IsPad"
refusal_text NotPad = codes "E9 NotPad"
refusal_text NotDerived = codes "E10 NotDerived"
refusal_text BadSize = codes "E11 BadSize"
refusal_text BadRegion = codes "E12 BadRegion"
refusal_text BadCharacter = codes "E13 BadCharacter"
refusal_text StandardScreen = codes "E14 StandardScreen"
refusal_text Hidden = codes "E15 Hidden"
refusal_text ScrollingOff = codes "E16 ScrollingOff"
refusal_text TooMany = codes "E17 TooMany"
refusal_text NoMemory = codes "E18 NoMemory"
refusal_text BadRectangle = codes "E19 BadRectangle"
refusal_text BadPair = codes "E20 BadPair"
