-- The kind of the answers of a call, by its effect.
use Rattle.std.specs.Prelude.{◌≡◌}
use Rattle.calls.specs.Names.{ℕ, Bool, Option, Some, Glyph, WinId, Sent as SentBytes, World, Change, asks, makes, Order, changes, adds, Effect, arranges, composes, shows, effect_of, PanelId, Call}
use Rattle.calls.specs.Names.{Query, Inch, Composed as Read, Reply, Nothing, Number, TwoNumbers, Cell, Flag, Panel}
use Rattle.world.specs.declared.call.Call.TheVariants as calls
use Rattle.world.specs.declared.call.Reply.TheVariants.{Composed, Sent}

pub data Kind : Type 0 where
  nothing : Kind
  number : Kind
  numbers : Kind
  cell : Kind
  flag : Kind
  new_panel : Kind
  neighbour : Kind
  composed : Kind
  sent : Kind

-- The answer is of that kind.
abbrev pub IsOfKind : Kind → Reply → Type 0
IsOfKind nothing reply = reply ≡ Nothing
IsOfKind number reply = (win : WinId) × (reply ≡ Number win)
IsOfKind numbers reply = (first : ℕ) × (second : ℕ) × (reply ≡ TwoNumbers first second)
IsOfKind cell reply = (glyph : Glyph) × (reply ≡ Cell glyph)
IsOfKind flag reply = (is : Bool) × (reply ≡ Flag is)
IsOfKind new_panel reply = (panel : PanelId) × (reply ≡ Panel (Some panel))
IsOfKind neighbour reply = (panel : Option PanelId) × (reply ≡ Panel panel)
IsOfKind composed reply = (read : Read) × (reply ≡ Composed read)
IsOfKind sent reply = (bytes : SentBytes) × (reply ≡ Sent bytes)

abbrev pub kind_of_reply : Reply → Kind
kind_of_reply Nothing = nothing
kind_of_reply (Number win) = number
kind_of_reply (TwoNumbers first second) = numbers
kind_of_reply (Cell glyph) = cell
kind_of_reply (Flag is) = flag
kind_of_reply (Panel panel) = neighbour
kind_of_reply (Composed read) = composed
kind_of_reply (Sent bytes) = sent

abbrev pub kind_of_change : Change → Kind
kind_of_change (asks reply) = kind_of_reply reply
kind_of_change (makes n a) = number
kind_of_change _ = nothing

abbrev pub kind_of_order : Order → Kind
kind_of_order (changes change) = kind_of_change change
kind_of_order (adds p w) = new_panel
kind_of_order _ = nothing

abbrev pub kind_of_effect : Effect → Kind
kind_of_effect (arranges order) = kind_of_order order
kind_of_effect composes = composed
kind_of_effect shows = sent
kind_of_effect _ = nothing

-- a query that isn't refused answers a place or a size, or a cell
abbrev pub kind_of_query : Query → Kind
kind_of_query (Inch win) = cell
kind_of_query _ = numbers

abbrev pub kind_of : World → Call → Kind
kind_of world (calls.Query query) = kind_of_query query
kind_of world call = kind_of_effect (effect_of world call)

-- The answer is of the kind that the call has in some world.
abbrev pub IsAnswerTo : Call → Reply → Type 0
IsAnswerTo call reply = (world : World) × IsOfKind (kind_of world call) reply
