-- What a function that makes a call answers, as the call's reply: nothing, a window's number, two numbers, yes or no,
-- or a panel.
use Rattle.world.specs.Names.{ℕ, Bool, Some, WinId}
use Rattle.world.specs.declared.call.Reply.{Reply}
use Rattle.world.specs.declared.call.Reply.TheVariants.{Nothing, Number, TwoNumbers, Flag, Panel}
use Rattle.world.specs.declared.panel.PanelId.{PanelId}

abbrev pub no_answer : Unit {0} → Reply
no_answer done = Nothing

abbrev pub its_number : WinId → Reply
its_number win = Number win

abbrev pub two_numbers : ℕ × ℕ → Reply
two_numbers numbers = TwoNumbers numbers.0 numbers.1

abbrev pub its_flag : Bool → Reply
its_flag flag = Flag flag

abbrev pub its_panel : PanelId → Reply
its_panel panel = Panel (Some panel)
