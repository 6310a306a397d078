-- The lemmas that are laws as they stand.
use Rattle.ecma.proofs.Difference.{difference-zero}
use Rattle.ecma.proofs.Joining.{Leads-append, LeadsWithBreaks-append}
use Rattle.ecma.proofs.Readers.{one-terminal_shown}
use Rattle.ecma.proofs.Tokens.{is_item_of}
use Rattle.ecma.proofs.Unique.{Splits-prefix, Splits-unique}

pub ruleset laws = (difference-zero, Leads-append, LeadsWithBreaks-append, one-terminal_shown, is_item_of, Splits-prefix, Splits-unique)
