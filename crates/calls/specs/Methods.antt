-- What a method of a call answers.
use Rattle.calls.specs.Names.{Result, Ok, Err, Reply}

-- what a method answers, as an answer of its call
abbrev pub as_reply : {A E : Type 0} → (A → Reply) → Result A E → Result Reply E
as_reply reply_of (Ok answer) = Ok (reply_of answer)
as_reply reply_of (Err e) = Err e
