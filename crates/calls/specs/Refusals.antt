-- By what a call is refused, in the order of its tests: `WrittenRefusals` has the rows of calls.table.
use Rattle.std.specs.Prelude.{if◌then◌else◌, ◌++◌, ◌∷◌}
use Rattle.calls.specs.Names.{Bool, List, [], bytes_eq, refusal_text, Refusal, NoMemory, World, takes_memory, tests_of, Call}

-- a refusal before others, of which the first may be the same
abbrev pub then_others : Refusal → List Refusal → List Refusal
then_others first [] = first ∷ []
then_others first (second ∷ others) = if bytes_eq (refusal_text first) (refusal_text second) then first ∷ others else first ∷ second ∷ others

-- the refusals of tests, once where two tests in a row have the same
abbrev pub named_by : List (Bool × Refusal) → List Refusal
named_by [] = []
named_by (test ∷ tests) = then_others test.1 (named_by tests)

-- those of its tests, and that for lack of memory where it takes memory
abbrev pub tested : World → Call → List Refusal
tested world call = named_by (tests_of world call) ++ (if takes_memory world call then NoMemory ∷ [] else [])
