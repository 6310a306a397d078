-- `spell`: the pieces of a position, one after another.
use Rattle.std.specs.Prelude.{◌≡◌, ◌+◌, ◌<◌, ◌∷◌, ◌++◌}
use Rattle.ecma.specs.{ℕ, ◌∙◌, List, [], get_or, length, take, ap, subst, sym, arith, append_assoc, decimal, get_or_read, take-append-le, take-take, take-length, introducer, separator, spelling}
use Rattle.ecma.specs.{IsNumber}
use Rattle.ecma.specs.declared.token.Token.TheVariants.{Cup}
use Rattle.ecma.proofs.positions.Positions.spell.Goals as goal

-- the digits alone
digits-of : {n : ℕ} {text : List ℕ} → IsNumber n text → take (length (decimal n)) text ≡ decimal n
digits-of {n} {text} h =
    sym (take-take (length (decimal n)) (length (decimal n) + 1) text (omega arith)) ∙ ap (take (length (decimal n))) h.spelled
    ∙ take-append-le (length (decimal n)) (decimal n) (separator ∷ []) (omega arith) ∙ take-length (decimal n)

place-spelled : (line column : ℕ) {begun first second whole : List ℕ} → begun ≡ introducer → first ≡ begun ++ (decimal (line + 1) ++ separator ∷ []) → second ≡ first ++ decimal (column + 1)
    → whole ≡ second ++ 72 ∷ [] → whole ≡ spelling (Cup line column)
unfolding spelling
place-spelled line column begun first second whole =
    let one = decimal (line + 1) in
    let other = decimal (column + 1) in
    whole ∙ ap (λ l. l ++ 72 ∷ []) (second ∙ ap (λ l. l ++ other) (first ∙ ap (λ l. l ++ (one ++ separator ∷ [])) begun)
    ∙ append_assoc introducer (one ++ separator ∷ []) other ∙ ap (λ l. introducer ++ l) (append_assoc one (separator ∷ []) other))

-- a number of the table
number-at : (numbers : List (List ℕ)) (n k : ℕ) (text : List ℕ) → ((k : ℕ) → k < length numbers → IsNumber (k + 1) (get_or numbers k [])) → k ≡ n → n < length numbers
    → text ≡ get_or numbers k text → IsNumber (n + 1) text
number-at numbers n k text each is few read =
    subst (IsNumber (n + 1)) (sym (get_or_read numbers k text (omega arith) read [] ∙ ap (λ k. get_or numbers k []) is)) (each n few)

pub returns-clause-text : goal.returns-clause-text
returns-clause-text c =
    let numbers = c.self.inside.numbers.items in
    let one = number-at numbers c.args.line c.from.result c.index-line_text.result.now c.self.invariant.1 c.from.ensures (omega (arith, c.requires.line)) c.index-line_text.ensures in
    let other = number-at numbers c.args.column c.from-2.result c.index-column_text.result.now c.self.invariant.1 c.from-2.ensures (omega (arith, c.requires.column)) c.index-column_text.ensures in
    let first = rw c.digits.ensures.value at c.append_first-at.ensures.text in
    let second = rw c.digits-2.ensures.value at c.append_first-at-2.ensures.text in
    place-spelled c.args.line c.args.column c.append-at.ensures.text (first ∙ ap (λ l. take c.append-at.result c.append-at.new.out ++ l) one.spelled)
    (second ∙ ap (λ l. take c.append_first-at.result c.append_first-at.new.out ++ l) (digits-of other)) c.append.ensures.text
