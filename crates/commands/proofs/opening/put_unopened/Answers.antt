-- `put_unopened`: one text after another (`PutLemmas`).
use Rattle.std.specs.Prelude.{◌++◌, ◌∷◌}
use Rattle.commands.specs.{codes, [], newline, escaped_text, reason}
use Rattle.commands.proofs.PutLemmas.{cut_before, put_after}
use Rattle.commands.proofs.opening.put_unopened.Goals as goal

pub returns-then-not-put : goal.returns-then-not-put
returns-then-not-put g c = cut_before _ _ (codes "can't open ") _ _ c.put.ensures c.if-not-put.true

pub returns-then-not-put_escaped : goal.returns-then-not-put_escaped
returns-then-not-put_escaped g c =
    let name = rw c.as_bytes.ensures.value at c.put_escaped.ensures in
    put_after _ _ _ (codes "can't open ") _ _ _ c.put.ensures c.if-not-put.false
    (cut_before _ _ (escaped_text c.args.name.now) (codes ": " ++ (reason c.args.fault ++ newline ∷ [])) _ name c.if-not-put_escaped.true)

pub returns-then-not-put-2 : goal.returns-then-not-put-2
returns-then-not-put-2 g c =
    let name = rw c.as_bytes.ensures.value at c.put_escaped.ensures in
    put_after _ _ _ (codes "can't open ") _ _ _ c.put.ensures c.if-not-put.false
    (put_after _ _ _ (escaped_text c.args.name.now) _ _ _ name c.if-not-put_escaped.false
    (cut_before _ _ (codes ": ") (reason c.args.fault ++ newline ∷ []) _ c.put-2.ensures c.if-not-put-2.true))

pub returns-then-not-put-3 : goal.returns-then-not-put-3
returns-then-not-put-3 g c =
    let name = rw c.as_bytes.ensures.value at c.put_escaped.ensures in
    let why = rw (c.as_bytes-2.ensures.value, c.reason.ensures) at c.put-3.ensures in
    put_after _ _ _ (codes "can't open ") _ _ _ c.put.ensures c.if-not-put.false
    (put_after _ _ _ (escaped_text c.args.name.now) _ _ _ name c.if-not-put_escaped.false
    (put_after _ _ _ (codes ": ") _ _ _ c.put-2.ensures c.if-not-put-2.false
    (cut_before _ _ (reason c.args.fault) (newline ∷ []) _ why c.if-not-put-3.true)))

pub returns : goal.returns
returns g c =
    let name = rw c.as_bytes.ensures.value at c.put_escaped.ensures in
    let why = rw (c.as_bytes-2.ensures.value, c.reason.ensures) at c.put-3.ensures in
    put_after _ _ _ (codes "can't open ") _ _ _ c.put.ensures c.if-not-put.false
    (put_after _ _ _ (escaped_text c.args.name.now) _ _ _ name c.if-not-put_escaped.false
    (put_after _ _ _ (codes ": ") _ _ _ c.put-2.ensures c.if-not-put-2.false
    (put_after _ _ _ (reason c.args.fault) _ _ _ why c.if-not-put-3.false c.put-4.ensures)))
