-- `read_text`: what a reader has after one more byte (`Readers`).
use Rattle.std.specs.Prelude.{if◌then◌else◌}
use Rattle.ecma.specs.{◌∙◌, None, ap, refl, take, is_printable, print}
use Rattle.ecma.specs.declared.reader.State.TheVariants.{Text, Failed}
use Rattle.ecma.proofs.Readers.{reader_of, printed-follows, unprinted-follows, Follows-from, when-true, when-false}
use Rattle.ecma.proofs.reader.Reader.read_text.Goals as goal

pub returns-then-not-print : goal.returns-then-not-print
returns-then-not-print c =
    let s = c.args.self.now in
    let page = ap (λ r. r.terminal) c.self.view_is in
    let effect = c.print.ensures.effect ∙ ap (λ t. if is_printable c.args.byte then print c.args.byte t else None) page in
    Follows-from s _ _ Text c.args.at c.args.byte c.args.byte c.requires.state
    (ap (λ t. reader_of t Failed (take c.self.inside.count c.self.inside.ended) c.self.inside.current c.self.inside.read c.args.at) (c.print.ensures.same c.if-not-print.true)
    ∙ ap (λ r. reader_of r.terminal Failed r.ended r.current r.read c.args.at) c.self.view_is
    ∙ ap (λ read. reader_of s.terminal Failed s.ended s.current read c.args.at) c.requires.read)
    refl (unprinted-follows s.terminal s.ended s.current c.args.at s.start c.args.byte c.if-byte-eq-ESCAPE.false
    (when-false c.print.result (is_printable c.args.byte) c.print.new.self (print c.args.byte s.terminal) c.if-not-print.true effect))

pub returns-else-not-print : goal.returns-else-not-print
returns-else-not-print c =
    let s = c.args.self.now in
    let page = ap (λ r. r.terminal) c.self.view_is in
    let effect = c.print.ensures.effect ∙ ap (λ t. if is_printable c.args.byte then print c.args.byte t else None) page in
    let printed = when-true c.print.result (is_printable c.args.byte) c.print.new.self (print c.args.byte s.terminal) c.if-not-print.false effect in
    Follows-from s _ _ Text c.args.at c.args.byte c.args.byte c.requires.state
    (ap (λ r. reader_of c.print.new.self r.state r.ended r.current r.read r.start) c.self.view_is
    ∙ ap (λ state. reader_of c.print.new.self state s.ended s.current s.read s.start) c.requires.state
    ∙ ap (λ read. reader_of c.print.new.self Text s.ended s.current read s.start) c.requires.read)
    refl (printed-follows s.terminal s.ended s.current c.args.at s.start c.print.new.self c.args.byte printed.0 printed.1)
