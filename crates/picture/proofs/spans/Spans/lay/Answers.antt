-- A span of no panel is filled, and another one is left as it is.
use Rattle.std.specs.Prelude.{◌≡◌, ◌+◌, ◌&&◌, if◌then◌else◌}
use Rattle.picture.specs.{ℕ, Bool, true, false, not, Option, Some, None, is_some, nat_le, nat_lt, option_or, refl, sym, ap, subst, ◌∙◌, arith, nat_tests, panel_number}
use Rattle.world.specs.declared.panel.PanelId.{PanelId}
use Rattle.picture.proofs.SpanLaws.{IsUnder, spans-as, under, under-begun, under-fill, under-other}
use Rattle.picture.proofs.spans.Spans.lay.Goals.{then-is_none, else-is_none}
use Rattle.picture.proofs.spans.Spans.lay.Goals as goal

number-none : (panel : Option PanelId) → is_some panel ≡ false → panel_number panel ≡ None
number-none panel h = grind arith

number-some : (panel : Option PanelId) → is_some panel ≡ true → (q : ℕ) × (panel_number panel ≡ Some q)
number-some None h = absurd (let never : false ≡ true = h in cc)
number-some (Some p) h = (p.0, refl)

pub loop-x-init : goal.loop-x-init
loop-x-init c = record {
  inside = c.requires.inside;
  begun = omega arith;
  upto = (let ordered = c.requires.ordered in omega (arith, ordered));
  under = λ o h fresh. under-begun o c.args.panel.0 c.args.left c.args.right c.args.self.now h fresh;
}

pub loop-x-preserved : goal.loop-x-preserved
loop-x-preserved c =
    let a = c.args in
    let h = c.loop-x.invariant in
    let x = c.loop-x.x in
    let span = c.at-span.result in
    let from = c.at-span.ensures.from in
    let within = c.at-span.ensures.within in
    let begun = h.begun in
    record {
      inside = elim c.if-is_none.branch [
        | then-is_none w ↦ rw w.self-is w.fill.ensures.inside
        | else-is_none w ↦ rw w.self-is h.inside
      ];
      begun = omega (arith, begun, from);
      upto = omega (arith, within);
      under = λ o before fresh.
          let now : IsUnder o a.panel.0 a.left a.right x c.loop-x.self = h.under o before fresh in
          let run = c.at-span.ensures.run (under o a.panel.0 a.left x) now.spans in
          elim c.if-is_none.branch [
            | then-is_none w ↦
                let none : panel_number span.panel ≡ None = number-none span.panel (c.is_none.ensures ∙ ap not w.if-is_none.true) in
                rw w.self-is (under-fill o a.panel.0 a.left a.right x c.loop-x.self now fresh begun span.end w.fill.new.self from (λ u begun upto. run.same u begun upto ∙ none)
                (λ more never. run.another more (never ∙ sym none)) w.fill.ensures.filled c.loop-x-test.true)
            | else-is_none w ↦
                let some = number-some span.panel (c.is_none.ensures ∙ ap not w.if-is_none.false) in
                rw w.self-is (under-other o a.panel.0 a.left a.right x c.loop-x.self now fresh begun some.0 span.end from (λ u begun upto. run.same u begun upto ∙ some.1))
          ];
    }

upto : (left right x : ℕ) → (nat_le left x && nat_lt x (right + 1)) ≡ (nat_le left x && nat_le x right)
upto left right x = grind (arith, nat_tests)

pub returns-clause-laid : goal.returns-clause-laid
returns-clause-laid c = λ o h fresh.
    let a = c.args in
    let end : c.loop-x.x ≡ a.right + 1 = (let h = c.loop-x.invariant.upto in let test = c.loop-x-test.false in omega (arith, h, test)) in
    let all : IsUnder o a.panel.0 a.left a.right (a.right + 1) c.loop-x.self = subst (λ x. IsUnder o a.panel.0 a.left a.right x c.loop-x.self) end (c.loop-x.invariant.under o h fresh) in
    spans-as (under o a.panel.0 a.left (a.right + 1)) (λ x. option_or (o x) (if nat_le a.left x && nat_le x a.right then Some a.panel.0 else None)) c.loop-x.self all.spans
    (λ x. ap (λ (b : Bool). option_or (o x) (if b then Some a.panel.0 else None)) (sym (upto a.left a.right x)))
