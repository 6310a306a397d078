-- A span ends before the panel, none within it, and one with it.
use Rattle.std.specs.Prelude.{◌≡◌, ◌<◌, ◌≤◌, ◌==◌, ◌&&◌, ◌||◌, ◌≢◌, if◌then◌else◌}
use Rattle.picture.specs.{arith, ℕ, Bool, true, Option, Some, sym, ap, ◌∙◌, nat_le, nat_tests, contains, numbered}
use Rattle.picture.proofs.SpanLaws.{IsLaid, laid-spans}
use Rattle.picture.proofs.spans.Spans.fill.Goals as goal

inside : (left right p : ℕ) (other : Option ℕ) (x : ℕ) → left ≤ x → x ≤ right → (if nat_le left x && nat_le x right then Some p else other) ≡ Some p
inside left right p other x from upto = grind (arith, nat_tests)

before : (left right p : ℕ) (other : Option ℕ) (x : ℕ) → x < left → (if nat_le left x && nat_le x right then Some p else other) ≡ other
before left right p other x below = grind (arith, nat_tests)

after : (left right p : ℕ) (other : Option ℕ) (x : ℕ) → right < x → (if nat_le left x && nat_le x right then Some p else other) ≡ other
after left right p other x above = grind (arith, nat_tests)

-- whether a span ends at a column, of which `was` says whether one did before
end-last : (right : ℕ) (was : Bool) → (right == right || was) ≡ true
end-last right was = grind (arith, nat_tests)

end-other : (right e : ℕ) (was : Bool) → e ≢ right → (e == right || was) ≡ was
end-other right e was other = grind (arith, nat_tests)

pub returns-clause-filled : goal.returns-clause-filled
returns-clause-filled c = λ o h none_left none_right.
    let a = c.args in
    let ordered = c.requires.ordered in
    let begun = c.end_before.ensures in
    let ended : (e : ℕ) → e ≢ a.right → contains c.put.new.self.ends e ≡ contains c.end_before.new.self.ends e =
    λ e other. c.put.ensures.ends e ∙ end-other a.right e (contains c.end_before.new.self.ends e) other in
    let is_laid : IsLaid o a.left a.right a.panel.0 a.self.now c.put.new.self = record {
      ordered = ordered;
      at_right = c.put.ensures.ends a.right ∙ end-last a.right (contains c.end_before.new.self.ends a.right);
      panel = c.put.ensures.panel;
      over = λ e from below. ended e (omega (arith, below)) ∙ begun.ends e (omega (arith, from)) ∙ c.requires.bare e from below;
      after = λ e far. ended e (omega (arith, far)) ∙ begun.ends e (omega (arith, far, ordered));
      panels_after = λ e far. c.put.ensures.others e (omega (arith, far)) ∙ begun.panels e (omega (arith, far, ordered));
      before = λ e far. ended e (omega (arith, far, ordered)) ∙ begun.ends e (omega (arith, far));
      panels_before = λ e far. c.put.ensures.others e (omega (arith, far, ordered)) ∙ begun.panels e (omega (arith, far));
      at_left = λ e is. ended e (omega (arith, is, ordered)) ∙ begun.end e is;
      owner = λ e u edge upto bare. begun.owner o h e u edge upto bare ∙ sym (ap numbered (c.put.ensures.others e (omega (arith, edge, ordered))));
    } in
    laid-spans o (λ x. if nat_le a.left x && nat_le x a.right then Some a.panel.0 else o x) a.left a.right a.panel.0 a.self.now c.put.new.self is_laid h c.requires.number none_left none_right
    (λ x below. before a.left a.right a.panel.0 (o x) x below) (λ x from upto. inside a.left a.right a.panel.0 (o x) x from upto) (λ x above. after a.left a.right a.panel.0 (o x) x above)
