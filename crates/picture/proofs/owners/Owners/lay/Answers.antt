-- On a line that the rectangle has, it holds the columns between its sides.
use Rattle.std.specs.Prelude.{◌≡◌, ◌<◌, ◌≤◌, ◌&&◌, ◌⊎◌, if◌then◌else◌}
use Rattle.picture.specs.{ℕ, Bool, true, false, Option, Some, None, inl, inr, nat_le, option_or, ap, ◌∙◌, arith, nat_tests, Rect, frame_holds}
use Rattle.picture.proofs.OwnerLaws.{or-none}
use Rattle.picture.proofs.SpanLaws.{spans-as}
use Rattle.picture.proofs.owners.Owners.lay.Goals as goal

on-line : (r : Rect) (y x : ℕ) → r.top ≤ y → y ≤ r.bottom → frame_holds r y x ≡ (nat_le r.left x && nat_le x r.right)
on-line r y x from upto = grind (arith, nat_tests)

pub returns-then-y-rect-2-clause-laid : goal.returns-then-y-rect-2-clause-laid
returns-then-y-rect-2-clause-laid c = λ o h fresh.
    let r = c.args.rect in
    let y = c.args.y in
    let p = c.args.panel.0 in
    rw c.widen.ensures.spans
    (spans-as (λ x. option_or (o x) (if nat_le r.left x && nat_le x r.right then Some p else None)) (λ x. option_or (o x) (if frame_holds r y x then Some p else None)) c.lay.new.self
    (c.lay.ensures.laid o h fresh) (λ x. ap (λ b. option_or (o x) (if b then Some p else None)) (on-line r y x (omega arith) (omega arith))))

on-line-held : (r : Rect) (y x : ℕ) → r.top ≤ y → y ≤ r.bottom → r.left ≤ x → x ≤ r.right → frame_holds r y x ≡ true
on-line-held r y x from upto begun within = grind (arith, nat_tests)

pub returns-then-y-rect-2-clause-owned : goal.returns-then-y-rect-2-clause-owned
returns-then-y-rect-2-clause-owned c = λ u from upto. elim (c.widen.ensures.owned u from upto) [
  | inl before ↦ inl before
  | inr held ↦ inr (on-line-held c.args.rect c.args.y u (omega arith) (omega arith) held.0 held.1)
]

off-line : (o : ℕ → Option ℕ) (p : ℕ) (r : Rect) (y x : ℕ) → (y < r.top) ⊎ (r.bottom < y) → option_or (o x) (if frame_holds r y x then Some p else None) ≡ o x
off-line o p r y x off =
    let none : frame_holds r y x ≡ false = grind (arith, nat_tests) in
    ap (λ (b : Bool). option_or (o x) (if b then Some p else None)) none ∙ or-none (o x)

pub returns-then-y-rect-clause-laid : goal.returns-then-y-rect-clause-laid
returns-then-y-rect-clause-laid c = λ o h fresh.
    spans-as o (λ u. option_or (o u) (if frame_holds c.args.rect c.args.y u then Some c.args.panel.0 else None)) c.args.self.now.spans h
    (λ u. off-line o c.args.panel.0 c.args.rect c.args.y u (inl c.if-y-rect.true))

pub returns-else-y-rect-2-clause-laid : goal.returns-else-y-rect-2-clause-laid
returns-else-y-rect-2-clause-laid c = λ o h fresh.
    spans-as o (λ u. option_or (o u) (if frame_holds c.args.rect c.args.y u then Some c.args.panel.0 else None)) c.args.self.now.spans h
    (λ u. off-line o c.args.panel.0 c.args.rect c.args.y u (inr c.if-y-rect-2.false))
