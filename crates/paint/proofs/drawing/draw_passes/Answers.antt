-- `draw_passes`: it draws each stroke in its pass, and the order doesn't matter.
use Rattle.std.proofs.lemmas.Grind.{common_steps}
use Rattle.std.specs.Prelude.{◌≡◌, ◌≢◌, ◌+◌, ◌<◌, ◌≤◌, ◌∷◌, ◌++◌, if◌then◌else◌}
use Rattle.paint.specs.{ℕ, zero, suc, List, [], length, get_or, sym, ap, ◌∙◌, subst, arith, add-one, append_assoc, nat_lt, filter, sum_by, cases_eq, cases_lt, eq-eqb, ne_eqb, lt-ltb, le-ltb}
use Rattle.paint.specs.{sum_by-append, sum_by-cons, Seen, Picture, AreDrawn, in_passes, is_of, no_stroke}
use Rattle.paint.specs.declared.pen.Pen.{Pen}
use Rattle.paint.specs.declared.strokes.Stroke.{Stroke}
use Rattle.paint.proofs.PenSteps.{DrawsWithin-more}
use Rattle.paint.proofs.drawing.draw_passes.Goals as goal

-- what a stroke adds to a sum over the first passes, so many
abbrev early : (Stroke → ℕ) → ℕ → Stroke → ℕ
early f passes stroke = if nat_lt stroke.pass passes then f stroke else 0

early-before : (f : Stroke → ℕ) (passes : ℕ) (stroke : Stroke) → stroke.pass < passes → early f passes stroke ≡ f stroke
early-before f passes stroke before = grind (arith, lt-ltb)

early-past : (f : Stroke → ℕ) (passes : ℕ) (stroke : Stroke) → passes ≤ stroke.pass → early f passes stroke ≡ 0
early-past f passes stroke past = grind (arith, le-ltb)

early-alike : (f : Stroke → ℕ) (passes : ℕ) (stroke : Stroke) → stroke.pass ≢ passes → early f passes stroke ≡ early f (suc passes) stroke
early-alike f passes stroke other = grind (arith, cases_lt, early-before, early-past)

sum_by-early_more : (f : Stroke → ℕ) (passes : ℕ) (strokes : List Stroke) → sum_by (early f passes) strokes + sum_by f (filter (is_of passes) strokes) ≡ sum_by (early f (suc passes)) strokes
sum_by-early_more f passes [] = omega arith
sum_by-early_more f passes (stroke ∷ strokes) = grind (arith, sum_by-cons, cases_eq, eq-eqb, early-past, early-before, ne_eqb, early-alike, (sum_by-early_more f passes strokes), common_steps)

sum_by-early_none : (f : Stroke → ℕ) (strokes : List Stroke) → sum_by (early f 0) strokes ≡ 0
sum_by-early_none f [] = omega arith
sum_by-early_none f (stroke ∷ strokes) = omega (arith, sum_by-cons (early f 0) stroke strokes, early-past f 0 stroke (omega arith), sum_by-early_none f strokes)

sum_by-in_passes : (f : Stroke → ℕ) (passes : ℕ) (strokes : List Stroke) → sum_by f (in_passes passes strokes) ≡ sum_by (early f passes) strokes
sum_by-in_passes f zero strokes = sym (sum_by-early_none f strokes)
sum_by-in_passes f (suc passes) strokes = grind (arith, sum_by-append, sum_by-early_more, (sum_by-in_passes f passes strokes), common_steps)

sum_by-early_all : (f : Stroke → ℕ) (passes : ℕ) (strokes : List Stroke) → ((k : ℕ) → k < length strokes → (get_or strokes k no_stroke).pass < passes)
    → sum_by (early f passes) strokes ≡ sum_by f strokes
sum_by-early_all f passes [] within = omega arith
sum_by-early_all f passes (stroke ∷ strokes) within =
    omega (
      arith,
      sum_by-cons (early f passes) stroke strokes,
      sum_by-cons f stroke strokes,
      early-before f passes stroke (within 0 (omega arith)),
      sum_by-early_all f passes strokes (λ k few. within (suc k) (omega arith)),
    )

-- in another order they are drawn too
drawn-alike : {before now : Seen} {old pen : Pen} {shown wanted : Picture} {one other : List Stroke} → AreDrawn before now old pen shown wanted one
    → ((f : Stroke → ℕ) → sum_by f one ≡ sum_by f other) → AreDrawn before now old pen shown wanted other
drawn-alike {wanted} h same = grind (arith, DrawsWithin-more, common_steps)

pub loop-pass-preserved : goal.loop-pass-preserved
loop-pass-preserved g c = record {
  drawn = λ before begun others h.
      let strokes = c.args.strokes.now in
      let pass = c.loop-pass.pass in
      let more : (others ++ in_passes pass strokes) ++ filter (is_of pass) strokes ≡ others ++ in_passes (pass + 1) strokes =
      append_assoc others (in_passes pass strokes) (filter (is_of pass) strokes) ∙ ap (λ n. others ++ in_passes n strokes) (sym (add-one pass)) in
      subst (AreDrawn before (g.W.Sink.seen c.draw_pass.new.sink) begun c.draw_pass.new.pen c.args.update.now.shown.now c.args.update.now.wanted.now) more
      (c.draw_pass.ensures.drawn before begun (others ++ in_passes pass strokes) (c.loop-pass.invariant.drawn before begun others h));
  same = grind arith;
}

pub returns-clause-drawn : goal.returns-clause-drawn
returns-clause-drawn g c = grind (arith, drawn-alike, sum_by-append, sum_by-in_passes, sum_by-early_all, common_steps)
