-- A window shows a part of itself where that is; windows of two grids share no cell; of one grid the shared lines and columns are the rectangle.
-- Search and grind take seconds to fail at what says that the windows are sound, so those are answered by `each_sound`.
use Rattle.std.specs.Prelude.{◌≡◌, ◌<◌}
use Rattle.grids.specs.{rules, Some, ℕ, arith, subst, AreRectangle, SharesPart, windows}
use Rattle.grids.proofs.Sounds.{each_sound}
use Rattle.grids.proofs.Showing.{leads_shown}
use Rattle.grids.proofs.Seen.{seen-above, seen-apart, seen-beside, seen-itself, seen-there}
use Rattle.grids.proofs.Chain.{some_and, some_of}
use Rattle.grids.proofs.table.Grids.seen_in.Goals as goal

pub returns-then-eq-clause-seen : goal.returns-then-eq-clause-seen
returns-then-eq-clause-seen c =
    let a = c.args in
    let map = (windows a.self.now).window in
    let leads = leads_shown a.from.0 c.self.view_is c.deref.ensures.value c.origin_of-source.ensures.leads in
    let b = some_and (map a.from.0) (λ b. (a.rect.bottom < b.lines) × (a.rect.right < b.columns)) c.requires.inside in
    let same : a.from.0 ≡ a.to.0 = search rules in
    subst (λ (u : ℕ). AreRectangle (SharesPart map a.from.0 a.rect u) (Some a.rect)) same
    (seen-itself map a.from.0 a.rect b.0 _ b.1 leads c.requires.ordered_lines c.requires.ordered_columns b.2)

pub returns-then-source-target-clause-seen : goal.returns-then-source-target-clause-seen
returns-then-source-target-clause-seen c =
    let a = c.args in
    let map = (windows a.self.now).window in
    let leads_p = leads_shown a.from.0 c.self.view_is c.deref.ensures.value c.origin_of-source.ensures.leads in
    let leads_q = leads_shown a.to.0 c.self.view_is c.deref-2.ensures.value c.origin_of-target.ensures.leads in
    let b = some_of (map a.to.0) c.requires.there in
    seen-apart map a.from.0 a.to.0 a.rect b.0 _ _ b.1 leads_p leads_q c.if-source-target.true

pub returns-in_err-down-clause-seen : goal.returns-in_err-down-clause-seen
returns-in_err-down-clause-seen c =
    let a = c.args in
    let map = (windows a.self.now).window in
    let leads_p = leads_shown a.from.0 c.self.view_is c.deref.ensures.value c.origin_of-source.ensures.leads in
    let leads_q = leads_shown a.to.0 c.self.view_is c.deref-2.ensures.value c.origin_of-target.ensures.leads in
    let b = some_and (map a.to.0) (λ b. (c.size-lines.result.0 ≡ b.lines) × (c.size-lines.result.1 ≡ b.columns)) c.size-lines.ensures in
    rw c.from_residual.ensures (seen-above map a.from.0 a.to.0 a.rect b.0 _ _ b.1 leads_p leads_q (rw b.2.0 at c.in_err-down.ensures.shown))

pub returns-in_err-along-clause-seen : goal.returns-in_err-along-clause-seen
returns-in_err-along-clause-seen c =
    let a = c.args in
    let map = (windows a.self.now).window in
    let leads_p = leads_shown a.from.0 c.self.view_is c.deref.ensures.value c.origin_of-source.ensures.leads in
    let leads_q = leads_shown a.to.0 c.self.view_is c.deref-2.ensures.value c.origin_of-target.ensures.leads in
    let b = some_and (map a.to.0) (λ b. (c.size-lines.result.0 ≡ b.lines) × (c.size-lines.result.1 ≡ b.columns)) c.size-lines.ensures in
    rw c.from_residual-in_err-along.ensures (seen-beside map a.from.0 a.to.0 a.rect b.0 _ _ b.1 leads_p leads_q (rw b.2.1 at c.in_err-along.ensures.shown))

pub returns-clause-seen : goal.returns-clause-seen
returns-clause-seen c =
    let a = c.args in
    let map = (windows a.self.now).window in
    let leads_p = leads_shown a.from.0 c.self.view_is c.deref.ensures.value c.origin_of-source.ensures.leads in
    let leads_q = leads_shown a.to.0 c.self.view_is c.deref-2.ensures.value c.origin_of-target.ensures.leads in
    let b = some_and (map a.to.0) (λ b. (c.size-lines.result.0 ≡ b.lines) × (c.size-lines.result.1 ≡ b.columns)) c.size-lines.ensures in
    seen-there map a.from.0 a.to.0 a.rect b.0 _ _ b.1 leads_p leads_q c.if-source-target.false c.in_ok-down.down c.in_ok-along.along
    (rw b.2.0 at c.in_ok-down.ensures.shown) (rw b.2.1 at c.in_ok-along.ensures.shown) (rw b.2.0 at c.in_ok-down.ensures.within) (rw b.2.1 at c.in_ok-along.ensures.within)

pub returns-then-eq-clause-sound : goal.returns-then-eq-clause-sound
returns-then-eq-clause-sound c = grind (arith, each_sound)

pub returns-then-source-target-clause-sound : goal.returns-then-source-target-clause-sound
returns-then-source-target-clause-sound c = grind (arith, each_sound)

pub returns-in_err-down-clause-sound : goal.returns-in_err-down-clause-sound
returns-in_err-down-clause-sound c = grind (arith, each_sound)

pub returns-in_err-along-clause-sound : goal.returns-in_err-along-clause-sound
returns-in_err-along-clause-sound c = grind (arith, each_sound)

pub returns-clause-sound : goal.returns-clause-sound
returns-clause-sound c = grind (arith, each_sound)
