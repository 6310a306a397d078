-- `doupdate_changes`: it looks where the picture may differ from what is shown when the text begins.
use Rattle.std.proofs.Common.{arith}
use Rattle.std.proofs.lemmas.Grind.{common_steps}
use Rattle.std.specs.Prelude.{◌≡◌, if◌then◌else◌}
use Rattle.paint.specs.{ℕ, ◌∙◌, Bool, true, false, List, length, Option, None, Some, subst, sym, ⊤, IfNone, MatchOption, option_map_or, unwrap_or, HasSize, Picture, Place, DifferOnly, Columns}
use Rattle.paint.specs.{ShownPicture, first_painter, start_from, last_shown}
use Rattle.paint.proofs.painter.Painter.doupdate_changes.Goals as goal

-- what is known is what was shown last
known-only : (clear : Bool) (cursor : Option Place) (picture wanted : Picture) (only : List (Option Columns))
    → MatchOption (last_shown picture cursor) ⊤ (λ (shown : ShownPicture). DifferOnly only shown.picture wanted)
    → MatchOption (if clear then None else cursor) ⊤ (λ (_ : Place). DifferOnly only picture wanted)
known-only true cursor picture wanted only h = tt
known-only false None picture wanted only h = tt
known-only false (Some place) picture wanted only h = h

of-each : {X : Type 0} (changes : Option X) {P Q : X → Type 0} → ((x : X) → P x → Q x) → MatchOption changes ⊤ P → MatchOption changes ⊤ Q
of-each None f h = tt
of-each (Some x) f h = f x h

-- the changes that are taken: those that are given, where it is known what is shown, and else all
taken : {X : Type 0} (now : X → List (Option Columns)) (lines columns : ℕ) (known : Option Place) (changes : Option X) (own : X) (picture : Picture) {given : Option X} {picked : X} {shown wanted : Picture}
    → given ≡ option_map_or (λ (_ : Place). changes) known None → picked ≡ unwrap_or given own → HasSize lines columns shown → HasSize lines columns wanted
    → shown ≡ (start_from (first_painter lines columns) (last_shown picture known)).picture → length (now own) ≡ lines
    → IfNone given ((a b : Picture) → HasSize lines columns a → HasSize lines columns b → DifferOnly (now own) a b)
    → MatchOption changes ⊤ (λ (c : X). length (now c) ≡ lines) → MatchOption changes ⊤ (λ (c : X). MatchOption known ⊤ (λ (_ : Place). DifferOnly (now c) picture wanted))
    → (length (now picked) ≡ lines) × DifferOnly (now picked) shown wanted
taken now lines columns None changes own picture {picked = picked} {shown = shown} {wanted = wanted} e p size wanted_size is long all height only = grind (arith, common_steps)
taken now lines columns (Some place) None own picture {picked = picked} {shown = shown} {wanted = wanted} e p size wanted_size is long all height only = grind (arith, common_steps)
taken now lines columns (Some place) (Some c) own picture {picked = picked} {shown = shown} {wanted = wanted} e p size wanted_size is long all height only = grind (arith, common_steps)

pub invariant_of-update : goal.invariant_of-update
invariant_of-update g c =
    let is = c.self.view_is in
    let lines = c.self.inside.lines in
    let columns = c.self.inside.columns in
    let start = c.begin.ensures.start (first_painter lines columns) c.self.invariant.2 in
    let wanted = g.V.VirtualScreen.shown c.args.screen.now in
    let wanted_size : HasSize lines columns wanted.picture = rw (sym is) at c.requires.can.size in
    let only = of-each c.args.changes (λ changes h. known-only c.clear_wanted.result c.self.inside.cursor c.self.inside.picture wanted.picture changes.now h)
    (rw (sym is) at c.requires.changes) in
    let picked = taken (λ changes. changes.now) lines columns c.known_cursor-known.result c.args.changes _ c.self.inside.picture c.given_where_known-given.ensures c.unwrap_or-changes.ensures
    start.size wanted_size start.picture (c.fill_unless.ensures.height ∙ c.self.invariant.3) (rw c.self.invariant.3 at c.fill_unless.ensures.only) (rw (sym is) at c.requires.height)
    (subst (λ known. MatchOption c.args.changes ⊤ (λ changes. MatchOption known ⊤ (λ (_ : Place). DifferOnly changes.now c.self.inside.picture wanted.picture))) (sym c.known_cursor-known.ensures) only) in
    record {
      sound = record {
        few_lines = c.self.invariant.0;
        few_columns = c.self.invariant.1;
        height = picked.0;
        shown = start.size;
        wanted = rw c.virtual_screen-picture.ensures wanted_size;
        changes = rw c.virtual_screen-picture.ensures picked.1;
      };
      lines_spelled = c.self.invariant.5;
      columns_spelled = c.self.invariant.6;
      few_spelled = c.self.invariant.7;
    }
