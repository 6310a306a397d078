-- The text of a doupdate after a stream that agrees with the painter: where it clears, it doesn't matter what was sent before.
use Rattle.std.specs.Prelude.{◌≡◌, ◌<◌, ◌≤◌, ◌++◌}
use Rattle.paint.specs.{Bool, ℕ, List, [], length, take, Option, Some, None, refl, arith, ⊤, MatchOption, MatchOption-from_none, HasSize, EndsOrEscapes, Terminal, IsInProfile, LeadsWithBreaks, Shows}
use Rattle.paint.specs.{showing, PainterState, ShownPicture, IsUpdateText, MayRead, Agrees, known_picture, opening, opening_from}
use Rattle.ecma.proofs.PictureSizes.{size-effects}
use Rattle.ecma.proofs.Joining.{Leads-repairs, Leads-take, InProfile-append, LeadsWithBreaks-append, LeadsWithBreaks-in_profile, LeadsWithBreaks-in_profile_then}

-- ---- a text that begins with the opening

escape-take : (n : ℕ) (rest : List ℕ) → EndsOrEscapes (take n (opening ++ rest))
escape-take n rest = grind arith

text-some : (rest : List ℕ) → 0 < length (opening ++ rest)
text-some rest = omega arith

-- ---- what is known when a doupdate begins

-- the terminal shows what the painter knows
abbrev pub IsKnown : Option ShownPicture → Terminal → Type 0
IsKnown last t = MatchOption last ⊤ (λ shown. t ≡ showing shown.picture shown.cursor)

abbrev LeadsTo : List ℕ → Terminal → Option ShownPicture → Type 0
LeadsTo stream t last = MatchOption last ⊤ (λ shown. LeadsWithBreaks stream t (showing shown.picture shown.cursor))

known_picture-leads : (painter : PainterState) (clear : Bool) (stream : List ℕ) (t : Terminal) → Agrees painter stream t → LeadsTo stream t (known_picture painter clear)
known_picture-leads painter clear stream t agrees = grind arith

-- a terminal of the size that shows what the painter knows may read its text
pub reads-known : (painter : PainterState) (clear : Bool) (t : Terminal) → HasSize painter.lines painter.columns t.picture → IsKnown painter.last t → MayRead painter (known_picture painter clear) t
reads-known painter clear t size is = grind arith

-- ---- after a stream

module _ (painter : PainterState) (wanted : ShownPicture) (stream rest : List ℕ) (t u : Terminal) (size : HasSize painter.lines painter.columns t.picture) (profile : IsInProfile stream t u) where
  u-size : HasSize painter.lines painter.columns u.picture
  u-size = size-effects painter.lines painter.columns profile.items t u size profile.have_effect

  leads-repaired : (last : Option ShownPicture) → LeadsTo stream t last → ((v : Terminal) → MayRead painter last v → Shows (opening_from last ++ rest) v wanted.picture wanted.cursor)
      → LeadsWithBreaks (stream ++ (opening_from last ++ rest)) t (showing wanted.picture wanted.cursor)
  leads-repaired None leads shows = Leads-repairs stream (opening ++ rest) t u (showing wanted.picture wanted.cursor) profile (shows u u-size) (text-some rest) refl
  leads-repaired (Some shown) leads shows = grind (arith, LeadsWithBreaks-append)

  cut : (last : Option ShownPicture) (sent : ℕ) → LeadsTo stream t last → ((v : Terminal) → MayRead painter last v → Shows (opening_from last ++ rest) v wanted.picture wanted.cursor)
      → (v : Terminal) × IsInProfile (stream ++ take sent (opening_from last ++ rest)) t v
  cut None sent leads shows =
      let part = Leads-take (opening ++ rest) u (showing wanted.picture wanted.cursor) sent (shows u u-size) in
      (part.0, InProfile-append stream (take sent (opening ++ rest)) t u part.0 profile part.1 (escape-take sent rest))
  cut (Some shown) sent leads shows =
      let part = Leads-take rest (showing shown.picture shown.cursor) (showing wanted.picture wanted.cursor) sent (shows (showing shown.picture shown.cursor) refl) in
      (part.0, LeadsWithBreaks-in_profile_then stream (take sent rest) t (showing shown.picture shown.cursor) part.0 leads part.1)

-- ---- a painter's streams

pub nothing-in_profile : (t : Terminal) → IsInProfile [] t t
nothing-in_profile t = grind arith

pub Agrees-unknown : (painter : PainterState) → painter.last ≡ None → (stream : List ℕ) (t u : Terminal) → IsInProfile stream t u → Agrees painter stream t
Agrees-unknown painter none stream t u profile = grind (arith, MatchOption-from_none)

pub shows-update : (painter : PainterState) (clear : Bool) (wanted : ShownPicture) (stream text : List ℕ) (t : Terminal) → HasSize painter.lines painter.columns t.picture → Agrees painter stream t
    → IsUpdateText painter clear wanted text → LeadsWithBreaks (stream ++ text) t (showing wanted.picture wanted.cursor)
shows-update painter clear wanted stream text t size agrees is_text =
    rw is_text.parts (leads-repaired painter wanted stream is_text.rest t agrees.in_profile.0 size agrees.in_profile.1 (known_picture painter clear) (known_picture-leads painter clear stream t agrees)
    (rw is_text.parts at is_text.shows))

pub Agrees-update : (painter : PainterState) (clear : Bool) (wanted : ShownPicture) (stream text : List ℕ) (t : Terminal) → HasSize painter.lines painter.columns t.picture → Agrees painter stream t
    → IsUpdateText painter clear wanted text → Agrees (record painter { last = Some wanted }) (stream ++ text) t
Agrees-update painter clear wanted stream text t size agrees is_text =
    let shows = shows-update painter clear wanted stream text t size agrees is_text in
    record { in_profile = (showing wanted.picture wanted.cursor, LeadsWithBreaks-in_profile (stream ++ text) t (showing wanted.picture wanted.cursor) shows); leads = shows }

pub Agrees-fault : (painter : PainterState) (clear : Bool) (wanted : ShownPicture) (stream text : List ℕ) (sent : ℕ) (t : Terminal) → HasSize painter.lines painter.columns t.picture
    → Agrees painter stream t
    → IsUpdateText painter clear wanted text → sent ≤ length text → Agrees (record painter { last = None }) (stream ++ take sent text) t
Agrees-fault painter clear wanted stream text sent t size agrees is_text within = record {
  in_profile = rw is_text.parts (cut painter wanted stream is_text.rest t agrees.in_profile.0 size agrees.in_profile.1 (known_picture painter clear) sent
      (known_picture-leads painter clear stream t agrees)
      (rw is_text.parts at is_text.shows));
  leads = tt;
}

pub ruleset unknown = (nothing-in_profile, Agrees-unknown)
