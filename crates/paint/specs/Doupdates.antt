-- What a doupdate sends, what it leaves of the painter, and which streams agree with a painter.
-- X/Open Curses Issue 7: doupdate, clearok.
use Rattle.std.specs.Prelude.{◌≡◌, ◌+◌, ◌-◌, ◌*◌, ◌%◌, ◌^◌, ◌<◌, ◌≤◌, ◌==◌, ◌&&◌, ◌∷◌, ◌++◌, if◌then◌else◌}
use Rattle.paint.specs.Names.{ℕ, List, [], Bool, true, length, take, codes, Option, Some, None, ⊤, MatchOption, Result, MatchResult, is_ok, Appends, Picture, Place, HasSize, blank_picture, origin}
use Rattle.paint.specs.Names.{Cup, difference, VirtualScreen, LARGEST_SCREEN, colour_difference, escape, colour_bytes, none_bytes, position_bytes, selection_bytes, spelling, Terminal, IsInProfile}
use Rattle.paint.specs.Names.{LeadsWithBreaks, Shows, showing, count_after, next_count, Seen, Sent, WriteFault}
use Rattle.paint.specs.declared.outbox.TheConstants.{ROOM}

-- a picture with a cursor
pub record ShownPicture : Type 0 where
  pub picture : Picture
  pub cursor : Place

-- what a virtual screen wants to be shown
abbrev pub wanted_of : VirtualScreen → ShownPicture
wanted_of virtual = record { picture = virtual.picture; cursor = virtual.cursor }

-- A painter: the size of its terminals, and what it showed there last, where that is known.
pub record PainterState : Type 0 where
  pub lines : ℕ
  pub columns : ℕ
  pub last : Option ShownPicture

abbrev pub first_painter : ℕ → ℕ → PainterState
first_painter lines columns = record { lines = lines; columns = columns; last = None }

abbrev pub blank_shown : ℕ → ℕ → ShownPicture
blank_shown lines columns = record { picture = blank_picture lines columns; cursor = origin }

-- What is known of the terminals when a doupdate begins. It clears where that is nothing: where the painter knows
-- nothing, or a clear screen is asked for.
abbrev pub known_picture : PainterState → Bool → Option ShownPicture
known_picture painter clear = if clear then None else painter.last

-- what the terminals show then, or after the opening
abbrev pub start_from : PainterState → Option ShownPicture → ShownPicture
start_from painter None = blank_shown painter.lines painter.columns
start_from painter (Some shown) = shown

-- What the terminal shows before the text of a doupdate, or, where that clears, after its opening: a blank picture.
abbrev pub start_of_update : PainterState → Bool → ShownPicture
start_of_update painter clear = start_from painter (known_picture painter clear)

-- ---- texts

-- no rendition, the page erased, the cursor at the origin: 4, 4 and 6 bytes
abbrev pub opening : List ℕ
opening = escape ∷ codes "[0m" ++ escape ∷ codes "[2J" ++ escape ∷ codes "[1;1H"

-- the opening, where nothing is known
abbrev pub opening_from : Option ShownPicture → List ℕ
opening_from None = opening
opening_from (Some shown) = []

-- the terminals that may read the text: all of the size where nothing is known, and those that show what is known
abbrev pub MayRead : PainterState → Option ShownPicture → Terminal → Type 0
MayRead painter None t = HasSize painter.lines painter.columns t.picture
MayRead painter (Some shown) t = t ≡ showing shown.picture shown.cursor

abbrev pub same_place : Place → Place → Bool
same_place a b = a.0 == b.0 && a.1 == b.1

-- from a cursor to a place: nothing if it is there
abbrev pub move : Place → Place → List ℕ
move cursor place = if same_place cursor place then [] else spelling (Cup place.0 place.1)

-- the most bytes of a changed place without colours: a position, a selection and a character, 27 in all
abbrev pub place_bytes : ℕ
place_bytes = position_bytes + selection_bytes + 1

-- the most bytes that end a text: a selection of none and a position, 14 in all
abbrev pub end_bytes : ℕ
end_bytes = none_bytes + position_bytes

-- the most bytes of a text: those of each changed place, 6 more where the wanted picture has a colour there, the end's,
-- and the opening's
abbrev pub most_bytes : PainterState → Bool → ShownPicture → ℕ
most_bytes painter clear wanted =
    let start = (start_of_update painter clear).picture in
    place_bytes * difference start wanted.picture + colour_bytes * colour_difference start wanted.picture + end_bytes + length (opening_from (known_picture painter clear))

-- The text of a doupdate, whether a clear screen is asked for or not. It begins with the opening where the doupdate
-- clears, and shows the picture and the cursor, read from any terminal that may read it. It is short, and where nothing
-- changed it only moves the cursor.
pub record IsUpdateText (painter : PainterState) (clear : Bool) (wanted : ShownPicture) (text : List ℕ) : Type 0 where
  pub rest : List ℕ
  pub parts : text ≡ opening_from (known_picture painter clear) ++ rest
  pub shows : (t : Terminal) → MayRead painter (known_picture painter clear) t → Shows text t wanted.picture wanted.cursor
  pub short : length text ≤ most_bytes painter clear wanted
  pub unchanged : difference (start_of_update painter clear).picture wanted.picture ≡ 0 → rest ≡ move (start_of_update painter clear).cursor wanted.cursor

-- ---- what a doupdate did

-- how many bytes a full outbox has at least: it hasn't room for the characters of a line
abbrev pub full_outbox : ℕ
full_outbox = ROOM - LARGEST_SCREEN

-- For so many bytes, at most one write for each full outbox, and one more, took all of its piece: so many writes there
-- are where none is short.
pub record WritesFew (old new : Seen) (bytes : ℕ) : Type 0 where
  pub writes : ℕ
  pub few : writes * full_outbox ≤ bytes + full_outbox
  pub count : new.whole_writes % 2 ^ 64 ≡ (old.whole_writes + writes) % 2 ^ 64

-- The sink took all of one text, and the one flush that was tried, after it, succeeded. No failure was counted.
pub record Updates (painter : PainterState) (clear : Bool) (old new : Seen) (wanted : ShownPicture) (bytes : ℕ) : Type 0 where
  pub text : List ℕ
  pub is_text : IsUpdateText painter clear wanted text
  pub count : bytes ≡ length text
  pub taken : Appends old.taken new.taken text
  pub no_failure : new.failures ≡ old.failures
  pub writes : WritesFew old new (length text)
  pub flushes : new.flushes ≡ next_count old.flushes
  pub flushed : new.flushed ≡ true

-- The sink took the first bytes of such a text, and then a write failed, or, after all of it, the one flush.
pub record BreaksOff (painter : PainterState) (clear : Bool) (old new : Seen) (wanted : ShownPicture) (sent : ℕ) : Type 0 where
  pub text : List ℕ
  pub is_text : IsUpdateText painter clear wanted text
  pub within : sent ≤ length text
  pub taken : Appends old.taken new.taken (take sent text)
  pub failure : new.failures ≡ next_count old.failures
  pub writes : WritesFew old new (length text)
  pub flushes : new.flushes ≡ count_after (sent == length text) old.flushes

-- a doupdate did the one or the other
abbrev pub UpdateEnds : PainterState → Bool → Seen → Seen → ShownPicture → Result Sent WriteFault → Type 0
UpdateEnds painter clear old new wanted result =
    MatchResult result (λ sent. Updates painter clear old new wanted sent.bytes) (λ fault. BreaksOff painter clear old new wanted fault.sent)

-- a painter can show a virtual screen that has its size, and the cursor in it
pub record CanShow (painter : PainterState) (virtual : VirtualScreen) : Type 0 where
  pub size : HasSize painter.lines painter.columns virtual.picture
  pub line : virtual.cursor.0 < painter.lines
  pub column : virtual.cursor.1 < painter.columns

module _ {W : Type 0} (seen : W → Seen) (name : W → ℕ) where
  -- A doupdate was made, and ended so: all that is known of it. Where it succeeded, the painter knows what it showed,
  -- and else nothing. The sink is the same.
  pub record UpdateMade (old : PainterState) (before : W) (virtual : VirtualScreen) (end : Result Sent WriteFault)
      (new : PainterState) (after : W) : Type 0 where
    pub text : UpdateEnds old virtual.clear (seen before) (seen after) (wanted_of virtual) end
    pub painter : new ≡ record old { last = (if is_ok end then Some (wanted_of virtual) else None) }
    pub same : name after ≡ name before

-- ---- streams that agree with a painter

-- All that was sent to a terminal so far agrees with the painter, read from t: it is in the profile, and where the
-- painter knows what it showed last, it leads from t to that. Sequences that were never finished may be in it, each
-- before an escape.
pub record Agrees (painter : PainterState) (stream : List ℕ) (t : Terminal) : Type 0 where
  pub in_profile : (u : Terminal) × IsInProfile stream t u
  pub leads : MatchOption painter.last ⊤ (λ shown. LeadsWithBreaks stream t (showing shown.picture shown.cursor))
