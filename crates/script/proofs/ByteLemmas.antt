-- A line is gathered a byte at a time.
use Rattle.std.specs.Prelude.{◌+◌, ◌-◌, if◌then◌else◌, ◌↔◌, ◌≡◌, ◌≤◌, ◌<◌, ◌==◌, ◌∷◌, ◌++◌}
use Rattle.script.specs.{zero, suc, take, drop, get_or, position, add-one, drop-cons, length-take, Some, None, IsOk, OnOk, Result, is_err, eqb-true, drop-drop, drop-take, take-append-drop}
use Rattle.script.specs.{position-Some, fails_before_first, position_or_len, ℕ, Bool, true, false, List, [], length, refl, sym, ap, ◌∙◌, arith, append_assoc, append-nil, length-append, Consumes}
use Rattle.script.specs.{Consumes-nil, Consumes-trans, list_any-append, nat_tests, is_newline, newline, SourceSeen, HasNoNewline, ReadingEnds, ReadsLine, ReadsWhole, work_left, MovesBytes}
use Rattle.script.specs.{ReadsByte}
use Rattle.script.specs.declared.bytes.TheConstants.{LONGEST_PIECE}
use Rattle.script.specs.declared.limits.TheConstants.{LONGEST_LINE}
use Rattle.script.specs.declared.bytes.LineEnd.{LineEnd}
use Rattle.script.specs.declared.bytes.LineEnd.TheVariants.{Newline, ScriptEnd, ReadFailed}
use Rattle.script.specs.declared.bytes.Next.TheVariants.{Byte, End, Failed}

-- ---- how a reading ends

-- So far no end was met, no read failed, and no more is left than at first.
pub record ReadsOn (old new : SourceSeen) (unused left : List ℕ) : Type 0 where
  pub ended : new.met_end ≡ old.met_end
  pub past : old.met_end ≡ false → new.read_past_end ≡ old.read_past_end
  pub failures : new.failures ≡ old.failures
  pub progress : work_left new left ≤ work_left old unused

pub none_read : (old : SourceSeen) (unused : List ℕ) → ReadsOn old old unused unused
none_read old unused = record { ended = refl; past = λ unmet. refl; failures = refl; progress = omega arith }

pub ends_then : (old mid new : SourceSeen) (unused between left : List ℕ) (meets_end fails continues : Bool) → ReadsOn old mid unused between
    → ReadingEnds mid new between left meets_end fails continues → ReadingEnds old new unused left meets_end fails continues
ends_then old mid new unused between left meets_end fails continues so_far r = grind arith

pub more_read : (old mid new : SourceSeen) (unused between left : List ℕ) → ReadsOn old mid unused between → ReadingEnds mid new between left false false true
    → ReadsOn old new unused left
more_read old mid new unused between left so_far r = grind arith

-- ---- a line, gathered

-- The bytes so far, with those that were not used before, are a beginning of a line and what is not used.
pub record Gathered (old new : SourceSeen) (unused left line : List ℕ) : Type 0 where
  pub bytes : List ℕ
  pub read : Consumes old.left new.left bytes
  pub all : unused ++ bytes ≡ line ++ left
  pub no_newline : HasNoNewline line

pub gathered_none : (old : SourceSeen) (unused line : List ℕ) → line ≡ [] → Gathered old old unused unused line
gathered_none old unused line e = record { bytes = []; read = Consumes-nil old.left; all = grind (arith, append-nil); no_newline = rw e refl }

-- bytes that were moved into the line
pub gathered_moved : (old mid : SourceSeen) (unused left rest line after : List ℕ) → Gathered old mid unused left line → MovesBytes left rest line after
    → Gathered old mid unused rest after
gathered_moved old mid unused left rest line after g m = record {
  bytes = g.bytes;
  read = g.read;
  all = grind (arith, append_assoc);
  no_newline = grind (arith, list_any-append);
}

pub reads_moved : (old mid : SourceSeen) (unused left rest line after : List ℕ) → ReadsOn old mid unused left → MovesBytes left rest line after → ReadsOn old mid unused rest
reads_moved old mid unused left rest line after so_far m = record {
  ended = so_far.ended;
  past = so_far.past;
  failures = so_far.failures;
  progress = grind (arith, length-append);
}

pub gathered_more : (old mid new : SourceSeen) (unused left rest line after : List ℕ) (b : ℕ) → Gathered old mid unused left line → ReadsByte mid new left rest (Byte b)
    → is_newline b ≡ false → after ≡ line ++ b ∷ [] → Gathered old new unused rest after
gathered_more old mid new unused left rest line after b g n e is = record {
  bytes = g.bytes ++ n.0;
  read = grind (arith, Consumes-trans);
  all = grind (arith, append_assoc);
  no_newline = grind (arith, list_any-append);
}

-- a newline
pub gathered_line : (old mid new : SourceSeen) (unused left rest line : List ℕ) (b : ℕ) → Gathered old mid unused left line → ReadsByte mid new left rest (Byte b)
    → b ≡ newline → length line ≤ LONGEST_LINE → ReadsLine old new unused rest line (Some Newline)
gathered_line old mid new unused left rest line b g n e h =
    record { bytes = g.bytes ++ n.0; read = grind (arith, Consumes-trans); is_line = grind (arith, append_assoc); no_newline = g.no_newline; at_end = λ e. cc }

-- a byte too many
pub gathered_too_long : (old mid new : SourceSeen) (unused left rest line : List ℕ) (b : ℕ) → Gathered old mid unused left line → ReadsByte mid new left rest (Byte b)
    → is_newline b ≡ false → LONGEST_LINE ≤ length line → ReadsLine old new unused rest line None
gathered_too_long old mid new unused left rest line b g n e h =
    record { bytes = g.bytes ++ n.0; read = grind (arith, Consumes-trans); is_line = (b, grind (arith, append_assoc), e, h); no_newline = g.no_newline; at_end = λ e. cc }

pub gathered_last : (old mid new : SourceSeen) (unused left rest line : List ℕ) → Gathered old mid unused left line → ReadsByte mid new left rest End
    → length line ≤ LONGEST_LINE → ReadsLine old new unused rest line (Some ScriptEnd)
gathered_last old mid new unused left rest line g n h =
    record { bytes = g.bytes ++ []; read = grind (arith, Consumes-trans); is_line = grind (arith, append-nil); no_newline = g.no_newline; at_end = λ e. n.3 }

pub gathered_failed : (old mid new : SourceSeen) (unused left rest line : List ℕ) → Gathered old mid unused left line → ReadsByte mid new left rest Failed
    → length line ≤ LONGEST_LINE → ReadsLine old new unused rest line (Some ReadFailed)
gathered_failed old mid new unused left rest line g n h =
    record { bytes = g.bytes ++ []; read = grind (arith, Consumes-trans); is_line = grind (arith, append-nil); no_newline = g.no_newline; at_end = λ e. cc }

-- ---- a line that is read where it is

no_newline_before : (xs : List ℕ) (i : ℕ) → ((k : ℕ) → k < i → is_newline (get_or xs k 0) ≡ false) → HasNoNewline (take i xs)
no_newline_before xs zero h = refl
no_newline_before [] (suc i) h = refl
no_newline_before (x ∷ xs) (suc i) h = let first = h 0 (omega arith) in rw first (no_newline_before xs i (λ k below. h (suc k) (omega arith)))

-- the first bytes of a piece that come before its first newline, moved to the end of a line
pub moves_bytes : (unused rest line after : List ℕ) (count : ℕ) → count ≤ position_or_len is_newline unused → rest ≡ drop count unused
    → after ≡ line ++ take count unused → length after ≤ LONGEST_LINE → MovesBytes unused rest line after
moves_bytes unused rest line after count early left is short = record {
  moved = take count unused;
  from = grind (arith, take-append-drop);
  to = is;
  no_newline = no_newline_before unused count (λ k below. fails_before_first is_newline unused k 0 (omega arith));
  short = short;
}

-- what a call that didn't fail says
pub ok_parts : {T E : Type 0} (r : Result T E) (P Q : Type 0) → false ≡ is_err r → OnOk r P → IsOk r ↔ Q → P × Q
ok_parts r P Q h said alike = grind arith

-- the bytes up to the first newline, which comes early enough
newline_found : (seen : SourceSeen) (unused : List ℕ) (at : ℕ) → Some at ≡ position is_newline unused → at < LONGEST_PIECE
    → ReadsLine seen seen unused (drop (at + 1) unused) (take at unused) (Some Newline)
newline_found seen unused at found early =
    let found_at = position-Some is_newline unused at 0 (sym found) in
    let here = drop-cons unused at 0 found_at.0 ∙ ap (λ b. b ∷ drop (suc at) unused) (eqb-true (get_or unused at 0) newline found_at.1) in
    let all = sym (take-append-drop at unused) ∙ ap (λ l. take at unused ++ l) (here ∙ ap (λ n. newline ∷ drop n unused) (sym (add-one at))) in
    record {
      bytes = [];
      read = Consumes-nil seen.left;
      is_line = (append-nil unused ∙ all, omega (arith, length-take at unused));
      no_newline = no_newline_before unused at found_at.2;
      at_end = λ e. cc;
    }

pub unread_line : (seen : SourceSeen) (unused bytes gathered : List ℕ) (at : ℕ) → bytes ≡ unused → Some at ≡ position is_newline bytes → at < LONGEST_PIECE
    → ReadsLine seen seen unused (drop (at + 1) bytes) (if at + 1 == 0 then gathered else take (at + 1 - 1) bytes) (Some Newline)
unread_line seen unused bytes gathered at same found early = grind (arith, nat_tests, newline_found)

-- the bytes of a piece from one on, without the first
pub first_left_out : (piece : List ℕ) (from to count : ℕ) → count ≤ length (take (to - from) (drop from piece)) → from ≤ to
    → take (to - (from + count)) (drop (from + count) piece) ≡ drop count (take (to - from) (drop from piece))
first_left_out piece from to count within order = grind (arith, length-take, drop-take count (to - (from + count)) (drop from piece), drop-drop)

-- ---- a line of any length

-- Of a line that is kept nothing was passed, and of another too much to keep it.
abbrev pub HasPassed : Bool → List ℕ → Type 0
HasPassed true line = line ≡ []
HasPassed false line = LONGEST_LINE < length line

-- The bytes so far are a beginning of some line.
pub record Passed (old new : SourceSeen) (unused left : List ℕ) (is_kept : Bool) : Type 0 where
  pub line : List ℕ
  pub gathered : Gathered old new unused left line
  pub passed : HasPassed is_kept line

pub passed_none : (old : SourceSeen) (unused : List ℕ) → Passed old old unused unused true
passed_none old unused = record { line = []; gathered = gathered_none old unused [] refl; passed = refl }

pub passed_more : (old mid new : SourceSeen) (unused left rest line : List ℕ) (is_kept : Bool) → Passed old mid unused left is_kept → ReadsLine mid new left rest line None
    → Passed old new unused rest false
passed_more old mid new unused left rest line is_kept s r = record {
  line = s.line ++ (line ++ r.is_line.0 ∷ []);
  gathered = record {
    bytes = s.gathered.bytes ++ r.bytes;
    read = grind (arith, Consumes-trans);
    all = grind (arith, append_assoc);
    no_newline = grind (arith, list_any-append);
  };
  passed = simp length-append (omega (arith, r.is_line.3));
}

pub passed_end : (old mid new : SourceSeen) (unused left rest kept : List ℕ) (end : LineEnd) (is_kept : Bool) → Passed old mid unused left is_kept
    → ReadsLine mid new left rest kept (Some end) → ReadsWhole old new unused rest kept end is_kept
passed_end old mid new unused left rest kept end is_kept s r = record {
  reads = record {
    line = s.line ++ kept;
    bytes = s.gathered.bytes ++ r.bytes;
    read = grind (arith, Consumes-trans);
    ends = grind (arith, append_assoc);
    no_newline = grind (arith, list_any-append);
    at_end = r.at_end;
  };
  keeps = grind (arith, length-append);
}
