-- The findings of a script, a line at a time.
use Rattle.std.specs.Prelude.{◌≡◌, ◌+◌, ◌<◌, ◌∷◌, ◌++◌}
use Rattle.checks.specs.{ℕ, List, [], length, Bool, true, false, not, Err, refl, sym, ap, subst, ◌∙◌, append-nil, append_assoc, length-append, arith, both_ways, false_from_ne_true, nat_tests}
use Rattle.checks.specs.{flat_map-append, list_any_at, length-slice_split, slice_split_at, slice_split_none, take-append-add, Appends-trans, Consumes-nil, Consumes-trans, All, flat_map, slice_split}
use Rattle.checks.specs.{Consumes, IsAtEnd, Refusal, Seen, SourceSeen, is_newline, next_number, parse_line, LineEnd, Newline, ReadFailed, ScriptEnd, LineTooLong, LONGEST_LINE, placeless, Call}
use Rattle.checks.specs.{HoldsUpTo, IsRefusedEverywhere, World, tests_of, EndsLine, HasNoNewline, IsKept, ReadingEnds, ReadsToEnd, end_failed, has_newline, met_end, IsWholeAt, IsNotWritten}
use Rattle.checks.specs.{PuttingEnds, WritingEnds, AreFindings, AreFindingsOf, ReportsLine, ReportsRest, count_line, count_of, report, IsReported, ReportsMore, ReportsRead, ReportsScript}
use Rattle.checks.specs.{ReportsSome}
use Rattle.commands.proofs.PutLemmas.{cut_before, not_put, nothing_put, put_after}
use Rattle.checks.specs.declared.report.Report.{Report}

-- ---- lines with a finding

abbrev flat : List (List ℕ) → List ℕ
flat lines = flat_map (λ line. line) lines

flat_more : (lines : List (List ℕ)) (text : List ℕ) → flat (lines ++ text ∷ []) ≡ flat lines ++ text
flat_more lines text = simp (flat_map-append, append-nil)

count_more : (lines : List (List ℕ)) (text : List ℕ) → next_number (count_of lines) ≡ count_of (lines ++ text ∷ [])
count_more lines text = grind (arith, nat_tests, length-append)

pub none_reported : (out : Seen) (report : Report) → report.is_written ≡ true → report.faulty ≡ 0 → IsReported out out report []
none_reported out report written none = grind (arith, nothing_put)

pub line_reported : (first old new : Seen) (before : Report) (lines : List (List ℕ)) (text : List ℕ) (faulty : ℕ) (is_put : Bool) → IsReported first old before lines
    → before.is_written ≡ true → faulty ≡ next_number before.faulty → PuttingEnds is_put old new text
    → IsReported first new (record { faulty = faulty; is_written = is_put }) (lines ++ text ∷ [])
line_reported first old new before lines text faulty is_put r written more p = record { put = rw (flat_more lines text) (put_after _ _ _ _ _ _ _ r.put written p); faulty = grind (arith, count_more) }

pub line_dropped : (first old : Seen) (before : Report) (lines : List (List ℕ)) (text : List ℕ) (faulty : ℕ) → IsReported first old before lines → before.is_written ≡ false
    → faulty ≡ next_number before.faulty → IsReported first old (record { faulty = faulty; is_written = false }) (lines ++ text ∷ [])
line_dropped first old before lines text faulty r written more = record { put = rw (flat_more lines text) (cut_before _ _ _ _ _ r.put written); faulty = grind (arith, count_more) }

-- ---- a call

-- Where its text is makes no difference to what every screen refuses.
same_tests : (world : World) (call : Call) → tests_of world (placeless call) ≡ tests_of world call
same_tests world call = grind arith

pub call_found : (given call : Call) (why : Refusal) → IsRefusedEverywhere given why → placeless given ≡ call → IsRefusedEverywhere call why
call_found given call why refused is = λ world sound. subst (HoldsUpTo why) (sym (same_tests world given) ∙ ap (tests_of world) is) (refused world sound)

pub none_more : (out : Seen) (report : Report) → ReportsMore out out report report []
none_more out report = λ first reported r. rw (append-nil reported) r

-- ---- lines that are read

no_newlines : (line : List ℕ) → HasNoNewline line → All (λ b. is_newline b ≡ false) line
no_newlines line h = grind (arith, false_from_ne_true, both_ways, list_any_at)

line_first : (failed : Bool) (n : ℕ) (line : List ℕ) (pieces here others : List (List ℕ)) → 0 < length pieces → ReportsLine n line (parse_line line) here
    → AreFindings failed (next_number n) pieces others → AreFindings failed n (line ∷ pieces) (here ++ others)
line_first false n line pieces here others some first rest = (here, others, refl, first, rest)
line_first true n line [] here others some first rest = elim some [ ]
line_first true n line (piece ∷ pieces) here others some first rest = (here, others, refl, first, rest)

line_of_script : (failed : Bool) (n : ℕ) (line left : List ℕ) (here others : List (List ℕ)) → HasNoNewline line → ReportsLine n line (parse_line line) here
    → AreFindings failed (next_number n) (slice_split is_newline left) others → AreFindings failed n (slice_split is_newline (line ++ 10 ∷ left)) (here ++ others)
line_of_script failed n line left here others h first rest =
    let split : slice_split is_newline (line ++ 10 ∷ left) ≡ line ∷ slice_split is_newline left = grind (arith, slice_split_at, no_newlines) in
    rw split (line_first failed n line (slice_split is_newline left) here others (grind (arith, length-slice_split)) first rest)

long_line : (line : List ℕ) → LONGEST_LINE < length line → parse_line line ≡ Err LineTooLong
long_line line h = grind (arith, nat_tests)

-- what is reported of a line, kept or not, is by what it says
found_is : (n : ℕ) (line kept : List ℕ) (is_kept : Bool) (end : LineEnd) (texts : List (List ℕ)) → IsKept is_kept line kept → end_failed end ≡ false
    → ReportsRead n kept is_kept end texts → ReportsLine n line (parse_line line) texts
found_is n line kept is_kept end texts k e r = grind (arith, long_line)

found_is_rest : (n : ℕ) (line kept : List ℕ) (is_kept : Bool) (texts : List (List ℕ)) → IsKept is_kept line kept → ReportsRead n kept is_kept ReadFailed texts
    → ReportsRest n line texts
found_is_rest n line kept is_kept texts k r = grind (arith, nat_tests)

-- The findings of the lines of a script that were read, and what is left of it.
pub record Checking (input rest : SourceSeen) (out after : Seen) (unused : List ℕ) (number : ℕ) (report : Report) : Type 0 where
  pub text : List ℕ
  pub lines : List (List ℕ)
  pub read : Consumes input.left rest.left text
  pub met : rest.met_end ≡ input.met_end
  pub read_once : input.met_end ≡ false → rest.read_past_end ≡ input.read_past_end
  pub failures : rest.failures ≡ input.failures
  pub reported : IsReported out after report lines
  pub says : (failed : Bool) (more : List ℕ) (others : List (List ℕ)) → AreFindings failed number (slice_split is_newline (unused ++ more)) others
      → AreFindingsOf failed (text ++ more) (lines ++ others)

pub checking_none : (input : SourceSeen) (out : Seen) (unused : List ℕ) (report : Report) → unused ≡ [] → report.is_written ≡ true → report.faulty ≡ 0
    → Checking input input out out unused 1 report
checking_none input out unused report e written none = record {
  text = [];
  lines = [];
  read = Consumes-nil _;
  met = refl;
  read_once = λ unmet. refl;
  failures = refl;
  reported = none_reported out report written none;
  says = λ failed more others found. rw e at found;
}

-- How the reading of a whole line ends.
abbrev pub LineReadingEnds : SourceSeen → SourceSeen → List ℕ → List ℕ → LineEnd → Type 0
LineReadingEnds old new unused left end = ReadingEnds old new unused left (met_end end) (end_failed end) (has_newline end)

-- the bytes of a line that has its newline, and more after them
line_bytes : (unused bytes line left more : List ℕ) (end : LineEnd) → end ≡ Newline → EndsLine end (unused ++ bytes) line left
    → unused ++ (bytes ++ more) ≡ line ++ 10 ∷ (left ++ more)
line_bytes unused bytes line left more end is e = grind (arith, append_assoc)

pub checking_next : (input r1 r2 : SourceSeen) (out o1 o2 : Seen) (unused left kept : List ℕ) (n : ℕ) (before after : Report) (is_kept : Bool) (end : LineEnd)
    → Checking input r1 out o1 unused n before → (r : ReadsToEnd r1 r2 unused left end) → IsKept is_kept r.line kept → end ≡ Newline
    → LineReadingEnds r1 r2 unused left end
    → ReportsSome (ReportsRead n kept is_kept end) o1 o2 before after → Checking input r2 out o2 left (next_number n) after
checking_next input r1 r2 out o1 o2 unused left kept n before after is_kept end s r k is reading more = record {
  text = s.text ++ r.bytes;
  lines = s.lines ++ more.0;
  read = Consumes-trans _ _ _ _ _ s.read r.read;
  met = grind arith;
  read_once = grind arith;
  failures = grind arith;
  reported = more.2 out s.lines s.reported;
  says = λ failed m others found.
      let first : ReportsLine n r.line (parse_line r.line) more.0 = found_is n r.line kept is_kept end more.0 k (ap end_failed is) more.1 in
      let all = line_of_script failed n r.line (left ++ m) more.0 others r.no_newline first found in
      let whole : unused ++ (r.bytes ++ m) ≡ r.line ++ 10 ∷ (left ++ m) = line_bytes unused r.bytes r.line left m end is r.ends in
      rw (append_assoc s.text r.bytes m, append_assoc s.lines more.0 others) (s.says failed (r.bytes ++ m) (more.0 ++ others) (rw whole all));
}

-- the findings of the last line
last_found : (end : LineEnd) (n : ℕ) (all line left kept : List ℕ) (is_kept : Bool) (texts : List (List ℕ)) → has_newline end ≡ false → EndsLine end all line left
    → HasNoNewline line → IsKept is_kept line kept → ReportsRead n kept is_kept end texts
    → AreFindings (end_failed end) n (slice_split is_newline all) texts
last_found Newline n all line left kept is_kept texts last e h k r = cc
last_found ScriptEnd n all line left kept is_kept texts last e h k r = let found = found_is n line kept is_kept ScriptEnd texts k refl r in
    let split : slice_split is_newline all ≡ line ∷ [] = grind (arith, slice_split_none, no_newlines) in
    rw split (texts, [], sym (append-nil texts), found, refl)
last_found ReadFailed n all line left kept is_kept texts last e h k r = let found = found_is_rest n line kept is_kept texts k r in
    let split : slice_split is_newline all ≡ line ∷ [] = grind (arith, slice_split_none, no_newlines) in
    rw split found

failed_unless_whole : (end : LineEnd) → has_newline end ≡ false → end_failed end ≡ not (met_end end)
failed_unless_whole end last = grind arith

whole_at : (is_whole : Bool) (seen : SourceSeen) → (is_whole ≡ true → (seen.met_end ≡ true) × IsAtEnd seen.left) → IsWholeAt is_whole seen
whole_at is_whole seen h = grind arith

pub checked : (input r1 r2 : SourceSeen) (out o1 o2 : Seen) (unused left kept : List ℕ) (n : ℕ) (before after : Report) (is_kept is_whole : Bool) (end : LineEnd)
    → Checking input r1 out o1 unused n before → (r : ReadsToEnd r1 r2 unused left end) → IsKept is_kept r.line kept → has_newline end ≡ false → met_end end ≡ is_whole
    → LineReadingEnds r1 r2 unused left end
    → ReportsSome (ReportsRead n kept is_kept end) o1 o2 before after → ReportsScript input r2 out o2 is_whole after
checked input r1 r2 out o1 o2 unused left kept n before after is_kept is_whole end s r k last whole reading more =
    let failed : end_failed end ≡ not is_whole = failed_unless_whole end last ∙ ap not whole in
    let last_one : AreFindings (end_failed end) n (slice_split is_newline (unused ++ r.bytes)) more.0 = last_found end n _ r.line left kept is_kept more.0 last r.ends r.no_newline k more.1 in
    record {
      text = s.text ++ r.bytes;
      reads = record {
        read = Consumes-trans _ _ _ _ _ s.read r.read;
        whole = whole_at is_whole r2 (grind arith);
        failures = grind arith;
        read_once = grind arith;
      };
      lines = s.lines ++ more.0;
      found = s.says (not is_whole) r.bytes more.0 (rw failed at last_one);
      reported = more.2 out s.lines s.reported;
    }

-- ---- the end of a report

pub reported_fails : (first old : Seen) (before : Report) (lines : List (List ℕ)) (after : List ℕ) → IsReported first old before lines → before.is_written ≡ false
    → IsNotWritten first old (flat lines ++ after)
reported_fails first old before lines after r written = grind (arith, not_put, cut_before)

pub reported_ends : (first old new : Seen) (before : Report) (lines : List (List ℕ)) (after : List ℕ) (written : Bool) → IsReported first old before lines
    → before.is_written ≡ true → WritingEnds written old new after → WritingEnds written first new (flat lines ++ after)
reported_ends first old new before lines after true r written h = grind (arith, Appends-trans)
reported_ends first old new before lines after false r written h = record {
  sent = length (flat lines) + h.sent;
  within = grind (arith, length-append);
  taken = rw (take-append-add (flat lines) after h.sent) (Appends-trans _ _ _ _ _ (r.put.taken written) h.taken);
  failure = grind arith;
  flushes = grind (arith, nat_tests, length-append);
}

-- with how many lines after them
pub counted_ends : (first old new : Seen) (before : Report) (written : Bool) (count : List ℕ) (lines : List (List ℕ)) → count ≡ count_line before.faulty
    → before.is_written ≡ true → WritingEnds written old new count → IsReported first old before lines → WritingEnds written first new (report lines)
counted_ends first old new before written count lines is all h r = grind (arith, reported_ends)
