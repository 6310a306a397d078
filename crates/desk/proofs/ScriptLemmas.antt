-- A script is run a line at a time.
use Rattle.std.specs.Prelude.{◌≡◌, ◌≤◌, ◌<◌, ◌∷◌, ◌++◌, ◌||◌, if◌then◌else◌}
use Rattle.desk.specs.{ℕ, List, [], length, Bool, true, false, take, Option, None, Some, Ok, Err, Result, refl, ap, subst, sym, ◌∙◌, append-nil, append_assoc, length-append, arith, nat_lt, is_some}
use Rattle.desk.specs.{not, false_from_ne_true, or_parts, nat_tests, Refresh, Doupdate, LONGEST_LINE, ScriptFault, LineTooLong, Text, Reading as Reading_fault, Write, Log, flat_map-append, map-append}
use Rattle.desk.specs.{list_any-append, list_any_at, All, list_any, onto_first, slice_split, Appends, Consumes, IsAtEnd, Appends-nil, Appends-trans, Consumes-nil, Consumes-trans, length-slice_split}
use Rattle.desk.specs.{slice_split-cons_no, slice_split_at, slice_split_none, Seen, State, state_of, HasOneSize, KeepsSize, ScreenOver, SourceSeen, Outcome, Run, is_refused, state_after, Makes}
use Rattle.desk.specs.{count_after, RunShows, before_others, ends_with, next_number, reading, reading_of, parse_line, is_newline, HasNoNewline, ReadsLine, end_failed, met_end, LineEnd, FlushFails}
use Rattle.desk.specs.{FlushSucceeds, LineEnds, LineSays, LogCloses, Logs, MayFollow, RunsLines, ScriptEnds, ScriptSays, StopsAt, calls_of, log_failed, log_lines, log_text, numbered_call, write_fault}
use Rattle.desk.specs.{Call, TextFault, ScriptEnd, Newline, ReadFailed}
use Rattle.desk.proofs.MakesLemmas.{Makes-append, Makes-nothing}
use Rattle.desk.proofs.ShowingLemmas.{cut-keeps_size, makes-keep_size, shows-broken, shows-unbroken, then-keeps_size}
use Rattle.script.specs.Readings.{Reading}
use Rattle.script.specs.declared.bytes.LineEnd.TheVariants.{ScriptEnd as Script_end}

-- calls before a reading
abbrev pub prepend : List (ℕ × Call) → Reading → Reading
prepend calls r = record { calls = calls ++ r.calls; fault = r.fault }

-- a line before others
line_first : (failed : Bool) (n : ℕ) (line : List ℕ) (pieces : List (List ℕ)) → 0 < length pieces
    → reading_of failed n (line ∷ pieces) ≡ before_others n (parse_line line) (reading_of failed (next_number n) pieces)
line_first failed n line pieces some = grind arith

short_line : (line : List ℕ) → length line ≤ LONGEST_LINE → nat_lt LONGEST_LINE (length line) ≡ false
short_line line h = grind (arith, nat_tests)

no_newlines : (line : List ℕ) → HasNoNewline line → All (λ b. is_newline b ≡ false) line
no_newlines line h = grind (arith, false_from_ne_true, list_any_at)

-- What a script says whose next line ends with a newline.
line_of_script : (failed : Bool) (n : ℕ) (line left : List ℕ) → HasNoNewline line
    → reading_of failed n (slice_split is_newline (line ++ 10 ∷ left)) ≡ before_others n (parse_line line) (reading_of failed (next_number n) (slice_split is_newline left))
line_of_script failed n line left h = grind (arith, slice_split_at, no_newlines, line_first, length-slice_split)

long_line : (line : List ℕ) → LONGEST_LINE < length line → parse_line line ≡ Err LineTooLong
long_line line h = grind (arith, nat_tests)

has_first : (pieces : List (List ℕ)) → 0 < length pieces → (head : List ℕ) × (tail : List (List ℕ)) × (pieces ≡ head ∷ tail)
has_first [] h = absurd (omega arith)
has_first (p ∷ ps) h = (p, ps, refl)

-- Bytes with no newline are the beginning of the first piece.
first_piece : (xs ys : List ℕ) → HasNoNewline xs → (head : List ℕ) × (tail : List (List ℕ)) × (slice_split is_newline (xs ++ ys) ≡ (xs ++ head) ∷ tail)
first_piece [] ys h = has_first (slice_split is_newline ys) (omega (arith, length-slice_split is_newline ys))
first_piece (x ∷ xs) ys h =
    let rest = first_piece xs ys (or_parts _ _ h).1 in
    (rest.0, rest.1, slice_split-cons_no is_newline x (xs ++ ys) (or_parts _ _ h).0 ∙ ap (onto_first x) rest.2)

-- However it goes on, a line of more than LONGEST_LINE bytes is too long.
too_long_says : (n : ℕ) (line more : List ℕ) (b : ℕ) → HasNoNewline line → is_newline b ≡ false → LONGEST_LINE ≤ length line
    → reading_of false n (slice_split is_newline (line ++ b ∷ more)) ≡ ends_with (Some (Text n LineTooLong))
too_long_says n line more b h e long =
    let prefix : HasNoNewline (line ++ b ∷ []) = rw (list_any-append is_newline line (b ∷ []), h, e) refl in
    let first = first_piece (line ++ b ∷ []) more prefix in
    let length_is : LONGEST_LINE < length ((line ++ b ∷ []) ++ first.0) = simp (length-append, length-append) (omega arith) in
    ap (λ l. reading_of false n (slice_split is_newline l)) (sym (append_assoc line (b ∷ []) more)) ∙ ap (reading_of false n) first.2
    ∙ ap (λ t. before_others n t (reading_of false (next_number n) first.1)) (long_line ((line ++ b ∷ []) ++ first.0) length_is)

log_lines-append : (state : State) (calls more : List (ℕ × Call)) (outcomes others : List Outcome) → Run state (calls_of calls) outcomes
    → log_lines (calls ++ more) (outcomes ++ others) ≡ log_lines calls outcomes ++ log_lines more others
log_lines-append state [] more outcomes others run = grind arith
log_lines-append state (c ∷ cs) more [] others run = absurd run
log_lines-append state (c ∷ cs) more (o ∷ os) others run = grind (arith, (log_lines-append (state_after state c.1 o.answer) cs more os others run.1))

-- the text of the lines of both
log_text-append : (state : State) (calls more : List (ℕ × Call)) (outcomes others : List Outcome) → Run state (calls_of calls) outcomes
    → log_text (log_lines (calls ++ more) (outcomes ++ others)) ≡ log_text (log_lines calls outcomes) ++ log_text (log_lines more others)
log_text-append state calls more outcomes others run = grind (arith, log_lines-append, flat_map-append)

calls_of-append : (a b : List (ℕ × Call)) → calls_of (a ++ b) ≡ calls_of a ++ calls_of b
calls_of-append a b = map-append _ a b

module _ {W : Type 0} (seen : W → Seen) where
  makes_more : {old mid new : ScreenOver W} (a b : List (ℕ × Call)) {outcomes others : List Outcome} → Makes seen old (calls_of a) outcomes mid
      → Makes seen mid (calls_of b) others new → Makes seen old (calls_of (a ++ b)) (outcomes ++ others) new
  makes_more {old} {new} a b {outcomes} {others} first second =
      subst (λ calls. Makes seen old calls (outcomes ++ others) new) (sym (calls_of-append a b)) (Makes-append seen first second)

  -- What was run of a script, and what is left of it.
  pub record SoFar (old now : ScreenOver W) (input rest : SourceSeen) (log written : Seen) (unused : List ℕ) (number : ℕ) (some_refused : Bool) : Type 0 where
    pub text : List ℕ
    pub made : List (ℕ × Call)
    pub outcomes : List Outcome
    pub read : Consumes input.left rest.left text
    pub makes : Makes seen old (calls_of made) outcomes now
    pub logs : Appends log.taken written.taken (log_text (log_lines made outcomes))
    pub failures : written.failures ≡ log.failures
    pub flushes : written.flushes ≡ log.flushes
    pub met : rest.met_end ≡ input.met_end
    pub read_once : input.met_end ≡ false → rest.read_past_end ≡ input.read_past_end
    pub is_refused : some_refused ≡ list_any is_refused outcomes
    pub says : (failed : Bool) (more : List ℕ) → reading failed (text ++ more) ≡ prepend made (reading_of failed number (slice_split is_newline (unused ++ more)))

  pub so_far_none : (old : ScreenOver W) (input : SourceSeen) (log : Seen) (unused : List ℕ) → unused ≡ [] → SoFar old old input input log log unused 1 false
  so_far_none old input log unused e = record {
    text = [];
    made = [];
    outcomes = [];
    read = Consumes-nil _;
    makes = Makes-nothing seen old;
    logs = Appends-nil _;
    failures = refl;
    flushes = refl;
    met = refl;
    read_once = λ unmet. refl;
    is_refused = refl;
    says = λ failed more. rw e refl;
  }

  -- A line was read, and nothing after the end of the source.
  abbrev pub ReadsOnce : SourceSeen → SourceSeen → Type 0
  ReadsOnce old new = old.met_end ≡ false → new.read_past_end ≡ old.read_past_end

  still_once : (input r1 r2 : SourceSeen) → r1.met_end ≡ input.met_end → ReadsOnce input r1 → ReadsOnce r1 r2 → ReadsOnce input r2
  still_once input r1 r2 met h k = grind arith

  -- What the script says up to a line that a newline ends.
  line_says : {old mid : ScreenOver W} {input r1 r2 : SourceSeen} {log l1 : Seen} {unused left line : List ℕ} {n : ℕ} {b : Bool}
      (s : SoFar old mid input r1 log l1 unused n b) (r : ReadsLine r1 r2 unused left line (Some Newline)) (failed : Bool) (more : List ℕ)
      → reading failed ((s.text ++ r.bytes) ++ more)
      ≡ prepend s.made (before_others n (parse_line line) (reading_of failed (next_number n) (slice_split is_newline (left ++ more))))
  line_says {unused} {left} {line} {n} s r failed more =
      let together : unused ++ (r.bytes ++ more) ≡ line ++ 10 ∷ (left ++ more) =
      sym (append_assoc unused r.bytes more) ∙ ap (λ l. l ++ more) r.is_line.0 ∙ append_assoc line (10 ∷ left) more in
      ap (reading failed) (append_assoc s.text r.bytes more) ∙ s.says failed (r.bytes ++ more)
      ∙ ap (λ l. prepend s.made (reading_of failed n (slice_split is_newline l))) together
      ∙ ap (prepend s.made) (line_of_script failed n line (left ++ more) r.no_newline)

  says_call : (made : List (ℕ × Call)) (n : ℕ) (said : Result (Option Call) TextFault) (call : Option Call) (others : Reading) → said ≡ Ok call
      → prepend made (before_others n said others) ≡ prepend (made ++ numbered_call n call) others
  says_call made n said call others e = grind (arith, append_assoc)

  -- one more line
  pub so_far_next : (old mid now : ScreenOver W) (input r1 r2 : SourceSeen) (log l1 l2 : Seen) (unused left line : List ℕ) (n : ℕ) (b : Bool) (end : ScriptEnd)
      → SoFar old mid input r1 log l1 unused n b → ReadsLine r1 r2 unused left line (Some Newline) → r2.met_end ≡ r1.met_end → ReadsOnce r1 r2
      → LineEnds seen mid now n (parse_line line) l1 l2 end → end.fault ≡ None → SoFar old now input r2 log l2 left (next_number n) (b || end.refused)
  so_far_next old mid now input r1 r2 log l1 l2 unused left line n b end s r met once e none =
      let said : parse_line line ≡ Ok e.call = subst (LineSays n (parse_line line) e.call) none e.says in
      let stop : now ≡ e.at_stop = subst (λ f. StopsAt seen e.at_stop f now) none e.stop in
      let logs : Appends l1.taken l2.taken (log_text (log_lines (numbered_call n e.call) e.outcomes)) = subst (Logs l1 l2 (log_lines (numbered_call n e.call) e.outcomes)) none e.logs in
      record {
        text = s.text ++ r.bytes;
        made = s.made ++ numbered_call n e.call;
        outcomes = s.outcomes ++ e.outcomes;
        read = Consumes-trans _ _ _ _ _ s.read r.read;
        makes = makes_more s.made (numbered_call n e.call) s.makes (subst (Makes seen mid _ e.outcomes) (sym stop) e.makes);
        logs = subst (Appends _ _) (sym (log_text-append (state_of old) s.made (numbered_call n e.call) s.outcomes e.outcomes s.makes.run)) (Appends-trans _ _ _ _ _ s.logs logs);
        failures = e.failures ∙ ap (λ f. count_after (log_failed f) l1.failures) none ∙ s.failures;
        flushes = e.flushes ∙ s.flushes;
        met = met ∙ s.met;
        read_once = still_once input r1 r2 s.met s.read_once once;
        is_refused = ap (λ x. x || end.refused) s.is_refused ∙ ap (λ x. list_any is_refused s.outcomes || x) e.refused ∙ sym (list_any-append is_refused s.outcomes e.outcomes);
        says = λ failed more. line_says s r failed more ∙ says_call s.made n (parse_line line) e.call _ said;
      }

  -- What the script says that ends at a line, where z is what it says after the line.
  says_at_end : (made : List (ℕ × Call)) (n : ℕ) (said : Result (Option Call) TextFault) (call : Option Call) (ended : Bool) (text : List ℕ) (z : List ℕ → Reading)
      (fault : Option ScriptFault) → LineSays n said call fault
      → ((more : List ℕ) → MayFollow ended more → reading false (text ++ more) ≡ prepend made (before_others n said (z more)))
      → (fault ≡ None → (ended ≡ true) × (z [] ≡ ends_with None))
      → ScriptSays ended text (made ++ numbered_call n call) fault
  says_at_end made n said call ended text z None ls says last = (
    (last refl).0,
    ap (reading false) (sym (append-nil text)) ∙ says [] (λ e. refl) ∙ says_call made n said call (z []) ls ∙ ap (prepend (made ++ numbered_call n call)) (last refl).1
        ∙ ap (λ (calls : List (ℕ × Call)). let x : Reading = record { calls = calls; fault = None } in x) (append-nil (made ++ numbered_call n call)),
  )
  says_at_end made n said call ended text z (Some (Text line fault)) ls says last =
      λ more h. says more h ∙ ap (λ t. prepend made (before_others n t (z more))) ls.1
      ∙ ap (λ m. let x : Reading = record { calls = made ++ []; fault = Some (Text m fault) } in x) (sym ls.0)
      ∙ ap (λ c. let x : Reading = record { calls = made ++ numbered_call n c; fault = Some (Text line fault) } in x) (sym ls.2)
  says_at_end made n said call ended text z (Some Reading_fault) ls says last = absurd ls
  says_at_end made n said call ended text z (Some (Write line fault)) ls says last =
      λ more h. (
        (z more).calls,
        ap (λ (r : Reading). r.calls) (says more h ∙ says_call made n said (Some (Refresh Doupdate)) (z more) ls.1)
            ∙ ap (λ m. (made ++ (m, Refresh Doupdate) ∷ []) ++ (z more).calls) (sym ls.0)
            ∙ ap (λ l. (l ++ (line, Refresh Doupdate) ∷ []) ++ (z more).calls) (sym (append-nil made) ∙ ap (λ c. made ++ numbered_call n c) (sym ls.2)),
      )
  says_at_end made n said call ended text z (Some Log) ls says last =
      λ more h. ((z more).calls, ap (λ (r : Reading). r.calls) (says more h ∙ says_call made n said call (z more) ls))

  logs_after : (old : State) (a b : List (ℕ × Call)) (xs ys : List Outcome) (log l1 l2 : Seen) (fault : Option ScriptFault) → Run old (calls_of a) xs
      → Appends log.taken l1.taken (log_text (log_lines a xs)) → Logs l1 l2 (log_lines b ys) fault → Logs log l2 (log_lines (a ++ b) (xs ++ ys)) fault
  logs_after old a b xs ys log l1 l2 (Some Log) run first second = record {
    whole = log_lines a xs ++ second.whole;
    last = second.last;
    parts = log_lines-append old a b xs ys run ∙ ap (λ l. log_lines a xs ++ l) second.parts ∙ sym (append_assoc (log_lines a xs) second.whole (second.last ∷ []));
    sent = second.sent;
    within = second.within;
    taken = subst (Appends log.taken l2.taken)
        (sym (ap (λ l. l ++ take second.sent second.last) (flat_map-append _ (log_lines a xs) second.whole)
        ∙ append_assoc (log_text (log_lines a xs)) (log_text second.whole) (take second.sent second.last)))
        (Appends-trans _ _ _ _ _ first second.taken);
  }
  logs_after old a b xs ys log l1 l2 fault run first second = grind (arith, log_text-append, Appends-trans)

  -- The script ends at a line.
  ends_at_line : (old mid now : ScreenOver W) (input r1 r2 : SourceSeen) (log l1 l2 : Seen) (unused line bytes : List ℕ) (n : ℕ) (b : Bool) (end : ScriptEnd) (z : List ℕ → Reading)
      (s : SoFar old mid input r1 log l1 unused n b) → Consumes r1.left r2.left bytes → ReadsOnce r1 r2 → LineEnds seen mid now n (parse_line line) l1 l2 end
      → ((more : List ℕ) → MayFollow r2.met_end more → reading false ((s.text ++ bytes) ++ more) ≡ prepend s.made (before_others n (parse_line line) (z more)))
      → (end.fault ≡ None → (r2.met_end ≡ true) × (z [] ≡ ends_with None))
      → (end.fault ≡ None → IsAtEnd r2.left)
      → RunsLines seen old now input r2 log l2 (record { refused = b || end.refused; fault = end.fault })
  ends_at_line old mid now input r1 r2 log l1 l2 unused line bytes n b end z s read once e says last over = record {
    text = s.text ++ bytes;
    made = s.made ++ numbered_call n e.call;
    outcomes = s.outcomes ++ e.outcomes;
    at_stop = e.at_stop;
    read = Consumes-trans _ _ _ _ _ s.read read;
    makes = makes_more s.made (numbered_call n e.call) s.makes e.makes;
    says = says_at_end s.made n (parse_line line) e.call r2.met_end (s.text ++ bytes) z end.fault e.says says last;
    stop = e.stop;
    logs = logs_after (state_of old) s.made (numbered_call n e.call) s.outcomes e.outcomes log l1 l2 end.fault s.makes.run s.logs e.logs;
    failures = e.failures ∙ ap (count_after (log_failed end.fault)) s.failures;
    flushes = e.flushes ∙ s.flushes;
    refused = ap (λ x. x || end.refused) s.is_refused ∙ ap (λ x. list_any is_refused s.outcomes || x) e.refused ∙ sym (list_any-append is_refused s.outcomes e.outcomes);
    at_end = over;
    read_once = still_once input r1 r2 s.met s.read_once once;
  }

  -- the last line that is run, be it the last of all or one with a fault
  pub ends_after_last : (old mid now : ScreenOver W) (input r1 r2 : SourceSeen) (log l1 l2 : Seen) (unused left line : List ℕ) (n : ℕ) (b : Bool) (end : ScriptEnd) (line_end : LineEnd)
      → SoFar old mid input r1 log l1 unused n b → ReadsLine r1 r2 unused left line (Some line_end) → ReadsOnce r1 r2 → LineEnds seen mid now n (parse_line line) l1 l2 end
      → r2.met_end ≡ (met_end line_end || r1.met_end) → false ≡ end_failed line_end → true ≡ (met_end line_end || is_some end.fault)
      → RunsLines seen old now input r2 log l2 (record { refused = b || end.refused; fault = end.fault })
  ends_after_last old mid now input r1 r2 log l1 l2 unused left line n b end Newline s r once e met read last =
      let some : end.fault ≡ None → ⊥ = λ none. grind arith in
      ends_at_line old mid now input r1 r2 log l1 l2 unused line r.bytes n b end (λ more. reading_of false (next_number n) (slice_split is_newline (left ++ more)))
      s r.read once e (λ more h. line_says s r false more) (λ none. absurd (some none)) (λ none. absurd (some none))
  ends_after_last old mid now input r1 r2 log l1 l2 unused left line n b end Script_end s r once e met read last =
      ends_at_line old mid now input r1 r2 log l1 l2 unused line r.bytes n b end (λ more. ends_with None) s r.read once e
      (λ more h.
      ap (reading false) (append_assoc s.text r.bytes more) ∙ s.says false (r.bytes ++ more)
      ∙ ap (λ l. prepend s.made (reading_of false n (slice_split is_newline l))) (ap (λ m. unused ++ (r.bytes ++ m)) (h met) ∙ ap (λ l. unused ++ l) (append-nil r.bytes) ∙ r.is_line.0.0)
      ∙ ap (λ ps. prepend s.made (reading_of false n ps)) (slice_split_none is_newline line (no_newlines line r.no_newline)))
      (λ none. (met, refl)) (λ none. r.at_end refl)
  ends_after_last old mid now input r1 r2 log l1 l2 unused left line n b end ReadFailed s r once e met read last = cc

  -- The script ends after the lines that were run.
  ends_after_lines : {old mid : ScreenOver W} {input r1 r2 : SourceSeen} {log l1 : Seen} {unused : List ℕ} {n : ℕ} {b : Bool} (bytes : List ℕ) (fault : ScriptFault)
      (s : SoFar old mid input r1 log l1 unused n b) → Consumes r1.left r2.left bytes → ReadsOnce r1 r2 → Logs log l1 (log_lines s.made s.outcomes) (Some fault)
      → l1.failures ≡ count_after (log_failed (Some fault)) log.failures → ScriptSays r2.met_end (s.text ++ bytes) s.made (Some fault) → StopsAt seen mid (Some fault) mid
      → RunsLines seen old mid input r2 log l1 (record { refused = b; fault = Some fault })
  ends_after_lines {mid} {input} {r1} {r2} bytes fault s read once logs failures says stop = record {
    text = s.text ++ bytes;
    made = s.made;
    outcomes = s.outcomes;
    at_stop = mid;
    read = Consumes-trans _ _ _ _ _ s.read read;
    makes = s.makes;
    says = says;
    stop = stop;
    logs = logs;
    failures = failures;
    flushes = s.flushes;
    refused = s.is_refused;
    at_end = λ none. cc;
    read_once = still_once input r1 r2 s.met s.read_once once;
  }

  -- A read failed.
  pub ends_in_failed_read : (old mid : ScreenOver W) (input r1 r2 : SourceSeen) (log l1 : Seen) (unused left line : List ℕ) (n : ℕ) (b : Bool) (line_end : LineEnd)
      → SoFar old mid input r1 log l1 unused n b → ReadsLine r1 r2 unused left line (Some line_end) → ReadsOnce r1 r2 → true ≡ end_failed line_end
      → RunsLines seen old mid input r2 log l1 (record { refused = b; fault = Some Reading_fault })
  ends_in_failed_read old mid input r1 r2 log l1 unused left line n b Newline s r once failed = cc
  ends_in_failed_read old mid input r1 r2 log l1 unused left line n b Script_end s r once failed = cc
  ends_in_failed_read old mid input r1 r2 log l1 unused left line n b ReadFailed s r once failed = ends_after_lines r.bytes Reading_fault s r.read once s.logs s.failures
      (ap (reading true) (ap (λ l. s.text ++ l) (sym (append-nil r.bytes))) ∙ s.says true (r.bytes ++ [])
      ∙ ap (λ l. prepend s.made (reading_of true n (slice_split is_newline l))) (ap (λ l. unused ++ l) (append-nil r.bytes) ∙ r.is_line.0.0)
      ∙ ap (λ ps. prepend s.made (reading_of true n ps)) (slice_split_none is_newline line (no_newlines line r.no_newline))
      ∙ ap (λ (t : Bool). let x : Reading = record { calls = s.made ++ []; fault = Some (if t then Text n LineTooLong else Reading_fault) } in x) (short_line line r.is_line.1)
      ∙ ap (λ (calls : List (ℕ × Call)). let x : Reading = record { calls = calls; fault = Some Reading_fault } in x) (append-nil s.made))
      refl

  -- A line is too long.
  pub ends_too_long : (old mid : ScreenOver W) (input r1 r2 : SourceSeen) (log l1 : Seen) (unused left line : List ℕ) (n : ℕ) (b : Bool)
      → SoFar old mid input r1 log l1 unused n b → ReadsLine r1 r2 unused left line None → ReadsOnce r1 r2
      → RunsLines seen old mid input r2 log l1 (record { refused = b; fault = Some (Text n LineTooLong) })
  ends_too_long old mid input r1 r2 log l1 unused left line n b s r once =
      let byte = r.is_line.0 in
      ends_after_lines r.bytes (Text n LineTooLong) s r.read once s.logs s.failures
      (λ more h.
      ap (reading false) (append_assoc s.text r.bytes more) ∙ s.says false (r.bytes ++ more)
      ∙ ap (λ l. prepend s.made (reading_of false n (slice_split is_newline l))) (sym (append_assoc unused r.bytes more) ∙ ap (λ l. l ++ more) r.is_line.1
      ∙ append_assoc line (byte ∷ left) more)
      ∙ ap (prepend s.made) (too_long_says n line (left ++ more) byte r.no_newline r.is_line.2 r.is_line.3)
      ∙ ap (λ (calls : List (ℕ × Call)). let x : Reading = record { calls = calls; fault = Some (Text n LineTooLong) } in x) (append-nil s.made))
      refl

-- A line with a newline and no fault is followed by others.
pub goes_on_after : (line_end : LineEnd) (fault : Option ScriptFault) → false ≡ end_failed line_end → false ≡ (met_end line_end || is_some fault)
    → (line_end ≡ Newline) × (fault ≡ None)
goes_on_after Newline None read goes_on = (refl, refl)
goes_on_after Newline (Some fault) read goes_on = cc
goes_on_after Script_end fault read goes_on = cc
goes_on_after ReadFailed fault read goes_on = cc

pub no_fault : (fault : Option ScriptFault) → false ≡ is_some fault → fault ≡ None
no_fault fault h = grind arith

module _ {W : Type 0} (seen : W → Seen) where
  lines_show : (old at_stop new : ScreenOver W) (calls : List Call) (outcomes : List Outcome) (fault : Option ScriptFault)
      → Makes seen old calls outcomes at_stop → HasOneSize old.desk old.painter → StopsAt seen at_stop fault new → RunShows seen old new calls (write_fault fault)
  lines_show old at_stop new calls outcomes fault makes one_size stop = grind (arith, shows-unbroken, shows-broken)

  pub lines_keep_size : {old now : ScreenOver W} {input rest : SourceSeen} {log logged : Seen} {end : ScriptEnd} → HasOneSize old.desk old.painter → RunsLines seen old now input rest log logged end
      → KeepsSize old.desk now.desk
  lines_keep_size {old} {now} {rest} {end} one_size s = grind (arith, then-keeps_size, makes-keep_size, cut-keeps_size)

  pub script_ends : {old now : ScreenOver W} {input rest : SourceSeen} {log logged written : Seen} {ended end : ScriptEnd} → HasOneSize old.desk old.painter
      → RunsLines seen old now input rest log logged ended → LogCloses ended.fault logged written end.fault → end.refused ≡ ended.refused → write_fault end.fault ≡ write_fault ended.fault
      → ScriptEnds seen old now input rest log written end
  script_ends {old} {now} {rest} {logged} {ended} one_size s closes refused same = record {
    ended = ended;
    logged = logged;
    lines = s;
    closes = closes;
    refused = refused;
    shown = subst (RunShows seen old now (calls_of s.made)) (sym same) (lines_show old s.at_stop now (calls_of s.made) s.outcomes ended.fault s.makes one_size s.stop);
  }

-- ---- the flush of the log

-- A write of the log had failed.
pub closes_failed : (fault : Option ScriptFault) (logged : Seen) → true ≡ log_failed fault → LogCloses fault logged logged fault
closes_failed fault logged h = grind arith

-- The flush succeeded.
pub closes_flushed : (fault : Option ScriptFault) (logged written : Seen) → false ≡ log_failed fault → FlushSucceeds logged written → LogCloses fault logged written fault
closes_flushed fault logged written h f = grind arith

-- The flush failed, after another fault.
pub closes_after_fault : (fault : Option ScriptFault) (logged written : Seen) → false ≡ log_failed fault → is_some fault ≡ not false → FlushFails logged written → LogCloses fault logged written fault
closes_after_fault fault logged written h some f = grind arith

-- The flush failed, and nothing else.
pub closes_unflushed : (fault : Option ScriptFault) (logged written : Seen) → fault ≡ None → FlushFails logged written → LogCloses fault logged written (Some Log)
closes_unflushed fault logged written none f = grind arith
