-- The spans of a line after a panel is laid over it, and that one of them is what the search finds.
use Rattle.std.specs.Prelude.{◌≡◌, ◌≢◌, ◌+◌, ◌-◌, ◌<◌, ◌≤◌, ◌&&◌, ◌⊎◌, if◌then◌else◌}
use Rattle.picture.specs.{ℕ, nat_le, nat_lt, true, false, Option, Some, None, List, inl, inr, option_or, slice_index, sym, ap, subst, ◌∙◌, arith, cases_eq, cases_lt, nat_tests, contains, Panels, owner}
use Rattle.picture.specs.{WindowMap, panel_number, IsRun, IsSpan, AreSpans, IsEndFrom, numbered}
use Rattle.picture.specs.declared.span.Span.{Span}
use Rattle.picture.specs.declared.spans.Spans.{Spans}

-- ---- a column's owner

-- what stands at the first end from a column on is the owner of each column before it that has no other end
pub owner-of-end : (o : ℕ → Option ℕ) (spans : Spans) → AreSpans o spans → (x e : ℕ) → x ≤ e → contains spans.ends e ≡ true → ((n : ℕ) → x ≤ n → n < e → contains spans.ends n ≡ false)
    → o x ≡ numbered (slice_index spans.panels e)
owner-of-end o spans h x e from is first = h.same x e (record { from = from; is = is; first = first })

pub joined-none : (ends : List ℕ) (u x e : ℕ) → ((n : ℕ) → u ≤ n → n < x → contains ends n ≡ false) → ((n : ℕ) → x ≤ n → n < e → contains ends n ≡ false)
    → (n : ℕ) → u ≤ n → n < e → contains ends n ≡ false
joined-none ends u x e before after n from below = grind (arith, cases_lt)

-- the span from a column on, up to the edge
pub run-at : (o : ℕ → Option ℕ) (spans : Spans) → AreSpans o spans → (x e edge : ℕ) (span : Span) → IsEndFrom spans.ends x e → x ≤ edge
    → panel_number span.panel ≡ numbered (slice_index spans.panels e) → x ≤ span.end → span.end ≤ e → span.end ≤ edge → (span.end < edge → span.end ≡ e) → IsRun o x edge span
run-at o spans h x e edge span is ordered panel from before within last = record {
  from = from;
  within = within;
  same = λ u begun upto. h.same u e (record { from = omega (arith, upto, before); is = is.is; first = λ n a b. is.first n (omega (arith, begun, a)) b }) ∙ sym panel;
  another = λ more same. h.another e is.is (ap (λ (k : ℕ). o (k + 1)) (sym (last more)) ∙ same ∙ panel);
}

-- so is that of a search that finds the same between the two
pub span-of : (window : WindowMap) (panels : Panels) (y x edge : ℕ) (o : ℕ → Option ℕ) (span : Span) → IsRun o x edge span
    → ((u : ℕ) → x ≤ u → u ≤ edge → owner window panels y u ≡ o u) → IsSpan window panels y x edge span
span-of window panels y x edge o span run found = record {
  from = run.from;
  within = run.within;
  same = λ u begun upto. found u begun (let within = run.within in omega (arith, upto, within)) ∙ run.same u begun upto;
  another = λ more same. run.another more (sym (found (span.end + 1) (let from = run.from in omega (arith, from)) (omega (arith, more))) ∙ same);
}

-- ---- a panel fills the columns from left to right

-- so the ends were changed, and what stands at them; the column before it has an end, at which its owner stands
pub record IsLaid (o : ℕ → Option ℕ) (left right p : ℕ) (old new : Spans) : Type 0 where
  pub ordered : left ≤ right
  pub at_right : contains new.ends right ≡ true
  pub panel : slice_index new.panels right ≡ p
  pub over : (e : ℕ) → left ≤ e → e < right → contains new.ends e ≡ false
  pub after : (e : ℕ) → right < e → contains new.ends e ≡ contains old.ends e
  pub panels_after : (e : ℕ) → right < e → slice_index new.panels e ≡ slice_index old.panels e
  pub before : (e : ℕ) → e + 1 < left → contains new.ends e ≡ contains old.ends e
  pub panels_before : (e : ℕ) → e + 1 < left → slice_index new.panels e ≡ slice_index old.panels e
  pub at_left : (e : ℕ) → e + 1 ≡ left → contains new.ends e ≡ true
  pub owner : (e u : ℕ) → e + 1 ≡ left → u ≤ e → ((n : ℕ) → u ≤ n → n < e → contains old.ends n ≡ false) → o u ≡ numbered (slice_index new.panels e)

module _ (o laid : ℕ → Option ℕ) (left right p : ℕ) (old new : Spans) (h : IsLaid o left right p old new) (spans : AreSpans o old) (some : 0 < p)
    (none_left : (e : ℕ) → e + 1 ≡ left → o e ≢ Some p) (none_right : o (right + 1) ≢ Some p) (before : (x : ℕ) → x < left → laid x ≡ o x) (held : (x : ℕ) → left ≤ x → x ≤ right → laid x ≡ Some p) (after : (x : ℕ) → right < x → laid x ≡ o x) where
  its-number : numbered p ≡ Some p
  its-number = grind arith

  -- an end after it
  is-after : (x e : ℕ) → IsEndFrom new.ends x e → right < e → right < x
  is-after x e is far = elim (cases_lt right x) [
    | inl past ↦ past
    | inr upto ↦ absurd (let never : true ≡ false = sym h.at_right ∙ is.first right upto far in cc)
  ]

  same-after : (x e : ℕ) → IsEndFrom new.ends x e → right < e → laid x ≡ numbered (slice_index new.panels e)
  same-after x e is far =
      let past = is-after x e is far in
      after x past
      ∙ owner-of-end o old spans x e is.from (sym (h.after e far) ∙ is.is) (λ n from below. sym (h.after n (omega (arith, past, from))) ∙ is.first n from below)
      ∙ ap numbered (sym (h.panels_after e far))

  -- its own end
  is-held : (x : ℕ) → IsEndFrom new.ends x right → left ≤ x
  is-held x is = elim (cases_lt x left) [
    | inl below ↦ absurd (let never : true ≡ false = sym (h.at_left (left - 1) (omega (arith, below))) ∙ is.first (left - 1) (omega (arith, below))
        (let w = h.ordered in omega (arith, below, w)) in cc)
    | inr upto ↦ upto
  ]

  same-held : (x : ℕ) → IsEndFrom new.ends x right → laid x ≡ numbered (slice_index new.panels right)
  same-held x is = held x (is-held x is) is.from ∙ sym its-number ∙ ap numbered (sym h.panel)

  -- the end right before it
  same-left : (x e : ℕ) → IsEndFrom new.ends x e → e + 1 ≡ left → laid x ≡ numbered (slice_index new.panels e)
  same-left x e is edge =
      let from = is.from in
      before x (omega (arith, edge, from)) ∙ h.owner e x edge is.from (λ n begun below. sym (h.before n (omega (arith, below, edge))) ∙ is.first n begun below)

  -- an end before that
  same-before : (x e : ℕ) → IsEndFrom new.ends x e → e + 1 < left → laid x ≡ numbered (slice_index new.panels e)
  same-before x e is far =
      let from = is.from in
      before x (omega (arith, far, from))
      ∙ owner-of-end o old spans x e is.from (sym (h.before e far) ∙ is.is) (λ n begun below. sym (h.before n (omega (arith, far, below))) ∙ is.first n begun below)
      ∙ ap numbered (sym (h.panels_before e far))

  -- where an end can be
  data Where (e : ℕ) : Type 0 where
    far_before : e + 1 < left → Where e
    edge : e + 1 ≡ left → Where e
    last : e ≡ right → Where e
    far_after : right < e → Where e

  place-of : (e : ℕ) → contains new.ends e ≡ true → Where e
  place-of e is = elim (cases_lt right e) [
    | inl far ↦ far_after far
    | inr upto ↦ elim (cases_eq e right) [
      | inl same ↦ last same
      | inr other ↦ elim (cases_lt e left) [
        | inr from ↦ absurd (let never : true ≡ false = sym is ∙ h.over e from (omega (arith, upto, other)) in cc)
        | inl below ↦ elim (cases_eq (e + 1) left) [
          | inl is_edge ↦ edge is_edge
          | inr not_edge ↦ far_before (omega (arith, below, not_edge))
        ]
      ]
    ]
  ]

  laid-same : (x e : ℕ) → IsEndFrom new.ends x e → laid x ≡ numbered (slice_index new.panels e)
  laid-same x e is = elim (place-of e is.is) [
    | far_before far ↦ same-before x e is far
    | edge is_edge ↦ same-left x e is is_edge
    | last same ↦ subst (λ (k : ℕ). laid x ≡ numbered (slice_index new.panels k)) (sym same) (same-held x (subst (IsEndFrom new.ends x) same is))
    | far_after far ↦ same-after x e is far
  ]

  laid-past : (x : ℕ) → ((n : ℕ) → x ≤ n → contains new.ends n ≡ false) → laid x ≡ None
  laid-past x past = elim (cases_lt right x) [
    | inl far ↦ after x far ∙ spans.past x (λ n from. sym (h.after n (omega (arith, far, from))) ∙ past n from)
    | inr upto ↦ absurd (let never : true ≡ false = sym h.at_right ∙ past right upto in cc)
  ]

  laid-another : (e : ℕ) → contains new.ends e ≡ true → laid (e + 1) ≢ numbered (slice_index new.panels e)
  laid-another e is same = elim (place-of e is) [
    | far_before far ↦ spans.another e (sym (h.before e far) ∙ is) (sym (before (e + 1) far) ∙ same ∙ ap numbered (h.panels_before e far))
    | edge is_edge ↦ none_left e is_edge (h.owner e e is_edge (omega arith) (λ n from below. absurd (omega (arith, from, below))) ∙ sym same ∙ held (e + 1) (omega (arith, is_edge))
        (let w = h.ordered in omega (arith, is_edge, w)))
    | last is_last ↦ none_right (sym (after (right + 1) (omega arith)) ∙ ap (λ (k : ℕ). laid (k + 1)) (sym is_last) ∙ same ∙ ap numbered (ap (slice_index new.panels) is_last ∙ h.panel) ∙ its-number)
    | far_after far ↦ spans.another e (sym (h.after e far) ∙ is) (sym (after (e + 1) (omega (arith, far))) ∙ same ∙ ap numbered (h.panels_after e far))
  ]

  pub laid-spans : AreSpans laid new
  laid-spans = record { same = laid-same; past = laid-past; another = laid-another }

-- ---- a panel is laid under the others

-- it owns the columns from left on before x that no other one owns
abbrev pub under : (ℕ → Option ℕ) → ℕ → ℕ → ℕ → ℕ → Option ℕ
under o p left x u = option_or (o u) (if nat_le left u && nat_lt u x then Some p else None)

-- and if it owns the last of them, another one owns the next of those up to right
pub record IsUnder (o : ℕ → Option ℕ) (p left right x : ℕ) (kept : Spans) : Type 0 where
  pub spans : AreSpans (under o p left x) kept
  pub next : (e : ℕ) → e + 1 ≡ x → x ≤ right → under o p left x e ≡ Some p → o x ≢ None

pub spans-as : (o same : ℕ → Option ℕ) (spans : Spans) → AreSpans o spans → ((x : ℕ) → same x ≡ o x) → AreSpans same spans
spans-as o same spans h is = record {
  same = λ x e from. is x ∙ h.same x e from;
  past = λ x none. is x ∙ h.past x none;
  another = λ e from other. h.another e from (sym (is (e + 1)) ∙ other);
}

under-past : (o : ℕ → Option ℕ) (p left x u : ℕ) → (u < left) ⊎ (x ≤ u) → under o p left x u ≡ o u
under-past o p left x u past = by_owner (o u) where
  by_owner : (was : Option ℕ) → option_or was (if nat_le left u && nat_lt u x then Some p else None) ≡ was
  by_owner was = grind (arith, nat_tests)

under-more : (o : ℕ → Option ℕ) (p left x y u : ℕ) → x ≤ y → (u < x) ⊎ (y ≤ u) → under o p left y u ≡ under o p left x u
under-more o p left x y u ordered other = grind (arith, nat_tests)

under-owned : (o : ℕ → Option ℕ) (p left x q u : ℕ) → o u ≡ Some q → under o p left x u ≡ Some q
under-owned o p left x q u is = grind arith

under-none : (o : ℕ → Option ℕ) (p left u : ℕ) → under o p left left u ≡ o u
under-none o p left u = elim (cases_lt u left) [
  | inl below ↦ under-past o p left left u (inl below)
  | inr from ↦ under-past o p left left u (inr from)
]

between : (x end p u : ℕ) (was : Option ℕ) → x ≤ u → u ≤ end → (if nat_le x u && nat_le u end then Some p else was) ≡ Some p
between x end p u was begun upto = grind (arith, nat_tests)

beside : (x end p u : ℕ) (was : Option ℕ) → (u < x) ⊎ (end < u) → (if nat_le x u && nat_le u end then Some p else was) ≡ was
beside x end p u was past = grind (arith, nat_tests)

under-filled : (o : ℕ → Option ℕ) (p left x u : ℕ) → o u ≡ None → left ≤ u → u < x → under o p left x u ≡ Some p
under-filled o p left x u is from below = grind (arith, nat_tests)

module _ (o : ℕ → Option ℕ) (p left right x : ℕ) (old : Spans) (h : IsUnder o p left right x old) (fresh : (u : ℕ) → o u ≢ Some p) (from : left ≤ x) where
  -- the span from x on is another one's
  pub under-other : (q end : ℕ) → x ≤ end → ((u : ℕ) → x ≤ u → u ≤ end → under o p left x u ≡ Some q) → IsUnder o p left right (end + 1) old
  under-other q end ordered same =
      let owned : (u : ℕ) → x ≤ u → u ≤ end → o u ≡ Some q = λ u begun upto. sym (under-past o p left x u (inr begun)) ∙ same u begun upto in
      record {
        spans = spans-as (under o p left x) (under o p left (end + 1)) old h.spans (λ u. elim (cases_lt u x) [
          | inl below ↦ under-more o p left x (end + 1) u (omega (arith, ordered)) (inl below)
          | inr begun ↦ elim (cases_lt end u) [
            | inl past ↦ under-more o p left x (end + 1) u (omega (arith, ordered)) (inr (omega (arith, past)))
            | inr upto ↦ under-owned o p left (end + 1) q u (owned u begun upto) ∙ sym (same u begun upto)
          ]
        ]);
        next = λ e is upto mine. absurd (fresh end (owned end ordered (omega arith) ∙ sym (under-owned o p left (end + 1) q end (owned end ordered (omega arith))) ∙ subst (λ (k : ℕ). under o p left (end + 1) k ≡ Some p) (omega (arith, is)) mine));
      }

  -- the span from x on is no panel's, and filled
  pub under-fill : (end : ℕ) (new : Spans) → x ≤ end → ((u : ℕ) → x ≤ u → u ≤ end → under o p left x u ≡ None) → (end < right → under o p left x (end + 1) ≢ None)
      → ((before : ℕ → Option ℕ) → AreSpans before old → ((e : ℕ) → e + 1 ≡ x → before e ≢ Some p) → before (end + 1) ≢ Some p
      → AreSpans (λ u. if nat_le x u && nat_le u end then Some p else before u) new)
      → x ≤ right → IsUnder o p left right (end + 1) new
  under-fill end new ordered bare another filled inside =
      let none : (u : ℕ) → x ≤ u → u ≤ end → o u ≡ None = λ u begun upto. sym (under-past o p left x u (inr begun)) ∙ bare u begun upto in
      let spans = spans-as (λ u. if nat_le x u && nat_le u end then Some p else under o p left x u) (under o p left (end + 1)) new
      (filled (under o p left x) h.spans (λ e is mine. h.next e is inside mine (none x (omega arith) ordered))
      (λ mine. fresh (end + 1) (sym (under-past o p left x (end + 1) (inr (omega (arith, ordered)))) ∙ mine)))
      (λ u. elim (cases_lt u x) [
        | inl below ↦ under-more o p left x (end + 1) u (omega (arith, ordered)) (inl below) ∙ sym (beside x end p u (under o p left x u) (inl below))
        | inr begun ↦ elim (cases_lt end u) [
          | inl past ↦ under-more o p left x (end + 1) u (omega (arith, ordered)) (inr (omega (arith, past))) ∙ sym (beside x end p u (under o p left x u) (inr past))
          | inr upto ↦ under-filled o p left (end + 1) u (none u begun upto) (omega (arith, from, begun)) (omega (arith, upto)) ∙ sym (between x end p u (under o p left x u) begun upto)
        ]
      ]) in
      record {
        spans = spans;
        next = λ e is upto mine never. another (omega (arith, upto)) (under-past o p left x (end + 1) (inr (omega (arith, ordered))) ∙ never);
      }

-- none of its columns is looked at yet
pub under-begun : (o : ℕ → Option ℕ) (p left right : ℕ) (old : Spans) → AreSpans o old → ((u : ℕ) → o u ≢ Some p) → IsUnder o p left right left old
under-begun o p left right old h fresh = record {
  spans = spans-as o (under o p left left) old h (λ u. under-none o p left u);
  next = λ e is upto mine. absurd (fresh e (sym (under-none o p left e) ∙ mine));
}
