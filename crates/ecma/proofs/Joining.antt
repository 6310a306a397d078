-- Streams one after another, and what a stream that was cut off leads to.
use Rattle.std.specs.Prelude.{◌≡◌, ◌+◌, ◌-◌, ◌<◌, ◌∷◌, ◌++◌}
use Rattle.ecma.specs.{ℕ, zero, suc, List, [], length, take, drop, Some, None, inl, inr, refl, sym, ap, ◌∙◌, subst, arith, append_assoc, append-nil, take-append-drop, take-append-le, length-append}
use Rattle.ecma.specs.{length-take-le, length-drop, take_all, take-append-add, AllByRecursion, option_and_then, Item, Printable, Control, Unfinished, IsItem, IsFinished, bytes_of, MayPrecede}
use Rattle.ecma.specs.{EndsOrEscapes, Splits, Terminal, effect, effects, Leads, LeadsWithBreaks, EndsFinished, IsInProfile, Reaches, cases_lt}
use Rattle.ecma.proofs.Each.{each-append}

-- ---- effects of items one after another

pub effects-append : (prefix back : List Item) (t : Terminal) → effects (prefix ++ back) t ≡ option_and_then (effects back) (effects prefix t)
effects-append [] back t = refl
effects-append (item ∷ prefix) back t = grind (arith, (effects-append prefix back))

pub effects-then : (prefix back : List Item) (t u v : Terminal) → effects prefix t ≡ Some u → effects back u ≡ Some v → effects (prefix ++ back) t ≡ Some v
effects-then prefix back t u v e f = grind (arith, effects-append)

-- ---- items one after another

pub MayPrecede-finished : (item : Item) (bytes : List ℕ) → IsFinished item → MayPrecede item bytes
MayPrecede-finished item bytes h = grind arith

-- an escape, or nothing, may follow any items
pub Splits-then_escape : (bytes : List ℕ) (items : List Item) (rest more : List ℕ) → Splits bytes items rest → EndsOrEscapes more → Splits (bytes ++ more) items (rest ++ more)
Splits-then_escape bytes [] rest more h there = grind arith
Splits-then_escape bytes (item ∷ items) rest more h there = grind (arith, append_assoc, (Splits-then_escape h.0 items rest more h.4 there))

-- anything may follow finished items
pub Splits-then : (bytes : List ℕ) (items : List Item) (rest more : List ℕ) → Splits bytes items rest → AllByRecursion IsFinished items → Splits (bytes ++ more) items (rest ++ more)
Splits-then bytes [] rest more h finished = grind arith
Splits-then bytes (item ∷ items) rest more h finished = grind (arith, append_assoc, MayPrecede-finished, (Splits-then h.0 items rest more h.4 finished.1))

pub Splits-append : (bytes : List ℕ) (items : List Item) (middle : List ℕ) (others : List Item) (rest : List ℕ) → Splits bytes items middle → Splits middle others rest
    → Splits bytes (items ++ others) rest
Splits-append bytes [] middle others rest h k = rw h k
Splits-append bytes (item ∷ items) middle others rest h k = grind (arith, (Splits-append h.0 items middle others rest h.4))

-- ---- the law

pub Leads-append : (stream more : List ℕ) (t u v : Terminal) → Leads stream t u → Leads more u v → Leads (stream ++ more) t v
Leads-append stream more t u v h k = record {
  items = h.items ++ k.items;
  splits = Splits-append (stream ++ more) h.items more k.items [] (Splits-then stream h.items [] more h.splits h.finished) k.splits;
  finished = each-append IsFinished h.items k.items h.finished k.finished;
  have_effect = effects-then h.items k.items t u v h.have_effect k.have_effect;
}

-- ---- streams with breaks

pub bytes_of_some : (item : Item) → IsItem item → 0 < length (bytes_of item)
bytes_of_some item h = grind arith

pub Splits_some : (bytes : List ℕ) (item : Item) (items : List Item) (rest : List ℕ) → Splits bytes (item ∷ items) rest → 0 < length bytes
Splits_some bytes item items rest h = grind (arith, bytes_of_some, length-append)

pub MayPrecede-then : (item : Item) (bytes more : List ℕ) → 0 < length bytes → MayPrecede item bytes → MayPrecede item (bytes ++ more)
MayPrecede-then item bytes more some h = grind arith

pub Splits-ends_then : (bytes : List ℕ) (items : List Item) (more : List ℕ) → Splits bytes items [] → EndsFinished items → Splits (bytes ++ more) items more
Splits-ends_then bytes [] more h ends = grind arith
Splits-ends_then bytes (item ∷ []) more h ends = Splits-then bytes (item ∷ []) [] more h (ends, tt)
Splits-ends_then bytes (item ∷ next ∷ items) more h ends = (
  h.0 ++ more,
  ap (λ (prefix : List ℕ). prefix ++ more) h.1 ∙ append_assoc (bytes_of item) h.0 more,
  h.2,
  MayPrecede-then item h.0 more
      (Splits_some h.0 next items [] h.4) h.3,
  Splits-ends_then h.0 (next ∷ items) more h.4 ends,
)

EndsFinished-finished : (items : List Item) → AllByRecursion IsFinished items → EndsFinished items
EndsFinished-finished [] h = tt
EndsFinished-finished (item ∷ []) h = h.0
EndsFinished-finished (item ∷ next ∷ items) h = EndsFinished-finished (next ∷ items) h.1

EndsFinished-append : (items : List Item) (next : Item) (others : List Item) → EndsFinished (next ∷ others) → EndsFinished (items ++ next ∷ others)
EndsFinished-append [] next others h = h
EndsFinished-append (item ∷ []) next others h = h
EndsFinished-append (item ∷ second ∷ items) next others h = EndsFinished-append (second ∷ items) next others h

EndsFinished-append_finished : (items others : List Item) → EndsFinished items → AllByRecursion IsFinished others → EndsFinished (items ++ others)
EndsFinished-append_finished items [] h k = grind (arith, append-nil)
EndsFinished-append_finished items (next ∷ others) h k = grind (arith, EndsFinished-append, EndsFinished-finished)

pub LeadsWithBreaks-append : (stream more : List ℕ) (t u v : Terminal) → LeadsWithBreaks stream t u → Leads more u v → LeadsWithBreaks (stream ++ more) t v
LeadsWithBreaks-append stream more t u v h k = record {
  items = h.items ++ k.items;
  splits = Splits-append (stream ++ more) h.items more k.items [] (Splits-ends_then stream h.items more h.splits h.ends_finished) k.splits;
  ends_finished = grind (arith, EndsFinished-append_finished);
  have_effect = grind (arith, effects-then);
}

-- what is in the profile goes on from a stream whose last item is finished
pub LeadsWithBreaks-in_profile_then : (stream more : List ℕ) (t u v : Terminal) → LeadsWithBreaks stream t u → IsInProfile more u v → IsInProfile (stream ++ more) t v
LeadsWithBreaks-in_profile_then stream more t u v h k =
    let splits = Splits-append (stream ++ more) h.items more k.items [] (Splits-ends_then stream h.items more h.splits h.ends_finished) k.splits in grind (arith, effects-then)

-- ---- repair: what begins with an escape goes on from anything that is in the profile

pub Reaches-in_profile : (stream : List ℕ) (t u : Terminal) → IsInProfile stream t u → Reaches stream t (length stream) u
Reaches-in_profile stream t u h = grind arith

pub Leads-in_profile : (stream : List ℕ) (t u : Terminal) → Leads stream t u → IsInProfile stream t u
Leads-in_profile stream t u h = grind arith

pub LeadsWithBreaks-in_profile : (stream : List ℕ) (t u : Terminal) → LeadsWithBreaks stream t u → IsInProfile stream t u
LeadsWithBreaks-in_profile stream t u h = grind arith

EndsFinished-some : (items others : List Item) (bytes : List ℕ) → 0 < length bytes → Splits bytes others [] → AllByRecursion IsFinished others → EndsFinished (items ++ others)
EndsFinished-some items [] bytes some h k = grind arith
EndsFinished-some items (next ∷ others) bytes some h k = grind (arith, EndsFinished-append, EndsFinished-finished)

pub Leads-repairs : (stream more : List ℕ) (t u v : Terminal) → IsInProfile stream t u → Leads more u v → 0 < length more → EndsOrEscapes more → LeadsWithBreaks (stream ++ more) t v
Leads-repairs stream more t u v h k some there = record {
  items = h.items ++ k.items;
  splits = grind (arith, Splits-append, Splits-then_escape);
  ends_finished = grind (arith, EndsFinished-some);
  have_effect = grind (arith, effects-then);
}

-- ---- a stream that is cut off is in the profile too

-- some items of the bytes, and what is unfinished of the next
record Cut (bytes : List ℕ) (t : Terminal) : Type 0 where
  items : List Item
  last : Terminal
  splits : Splits bytes items []
  have_effect : effects items t ≡ Some last

pub effects_first : (item : Item) (items : List Item) (t v : Terminal) → effects (item ∷ items) t ≡ Some v → (u : Terminal) × (effect item t ≡ Some u) × (effects items u ≡ Some v)
effects_first item items t v h =
    elim (effect item t) as (λ o. option_and_then (effects items) o ≡ Some v → (u : Terminal) × (o ≡ Some u) × (effects items u ≡ Some v)) [
      | None ↦ λ none. absurd cc
      | Some u ↦ λ rest. (u, refl, rest)
    ] h

cut_in_item : (item : Item) (n : ℕ) (t : Terminal) → IsItem item → IsFinished item → n < length (bytes_of item) → Cut (take n (bytes_of item)) t
cut_in_item (Printable byte) zero t h f short = record { items = []; last = t; splits = refl; have_effect = refl }
cut_in_item (Printable byte) (suc n) t h f short = absurd (omega arith)
cut_in_item (Unfinished begun) n t h f short = grind arith
cut_in_item (Control function parameters) n t h f short = cut_control n short where
  cut_control : (n : ℕ) → n < length (bytes_of (Control function parameters)) → Cut (take n (bytes_of (Control function parameters))) t
  cut_control zero short = record { items = []; last = t; splits = refl; have_effect = refl }
  cut_control (suc m) short =
      record {
        items = Unfinished (take (suc m) (bytes_of (Control function parameters))) ∷ [];
        last = t;
        splits = (
          [],
          sym (append-nil (take (suc m) (bytes_of (Control function parameters)))),
          record {
            begun = omega (arith, length-take-le (suc m) (bytes_of (Control function parameters)));
            function = function;
            parameters = parameters;
            missing = drop (suc m) (bytes_of (Control function parameters));
            well_formed = h;
            not_finished = omega (arith, length-drop (suc m) (bytes_of (Control function parameters)));
            goes_on = take-append-drop (suc m) (bytes_of (Control function parameters));
          },
          tt,
          refl,
        );
        have_effect = refl;
      }

cut_later : (item : Item) (following : List ℕ) (k : ℕ) (t u : Terminal) → IsItem item → IsFinished item → effect item t ≡ Some u → Cut (take k following) u
    → Cut (take (length (bytes_of item) + k) (bytes_of item ++ following)) t
cut_later item following k t u h f e cut = record {
  items = item ∷ cut.items;
  last = cut.last;
  splits = (take k following, take-append-add (bytes_of item) following k, h, MayPrecede-finished item (take k following) f, cut.splits);
  have_effect = rw e cut.have_effect;
}

cut_at : (n : ℕ) (bytes : List ℕ) (items : List Item) (t v : Terminal) → Splits bytes items [] → AllByRecursion IsFinished items → effects items t ≡ Some v → Cut (take n bytes) t
cut_at n bytes [] t v h f e = let nothing : length bytes ≡ 0 = ap length h in rw (take_all n bytes (omega arith)) (record { items = []; last = t; splits = h; have_effect = refl })
cut_at n bytes (item ∷ items) t v h f e =
    let first = effects_first item items t v e in
    rw h.1 (elim (cases_lt n (length (bytes_of item))) [
      | inl lt ↦ rw (take-append-le n (bytes_of item) h.0 (omega arith)) (cut_in_item item n t h.2 f.0 lt)
      | inr le ↦
          let rest = n - length (bytes_of item) in
          subst (λ (k : ℕ). Cut (take k (bytes_of item ++ h.0)) t) (omega arith) (cut_later item h.0 rest t first.0 h.2 f.0 first.1 (cut_at rest h.0 items first.0 v h.4 f.1 first.2))
    ])

in_profile : (bytes : List ℕ) (t : Terminal) → Cut bytes t → (u : Terminal) × IsInProfile bytes t u
in_profile bytes t cut = grind arith

pub Leads-take : (stream : List ℕ) (t v : Terminal) (n : ℕ) → Leads stream t v → (u : Terminal) × IsInProfile (take n stream) t u
Leads-take stream t v n h = in_profile (take n stream) t (cut_at n stream h.items t v h.splits h.finished h.have_effect)

-- what begins with an escape, or is nothing, goes on from any stream in the profile
pub InProfile-append : (stream more : List ℕ) (t u v : Terminal) → IsInProfile stream t u → IsInProfile more u v → EndsOrEscapes more → IsInProfile (stream ++ more) t v
InProfile-append stream more t u v h k there = record { items = h.items ++ k.items; splits = grind (arith, Splits-append, Splits-then_escape); have_effect = grind (arith, effects-then) }
