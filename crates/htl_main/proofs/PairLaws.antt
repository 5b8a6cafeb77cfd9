-- Two segments that break a rule are found wherever there are some.
use Rattle.std.proofs.Common.{◌≡◌, ◌∙◌, ◌<◌, ◌≤◌, ◌+◌, ℕ, Bool, true, false, List, [], ◌∷◌, length, get_or, ltb, Option, Some, None}
use Rattle.std.proofs.Common.{refl, sym, ap, subst, arith, inl, inr}
use Rattle.std.specs.Prelude.{Contains, MatchOption, cond, nat_le, nat_lt, position, slice_get, ◌==◌}
use Rattle.std.specs.List.{position_or_len}
use Rattle.std.specs.Cmp.Derive.{both_true}
use Rattle.std.proofs.lemmas.Bool.{cases_Bool, cases_eq, eq-eqb, eqb-true, le-leb, leb-true, lt-ltb, ltb-false, ltb-true, and_parts}
use Rattle.std.proofs.lemmas.List.Folds.{Any-from_list_any}
use Rattle.std.proofs.lemmas.Option.{slice_get-get_or}
use Rattle.std.proofs.lemmas.List.Quantifiers.{position-Some}
use Rattle.std.proofs.lemmas.List.Sums.{fails_before_first}
use Rattle.htl_event.specs.Events.{Event}
use Rattle.htl_event.proofs.Members.{Contains-cases, Contains-nil}
use Rattle.htl_segment.specs.declared.version.Version.{Version}
use Rattle.htl_segment.specs.Content.{Content, EventsFit, Fits}
use Rattle.htl_segment.proofs.Spans.{above, at_place}
use Rattle.htl_case.specs.Faults.{Falls, HaveOneContent, IsRefusal, key_of}
use Rattle.htl_case.specs.declared.fault.CaseFault.TheVariants.{TwoContents, SequenceTwice, Falling}
use Rattle.htl_symbols.proofs.Searches.{list_any-true}
use Rattle.htl_main.specs.Origins.{BreakRuleAt, is_about_two}
use Rattle.htl_main.specs.Pairs.{AreOne, AreTwoAt, HaveOne, IsLeastSequence, NonePasses, PassesAt, has_shared, is_key, reaches}
use Rattle.htl_main.specs.declared.loading.pairing.Shared.{Shared}
use Rattle.htl_main.specs.declared.loading.pairing.Shared.TheVariants.{Key, Sequence}

-- a member stands at some place
pub member_at : {X : Type 0} (xs : List X) (x : X) (h : Contains xs x) → slice_get xs h.0 ≡ Some x
member_at xs x h = slice_get-get_or xs h.0 x h.1 ∙ ap Some h.2

found_at : {X : Type 0} (test : X → Bool) (xs : List X) (place : ℕ) → position test xs ≡ Some place → PassesAt test xs place
found_at test [] place found = absurd cc
found_at test (x ∷ xs) place found =
    let here = position-Some test (x ∷ xs) place x found in
    record { one = get_or (x ∷ xs) place x; here = slice_get-get_or (x ∷ xs) place x here.0; passes = here.1 }

none_found : {X : Type 0} (test : X → Bool) (xs : List X) → length xs ≤ position_or_len test xs → NonePasses test xs
none_found test xs long x h passes =
    let fails = fails_before_first test xs h.0 x (let within = h.1 in omega (arith, long, within)) in
    let is = h.2 in absurd cc

-- what a search for the first finds
pub first_passing : {X : Type 0} (test : X → Bool) (xs : List X) → MatchOption (position test xs) (NonePasses test xs) (PassesAt test xs)
first_passing test xs = elim (cases_Bool (ltb (position_or_len test xs) (length xs))) [
  | inl found ↦
      let some : position test xs ≡ Some (position_or_len test xs) = ap (λ (b : Bool). cond b (Some (position_or_len test xs)) None) found in
      rw some (found_at test xs (position_or_len test xs) some)
  | inr past ↦
      let none : position test xs ≡ None = ap (λ (b : Bool). cond b (Some (position_or_len test xs)) None) past in
      rw none (none_found test xs (ltb-false (position_or_len test xs) (length xs) past))
]

-- the first event has the least sequence
first_least : (version : Version) (low : ℕ) (es : List Event) (first : Event) → EventsFit version low es → slice_get es 0 ≡ Some first
    → (e : Event) → Contains es e → first.sequence ≤ e.sequence
first_least version low [] first fit at e h = absurd (Contains-nil e h)
first_least version low (x ∷ es) first fit at e h =
    let same : first.sequence ≡ x.sequence = (let is : x ≡ first = cc in ap (λ (y : Event). y.sequence) (sym is)) in
    elim (Contains-cases x es e h) [
      | inl is ↦ (let here : x.sequence ≡ e.sequence = ap (λ (y : Event). y.sequence) is in omega (arith, same, here))
      | inr there ↦ (let up = above version x.sequence es fit.2 e there in omega (arith, up, same))
    ]

-- the first event of a segment that fits has the least sequence
pub least_sequence : (s : Content) (first : Event) → Fits s → slice_get s.events 0 ≡ Some first
    → IsLeastSequence s.events first.sequence
least_sequence s first fit at = record {
  event = first;
  has = at_place s.events 0 first at;
  sequence = refl;
  bound = first_least s.version 0 s.events first fit.events at;
}

-- ---- going through the segments for another one

-- all segments before the place that have the key, or an event of the sequence, are this one
abbrev pub AreOneBefore : Shared → List Content → Content → ℕ → Type 0
AreOneBefore shared segments one place =
    (k : ℕ) (s : Content) → k < place → slice_get segments k ≡ Some s → has_shared shared s ≡ true → s ≡ one

-- where the segment at the place is this one, or hasn't the key or the sequence, all of one place more are this one
pub one_more : (shared : Shared) (segments : List Content) (one here : Content) (place : ℕ) → slice_get segments place ≡ Some here
    → (has_shared shared here ≡ true → here ≡ one) → AreOneBefore shared segments one place
    → AreOneBefore shared segments one (place + 1)
one_more shared segments one here place at same before = λ k s below there has. elim (cases_eq k place) [
  | inl e ↦
      let is : s ≡ here = (let back : slice_get segments place ≡ Some s = subst (λ (n : ℕ). slice_get segments n ≡ Some s) e there in cc) in
      is ∙ same (subst (λ (t : Content). has_shared shared t ≡ true) is has)
  | inr ne ↦ before k s (omega (arith, below, ne)) there has
]

-- past the last place, all segments that have the key or the sequence are this one
pub one_of_all : (shared : Shared) (segments : List Content) (one : Content) (place : ℕ) → length segments ≤ place
    → AreOneBefore shared segments one place → HaveOne shared segments one
one_of_all shared segments one place long before = λ s h has.
    before h.0 s (let within = h.1 in omega (arith, long, within)) (member_at segments s h) has

-- where all segments that have the key or the sequence are this one, they are one
pub are_one : (shared : Shared) (segments : List Content) (one : Content) → HaveOne shared segments one → AreOne shared segments
are_one shared segments one have = λ s t h k p q. have s h p ∙ sym (have t k q)

-- ---- what two segments have

has_key : (processor number : ℕ) (s : Content) → key_of s ≡ (processor, number) → is_key processor number s ≡ true
has_key processor number s same =
    both_true (eq-eqb s.processor processor (ap (λ (k : ℕ × ℕ). k.0) same)) (eq-eqb s.number number (ap (λ (k : ℕ × ℕ). k.1) same))

key_is : (processor number : ℕ) (s : Content) → is_key processor number s ≡ true → key_of s ≡ (processor, number)
key_is processor number s has =
    let tests = and_parts (s.processor == processor) (s.number == number) has in
    let p = eqb-true s.processor processor tests.0 in
    let n = eqb-true s.number number tests.1 in
    cc

abbrev HasSequence : Content → ℕ → Type 0
HasSequence s sequence = (e : Event) × Contains s.events e × (e.sequence ≡ sequence)

has_sequence : (sequence : ℕ) (s : Content) → HasSequence s sequence → has_shared (Sequence sequence) s ≡ true
has_sequence sequence s (e, h, is) =
    list_any-true (λ (x : Event). x.sequence == sequence) s.events e h (eq-eqb e.sequence sequence is)

sequence_is : (sequence : ℕ) (s : Content) → has_shared (Sequence sequence) s ≡ true → HasSequence s sequence
sequence_is sequence s has =
    let some = Any-from_list_any (λ (x : Event). x.sequence == sequence) s.events has in
    (some.1, (some.0, some.2, some.3), eqb-true _ _ some.4)

-- ---- the pair of each fault

-- the two segments found for a key with two contents break the rule, and where none are found the fault is of no two
pub contents_pair : (segments : List Content) (processor number : ℕ) (found : Option (ℕ × ℕ)) → IsRefusal segments (TwoContents processor number)
    → MatchOption found (AreOne (Key processor number) segments) (λ pair. AreTwoAt segments (Key processor number) pair.0 pair.1)
    → MatchOption found (is_about_two (TwoContents processor number) ≡ false)
    (λ pair. BreakRuleAt segments (TwoContents processor number) pair.0 pair.1)
contents_pair segments processor number None refusal one =
    let two = refusal.2.holds in
    absurd (two.differ (one two.one two.other two.has_one two.has_other (has_key processor number two.one two.one_key)
    (has_key processor number two.other two.other_key)))
contents_pair segments processor number (Some pair) refusal two = record {
  one = two.one;
  other = two.other;
  at_first = two.at_first;
  at_second = two.at_second;
  broken = (
    key_is processor number two.one two.has_one,
    key_is processor number two.other two.has_other,
    (λ same. two.differ (sym same)),
  );
}

-- the two segments found for a sequence that comes twice break the rule, and where none are found the fault is of no two
pub sequence_pair : (segments : List Content) (sequence : ℕ) (found : Option (ℕ × ℕ)) → IsRefusal segments (SequenceTwice sequence)
    → MatchOption found (AreOne (Sequence sequence) segments) (λ pair. AreTwoAt segments (Sequence sequence) pair.0 pair.1)
    → MatchOption found (is_about_two (SequenceTwice sequence) ≡ false)
    (λ pair. BreakRuleAt segments (SequenceTwice sequence) pair.0 pair.1)
sequence_pair segments sequence None refusal one =
    let two = refusal.1.holds in
    absurd (two.differ (one two.one two.other two.has_one two.has_other (has_sequence sequence two.one two.in_one)
    (has_sequence sequence two.other two.in_other)))
sequence_pair segments sequence (Some pair) refusal two = record {
  one = two.one;
  other = two.other;
  at_first = two.at_first;
  at_second = two.at_second;
  broken = (
    sequence_is sequence two.one two.has_one,
    sequence_is sequence two.other two.has_other,
    (λ same. two.differ (sym same)),
  );
}

-- the two segments found for a key that falls break the rule, and where none are found the fault is of no two
pub falling_pair : (segments : List Content) (processor number : ℕ) (found : Option (ℕ × ℕ)) → IsRefusal segments (Falling processor number)
    → MatchOption found (Falls segments (processor, number) → ⊥) (λ pair. BreakRuleAt segments (Falling processor number) pair.0 pair.1)
    → MatchOption found (is_about_two (Falling processor number) ≡ false)
    (λ pair. BreakRuleAt segments (Falling processor number) pair.0 pair.1)
falling_pair segments processor number None refusal none = absurd (none refusal.2.holds)
falling_pair segments processor number (Some pair) refusal two = two

-- ---- a segment that falls, and one of a lower number

module _ (segments : List Content) (processor number : ℕ) where
  -- a key that no segment has doesn't fall
  pub no_key : NonePasses (has_shared (Key processor number)) segments → Falls segments (processor, number) → ⊥
  no_key none falls = none falls.segment falls.has_segment (has_key processor number falls.segment falls.segment_key)

  segment_is : HaveOneContent segments → (place : ℕ) (s : Content) → slice_get segments place ≡ Some s
      → has_shared (Key processor number) s ≡ true → (falls : Falls segments (processor, number)) → falls.segment ≡ s
  segment_is content place s at has falls =
      content falls.segment s falls.has_segment (at_place segments place s at)
      (falls.segment_key ∙ sym (key_is processor number s has))

  -- a key whose segment has no events doesn't fall
  pub no_event : HaveOneContent segments → (place : ℕ) (s : Content) → slice_get segments place ≡ Some s
      → has_shared (Key processor number) s ≡ true → s.events ≡ [] → Falls segments (processor, number) → ⊥
  no_event content place s at has none falls =
      let is = segment_is content place s at has falls in
      Contains-nil falls.event (subst (λ (es : List Event). Contains es falls.event) (ap (λ (t : Content). t.events) is ∙ none) falls.has_event)

  -- a key doesn't fall where no segment of a lower number reaches the least sequence of its segment
  pub no_lower : HaveOneContent segments → (place : ℕ) (s : Content) → slice_get segments place ≡ Some s
      → has_shared (Key processor number) s ≡ true → (floor : ℕ) → IsLeastSequence s.events floor
      → NonePasses (reaches processor number floor) segments → Falls segments (processor, number) → ⊥
  no_lower content place s at has floor least none falls =
      let is = segment_is content place s at has falls in
      let floor_below = least.bound falls.event (subst (λ (t : Content). Contains t.events falls.event) is falls.has_event) in
      let falling = falls.falling in
      let up : floor ≤ falls.earlier.sequence = omega (arith, floor_below, falling) in
      let key = falls.segment_key in
      let own : falls.segment.processor ≡ processor = ap (λ (k : ℕ × ℕ). k.0) key in
      let its : falls.segment.number ≡ number = ap (λ (k : ℕ × ℕ). k.1) key in
      let p : falls.lower.processor ≡ processor = falls.same_processor ∙ own in
      let lower = falls.lower_number in
      let n : falls.lower.number < number = omega (arith, lower, its) in
      let any = list_any-true (λ (e : Event). nat_le floor e.sequence) falls.lower.events falls.earlier falls.has_earlier
      (le-leb floor falls.earlier.sequence up) in
      let here : (falls.lower.processor == processor) ≡ true = eq-eqb falls.lower.processor processor p in
      none falls.lower falls.has_lower (both_true here (both_true (lt-ltb falls.lower.number number n) any))

  -- a segment of a lower number that reaches the least sequence of the key's segment breaks the rule with it
  pub fall_found : (place : ℕ) (s : Content) → slice_get segments place ≡ Some s → has_shared (Key processor number) s ≡ true
      → (floor : ℕ) → IsLeastSequence s.events floor → (lower : ℕ) → PassesAt (reaches processor number floor) segments lower
      → BreakRuleAt segments (Falling processor number) place lower
  fall_found place s at has floor least lower found =
      let passes = found.passes in
      let tests = and_parts (found.one.processor == processor) _ passes in
      let more = and_parts (nat_lt found.one.number number) _ tests.1 in
      let some = Any-from_list_any (λ (e : Event). nat_le floor e.sequence) found.one.events more.1 in
      let up : floor ≤ some.1.sequence = leb-true floor some.1.sequence some.4 in
      let is = least.sequence in
      record {
        one = s;
        other = found.one;
        at_first = at;
        at_second = found.here;
        broken = (
          key_is processor number s has,
          eqb-true _ _ tests.0,
          ltb-true found.one.number number more.0,
          least.event,
          some.1,
          least.has,
          (some.0, some.2, some.3),
          omega (arith, up, is),
        );
      }
