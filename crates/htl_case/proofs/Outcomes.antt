-- A list of segments is one case, or breaks one rule first, and never both.
use Rattle.std.proofs.Common.{◌≡◌, ◌≢◌, ℕ, ◌<◌, List, [], ◌∷◌, Result, Ok, Err, refl, sym, ap, ◌∙◌, subst}
use Rattle.std.proofs.Common.{inl, inr, ◌⊎◌, arith}
use Rattle.std.specs.Prelude.{Contains, slice_get}
use Rattle.std.proofs.lemmas.Bool.{cases_order}
use Rattle.std.proofs.lemmas.Option.{none-some}
use Rattle.htl_event.specs.Members.{IsRising, IsStrictOrder}
use Rattle.htl_event.proofs.Members.{Contains-cases, Contains-nil, at_member, same_members, some_member}
use Rattle.htl_segment.specs.Content.{Content}
use Rattle.htl_segment.specs.Traces.{Trace, trace, AreInOrder, IsBefore, all_events}
use Rattle.htl_case.specs.declared.fault.CaseFault.{CaseFault}
use Rattle.htl_segment.specs.Rising.{IsKeyBefore}
use Rattle.htl_case.specs.declared.fault.CaseFault.TheVariants.{Empty, OtherTrace, OtherProcessors, TwoContents}
use Rattle.htl_case.specs.declared.fault.CaseFault.TheVariants.{SequenceTwice, NoMemory, Falling}
use Rattle.htl_case.specs.Cases.{IsCaseOf}
use Rattle.htl_event.specs.Members.{IsLeastSuch}
use Rattle.htl_case.specs.Faults.{Differs, HasOtherTrace, HasOtherProcessors, HasTwoContents}
use Rattle.htl_case.specs.Faults.{HaveOneTrace, HaveOneCount, HaveOneContent, ComesTwice, Falls, IsRefusal, IsOutcome}
use Rattle.htl_case.specs.Faults.{key_of}
use Rattle.htl_case.proofs.KeyOrder.{cases_key, not_itself, before_before}
use Rattle.htl_segment.proofs.Spans.{at_place}
use Rattle.htl_case.proofs.Twice.{twice_counted, times_from_own}
use Rattle.htl_case.proofs.FirstFaults.{one_least}

-- ---- one case

-- the order of segments by their keys is strict
pub in_order_strict : IsStrictOrder IsBefore
in_order_strict = record {
  irreflexive = λ s. not_itself (key_of s);
  transitive = λ s t u. before_before (key_of s) (key_of t) (key_of u);
}

-- segments in order rise by their keys
pub in_order_rises : (ss : List Content) → AreInOrder ss → IsRising IsBefore ss
in_order_rises [] ordered = tt
in_order_rises (s ∷ ss) ordered = (ordered.0, in_order_rises ss ordered.1)

same_trace : (S T : Trace) → S.id ≡ T.id → S.processors ≡ T.processors → S.segments ≡ T.segments → S ≡ T
same_trace S T id count segments =
    ap (λ (x : ℕ). trace x S.processors S.segments) id ∙ ap (λ (x : ℕ). trace T.id x S.segments) count ∙ ap
    (λ (ss : List Content). trace T.id T.processors ss) segments

-- a list of segments has one case
pub one_case : (given : List Content) (S T : Trace) → IsCaseOf given S → IsCaseOf given T → S ≡ T
one_case given S T a b =
    let first = some_member S.segments a.is_case.some in
    let of_S = at_member (λ s. (s.trace_id ≡ S.id) × (s.processors ≡ S.processors)) S.segments first.0 a.is_case.trace.same first.1 in
    let of_T = at_member (λ s. (s.trace_id ≡ T.id) × (s.processors ≡ T.processors)) T.segments first.0 b.is_case.trace.same
    ((b.members first.0).1 ((a.members first.0).0 first.1)) in
    same_trace S T (sym of_S.0 ∙ of_T.0) (sym of_S.1 ∙ of_T.1)
    (same_members IsBefore in_order_strict S.segments T.segments (in_order_rises S.segments a.is_case.trace.in_order)
    (in_order_rises T.segments b.is_case.trace.in_order)
    (λ s h. (b.members s).1 ((a.members s).0 h)) (λ s h. (a.members s).1 ((b.members s).0 h)))

-- ---- a case breaks no rule

-- segments in order have one content a key
pub content_in_order : (ss : List Content) → AreInOrder ss → (s t : Content) → Contains ss s → Contains ss t → key_of s ≡ key_of t → s ≡ t
content_in_order [] ordered s t h k same = absurd (Contains-nil s h)
content_in_order (u ∷ us) ordered s t h k same =
    elim (Contains-cases u us s h) [
      | inl s_is ↦ elim (Contains-cases u us t k) [
        | inl t_is ↦ sym s_is ∙ t_is
        | inr t_there ↦
            let before = at_member (IsBefore u) us t ordered.0 t_there in
            absurd (not_itself (key_of u) (subst (λ (x : ℕ × ℕ). IsKeyBefore (key_of u) x) (sym same ∙ ap key_of (sym s_is)) before))
      ]
      | inr s_there ↦ elim (Contains-cases u us t k) [
        | inl t_is ↦
            let before = at_member (IsBefore u) us s ordered.0 s_there in
            absurd (not_itself (key_of u) (subst (λ (x : ℕ × ℕ). IsKeyBefore (key_of u) x) (same ∙ ap key_of (sym t_is)) before))
        | inr t_there ↦ content_in_order us ordered.1 s t s_there t_there same
      ]
    ]

module _ (given : List Content) (T : Trace) (is : IsCaseOf given T) where
  in_case : (s : Content) → Contains given s → Contains T.segments s
  in_case s h = (is.members s).1 h

  -- each segment of the list has the case's trace id and processor count
  pub of_case : (s : Content) → Contains given s → (s.trace_id ≡ T.id) × (s.processors ≡ T.processors)
  of_case s h = at_member (λ s. (s.trace_id ≡ T.id) × (s.processors ≡ T.processors)) T.segments s is.is_case.trace.same (in_case s h)

  -- the segments of a case have one trace id
  pub case_one_trace : HaveOneTrace given
  case_one_trace s t h k = (of_case s h).0 ∙ sym (of_case t k).0

  -- the segments of a case have one processor count
  pub case_one_count : HaveOneCount given
  case_one_count s t h k = (of_case s h).1 ∙ sym (of_case t k).1

  case_content : HaveOneContent given
  case_content s t h k same = content_in_order T.segments is.is_case.trace.in_order s t (in_case s h) (in_case t k) same

  -- the list of a case's segments isn't empty
  pub case_some : given ≢ []
  case_some none =
      let first = some_member T.segments is.is_case.some in
      Contains-nil first.0 (subst (λ (ss : List Content). Contains ss first.0) none ((is.members first.0).0 first.1))

  -- no sequence comes twice in the segments of a case
  pub case_once : (x : ℕ) → ComesTwice given x → ⊥
  case_once x two =
      let twice = twice_counted T.segments x (record {
        one = two.one;
        other = two.other;
        has_one = in_case two.one two.has_one;
        has_other = in_case two.other two.has_other;
        differ = two.differ;
        in_one = two.in_one;
        in_other = two.in_other;
      }) in
      omega (arith, twice, times_from_own (all_events T.segments) is.is_case.trace.sequences x)

  -- no key of a case falls
  pub case_rises : (key : ℕ × ℕ) → Falls given key → ⊥
  case_rises key falls =
      let rises = is.is_case.rising falls.segment falls.lower (in_case falls.segment falls.has_segment)
      (in_case falls.lower falls.has_lower) falls.same_processor falls.lower_number falls.event falls.earlier falls.has_event
      falls.has_earlier in
      omega (arith, rises, falls.falling)

-- no place differs where all segments have one value
no_other : (value : Content → ℕ) (ss : List Content) → ((s t : Content) → Contains ss s → Contains ss t → value s ≡ value t) → (place : ℕ)
    → Differs value ss place → ⊥
no_other value ss one place other = other.differ (one other.other other.first (at_place ss place other.other other.at_place)
    (at_place ss 0 other.first other.at_first))

no_first : (value : Content → ℕ) (ss : List Content) (place : ℕ) → ss ≡ [] → Differs value ss place → ⊥
no_first value ss place none other = none-some other.first (sym (ap (λ (l : List Content). slice_get l 0) none) ∙ other.at_first)

-- ---- rules, in the order in which they are tried

abbrev turn : CaseFault → ℕ
turn Empty = 0
turn (OtherTrace place) = 1
turn (OtherProcessors place) = 2
turn (TwoContents processor number) = 3
turn (SequenceTwice sequence) = 4
turn (Falling processor number) = 5
turn NoMemory = 6

-- what breaks the rule of a fault
abbrev Breaks : List Content → CaseFault → Type 0
Breaks ss Empty = ss ≡ []
Breaks ss (OtherTrace place) = HasOtherTrace ss place
Breaks ss (OtherProcessors place) = HasOtherProcessors ss place
Breaks ss (TwoContents processor number) = HasTwoContents ss (processor, number)
Breaks ss (SequenceTwice sequence) = ComesTwice ss sequence
Breaks ss (Falling processor number) = Falls ss (processor, number)
Breaks ss NoMemory = ⊥

breaks : (ss : List Content) (fault : CaseFault) → fault ≢ NoMemory → IsRefusal ss fault → Breaks ss fault
breaks ss Empty told r = r
breaks ss (OtherTrace place) told r = r.holds
breaks ss (OtherProcessors place) told r = r.1.holds
breaks ss (TwoContents processor number) told r = r.2.holds
breaks ss (SequenceTwice sequence) told r = r.1.holds
breaks ss (Falling processor number) told r = r.2.holds
breaks ss NoMemory told r = told refl

no_two : (ss : List Content) (key : ℕ × ℕ) → HaveOneContent ss → HasTwoContents ss key → ⊥
no_two ss key content two = two.differ (content two.one two.other two.has_one two.has_other (two.one_key ∙ sym two.other_key))

case_breaks_none : (given : List Content) (T : Trace) (fault : CaseFault) → IsCaseOf given T → Breaks given fault → ⊥
case_breaks_none given T Empty is b = case_some given T is b
case_breaks_none given T (OtherTrace place) is b = no_other _ given (case_one_trace given T is) place b
case_breaks_none given T (OtherProcessors place) is b = no_other _ given (case_one_count given T is) place b
case_breaks_none given T (TwoContents processor number) is b = no_two given (processor, number) (case_content given T is) b
case_breaks_none given T (SequenceTwice sequence) is b = case_once given T is sequence b
case_breaks_none given T (Falling processor number) is b = case_rises given T is (processor, number) b
case_breaks_none given T NoMemory is b = b

-- a rule that is tried before that of the fault that is reported isn't broken
some_later : (ss : List Content) (later : CaseFault) → 0 < turn later → later ≢ NoMemory → IsRefusal ss later → ss ≡ [] → ⊥
some_later ss Empty lt told r none = omega (arith, lt)
some_later ss (OtherTrace place) lt told r none = no_first _ ss place none r.holds
some_later ss (OtherProcessors place) lt told r none = no_first _ ss place none r.1.holds
some_later ss (TwoContents processor number) lt told r none = Contains-nil r.2.holds.one
    (subst (λ (l : List Content). Contains l r.2.holds.one) none r.2.holds.has_one)
some_later ss (SequenceTwice sequence) lt told r none = r.0.some none
some_later ss (Falling processor number) lt told r none = r.0.some none
some_later ss NoMemory lt told r none = told refl

one_trace_later : (ss : List Content) (later : CaseFault) → 1 < turn later → later ≢ NoMemory → IsRefusal ss later → HaveOneTrace ss
one_trace_later ss (OtherProcessors place) lt told r = r.0
one_trace_later ss (TwoContents processor number) lt told r = r.0
one_trace_later ss (SequenceTwice sequence) lt told r = r.0.trace
one_trace_later ss (Falling processor number) lt told r = r.0.trace
one_trace_later ss NoMemory lt told r = absurd (told refl)
one_trace_later ss earlier lt told r = absurd (omega (arith, lt))

one_count_later : (ss : List Content) (later : CaseFault) → 2 < turn later → later ≢ NoMemory → IsRefusal ss later → HaveOneCount ss
one_count_later ss (TwoContents processor number) lt told r = r.1
one_count_later ss (SequenceTwice sequence) lt told r = r.0.count
one_count_later ss (Falling processor number) lt told r = r.0.count
one_count_later ss NoMemory lt told r = absurd (told refl)
one_count_later ss earlier lt told r = absurd (omega (arith, lt))

one_content_later : (ss : List Content) (later : CaseFault) → 3 < turn later → later ≢ NoMemory → IsRefusal ss later → HaveOneContent ss
one_content_later ss (SequenceTwice sequence) lt told r = r.0.content
one_content_later ss (Falling processor number) lt told r = r.0.content
one_content_later ss NoMemory lt told r = absurd (told refl)
one_content_later ss earlier lt told r = absurd (omega (arith, lt))

once_later : (ss : List Content) (later : CaseFault) → 4 < turn later → later ≢ NoMemory → IsRefusal ss later → (x : ℕ) → ComesTwice ss x
    → ⊥
once_later ss (Falling processor number) lt told r = r.1
once_later ss NoMemory lt told r = absurd (told refl)
once_later ss earlier lt told r = absurd (omega (arith, lt))

none_earlier : (ss : List Content) (earlier later : CaseFault) → turn earlier < turn later → later ≢ NoMemory → Breaks ss earlier
    → IsRefusal ss later → ⊥
none_earlier ss Empty later lt told b r = some_later ss later lt told r b
none_earlier ss (OtherTrace place) later lt told b r = no_other _ ss (one_trace_later ss later lt told r) place b
none_earlier ss (OtherProcessors place) later lt told b r = no_other _ ss (one_count_later ss later lt told r) place b
none_earlier ss (TwoContents processor number) later lt told b r = no_two ss (processor, number) (one_content_later ss later lt told r) b
none_earlier ss (SequenceTwice sequence) later lt told b r = once_later ss later lt told r sequence b
none_earlier ss (Falling processor number) later lt told b r = last later lt told
  where
    last : (later : CaseFault) → 5 < turn later → later ≢ NoMemory → ⊥
    last NoMemory lt told = told refl
    last earlier lt told = omega (arith, lt)
none_earlier ss NoMemory later lt told b r = b

-- ---- one fault

one_key : (P : ℕ × ℕ → Type 0) (x y : ℕ × ℕ) → IsLeastSuch IsKeyBefore P x → IsLeastSuch IsKeyBefore P y → x ≡ y
one_key P x y a b =
    elim (cases_key x y) [
      | inl before ↦ absurd (b.least x before a.holds)
      | inr (inl same) ↦ same
      | inr (inr after) ↦ absurd (a.least y after b.holds)
    ]

same_turn : (ss : List Content) (f g : CaseFault) → turn f ≡ turn g → f ≢ NoMemory → IsRefusal ss f → IsRefusal ss g → f ≡ g
same_turn ss Empty Empty e told a b = refl
same_turn ss (OtherTrace x) (OtherTrace y) e told a b = ap OtherTrace (one_least (HasOtherTrace ss) x y a b)
same_turn ss (OtherProcessors x) (OtherProcessors y) e told a b = ap OtherProcessors (one_least (HasOtherProcessors ss) x y a.1 b.1)
same_turn ss (TwoContents p n) (TwoContents q m) e told a b = ap (λ (k : ℕ × ℕ). TwoContents k.0 k.1)
    (one_key (HasTwoContents ss) (p, n) (q, m) a.2 b.2)
same_turn ss (SequenceTwice x) (SequenceTwice y) e told a b = ap SequenceTwice (one_least (ComesTwice ss) x y a.1 b.1)
same_turn ss (Falling p n) (Falling q m) e told a b = ap (λ (k : ℕ × ℕ). Falling k.0 k.1) (one_key (Falls ss) (p, n) (q, m) a.2 b.2)
same_turn ss NoMemory NoMemory e told a b = refl
same_turn ss f g e told a b = absurd (omega (arith, e))

one_fault : (ss : List Content) (f g : CaseFault) → f ≢ NoMemory → g ≢ NoMemory → IsRefusal ss f → IsRefusal ss g → f ≡ g
one_fault ss f g f_told g_told a b =
    elim (cases_order (turn f) (turn g)) [
      | inl same ↦ same_turn ss f g same f_told a b
      | inr (inl lt) ↦ absurd (none_earlier ss f g lt g_told (breaks ss f f_told a) b)
      | inr (inr gt) ↦ absurd (none_earlier ss g f gt f_told (breaks ss g g_told b) a)
    ]

-- ---- what the code answers is the outcome, but for out of memory

is_memory : (fault : CaseFault) → (fault ≡ NoMemory) ⊎ (fault ≢ NoMemory)
is_memory NoMemory = inl refl
is_memory fault = inr (λ same. cc)

-- the fault that is reported is the list's outcome, or the list is refused for want of memory
pub exact_fault : (given : List Content) (fault : CaseFault) (outcome : Result Trace CaseFault) → IsRefusal given fault
    → IsOutcome given outcome
    → (◌≡◌ {A = Result Trace CaseFault} (Err fault) outcome) ⊎ (◌≡◌ {A = Result Trace CaseFault} (Err fault) (Err NoMemory))
exact_fault given fault outcome refused is =
    elim (is_memory fault) [
      | inl memory ↦ inr (ap (λ (f : CaseFault). let r : Result Trace CaseFault = Err f in r) memory)
      | inr told ↦ inl (settle outcome is told)
    ]
  where
    settle : (outcome : Result Trace CaseFault) → IsOutcome given outcome → fault ≢ NoMemory → ◌≡◌ {A = Result Trace CaseFault}
        (Err fault) outcome
    settle (Ok T) is told = absurd (case_breaks_none given T fault is (breaks given fault told refused))
    settle (Err other) is told = ap (λ (f : CaseFault). let r : Result Trace CaseFault = Err f in r)
        (one_fault given fault other told is.0 refused is.1)

-- the case that is answered is the list's outcome, or the list is refused for want of memory
pub exact_case : (given : List Content) (S : Trace) (outcome : Result Trace CaseFault) → IsCaseOf given S → IsOutcome given outcome
    → (◌≡◌ {A = Result Trace CaseFault} (Ok S) outcome) ⊎ (◌≡◌ {A = Result Trace CaseFault} (Ok S) (Err NoMemory))
exact_case given S outcome case_is is = inl (settle outcome is)
  where
    settle : (outcome : Result Trace CaseFault) → IsOutcome given outcome → ◌≡◌ {A = Result Trace CaseFault} (Ok S) outcome
    settle (Ok T) is = ap (λ (x : Trace). let r : Result Trace CaseFault = Ok x in r) (one_case given S T case_is is)
    settle (Err fault) is = absurd (case_breaks_none given S fault case_is (breaks given fault is.0 is.1))
