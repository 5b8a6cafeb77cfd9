-- What the outlines of one processor say of its keys and sequences is so of its segments.
use Rattle.std.proofs.Common.{◌≡◌, ℕ, zero, suc, ◌+◌, ◌-◌, ◌^◌, ◌<◌, ◌≤◌, List, [], ◌∷◌, ◌++◌, map, max, take, All}
use Rattle.std.proofs.Common.{refl, ap, subst, sym, ◌∙◌, arith, inl, inr, length-append}
use Rattle.std.specs.Prelude.{get_or, Contains}
use Rattle.std.specs.List.{AllByRecursion}
use Rattle.std.specs.List.Sorted.{IsNonDecreasingBy}
use Rattle.std.proofs.lemmas.Bool.{cases_lt}
use Rattle.std.proofs.lemmas.List.{append-nil, append_assoc, take-map}
use Rattle.std.proofs.lemmas.List.Elements.{All-contains, All-from_recursion, Contains-get_or}
use Rattle.htl_event.specs.Events.{Event}
use Rattle.htl_event.specs.Handles.{IsGreatestSequence}
use Rattle.htl_event.proofs.Members.{at_member, each_member, Contains-map, Contains-from_map}
use Rattle.htl_segment.specs.Content.{Content, Fits}
use Rattle.htl_segment.specs.Outlines.{outline_of, last_sequence}
use Rattle.htl_segment.specs.Traces.{Trace, IsTrace, IsBefore, AreInOrder, HasKey, all_events}
use Rattle.htl_segment.specs.declared.outline.Outline.{Outline}
use Rattle.htl_segment.proofs.Greatest.{greatest_joined, greatest_none}
use Rattle.htl_segment.proofs.OutlineLaws.{last_is_greatest}
use Rattle.htl_taken.specs.Gaps.{IsGaps}
use Rattle.htl_taken.specs.GapLists.{gaps_of}
use Rattle.htl_taken.specs.Rising.{reach_from}
use Rattle.htl_taken.specs.declared.gap.Gap.{Gap}
use Rattle.htl_tables.proofs.FirstNoted.{get_cases}
use Rattle.htl_evidence.specs.Outlines.{AreFronts, AreOutlinesOf, greatest_from, numbers_of}
use Rattle.htl_case.specs.Complete.{IsFirstMissing, IsUnbrokenTo}
use Rattle.htl_evidence.proofs.Covered.{AreFrom, AreOwn, segment_numbers, cut, first_is, from_first, more_gaps, next_back, own_front}
use Rattle.htl_evidence.proofs.Covered.{unbroken_to}
use Rattle.htl_case.proofs.Scanned.{processor_rises}

-- the outlines of the trace's segments of the processor, and of those from it on
pub record AreOwnOutlines (T : Trace) (p : ℕ) (own : List Outline) : Type 0 where
  pub segments : List Content
  pub mine : AreOwn T p segments
  pub outlines : own ≡ map outline_of segments

-- the rest has the outlines of the trace's segments of the processors from p on, in order
pub record AreOutlinesFrom (T : Trace) (p : ℕ) (rest : List Outline) : Type 0 where
  pub segments : List Content
  pub from : AreFrom T p segments
  pub outlines : rest ≡ map outline_of segments

-- from the first processor on, the rest are all outlines
pub outlines_from_first : (T : Trace) (n : ℕ) (outlines : List Outline) → AreOutlinesOf n outlines T → AreOutlinesFrom T 0 outlines
outlines_from_first T n outlines are = record { segments = T.segments; from = from_first T are.0.trace; outlines = are.2 }

-- ---- of the processors from one on

by_processor : (ss : List Content) → AreInOrder ss → IsNonDecreasingBy (λ o. o.processor) (map outline_of ss)
by_processor [] ordered i j d le within = absurd (omega (arith, within))
by_processor (s ∷ ss) ordered zero zero d le within = omega arith
by_processor (s ∷ ss) ordered zero (suc j) d le within =
    let there = Contains-get_or (map outline_of ss) j d (omega (arith, within)) in
    let from = Contains-from_map outline_of ss (get_or (map outline_of ss) j d) there in
    let low = processor_rises s from.0 (at_member (IsBefore s) ss from.0 ordered.0 from.1) in
    let same : (from.0).processor ≡ (get_or (map outline_of ss) j d).processor = ap (λ (o : Outline). o.processor) from.2 in
    omega (arith, low, same)
by_processor (s ∷ ss) ordered (suc i) zero d le within = absurd (omega (arith, le))
by_processor (s ∷ ss) ordered (suc i) (suc j) d le within =
    by_processor ss ordered.1 i j d (omega (arith, le)) (omega (arith, within))

-- what holds of the processor of each segment holds of that of each outline
each_outline : (P : ℕ → Type 0) (ss : List Content) → ((s : Content) → Contains ss s → P s.processor) → All (λ o. P o.processor) (map outline_of ss)
each_outline P ss each = All-from_recursion (λ o. P o.processor) (map outline_of ss) (each_member (λ o. P o.processor) (map outline_of ss) (λ o h.
    let from = Contains-from_map outline_of ss o h in subst P (ap (λ (x : Outline). x.processor) from.2) (each from.0 from.1)))

each_segment : (P : ℕ → Type 0) (ss : List Content) → All (λ o. P o.processor) (map outline_of ss) → All (λ s. P s.processor) ss
each_segment P ss all = All-from_recursion (λ s. P s.processor) ss (each_member (λ s. P s.processor) ss (λ s h.
    All-contains (λ o. P o.processor) (map outline_of ss) (outline_of s) all (Contains-map outline_of ss s h)))

module _ (T : Trace) (p : ℕ) (rest : List Outline) (are : AreOutlinesFrom T p rest) where
  in_order : IsNonDecreasingBy (λ o. o.processor) rest
  in_order = rw are.outlines (by_processor are.segments are.from.in_order)

  none_before : All (λ o. p ≤ o.processor) rest
  none_before = rw are.outlines (each_outline (λ q. p ≤ q) are.segments (λ s h. ((are.from.members s).0 h).1))

-- outlines in two parts are those of segments in two parts
record AreInParts (own after : List Outline) (ss : List Content) : Type 0 where
  front : List Content
  back : List Content
  both : ss ≡ front ++ back
  own_are : own ≡ map outline_of front
  after_are : after ≡ map outline_of back

in_parts : (own after : List Outline) (ss : List Content) → own ++ after ≡ map outline_of ss → AreInParts own after ss
in_parts [] after ss e = record { front = []; back = ss; both = refl; own_are = refl; after_are = e }
in_parts (o ∷ own) after [] e = absurd cc
in_parts (o ∷ own) after (s ∷ ss) e =
    let first : o ≡ outline_of s = cc in
    let later : own ++ after ≡ map outline_of ss = cc in
    let parts = in_parts own after ss later in
    record {
      front = s ∷ parts.front;
      back = parts.back;
      both = ap (λ (xs : List Content). s ∷ xs) parts.both;
      own_are = ap (λ (x : Outline). x ∷ own) first ∙ ap (λ (xs : List Outline). outline_of s ∷ xs) parts.own_are;
      after_are = parts.after_are;
    }

-- what a search cuts off in front, and what it leaves
module _ (T : Trace) (p : ℕ) (rest own after : List Outline) (from : AreOutlinesFrom T p rest) (split : own ++ after ≡ rest)
    (is_own : IsNonDecreasingBy (λ o. o.processor) rest → All (λ o. p ≤ o.processor) rest → All (λ o. o.processor ≡ p) own)
    (is_after : IsNonDecreasingBy (λ o. o.processor) rest → All (λ o. p < o.processor) after) where
  parts : AreInParts own after from.segments
  parts = in_parts own after from.segments (split ∙ from.outlines)

  from_parts : AreFrom T p (parts.front ++ parts.back)
  from_parts = subst (AreFrom T p) parts.both from.from

  front_is : All (λ s. s.processor ≡ p) parts.front
  front_is = let all = is_own (in_order T p rest from) (none_before T p rest from) in
      each_segment (λ q. q ≡ p) parts.front (rw parts.own_are at all)

  back_is : All (λ s. p < s.processor) parts.back
  back_is = let all = is_after (in_order T p rest from) in each_segment (λ q. p < q) parts.back (rw parts.after_are at all)

  -- what the search cuts off in front of the rest are the processor's outlines
  pub own_outlines : AreOwnOutlines T p own
  own_outlines = record {
    segments = parts.front;
    mine = own_front T p parts.front parts.back from_parts front_is back_is;
    outlines = parts.own_are;
  }

  -- what the search leaves of the rest are the outlines of the processors after it
  pub outlines_after : AreOutlinesFrom T (p + 1) after
  outlines_after = record {
    segments = parts.back;
    from = next_back T p parts.front parts.back from_parts front_is back_is;
    outlines = parts.after_are;
  }

-- ---- of one processor

same_numbers : (ss : List Content) → numbers_of (map outline_of ss) ≡ segment_numbers ss
same_numbers [] = refl
same_numbers (s ∷ ss) = ap (λ (ns : List ℕ). s.number ∷ ns) (same_numbers ss)

greatest_with : (ss : List Content) (seen : List Event) (n : ℕ) → AllByRecursion Fits ss → IsGreatestSequence (Contains seen) n
    → IsGreatestSequence (Contains (seen ++ all_events ss)) (greatest_from n (map outline_of ss))
greatest_with [] seen n fit so_far = rw (append-nil seen) so_far
greatest_with (s ∷ ss) seen n fit so_far =
    let last = last_sequence 0 s.events in
    let more = greatest_joined seen s.events (max last n) n last (omega arith) so_far (last_is_greatest s fit.0) in
    subst (λ (es : List Event). IsGreatestSequence (Contains es) (greatest_from (max last n) (map outline_of ss)))
    (append_assoc seen s.events (all_events ss)) (greatest_with ss (seen ++ s.events) (max last n) fit.1 more)

-- the greatest last sequence is the greatest of all events
greatest_is : (ss : List Content) → AllByRecursion Fits ss → IsGreatestSequence (Contains (all_events ss)) (greatest_from 0 (map outline_of ss))
greatest_is ss fit = greatest_with ss [] 0 fit greatest_none

module _ (T : Trace) (is : IsTrace T) (p : ℕ) (own : List Outline) (mine : AreOwnOutlines T p own) where
  abbrev numbers : List ℕ
  numbers = segment_numbers mine.segments

  numbers_are : numbers ≡ numbers_of own
  numbers_are = sym (ap numbers_of mine.outlines ∙ same_numbers mine.segments)

  -- the gaps of the processors so far, with those before the numbers of this one's outlines, are those of one processor more
  pub own_gaps : (gaps : List Gap) → IsGaps (HasKey T) p gaps → IsGaps (HasKey T) (p + 1) (gaps ++ gaps_of p 0 (numbers_of own))
  own_gaps gaps so_far =
      subst (λ (ns : List ℕ). IsGaps (HasKey T) (p + 1) (gaps ++ gaps_of p 0 ns)) numbers_are
      (more_gaps T is p mine.segments mine.mine gaps so_far)

  -- the first number that isn't next among those of the processor's outlines is its first missing one
  pub own_first : IsFirstMissing T p (reach_from 0 (numbers_of own))
  own_first = subst (λ (ns : List ℕ). IsFirstMissing T p (reach_from 0 ns)) numbers_are (first_is T is p mine.segments mine.mine)

  abbrev till : ℕ
  till = reach_from 0 numbers

  fit : AllByRecursion Fits (take till mine.segments)
  fit = each_member Fits (take till mine.segments) (λ s h.
      let here = ((cut T is p mine.segments mine.mine s).0 h).0 in
      at_member Fits T.segments s is.fit ((mine.mine.members s).0 here).0)

  -- the greatest last sequence of the outlines below the first missing number is what the processor is unbroken to
  pub own_unbroken : IsUnbrokenTo T p (greatest_from 0 (take (reach_from 0 (numbers_of own)) own))
  own_unbroken =
      let greatest = unbroken_to T is p mine.segments mine.mine (greatest_from 0 (map outline_of (take till mine.segments)))
      (greatest_is (take till mine.segments) fit) in
      let taken : map outline_of (take till mine.segments) ≡ take (reach_from 0 (numbers_of own)) own =
      sym (take-map outline_of till mine.segments) ∙ ap (take till) (sym mine.outlines)
      ∙ ap (λ (ns : List ℕ). take (reach_from 0 ns) own) numbers_are in
      subst (λ (os : List Outline). IsUnbrokenTo T p (greatest_from 0 os)) taken greatest

-- ---- the first missing numbers of the processors

-- of no processors there are none
pub no_fronts : (T : Trace) → AreFronts T 0 []
no_fronts T = record { each = refl; first = λ p n at. absurd (cc at) }

-- those of one processor more
pub fronts_more : (T : Trace) (p : ℕ) (fronts : List ℕ) (front : ℕ) → AreFronts T p fronts → IsFirstMissing T p front
    → AreFronts T (p + 1) (fronts ++ front ∷ [])
fronts_more T p fronts front so_far first =
    let long = so_far.each in
    record {
      each = omega (arith, long, length-append fronts (front ∷ []));
      first = λ q n at. elim (get_cases fronts front q n at) [
        | inl earlier ↦ so_far.first q n earlier
        | inr last ↦ subst (λ (r : ℕ). IsFirstMissing T r n) (sym (last.0 ∙ long)) (subst (IsFirstMissing T p) last.1 first)
      ];
    }

-- a first missing number fits in 32 bits, since no segment has the greatest one
pub first_fits : (T : Trace) (p n : ℕ) → IsTrace T → IsFirstMissing T p n → n ≤ 2 ^ 32 - 1
first_fits T p n is first = elim (cases_lt n (2 ^ 32)) [
  | inl lt ↦ omega (arith, lt)
  | inr ge ↦
      let key = first.below (2 ^ 32 - 1) (omega (arith, ge)) in
      let fits = at_member Fits T.segments key.0 is.fit key.1 in
      let low = fits.number in
      let at = key.3 in
      absurd (omega (arith, low, at))
]
