-- What was picked of segments is of a case, or shows that a key comes twice or that the segments are no case.
use Rattle.std.proofs.Common.{◌≡◌, ℕ, suc, ◌≤◌, Bool, true, false, eqb, cond, List, [], ◌∷◌, map, Option, None, Some, All}
use Rattle.std.proofs.Common.{IsPermutation, refl, sym, ap, ◌∙◌, inl, inr, arith}
use Rattle.std.specs.Prelude.{Contains, filter, slice_get, MatchOption}
use Rattle.std.specs.Option.{is_some}
use Rattle.std.proofs.lemmas.Bool.{cases_Bool, and_parts, eqb-true}
use Rattle.std.proofs.lemmas.List.Elements.{recursion_from_All}
use Rattle.std.proofs.lemmas.List.Sorted.{All-permutation, Contains-permutation, IsPermutation-map, IsPermutation-sym}
use Rattle.std.proofs.lemmas.List.Sorted.{sum_by-IsPermutation}
use Rattle.htl_event.specs.Handles.{HaveOwnSequences}
use Rattle.htl_event.specs.Interests.{as_needed, wants, wanted}
use Rattle.htl_event.specs.Moments.{counted_events}
use Rattle.htl_event.specs.declared.interest.Interest.{Interest}
use Rattle.htl_event.specs.Members.{IsRising, IsLeastSuch}
use Rattle.htl_event.proofs.Members.{Contains-map, Contains-from_map, at_member, each_member}
use Rattle.htl_event.proofs.WantedLists.{map-as_needed}
use Rattle.htl_segment.specs.declared.outline.Outline.{Outline}
use Rattle.htl_segment.specs.declared.picks.Picks.{Picks}
use Rattle.htl_segment.specs.Content.{Content, Fits}
use Rattle.htl_segment.specs.Outlines.{outline_of}
use Rattle.htl_segment.specs.Picks.{ArePicksOf, events_in}
use Rattle.htl_segment.specs.Repeated.{sequence_of, times}
use Rattle.htl_segment.specs.Rising.{IsKeyBefore}
use Rattle.htl_segment.specs.Traces.{Trace, trace, AreInOrder, IsBefore, IsTrace, all_events}
use Rattle.htl_segment.proofs.Times.{times-IsPermutation}
use Rattle.htl_case.specs.Cases.{IsCaseOf}
use Rattle.htl_case.specs.Faults.{Falls, key_of}
use Rattle.htl_case.specs.Ordered.{AreOf, IsInOrder}
use Rattle.htl_case.specs.Outlined.{IsOutlineBefore, has_key, times_key, AreOfOne}
use Rattle.htl_case.specs.Picked.{Picked, picked, IsPickedOf, IsPickedUntil, KeyComesTwice, NeedsWhole}
use Rattle.htl_case.proofs.Counted.{own_until, wanted_until}
use Rattle.htl_case.proofs.KeyOrder.{same_pair}
use Rattle.htl_case.proofs.Listings.{fewer, times-moved}
use Rattle.htl_case.proofs.Moved.{AreImages, images_moved, flat_moved, filter_moved}
use Rattle.htl_case.proofs.Outcomes.{content_in_order, case_some, of_case, case_once, case_rises}
use Rattle.htl_case.proofs.Outlined.{times_key-cons}
use Rattle.htl_case.proofs.Refusals.{twice_moved, is_case_of}
use Rattle.htl_case.proofs.Repeats.{content_moved}
use Rattle.htl_case.proofs.Scanned.{falls_moved}
use Rattle.htl_case.proofs.Twice.{two_segments, own_from_times, times_from_own}

-- ---- a key that comes twice

has_key-true : (key : ℕ × ℕ) (s : Content) → has_key key (outline_of s) ≡ true → key_of s ≡ key
has_key-true key s is =
    let parts = and_parts (eqb s.processor key.0) (eqb s.number key.1) is in
    same_pair (key_of s) key (eqb-true s.processor key.0 parts.0) (eqb-true s.number key.1 parts.1)

record IsAt (segments : List Content) (key : ℕ × ℕ) : Type 0 where
  pub place : ℕ
  pub segment : Content
  pub at_place : slice_get segments place ≡ Some segment
  pub of_key : key_of segment ≡ key

once_at : (key : ℕ × ℕ) (ss : List Content) → 1 ≤ times_key key (map outline_of ss) → IsAt ss key
once_at key [] some = absurd (omega (arith, some))
once_at key (s ∷ ss) some =
    let total = times_key-cons key (outline_of s) (map outline_of ss) in
    elim (cases_Bool (has_key key (outline_of s))) [
      | inl is ↦ record { place = 0; segment = s; at_place = refl; of_key = has_key-true key s is }
      | inr other ↦
          let none = ap (λ (b : Bool). cond {A = ℕ} b 1 0) other in
          let rest = once_at key ss (omega (arith, some, total, none)) in
          record { place = suc rest.place; segment = rest.segment; at_place = rest.at_place; of_key = rest.of_key }
    ]

twice_at : (key : ℕ × ℕ) (ss : List Content) → 2 ≤ times_key key (map outline_of ss) → KeyComesTwice ss
twice_at key [] two = absurd (omega (arith, two))
twice_at key (s ∷ ss) two =
    let total = times_key-cons key (outline_of s) (map outline_of ss) in
    elim (cases_Bool (has_key key (outline_of s))) [
      | inl is ↦
          let one = ap (λ (b : Bool). cond {A = ℕ} b 1 0) is in
          let later = once_at key ss (omega (arith, two, total, one)) in
          record {
            place = 0;
            later = suc later.place;
            before = omega arith;
            one = s;
            other = later.segment;
            at_place = refl;
            at_later = later.at_place;
            same = has_key-true key s is ∙ sym later.of_key;
          }
      | inr other ↦
          let none = ap (λ (b : Bool). cond {A = ℕ} b 1 0) other in
          let rest = twice_at key ss (omega (arith, two, total, none)) in
          let before = rest.before in
          record {
            place = suc rest.place;
            later = suc rest.later;
            before = omega (arith, before);
            one = rest.one;
            other = rest.other;
            at_place = rest.at_place;
            at_later = rest.at_later;
            same = rest.same;
          }
    ]

times_key-moved : (key : ℕ × ℕ) (xs ys : List Outline) → IsPermutation xs ys → times_key key ys ≡ times_key key xs
times_key-moved key xs ys moved = sum_by-IsPermutation (λ (o : Outline). cond (has_key key o) 1 0) xs ys moved

-- ---- segments in the order of their outlines

in_order : (ss : List Content) → IsRising IsOutlineBefore (map outline_of ss) → AreInOrder ss
in_order [] up = tt
in_order (s ∷ ss) up = (
  each_member (IsBefore s) ss
      (λ t h. at_member (IsOutlineBefore (outline_of s)) (map outline_of ss) (outline_of t) up.0 (Contains-map outline_of ss t h)),
  in_order ss up.1,
)

times_in_moved : (n : ℕ) (ss moved : List Content) → IsPermutation ss moved
    → times n (map sequence_of (all_events moved)) ≡ times n (map sequence_of (all_events ss))
times_in_moved n ss moved is =
    times-IsPermutation n (map sequence_of (all_events ss)) (map sequence_of (all_events moved))
    (IsPermutation-map sequence_of (all_events ss) (all_events moved) (flat_moved (λ (s : Content). s.events) ss moved is))

-- ---- what is told of sequences that fall

abbrev IsToldOf : List Content → Option (ℕ × ℕ) → Type 0
IsToldOf ss told = MatchOption told ((key : ℕ × ℕ) → Falls ss key → ⊥) (IsLeastSuch IsKeyBefore (Falls ss))

-- a key that was told falls
pub told_to_fall : (ss : List Content) (told : Option (ℕ × ℕ)) → is_some told ≡ true → IsToldOf ss told → (key : ℕ × ℕ) × Falls ss key
told_to_fall ss None some told = absurd cc
told_to_fall ss (Some key) some told = (key, told.holds)

-- where none was told, no key falls
pub told_to_rise : (ss : List Content) (told : Option (ℕ × ℕ)) → is_some told ≡ false → IsToldOf ss told → (key : ℕ × ℕ) → Falls ss key → ⊥
told_to_rise ss None none told = told
told_to_rise ss (Some key) none told = absurd cc

-- ---- what was picked of segments

module _ (interest : Interest) (picks : Picks) (segments : List Content) (are : ArePicksOf interest picks segments)
    (fit : All Fits segments) where
  -- where the outlines aren't of one trace, only whole segments tell
  pub no_trace : ((processors : ℕ) → AreOfOne picks.outlines.items processors → ⊥) → NeedsWhole segments
  no_trace none = inr (λ T is.
      let of : (o : Outline) → Contains picks.outlines.items o → (o.trace_id ≡ T.id) × (o.processors ≡ T.processors) = λ o h.
      (let (s, there, outlined) = Contains-from_map outline_of segments o (rw are.outlines at h) in
      let same = of_case segments T is s there in (
        ap (λ (p : Outline). p.trace_id) (sym outlined) ∙ same.0,
        ap (λ (p : Outline). p.processors) (sym outlined) ∙ same.1,
      )) in
      none T.processors (record {
        some = λ empty. case_some segments T is (no_segments segments (sym are.outlines ∙ empty));
        trace_id = T.id;
        trace = λ o h. (of o h).0;
        count = λ o h. (of o h).1;
      }))
    where
      no_segments : (ss : List Content) → map outline_of ss ≡ [] → ss ≡ []
      no_segments [] empty = refl
      no_segments (s ∷ ss) empty = absurd cc

  -- where a key comes twice among the outlines, only whole segments tell
  pub key_twice : (sorted : List Outline) → IsPermutation picks.outlines.items sorted → (key : ℕ × ℕ) × (2 ≤ times_key key sorted)
      → NeedsWhole segments
  key_twice sorted moved (key, two) =
      let here : 2 ≤ times_key key picks.outlines.items = omega (arith, two, times_key-moved key picks.outlines.items sorted moved) in
      inl (twice_at key segments (rw are.outlines at here))

  -- outlines that were sorted are those of the segments in another order
  pub images : (sorted : List Outline) → IsPermutation picks.outlines.items sorted → AreImages outline_of segments sorted
  images sorted moved = images_moved outline_of segments sorted (rw are.outlines at moved)

  module _ (sorted : List Outline) (images : AreImages outline_of segments sorted) (up : IsRising IsOutlineBefore sorted) where
    in_order_here : AreInOrder images.behind
    in_order_here = in_order images.behind (rw images.are at up)

    fit_here : All Fits images.behind
    fit_here = All-permutation Fits segments images.behind images.moved fit

    into : (s : Content) → Contains images.behind s → Contains segments s
    into s h = Contains-permutation images.behind segments s (IsPermutation-sym segments images.behind images.moved) h

    -- where a sequence comes twice, only whole segments tell, as the list is no case
    pub sequence_twice : (n : ℕ) × (2 ≤ times n (map sequence_of (all_events segments))) → NeedsWhole segments
    sequence_twice (n, two) = inr (λ T is.
        let here = two_segments images.behind n in_order_here (recursion_from_All Fits images.behind fit_here)
        (omega (arith, two, times_in_moved n segments images.behind images.moved)) in
        case_once segments T is n (twice_moved images.behind segments n into here))

    -- where a key falls, only whole segments tell, as the list is no case
    pub falls : ((ss : List Content) → sorted ≡ map outline_of ss → AreInOrder ss → All Fits ss → (key : ℕ × ℕ) × Falls ss key)
        → NeedsWhole segments
    falls fall = inr (λ T is.
        let (key, here) = fall images.behind images.are in_order_here fit_here in
        case_rises segments T is key (falls_moved images.behind segments key into here))

    -- outlines of one trace in which no sequence comes twice and no key falls are those of a case, of which this was picked
    pub case_of_picks : (processors : ℕ) → AreOfOne picks.outlines.items processors
        → ((n : ℕ) → times n (map sequence_of (all_events segments)) ≤ 1)
        → ((ss : List Content) → sorted ≡ map outline_of ss → AreInOrder ss → All Fits ss → (key : ℕ × ℕ) → Falls ss key → ⊥)
        → (T : Trace) × IsCaseOf segments T × IsPickedOf interest T (picked processors sorted (events_in picks.lists.items))
    case_of_picks processors of once none = (
      trace of.trace_id processors images.behind,
      is_case_of segments images.behind of.trace_id processors of_here put fit_here
          (own_from_times (all_events images.behind)
          (λ n. omega (arith, once n, times_in_moved n segments images.behind images.moved)))
          (none images.behind images.are in_order_here fit_here),
      record {
        processors = refl;
        outlines = images.are;
        events = rw are.events (IsPermutation-map (as_needed interest) (filter (wants interest) (all_events images.behind))
            (filter (wants interest) (all_events segments))
            (filter_moved (λ (s : Content). s.events) (wants interest) images.behind segments
            (IsPermutation-sym segments images.behind images.moved)));
      },
    )
      where
        has : (s : Content) → Contains segments s → Contains picks.outlines.items (outline_of s)
        has s h = rw are.outlines (Contains-map outline_of segments s h)

        of_here : AreOf segments of.trace_id processors
        of_here = record {
          some = λ empty. of.some (are.outlines ∙ ap (map outline_of) empty);
          trace = λ s h. of.trace (outline_of s) (has s h);
          count = λ s h. of.count (outline_of s) (has s h);
        }

        put : IsInOrder segments images.behind
        put = record {
          in_order = in_order_here;
          members = λ s. (into s, λ h. Contains-permutation segments images.behind s images.moved h);
          content = content_moved segments images.behind images.moved (content_in_order images.behind in_order_here);
        }

-- ---- what was picked of a trace

-- the events of a picked case have sequences of their own
pub picked_own : (interest : Interest) (T : Trace) (until : Option ℕ) (case : Picked) → IsTrace T → IsPickedUntil interest T until case
    → HaveOwnSequences case.events
picked_own interest T until case is of =
    let counted = counted_events until (all_events T.segments) in
    own_from_times case.events (λ n.
    omega (
      arith,
      times-moved n (wanted interest counted) case.events of.events,
      ap (times n) (map-as_needed sequence_of (λ e. refl) interest (filter (wants interest) counted)),
      fewer (wants interest) n counted,
      times_from_own counted (own_until until (all_events T.segments) is.sequences) n,
    ))

-- the events until a moment are left of those that were picked of all
pub picked_until : (interest : Interest) (T : Trace) (until : Option ℕ) (case : Picked) → IsPickedOf interest T case
    → IsPickedUntil interest T until (picked case.processors case.outlines (counted_events until case.events))
picked_until interest T until case of = record {
  processors = of.processors;
  outlines = of.outlines;
  events = wanted_until interest until (all_events T.segments) case.events of.events;
}
