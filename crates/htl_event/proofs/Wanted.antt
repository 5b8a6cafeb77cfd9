-- An answer about a process, a handle or an object follows from its own events alone, in whatever order they are.
use Rattle.std.proofs.Common.{IsPermutation, ◌≡◌, ℕ, ◌+◌, ◌<◌, Bool, true, false, cond, List, [], ◌∷◌, map, Option, Some, None}
use Rattle.std.proofs.Common.{refl, sym, ap, ◌∙◌, subst, inl, inr, ◌&&◌, arith}
use Rattle.std.specs.Prelude.{Contains, filter, count_by, nat_le, if◌then◌else◌, ◌==◌, ◌↔◌}
use Rattle.std.proofs.lemmas.Bool.{cases_Bool, eqb-true, eq-eqb, and_from, and_parts}
use Rattle.std.proofs.lemmas.List.Sorted.{Contains-permutation, IsPermutation-sym}
use Rattle.std.proofs.lemmas.List.Sums.{sum_by-cons}
use Rattle.htl_event.specs.Events.{Event}
use Rattle.htl_event.specs.Slots.{base_of, is_slot, slot_by_kind, is_counted}
use Rattle.htl_event.specs.declared.kind.Kind.{Kind}
use Rattle.htl_event.specs.declared.kind.Kind.TheVariants.{Opened, Closed, BadRef, Snapshot, Ref, Deref, Exited}
use Rattle.htl_event.specs.declared.slot.Slot.{Slot}
use Rattle.htl_event.specs.declared.slot.Slot.TheVariants.{Tagged, Bad}
use Rattle.htl_event.specs.declared.slot.Sign.{Sign}
use Rattle.htl_event.specs.declared.slot.Sign.TheVariants.{Plus, Minus}
use Rattle.htl_event.specs.declared.slot.Count.{Count}
use Rattle.htl_event.specs.Members.{Lists}
use Rattle.htl_event.specs.Handles.{opens_or_closes, OpensOrCloses, IsGreatestSequence, IsOf, IsLatest, IsOpen, IsOutstanding, IsDiff, IsOfHandle}
use Rattle.htl_event.specs.Tallies.{count_where, times, has_stack, tally, balance, IsPositive, AreOpenSince, IsLeaksSince}
use Rattle.htl_event.specs.Growth.{IsPoint, IsGrowth}
use Rattle.htl_event.specs.Moments.{events_until}
use Rattle.htl_event.specs.declared.growth.Point.{Point}
use Rattle.htl_event.specs.declared.growth.Span.{Span}
use Rattle.htl_event.specs.declared.since.Since.{Since}
use Rattle.htl_event.specs.declared.since.Since.TheVariants.{Snapshot as OwnSnapshot, Sequence}
use Rattle.htl_event.specs.Sites.{Site, CountsSince, AreOpenAnywhere, IsSites}
use Rattle.htl_event.proofs.Counts.{count_where-IsPermutation, same_rows}
use Rattle.htl_event.proofs.Members.{filter-pass, filter-skip, Contains-filter, Contains-from_filter, Contains-map, Contains-from_map}
use Rattle.htl_event.specs.declared.interest.Interest.{Interest}
use Rattle.htl_event.specs.declared.interest.Interest.TheVariants.{Process, Handle, OpenHandles, AllHandles, Object}
use Rattle.htl_event.specs.Interests.{tracks_handles, wants, needs_stack, without_stack, as_needed, wanted}
use Rattle.htl_event.specs.Interests.{HaveSameOpenHandles, ListingNeedsItsHandle, ProcessNeedsItsOwn, ObjectNeedsItsOwn, SitesNeedHandles}

-- ---- sets of events that tell the same of a process's handles

-- the events are the same, but for what no answer about open handles depends on
pub record AreAlike (x y : Event) : Type 0 where
  pub sequence : x.sequence ≡ y.sequence
  pub kind : x.kind ≡ y.kind
  pub process : x.process ≡ y.process
  pub handle : x.handle ≡ y.handle

if_alike : (whole : Bool) (e : Event) → AreAlike e (if whole then e else without_stack e)
if_alike true e = record { sequence = refl; kind = refl; process = refl; handle = refl }
if_alike false e = record { sequence = refl; kind = refl; process = refl; handle = refl }

-- for each event of the process that tells which handles are open, the second set has one that is alike
abbrev pub Shows : ℕ → (Event → Type 0) → (Event → Type 0) → Type 0
Shows p A B = (x : Event) → x.process ≡ p → tracks_handles x.kind ≡ true → A x → (y : Event) × B y × AreAlike x y

-- what the first set tells of the open handles of the process, the second tells too
record Tells (p : ℕ) (A B : Event → Type 0) : Type 0 where
  pub opens : (x : Event) → x.process ≡ p → x.kind ≡ Opened → A x → B x
  pub others : Shows p A B

abbrev Agree : ℕ → (Event → Type 0) → (Event → Type 0) → Type 0
Agree p A B = Tells p A B × Tells p B A

turned : (p : ℕ) (A B : Event → Type 0) → Agree p A B → Agree p B A
turned p A B same = (same.1, same.0)

tracked : (kind : Kind) → opens_or_closes kind ≡ true → tracks_handles kind ≡ true
tracked Opened is = refl
tracked Closed is = refl
tracked BadRef is = absurd cc
tracked Snapshot is = refl
tracked Ref is = absurd cc
tracked Deref is = absurd cc
tracked Exited is = refl

-- a greatest sequence is the same over sets that show each other's events
pub greatest : (p : ℕ) (A B : Event → Type 0) (kind : Kind) (n : ℕ) → tracks_handles kind ≡ true → Shows p A B → Shows p B A
    → IsGreatestSequence (λ e. A e × IsOf kind p e) n → IsGreatestSequence (λ e. B e × IsOf kind p e) n
greatest p A B kind n tracks shown back g = record {
  bound = λ x h.
      let (y, there, alike) = back x h.1.1 (ap tracks_handles h.1.0 ∙ tracks) h.0 in
      rw (alike.sequence) (g.bound y (there, (sym alike.kind ∙ h.1.0, sym alike.process ∙ h.1.1)));
  reached = elim (g.reached) [
    | inl zero ↦ inl zero
    | inr found ↦
        let (x, (here, of), is) = found in
        let (y, there, alike) = shown x of.1 (ap tracks_handles of.0 ∙ tracks) here in
        inr (y, (there, (sym alike.kind ∙ of.0, sym alike.process ∙ of.1)), sym alike.sequence ∙ is)
  ];
}

same_handle : (p base : ℕ) (x y : Event) → AreAlike x y → OpensOrCloses p base x → OpensOrCloses p base y
same_handle p base x y alike of = record {
  kind = ap opens_or_closes (sym alike.kind) ∙ of.kind;
  owner = sym alike.process ∙ of.owner;
  handle = ap base_of (sym alike.handle) ∙ of.handle;
}

latest : (p base : ℕ) (A B : Event → Type 0) (e f : Event) → AreAlike e f → B f → Shows p B A → IsLatest A p base e → IsLatest B p base f
latest p base A B e f alike there back l = record {
  here = there;
  of_handle = same_handle p base e f alike l.of_handle;
  greatest = λ x here of.
      let (y, found, same) = back x of.owner (tracked x.kind of.kind) here in
      rw (same.sequence, sym alike.sequence) (l.greatest y found (same_handle p base x y same of));
}

-- where an event opened a handle that is still open, so did one that is alike, in a set that shows the same
pub open_alike : (p : ℕ) (A B : Event → Type 0) (e f : Event) → AreAlike e f → B f → Shows p A B → Shows p B A → IsOpen A p e
    → IsOpen B p f
open_alike p A B e f alike there shown back o = record {
  opens = sym alike.kind ∙ o.opens;
  latest = subst (λ h. IsLatest B p (base_of h) f) alike.handle (latest p (base_of e.handle) A B e f alike there back o.latest);
  outlives = λ n last. subst (λ s. n < s) alike.sequence (o.outlives n (greatest p B A Exited n refl back shown last));
}

open_too : (p : ℕ) (A B : Event → Type 0) (e : Event) → Agree p A B → IsOpen A p e → IsOpen B p e
open_too p A B e same o =
    open_alike p A B e e (if_alike true e) (same.0.opens e o.latest.of_handle.owner o.opens o.latest.here) same.0.others same.1.others o

open_same : (p : ℕ) (A B : Event → Type 0) (e : Event) → Agree p A B → IsOpen A p e ↔ IsOpen B p e
open_same p A B e same = (open_too p A B e same, open_too p B A e (turned p A B same))

-- a list names the elements of an equal property too
pub lists_too : {X : Type 0} {before : X → X → Type 0} (P Q : X → Type 0) (rows : List X) → ((x : X) → P x ↔ Q x) → Lists before P rows
    → Lists before Q rows
lists_too P Q rows same l = record {
  rising = l.rising;
  members = λ x. (λ h. (same x).0 ((l.members x).0 h), λ h. (l.members x).1 ((same x).1 h));
}

-- a list names the elements of one property where it names those of an equal one
pub lists_same : {X : Type 0} {before : X → X → Type 0} (P Q : X → Type 0) (rows : List X) → ((x : X) → P x ↔ Q x)
    → Lists before P rows ↔ Lists before Q rows
lists_same P Q rows same = (lists_too P Q rows same, lists_too Q P rows (λ x. ((same x).1, (same x).0)))

outstanding_too : (p : ℕ) (A B : Event → Type 0) (rows : List Event) → Agree p A B → IsOutstanding A p rows → IsOutstanding B p rows
outstanding_too p A B rows same = lists_too (IsOpen A p) (IsOpen B p) rows (λ e. open_same p A B e same)

diff_too : (p since : ℕ) (A B : Event → Type 0) (rows : List Event) → Agree p A B → IsDiff A p since rows → IsDiff B p since rows
diff_too p since A B rows same = lists_too (λ e. IsOpen A p e × (since < e.sequence)) (λ e. IsOpen B p e × (since < e.sequence)) rows
    (λ e. (λ h. ((open_same p A B e same).0 h.0, h.1), λ h. ((open_same p A B e same).1 h.0, h.1)))

since_too : (p : ℕ) (since : Option ℕ) (A B : Event → Type 0) (rows : List Event) → Agree p A B → AreOpenSince A p since rows
    → AreOpenSince B p since rows
since_too p None A B = outstanding_too p A B
since_too p (Some moment) A B = diff_too p moment A B

leaks_too : (p : ℕ) (since : Option ℕ) (least : ℕ) (A B : Event → Type 0) (rows : List (List ℕ × ℕ)) → Agree p A B
    → IsLeaksSince A p since least rows → IsLeaksSince B p since least rows
leaks_too p since least A B rows same l = record {
  handles = l.handles;
  are = since_too p since A B l.handles same l.are;
  stacks = l.stacks;
}

counts_too : (since : Option Since) (A B : Event → Type 0) (e : Event) → Agree e.process A B → CountsSince A since e → CountsSince B since e
counts_too None A B e same h = h
counts_too (Some (Sequence moment)) A B e same h = h
counts_too (Some OwnSnapshot) A B e same h = λ mark is. h mark (greatest e.process B A Snapshot mark refl same.1.others same.0.others is)

open_anywhere_too : (since : Option Since) (A B : Event → Type 0) (rows : List Event) → ((p : ℕ) → Agree p A B)
    → AreOpenAnywhere A since rows → AreOpenAnywhere B since rows
open_anywhere_too since A B rows same =
    lists_too (λ e. IsOpen A e.process e × CountsSince A since e) (λ e. IsOpen B e.process e × CountsSince B since e) rows (λ e.
    let here = same e.process in
    let back = turned e.process A B here in (
      λ h. (open_too e.process A B e here h.0, counts_too since A B e here h.1),
      λ h. (open_too e.process B A e back h.0, counts_too since B A e back h.1),
    ))

sites_too : (since : Option Since) (least : ℕ) (A B : Event → Type 0) (rows : List Site) → ((p : ℕ) → Agree p A B)
    → IsSites A since least rows → IsSites B since least rows
sites_too since least A B rows same l = record {
  handles = l.handles;
  are = open_anywhere_too since A B l.handles same l.are;
  stacks = l.stacks;
}

tells_until : (p moment : ℕ) (xs ys : List Event) → Tells p (Contains xs) (Contains ys)
    → Tells p (Contains (events_until moment xs)) (Contains (events_until moment ys))
tells_until p moment xs ys told =
    let test : Event → Bool = λ e. nat_le e.sequence moment in
    record {
      opens = λ x owner opens h.
          let of = Contains-from_filter test xs x h in
          Contains-filter test ys x (told.opens x owner opens of.0) of.1;
      others = λ x owner tracks h.
          let of = Contains-from_filter test xs x h in
          let (y, there, alike) = told.others x owner tracks of.0 in
          (y, Contains-filter test ys y there (ap (λ n. nat_le n moment) (sym alike.sequence) ∙ of.1), alike);
    }

agree_until : (p moment : ℕ) (xs ys : List Event) → Agree p (Contains xs) (Contains ys)
    → Agree p (Contains (events_until moment xs)) (Contains (events_until moment ys))
agree_until p moment xs ys same = (tells_until p moment xs ys same.0, tells_until p moment ys xs same.1)

point_too : (p : ℕ) (span : Span) (points : ℕ) (xs ys : List Event) (point : Point) → Agree p (Contains xs) (Contains ys)
    → IsPoint span points xs p point → IsPoint span points ys p point
point_too p span points xs ys point same is = record {
  moment = is.moment;
  handles = (
    is.handles.0,
    outstanding_too p (Contains (events_until point.sequence xs)) (Contains (events_until point.sequence ys)) is.handles.0
        (agree_until p point.sequence xs ys same) is.handles.1,
    is.handles.2,
  );
}

growth_same : (p : ℕ) (span : Option Span) (points : ℕ) (xs ys : List Event) (rows : List Point) → Agree p (Contains xs) (Contains ys)
    → IsGrowth span points xs p rows ↔ IsGrowth span points ys p rows
growth_same p None points xs ys rows same = (λ h. h, λ h. h)
growth_same p (Some span) points xs ys rows same =
    lists_same (IsPoint span points xs p) (IsPoint span points ys p) rows (λ point. (
      point_too p span points xs ys point same,
      point_too p span points ys xs point (turned p (Contains xs) (Contains ys) same),
    ))

-- ---- counts of what passes another test too

-- as many pass a test among those that pass another, where they pass that too
pub count_same : {X : Type 0} (p w : X → Bool) → ((x : X) → p x ≡ true → w x ≡ true) → (xs : List X) → count_by p xs ≡ count_by p (filter w xs)
count_same p w implied [] = refl
count_same p w implied (x ∷ xs) =
    let others = count_same p w implied xs in
    let all : count_by p (x ∷ xs) ≡ cond (p x) 1 0 + count_by p xs = sum_by-cons (λ y. cond (p y) 1 0) x xs in
    elim (cases_Bool (w x)) [
      | inl kept ↦ rw (filter-pass w x xs kept) (all ∙ ap (λ n. cond (p x) 1 0 + n) others
          ∙ sym (sum_by-cons (λ y. cond (p y) 1 0) x (filter w xs)))
      | inr left ↦ rw (filter-skip w x xs left) (elim (cases_Bool (p x)) [
        | inl counted ↦ absurd (cc (sym left ∙ implied x counted))
        | inr skipped ↦
            let none : ◌≡◌ {A = ℕ} (cond (p x) 1 0) 0 = ap (λ (t : Bool). cond {A = ℕ} t 1 0) skipped in
            let here : count_by p (x ∷ xs) ≡ count_by p xs = omega (arith, all, none) in
            here ∙ others
      ])
    ]

-- a slot has the same count among the events that pass a test, where all that are counted under it pass that
pub count_where_same : (passes w : Event → Bool) (slot : Slot) → ((sign : Sign) (e : Event) → is_counted slot sign e ≡ true → w e ≡ true)
    → (es : List Event) → count_where passes es slot ≡ count_where passes (filter w es) slot
count_where_same passes w slot implied es =
    let side : (sign : Sign) → times passes es slot sign ≡ times passes (filter w es) slot sign =
    (λ sign. count_same (λ e. is_counted slot sign e && passes e) w
    (λ e counted. implied sign e (and_parts (is_counted slot sign e) (passes e) counted).0) es) in
    rw (side Plus, side Minus) refl

-- ---- what is counted under a slot of a process or an object

bad_owner : (k : Kind) (p h : ℕ) (sign : Sign) (e : Event) → is_slot (Bad p h) sign (slot_by_kind k e) ≡ true → p ≡ e.process
bad_owner Opened p h sign e is = absurd cc
bad_owner Closed p h sign e is = absurd cc
bad_owner BadRef p h sign e is = eqb-true _ _ (and_parts _ _ (and_parts _ _ is).0).0
bad_owner Snapshot p h sign e is = absurd cc
bad_owner Ref p h sign e is = absurd cc
bad_owner Deref p h sign e is = absurd cc
bad_owner Exited p h sign e is = absurd cc

tagged_object : (k : Kind) (o : ℕ) (t : List ℕ) (sign : Sign) (e : Event) → is_slot (Tagged o t) sign (slot_by_kind k e) ≡ true
    → o ≡ e.object
tagged_object Opened o t sign e is = absurd cc
tagged_object Closed o t sign e is = absurd cc
tagged_object BadRef o t sign e is = absurd cc
tagged_object Snapshot o t sign e is = absurd cc
tagged_object Ref o t sign e is = eqb-true _ _ (and_parts _ _ (and_parts _ _ is).0).0
tagged_object Deref o t sign e is = eqb-true _ _ (and_parts _ _ (and_parts _ _ is).0).0
tagged_object Exited o t sign e is = absurd cc

-- ---- what is wanted

-- an event is alike what is needed of it
pub alike_as_needed : (interest : Interest) (e : Event) → AreAlike e (as_needed interest e)
alike_as_needed interest e = if_alike (needs_stack interest e.kind) e

-- and what is needed of it is alike the event
pub as_needed_alike : (interest : Interest) (e x : Event) → as_needed interest e ≡ x → AreAlike x e
as_needed_alike interest e x is =
    let alike = alike_as_needed interest e in
    subst (λ (y : Event). AreAlike y e) is
    (record { sequence = sym alike.sequence; kind = sym alike.kind; process = sym alike.process; handle = sym alike.handle })

-- an open is needed as it is, where the stacks of opens are needed
open_as_needed : (interest : Interest) → needs_stack interest Opened ≡ true → (e : Event) → e.kind ≡ Opened → as_needed interest e ≡ e
open_as_needed interest needs e opens =
    ap (λ (k : Kind). if needs_stack interest k then e else without_stack e) opens
    ∙ ap (λ (whole : Bool). if whole then e else without_stack e) needs

-- the events of a process are needed as they are
all_of_process : (p : ℕ) (es : List Event) → map (as_needed (Process p)) es ≡ es
all_of_process p [] = refl
all_of_process p (e ∷ es) = ap (λ (l : List Event). e ∷ l) (all_of_process p es)

-- and so are those of an object
all_of_object : (o : ℕ) (es : List Event) → map (as_needed (Object o)) es ≡ es
all_of_object o [] = refl
all_of_object o (e ∷ es) = ap (λ (l : List Event). e ∷ l) (all_of_object o es)

-- ---- the laws

same_events : (p : ℕ) (es own : List Event) → IsPermutation (filter (wants (Process p)) es) own → (x : Event) → x.process ≡ p
    → Contains es x ↔ Contains own x
same_events p es own moved x owner = (
  λ here. Contains-permutation (filter (wants (Process p)) es) own x moved (Contains-filter (wants (Process p)) es x here (eq-eqb _ _ owner)),
  λ here. (Contains-from_filter (wants (Process p)) es x (Contains-permutation own (filter (wants (Process p)) es) x
      (IsPermutation-sym (filter (wants (Process p)) es) own moved) here)).0,
)

-- sets with the same events of the process agree
agree_of_same : (p : ℕ) (A B : Event → Type 0) → ((x : Event) → x.process ≡ p → A x ↔ B x) → Agree p A B
agree_of_same p A B same = (
  record {
    opens = λ x owner opens here. (same x owner).0 here;
    others = λ x owner tracks here. (x, (same x owner).0 here, if_alike true x);
  },
  record {
    opens = λ x owner opens here. (same x owner).1 here;
    others = λ x owner tracks here. (x, (same x owner).1 here, if_alike true x);
  },
)

module _ (interest : Interest) (es own : List Event) (moved : IsPermutation (wanted interest es) own) where
  abbrev kept : List Event
  kept = filter (wants interest) es

  -- an event that is asked about is there, as it is needed
  pub in_own : (x : Event) → wants interest x ≡ true → Contains es x → Contains own (as_needed interest x)
  in_own x asked here =
      Contains-permutation (map (as_needed interest) kept) own (as_needed interest x) moved
      (Contains-map (as_needed interest) kept x (Contains-filter (wants interest) es x here asked))

  -- and what is there is an event of the list, as it is needed
  pub from_own : (x : Event) → Contains own x → (y : Event) × Contains es y × (as_needed interest y ≡ x)
  from_own x here =
      let (y, there, is) = Contains-from_map (as_needed interest) kept x
      (Contains-permutation own (map (as_needed interest) kept) x (IsPermutation-sym (map (as_needed interest) kept) own moved) here) in
      (y, (Contains-from_filter (wants interest) es y there).0, is)

-- all events agree on the open handles of a process with those that are wanted, where these are all that tell of them
module _ (interest : Interest) (needs : needs_stack interest Opened ≡ true) (es own : List Event)
    (moved : IsPermutation (wanted interest es) own) (p : ℕ)
    (asked : (x : Event) → x.process ≡ p → tracks_handles x.kind ≡ true → wants interest x ≡ true) where
  agree_on_open : Agree p (Contains es) (Contains own)
  agree_on_open = (
    record {
      opens = λ x owner opens here. subst (Contains own) (open_as_needed interest needs x opens)
          (in_own interest es own moved x (asked x owner (ap tracks_handles opens)) here);
      others = λ x owner tracks here.
          (as_needed interest x, in_own interest es own moved x (asked x owner tracks) here, alike_as_needed interest x);
    },
    record {
      opens = λ x owner opens here.
          let (y, there, is) = from_own interest es own moved x here in
          let same = alike_as_needed interest y in
          let opened : y.kind ≡ Opened = same.kind ∙ ap (λ (e : Event). e.kind) is ∙ opens in
          subst (Contains es) (sym (open_as_needed interest needs y opened) ∙ is) there;
      others = λ x owner tracks here.
          let (y, there, is) = from_own interest es own moved x here in
          (y, there, as_needed_alike interest y x is);
    },
  )

-- sets that agree have the same answers about open handles
same_open_handles : (p : ℕ) (es own : List Event) → Agree p (Contains es) (Contains own) → HaveSameOpenHandles p es own
same_open_handles p es own same =
    let A = Contains es in
    let B = Contains own in
    let back : Agree p B A = turned p A B same in
    record {
      outstanding = λ rows. (outstanding_too p A B rows same, outstanding_too p B A rows back);
      mark = λ n. (
        greatest p A B Snapshot n refl same.0.others same.1.others,
        greatest p B A Snapshot n refl same.1.others same.0.others,
      );
      diff = λ since rows. (diff_too p since A B rows same, diff_too p since B A rows back);
      leaks = λ since least rows. (leaks_too p since least A B rows same, leaks_too p since least B A rows back);
      growth = λ span points rows. growth_same p span points es own rows same;
    }

-- answers about open handles need what is wanted of them alone
pub open_handles_need_wanted : (process : ℕ) (events own : List Event) → IsPermutation (wanted (OpenHandles process) events) own
    → HaveSameOpenHandles process events own
open_handles_need_wanted p es own moved =
    same_open_handles p es own (agree_on_open (OpenHandles p) refl es own moved p
    (λ x owner tracks. rw (tracks, eq-eqb x.process p owner) refl))

-- sites need what is wanted of the open handles of all processes alone
pub sites_need_handles : (events own : List Event) → IsPermutation (wanted AllHandles events) own → SitesNeedHandles events own
sites_need_handles es own moved since least rows =
    let A = Contains es in
    let B = Contains own in
    let same : (p : ℕ) → Agree p A B = (λ p. agree_on_open AllHandles refl es own moved p (λ x owner tracks. tracks)) in
    (sites_too since least A B rows same, sites_too since least B A rows (λ p. turned p A B (same p)))

-- answers about a process need its own events alone
pub process_needs_its_own : (process : ℕ) (events own : List Event) → IsPermutation (wanted (Process process) events) own
    → ProcessNeedsItsOwn process events own
process_needs_its_own p es own moved =
    let here = rw (all_of_process p (filter (wants (Process p)) es)) at moved in
    let same = same_events p es own here in
    let A = Contains es in
    let B = Contains own in
    record {
      open_handles = same_open_handles p es own (agree_of_same p A B same);
      listing = λ handle rows. lists_same (λ e. A e × IsOfHandle p (base_of handle) e) (λ e. B e × IsOfHandle p (base_of handle) e) rows
          (λ e. (λ h. ((same e h.1.owner).0 h.0, h.1), λ h. ((same e h.1.owner).1 h.0, h.1)));
      bad = λ rows. lists_same _ _ rows (λ row.
          let counts = count_where_same (has_stack row.1) (wants (Process p)) (Bad p row.0)
          (λ sign e counted. eq-eqb _ _ (sym (bad_owner e.kind p row.0 sign e counted))) es
          ∙ count_where-IsPermutation (has_stack row.1) (filter (wants (Process p)) es) own here (Bad p row.0) in
          (λ h. (h.0 ∙ ap (λ (c : Count). c.plus) counts, h.1), λ h. (h.0 ∙ ap (λ (c : Count). c.plus) (sym counts), h.1)));
    }

-- the listing of a handle needs its own events alone
pub listing_needs_its_handle : (process handle : ℕ) (events own : List Event)
    → IsPermutation (wanted (Handle process (base_of handle)) events) own → ListingNeedsItsHandle process handle events own
listing_needs_its_handle p handle es own moved rows =
    let asked = Handle p (base_of handle) in
    let A = Contains es in
    let B = Contains own in
    lists_same (λ e. A e × IsOfHandle p (base_of handle) e) (λ e. B e × IsOfHandle p (base_of handle) e) rows (λ e. (
      λ h.
          let of = and_from (e.process == p) (base_of e.handle == base_of handle) (eq-eqb e.process p h.1.owner)
          (eq-eqb (base_of e.handle) (base_of handle) h.1.handle) in
          (in_own asked es own moved e of h.0, h.1),
      λ h.
          let (x, there, is) = from_own asked es own moved e h.0 in
          (subst A is there, h.1),
    ))

-- answers about an object need its own events alone
pub object_needs_its_own : (object : ℕ) (events own : List Event) → IsPermutation (wanted (Object object) events) own
    → ObjectNeedsItsOwn object events own
object_needs_its_own o es own moved =
    let here = rw (all_of_object o (filter (wants (Object o)) es)) at moved in
    let counts : (passes : Event → Bool) (tag : List ℕ) → count_where passes es (Tagged o tag)
    ≡ count_where passes own (Tagged o tag) =
    (λ passes tag. count_where_same passes (wants (Object o)) (Tagged o tag)
    (λ sign e counted. eq-eqb _ _ (sym (tagged_object e.kind o tag sign e counted))) es
    ∙ count_where-IsPermutation passes (filter (wants (Object o)) es) own here (Tagged o tag)) in
    record {
      tags = λ rows. lists_same _ _ rows
          (same_rows (balance es o) (balance own o) IsPositive (λ tag. counts (λ e. true) tag));
      stacks = λ tag rows. lists_same _ _ rows
          (same_rows (tally es (Tagged o tag)) (tally own (Tagged o tag)) IsPositive
          (λ stack. counts (has_stack stack) tag));
    }
