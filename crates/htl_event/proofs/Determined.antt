-- The same events give the same answers about handles.
use Rattle.std.proofs.Common.{◌≡◌, ℕ, ◌<◌, ◌≤◌, List, [], ◌∷◌, Option, Some, None, refl, sym, ap, ◌∙◌, subst, arith, inl, inr}
use Rattle.std.specs.Prelude.{Contains, ◌↔◌, ◌≢◌, count_by}
use Rattle.htl_event.specs.declared.kind.Kind.TheVariants.{Snapshot, Exited}
use Rattle.htl_event.specs.Events.{Event}
use Rattle.htl_event.specs.Slots.{base_of}
use Rattle.htl_event.specs.Handles.{IsLatest, LatestIs, IsGreatestSequence, IsOf, IsOpen}
use Rattle.htl_event.specs.Handles.{ByBase, IsOutstanding, IsDiff, IsOfHandle, NewestFirst, HaveOwnSequences}
use Rattle.htl_event.specs.Members.{Lists}
use Rattle.htl_event.specs.Growth.{EarlierFirst, IsPoint, IsGrowth}
use Rattle.htl_event.specs.Moments.{events_until}
use Rattle.htl_event.specs.Tallies.{has_stack, MostFirst, AreOpenSince, IsLeaksSince}
use Rattle.htl_event.specs.declared.growth.Point.{Point}
use Rattle.htl_event.specs.declared.growth.Span.{Span}
use Rattle.htl_event.specs.declared.since.Since.{Since}
use Rattle.htl_event.specs.declared.since.Since.TheVariants.{Snapshot as OwnSnapshot, Sequence}
use Rattle.htl_event.specs.Sites.{Site, CountsSince, ByProcessAndBase, AreOpenAnywhere, IsSite, MostHandlesFirst, IsSites}
use Rattle.htl_event.specs.Laws.{HaveSame, HandlesAreDetermined}
use Rattle.htl_event.proofs.Members.{Contains-cases, Contains-nil, at_member, Lists-same}
use Rattle.htl_event.proofs.Orders.{ByBase-strict, NewestFirst-strict, MostFirst-strict, EarlierFirst-strict, ByProcessAndBase-strict, MostHandlesFirst-strict}
use Rattle.htl_event.proofs.Untils.{until_same}

-- ---- the same members

pub IsLatest-same : (A B : Event → Type 0) → ((e : Event) → A e ↔ B e) → (process base : ℕ) (e : Event) → IsLatest A process base e
    → IsLatest B process base e
IsLatest-same A B same process base e l = record {
  here = (same e).0 l.here;
  of_handle = l.of_handle;
  greatest = λ x into c. l.greatest x ((same x).1 into) c;
}

pub LatestIs-same : (A B : Event → Type 0) → ((e : Event) → A e ↔ B e) → (process base : ℕ) (o : Option Event)
    → LatestIs A process base o → LatestIs B process base o
LatestIs-same A B same process base None h = λ x into c. h x ((same x).1 into) c
LatestIs-same A B same process base (Some e) h = IsLatest-same A B same process base e h

-- the greatest sequence of a set is that of each set with the same events
pub IsGreatestSequence-same : (A B : Event → Type 0) → ((e : Event) → A e ↔ B e) → (n : ℕ) → IsGreatestSequence A n
    → IsGreatestSequence B n
IsGreatestSequence-same A B same n g = record {
  bound = λ x h. g.bound x ((same x).1 h);
  reached = elim g.reached [
    | inl none ↦ inl none
    | inr some ↦ inr (some.0, (same some.0).0 some.1, some.2)
  ];
}

-- those of the members that have one property more
pub same_where : (A B P : Event → Type 0) → ((e : Event) → A e ↔ B e) → (e : Event) → (A e × P e) ↔ (B e × P e)
same_where A B P same e = (λ h. ((same e).0 h.0, h.1), λ h. ((same e).1 h.0, h.1))

turned : (A B : Event → Type 0) → ((e : Event) → A e ↔ B e) → (e : Event) → B e ↔ A e
turned A B same e = ((same e).1, (same e).0)

pub IsOpen-same : (A B : Event → Type 0) → ((e : Event) → A e ↔ B e) → (process : ℕ) (e : Event) → IsOpen A process e → IsOpen B process e
IsOpen-same A B same process e o = record {
  opens = o.opens;
  latest = IsLatest-same A B same process (base_of e.handle) e o.latest;
  outlives = λ n exit. o.outlives n (IsGreatestSequence-same (λ x. B x × IsOf Exited process x) (λ x. A x × IsOf Exited process x)
      (same_where B A (IsOf Exited process) (turned A B same)) n exit);
}

-- ---- one answer

-- a set has one greatest sequence
pub IsGreatestSequence-unique : (A : Event → Type 0) (n m : ℕ) → IsGreatestSequence A n → IsGreatestSequence A m → n ≡ m
IsGreatestSequence-unique A n m g h =
    let le : n ≤ m = upto A n m g h in let ge : m ≤ n = upto A m n h g in omega arith
  where
    upto : (A : Event → Type 0) (n m : ℕ) → IsGreatestSequence A n → IsGreatestSequence A m → n ≤ m
    upto A n m g h = elim g.reached [
      | inl none ↦ omega arith
      | inr some ↦ let le = h.bound some.0 some.1 in let is = some.2 in omega (arith, le, is)
    ]

-- in a list that has no sequence twice, a sequence has one event
pub one_event : (es : List Event) → HaveOwnSequences es → (x y : Event) → Contains es x → Contains es y → x.sequence ≡ y.sequence → x ≡ y
one_event [] own x y h k e = absurd (Contains-nil x h)
one_event (z ∷ es) own x y h k e =
    elim (Contains-cases z es x h) [
      | inl zx ↦ elim (Contains-cases z es y k) [
        | inl zy ↦ sym zx ∙ zy
        | inr in_y ↦ absurd (at_member (λ w. z.sequence ≢ w.sequence) es y own.0 in_y (ap (λ (w : Event). w.sequence) zx ∙ e))
      ]
      | inr in_x ↦ elim (Contains-cases z es y k) [
        | inl zy ↦ absurd (at_member (λ w. z.sequence ≢ w.sequence) es x own.0 in_x (ap (λ (w : Event). w.sequence) zy ∙ sym e))
        | inr in_y ↦ one_event es own.1 x y in_x in_y e
      ]
    ]

-- a base handle has one latest event among events with a sequence of their own each
pub LatestIs-unique : (A : Event → Type 0) → ((x y : Event) → A x → A y → x.sequence ≡ y.sequence → x ≡ y)
    → (process base : ℕ) (a b : Option Event) → LatestIs A process base a → LatestIs A process base b → a ≡ b
LatestIs-unique A one process base None None p q = refl
LatestIs-unique A one process base None (Some y) p q = absurd (p y q.here q.of_handle)
LatestIs-unique A one process base (Some x) None p q = absurd (q x p.here p.of_handle)
LatestIs-unique A one process base (Some x) (Some y) p q =
    let le = p.greatest y q.here q.of_handle in
    let ge = q.greatest x p.here p.of_handle in
    ap (λ (e : Event). Some e) (one x y p.here q.here (omega (arith, le, ge)))

-- ---- the law

-- a handle is open over one list exactly where it is over another with the same events
pub open_in_both : (xs ys : List Event) → HaveSame xs ys → (process : ℕ) (e : Event)
    → IsOpen (Contains xs) process e ↔ IsOpen (Contains ys) process e
open_in_both xs ys same process e = (
  IsOpen-same (Contains xs) (Contains ys) same process e,
  IsOpen-same (Contains ys) (Contains xs) (turned (Contains xs) (Contains ys) same) process e,
)

-- two lists with the same events have the same outstanding handles
pub outstanding_same : (xs ys : List Event) → HaveSame xs ys → (process : ℕ) (a b : List Event) → IsOutstanding (Contains xs) process a
    → IsOutstanding (Contains ys) process b → a ≡ b
outstanding_same xs ys same process a b =
    Lists-same ByBase ByBase-strict (IsOpen (Contains xs) process) (IsOpen (Contains ys) process) a b (open_in_both xs ys same process)

sequence_same : (A B : Event → Type 0) → ((e : Event) → A e ↔ B e) → (a b : ℕ) → IsGreatestSequence A a → IsGreatestSequence B b → a ≡ b
sequence_same A B same a b p q = IsGreatestSequence-unique B a b (IsGreatestSequence-same A B same a p) q

diff_same : (xs ys : List Event) → HaveSame xs ys → (process since : ℕ) (a b : List Event) → IsDiff (Contains xs) process since a
    → IsDiff (Contains ys) process since b → a ≡ b
diff_same xs ys same process since a b = Lists-same ByBase ByBase-strict _ _ a b (λ e.
    (λ h. ((open_in_both xs ys same process e).0 h.0, h.1), λ h. ((open_in_both xs ys same process e).1 h.0, h.1)))

since_same : (xs ys : List Event) → HaveSame xs ys → (process : ℕ) (since : Option ℕ) (a b : List Event)
    → AreOpenSince (Contains xs) process since a → AreOpenSince (Contains ys) process since b → a ≡ b
since_same xs ys same process None a b p q = outstanding_same xs ys same process a b p q
since_same xs ys same process (Some moment) a b p q = diff_same xs ys same process moment a b p q

leaks_same : (xs ys : List Event) → HaveSame xs ys → (process : ℕ) (since : Option ℕ) (least : ℕ) (a b : List (List ℕ × ℕ))
    → IsLeaksSince (Contains xs) process since least a → IsLeaksSince (Contains ys) process since least b → a ≡ b
leaks_same xs ys same process since least a b p q =
    let one : p.handles ≡ q.handles = since_same xs ys same process since p.handles q.handles p.are q.are in
    let times : (row : List ℕ × ℕ) → count_by (has_stack row.0) p.handles ≡ count_by (has_stack row.0) q.handles =
    (λ row. ap (count_by (has_stack row.0)) one) in
    Lists-same MostFirst MostFirst-strict _ _ a b
    (λ row. (λ h. (h.0 ∙ times row, h.1), λ h. (h.0 ∙ sym (times row), h.1))) p.stacks q.stacks

outstanding_moved : (xs ys : List Event) → HaveSame xs ys → (process : ℕ) (rows : List Event) → IsOutstanding (Contains xs) process rows
    → IsOutstanding (Contains ys) process rows
outstanding_moved xs ys same process rows l = record {
  rising = l.rising;
  members = λ e. (
    λ h. (open_in_both xs ys same process e).0 ((l.members e).0 h),
    λ h. (l.members e).1 ((open_in_both xs ys same process e).1 h),
  );
}

point_moved : (xs ys : List Event) → HaveSame xs ys → (process : ℕ) (span : Span) (points : ℕ) (point : Point)
    → IsPoint span points xs process point → IsPoint span points ys process point
point_moved xs ys same process span points point is = record {
  moment = is.moment;
  handles = (
    is.handles.0,
    outstanding_moved (events_until point.sequence xs) (events_until point.sequence ys) (until_same point.sequence xs ys same) process
        is.handles.0 is.handles.1,
    is.handles.2,
  );
}

growth_same : (xs ys : List Event) → HaveSame xs ys → (process : ℕ) (span : Option Span) (points : ℕ) (a b : List Point)
    → IsGrowth span points xs process a → IsGrowth span points ys process b → a ≡ b
growth_same xs ys same process None points a b p q = p ∙ sym q
growth_same xs ys same process (Some span) points a b p q =
    Lists-same EarlierFirst EarlierFirst-strict (IsPoint span points xs process) (IsPoint span points ys process) a b
    (λ point.
    (point_moved xs ys same process span points point, point_moved ys xs (λ e. ((same e).1, (same e).0)) process span points point))
    p q

counts_since_moved : (xs ys : List Event) → HaveSame xs ys → (since : Option Since) (e : Event) → CountsSince (Contains xs) since e
    → CountsSince (Contains ys) since e
counts_since_moved xs ys same None e h = h
counts_since_moved xs ys same (Some (Sequence moment)) e h = h
counts_since_moved xs ys same (Some OwnSnapshot) e h = λ mark is. h mark
    (IsGreatestSequence-same _ _ (same_where (Contains ys) (Contains xs) (IsOf Snapshot e.process) (λ x. ((same x).1, (same x).0))) mark is)

open_anywhere_same : (xs ys : List Event) → HaveSame xs ys → (since : Option Since) (a b : List Event)
    → AreOpenAnywhere (Contains xs) since a → AreOpenAnywhere (Contains ys) since b → a ≡ b
open_anywhere_same xs ys same since a b =
    let back : HaveSame ys xs = λ e. ((same e).1, (same e).0) in
    Lists-same ByProcessAndBase ByProcessAndBase-strict _ _ a b (λ e. (
      λ h. ((open_in_both xs ys same e.process e).0 h.0, counts_since_moved xs ys same since e h.1),
      λ h. ((open_in_both xs ys same e.process e).1 h.0, counts_since_moved ys xs back since e h.1),
    ))

sites_same : (xs ys : List Event) → HaveSame xs ys → (since : Option Since) (least : ℕ) (a b : List Site)
    → IsSites (Contains xs) since least a → IsSites (Contains ys) since least b → a ≡ b
sites_same xs ys same since least a b p q =
    let one : p.handles ≡ q.handles = open_anywhere_same xs ys same since p.handles q.handles p.are q.are in
    let moved : Lists MostHandlesFirst (λ site. IsSite q.handles site × ((0 < site.handles) × (least ≤ site.handles))) a =
    subst (λ handles. Lists MostHandlesFirst (λ site. IsSite handles site × ((0 < site.handles) × (least ≤ site.handles))) a) one p.stacks in
    Lists-same MostHandlesFirst MostHandlesFirst-strict _ _ a b (λ site. (λ h. h, λ h. h)) moved q.stacks

-- of two lists with the same events, each answer about handles is one
pub handles_are_determined : (xs ys : List Event) → HaveSame xs ys → HandlesAreDetermined xs ys
handles_are_determined xs ys same = record {
  latest = λ process handle a b own p q.
      LatestIs-unique (Contains xs) (one_event xs own) process handle a b p
      (LatestIs-same (Contains ys) (Contains xs) (turned (Contains xs) (Contains ys) same) process handle b q);
  greatest = sequence_same (Contains xs) (Contains ys) same;
  mark = λ process. sequence_same _ _ (same_where (Contains xs) (Contains ys) (IsOf Snapshot process) same);
  last_exit = λ process. sequence_same _ _ (same_where (Contains xs) (Contains ys) (IsOf Exited process) same);
  outstanding = outstanding_same xs ys same;
  diff = diff_same xs ys same;
  listing = λ process handle a b. Lists-same NewestFirst NewestFirst-strict _ _ a b
      (same_where (Contains xs) (Contains ys) (IsOfHandle process (base_of handle)) same);
  leaks = leaks_same xs ys same;
  growth = growth_same xs ys same;
  sites = sites_same xs ys same;
}
