-- The latest events of a process's handles over several lists are the later of theirs, and the opens among them are its open handles.
use Rattle.std.proofs.Common.{◌≡◌, ℕ, ◌<◌, Bool, true, List, [], ◌∷◌, ◌++◌, map, take, drop, append-nil, length, slice_get, Some, refl, sym, ap, ◌∙◌}
use Rattle.std.proofs.Common.{subst, arith, inl, inr}
use Rattle.std.specs.Prelude.{Contains, filter, max}
use Rattle.std.proofs.lemmas.Bool.{and_from, and_parts, cases_Bool, ltb-true, lt-ltb}
use Rattle.std.proofs.lemmas.Option.{same_Some, none-some}
use Rattle.htl_event.specs.Events.{Event}
use Rattle.htl_event.specs.declared.kind.Kind.{Kind}
use Rattle.htl_event.specs.declared.kind.Kind.TheVariants.{Opened}
use Rattle.htl_event.specs.Slots.{base_of}
use Rattle.htl_event.specs.Members.{Lists, IsRising}
use Rattle.htl_event.specs.Handles.{LatestIs, ByBase, IsOpen, IsLastExit, IsDiff, HaveOwnSequences, later}
use Rattle.htl_event.proofs.Members.{Contains-filter, Contains-from_filter, each_member, at_member, filter-pass, filter-skip}
use Rattle.htl_event.proofs.ComputedHandles.{last_exit_of, IsLastExit-last_exit_of}
use Rattle.htl_event.specs.Handles.{IsOutstanding}
use Rattle.htl_event.proofs.Unions.{LatestIs-later}
use Rattle.htl_event.proofs.Determined.{LatestIs-unique, one_event, IsGreatestSequence-unique}
use Rattle.htl_tables.specs.Latest.{event_at, HasEventOf}
use Rattle.htl_answers.specs.Open.{is_open_kind, is_opened_after, AreLatestOf}
use Rattle.htl_answers.specs.Parts.{Contents, AreEventsOf}
use Rattle.htl_answers.proofs.Appended.{latest_append, turned_union}
use Rattle.htl_answers.proofs.PartLemmas.{split_parts}
use Rattle.htl_answers.proofs.WholeLemmas.{front_and_back}

-- the later of what two tables have is the latest of both lists
pub latest_joined : (xs ys : List Event) (process : ℕ) (latest left right : List Event)
    → ((base : ℕ) → event_at latest process base ≡ later (event_at left process base) (event_at right process base))
    → AreLatestOf xs process left → AreLatestOf ys process right → AreLatestOf (xs ++ ys) process latest
latest_joined xs ys process latest left right is of_left of_right base =
    rw (is base) (latest_append xs ys process base _ _ (of_left base) (of_right base))

-- in either order
pub latest_turned : (xs ys : List Event) (process : ℕ) (latest left right : List Event)
    → ((base : ℕ) → event_at latest process base ≡ later (event_at left process base) (event_at right process base))
    → AreLatestOf xs process left → AreLatestOf ys process right → AreLatestOf (ys ++ xs) process latest
latest_turned xs ys process latest left right is of_left of_right base =
    rw (is base) (LatestIs-later (Contains xs) (Contains ys) (Contains (ys ++ xs)) (turned_union xs ys) process base _ _
    (of_left base) (of_right base))

-- of parts in two halves
pub latest_halves : {X : Type 0} (contents : X → Contents) (n : ℕ) (parts front back : List X) → front ≡ take n parts
    → back ≡ drop n parts → (process : ℕ) (latest left right : List Event)
    → ((base : ℕ) → event_at latest process base ≡ later (event_at left process base) (event_at right process base))
    → ((events : List Event) → AreEventsOf (map contents front) events → AreLatestOf events process left)
    → ((events : List Event) → AreEventsOf (map contents back) events → AreLatestOf events process right)
    → (events : List Event) → AreEventsOf (map contents parts) events → AreLatestOf events process latest
latest_halves contents n parts front back is_front is_back process latest left right is of_left of_right events are =
    let both = front_and_back contents n parts front back is_front is_back in
    let joins = split_parts (map contents front) (map contents back) events (subst (λ ps. AreEventsOf ps events) both are) in
    subst (λ (es : List Event). AreLatestOf es process latest) (sym joins.is)
    (latest_joined joins.first joins.second process latest left right is (of_left joins.first joins.of_front)
    (of_right joins.second joins.of_back))

-- of one part
pub latest_of_one : {X : Type 0} (contents : X → Contents) (parts : List X) (part : X) → length parts < 2 → slice_get parts 0 ≡ Some part
    → (process : ℕ) (latest : List Event)
    → ((folded : List Event) → AreLatestOf folded process (contents part).latest → AreLatestOf (folded ++ (contents part).held) process latest)
    → (events : List Event) → AreEventsOf (map contents parts) events → AreLatestOf events process latest
latest_of_one contents [] part lt at process latest of events are = absurd (none-some part at)
latest_of_one contents (x ∷ []) part lt at process latest of events (folded, others, fold, none, is) =
    let same : x ≡ part = same_Some x part at in
    let all : events ≡ folded ++ (contents x).held = is ∙ ap (λ (es : List Event). folded ++ ((contents x).held ++ es)) none
    ∙ ap (λ (es : List Event). folded ++ es) (append-nil (contents x).held) in
    let its : AreLatestOf folded process (contents part).latest =
    subst (λ y. AreLatestOf folded process (contents y).latest) same (fold.tables.latest_at process) in
    subst (λ (es : List Event). AreLatestOf es process latest)
    (sym (all ∙ ap (λ y. folded ++ (contents y).held) same)) (of folded its)
latest_of_one contents (x ∷ y ∷ parts) part lt at process latest of events are = absurd (omega (arith, lt))

-- ---- opens of a table that came after a moment

pub rising-filter : {X : Type 0} (before : X → X → Type 0) (p : X → Bool) (xs : List X) → IsRising before xs
    → IsRising before (filter p xs)
rising-filter before p [] rising = tt
rising-filter before p (x ∷ xs) rising =
    elim (cases_Bool (p x)) [
      | inl passes ↦ rw (filter-pass p x xs passes) (
        each_member (before x) (filter p xs) (λ y h. at_member (before x) xs y rising.0 (Contains-from_filter p xs y h).0),
        rising-filter before p xs rising.1,
      )
      | inr fails ↦ rw (filter-skip p x xs fails) (rising-filter before p xs rising.1)
    ]

-- a kind that passes the test of opens is an open
pub opened : (kind : Kind) → is_open_kind kind ≡ true → kind ≡ Opened
opened Opened e = refl
opened kind e = absurd cc

module _ (events : List Event) (process since exit moment : ℕ) (latest : List Event) (are : AreLatestOf events process latest)
    (last : IsLastExit (Contains events) process exit) (is : moment ≡ max since exit) where
  -- a latest event that is an open after the later of a moment and the last exit opened a handle that is open
  pub open_from_latest : (x : Event) → event_at latest process (base_of x.handle) ≡ Some x → is_opened_after moment x ≡ true
      → IsOpen (Contains events) process x × (since < x.sequence)
  open_from_latest x at test =
      let parts = and_parts _ _ test in
      let after : moment < x.sequence = ltb-true moment x.sequence parts.1 in
      let found : LatestIs (Contains events) process (base_of x.handle) (Some x) =
      subst (λ o. LatestIs (Contains events) process (base_of x.handle) o) at (are (base_of x.handle)) in (
        record {
          opens = opened x.kind parts.0;
          latest = found;
          outlives = λ n exited. let same = IsGreatestSequence-unique _ n exit exited last in omega (arith, same, after, is);
        },
        omega (arith, after, is),
      )

  -- and what opened a handle that is open and was opened after the moment is such an event
  pub latest_from_open : HaveOwnSequences events → (x : Event) → IsOpen (Contains events) process x → since < x.sequence
      → (event_at latest process (base_of x.handle) ≡ Some x) × (is_opened_after moment x ≡ true)
  latest_from_open own x o later =
      let base = base_of x.handle in
      let outlives = o.outlives exit last in
      let after : moment < x.sequence = omega (arith, outlives, later, is) in (
        LatestIs-unique (Contains events) (one_event events own) process base (event_at latest process base) (Some x) (are base) o.latest,
        and_from _ _ (ap is_open_kind o.opens) (lt-ltb moment x.sequence after),
      )

module _ (events : List Event) (process since exit moment : ℕ) (latest rows : List Event) (are : AreLatestOf events process latest)
    (listed : Lists ByBase (HasEventOf latest process) rows) (last : IsLastExit (Contains events) process exit)
    (is : moment ≡ max since exit) where
  open_from_row : (x : Event) → Contains rows x → is_opened_after moment x ≡ true
      → IsOpen (Contains events) process x × (since < x.sequence)
  open_from_row x here =
      let has = (listed.members x).0 here in
      open_from_latest events process since exit moment latest are last is x
      (ap (λ p. event_at latest p (base_of x.handle)) (sym has.0) ∙ has.1)

  row_from_open : HaveOwnSequences events → (x : Event) → IsOpen (Contains events) process x → since < x.sequence
      → Contains (filter (is_opened_after moment) rows) x
  row_from_open own x o later =
      let owner = o.latest.of_handle.owner in
      let has = latest_from_open events process since exit moment latest are last is own x o later in
      Contains-filter (is_opened_after moment) rows x
      ((listed.members x).1 (owner, ap (λ p. event_at latest p (base_of x.handle)) owner ∙ has.0)) has.1

  -- the opens after the later of a moment and the last exit, of the latest events of handles, are the difference
  pub opened_after_is_diff : HaveOwnSequences events → IsDiff (Contains events) process since (filter (is_opened_after moment) rows)
  opened_after_is_diff own = record {
    rising = rising-filter ByBase (is_opened_after moment) rows listed.rising;
    members = λ x. (
      λ h. (let parts = Contains-from_filter (is_opened_after moment) rows x h in open_from_row x parts.0 parts.1),
      λ h.
          row_from_open own x h.0 h.1,
    );
  }

-- every open came after a moment before all
pub diff_from_start : (events : List Event) (process : ℕ) (rows : List Event) → IsDiff (Contains events) process 0 rows
    → IsOutstanding (Contains events) process rows
diff_from_start events process rows diff = record {
  rising = diff.rising;
  members = λ x. (
    λ h. ((diff.members x).0 h).0,
    λ o. (let above = o.outlives (last_exit_of events process) (IsLastExit-last_exit_of events process) in (diff.members x).1
        (o, omega (arith, above))),
  );
}
