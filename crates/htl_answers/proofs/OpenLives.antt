-- The changes that go on at a moment are the outstanding handles of the events until it.
use Rattle.std.proofs.Common.{◌≡◌, ℕ, ◌<◌, ◌≤◌, true, false, cond, eqb, ◌&&◌, List, [], ◌∷◌, length}
use Rattle.std.proofs.Common.{Option, Some, None, refl, sym, ap, subst, ◌∙◌, arith, inl, inr, ◌⊎◌}
use Rattle.std.specs.Prelude.{Contains, ◌↔◌, nat_le}
use Rattle.std.specs.List.Sorted.{IsNonDecreasing}
use Rattle.std.proofs.lemmas.Bool.{cases_Bool, cases_lt, and_parts, and_from, leb-true, le-leb, leb-false, both_ways, eqb-true, eq-eqb}
use Rattle.std.proofs.lemmas.Bool.{false_from_ne_true}
use Rattle.std.proofs.lemmas.Option.{none-some, cond_some}
use Rattle.htl_event.specs.Events.{Event}
use Rattle.htl_event.specs.declared.kind.Kind.{Kind}
use Rattle.htl_event.specs.declared.kind.Kind.TheVariants.{Opened, Exited}
use Rattle.htl_event.specs.Slots.{base_of}
use Rattle.htl_event.specs.Members.{IsRising}
use Rattle.htl_event.specs.Handles.{opens_or_closes, OpensOrCloses, IsOf, IsLastExit, IsOpen, ByBase, HaveOwnSequences}
use Rattle.htl_event.specs.Moments.{events_until}
use Rattle.htl_event.specs.Summaries.{HasOutstanding}
use Rattle.htl_event.proofs.Members.{Contains-here, Contains-there, Contains-cases, Contains-cons, Contains-nil, at_member, each_member}
use Rattle.htl_event.proofs.Members.{Contains-filter, Contains-from_filter}
use Rattle.htl_event.proofs.Determined.{one_event}
use Rattle.htl_event.proofs.ComputedHandles.{last_exit_of, IsLastExit-last_exit_of}
use Rattle.htl_answers.specs.declared.lives.Change.{Change}
use Rattle.htl_answers.specs.Open.{is_open_kind}
use Rattle.htl_answers.specs.Lives.{as_change, change_of, changes_of, is_exit, exit_of, exits_of, next_of, first_after}
use Rattle.htl_answers.proofs.FilterMaps.{Contains-filter_map, Contains-from_filter_map}
use Rattle.htl_answers.proofs.OpenLemmas.{opened}
use Rattle.htl_answers.proofs.NumbersTo.{is_past, first_after-is, first_after-upto}
use Rattle.htl_answers.proofs.ChangeOrder.{ComesFirst, change_order, first_is, earlier_first}
use Rattle.htl_answers.proofs.LifeLemmas.{goes_on, GoesOn, goes_on-parts, goes_on-from, number_on}

-- ---- what a change says of its event

exited : (kind : Kind) → is_exit kind ≡ true → kind ≡ Exited
exited Exited e = refl
exited kind e = absurd cc

-- the change is that of an event of the list
record IsChangeOf (process : ℕ) (events : List Event) (change : Change) : Type 0 where
  event : Event
  here : Contains events event
  of_handle : OpensOrCloses process change.base event
  is : as_change event ≡ change

abbrev IsExitIn : ℕ → List Event → ℕ → Type 0
IsExitIn process events n = (e : Event) × Contains events e × IsOf Exited process e × (e.sequence ≡ n)

module _ (process : ℕ) (events : List Event) where
  change_from : (change : Change) → Contains (changes_of process events) change → IsChangeOf process events change
  change_from change h =
      let from = Contains-from_filter_map (change_of process) events change h in
      let e = from.0 in
      let some = cond_some (opens_or_closes e.kind && eqb e.process process) (as_change e) change from.2 in
      let parts = and_parts _ _ some.0 in
      record {
        event = e;
        here = from.1;
        of_handle = record { kind = parts.0; owner = eqb-true e.process process parts.1; handle = ap (λ (c : Change). c.base) some.1 };
        is = some.1;
      }

  change_into : (base : ℕ) (e : Event) → Contains events e → OpensOrCloses process base e → Contains (changes_of process events) (as_change e)
  change_into base e h of_handle =
      Contains-filter_map (change_of process) events e (as_change e) h
      (rw (and_from _ _ of_handle.kind (eq-eqb e.process process of_handle.owner)) refl)

  exit_from : (n : ℕ) → Contains (exits_of process events) n → IsExitIn process events n
  exit_from n h =
      let from = Contains-from_filter_map (exit_of process) events n h in
      let e = from.0 in
      let some = cond_some (is_exit e.kind && eqb e.process process) e.sequence n from.2 in
      let parts = and_parts _ _ some.0 in
      (e, from.1, (exited e.kind parts.0, eqb-true e.process process parts.1), some.1)

  exit_into : (e : Event) → Contains events e → IsOf Exited process e → Contains (exits_of process events) e.sequence
  exit_into e h is =
      Contains-filter_map (exit_of process) events e e.sequence h
      (rw (and_from _ _ (ap is_exit is.0) (eq-eqb e.process process is.1)) refl)

-- ---- the next change of a handle

-- they are the changes from a place on, in order: all those that come after one of them
record IsRest (changes rest : List Change) : Type 0 where
  within : (a : Change) → Contains rest a → Contains changes a
  upward : (a b : Change) → Contains rest a → Contains changes b → ComesFirst a b → Contains rest b
  rising : IsRising ComesFirst rest

-- from the next place on
rest_of : (changes : List Change) (change : Change) (later : List Change) → IsRest changes (change ∷ later) → IsRest changes later
rest_of changes change later rest = record {
  within = λ a h. rest.within a (Contains-there change later a h);
  upward = λ a b h k first. elim (Contains-cases change later b (rest.upward a b (Contains-there change later a h) k first)) [
    | inl is ↦ absurd (change_order.irreflexive a (change_order.transitive a b a first
        (subst (λ (c : Change). ComesFirst c a) is (at_member (ComesFirst change) later a rest.rising.0 h))))
    | inr there ↦ there
  ];
  rising = rest.rising.1;
}

abbrev HasNextUpto : Change → List Change → ℕ → Type 0
HasNextUpto change later y = (n : ℕ) × (next_of change later ≡ Some n) × (n ≤ y)

record IsNext (change : Change) (later : List Change) (n : ℕ) : Type 0 where
  row : Change
  here : Contains later row
  base : row.base ≡ change.base
  sequence : row.sequence ≡ n

-- it is a later change of that handle
next_is : (change : Change) (later : List Change) (n : ℕ) → next_of change later ≡ Some n → IsNext change later n
next_is change [] n at = absurd (none-some n at)
next_is change (next ∷ later) n at =
    let some = cond_some (eqb next.base change.base) next.sequence n at in
    record { row = next; here = Contains-here next later; base = eqb-true next.base change.base some.0; sequence = some.1 }

-- each later change of that handle comes no earlier
next_upto : (change : Change) (later : List Change) → IsRising ComesFirst (change ∷ later) → (row : Change) → Contains later row
    → row.base ≡ change.base → HasNextUpto change later row.sequence
next_upto change [] rising row h base = absurd (Contains-nil row h)
next_upto change (next ∷ later) rising row h base =
    (next.sequence, rw (eq-eqb next.base change.base same) refl, upto)
  where
    first : (change.base < next.base) ⊎ ((change.base ≡ next.base) × (change.sequence ≤ next.sequence))
    first = first_is change next rising.0.0

    places : (next ≡ row) ⊎ ((next.base < row.base) ⊎ ((next.base ≡ row.base) × (next.sequence ≤ row.sequence)))
    places = elim (Contains-cases next later row h) [
      | inl is ↦ inl is
      | inr there ↦ inr (first_is next row (at_member (ComesFirst next) later row rising.1.0 there))
    ]

    same : next.base ≡ change.base
    same = elim places [
      | inl is ↦ ap (λ (c : Change). c.base) is ∙ base
      | inr after ↦ elim after [
        | inl lt ↦ elim first [ inl below ↦ absurd (omega (arith, lt, below, base)) | inr tied ↦ sym tied.0 ]
        | inr tied ↦ tied.0 ∙ base
      ]
    ]

    upto : next.sequence ≤ row.sequence
    upto = elim places [
      | inl is ↦ (let e = ap (λ (c : Change). c.sequence) is in omega (arith, e))
      | inr after ↦ elim after [ inl lt ↦ absurd (omega (arith, lt, base, same)) | inr tied ↦ tied.1 ]
    ]

-- ---- one change and its event

module _ (process : ℕ) (events : List Event) (own : HaveOwnSequences events) (changes : List Change)
    (all : (change : Change) → Contains changes change ↔ Contains (changes_of process events) change)
    (exits : List ℕ) (rise : IsNonDecreasing exits) (each : (n : ℕ) → Contains exits n ↔ Contains (exits_of process events) n) (m : ℕ) where
  abbrev among : Event → Type 0
  among = Contains (events_until m events)

  until : (e : Event) → among e → Contains events e × (e.sequence ≤ m)
  until e h = let of = Contains-from_filter (λ x. nat_le x.sequence m) events e h in (of.0, leb-true e.sequence m of.1)

  until_from : (e : Event) → Contains events e → e.sequence ≤ m → among e
  until_from e h le = Contains-filter (λ x. nat_le x.sequence m) events e h (le-leb e.sequence m le)

  not_past : (o : Option ℕ) (n : ℕ) → is_past m o ≡ false → o ≡ Some n → m < n
  not_past o n past at = leb-false n m (ap (is_past m) (sym at) ∙ past)

  -- a change that goes on is that of an open handle
  module _ (change : Change) (later : List Change) (rest : IsRest changes (change ∷ later)) (e : Event) (in_events : Contains events e)
      (of_handle : OpensOrCloses process change.base e) (is : as_change e ≡ change) where
    same_sequence : e.sequence ≡ change.sequence
    same_sequence = ap (λ (c : Change). c.sequence) is

    same_base : base_of e.handle ≡ change.base
    same_base = of_handle.handle

    -- a later change of the handle stands behind the change
    behind : (x : Event) → Contains events x → OpensOrCloses process change.base x → e.sequence < x.sequence → Contains later (as_change x)
    behind x h of lt =
        let into = (all (as_change x)).1 (change_into process events change.base x h of) in
        let seq = same_sequence in
        let first = earlier_first change (as_change x) (sym of.handle) (omega (arith, lt, seq)) in
        elim (Contains-cases change later (as_change x) (rest.upward change (as_change x) (Contains-here change later) into first)) [
          | inl same ↦ (let e = ap (λ (c : Change). c.sequence) same in absurd (omega (arith, e, lt, seq)))
          | inr there ↦ there
        ]

    open_from : GoesOn m exits change later → IsOpen among process e
    open_from on = record {
      opens = opened_kind;
      latest = record { here = until_from e in_events begun; of_handle = own_handle; greatest = no_later };
      outlives = after_exit;
    }
      where
        opened_kind : e.kind ≡ Opened
        opened_kind = opened e.kind (ap (λ (c : Change). c.opens) is ∙ on.opens)

        begun : e.sequence ≤ m
        begun = let le = on.begun in let seq = same_sequence in omega (arith, le, seq)

        own_handle : OpensOrCloses process (base_of e.handle) e
        own_handle = record { kind = of_handle.kind; owner = of_handle.owner; handle = refl }

        no_later : (x : Event) → among x → OpensOrCloses process (base_of e.handle) x → x.sequence ≤ e.sequence
        no_later x h of = elim (cases_lt e.sequence x.sequence) [
          | inl lt ↦
              let at = until x h in
              let its : OpensOrCloses process change.base x = record { kind = of.kind; owner = of.owner; handle = of.handle ∙ same_base } in
              let next = next_upto change later rest.rising (as_change x) (behind x at.0 its lt) its.handle in
              let after = not_past (next_of change later) next.0 on.next next.1 in
              let upto = next.2 in
              let le = at.1 in
              absurd (omega (arith, after, upto, le))
          | inr le ↦ le
        ]

        before : (x : Event) → among x → IsOf Exited process x → x.sequence < e.sequence
        before x h exit = elim (cases_lt x.sequence e.sequence) [
          | inl lt ↦ lt
          | inr ge ↦
              let at = until x h in
              let le = at.1 in
              let seq = same_sequence in
              elim (cases_lt e.sequence x.sequence) [
                | inl lt ↦
                    let in_exits = (each x.sequence).1 (exit_into process events x at.0 exit) in
                    let first = first_after-upto exits rise change.sequence x.sequence in_exits (omega (arith, lt, seq)) in
                    let after = not_past (first_after exits change.sequence) first.0 on.exit first.1 in
                    let upto = first.2 in
                    absurd (omega (arith, after, upto, le))
                | inr tied ↦
                    let one : x ≡ e = one_event events own x e at.0 in_events (omega (arith, ge, tied)) in
                    let kinds : Exited ≡ Opened = sym exit.0 ∙ ap (λ (y : Event). y.kind) one ∙ opened_kind in
                    absurd cc
              ]
        ]

        after_exit : (n : ℕ) → IsLastExit among process n → n < e.sequence
        after_exit n last = elim last.reached [
          | inl none ↦ (let some = on.some in let seq = same_sequence in omega (arith, none, some, seq))
          | inr x ↦ (let lt = before x.0 x.1.0 x.1.1 in let at = x.2 in omega (arith, lt, at))
        ]

    goes_on_from : IsOpen among process e → GoesOn m exits change later
    goes_on_from o = record {
      opens = ap (λ (c : Change). c.opens) (sym is) ∙ ap is_open_kind o.opens;
      some = above;
      begun = upto;
      next = false_from_ne_true _ (λ past. no_next (next_of change later) refl past);
      exit = false_from_ne_true _ (λ past. no_exit (first_after exits change.sequence) refl past);
    }
      where
        last : IsLastExit among process (last_exit_of (events_until m events) process)
        last = IsLastExit-last_exit_of (events_until m events) process

        above : 0 < change.sequence
        above = let lt = o.outlives (last_exit_of (events_until m events) process) last in let seq = same_sequence in omega (arith, lt, seq)

        upto : change.sequence ≤ m
        upto = let le = (until e o.latest.here).1 in let seq = same_sequence in omega (arith, le, seq)

        no_next : (n : Option ℕ) → next_of change later ≡ n → is_past m n ≡ true → ⊥
        no_next None at past = both_ways false refl past
        no_next (Some n) at past =
            let le = leb-true n m past in
            let next = next_is change later n at in
            let first = at_member (ComesFirst change) later next.row rest.rising.0 next.here in
            let in_changes = rest.within next.row (Contains-there change later next.row next.here) in
            let from = change_from process events next.row ((all next.row).0 in_changes) in
            let x = from.event in
            let row_seq : x.sequence ≡ n = ap (λ (c : Change). c.sequence) from.is ∙ next.sequence in
            let seq = same_sequence in
            let its : OpensOrCloses process (base_of e.handle) x =
            record { kind = from.of_handle.kind; owner = from.of_handle.owner; handle = from.of_handle.handle ∙ next.base ∙ sym same_base } in
            let most = o.latest.greatest x (until_from x from.here (omega (arith, row_seq, le))) its in
            let least : change.sequence ≤ n = elim (first_is change next.row first) [
              | inl lt ↦ (let base = next.base in absurd (omega (arith, lt, base)))
              | inr tied ↦ (let upto = tied.1 in let at_row = next.sequence in omega (arith, upto, at_row))
            ] in
            let one : x ≡ e = one_event events own x e from.here in_events (omega (arith, most, least, row_seq, seq)) in
            let same : next.row ≡ change = sym from.is ∙ ap as_change one ∙ is in
            change_order.irreflexive change (subst (λ (c : Change). ComesFirst change c) same first)

        no_exit : (n : Option ℕ) → first_after exits change.sequence ≡ n → is_past m n ≡ true → ⊥
        no_exit None at past = both_ways false refl past
        no_exit (Some n) at past =
            let le = leb-true n m past in
            let first = first_after-is exits rise change.sequence n at in
            let x = exit_from process events n ((each n).0 first.0) in
            let at_x = x.3 in
            let bound = last.bound x.0 (until_from x.0 x.1 (omega (arith, at_x, le)), x.2) in
            let lt = o.outlives (last_exit_of (events_until m events) process) last in
            let after = first.1 in
            let seq = same_sequence in
            omega (arith, bound, lt, after, seq, at_x)

  -- ---- all changes from a place on

  -- the opens of the handles that are open as of the moment, among these changes
  record AreOpensOf (rest : List Change) : Type 0 where
    opens : List Event
    rising : IsRising ByBase opens
    members : (e : Event) → Contains opens e ↔ (IsOpen among process e × Contains rest (as_change e))
    number : number_on m exits rest ≡ length opens

  in_both : (e : Event) → IsOpen among process e → Contains events e
  in_both e o = (until e o.latest.here).0

  its_handle : (e : Event) (change : Change) → IsOpen among process e → as_change e ≡ change → OpensOrCloses process change.base e
  its_handle e change o is =
      subst (λ (base : ℕ). OpensOrCloses process base e) (ap (λ (c : Change). c.base) is) o.latest.of_handle

  -- of two changes of which one goes on, the other's handle is a greater one, where that goes on too
  apart : (change : Change) (later : List Change) → IsRest changes (change ∷ later) → (e x : Event) → as_change e ≡ change
      → IsOpen among process e → IsOpen among process x → Contains later (as_change x) → base_of e.handle < base_of x.handle
  apart change later rest e x is of_e of_x h =
      let first = subst (λ (c : Change). ComesFirst c (as_change x)) (sym is) (at_member (ComesFirst change) later (as_change x) rest.rising.0 h) in
      elim (first_is (as_change e) (as_change x) first) [
        | inl lt ↦ lt
        | inr tied ↦
            let base = tied.0 in
            let of = of_x.latest.of_handle in
            let its : OpensOrCloses process (base_of e.handle) x = record { kind = of.kind; owner = of.owner; handle = sym base } in
            let most = of_e.latest.greatest x of_x.latest.here its in
            let least = tied.1 in
            let one : e ≡ x = one_event events own e x (in_both e of_e) (in_both x of_x) (omega (arith, most, least)) in
            absurd (change_order.irreflexive (as_change e) (subst (λ (y : Event). ComesFirst (as_change e) (as_change y)) (sym one) first))
      ]

  -- one change more
  more_opens : (change : Change) (later : List Change) → IsRest changes (change ∷ later) → AreOpensOf later → AreOpensOf (change ∷ later)
  more_opens change later rest others =
      elim (cases_Bool (goes_on m exits change later)) [ inl on ↦ one_more on | inr off ↦ no_more off ]
    where
      from : IsChangeOf process events change
      from = change_from process events change ((all change).0 (rest.within change (Contains-here change later)))

      one_more : goes_on m exits change later ≡ true → AreOpensOf (change ∷ later)
      one_more on = record {
        opens = from.event ∷ others.opens;
        rising = (
          each_member (ByBase from.event) others.opens
              (λ x h. (let of = (others.members x).0 h in apart change later rest from.event x from.is its of.0 of.1)),
          others.rising,
        );
        members = λ e. (λ h. into e h, λ h. back e h.0 h.1);
        number = let n = others.number in let one : ◌≡◌ {A = ℕ} (cond (goes_on m exits change later) 1 0) 1 = rw on refl in
            omega (arith, n, one);
      }
        where
          its : IsOpen among process from.event
          its = open_from change later rest from.event from.here from.of_handle from.is (goes_on-parts m exits change later on)

          into : (e : Event) → Contains (from.event ∷ others.opens) e → IsOpen among process e × Contains (change ∷ later) (as_change e)
          into e h = elim (Contains-cases from.event others.opens e h) [
            | inl is ↦ (
              subst (IsOpen among process) is its,
              Contains-cons change later (as_change e) (inl (sym from.is ∙ ap as_change is)),
            )
            | inr there ↦ (let of = (others.members e).0 there in (of.0, Contains-there change later (as_change e) of.1))
          ]

          back : (e : Event) → IsOpen among process e → Contains (change ∷ later) (as_change e) → Contains (from.event ∷ others.opens) e
          back e o h = elim (Contains-cases change later (as_change e) h) [
            | inl is ↦
                let seq : from.event.sequence ≡ e.sequence = ap (λ (c : Change). c.sequence) (from.is ∙ is) in
                Contains-cons from.event others.opens e (inl (one_event events own from.event e from.here (in_both e o) seq))
            | inr there ↦ Contains-there from.event others.opens e ((others.members e).1 (o, there))
          ]

      no_more : goes_on m exits change later ≡ false → AreOpensOf (change ∷ later)
      no_more off = record {
        opens = others.opens;
        rising = others.rising;
        members = λ e. (
          λ h. (let of = (others.members e).0 h in (of.0, Contains-there change later (as_change e) of.1)),
          λ h. (others.members e).1 (h.0, behind_it e h.0 h.1),
        );
        number = let n = others.number in let none : ◌≡◌ {A = ℕ} (cond (goes_on m exits change later) 1 0) 0 = rw off refl in
            omega (arith, n, none);
      }
        where
          behind_it : (e : Event) → IsOpen among process e → Contains (change ∷ later) (as_change e) → Contains later (as_change e)
          behind_it e o h = elim (Contains-cases change later (as_change e) h) [
            | inl is ↦
                let on = goes_on_from change later rest e (in_both e o) (its_handle e change o (sym is)) (sym is) o in
                absurd (both_ways _ off (goes_on-from m exits change later on))
            | inr there ↦ there
          ]

  opens_of : (rest : List Change) → IsRest changes rest → AreOpensOf rest
  opens_of [] rest = record {
    opens = [];
    rising = tt;
    members = λ e. (λ h. absurd (Contains-nil e h), λ h. absurd (Contains-nil (as_change e) h.1));
    number = refl;
  }
  opens_of (change ∷ later) rest = more_opens change later rest (opens_of later (rest_of changes change later rest))

  -- the outstanding handles as of the moment are so many
  pub has_outstanding : IsRising ComesFirst changes → HasOutstanding (events_until m events) process (number_on m exits changes)
  has_outstanding rising =
      let of = opens_of changes (record { within = λ a h. h; upward = λ a b h k first. k; rising = rising }) in (
        of.opens,
        record { rising = of.rising; members = λ e. (λ h. ((of.members e).0 h).0, λ o. (of.members e).1 (o, among_changes e o)) },
        of.number,
      )
    where
      among_changes : (e : Event) → IsOpen among process e → Contains changes (as_change e)
      among_changes e o = (all (as_change e)).1 (change_into process events (base_of e.handle) e (in_both e o) o.latest.of_handle)
