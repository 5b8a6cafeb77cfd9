-- Events noted in the order of their sort keys: of each handle the first leaves what is there.
use Rattle.std.proofs.Common.{◌≡◌, ℕ, zero, suc, ◌+◌, Bool, true, false, ◌==◌, ◌&&◌, ◌<◌, ◌≤◌, List, [], ◌∷◌, length, map, fold, Option}
use Rattle.std.proofs.Common.{Some, None, refl, sym, ap, ◌∙◌, inl, inr, arith, subst, slice_get, IsSorted}
use Rattle.std.specs.Borrow.{Bor}
use Rattle.std.specs.Ordering.{is_lt}
use Rattle.std.specs.Prelude.{flat_map}
use Rattle.std.proofs.lemmas.Bool.{cases_Bool, cases_lt, and_parts, and_from, eqb-true, eq-eqb, le-ltb, both_ways}
use Rattle.std.proofs.lemmas.Option.{slice_get_within, slice_get-get_or, get_or_from_slice_get, same_Some}
use Rattle.htl_event.specs.Events.{Event}
use Rattle.htl_event.specs.Slots.{base_of}
use Rattle.htl_event.specs.Handles.{later}
use Rattle.htl_tables.specs.declared.sort_key.SortKey.{SortKey}
use Rattle.htl_tables.specs.Latest.{with_event, noted}
use Rattle.htl_event.specs.Handles.{opens_or_closes}
use Rattle.htl_event.proofs.EventTests.{opens_or_closes_base}
use Rattle.htl_tables.specs.SortKeys.{sort_key_cmp, sort_key_of, StandsAt, IsKeyIn, AreCandidates, AreEventsOfKeys}
use Rattle.htl_tables.specs.FirstKeys.{HasHandle, FirstKeyIs, StandFrom}
use Rattle.htl_tables.proofs.SortKeyOrder.{no_later-trans, sorted_no_later, in_order}
use Rattle.htl_tables.proofs.FlatPlaces.{flat_place, flat_place-le, stands_flat, flat_stands}
use Rattle.htl_tables.proofs.FirstNoted.{FirstIs, FirstIs-noted, FirstIs-unique}

-- the sort key of an event that opens or closes a handle is of this handle
pub key_of_event : (process base : ℕ) (e : Event) (r i : ℕ) → opens_or_closes_base process base e ≡ true
    → HasHandle process base (sort_key_of e r i)
key_of_event process base e r i c =
    let key = and_parts (e.process == process) (base_of e.handle == base)
    (and_parts (opens_or_closes e.kind) (e.process == process && base_of e.handle == base) c).1 in
    record { owner = eqb-true e.process process key.0; handle = eqb-true (base_of e.handle) base key.1 }

-- an event that opens or closes the handle of a process is an open or a close
pub opens_of : (process base : ℕ) (e : Event) → opens_or_closes_base process base e ≡ true → opens_or_closes e.kind ≡ true
opens_of process base e c = (and_parts (opens_or_closes e.kind) (e.process == process && base_of e.handle == base) c).0

opens_by_key : (process base : ℕ) (e : Event) (r i : ℕ) → opens_or_closes e.kind ≡ true → HasHandle process base (sort_key_of e r i)
    → opens_or_closes_base process base e ≡ true
opens_by_key process base e r i opens of =
    and_from (opens_or_closes e.kind) (e.process == process && base_of e.handle == base) opens
    (and_from (e.process == process) (base_of e.handle == base) (eq-eqb e.process process of.owner)
    (eq-eqb (base_of e.handle) base of.handle))

module _ {X : Type 0} (events_of : X → List Event) (lists : List X) (test : Event → Bool) where
  -- two events at one place of the lists are one
  pub same_event : (r i : ℕ) (x y : Event) → StandsAt events_of lists r i x → StandsAt events_of lists r i y → x ≡ y
  same_event r i x y sx sy =
      let list : sx.list ≡ sy.list = same_Some sx.list sy.list (sym sx.in_lists ∙ sy.in_lists) in
      same_Some x y (sym sx.in_list ∙ ap (λ (z : X). slice_get (events_of z) i) list ∙ sy.in_list)

  -- the key of the event that stands at its place
  pub key_is : (k : SortKey) (x : Event) → IsKeyIn events_of lists test k → StandsAt events_of lists k.list k.index x
      → record { key : k ≡ sort_key_of x k.list k.index; passes : test x ≡ true }
  key_is k x in_lists stands =
      let event : in_lists.event ≡ x = same_event k.list k.index in_lists.event x in_lists.stands stands in
      record {
        key = in_lists.is ∙ ap (λ (e : Event). sort_key_of e k.list k.index) event;
        passes = subst (λ (e : Event). test e ≡ true) event in_lists.passes;
      }

  module _ (keys : List SortKey) (process base : ℕ) where
    abbrev FirstOwnIs : ℕ → Option Event → Type 0
    FirstOwnIs n o = FirstKeyIs events_of lists test keys process base n o

    module _ (opens : (e : Event) → test e ≡ true → opens_or_closes e.kind ≡ true)
        (are : AreCandidates events_of lists test keys) (sorted : IsSorted sort_key_cmp keys) where
      here : (k : ℕ) (u : SortKey) → slice_get keys k ≡ Some u → IsKeyIn events_of lists test u
      here k u at = are.each u (k, slice_get_within keys k u at, get_or_from_slice_get keys k u u at)

      -- one more event was noted
      pub key_noted : (n : ℕ) (t : SortKey) (x : Event) → slice_get keys n ≡ Some t → StandsAt events_of lists t.list t.index x
          → (o : Option Event) → FirstOwnIs n o → FirstOwnIs (n + 1) (with_event process base o x)
      key_noted n t x at stands o h = elim (cases_Bool (opens_or_closes_base process base x)) [
        | inl c ↦ rw c (of_its_handle o h c)
        | inr f ↦ rw f (other o h f)
      ] where
        is : record { key : t ≡ sort_key_of x t.list t.index; passes : test x ≡ true }
        is = key_is t x (here n t at) stands

        -- the key at place n
        last : (k : ℕ) (u : SortKey) → k < n + 1 → (k < n → ⊥) → slice_get keys k ≡ Some u → t ≡ u
        last k u lt past at_k =
            let same : n ≡ k = elim (cases_lt k n) [ inl before ↦ absurd (past before) | inr ge ↦ omega (arith, lt, ge) ] in
            same_Some t u (sym at ∙ ap (slice_get keys) same ∙ at_k)

        not_of : opens_or_closes_base process base x ≡ false → HasHandle process base t → ⊥
        not_of f of = both_ways (opens_or_closes_base process base x) f
            (opens_by_key process base x t.list t.index (opens x is.passes) (subst (HasHandle process base) is.key of))

        other : (p : Option Event) → FirstOwnIs n p → opens_or_closes_base process base x ≡ false → FirstOwnIs (n + 1) p
        other None none f = λ k u lt at_k of. elim (cases_lt k n) [
          | inl before ↦ none k u before at_k of
          | inr past ↦ not_of f (subst (HasHandle process base) (sym (last k u lt (λ b. omega (arith, b, past)) at_k)) of)
        ]
        other (Some e) one f = record {
          place = one.place;
          within = (let w = one.within in omega (arith, w));
          key = one.key;
          at = one.at;
          of = one.of;
          stands = one.stands;
          first = λ k u lt at_k of. elim (cases_lt k n) [
            | inl before ↦ one.first k u before at_k of
            | inr past ↦ absurd (not_of f (subst (HasHandle process base) (sym (last k u lt (λ b. omega (arith, b, past)) at_k)) of))
          ];
        }

        of_its_handle : (p : Option Event) → FirstOwnIs n p → opens_or_closes_base process base x ≡ true
            → FirstOwnIs (n + 1) (later p (Some x))
        of_its_handle None none c = record {
          place = n;
          within = omega arith;
          key = t;
          at = at;
          of = subst (HasHandle process base) (sym is.key) (key_of_event process base x t.list t.index c);
          stands = stands;
          first = λ k u lt at_k of. elim (cases_lt k n) [
            | inl before ↦ absurd (none k u before at_k of)
            | inr past ↦ past
          ];
        }
        of_its_handle (Some e) one c =
            let le : one.place ≤ n = (let w = one.within in omega (arith, w)) in
            let first = key_is one.key e (here one.place one.key one.at) one.stands in
            let of = key_of_event process base x t.list t.index c in
            let own : HasHandle process base (sort_key_of e one.key.list one.key.index) = subst (HasHandle process base) first.key one.of in
            let order : is_lt (sort_key_cmp (sort_key_of x t.list t.index) (sort_key_of e one.key.list one.key.index)) ≡ false =
            subst (λ (u : SortKey). is_lt (sort_key_cmp u (sort_key_of e one.key.list one.key.index)) ≡ false) is.key
            (subst (λ (u : SortKey). is_lt (sort_key_cmp t u) ≡ false) first.key
            (sorted_no_later keys sorted one.place n one.key t le one.at at)) in
            let older : x.sequence ≤ e.sequence =
            elim (in_order e x one.key.list t.list one.key.index t.index order (own.owner ∙ sym of.owner) (own.handle ∙ sym of.handle)) [
              | inl lt ↦ omega (arith, lt)
              | inr same ↦ (let s = same.0 in omega (arith, s))
            ] in
            rw (le-ltb e.sequence x.sequence older) (record {
              place = one.place;
              within = (let w = one.within in omega (arith, w));
              key = one.key;
              at = one.at;
              of = one.of;
              stands = one.stands;
              first = λ k u lt at_k of_u. elim (cases_lt k n) [
                | inl before ↦ one.first k u before at_k of_u
                | inr past ↦ omega (arith, le, past)
              ];
            })

      -- the events of a run of the keys were noted, one after the other
      pub run_noted : (n : ℕ) (run : List SortKey) (events : List (Bor Event)) → StandFrom keys n run
          → AreEventsOfKeys events_of lists run events → length events ≡ length run → (o : Option Event) → FirstOwnIs n o
          → FirstOwnIs (n + length run) (fold (with_event process base) o (map (λ e. e.now) events))
      run_noted n [] [] stand are_of len o h = (let here : n ≡ n + 0 = omega arith in subst (λ m. FirstOwnIs m o) here h)
      run_noted n [] (x ∷ events) stand are_of len o h = absurd (omega (arith, len))
      run_noted n (t ∷ run) [] stand are_of len o h = absurd (omega (arith, len))
      run_noted n (t ∷ run) (x ∷ events) stand are_of len o h =
          let one = are_of zero x refl in
          let here : n + 0 ≡ n = omega arith in
          let last : suc n + length run ≡ n + suc (length run) = omega arith in
          let next : n + 1 ≡ suc n = omega arith in
          let noted_one = key_noted n one.key x.now (ap (slice_get keys) (sym here) ∙ stand zero one.key one.at) one.stands o h in
          subst (λ m. FirstOwnIs m (fold (with_event process base) (with_event process base o x.now) (map (λ e. e.now) events))) last
          (run_noted (suc n) run events
          (λ i k at. let place : suc n + i ≡ n + suc i = omega arith in ap (slice_get keys) place ∙ stand (suc i) k at)
          (λ i e at. let of = are_of (suc i) e at in record { key = of.key; at = of.at; stands = of.stands })
          (omega (arith, len)) (with_event process base o x.now)
          (subst (λ m. FirstOwnIs m (with_event process base o x.now)) next noted_one))

      -- once all were noted, the event is the first of the latest, where all of the handle's pass
      pub keys_noted : ((e : Event) → opens_or_closes_base process base e ≡ true → test e ≡ true)
          → (o : Option Event) → FirstOwnIs (length keys) o → o ≡ noted (flat_map events_of lists) process base
      keys_noted pass o h =
          let events = flat_map events_of lists in
          FirstIs-unique events process base o (noted events process base) (first o h) (FirstIs-noted process base events) where
            -- the key that meets an event of the handle, and its place
            meets : (p : ℕ) (x : Event) → slice_get (flat_map events_of lists) p ≡ Some x → opens_or_closes_base process base x ≡ true
                → record {
                  r : ℕ;
                  i : ℕ;
                  stands : StandsAt events_of lists r i x;
                  is : p ≡ flat_place events_of lists r i;
                  place : ℕ;
                  key : SortKey;
                  at : slice_get keys place ≡ Some key;
                  of : HasHandle process base key;
                  order : is_lt (sort_key_cmp (sort_key_of x r i) key) ≡ false;
                }
            meets p x at c =
                let from = flat_stands events_of lists p x at in
                let met = are.all from.r from.i x from.stands (pass x c) in
                let of = key_of_event process base x from.r from.i c in
                let there = met.here in
                record {
                  r = from.r;
                  i = from.i;
                  stands = from.stands;
                  is = from.is;
                  place = there.0;
                  key = met.key;
                  at = slice_get-get_or keys there.0 met.key there.1 ∙ ap (λ (k : SortKey). Some k) there.2;
                  of = record { owner = met.process ∙ of.owner; handle = met.base ∙ of.handle };
                  order = met.order;
                }

            first : (q : Option Event) → FirstOwnIs (length keys) q → FirstIs (flat_map events_of lists) process base q
            first None none = λ p x at c.
                let m = meets p x at c in
                none m.place m.key (slice_get_within keys m.place m.key m.at) m.at m.of
            first (Some e) one =
                let is = key_is one.key e (here one.place one.key one.at) one.stands in
                let own : HasHandle process base (sort_key_of e one.key.list one.key.index) =
                subst (HasHandle process base) is.key one.of in
                record {
                  index = flat_place events_of lists one.key.list one.key.index;
                  at = stands_flat events_of lists one.key.list one.key.index e one.stands;
                  of_handle = opens_by_key process base e one.key.list one.key.index (opens e is.passes) own;
                  first = λ p x at c.
                      let m = meets p x at c in
                      let le = one.first m.place m.key (slice_get_within keys m.place m.key m.at) m.at m.of in
                      let before = sorted_no_later keys sorted one.place m.place one.key m.key le one.at m.at in
                      let order = subst (λ (u : SortKey). is_lt (sort_key_cmp (sort_key_of x m.r m.i) u) ≡ false) is.key
                      (no_later-trans (sort_key_of x m.r m.i) m.key one.key m.order before) in
                      let of = key_of_event process base x m.r m.i c in
                      elim (in_order e x one.key.list m.r one.key.index m.i order (own.owner ∙ sym of.owner) (own.handle ∙ sym of.handle)) [
                        | inl lt ↦ inl lt
                        | inr same ↦
                            let place = flat_place-le events_of lists one.key.list m.r one.key.index m.i e x one.stands m.stands same.1 in
                            let end = m.is in
                            inr (same.0, omega (arith, place, end))
                      ];
                }
