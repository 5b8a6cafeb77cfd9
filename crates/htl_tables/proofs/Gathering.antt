-- Sort keys are gathered from lists, one list after the other, and sorted they are the candidates.
use Rattle.std.proofs.Common.{◌≡◌, ℕ, ◌+◌, Bool, true, false, ◌<◌, List, [], length, Some, refl}
use Rattle.std.proofs.Common.{sym, ap, ◌∙◌, inl, inr, ◌⊎◌, arith, subst, slice_get, IsPermutation, Contains}
use Rattle.std.proofs.lemmas.Bool.{cases_lt, both_ways}
use Rattle.std.proofs.lemmas.Option.{slice_get_within, same_Some}
use Rattle.std.proofs.lemmas.List.Sorted.{Contains-permutation, IsPermutation-sym}
use Rattle.htl_event.specs.Events.{Event}
use Rattle.htl_tables.specs.declared.sort_key.SortKey.{SortKey}
use Rattle.htl_tables.specs.SortKeys.{sort_key_of, StandsAt, IsKeyIn, IsKeyAt, IsMet, AreCandidates, Gathers, Offers}

met_moved : (keys sorted : List SortKey) (k : SortKey) → IsPermutation keys sorted → IsMet keys k → IsMet sorted k
met_moved keys sorted k moved m = record {
  key = m.key;
  here = Contains-permutation keys sorted m.key moved m.here;
  process = m.process;
  base = m.base;
  order = m.order;
}

-- ---- one list

module _ (r : ℕ) (events : List Event) (test : Event → Bool) (old : List SortKey) where
  -- gathered from the first n events
  pub record GathersFirst (n : ℕ) (new : List SortKey) : Type 0 where
    pub each : (k : SortKey) → Contains new k → Contains old k ⊎ IsKeyAt r events test k
    pub met : (k : SortKey) → IsMet old k → IsMet new k
    pub all : (i : ℕ) (e : Event) → i < n → slice_get events i ≡ Some e → test e ≡ true → IsMet new (sort_key_of e r i)

  -- an event between the first n and the next
  at_next : (n i : ℕ) (e x : Event) → (i < n → ⊥) → i < n + 1 → slice_get events n ≡ Some e → slice_get events i ≡ Some x
      → record { place : n ≡ i; event : e ≡ x }
  at_next n i e x past lt at at_i =
      let place : n ≡ i = elim (cases_lt i n) [ inl before ↦ absurd (past before) | inr ge ↦ omega (arith, lt, ge) ] in
      record { place = place; event = same_Some e x (sym at ∙ ap (slice_get events) place ∙ at_i) }

  -- where the next event passes and its key was offered, the keys are gathered from one event more
  pub gathers_more : (n : ℕ) (keys new : List SortKey) (e : Event) → slice_get events n ≡ Some e → test e ≡ true
      → Offers (sort_key_of e r n) keys new
      → GathersFirst n keys → GathersFirst (n + 1) new
  gathers_more n keys new e at passes offers g = record {
    each = λ k h. elim (offers.each k h) [
      | inl before ↦ g.each k before
      | inr is ↦ inr (subst (IsKeyAt r events test) is (record { event = e; at = at; passes = passes; is = refl }))
    ];
    met = λ k m. offers.met k (g.met k m);
    all = λ i x lt at_i passes_x. elim (cases_lt i n) [
      | inl before ↦ offers.met (sort_key_of x r i) (g.all i x before at_i passes_x)
      | inr past ↦
          let next = at_next n i e x (λ before. omega (arith, before, past)) lt at at_i in
          let key : sort_key_of e r n ≡ sort_key_of x r i = ap (λ (y : Event). sort_key_of y r n) next.event
          ∙ ap (sort_key_of x r) next.place in
          subst (IsMet new) key offers.own
    ];
  }

  -- where the next event fails the test, the same keys are gathered from one event more
  pub gathers_skip : (n : ℕ) (new : List SortKey) (e : Event) → slice_get events n ≡ Some e → test e ≡ false
      → GathersFirst n new → GathersFirst (n + 1) new
  gathers_skip n new e at fails g = record {
    each = g.each;
    met = g.met;
    all = λ i x lt at_i passes_x. elim (cases_lt i n) [
      | inl before ↦ g.all i x before at_i passes_x
      | inr past ↦
          let next = at_next n i e x (λ before. omega (arith, before, past)) lt at at_i in
          absurd (both_ways (test x) (ap test (sym next.event) ∙ fails) passes_x)
    ];
  }

  -- keys gathered from as many events as the list has are gathered from the whole list
  pub gathers_whole : (new : List SortKey) → GathersFirst (length events) new → Gathers r events test old new
  gathers_whole new g = record {
    each = g.each;
    met = g.met;
    all = λ i e at. g.all i e (slice_get_within events i e at) at;
  }

-- ---- all lists

module _ {X : Type 0} (events_of : X → List Event) (lists : List X) (test : Event → Bool) where
  -- the candidates of the first n lists
  pub record AreFromFirst (n : ℕ) (keys : List SortKey) : Type 0 where
    pub each : (k : SortKey) → Contains keys k → IsKeyIn events_of lists test k
    pub all : (r i : ℕ) (e : Event) → r < n → StandsAt events_of lists r i e → test e ≡ true
        → IsMet keys (sort_key_of e r i)

  -- before the first list there are no candidates
  pub from_none : AreFromFirst 0 []
  from_none = record { each = λ k h. absurd (omega (arith, h.1)); all = λ r i e lt. absurd (omega (arith, lt)) }

  key_in : (n : ℕ) (x : X) (k : SortKey) → slice_get lists n ≡ Some x → IsKeyAt n (events_of x) test k → IsKeyIn events_of lists test k
  key_in n x k at key =
      let list : k.list ≡ n = ap (λ (l : SortKey). l.list) key.is in
      record {
        event = key.event;
        stands = record { list = x; in_lists = ap (slice_get lists) list ∙ at; in_list = key.at };
        passes = key.passes;
        is = key.is ∙ ap (λ (r : ℕ). sort_key_of key.event r k.index) (sym list);
      }

  -- candidates of the first lists, to which the keys of the next came, are those of one list more
  pub from_more : (n : ℕ) (x : X) (old new : List SortKey) → slice_get lists n ≡ Some x → Gathers n (events_of x) test old new
      → AreFromFirst n old → AreFromFirst (n + 1) new
  from_more n x old new at g from = record {
    each = λ k h. elim (g.each k h) [ inl before ↦ from.each k before | inr key ↦ key_in n x k at key ];
    all = λ r i e lt s passes. elim (cases_lt r n) [
      | inl before ↦ g.met (sort_key_of e r i) (from.all r i e before s passes)
      | inr past ↦
          let same : r ≡ n = omega (arith, lt, past) in
          let list : s.list ≡ x = same_Some s.list x (sym s.in_lists ∙ ap (slice_get lists) same ∙ at) in
          let there : slice_get (events_of x) i ≡ Some e = ap (λ (y : X). slice_get (events_of y) i) (sym list) ∙ s.in_list in
          subst (λ (q : ℕ). IsMet new (sort_key_of e q i)) (sym same) (g.all i e there passes)
    ];
  }

  -- sorted, they are the candidates
  pub candidates_sorted : (keys sorted : List SortKey) → AreFromFirst (length lists) keys → IsPermutation keys sorted
      → AreCandidates events_of lists test sorted
  candidates_sorted keys sorted from moved = record {
    each = λ k h. from.each k (Contains-permutation sorted keys k (IsPermutation-sym keys sorted moved) h);
    all = λ r i e s passes. met_moved keys sorted (sort_key_of e r i) moved
        (from.all r i e (slice_get_within lists r s.list s.in_lists) s passes);
  }
