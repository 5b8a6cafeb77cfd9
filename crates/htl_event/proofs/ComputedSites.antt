-- Sites can be computed: a function gives them, wherever they and the processes of each stack rise.
use Rattle.std.proofs.Common.{◌≡◌, ℕ, ◌<◌, ◌≤◌, Bool, true, List, [], ◌∷◌, length, Option, Some, None, refl, sym, ap, ◌∙◌, subst}
use Rattle.std.proofs.Common.{arith, inl, inr, ◌&&◌, nat_eq, map}
use Rattle.std.specs.Prelude.{Contains, ◌↔◌, nat_lt, filter, count_by}
use Rattle.std.specs.List.{list_all}
use Rattle.std.specs.Cmp.{unsigned_Decides}
use Rattle.std.specs.Cmp.Lexicographic.{pointwise_decides}
use Rattle.std.specs.Ordering.{nat_cmp, ordering_then}
use Rattle.std.specs.declared.cmp.Ordering.{Ordering}
use Rattle.std.proofs.lemmas.Bool.{and_parts, and_from, eqb-true, ltb-true, lt-ltb}
use Rattle.htl_event.specs.Events.{Event}
use Rattle.htl_event.specs.Slots.{base_of}
use Rattle.htl_event.specs.Stacks.{stack_cmp}
use Rattle.htl_event.specs.Members.{Lists}
use Rattle.htl_event.specs.Tallies.{has_stack}
use Rattle.htl_event.specs.declared.since.Since.{Since}
use Rattle.htl_event.specs.declared.since.Since.TheVariants.{Snapshot, Sequence}
use Rattle.htl_event.specs.Sites.{Site, CountsSince, ByProcessAndBase, AreOpenAnywhere, HasHandle, HaveProcesses, IsSite, MostHandlesFirst, IsSites}
use Rattle.htl_event.proofs.Orders.{lower-strict}
use Rattle.htl_event.proofs.Members.{Lists-same, Contains-nil, Contains-cases, Contains-map, Contains-from_map, Contains-filter, Contains-from_filter}
use Rattle.htl_event.proofs.Determined.{IsGreatestSequence-unique}
use Rattle.htl_event.proofs.Ordered.{is_rising, ordered, rows_where, distinct, Contains-distinct, Contains-rows_where, Lists-ordered, Lists-filter}
use Rattle.htl_event.proofs.ComputedHandles.{is_open, open_where, mark_of, IsMark-mark_of}
use Rattle.htl_event.proofs.ComputedCounts.{comes_first, is_lt-Less, enough, enough-is, key_of_enough, same_list, same_list-exact}

-- ---- open handles of all processes

abbrev by_process_and_base : Event → Event → Ordering
by_process_and_base a b = ordering_then (nat_cmp a.process b.process) (nat_cmp (base_of a.handle) (base_of b.handle))

abbrev counts_since : List Event → Option Since → Event → Bool
counts_since es None e = true
counts_since es (Some (Sequence moment)) e = nat_lt moment e.sequence
counts_since es (Some Snapshot) e = nat_lt (mark_of es e.process) e.sequence

counts_since-is : (es : List Event) (since : Option Since) (e : Event) → (counts_since es since e ≡ true) ↔ CountsSince (Contains es) since e
counts_since-is es None e = (λ h. tt, λ h. refl)
counts_since-is es (Some (Sequence moment)) e = (ltb-true _ _, lt-ltb _ _)
counts_since-is es (Some Snapshot) e = (
  λ h mark is.
      let later : mark_of es e.process < e.sequence = ltb-true _ _ h in
      let same = IsGreatestSequence-unique _ mark _ is (IsMark-mark_of es e.process) in
      omega (arith, same, later),
  λ h. lt-ltb _ _ (h (mark_of es e.process) (IsMark-mark_of es e.process)),
)

abbrev is_open_since : List Event → Option Since → Event → Bool
is_open_since es since e = is_open es e.process e && counts_since es since e

-- the events of the list that opened handles which are open and count, by process and base handle
abbrev pub anywhere_of : List Event → Option Since → List Event
anywhere_of es since = ordered (comes_first by_process_and_base) (filter (is_open_since es since) es)

-- the computed open handles are those of all processes, where they rise by process and base handle
pub AreOpenAnywhere-anywhere_of : (es : List Event) (since : Option Since)
    → is_rising (comes_first by_process_and_base) (anywhere_of es since) ≡ true → AreOpenAnywhere (Contains es) since (anywhere_of es since)
AreOpenAnywhere-anywhere_of es since =
    Lists-filter _ ByProcessAndBase (λ a b. is_lt-Less (by_process_and_base a b)) (is_open_since es since) _ es (λ e. (
      λ h.
          let parts = and_parts _ _ h.1 in
          ((open_where es e.process e).0 (h.0, parts.0), (counts_since-is es since e).0 parts.1),
      λ h.
          let is = (open_where es e.process e).1 h.0 in
          (is.0, and_from _ _ is.1 ((counts_since-is es since e).1 h.1)),
    ))

-- ---- the processes of a stack

module _ (handles : List Event) (stack : List ℕ) where
  abbrev owners : List ℕ
  owners = map (λ e. e.process) (filter (has_stack stack) handles)

  has_owner : (process : ℕ) → Contains owners process ↔ HasHandle handles stack process
  has_owner process = (
    λ h.
        let (e, kept, is) = Contains-from_map (λ (x : Event). x.process) (filter (has_stack stack) handles) process h in
        let of = Contains-from_filter (has_stack stack) handles e kept in
        (e, of.0, is, same_list-exact e.stack stack of.1),
    λ h.
        let (e, here, is, of) = h in
        subst (Contains owners) is (Contains-map (λ (x : Event). x.process) (filter (has_stack stack) handles) e
        (Contains-filter (has_stack stack) handles e here ((pointwise_decides unsigned_Decides e.stack stack).1 of))),
  )

  -- the processes that have one of the handles with this stack
  abbrev pub processes_of : List ℕ
  processes_of = ordered nat_lt (distinct nat_eq owners)

  HaveProcesses-processes_of : is_rising nat_lt processes_of ≡ true → HaveProcesses handles stack (length processes_of)
  HaveProcesses-processes_of rises = (
    processes_of,
    Lists-ordered nat_lt (λ p q. p < q) (λ p q. ltb-true _ _) (HasHandle handles stack) (distinct nat_eq owners) (λ p.
        let once = Contains-distinct nat_eq (λ x y. eqb-true x y) owners p in
        let of = has_owner p in
        (λ h. of.0 (once.0 h), λ h. once.1 (of.1 h))) rises,
    refl,
  )

-- ---- sites

-- a stack has one site
pub IsSite-unique : (handles : List Event) (a b : Site) → a.stack ≡ b.stack → IsSite handles a → IsSite handles b → a ≡ b
IsSite-unique handles a b same p q =
    let counts : a.handles ≡ b.handles = p.opened ∙ ap (λ stack. count_by (has_stack stack) handles) same ∙ sym q.opened in
    let (ps, lists_p, is_p) = p.owners in
    let (qs, lists_q, is_q) = q.owners in
    let owners : ps ≡ qs = Lists-same (λ (x y : ℕ). x < y) lower-strict _ _ ps qs
    (λ process. (subst (λ stack. HasHandle handles stack process) same, subst (λ stack. HasHandle handles stack process) (sym same))) lists_p lists_q in
    let numbers : a.processes ≡ b.processes = is_p ∙ ap length owners ∙ sym is_q in
    same_site a.stack b.stack a.handles b.handles a.processes b.processes same counts numbers
  where
    same_site : (s t : List ℕ) (m n j k : ℕ) → s ≡ t → m ≡ n → j ≡ k
        → ◌≡◌ {A = Site} (record { stack = s; handles = m; processes = j }) (record { stack = t; handles = n; processes = k })
    same_site s t m n j k e f g = cc

abbrev most_handles_first : Site → Site → Ordering
most_handles_first a b = ordering_then (nat_cmp b.handles a.handles) (stack_cmp a.stack b.stack)

-- each element passes where all do
each_passes : {X : Type 0} (test : X → Bool) (xs : List X) (x : X) → list_all test xs ≡ true → Contains xs x → test x ≡ true
each_passes test [] x all h = absurd (Contains-nil x h)
each_passes test (y ∷ ys) x all h =
    let parts = and_parts _ _ all in
    elim (Contains-cases y ys x h) [
      | inl here ↦ subst (λ z. test z ≡ true) here parts.0
      | inr there ↦ each_passes test ys x parts.1 there
    ]

module _ (least : ℕ) (handles : List Event) where
  abbrev times_opened : List ℕ → ℕ
  times_opened stack = count_by (has_stack stack) handles

  abbrev has_site : List ℕ → Bool
  has_site stack = nat_lt 0 (enough least (times_opened stack))

  abbrev site_of : List ℕ → Site
  site_of stack = record { stack = stack; handles = times_opened stack; processes = length (processes_of handles stack) }

  abbrev stacks : List (List ℕ)
  stacks = map (λ e. e.stack) handles

  -- the sites of so many of these handles at least
  abbrev pub sites_of : List Site
  sites_of = ordered (comes_first most_handles_first) (rows_where same_list has_site site_of stacks)

  abbrev IsRow : Site → Type 0
  IsRow site = IsSite handles site × ((0 < site.handles) × (least ≤ site.handles))

  -- the processes of each stack rise
  abbrev pub processes_rise : Bool
  processes_rise = list_all (λ stack. is_rising nat_lt (processes_of handles stack)) stacks

  stack_opened : (stack : List ℕ) → has_site stack ≡ true → Contains stacks stack
  stack_opened stack some = key_of_enough least handles stack (ltb-true 0 _ some)

  module _ (rise : processes_rise ≡ true) where
    processes_are : (stack : List ℕ) → Contains stacks stack → HaveProcesses handles stack (length (processes_of handles stack))
    processes_are stack h = HaveProcesses-processes_of handles stack
        (each_passes (λ s. is_rising nat_lt (processes_of handles s)) stacks stack rise h)

    is_row : (stack : List ℕ) → has_site stack ≡ true → IsRow (site_of stack)
    is_row stack some = (
      record { opened = refl; owners = processes_are stack (stack_opened stack some) },
      (enough-is least (times_opened stack)).0 (ltb-true 0 _ some),
    )

    row_has_stack : (site : Site) → IsRow site → (stack : List ℕ) × Contains stacks stack × (has_site stack ≡ true) × (site_of stack ≡ site)
    row_has_stack site row =
        let many : has_site site.stack ≡ true = lt-ltb 0 _ ((enough-is least (times_opened site.stack)).1 (rw (← row.0.opened) row.1)) in
        let opened = stack_opened site.stack many in
        (site.stack, opened, many, IsSite-unique handles (site_of site.stack) site refl (is_row site.stack many).0 row.0)

    Lists-sites_of : is_rising (comes_first most_handles_first) sites_of ≡ true → Lists MostHandlesFirst IsRow sites_of
    Lists-sites_of =
        Lists-ordered _ _ (λ x y. is_lt-Less (most_handles_first x y)) IsRow _
        (Contains-rows_where same_list same_list-exact has_site site_of IsRow stacks is_row row_has_stack)

-- the computed sites of the open handles are the sites, where they rise in their order, and the processes of each stack do
pub IsSites-sites_of : (es : List Event) (since : Option Since) (least : ℕ) (handles : List Event)
    → AreOpenAnywhere (Contains es) since handles → processes_rise least handles ≡ true
    → is_rising (comes_first most_handles_first) (sites_of least handles) ≡ true
    → IsSites (Contains es) since least (sites_of least handles)
IsSites-sites_of es since least handles are rise rises = record {
  handles = handles;
  are = are;
  stacks = Lists-sites_of least handles rise rises;
}
