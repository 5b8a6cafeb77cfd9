-- The laws of sites: of one process they are its leaks, and their handles are the outstanding handles of all processes.
use Rattle.std.proofs.Common.{◌≡◌, ℕ, ◌<◌, ◌≤◌, Bool, true, List, [], ◌∷◌, length, map, Option, Some, None}
use Rattle.std.proofs.Common.{refl, sym, ap, subst, ◌∙◌, arith, inl, inr, ◌⊎◌, ◌&&◌}
use Rattle.std.specs.Prelude.{Contains, ◌==◌, count_by, filter}
use Rattle.std.specs.List.{sum_by}
use Rattle.std.specs.Cmp.{unsigned_Decides}
use Rattle.std.specs.Cmp.Lexicographic.{pointwise_decides}
use Rattle.std.proofs.lemmas.Bool.{cases_lt, cases_eq, eqb-true, eq-eqb, and_from}
use Rattle.std.proofs.lemmas.Bool.Decides.{nat_tests}
use Rattle.std.proofs.lemmas.List.Sums.{length-filter}
use Rattle.htl_event.specs.Events.{Event}
use Rattle.htl_event.specs.Members.{IsRising, Lists}
use Rattle.htl_event.specs.Handles.{ByBase, IsOpen, IsMark}
use Rattle.htl_event.specs.Tallies.{has_stack, MostFirst, AreOpenSince, IsLeaksSince}
use Rattle.htl_event.specs.Summaries.{is_open, is_close, is_bad, how_many, HasOutstanding, MostOutstandingFirst, IsProcesses}
use Rattle.htl_event.specs.Sites.{Site, ByProcessAndBase, AreOpenAnywhere, HasHandle, HaveProcesses, MostHandlesFirst, IsSites}
use Rattle.htl_event.specs.declared.since.Since.{Since}
use Rattle.htl_event.specs.declared.since.Since.TheVariants.{Snapshot, Sequence}
use Rattle.htl_event.specs.declared.summary.ProcessRow.{ProcessRow}
use Rattle.htl_event.proofs.Members.{Contains-nil, Contains-cases, Contains-cons, Contains-map, Contains-from_map}
use Rattle.htl_event.proofs.Members.{Contains-filter, Contains-from_filter}
use Rattle.htl_event.proofs.Orders.{lower-strict, MostHandlesFirst-strict}
use Rattle.htl_event.proofs.Summarized.{MostOutstandingFirst-strict}
use Rattle.htl_event.proofs.ComputedHandles.{mark_of, IsMark-mark_of, last_exit_of, IsLastExit-last_exit_of}
use Rattle.htl_event.proofs.ComputedSites.{IsSite-unique}
use Rattle.htl_event.proofs.Determined.{IsGreatestSequence-unique, outstanding_same}
use Rattle.htl_answers.proofs.NumberSums.{sum_same}
use Rattle.htl_answers.proofs.OpenLemmas.{rising-filter}
use Rattle.htl_answers.proofs.Opens.{IsRising-map}
use Rattle.htl_summary.proofs.Counting.{count_one, exists_one, positive_somewhere, sum_of_keys}
use Rattle.htl_summary.proofs.ProcessRows.{one_row}
use Rattle.htl_summary.proofs.Placed.{in_order, rising_members}
use Rattle.htl_summary.specs.SiteLaws.{IsMoment, row_of_leaks, SitesAddUp}

-- ---- one process

-- of one process, what comes first has the lower base handle
base_order : (a b : Event) → ByProcessAndBase a b → a.process ≡ b.process → ByBase a b
base_order a b order owner =
    let order' = order in
    let owner' = owner in
    grind (arith, nat_tests)

module _ (events : List Event) (process : ℕ) (own : (e : Event) → Contains events e → e.process ≡ process) where
  its : (e : Event) → IsOpen (Contains events) e.process e → e.process ≡ process
  its e o = own e o.latest.here

  here : (e : Event) → IsOpen (Contains events) e.process e → IsOpen (Contains events) process e
  here e o = subst (λ p. IsOpen (Contains events) p e) (its e o) o

  there : (e : Event) → IsOpen (Contains events) process e → IsOpen (Contains events) e.process e
  there e o = subst (λ p. IsOpen (Contains events) p e) (sym o.latest.of_handle.owner) o

  owner_of : (since : Option Since) (handles : List Event) → AreOpenAnywhere (Contains events) since handles → (e : Event)
      → Contains handles e → e.process ≡ process
  owner_of since handles are e h = its e ((are.members e).0 h).0

  by_base : (since : Option Since) (handles : List Event) → AreOpenAnywhere (Contains events) since handles → IsRising ByBase handles
  by_base since handles are = rising_members ByProcessAndBase ByBase handles
      (λ x y in_x in_y before. base_order x y before (owner_of since handles are x in_x ∙ sym (owner_of since handles are y in_y))) are.rising

  -- the open handles of all processes are those of the one
  handles_are : (since : Option Since) (moment : Option ℕ) → IsMoment (Contains events) process since moment → (handles : List Event)
      → AreOpenAnywhere (Contains events) since handles → AreOpenSince (Contains events) process moment handles
  handles_are None moment is handles are = subst (λ m. AreOpenSince (Contains events) process m handles) (sym is) (record {
    rising = by_base None handles are;
    members = λ e. (λ h. here e ((are.members e).0 h).0, λ o. (are.members e).1 (there e o, tt));
  })
  handles_are (Some (Sequence n)) moment is handles are = subst (λ m. AreOpenSince (Contains events) process m handles) (sym is) (record {
    rising = by_base (Some (Sequence n)) handles are;
    members = λ e. (
      λ h. let of = (are.members e).0 h in (here e of.0, of.1),
      λ o. (are.members e).1 (there e o.0, o.1),
    );
  })
  handles_are (Some Snapshot) moment (n, is, mark) handles are = subst (λ m. AreOpenSince (Contains events) process m handles) (sym is) (record {
    rising = by_base (Some Snapshot) handles are;
    members = λ e. (
      λ h.
          let of = (are.members e).0 h in
          (here e of.0, of.1 n (subst (λ p. IsMark (Contains events) p n) (sym (its e of.0)) mark)),
      λ o. (are.members e).1 (
        there e o.0,
        λ m marked.
            let owner : e.process ≡ process = o.0.latest.of_handle.owner in
            let same = IsGreatestSequence-unique _ m n (subst (λ p. IsMark (Contains events) p m) owner marked) mark in
            let after = o.1 in
            omega (arith, same, after),
      ),
    );
  })

  -- where all events are of one process, its sites are its leaks
  pub sites_are_leaks : (since : Option Since) (moment : Option ℕ) (least : ℕ) (sites : List Site)
      → IsMoment (Contains events) process since moment → IsSites (Contains events) since least sites
      → IsLeaksSince (Contains events) process moment least (map row_of_leaks sites)
  sites_are_leaks since moment least sites is of = record {
    handles = of.handles;
    are = handles_are since moment is of.handles of.are;
    stacks = record {
      rising = IsRising-map MostHandlesFirst MostFirst row_of_leaks (λ x y h. h) sites of.stacks.rising;
      members = λ row. (
        λ h.
            let (site, listed, same) = Contains-from_map row_of_leaks sites row h in
            let facts = (of.stacks.members site).0 listed in
            subst (λ (r : List ℕ × ℕ). (r.1 ≡ count_by (has_stack r.0) of.handles) × ((0 < r.1) × (least ≤ r.1))) same (facts.0.opened, facts.1),
        λ h. Contains-map row_of_leaks sites (site_of row) ((of.stacks.members (site_of row)).1
            (record { opened = h.0; owners = one_owner row h.0 h.1.0 }, h.1)),
      );
    };
  }
    where
      site_of : List ℕ × ℕ → Site
      site_of row = record { stack = row.0; handles = row.1; processes = 1 }

      one_owner : (row : List ℕ × ℕ) → row.1 ≡ count_by (has_stack row.0) of.handles → 0 < row.1 → HaveProcesses of.handles row.0 1
      one_owner row number some =
          let (e, listed, its_stack) = exists_one (has_stack row.0) of.handles (omega (arith, number, some)) in
          let owner = owner_of since of.handles of.are in (
            process ∷ [],
            record {
              rising = (tt, tt);
              members = λ p. (
                λ h. elim (Contains-cases process [] p h) [
                  | inl same ↦ (e, listed, owner e listed ∙ same, (pointwise_decides unsigned_Decides e.stack row.0).0 its_stack)
                  | inr none ↦ absurd (Contains-nil p none)
                ],
                λ h. Contains-cons process [] p (inl (sym (owner h.0 h.1) ∙ h.2)),
              );
            },
            refl,
          )

-- ---- all processes

compare : (a b : ℕ) → (a < b) ⊎ ((a ≡ b) ⊎ (b < a))
compare a b = elim (cases_lt a b) [
  | inl below ↦ inl below
  | inr above ↦ elim (cases_eq a b) [ inl same ↦ inr (inl same) | inr other ↦ inr (inr (omega (arith, above, other))) ]
]

-- the processes of a stack have a number
processes_of : (handles : List Event) (stack : List ℕ) → (processes : List ℕ) × Lists (λ p q. p < q) (HasHandle handles stack) processes
processes_of handles stack =
    let process : Event → ℕ = λ e. e.process in
    let own = filter (has_stack stack) handles in
    let (processes, listed) = in_order (λ p q. p < q) lower-strict compare (map process own) in (
      processes,
      record {
        rising = listed.rising;
        members = λ p. (
          λ h.
              let (e, its_own, owner) = Contains-from_map process own p ((listed.members p).0 h) in
              let (here, its) = Contains-from_filter (has_stack stack) handles e its_own in
              (e, here, owner, (pointwise_decides unsigned_Decides e.stack stack).0 its),
          λ h.
              let (e, here, owner, its) = h in
              let its_own = Contains-filter (has_stack stack) handles e here ((pointwise_decides unsigned_Decides e.stack stack).1 its) in
              (listed.members p).1 (subst (Contains (map process own)) owner (Contains-map process own e its_own)),
        );
      },
    )

module _ (events : List Event) (sites : List Site) (processes : List ProcessRow) (of : IsSites (Contains events) None 1 sites)
    (are : IsProcesses events processes) where
  abbrev handles : List Event
  handles = of.handles

  is_open_handle : (e : Event) → Contains handles e → IsOpen (Contains events) e.process e
  is_open_handle e h = ((of.are.members e).0 h).0

  abbrev at_site : Site → Event → Bool
  at_site site e = has_stack site.stack e

  -- no two sites have a handle in common
  sites_apart : (e : Event) → IsRising (λ a b. at_site a e ≡ true → at_site b e ≡ true → ⊥) sites
  sites_apart e = rising_members MostHandlesFirst _ sites (λ a b in_a in_b before of_a of_b.
      let one : e.stack ≡ a.stack = (pointwise_decides unsigned_Decides e.stack a.stack).0 of_a in
      let other : e.stack ≡ b.stack = (pointwise_decides unsigned_Decides e.stack b.stack).0 of_b in
      let same : a ≡ b = IsSite-unique handles a b (sym one ∙ other) ((of.stacks.members a).0 in_a).0 ((of.stacks.members b).0 in_b).0 in
      MostHandlesFirst-strict.irreflexive b (subst (λ x. MostHandlesFirst x b) same before)) of.stacks.rising

  site_of : (e : Event) → Contains handles e → Contains sites (record {
    stack = e.stack;
    handles = count_by (has_stack e.stack) handles;
    processes = length (processes_of handles e.stack).0;
  })
  site_of e h =
      let some = positive_somewhere (has_stack e.stack) handles e h ((pointwise_decides unsigned_Decides e.stack e.stack).1 refl) in
      (of.stacks.members _).1 (
        record { opened = refl; owners = ((processes_of handles e.stack).0, (processes_of handles e.stack).1, refl) },
        (some, omega (arith, some)),
      )

  by_site : sum_by (λ (site : Site). site.handles) sites ≡ length handles
  by_site =
      sum_same (λ (site : Site). site.handles) (λ (site : Site). count_by (at_site site) handles) sites
      (λ site h. ((of.stacks.members site).0 h).0.opened)
      ∙ sum_of_keys at_site sites handles (λ e h.
      count_one (λ site. at_site site e) sites (sites_apart e) _ (site_of e h) ((pointwise_decides unsigned_Decides e.stack e.stack).1 refl))

  abbrev is_of : ProcessRow → Event → Bool
  is_of row e = e.process == row.process

  -- the open handles of a process, of those of all
  its_handles : (p : ℕ) → HasOutstanding events p (count_by (λ e. e.process == p) handles)
  its_handles p =
      let test : Event → Bool = λ e. e.process == p in (
        filter test handles,
        record {
          rising = rising_members ByProcessAndBase ByBase (filter test handles) (λ x y in_x in_y before.
              let owner_x = eqb-true x.process p (Contains-from_filter test handles x in_x).1 in
              let owner_y = eqb-true y.process p (Contains-from_filter test handles y in_y).1 in
              base_order x y before (owner_x ∙ sym owner_y)) (rising-filter ByProcessAndBase test handles of.are.rising);
          members = λ e. (
            λ h.
                let is = Contains-from_filter test handles e h in
                subst (λ q. IsOpen (Contains events) q e) (eqb-true e.process p is.1) (is_open_handle e is.0),
            λ o.
                let owner : e.process ≡ p = o.latest.of_handle.owner in
                Contains-filter test handles e ((of.are.members e).1 (subst (λ q. IsOpen (Contains events) q e) (sym owner) o, tt))
                (eq-eqb e.process p owner),
          );
        },
        sym (length-filter test handles),
      )

  outstanding_is : (p n : ℕ) → HasOutstanding events p n → n ≡ count_by (λ e. e.process == p) handles
  outstanding_is p n has =
      let its = its_handles p in
      has.2 ∙ ap length (outstanding_same events events (λ x. (λ h. h, λ h. h)) p has.0 its.0 has.1 its.1) ∙ sym its.2

  -- no two rows are of one process
  rows_apart : (e : Event) → IsRising (λ a b. is_of a e ≡ true → is_of b e ≡ true → ⊥) processes
  rows_apart e = rising_members MostOutstandingFirst _ processes (λ a b in_a in_b before of_a of_b.
      let owner = sym (eqb-true e.process a.process of_a) ∙ eqb-true e.process b.process of_b in
      let same : a ≡ b = one_row events a b ((are.members a).0 in_a) ((are.members b).0 in_b) owner in
      MostOutstandingFirst-strict.irreflexive b (subst (λ x. MostOutstandingFirst x b) same before)) are.rising

  abbrev row_of : ℕ → ProcessRow
  row_of p = record {
    process = p;
    outstanding = count_by (λ e. e.process == p) handles;
    opens = how_many is_open events p;
    closes = how_many is_close events p;
    bad = how_many is_bad events p;
    mark = mark_of events p;
    exit = last_exit_of events p;
  }

  row_there : (e : Event) → Contains handles e → Contains processes (row_of e.process)
  row_there e h =
      let p = e.process in
      let o = is_open_handle e h in
      let opened : is_open e.kind ≡ true = ap is_open o.opens in
      let some = positive_somewhere (λ x. is_open x.kind && p == x.process) events e o.latest.here (and_from _ _ opened (eq-eqb p p refl)) in
      (are.members (row_of p)).1 (record {
        some = omega (arith, some);
        handles = its_handles p;
        opened = refl;
        closed = refl;
        misused = refl;
        marked = IsMark-mark_of events p;
        exited = IsLastExit-last_exit_of events p;
      })

  by_process : sum_by (λ (row : ProcessRow). row.outstanding) processes ≡ length handles
  by_process =
      sum_same (λ (row : ProcessRow). row.outstanding) (λ (row : ProcessRow). count_by (is_of row) handles) processes
      (λ row h. outstanding_is row.process row.outstanding ((are.members row).0 h).handles)
      ∙ sum_of_keys is_of processes handles (λ e h.
      count_one (λ row. is_of row e) processes (rows_apart e) (row_of e.process) (row_there e h) (eq-eqb e.process e.process refl))

-- the handles of all sites are the outstanding handles of all processes
pub sites_add_up : (events : List Event) → SitesAddUp events
sites_add_up events sites processes of are = by_site events sites processes of are ∙ sym (by_process events sites processes of are)
