-- A run of one stack gives its site, and the sites of all runs are those of the open handles.
use Rattle.std.proofs.Common.{◌≡◌, ◌≢◌, ℕ, ◌+◌, ◌<◌, ◌≤◌, nat_eq, Bool, true, false, cond, List, [], ◌∷◌, ◌++◌, length, get_or, map, Option, Some, None}
use Rattle.std.proofs.Common.{refl, sym, ap, subst, ◌∙◌, arith, inl, inr, append-nil, append_assoc}
use Rattle.std.specs.Prelude.{Contains, ◌↔◌, count_by, filter, max}
use Rattle.std.specs.List.{IsChunkByPrefix}
use Rattle.std.specs.List.Sorted.{IsPermutation, IsSorted}
use Rattle.std.specs.Cmp.{unsigned_Decides}
use Rattle.std.specs.Cmp.Lexicographic.{pointwise, pointwise_decides}
use Rattle.std.specs.Ordering.{is_lt, nat_cmp, ordering_then}
use Rattle.std.specs.declared.cmp.Ordering.{Ordering}
use Rattle.std.specs.declared.cmp.Ordering.TheVariants.{Less, Equal, Greater}
use Rattle.std.proofs.lemmas.Bool.{cases_Bool}
use Rattle.std.proofs.lemmas.List.Elements.{Contains-append_left, Contains-append_right, Contains-append_cases}
use Rattle.std.proofs.lemmas.List.Sums.{sum_by-cons, sum_by-append}
use Rattle.std.proofs.lemmas.List.Sorted.{Contains-permutation, IsPermutation-sym}
use Rattle.htl_event.specs.Events.{Event}
use Rattle.htl_event.specs.Members.{IsRising, Lists}
use Rattle.htl_event.specs.OrderLaws.{stack_total}
use Rattle.htl_event.specs.Stacks.{stack_cmp}
use Rattle.htl_event.specs.Tallies.{has_stack}
use Rattle.htl_event.specs.Handles.{HaveOwnSequences, IsOpen}
use Rattle.htl_event.specs.declared.since.Since.{Since}
use Rattle.htl_event.specs.declared.since.Since.TheVariants.{Snapshot, Sequence}
use Rattle.htl_event.specs.Sites.{Site, CountsSince, ByProcessAndBase, AreOpenAnywhere, HasHandle, IsSite, MostHandlesFirst}
use Rattle.htl_event.proofs.Members.{Contains-nil, Contains-cases, Contains-here, Contains-map, Contains-from_map}
use Rattle.htl_event.proofs.Members.{Contains-filter, Contains-from_filter}
use Rattle.htl_event.proofs.ComputedSites.{IsSite-unique}
use Rattle.htl_event.proofs.Counts.{count_by-IsPermutation}
use Rattle.htl_event.proofs.Determined.{IsGreatestSequence-unique}
use Rattle.htl_tables.specs.Greatest.{sequence_at}
use Rattle.htl_tables.specs.Keys.{ByKey}
use Rattle.htl_tables.specs.Latest.{HasEvent}
use Rattle.htl_answers.specs.Parts.{AreTablesOf}
use Rattle.htl_answers.specs.RowOrder.{stack_same}
use Rattle.htl_answers.proofs.OpenLemmas.{rising-filter, open_from_latest, latest_from_open}
use Rattle.htl_summary.proofs.Counting.{count_none, count_all, exists_one}
use Rattle.htl_summary.specs.Openers.{Opener, opener_of, opener_cmp, stack_of, start_of, is_counted_open, is_of_stack}
use Rattle.htl_summary.specs.Openers.{IsSiteOfRun, IsSiteOf, AreSitesOf, HavePassed}
use Rattle.htl_summary.proofs.Placed.{rising_snoc}
use Rattle.htl_summary.proofs.Runs.{run_same, after_differs, after_sorted, before_differs, still_differ}

-- ---- open handles of all processes

module _ (events latest : List Event) (marks exits : List (ℕ × ℕ)) (tables : AreTablesOf events latest marks exits)
    (listed : Lists ByKey (HasEvent latest) latest) (own : HaveOwnSequences events) where
  counts_from_start : (since : Option Since) (e : Event) → start_of marks since e.process < e.sequence → CountsSince (Contains events) since e
  counts_from_start None e after = tt
  counts_from_start (Some (Sequence moment)) e after = after
  counts_from_start (Some Snapshot) e after = λ mark is.
      let same = IsGreatestSequence-unique _ mark _ is (tables.mark_at e.process) in omega (arith, same, after)

  start_from_counts : (since : Option Since) (e : Event) → IsOpen (Contains events) e.process e → CountsSince (Contains events) since e
      → start_of marks since e.process < e.sequence
  start_from_counts None e o counts = let above = o.outlives (sequence_at exits e.process) (tables.exit_at e.process) in omega (arith, above)
  start_from_counts (Some (Sequence moment)) e o counts = counts
  start_from_counts (Some Snapshot) e o counts = counts (sequence_at marks e.process) (tables.mark_at e.process)

  -- the latest events that are opens and count are the open handles that count
  pub open_anywhere : (since : Option Since) → AreOpenAnywhere (Contains events) since (filter (is_counted_open marks exits since) latest)
  open_anywhere since = record {
    rising = rising-filter ByProcessAndBase (is_counted_open marks exits since) latest listed.rising;
    members = λ e.
        let p = e.process in
        let start = start_of marks since p in
        let exit = sequence_at exits p in (
          λ h.
              let has = Contains-from_filter (is_counted_open marks exits since) latest e h in
              let o = open_from_latest events p start exit (max start exit) latest (tables.latest_at p) (tables.exit_at p) refl e
              ((listed.members e).0 has.0) has.1 in
              (o.0, counts_from_start since e o.1),
          λ h.
              let has = latest_from_open events p start exit (max start exit) latest (tables.latest_at p) (tables.exit_at p) refl own e h.0
              (start_from_counts since e h.0 h.1) in
              Contains-filter (is_counted_open marks exits since) latest e ((listed.members e).1 has.0) has.1,
        );
  }

-- ---- counts

opener_counts : (stack : List ℕ) (es : List Event) → count_by (is_of_stack stack) (map opener_of es) ≡ count_by (has_stack stack) es
opener_counts stack [] = refl
opener_counts stack (e ∷ es) =
    let others = opener_counts stack es in
    let left = sum_by-cons (λ x. cond (is_of_stack stack x) 1 0) (opener_of e) (map opener_of es) in
    let right = sum_by-cons (λ x. cond (has_stack stack x) 1 0) e es in
    omega (arith, left, right, others)

is_of : (stack : List ℕ) (x : Opener) → x.0 ≡ stack → is_of_stack stack x ≡ true
is_of stack x = (pointwise_decides unsigned_Decides x.0 stack).1

is_of_no : (stack : List ℕ) (x : Opener) → x.0 ≢ stack → is_of_stack stack x ≡ false
is_of_no stack x apart = elim (cases_Bool (is_of_stack stack x)) [
  | inl holds ↦ absurd (apart ((pointwise_decides unsigned_Decides x.0 stack).0 holds))
  | inr fails ↦ fails
]

-- ---- one run more

module _ (openers passed run after : List Opener) (split : openers ≡ passed ++ (run ++ after)) (stack : List ℕ) (some : 0 < length run)
    (before : (x : Opener) → Contains passed x → x.0 ≢ stack) (within : (x : Opener) → Contains run x → x.0 ≡ stack)
    (behind : (x : Opener) → Contains after x → x.0 ≢ stack) where
  -- the run has all openers of the stack
  count_is : count_by (is_of_stack stack) openers ≡ length run
  count_is =
      let p = is_of_stack stack in
      let one : Opener → ℕ = λ x. cond (p x) 1 0 in
      let whole : count_by p openers ≡ count_by p passed + count_by p (run ++ after) = ap (count_by p) split ∙ sum_by-append one passed (run ++ after) in
      let rest : count_by p (run ++ after) ≡ count_by p run + count_by p after = sum_by-append one run after in
      let front = count_none p passed (λ x h. is_of_no stack x (before x h)) in
      let middle = count_all p run (λ x h. is_of stack x (within x h)) in
      let back = count_none p after (λ x h. is_of_no stack x (behind x h)) in
      omega (arith, whole, rest, front, middle, back)

  in_openers : (x : Opener) → Contains run x → Contains openers x
  in_openers x h = subst (λ l. Contains l x) (sym split) (Contains-append_right passed (run ++ after) x (Contains-append_left run after x h))

  in_run : (x : Opener) → x.0 ≡ stack → Contains openers x → Contains run x
  in_run x e h =
      elim (Contains-append_cases passed (run ++ after) x (subst (λ l. Contains l x) split h)) [
        | inl early ↦ absurd (before x early e)
        | inr rest ↦ elim (Contains-append_cases run after x rest) [
          | inl here ↦ here
          | inr late ↦ absurd (behind x late e)
        ]
      ]

  process_in : (p : ℕ) → Contains (map (λ (x : Opener). x.1) run) p ↔ Contains openers (stack, p)
  process_in p = (
    λ h.
        let (x, here, is) = Contains-from_map (λ (y : Opener). y.1) run p h in
        let whole : ◌≡◌ {A = Opener} x (stack, p) = same_opener x.0 stack x.1 p (within x here) is in
        subst (Contains openers) whole (in_openers x here),
    λ h. Contains-map (λ (y : Opener). y.1) run (stack, p) (in_run (stack, p) refl h),
  )
    where
      same_opener : (s t : List ℕ) (m n : ℕ) → s ≡ t → m ≡ n → ◌≡◌ {A = Opener} (s, m) (t, n)
      same_opener s t m n e f = cc

  module _ (site : Site) (of : IsSiteOfRun run site) (is : site.stack ≡ stack) where
    site_is : IsSiteOf openers site
    site_is = record {
      opened = of.opened ∙ sym count_is ∙ ap (λ s. count_by (is_of_stack s) openers) (sym is);
      owners =
          let (processes, lists, number) = of.owners in (
            processes,
            record {
              rising = lists.rising;
              members = λ p. (
                λ h. subst (λ s. Contains openers (s, p)) (sym is) ((process_in p).0 ((lists.members p).0 h)),
                λ h. (lists.members p).1 ((process_in p).1 (subst (λ s. Contains openers (s, p)) is h)),
              );
            },
            number,
          );
    }

  module _ (least : ℕ) (sites : List Site) (so_far : AreSitesOf openers passed least sites) where
    first : (x : Opener) × Contains run x
    first = first_of run some
      where
        first_of : (xs : List Opener) → 0 < length xs → (x : Opener) × Contains xs x
        first_of [] lt = absurd (omega (arith, lt))
        first_of (x ∷ xs) lt = (x, Contains-here x xs)

    -- with the run's site, they are the sites of one run more
    pub site_added : (site : Site) → IsSiteOfRun run site → site.stack ≡ stack → least ≤ length run
        → AreSitesOf openers (passed ++ run) least (sites ++ site ∷ [])
    site_added site of is many = record {
      apart = rising_snoc _ sites site so_far.apart (λ other h e.
          let (of_other, many_of, (p, there)) = so_far.each other h in before (other.stack, p) there (e ∙ is));
      each = λ other h. elim (Contains-append_cases sites (site ∷ []) other h) [
        | inl old ↦
            let (of_other, many_of, (p, there)) = so_far.each other old in
            (of_other, many_of, (p, Contains-append_left passed run (other.stack, p) there))
        | inr new ↦ elim (Contains-cases site [] other new) [
          | inl same ↦ subst (λ (s : Site). IsSiteOf openers s × ((0 < s.handles) × (least ≤ s.handles)) × ((p : ℕ) × Contains (passed ++ run) (s.stack, p)))
              same (site_is site of is, here, opener_there)
          | inr none ↦ absurd (Contains-nil other none)
        ]
      ];
      all = λ x h enough. elim (Contains-append_cases passed run x h) [
        | inl old ↦ let (other, there, its) = so_far.all x old enough in (other, Contains-append_left sites (site ∷ []) other there, its)
        | inr new ↦ (site, Contains-append_right sites (site ∷ []) site (Contains-here site []), is ∙ sym (within x new))
      ];
    }
      where
        here : (0 < site.handles) × (least ≤ site.handles)
        here = let number = of.opened in (omega (arith, number, some), omega (arith, number, many))

        opener_there : (p : ℕ) × Contains (passed ++ run) (site.stack, p)
        opener_there = let (x, at) = first in (
          x.1,
          Contains-append_right passed run (site.stack, x.1) (subst (λ s. Contains run (s, x.1)) (within x at ∙ sym is) at),
        )

    -- and without it, where it has fewer handles
    pub site_left_out : length run < least → AreSitesOf openers (passed ++ run) least sites
    site_left_out few = record {
      apart = so_far.apart;
      each = λ site h.
          let (of_site, many_of, (p, there)) = so_far.each site h in
          (of_site, many_of, (p, Contains-append_left passed run (site.stack, p) there));
      all = λ x h enough. elim (Contains-append_cases passed run x h) [
        | inl old ↦ so_far.all x old enough
        | inr new ↦
            let number : count_by (is_of_stack x.0) openers ≡ length run = ap (λ s. count_by (is_of_stack s) openers) (within x new) ∙ count_is in
            absurd (omega (arith, number, few, enough))
      ];
    }

-- ---- all runs

no_opener : Opener
no_opener = ([], 0)

-- the two have one stack
abbrev pub same_stack : Opener → Opener → Bool
same_stack x y = pointwise nat_eq x.0 y.0

module _ (openers rest run after : List Opener) (least : ℕ) (sites : List Site) (so_far : HavePassed openers rest least sites)
    (is : rest ≡ run ++ after) (some : 0 < length run) (prefix : IsChunkByPrefix same_stack rest (length run)) where
  abbrev passed : List Opener
  passed = so_far.passed

  parted : openers ≡ passed ++ (run ++ after)
  parted = so_far.split ∙ ap (λ l. passed ++ l) is

  -- the stack of the run
  abbrev stack : List ℕ
  stack = (get_or run 0 no_opener).0

  before : (x : Opener) → Contains passed x → x.0 ≢ stack
  before = before_differs stack_of stack_total stack_same (pointwise nat_eq) (pointwise_decides unsigned_Decides)
      rest run after so_far.sorted is some prefix passed so_far.differ no_opener

  within : (x : Opener) → Contains run x → x.0 ≡ stack
  within = run_same stack_of stack_total stack_same (pointwise nat_eq) (pointwise_decides unsigned_Decides)
      rest run after so_far.sorted is some prefix no_opener

  behind : (x : Opener) → Contains after x → x.0 ≢ stack
  behind = after_differs stack_of stack_total stack_same (pointwise nat_eq) (pointwise_decides unsigned_Decides)
      rest run after so_far.sorted is some prefix no_opener

  passed_with : (more : List Site) → AreSitesOf openers (passed ++ run) least more → HavePassed openers after least more
  passed_with more are = record {
    sorted = after_sorted stack_of stack_total stack_same (pointwise nat_eq) (pointwise_decides unsigned_Decides)
        rest run after so_far.sorted is some prefix;
    passed = passed ++ run;
    split = parted ∙ sym (append_assoc passed run after);
    differ = still_differ stack_of stack_total stack_same (pointwise nat_eq) (pointwise_decides unsigned_Decides)
        rest run after so_far.sorted is some prefix passed so_far.differ no_opener;
    are = are;
  }

  -- the site of a run with enough handles is one of the sites
  pub run_added : (site : Site) → IsSiteOfRun run site → least ≤ length run → HavePassed openers after least (sites ++ site ∷ [])
  run_added site of many =
      passed_with (sites ++ site ∷ [])
      (site_added openers passed run after parted stack some before within behind least sites so_far.are site of (of.first no_opener) many)

  -- and one with fewer gives none
  pub run_left_out : length run < least → HavePassed openers after least sites
  run_left_out few =
      passed_with sites (site_left_out openers passed run after parted stack some before within behind least sites so_far.are few)

-- an opener that doesn't come before another has no lower stack
no_lower : (x y : Opener) → is_lt (opener_cmp x y) ≡ false → is_lt (stack_cmp x.0 y.0) ≡ false
no_lower x y = by (stack_cmp x.0 y.0)
  where
    by : (r : Ordering) → is_lt (ordering_then r (nat_cmp x.1 y.1)) ≡ false → is_lt r ≡ false
    by Less e = e
    by Equal e = refl
    by Greater e = refl

-- before the first run there are no sites
pub none_passed : (openers : List Opener) (least : ℕ) → IsSorted opener_cmp openers → HavePassed openers openers least []
none_passed openers least sorted = record {
  sorted = λ k d low high. no_lower (get_or openers (k + 1) d) (get_or openers k d) (sorted k d low high);
  passed = [];
  split = refl;
  differ = λ x y h. absurd (Contains-nil x h);
  are = record {
    apart = tt;
    each = λ site h. absurd (Contains-nil site h);
    all = λ x h. absurd (Contains-nil x h);
  };
}

-- after the last one the sites are those of all openers
pub all_passed : (openers rest : List Opener) (least : ℕ) (sites : List Site) → HavePassed openers rest least sites → length rest ≡ 0
    → AreSitesOf openers openers least sites
all_passed openers [] least sites so_far none =
    subst (λ l. AreSitesOf openers l least sites) (sym (so_far.split ∙ append-nil so_far.passed)) so_far.are
all_passed openers (x ∷ rest) least sites so_far none = absurd (omega (arith, none))

-- ---- all sites

module _ (handles : List Event) (openers : List Opener) (moved : IsPermutation (map opener_of handles) openers) where
  count_same : (stack : List ℕ) → count_by (is_of_stack stack) openers ≡ count_by (has_stack stack) handles
  count_same stack = sym (count_by-IsPermutation (is_of_stack stack) (map opener_of handles) openers moved) ∙ opener_counts stack handles

  handle_of : (stack : List ℕ) (p : ℕ) → Contains openers (stack, p) ↔ HasHandle handles stack p
  handle_of stack p = (
    λ h.
        let (e, here, is) = Contains-from_map opener_of handles (stack, p)
        (Contains-permutation openers (map opener_of handles) (stack, p) (IsPermutation-sym (map opener_of handles) openers moved) h) in
        (e, here, ap (λ (x : Opener). x.1) is, ap (λ (x : Opener). x.0) is),
    λ h.
        let (e, here, owner, its) = h in
        subst (Contains openers) (same_opener e.stack stack e.process p its owner)
        (Contains-permutation (map opener_of handles) openers (opener_of e) moved (Contains-map opener_of handles e here)),
  )
    where
      same_opener : (s t : List ℕ) (m n : ℕ) → s ≡ t → m ≡ n → ◌≡◌ {A = Opener} (s, m) (t, n)
      same_opener s t m n e f = cc

  site_of_handles : (site : Site) → IsSiteOf openers site → IsSite handles site
  site_of_handles site of = record {
    opened = of.opened ∙ count_same site.stack;
    owners =
        let (processes, lists, number) = of.owners in (
          processes,
          record {
            rising = lists.rising;
            members = λ p. (
              λ h. (handle_of site.stack p).0 ((lists.members p).0 h),
              λ h. (lists.members p).1 ((handle_of site.stack p).1 h),
            );
          },
          number,
        );
  }

  -- sorted sites of all openers are the sites of the handles
  pub sites_listed : (least : ℕ) (sites ordered : List Site) → AreSitesOf openers openers least sites → IsRising MostHandlesFirst ordered
      → ((site : Site) → Contains ordered site ↔ Contains sites site)
      → Lists MostHandlesFirst (λ site. IsSite handles site × ((0 < site.handles) × (least ≤ site.handles))) ordered
  sites_listed least sites ordered are rising members = record {
    rising = rising;
    members = λ site. (
      λ h. let (of_site, many_of, some_of) = are.each site ((members site).0 h) in (site_of_handles site of_site, many_of),
      λ h.
          let of = h.0.opened in
          let some : 0 < count_by (has_stack site.stack) handles = (let more = h.1.0 in omega (arith, of, more)) in
          let (e, here, its) = exists_one (has_stack site.stack) handles some in
          let stack : e.stack ≡ site.stack = (pointwise_decides unsigned_Decides e.stack site.stack).0 its in
          let opener = Contains-permutation (map opener_of handles) openers (opener_of e) moved (Contains-map opener_of handles e here) in
          let number : count_by (is_of_stack e.stack) openers ≡ site.handles = count_same e.stack ∙ ap (λ s. count_by (has_stack s) handles) stack ∙ sym of in
          let many : least ≤ count_by (is_of_stack e.stack) openers = (let more = h.1.1 in omega (arith, number, more)) in
          let (found, there, same) = are.all (opener_of e) opener many in
          let is : found ≡ site = IsSite-unique handles found site (same ∙ stack) (site_of_handles found (are.each found there).0) h.0 in
          (members site).1 (subst (Contains sites) is there),
    );
  }
