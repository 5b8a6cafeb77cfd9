-- The sorted changes and exits give the outstanding handles as of each moment.
use Rattle.std.proofs.Common.{◌≡◌, ℕ, sym, ap, subst, ◌∙◌}
use Rattle.std.specs.Prelude.{◌↔◌, Contains, flat_map}
use Rattle.std.specs.List.{filter_map}
use Rattle.std.specs.List.Sorted.{IsNonDecreasing, IsPermutation}
use Rattle.std.proofs.lemmas.List.Sorted.{IsNonDecreasingBy-from_sort, Contains-permutation, IsPermutation-sym}
use Rattle.htl_event.specs.Moments.{events_until}
use Rattle.htl_event.specs.Summaries.{HasOutstanding}
use Rattle.htl_answers.specs.declared.lives.Change.{Change}
use Rattle.htl_answers.specs.Lives.{changes_of, exits_of, start_of, ends_of}
use Rattle.htl_answers.proofs.LifeLemmas.{number_at-on, in_order}
use Rattle.htl_answers.proofs.OpenLives.{has_outstanding}
use Rattle.htl_answers.proofs.lives.lives_of.Goals as goal

pub ends_of-requires : goal.ends_of-requires
ends_of-requires g c =
    subst IsNonDecreasing (sym c.deref-3.ensures.value) (IsNonDecreasingBy-from_sort (λ x. x) _ c.sort_unstable.ensures.sorted)

pub returns-clause-ordered : goal.returns-clause-ordered
returns-clause-ordered g c =
    let changes = c.put_in_order.new.rows.items in
    let exits = c.sort_unstable.new.self.items in
    let starts = c.sort_unstable-2.new.self.items in
    let ends = c.sort_unstable-3.new.self.items in
    let started : c.in_ok-starts.starts.items ≡ filter_map start_of changes = c.in_ok-starts.ensures
    ∙ ap (filter_map start_of) c.deref.ensures.value in
    let ended : c.in_ok-ends.ends.items ≡ ends_of exits changes = c.in_ok-ends.ensures
    ∙ ap (λ l. ends_of l c.deref-2.result.now) c.deref-3.ensures.value ∙ ap (ends_of exits) c.deref-2.ensures.value in
    in_order changes c.put_in_order.ensures.rising exits (IsNonDecreasingBy-from_sort (λ x. x) exits c.sort_unstable.ensures.sorted)
    starts ends (subst (λ l. IsPermutation l starts) started c.sort_unstable-2.ensures.permutation)
    (subst (λ l. IsPermutation l ends) ended c.sort_unstable-3.ensures.permutation)
    (IsNonDecreasingBy-from_sort (λ x. x) starts c.sort_unstable-2.ensures.sorted)
    (IsNonDecreasingBy-from_sort (λ x. x) ends c.sort_unstable-3.ensures.sorted)

pub returns-clause-number : goal.returns-clause-number
returns-clause-number g c = λ own m.
    let events = flat_map g.E.EventList.events_of c.args.lists.now in
    let process = c.args.process in
    let changes = c.put_in_order.new.rows.items in
    let exits = c.sort_unstable.new.self.items in
    let starts = c.sort_unstable-2.new.self.items in
    let ends = c.sort_unstable-3.new.self.items in
    let rising = c.put_in_order.ensures.rising in
    let rise = IsNonDecreasingBy-from_sort (λ x. x) exits c.sort_unstable.ensures.sorted in
    let started : c.in_ok-starts.starts.items ≡ filter_map start_of changes = c.in_ok-starts.ensures
    ∙ ap (filter_map start_of) c.deref.ensures.value in
    let ended : c.in_ok-ends.ends.items ≡ ends_of exits changes = c.in_ok-ends.ensures
    ∙ ap (λ l. ends_of l c.deref-2.result.now) c.deref-3.ensures.value ∙ ap (ends_of exits) c.deref-2.ensures.value in
    let all : (change : Change) → Contains changes change ↔ Contains (changes_of process events) change =
    rw c.in_ok-turns.ensures.changes at c.put_in_order.ensures.members in
    let moved : IsPermutation (exits_of process events) exits =
    subst (λ l. IsPermutation l exits) c.in_ok-turns.ensures.exits c.sort_unstable.ensures.permutation in
    let each : (n : ℕ) → Contains exits n ↔ Contains (exits_of process events) n =
    λ n. (
      Contains-permutation exits (exits_of process events) n (IsPermutation-sym (exits_of process events) exits moved),
      Contains-permutation (exits_of process events) exits n moved,
    ) in
    subst (HasOutstanding (events_until m events) process)
    (sym (number_at-on changes rising exits rise starts ends
    (subst (λ l. IsPermutation l starts) started c.sort_unstable-2.ensures.permutation)
    (subst (λ l. IsPermutation l ends) ended c.sort_unstable-3.ensures.permutation) m))
    (has_outstanding process events own changes all exits rise each m rising)
