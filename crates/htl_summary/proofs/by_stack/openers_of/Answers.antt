-- An event more is an opener where it opened a handle that is open and counts, and is left out where not.
use Rattle.std.proofs.Common.{◌≡◌, ◌+◌, ◌<◌, ◌≤◌, [], ◌∷◌, ◌++◌, List, length, get_or, map, take, sym, ap, subst, ◌∙◌, refl, rules}
use Rattle.std.specs.Prelude.{filter}
use Rattle.std.proofs.lemmas.List.{map-append, take_all}
use Rattle.htl_event.specs.Events.{Event}
use Rattle.htl_event.specs.Members.{Lists}
use Rattle.htl_tables.specs.Keys.{ByKey}
use Rattle.htl_tables.specs.Latest.{HasEvent}
use Rattle.htl_answers.proofs.Filters.{one_added, none_added}
use Rattle.htl_summary.proofs.SiteRows.{open_anywhere}
use Rattle.htl_summary.specs.Openers.{opener_of, is_counted_open}
use Rattle.htl_summary.proofs.by_stack.openers_of.Goals as goal
use Rattle.htl_summary.proofs.by_stack.openers_of.Goals.{then-is_counted_open+in_ok-copy+in_ok-push, else-is_counted_open}

pub loop-event-preserved : goal.loop-event-preserved
loop-event-preserved g c =
    let tables = c.args.tables.now in
    let latest = tables.latest in
    let test = is_counted_open tables.marks tables.exits c.args.since in
    let i = c.loop-event.event-index in
    let e = c.event-item.result in
    let so_far = filter test (take i latest) in
    let old : List Event = [] in
    let value = c.rows-event-items.ensures.value in
    let lt : i < length latest = subst (λ (rows : List Event). i < length rows) value c.loop-event-test.true in
    let is : e ≡ get_or latest i e = subst (λ (rows : List Event). e ≡ get_or rows i e) value c.event-item.is in
    elim c.if-is_counted_open.branch [
      | then-is_counted_open+in_ok-copy+in_ok-push w ↦
          let kept : so_far ++ e ∷ [] ≡ filter test (take (i + 1) latest) = one_added test old latest i e lt is so_far (so_far ++ e ∷ []) refl
          (sym c.is_counted_open.ensures ∙ w.if-is_counted_open.true) refl in
          let more = sym (map-append opener_of so_far (e ∷ [])) ∙ ap (map opener_of) kept in
          rw (w.openers-is, w.in_ok-push.ensures.items, w.in_ok-copy.ensures, c.loop-event.invariant) more
      | else-is_counted_open w ↦
          let kept : so_far ≡ filter test (take (i + 1) latest) = none_added test old latest i e lt is so_far refl
          (sym c.is_counted_open.ensures ∙ w.if-is_counted_open.false) in
          rw (w.openers-is, c.loop-event.invariant) (ap (map opener_of) kept)
    ]

pub returns : goal.returns
returns g c = λ events own are.
    let tables = c.args.tables.now in
    let test = is_counted_open tables.marks tables.exits c.args.since in
    let handles = filter test tables.latest in
    let value = c.rows-event-items.ensures.value in
    let listed : Lists ByKey (HasEvent tables.latest) tables.latest =
    subst (λ (rows : List Event). Lists ByKey (HasEvent tables.latest) rows) value c.rows-event-items.ensures.listed in
    let i = c.loop-event.event-index in
    let past : length c.rows-event-items.result.now ≤ i = search rules in
    let end : length tables.latest ≤ i = subst (λ (rows : List Event). length rows ≤ i) value past in
    let all : c.loop-event.openers.items ≡ map opener_of handles =
    c.loop-event.invariant ∙ ap (λ rows. map opener_of (filter test rows)) (take_all i tables.latest end) in
    (handles, open_anywhere events tables.latest tables.marks tables.exits are listed own c.args.since, all)
