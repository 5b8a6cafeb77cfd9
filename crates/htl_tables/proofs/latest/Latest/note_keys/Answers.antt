-- The keys of each block follow those that were noted before.
use Rattle.std.proofs.Common.{◌≡◌, ◌+◌, ◌++◌, length, Contains, sym, ap, subst, ◌∙◌, arith, rules}
use Rattle.std.proofs.lemmas.List.{length-append}
use Rattle.std.proofs.lemmas.List.Elements.{Contains-append_left, Contains-append_right}
use Rattle.std.specs.Slice.Iter.{chunks_rest}
use Rattle.htl_tables.specs.Latest.{event_at}
use Rattle.htl_tables.specs.OfProcess.{touches}
use Rattle.htl_tables.specs.FirstKeys.{StandFrom, HaveFirstKeys}
use Rattle.htl_tables.proofs.ChosenKeys.{touches-opens}
use Rattle.htl_tables.proofs.FirstKeys.{run_noted}
use Rattle.htl_tables.proofs.KeyRuns.{first_stand, rest_stand}
use Rattle.htl_tables.proofs.latest.Latest.note_keys.Goals as goal

pub loop-block-init : goal.loop-block-init
loop-block-init g c =
    let whole : chunks_rest c.into_iter-block-iterator.result ≡ c.args.keys.now = search rules in (
      search rules,
      tt,
      (λ k here. c.requires k (subst (λ keys. Contains keys k) whole here)),
      (λ all n are sorted stand before. (n, ap (λ keys. n + length keys) whole, subst (StandFrom all n) (sym whole) stand, before)),
    )

pub events_of-requires : goal.events_of-requires
events_of-requires g c = λ k here.
    let block = c.in-Some.block.now in
    let rest = chunks_rest c.next.new.self in
    c.loop-block.invariant.2 k
    (subst (λ keys. Contains keys k) (sym c.in-Some.ensures.steps.1.0) (Contains-append_left block rest k here))

pub loop-block-preserved : goal.loop-block-preserved
loop-block-preserved g c =
    let block = c.in-Some.block.now in
    let rest = chunks_rest c.next.new.self in
    let is = c.in-Some.ensures.steps.1.0 in (
      search rules,
      tt,
      (λ k here. c.loop-block.invariant.2 k (subst (λ keys. Contains keys k) (sym is) (Contains-append_right block rest k here))),
      (λ all n are sorted stand before.
          let so_far = c.loop-block.invariant.3 all n are sorted stand before in
          let m = so_far.0 in
          let stands : StandFrom all m (block ++ rest) = subst (StandFrom all m) is so_far.2 in
          let sum = so_far.1 in
          let len = ap length is ∙ length-append block rest in (
            m + length block,
            omega (arith, sum, len),
            rest_stand all m block rest stands,
            λ process base. rw (c.in_ok-note_each.ensures process base, c.deref.ensures.value)
                (run_noted g.R.EventList.events_of c.args.lists.now (touches c.args.chosen) all process base (touches-opens c.args.chosen)
                are sorted m block c.in_ok-events.events.items (first_stand all m block rest stands) c.in_ok-events.ensures.each
                c.in_ok-events.ensures.all (event_at c.loop-block.self process base) (so_far.3 process base)),
          )),
    )

pub returns : goal.returns
returns g c = λ all n are sorted stand before.
    let so_far = c.loop-block.invariant.3 all n are sorted stand before in
    let sum = so_far.1 in
    let none = c.in-None.ensures.steps.1.0 in
    let all_noted : so_far.0 ≡ n + length c.args.keys.now = omega (arith, sum, none) in
    subst (λ m. HaveFirstKeys g.R.EventList.events_of c.args.lists.now (touches c.args.chosen) all m c.loop-block.self) all_noted so_far.3
