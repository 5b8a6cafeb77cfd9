-- The keeper takes the segments of one list more.
use Rattle.std.proofs.Common.{◌≡◌, []}
use Rattle.std.proofs.lemmas.List.Elements.{All-nil, All-push}
use Rattle.htl_segment.specs.declared.keeper.Segments.{Segments}
use Rattle.htl_reading.proofs.RoundLaws.{took_list, took_nothing}
use Rattle.htl_reading.proofs.rounds.take_lists.Goals as goal

pub loop-segments-init : goal.loop-segments-init
loop-segments-init g c = record {
  taken = λ none bytes empty took. took_nothing g.K.Keeper.gathers c.args.keeper.now bytes took;
  emptied = rw (c.in_ok-emptied.ensures.items) (All-nil (λ (keeper : Segments). keeper.list.items ≡ []));
}

pub loop-segments-preserved : goal.loop-segments-preserved
loop-segments-preserved g c = record {
  taken = λ none bytes empty took.
      took_list g.K.Keeper.gathers c.args.keeper.now c.loop-segments.keeper c.take_list.new.keeper none empty c.loop-segments.yielded
      c.in-Some.segments (λ bytes took. c.loop-segments.invariant.taken none bytes empty took) c.in_ok-take_list.ensures bytes took;
  emptied = rw (c.in_ok-push.ensures.items) (All-push (λ (keeper : Segments). keeper.list.items ≡ []) c.loop-segments.emptied.items _
      c.loop-segments.invariant.emptied c.new.ensures.items);
}
