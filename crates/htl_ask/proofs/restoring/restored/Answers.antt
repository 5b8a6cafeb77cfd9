-- The states of the names are merged one after the other; the first that is refused ends that, and is reported by its place.
use Rattle.std.proofs.Common.{◌≡◌, false, map, refl, rules, string_bytes, take}
use Rattle.htl_world.proofs.Names.{name_at}
use Rattle.htl_ask.proofs.RestoringLaws.{all_names, ends_reading, next_name, none_restored, one_refused, one_restored}
use Rattle.htl_ask.proofs.restoring.restored.Goals as goal

pub loop-place-init : goal.loop-place-init
loop-place-init g c = record {
  so_far = none_restored (g.W.World.state c.args.world.now) c.none-folded.result c.none-folded.ensures.analyst;
}

pub loop-place-preserved : goal.loop-place-preserved
loop-place-preserved g c =
    let names = map string_bytes c.args.names.now in
    let place = c.loop-place.place in
    let name = c.deref.result.now in
    let same : name ≡ string_bytes c.index-names-place.result = search rules in
    let here = name_at c.args.names.now place c.index-names-place.result name c.loop-place-test.true c.index-names-place.is same in
    let setting = record (c.args.setting) { complete = false } in
    record {
      so_far = rw (next_name names place name here) (one_restored (g.W.World.state c.args.world.now) (g.W.World.state c.loop-place.world)
          (g.W.World.state c.merge_named.new.world) (take place names) setting name c.loop-place.folded c.merge_named.new.folded _
          c.loop-place.invariant.so_far c.in_default.ensures.merged c.in_default.ensures.asked);
    }

pub returns-in-Err : goal.returns-in-Err
returns-in-Err g c =
    let names = map string_bytes c.args.names.now in
    let place = c.loop-place.place in
    let name = c.deref.result.now in
    let same : name ≡ string_bytes c.index-names-place.result = search rules in
    let here = name_at c.args.names.now place c.index-names-place.result name c.loop-place-test.true c.index-names-place.is same in
    let old = g.W.World.state c.args.world.now in
    let mid = g.W.World.state c.loop-place.world in
    let so_far = c.loop-place.invariant.so_far in
    let new = g.W.World.state c.merge_named.new.world in
    let setting = record (c.args.setting) { complete = false } in
    let fault = c.in-Err.fault in
    rw (c.half_known.ensures.fault, c.placed.ensures) (record {
      told = λ states. tt;
      states = tt;
      fit = λ states. tt;
      refused = λ states. one_refused old mid new names place setting name c.loop-place.folded c.merge_named.new.folded here so_far fault refl
          c.in-Err.ensures.merged states;
      between = rw (c.half_known.ensures.fault, c.placed.ensures) at c.half_known.ensures.between;
      asked = ends_reading old mid new names place setting name c.loop-place.folded c.merge_named.new.folded here so_far fault c.in-Err.ensures.asked;
    })

pub returns : goal.returns
returns g c =
    let so_far = rw (all_names c.args.names.now c.loop-place.place c.loop-place-test.false) at c.loop-place.invariant.so_far in
    record {
      told = so_far.told;
      states = so_far.are;
      fit = so_far.fit;
      refused = λ states. tt;
      between = tt;
      asked = so_far.asked;
    }
