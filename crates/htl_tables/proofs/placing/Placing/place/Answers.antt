-- The event takes the last free place, or it is joined with the last older row.
use Rattle.std.proofs.Common.{rules, true, false, ◌≡◌, ◌≢◌, ◌-◌, ◌<◌, take, arith, sym, ◌∙◌}
use Rattle.std.specs.declared.cmp.Ordering.TheVariants.{Less, Equal}
use Rattle.htl_tables.specs.Keys.{key_of}
use Rattle.htl_tables.specs.Placing.{compare_last}
use Rattle.htl_tables.proofs.PlacingSteps.{met_older, met_newer, put_free, some_last, only_less}
use Rattle.htl_tables.proofs.placing.Placing.place.Goals as goal

pub returns-then-index-event : goal.returns-then-index-event
returns-then-index-event g c = λ target left before.
    let rows = c.args.self.now.rows.items in
    let older = c.args.self.now.older in
    let end = c.args.self.now.end in
    let e = c.args.event in
    let y = c.index.result.now in
    let same : compare_last (take older rows) (key_of e) ≡ Equal = search rules in
    let some : 0 < older = some_last rows older (key_of e) (λ less. let never : Equal ≡ Less = sym same ∙ less in cc) in
    let le = c.requires.older in
    let there = rw c.swap.ensures.items at c.index.ensures in
    rw c.swap.ensures.items (met_newer target left rows older end (end - 1) e before (omega (arith, some, le)) (older - 1)
    (omega (arith, some)) same y there c.if-index-event.true)

pub returns-else-index-event : goal.returns-else-index-event
returns-else-index-event g c = λ target left before.
    let rows = c.args.self.now.rows.items in
    let older = c.args.self.now.older in
    let end = c.args.self.now.end in
    let e = c.args.event in
    let y = c.index.result.now in
    let same : compare_last (take older rows) (key_of e) ≡ Equal = search rules in
    let some : 0 < older = some_last rows older (key_of e) (λ less. let never : Equal ≡ Less = sym same ∙ less in cc) in
    let le = c.requires.older in
    let there = rw c.swap.ensures.items at c.index.ensures in
    rw c.swap.ensures.items (met_older target left rows older end (end - 1) e before (omega (arith, some, le)) (older - 1)
    (omega (arith, some)) same y there c.if-index-event.false)

pub returns-else-eq : goal.returns-else-eq
returns-else-eq g c = λ target left before.
    let rows = c.args.self.now.rows.items in
    let older = c.args.self.now.older in
    let end = c.args.self.now.end in
    let e = c.args.event in
    let compared : c.compare_last-compared.result ≡ compare_last (take older rows) (key_of e) = search rules in
    let other : compare_last (take older rows) (key_of e) ≢ Equal =
    λ same. (let is : c.compare_last-compared.result ≡ Equal = compared ∙ same in let yes : c.eq.result ≡ true = rw is at c.eq.ensures in
    let never : true ≡ false = sym yes ∙ c.if-eq.false in cc) in
    let less : compare_last (take older rows) (key_of e) ≡ Less =
    only_less (compare_last (take older rows) (key_of e)) c.requires.none_above other in
    let room : older < end = c.requires.room other in
    put_free target left rows older end (end - 1) e before (omega (arith, room)) less
