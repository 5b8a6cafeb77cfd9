-- The number of rows at the front tells whether the bytes can hold them.
use Rattle.htl_state.proofs.Steps.{list_short, list_over, list_goes}
use Rattle.htl_state.proofs.row.read_list.Goals as goal

pub returns-then-bytes-lt8 : goal.returns-then-bytes-lt8
returns-then-bytes-lt8 g c =
    list_short g.R.Row.format c.args.setting c.args.bytes.now c.at.result c.if-bytes-lt8.true c.at.ensures

pub returns-then-rest-least : goal.returns-then-rest-least
returns-then-rest-least g c =
    list_over g.R.Row.format c.args.setting c.args.bytes.now c.behind-rest.result.now c.u64_at-count.result c.least.result
    c.at-then-rest-least.result c.if-bytes-lt8.false c.behind-rest.ensures c.u64_at-count.ensures c.least.ensures.value c.if-rest-least.true
    c.at-then-rest-least.ensures

pub returns : goal.returns
returns g c =
    rw (list_goes g.R.Row.format c.args.setting c.args.bytes.now c.behind-rest.result.now c.u64_at-count.result c.least.result
    c.if-bytes-lt8.false c.behind-rest.ensures c.u64_at-count.ensures c.least.ensures.value c.if-rest-least.false)
    c.read_rows.ensures
