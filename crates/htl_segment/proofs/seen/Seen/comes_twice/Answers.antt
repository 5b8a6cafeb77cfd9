-- A number came twice where two stand apart, or one stands apart and has a mark.
use Rattle.std.proofs.Common.{sym, ◌∙◌}
use Rattle.htl_segment.proofs.SeenLaws.{marked_and_apart, once_each, told_once, told_twice, twice_apart}
use Rattle.htl_segment.proofs.seen.Seen.comes_twice.Goals as goal

pub returns-then-is_some-clause-twice : goal.returns-then-is_some-clause-twice
returns-then-is_some-clause-twice c = λ numbers saw is.
    let sorted = c.sort.new.numbers.items in
    let two = told_twice sorted c.first_repeated.result (rw c.deref.ensures.value at c.first_repeated.ensures)
    (sym c.is_some.ensures ∙ c.if-is_some.true) in
    twice_apart c.args.self.marks.items c.args.self.apart.items sorted numbers two.0 c.sort.ensures.moved (saw.counted c.if-self.false) two.1

pub returns-clause-once : goal.returns-clause-once
returns-clause-once c = λ numbers saw is.
    let sorted = c.sort.new.numbers.items in
    once_each c.args.self.marks.items c.args.self.apart.items sorted numbers c.sort.ensures.moved (saw.counted c.if-self.false)
    (told_once sorted c.first_repeated.result (rw c.deref.ensures.value at c.first_repeated.ensures)
    (sym c.is_some.ensures ∙ c.if-is_some.false))
    (rw (c.deref-2.ensures.value, c.deref-3.ensures.value) at (sym c.any_marked.ensures ∙ is))

pub returns-clause-twice : goal.returns-clause-twice
returns-clause-twice c = λ numbers saw is.
    marked_and_apart c.args.self.marks.items c.args.self.apart.items c.sort.new.numbers.items numbers c.sort.ensures.moved
    (saw.counted c.if-self.false) (rw (c.deref-2.ensures.value, c.deref-3.ensures.value) at (sym c.any_marked.ensures ∙ is))
