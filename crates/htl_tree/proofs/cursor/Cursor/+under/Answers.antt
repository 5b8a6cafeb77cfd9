-- What a path finds is what the rest of it finds one frame further in.
use Rattle.std.proofs.Common.{rules, ◌≡◌, ◌<◌, ◌^◌, [], sym, ap, ◌∙◌, subst, refl}
use Rattle.std.proofs.lemmas.List.{nil_from_length}
use Rattle.htl_event.specs.Tallies.{total_of}
use Rattle.htl_tree.specs.Nodes.{inside, position_of, at_child, sum_under, IsNormal}
use Rattle.htl_tree.proofs.CountAdded.{normal_child, normal_inside}
use Rattle.htl_tree.proofs.Under.{under_node, sum_inside}
use Rattle.htl_tree.proofs.cursor.Cursor.+under.Goals as goal

pub sum-requires-clause-normal : goal.sum-requires-clause-normal
sum-requires-clause-normal g t c = normal_inside c.args.self.now.frames.now c.args.self.now.node.now c.requires.normal

pub sum-requires-clause-fits : goal.sum-requires-clause-fits
sum-requires-clause-fits g t c =
    let here : sum_under c.args.path.now c.args.slot (position_of c.args.self.now) ≡ sum_under [] c.args.slot (inside c.args.self.now.node.now) =
    ap (λ p. sum_under p c.args.slot (position_of c.args.self.now)) (nil_from_length c.args.path.now c.in-None.ensures.cases)
    ∙ sum_inside c.args.slot c.args.self.now.frames.now c.args.self.now.node.now in
    subst (λ d. total_of d < 2 ^ 64) here c.requires.fits

pub under-requires : goal.under-requires
under-requires g t c κs within =
    let n = position_of c.args.self.now in
    let k = position_of c.in-Some-child.child in
    let normal : IsNormal k = normal_child n c.requires.normal c.in-Some.frame.now k c.in-Some-child.ensures.some in
    let deeper : sum_under c.args.path.now c.args.slot n ≡ sum_under c.in-Some.rest.now c.args.slot k =
    ap (λ p. sum_under p c.args.slot n) c.in-Some.ensures.cases.0
    ∙ under_node c.args.slot n c.requires.normal c.in-Some.frame.now c.in-Some.rest.now
    ∙ ap (at_child (λ j. sum_under c.in-Some.rest.now c.args.slot j)) c.in-Some-child.ensures.some in
    let fits : total_of (sum_under c.in-Some.rest.now c.args.slot k) < 2 ^ 64 = subst (λ d. total_of d < 2 ^ 64) deeper c.requires.fits in
    search rules

pub returns-in-None : goal.returns-in-None
returns-in-None g t c = c.sum.ensures ∙ sym (
    ap (λ p. sum_under p c.args.slot (position_of c.args.self.now)) (nil_from_length c.args.path.now c.in-None.ensures.cases)
    ∙ sum_inside c.args.slot c.args.self.now.frames.now c.args.self.now.node.now)

pub returns-in-Some-child : goal.returns-in-Some-child
returns-in-Some-child g t c =
    let n = position_of c.args.self.now in
    c.under.ensures ∙ sym (ap (λ p. sum_under p c.args.slot n) c.in-Some.ensures.cases.0
    ∙ under_node c.args.slot n c.requires.normal c.in-Some.frame.now c.in-Some.rest.now
    ∙ ap (at_child (λ j. sum_under c.in-Some.rest.now c.args.slot j)) c.in-Some-child.ensures.some)

pub returns-in-None-child : goal.returns-in-None-child
returns-in-None-child g t c =
    let n = position_of c.args.self.now in
    sym (ap (λ p. sum_under p c.args.slot n) c.in-Some.ensures.cases.0
    ∙ under_node c.args.slot n c.requires.normal c.in-Some.frame.now c.in-Some.rest.now
    ∙ ap (at_child (λ j. sum_under c.in-Some.rest.now c.args.slot j)) (c.in-None-child.ensures.none refl))
