-- The segment is one of the case, which the analyst is right about, so only memory is wanting.
use Rattle.std.proofs.Common.{◌≡◌, ◌<◌, ℕ, List, Some, length, get_or, rules, sym, ap, ◌∙◌, subst}
use Rattle.std.specs.Prelude.{Contains, slice_get}
use Rattle.std.proofs.lemmas.Option.{slice_get-get_or}
use Rattle.htl_segment.specs.Content.{Content}
use Rattle.htl_case.proofs.playing.take.Goals.{in-Ok, in-Err-NoMemory-default}
use Rattle.htl_case.proofs.playing.take.Goals as goal

-- an item that is read is a member
read_there : (ss read : List Content) (place : ℕ) (item copy : Content) → place < length ss → read ≡ ss → item ≡ get_or read place item
    → copy ≡ item → Contains ss copy × (slice_get ss place ≡ Some copy)
read_there ss read place item copy lt same is copied =
    let at : get_or ss place item ≡ item = ap (λ (xs : List Content). get_or xs place item) (sym same) ∙ sym is in
    subst (λ (s : Content). Contains ss s × (slice_get ss place ≡ Some s)) (sym copied)
    ((place, lt, at), slice_get-get_or ss place item lt ∙ ap Some at)

pub unreachable-requires : goal.unreachable-requires
unreachable-requires c =
    let there = read_there c.args.case.now.segments c.segments.result.now c.args.place c.index-segments-place.result
    c.in_ok-segment.segment c.requires.there c.segments.ensures.value c.index-segments-place.is c.in_ok-segment.ensures in
    let told = c.in-Err.ensures.takes.lawful c.args.case.now c.requires.right there.0 in
    search (rules, told)

pub returns-clause-ok : goal.returns-clause-ok
returns-clause-ok c =
    let there = read_there c.args.case.now.segments c.segments.result.now c.args.place c.index-segments-place.result
    c.in_ok-segment.segment c.requires.there c.segments.ensures.value c.index-segments-place.is c.in_ok-segment.ensures in
    elim c.match-take.branch [
      | in-Ok w ↦ rw w.result-is (record {
        segment = c.in_ok-segment.segment;
        here = there.1;
        took = w.in-Ok.field-0;
        is_new = w.in-Ok.ensures.takes.new;
        state = w.in-Ok.ensures.takes.state;
      })
      | in-Err-NoMemory-default w ↦ rw w.result-is tt
    ]
