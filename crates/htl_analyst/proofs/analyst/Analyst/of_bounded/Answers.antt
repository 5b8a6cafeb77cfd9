-- What is made of bounded parts is the state of their folds.
use Rattle.std.proofs.Common.{◌≡◌, ◌∙◌, ℕ, List, map, ap}
use Rattle.htl_taken.specs.Numbers.{all_below}
use Rattle.htl_analyst.specs.Restored.{front_of}
use Rattle.htl_analyst.specs.declared.restoring.FoldedPart.{FoldedPart}
use Rattle.htl_analyst.proofs.Restores.{few_fronts, made, made_state}
use Rattle.htl_analyst.proofs.analyst.Analyst.of_bounded.Goals as goal

pub of_fronts-requires : goal.of_fronts-requires
of_fronts-requires g c =
    let parts = c.args.parts.items in
    let fronts : c.in_ok-fronts.fronts.items ≡ map (front_of {A = g.row.A.Denot}) parts =
    c.in_ok-fronts.ensures ∙ ap (λ (ks : List (FoldedPart g.row.A.Denot)). map front_of ks) c.deref.ensures.value in
    few_fronts parts c.deref-2.result.now (c.deref-2.ensures.value ∙ fronts) c.requires

pub invariant_of-result : goal.invariant_of-result
invariant_of-result g c =
    let parts = c.args.parts.items in
    let fronts : c.in_ok-fronts.fronts.items ≡ map (front_of {A = g.row.A.Denot}) parts =
    c.in_ok-fronts.ensures ∙ ap (λ (ks : List (FoldedPart g.row.A.Denot)). map front_of ks) c.deref.ensures.value in
    let taken : c.in_ok-taken.taken ≡ map all_below c.in_ok-fronts.fronts.items =
    c.in_ok-taken.ensures ∙ ap (λ (ns : List ℕ). map all_below ns) c.deref-2.ensures.value in
    made_state parts c.args.trace_id c.processors-processors.result c.in_ok-fronts.fronts.items c.in_ok-taken.taken c.in_ok-kept.kept.items
    fronts taken c.in_ok-kept.ensures c.processors-processors.ensures.len c.requires c.processors-processors.ensures.proper

pub returns-clause-state : goal.returns-clause-state
returns-clause-state g c =
    let parts = c.args.parts.items in
    let fronts : c.in_ok-fronts.fronts.items ≡ map (front_of {A = g.row.A.Denot}) parts =
    c.in_ok-fronts.ensures ∙ ap (λ (ks : List (FoldedPart g.row.A.Denot)). map front_of ks) c.deref.ensures.value in
    let taken : c.in_ok-taken.taken ≡ map all_below c.in_ok-fronts.fronts.items =
    c.in_ok-taken.ensures ∙ ap (λ (ns : List ℕ). map all_below ns) c.deref-2.ensures.value in
    made parts c.args.trace_id c.processors-processors.result c.in_ok-fronts.fronts.items c.in_ok-taken.taken c.in_ok-kept.kept.items fronts
    taken c.in_ok-kept.ensures c.processors-processors.ensures.len

pub returns-clause-is_state : goal.returns-clause-is_state
returns-clause-is_state g c =
    let parts = c.args.parts.items in
    let fronts : c.in_ok-fronts.fronts.items ≡ map (front_of {A = g.row.A.Denot}) parts =
    c.in_ok-fronts.ensures ∙ ap (λ (ks : List (FoldedPart g.row.A.Denot)). map front_of ks) c.deref.ensures.value in
    let taken : c.in_ok-taken.taken ≡ map all_below c.in_ok-fronts.fronts.items =
    c.in_ok-taken.ensures ∙ ap (λ (ns : List ℕ). map all_below ns) c.deref-2.ensures.value in
    made_state parts c.args.trace_id c.processors-processors.result c.in_ok-fronts.fronts.items c.in_ok-taken.taken c.in_ok-kept.kept.items
    fronts taken c.in_ok-kept.ensures c.processors-processors.ensures.len c.requires c.processors-processors.ensures.proper
