-- One part more adds its stacks, and in order, each once, those of all parts are their table.
use Rattle.std.proofs.Common.{◌≡◌, ◌+◌, ◌++◌, ◌∷◌, [], ℕ, List, sym, ap, ◌∙◌, subst, arith, append-nil}
use Rattle.std.proofs.Common.{take}
use Rattle.std.specs.Prelude.{Contains, ◌↔◌}
use Rattle.std.specs.List.{flat_map}
use Rattle.std.proofs.lemmas.List.{take_more, take_all}
use Rattle.std.proofs.lemmas.List.Concat.{flat_map-append}
use Rattle.htl_analyst.specs.States.{Part as Kept}
use Rattle.htl_saved.specs.AnalystRows.{stacks_of}
use Rattle.htl_saved.proofs.table.table_of.Goals as goal

pub loop-part-preserved : goal.loop-part-preserved
loop-part-preserved g c =
    let parts = c.args.parts.now in
    let i = c.loop-part.part-index in
    let part : Kept = c.part-item.result in
    let more : take (i + 1) parts ≡ take i parts ++ part ∷ [] =
    take_more parts i part c.loop-part-test.true ∙ ap (λ (x : Kept). take i parts ++ x ∷ []) (sym c.part-item.is) in
    c.in_ok-push_stacks.ensures
    ∙ ap (λ (l : List (List ℕ)). l ++ stacks_of part) c.loop-part.invariant
    ∙ ap (λ (l : List (List ℕ)). flat_map stacks_of (take i parts) ++ l) (sym (append-nil (stacks_of part)))
    ∙ sym (flat_map-append stacks_of (take i parts) (part ∷ []))
    ∙ sym (ap (flat_map stacks_of) more)

pub returns : goal.returns
returns g c =
    let parts = c.args.parts.now in
    let all : c.loop-part.stacks.items ≡ flat_map stacks_of parts =
    c.loop-part.invariant ∙ ap (flat_map stacks_of) (take_all c.loop-part.part-index parts (omega (arith, c.loop-part-test.false))) in
    record {
      rising = c.put_in_order.ensures.rising;
      members = λ s. subst (λ (l : List (List ℕ)). Contains c.put_in_order.new.stacks.items s ↔ Contains l s) all
          (c.put_in_order.ensures.members s);
    }
