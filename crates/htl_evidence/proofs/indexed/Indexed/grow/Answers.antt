-- The case's own segments are among those of the other, and both are in order.
use Rattle.std.proofs.Common.{rules, ◌≡◌, List, subst, sym}
use Rattle.std.specs.Prelude.{Contains}
use Rattle.htl_segment.specs.Content.{Content}
use Rattle.htl_evidence.proofs.indexed.Indexed.grow.Goals as goal

pub columns_after-requires-clause-among : goal.columns_after-requires-clause-among
columns_after-requires-clause-among c =
    let own : c.segments.result.now ≡ c.args.self.now.segments = search rules in
    let all : c.segments-in-Some.result.now ≡ c.args.grown.segments = search rules in
    record {
      in_order = rw c.segments.ensures.value c.segments.ensures.is_case.trace.in_order;
      later_in_order = rw c.segments-in-Some.ensures.value c.segments-in-Some.ensures.is_case.trace.in_order;
      among = λ s h. subst (λ (ss : List Content). Contains ss s) (sym all)
          (c.requires s (subst (λ (ss : List Content). Contains ss s) own h));
    }
