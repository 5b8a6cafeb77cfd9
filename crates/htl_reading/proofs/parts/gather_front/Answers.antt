-- What the workers took is what they took in order, and their readers are those of the ends and of the parts.
use Rattle.std.proofs.Common.{◌≡◌, ◌≤◌, ◌<◌, ◌*◌, ℕ, List, IfSome, Some, None, length, min, take, ap, arith, Option, slice_index_or}
use Rattle.std.proofs.lemmas.Grind.{common_steps}
use Rattle.std.proofs.lemmas.List.{length-map}
use Rattle.htl_reading.specs.Parts.{ArePartsOf, TookInOrder, most_parts}
use Rattle.htl_reading.specs.declared.parts.SourcePart.{SourcePart}
use Rattle.htl_reading.proofs.PartLaws.{Gathers, gathered_in_order}
use Rattle.htl_reading.proofs.TailLaws.{same_left, tailed_more}
use Rattle.htl_reading.proofs.parts.gather_front.Goals as goal

each : (g : _) (c : goal.After-drop-ends-2 g) (i : ℕ) (part : SourcePart _ _) (outcome : Option _) → i < length c.in_ok-parts.parts.items
    → Gathers g.K.Keeper.gathers g.R.Tail.Read.remaining c.args.keeper.now (slice_index_or c.in_ok-parts.parts.items i part)
    (slice_index_or c.in-Ok.gathered.items i outcome)
each g c i part outcome inside =
    let job = (c.in-Ok.ensures.each i outcome inside).1 in
    rw (job.job_is part) (job.call.met)

pub returns-then-end-eq0-clause-tails : goal.returns-then-end-eq0-clause-tails
returns-then-end-eq0-clause-tails g c =
    tailed_more g.R.Source.state g.R.Parted.is_parted (2 * most_parts c.args.workers) _ _ c.args.source.now c.ends.new.source c.cut.new.source
    (grind (arith, common_steps)) c.ends.ensures.tails c.cut.ensures.tails

pub returns-in_default-clause-tails : goal.returns-in_default-clause-tails
returns-in_default-clause-tails g c =
    tailed_more g.R.Source.state g.R.Parted.is_parted (2 * most_parts c.args.workers) _ _ c.args.source.now c.ends.new.source c.cut.new.source
    (grind (arith, common_steps)) c.ends.ensures.tails c.cut.ensures.tails

pub returns-in_err-all_of-clause-tails : goal.returns-in_err-all_of-clause-tails
returns-in_err-all_of-clause-tails g c =
    tailed_more g.R.Source.state g.R.Parted.is_parted (2 * most_parts c.args.workers) _ _ c.args.source.now c.ends.new.source c.cut.new.source
    (grind (arith, common_steps)) c.ends.ensures.tails c.cut.ensures.tails

pub returns-clause-tails : goal.returns-clause-tails
returns-clause-tails g c =
    tailed_more g.R.Source.state g.R.Parted.is_parted (2 * most_parts c.args.workers) _ _ c.args.source.now c.ends.new.source c.cut.new.source
    (grind (arith, common_steps)) c.ends.ensures.tails c.cut.ensures.tails

pub returns-clause-taken : goal.returns-clause-taken
returns-clause-taken g c = in_order (g.R.Source.state c.args.source.now).remaining c.in_ok-len.ensures.len
    (rw (same_left (g.R.Source.state c.args.source.now) (g.R.Source.state c.ends.new.source) c.ends.ensures.tails.same) at c.in_ok-parts.ensures.parts)
  where
    inside : c.in_ok-parts.end ≤ min c.in_ok-len.field-0 2305843009213693952
    inside = grind (arith, common_steps)

    count : length c.in_ok-all_of.field-0.items ≡ length c.in_ok-parts.parts.items
    count = omega (
      arith,
      ap length c.in_ok-all_of.ensures,
      length-map c.in_ok-all_of.field-0.items (λ (keeper : g.row.K.Denot). Some keeper),
      c.in-Ok.ensures.len,
    )

    in_order : (given : Option (List ℕ)) → IfSome given (λ bytes. length bytes ≡ c.in_ok-len.field-0)
        → IfSome given (λ bytes. ArePartsOf g.K.Keeper.gathers g.R.Tail.Read.remaining c.args.keeper.now c.in_ok-parts.parts.items
        (take c.in_ok-parts.end bytes))
        → IfSome given (λ bytes. (c.in_ok-parts.end ≤ length bytes)
        × TookInOrder g.K.Keeper.gathers c.args.keeper.now c.in_ok-all_of.field-0.items (take c.in_ok-parts.end bytes))
    in_order None len cut = tt
    in_order (Some bytes) len cut = (
      omega (arith, len, inside),
      gathered_in_order g.K.Keeper.gathers g.R.Tail.Read.remaining c.args.keeper.now c.in_ok-parts.parts.items c.in_ok-all_of.field-0.items
          (take c.in_ok-parts.end bytes) (λ i part outcome inside. rw (c.in_ok-all_of.ensures) (each g c i part outcome inside)) count cut,
    )
