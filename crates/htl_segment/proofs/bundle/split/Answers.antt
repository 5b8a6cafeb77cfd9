-- Each turn takes one segment off the front, or the bytes left are reported.
use Rattle.std.proofs.Common.{◌++◌, ◌∷◌, [], refl, sym, ◌∙◌, append_assoc, Some}
use Rattle.std.proofs.lemmas.List.{take_rest}
use Rattle.htl_segment.proofs.BundleLaws.{early_end, splits_one, refused}
use Rattle.htl_segment.proofs.KeeperLaws.{took_split}
use Rattle.htl_segment.proofs.bundle.split.Goals as goal

pub loop-found-preserved : goal.loop-found-preserved
loop-found-preserved g c =
    let inv = c.loop-found.invariant in
    let s = c.in-Ok.found in
    let front = rw (← c.byte_len.ensures.value) at c.in-Ok.ensures.found in
    record {
      more = inv.more ++ s ∷ [];
      splits = rw take_rest (splits_one c.args.bytes.now [] inv.more c.loop-found.rest.now c.byte_len.result s inv.splits front);
      gathers = λ start segments before.
          rw (sym (append_assoc segments inv.more (s ∷ [])))
          (c.in-Ok-take.ensures start (segments ++ inv.more) (inv.gathers start segments before));
    }

pub returns-in-Err-clause-rest : goal.returns-in-Err-clause-rest
returns-in-Err-clause-rest g c =
    early_end c.loop-found.rest.now c.in-Err.end c.in-Err.ensures.fault (sym c.is_early_end.ensures ∙ c.if-is_early_end.true)

pub returns-in-Err-2-clause-refused : goal.returns-in-Err-2-clause-refused
returns-in-Err-2-clause-refused g c =
    refused c.args.bytes.now _ _ c.loop-found.rest.now c.in-Err.end (Some c.in-Err.end) c.loop-found.invariant.splits
    (sym c.is_early_end.ensures ∙ c.if-is_early_end.false) c.in-Err.ensures.fault refl

pub returns-in-Err-2-clause-kept : goal.returns-in-Err-2-clause-kept
returns-in-Err-2-clause-kept g c =
    let inv = c.loop-found.invariant in
    λ other. took_split g.K.Keeper.gathers c.args.keeper.now c.loop-found.keeper c.args.bytes.now inv.more c.loop-found.rest.now inv.splits
    inv.gathers
