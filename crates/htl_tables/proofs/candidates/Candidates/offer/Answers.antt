-- A key in the place of a later one of its handle meets what that met; where the one that was there is no later, it meets the key.
use Rattle.std.proofs.Common.{◌≡◌, true, false, sym, ap, ◌∙◌, slice_set}
use Rattle.std.specs.Ordering.{is_lt}
use Rattle.std.proofs.lemmas.List.{set-get_or}
use Rattle.htl_tables.specs.SortKeys.{sort_key_cmp}
use Rattle.htl_tables.proofs.Offering.{offered_set, offered_kept}
use Rattle.htl_tables.proofs.candidates.Candidates.offer.Goals as goal

pub returns-then-is_lt : goal.returns-then-is_lt
returns-then-is_lt g c =
    let kept = c.index_mut-kept.result.now in
    let order : is_lt (sort_key_cmp c.args.key kept) ≡ true = ap is_lt (sym c.cmp.ensures) ∙ sym c.is_lt.ensures ∙ c.if-is_lt.true in
    offered_set c.args.self.now.keys.items c.args.key c.in-Ok.place kept c.in-Ok.ensures c.index_mut-kept.ensures.value order

pub returns-else-is_lt : goal.returns-else-is_lt
returns-else-is_lt g c =
    let keys = c.args.self.now.keys.items in
    let kept = c.index_mut-kept.result.now in
    let order : is_lt (sort_key_cmp c.args.key kept) ≡ false = ap is_lt (sym c.cmp.ensures) ∙ sym c.is_lt.ensures ∙ c.if-is_lt.false in
    let as_before : slice_set keys c.in-Ok.place kept ≡ keys = ap (slice_set keys c.in-Ok.place) c.index_mut-kept.ensures.value
    ∙ set-get_or keys c.in-Ok.place kept in
    rw as_before (offered_kept keys c.args.key c.in-Ok.place kept c.in-Ok.ensures c.index_mut-kept.ensures.value order)
