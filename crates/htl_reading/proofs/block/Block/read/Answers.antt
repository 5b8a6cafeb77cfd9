-- What a read gave stands behind the bytes held, which stay.
use Rattle.std.proofs.Common.{rules, ap, ◌∙◌, ◌++◌, ◌≡◌, ◌+◌, ◌-◌, take}
use Rattle.std.proofs.lemmas.List.{length-take-le, with_items_is, places, take-append-le}
use Rattle.std.proofs.lemmas.Result.{err_from_is_err_and}
use Rattle.std.proofs.lemmas.Slice.{overwrites}
use borrow.Rule.Slice.PartMut.{put_mid, post_of}
use Rattle.htl_reading.specs.Blocks.{BlockState}
use Rattle.htl_reading.proofs.TakenLaws.{held_more, held_same, take_past}
use Rattle.htl_reading.proofs.block.Block.read.Goals as goal

pub returns-clause-ok : goal.returns-clause-ok
returns-clause-ok g c =
    let b = c.self.inside in
    let n = c.in_ok-count.count in
    let all = c.deref_mut.result.now in
    let got = c.read.new.buffer in
    let after = put_mid b.end (b.end + 65536 - b.end) all got in
    let whole = with_items_is b.bytes after (search (rules, places)) in
    let front : take (b.end + n) after ≡ take b.end b.bytes.items ++ take n got =
    take_past (take b.end all) _ n (b.end + n) (search (rules, places))
    ∙ (λ i. take b.end (c.deref_mut.ensures.value i) ++ take-append-le n got (post_of b.end (b.end + 65536 - b.end) all) c.in_ok-count.ensures.bound i) in
    record {
      more = take n got;
      read = c.in_ok-count.ensures.bytes.0;
      held = held_more b.bytes.items _ (take n got) b.start b.end (b.end + n) c.self.invariant.0 c.self.invariant.1
          (ap (take (b.end + n)) whole ∙ front) ∙ ap (λ (s : BlockState). s.held ++ take n got) c.self.view_is;
      count_is = length-take-le n got c.in_ok-count.ensures.bound;
      end = λ none. c.in_ok-count.ensures.bytes.1 none (search (rules, places));
    }

pub returns-in_err-count-clause-kept : goal.returns-in_err-count-clause-kept
returns-in_err-count-clause-kept g c =
    let p = err_from_is_err_and c.from_residual.result c.from_residual.ensures.1 in
    let b = c.self.inside in
    let all = c.deref_mut.result.now in
    let after = put_mid b.end (b.end + 65536 - b.end) all c.read.new.buffer in
    let whole = with_items_is b.bytes after (search (rules, places)) in
    let front : take b.end after ≡ take b.end b.bytes.items = search (rules, overwrites) in
    rw (p.1) (held_same b.bytes.items _ b.start b.end (ap (take b.end) whole ∙ front) ∙ ap (λ (s : BlockState). s.held) c.self.view_is)
