-- With the gaps of one processor more, the gaps so far grow to those of all.
use Rattle.std.proofs.Common.{◌≡◌, ℕ, true, length, subst, arith}
use Rattle.htl_taken.specs.declared.TheConstants.{MAX_FRONT}
use Rattle.htl_taken.specs.Numbers.{front_at, loose_at, has_key}
use Rattle.htl_taken.specs.Gaps.{IsGaps}
use Rattle.htl_taken.proofs.Keys.{has_key-decides}
use Rattle.htl_taken.proofs.GapLists.{gaps_more}
use Rattle.htl_taken.proofs.taken.Taken.gaps.Goals as goal

pub loop-processor-preserved : goal.loop-processor-preserved
loop-processor-preserved g c =
    let taken = c.args.self.now in
    let p = c.loop-processor.processor in
    let more = gaps_more (λ r n. has_key taken r n ≡ true) p MAX_FRONT (front_at taken p) (loose_at taken p) c.loop-processor.gaps.items
    c.front.ensures.proper.rises (λ n. has_key-decides taken p n) c.loop-processor.invariant in
    rw (c.in_ok-add_gaps.ensures, c.front.ensures.value, c.loose.ensures.value) more

pub returns : goal.returns
returns g c =
    let all : c.loop-processor.processor ≡ length c.args.self.now =
    omega (arith, c.loop-processor-test.false, c.loop-processor.auto.processor-end, c.processors-processor-end.ensures.len) in
    subst (λ (n : ℕ). IsGaps (λ p m. has_key c.args.self.now p m ≡ true) n c.loop-processor.gaps.items) all c.loop-processor.invariant
