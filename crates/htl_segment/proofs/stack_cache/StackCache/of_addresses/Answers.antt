-- The bytes of a stack's addresses give the stack again.
use Rattle.std.proofs.Common.{◌≡◌, ℕ, suc, ◌/◌, ◌<◌, ◌^◌, List, [], ◌∷◌, length, slice_index, refl, sym, ap, ◌∙◌, arith}
use Rattle.std.specs.List.{AllByRecursion, flat_map}
use Rattle.std.proofs.lemmas.List.{append-nil}
use Rattle.htl_segment.specs.Numbers.{numbers, bytes_of}
use Rattle.htl_segment.proofs.Bytes.{length-frames, numbers_here}
use Rattle.htl_segment.proofs.stack_cache.StackCache.of_addresses.Goals as goal

all_below : (xs : List ℕ) → ((i : ℕ) → slice_index xs i < 2 ^ 64) → AllByRecursion (λ a. a < 2 ^ 64) xs
all_below [] below = tt
all_below (x ∷ xs) below = (below 0, all_below xs (λ i. below (suc i)))

pub of_bytes-requires : goal.of_bytes-requires
of_bytes-requires c =
    let frames : c.deref-2.result.now ≡ flat_map (bytes_of 8) c.args.addresses.now = c.deref-2.ensures.value
    ∙ rw c.in_ok-frames.ensures.items at c.in_ok-push_frames.ensures in
    omega (arith, ap length frames, length-frames c.args.addresses.now, c.requires)

pub returns : goal.returns
returns c =
    let stack = c.args.addresses.now in
    let frames : c.deref-2.result.now ≡ flat_map (bytes_of 8) stack = c.deref-2.ensures.value
    ∙ rw c.in_ok-frames.ensures.items at c.in_ok-push_frames.ensures in
    let count : length c.deref-2.result.now / 8 ≡ length stack = omega (arith, ap length frames, length-frames stack) in
    let small = all_below stack (λ i. omega (arith, c.type_inv.addresses i)) in
    let again : numbers 0 (length stack) c.deref-2.result.now ≡ stack = numbers_here stack [] 0 c.deref-2.result.now (frames
    ∙ sym (append-nil (flat_map (bytes_of 8) stack))) small in
    let value : numbers 0 (length c.deref-2.result.now / 8) c.deref-2.result.now ≡ stack = rw (count, again) refl in
    rw value at c.of_bytes.ensures
