-- The bit of a number is 1, moved by what the high six bits of the product say.
use Rattle.std.proofs.Common.{ℕ, ◌*◌, ◌/◌, ◌%◌, ◌<◌, ◌^◌, arith}
use Rattle.std.proofs.lemmas.Nat.{one_shl, shr_below}
use Rattle.htl_tree.specs.Filters.{bit_of}
use Rattle.htl_tree.proofs.filters.bit_of.Goals as goal

pub returns : goal.returns
unfolding bit_of
returns c =
    let product : ℕ = c.args.number * 0x9e3779b97f4a7c15 % 2 ^ 64 in
    let less : product / 2 ^ 58 < 2 ^ 6 = shr_below product 6 58 (omega arith) in
    one_shl (product / 2 ^ 58) 64 less
