-- The bytes follow from their number and how many they are.
use Rattle.std.proofs.Common.{ℕ, sym, ap, ◌∙◌}
use Rattle.htl_segment.specs.Numbers.{number}
use Rattle.htl_segment.proofs.Bytes.{bytes_from_number}
use Rattle.htl_segment.proofs.laws.one_number_one_bytes.Goals as goal

pub returns : goal.returns
unfolding number
returns c = λ a b small small' len same.
    bytes_from_number a b small small' len (same ∙ ap (λ (n : ℕ). number 0 n b) (sym len))
