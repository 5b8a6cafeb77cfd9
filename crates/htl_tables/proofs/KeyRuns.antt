-- Where keys stand among others, so do the first of them, and those that follow these.
use Rattle.std.proofs.Common.{◌≡◌, ℕ, ◌+◌, List, ◌++◌, length, ap, ◌∙◌, arith, slice_get}
use Rattle.htl_tables.specs.declared.sort_key.SortKey.{SortKey}
use Rattle.htl_tables.specs.FirstKeys.{StandFrom}
use Rattle.htl_tables.proofs.FlatPlaces.{get_left, get_right}

module _ (all : List SortKey) (n : ℕ) (first rest : List SortKey) (stand : StandFrom all n (first ++ rest)) where
  pub first_stand : StandFrom all n first
  first_stand i k at = stand i k (get_left first rest i k at)

  pub rest_stand : StandFrom all (n + length first) rest
  rest_stand i k at =
      let place : n + length first + i ≡ n + (length first + i) = omega arith in
      ap (slice_get all) place ∙ stand (length first + i) k (get_right first rest i ∙ at)
