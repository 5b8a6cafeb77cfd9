-- Where sequences rise, the events until a moment are a first part of the list; and the same events are the same until a moment.
use Rattle.std.proofs.Common.{◌≡◌, ℕ, zero, suc, ◌≤◌, Bool, true, false, leb, List, [], ◌∷◌, take, length, refl, sym, ap, ◌∙◌, arith}
use Rattle.std.specs.Prelude.{Contains, filter, nat_le}
use Rattle.std.specs.List.Sorted.{IsNonDecreasingBy, IsPartitionedBy, IsPartitionPoint}
use Rattle.std.proofs.lemmas.List.Sorted.{IsPartitionedBy-leb}
use Rattle.htl_event.specs.Events.{Event}
use Rattle.htl_event.specs.Moments.{events_until}
use Rattle.htl_event.specs.Laws.{HaveSame}
use Rattle.htl_event.proofs.Members.{filter-pass, filter-skip, Contains-filter, Contains-from_filter}

module _ {X : Type 0} (p : X → Bool) where
  abbrev Splits : List X → ℕ → Type 0
  Splits = IsPartitionPoint (λ x. p x ≡ true) (λ x. p x ≡ false)

  -- what a test fails leaves nothing
  none_pass : (xs : List X) → Splits xs 0 → filter p xs ≡ []
  none_pass [] point = refl
  none_pass (x ∷ xs) point =
      filter-skip p x xs (point.1 0 x (omega arith) (omega arith))
      ∙ none_pass xs (λ k d up lt. absurd (omega (arith, lt)), λ k d up lt. point.1 (suc k) d (omega arith) (omega (arith, lt)))

  -- what passes a test comes first, where a place splits the list
  pub take-passes : (xs : List X) (len : ℕ) → len ≤ length xs → Splits xs len → take len xs ≡ filter p xs
  take-passes xs zero short point = sym (none_pass xs point)
  take-passes [] (suc len) short point = absurd (omega (arith, short))
  take-passes (x ∷ xs) (suc len) short point =
      let here = filter-pass p x xs (point.0 0 x (omega arith) (omega arith)) in
      let later : Splits xs len = (
        λ k d up lt. point.0 (suc k) d (omega arith) (omega (arith, lt)),
        λ k d up lt. point.1 (suc k) d (omega (arith, up)) (omega (arith, lt)),
      ) in
      ap (λ (ys : List X). x ∷ ys) (take-passes xs len (omega (arith, short)) later) ∙ sym here

-- the search asks for sequences up to the moment
pub parted : (moment : ℕ) (es : List Event) → IsNonDecreasingBy (λ e. e.sequence) es → IsPartitionedBy (λ e. leb e.sequence moment) es
parted moment es rising = IsPartitionedBy-leb (λ e. e.sequence) es moment rising

-- the same events until a moment
into : (moment : ℕ) (xs ys : List Event) → ((e : Event) → Contains xs e → Contains ys e) → (e : Event)
    → Contains (events_until moment xs) e → Contains (events_until moment ys) e
into moment xs ys same e h =
    let of = Contains-from_filter (λ x. nat_le x.sequence moment) xs e h in
    Contains-filter (λ x. nat_le x.sequence moment) ys e (same e of.0) of.1

-- two lists with the same events have the same events until a moment
pub until_same : (moment : ℕ) (xs ys : List Event) → HaveSame xs ys → HaveSame (events_until moment xs) (events_until moment ys)
until_same moment xs ys same e = (into moment xs ys (λ x. (same x).0) e, into moment ys xs (λ x. (same x).1) e)
