-- Of records that are read one after the other, the first gives the first event, and the others follow.
use Rattle.std.proofs.Common.{◌≡◌, ◌≢◌, ℕ, zero, suc, ◌-◌, List, [], ◌∷◌, refl, arith}
use Rattle.htl_segment.specs.Reading.{event_in, after_record, events_in}

-- no record has no event
pub events_in-none : (n : ℕ) (b : List ℕ) → n ≡ 0 → events_in n b ≡ []
unfolding events_in
events_in-none n b none = rw none refl

-- the first record has the first event, and the others follow
pub events_in-next : (n : ℕ) (b : List ℕ) → n ≢ 0 → events_in n b ≡ event_in b ∷ events_in (n - 1) (after_record b)
unfolding events_in
events_in-next zero b some = absurd (some refl)
events_in-next (suc n) b some = let fewer : suc n - 1 ≡ n = omega arith in rw fewer refl
