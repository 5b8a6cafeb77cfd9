-- The moments of a span are listed, and the points of these moments are its growth.
use Rattle.std.proofs.Common.{◌≡◌, ℕ, ◌<◌, List, length, get_or, map, sym, ap, subst, ◌∙◌, arith}
use Rattle.std.specs.Prelude.{Contains, ◌↔◌, Some}
use Rattle.std.specs.List.{range_with_len}
use Rattle.std.specs.Ordering.{nat_cmp}
use Rattle.std.specs.declared.cmp.Ordering.TheVariants.{Less}
use Rattle.std.proofs.lemmas.List.{map-id}
use Rattle.std.proofs.lemmas.List.Elements.{Contains-get_or}
use Rattle.std.proofs.lemmas.List.FromFn.{length-range_with_len, get_or-range_with_len}
use Rattle.htl_lemmas.proofs.Lists.{range_below}
use Rattle.htl_lemmas.proofs.Tests.{lower}
use Rattle.htl_event.specs.Events.{Event}
use Rattle.htl_event.specs.declared.growth.Point.{Point}
use Rattle.htl_event.specs.declared.growth.Span.{Span}
use Rattle.htl_event.specs.Growth.{moment_at, IsMomentOf, IsPoint, EarlierFirst, IsGrowth}
use Rattle.htl_event.specs.Members.{IsRising}
use Rattle.htl_event.specs.Moments.{events_until}
use Rattle.htl_event.specs.Summaries.{HasOutstanding}
use Rattle.htl_event.proofs.Members.{Contains-map, Contains-from_map}
use Rattle.htl_event.proofs.Determined.{outstanding_same}
use Rattle.htl_answers.specs.Lives.{number_at}
use Rattle.htl_answers.specs.Points.{point_at}
use Rattle.htl_answers.proofs.Opens.{IsRising-map}

-- ---- moments

below_into : (n i : ℕ) → i < n → Contains (range_with_len 0 n) i
below_into n i lt =
    let len = length-range_with_len 0 n in
    let here = Contains-get_or (range_with_len 0 n) i 0 (omega (arith, len, lt)) in
    let at = get_or-range_with_len 0 n i 0 lt in
    let is : get_or (range_with_len 0 n) i 0 ≡ i = omega (arith, at) in
    subst (Contains (range_with_len 0 n)) is here

-- the computed moments are those of the span
pub moments_are : (span : Span) (points moment : ℕ)
    → Contains (map (moment_at span points) (range_with_len 0 points)) moment ↔ IsMomentOf span points moment
moments_are span points moment = (
  λ h. (let from = Contains-from_map (moment_at span points) (range_with_len 0 points) moment h in
      (from.0, range_below points from.0 from.1, sym from.2)),
  λ is. subst (Contains (map (moment_at span points) (range_with_len 0 points))) (sym is.2)
      (Contains-map (moment_at span points) (range_with_len 0 points) is.0 (below_into points is.0 is.1)),
)

-- numbers that rise by their order rise
pub numbers_rise : (xs : List ℕ) → IsRising (λ a b. nat_cmp a b ≡ Less) xs → IsRising (λ a b. a < b) xs
numbers_rise xs rising =
    subst (IsRising (λ a b. a < b)) (map-id xs) (IsRising-map (λ a b. nat_cmp a b ≡ Less) (λ a b. a < b) (λ x. x) lower xs rising)

-- ---- points

-- so many handles are outstanding, and no other number
same_number : (events : List Event) (process n k : ℕ) → HasOutstanding events process n → HasOutstanding events process k → n ≡ k
same_number events process n k p q =
    p.2 ∙ ap length (outstanding_same events events (λ e. (λ h. h, λ h. h)) process p.0 q.0 p.1 q.1) ∙ sym q.2

module _ (span : Span) (points : ℕ) (events : List Event) (process : ℕ) (moments : List ℕ) (rising : IsRising (λ a b. a < b) moments)
    (members : (moment : ℕ) → Contains moments moment ↔ IsMomentOf span points moment) (starts ends : List ℕ)
    (number : (moment : ℕ) → HasOutstanding (events_until moment events) process (number_at starts ends moment)) where
  point_from : (row : Point) → Contains (map (point_at starts ends) moments) row → IsPoint span points events process row
  point_from row h =
      let from = Contains-from_map (point_at starts ends) moments row h in
      subst (IsPoint span points events process) from.2 (record { moment = (members from.0).0 from.1; handles = number from.0 })

  point_into : (row : Point) → IsPoint span points events process row → Contains (map (point_at starts ends) moments) row
  point_into row is =
      let m = row.sequence in
      let here = Contains-map (point_at starts ends) moments m ((members m).1 is.moment) in
      let same = same_number (events_until m events) process (number_at starts ends m) row.outstanding (number m) is.handles in
      let point : point_at starts ends m ≡ row = λ i. record { sequence = row.sequence; outstanding = same i } in
      subst (Contains (map (point_at starts ends) moments)) point here

  -- the points of a span's moments are its growth
  pub points_are_growth : IsGrowth (Some span) points events process (map (point_at starts ends) moments)
  points_are_growth = record {
    rising = IsRising-map (λ a b. a < b) EarlierFirst (point_at starts ends) (λ x y h. h) moments rising;
    members = λ row. (point_from row, point_into row);
  }
