-- The tally of parts put together is the sum of their tallies.
use Rattle.std.proofs.Common.{◌≡◌, ℕ, ◌+◌, ◌≤◌, List, ◌++◌, map, take, drop, sym, ap, subst, ◌∙◌, arith}
use Rattle.std.proofs.lemmas.List.{map-append, take-append-drop}
use Rattle.std.proofs.lemmas.List.Sums.{sum_by-append}
use Rattle.htl_event.specs.Events.{Event}
use Rattle.htl_event.specs.declared.slot.Count.{Count}
use Rattle.htl_event.specs.Tallies.{tally, plus_count}
use Rattle.htl_event.proofs.Counts.{counts_add_up}
use Rattle.htl_tree.specs.Trees.{Tree, HasTally, IsSumTally, count_at}
use Rattle.htl_answers.specs.Parts.{Contents, AreEventsOf, size_of, size_of_all}
use Rattle.htl_answers.proofs.PartLemmas.{split_parts}

-- a sum of two tallies, of two lists of events, is the tally of both lists together
pub tally_append : (sum left right : Tree) (xs ys : List Event) → IsSumTally sum left right → HasTally left xs → HasTally right ys
    → HasTally sum (xs ++ ys)
tally_append sum left right xs ys is of_left of_right slot stack =
    is slot stack ∙ ap (λ n. plus_count n (count_at right slot stack)) (of_left slot stack)
    ∙ ap (λ n. plus_count (tally xs slot stack) n) (of_right slot stack)
    ∙ sym ((counts_add_up xs ys).tally slot stack)

-- the sum of two tallies is one either way round
pub sum_turned : (sum left right : Tree) → IsSumTally sum left right → IsSumTally sum right left
sum_turned sum left right is slot stack = is slot stack ∙ turned (count_at left slot stack) (count_at right slot stack)
  where
    turned : (c d : Count) → plus_count c d ≡ plus_count d c
    turned c d =
        let p : c.plus + d.plus ≡ d.plus + c.plus = omega arith in
        let m : c.minus + d.minus ≡ d.minus + c.minus = omega arith in
        λ i. record { plus = p i; minus = m i }

-- ---- a list of parts cut in two

-- a list of parts is its first n and those after them
pub halves : {X : Type 0} (contents : X → Contents) (n : ℕ) (parts : List X)
    → map contents parts ≡ map contents (take n parts) ++ map contents (drop n parts)
halves contents n parts = ap (map contents) (sym (take-append-drop n parts)) ∙ map-append contents (take n parts) (drop n parts)

module _ {X : Type 0} (contents : X → Contents) (n : ℕ) (parts front back : List X) (is_front : front ≡ take n parts)
    (is_back : back ≡ drop n parts) where
  -- a list of parts is its front and its back, where these are its first n and those after them
  pub front_and_back : map contents parts ≡ map contents front ++ map contents back
  front_and_back = halves contents n parts
      ∙ ap (λ ps. map contents ps ++ map contents (drop n parts)) (sym is_front)
      ∙ ap (λ ps. map contents front ++ map contents ps) (sym is_back)

  pub size_halves : size_of_all (map contents parts) ≡ size_of_all (map contents front) + size_of_all (map contents back)
  size_halves = ap size_of_all front_and_back ∙ sum_by-append size_of (map contents front) (map contents back)

  -- what counts the events of both sides counts all
  pub tally_halves : (sum left right : Tree) → IsSumTally sum left right
      → ((events : List Event) → AreEventsOf (map contents front) events → HasTally left events)
      → ((events : List Event) → AreEventsOf (map contents back) events → HasTally right events)
      → (events : List Event) → AreEventsOf (map contents parts) events → HasTally sum events
  tally_halves sum left right is of_left of_right events are =
      let joins = split_parts (map contents front) (map contents back) events (subst (λ ps. AreEventsOf ps events) front_and_back are) in
      subst (λ (es : List Event). HasTally sum es) (sym joins.is)
      (tally_append sum left right joins.first joins.second is (of_left joins.first joins.of_front) (of_right joins.second joins.of_back))

  -- a sum of totals, each no greater than the parts of its half, is no greater than all parts
  pub total_halves : (sum left right : ℕ) → sum ≡ left + right → left ≤ size_of_all (map contents front)
      → right ≤ size_of_all (map contents back) → sum ≤ size_of_all (map contents parts)
  total_halves sum left right is of_left of_right =
      let sizes = size_halves in
      omega (arith, is, of_left, of_right, sizes)
