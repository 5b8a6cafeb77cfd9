-- The events of parts are those of each part, one part after the other.
use Rattle.std.proofs.Common.{◌≡◌, ℕ, ◌+◌, ◌<◌, ◌≤◌, List, [], ◌∷◌, ◌++◌, length, map, take, get_or, refl, sym, ap, ◌∙◌, append-nil, append_assoc, arith}
use Rattle.std.specs.List.{take-map}
use Rattle.std.proofs.lemmas.List.Sums.{sum_by-cons, sum_by-append, sum_by-take-drop}
use Rattle.std.proofs.lemmas.List.{take_more, map-append}
use Rattle.htl_event.specs.Events.{Event}
use Rattle.htl_answers.specs.Parts.{Contents, IsFoldOf, AreEventsOf, size_of, size_of_all}

-- the events of parts are those of all parts but the last, and then those of the last
pub record EndsWith (parts : List Contents) (last : Contents) (events : List Event) : Type 0 where
  pub before : List Event
  pub folded : List Event
  pub are : AreEventsOf parts before
  pub fold : IsFoldOf last folded
  pub is : events ≡ before ++ (folded ++ last.held)

-- the events of parts are those of all but the last, then what the last folded, and then what it holds
pub last_part : (parts : List Contents) (last : Contents) (events : List Event) → AreEventsOf (parts ++ last ∷ []) events
    → EndsWith parts last events
last_part [] last events (folded, others, fold, none, is) = record {
  before = [];
  folded = folded;
  are = refl;
  fold = fold;
  is = is ∙ ap (λ xs. folded ++ (last.held ++ xs)) none ∙ ap (λ xs. folded ++ xs) (append-nil last.held);
}
last_part (part ∷ parts) last events (folded, others, fold, rest, is) =
    let ends = last_part parts last others rest in
    let joined : events ≡ folded ++ (part.held ++ (ends.before ++ (ends.folded ++ last.held))) = is
    ∙ ap (λ xs. folded ++ (part.held ++ xs)) ends.is in
    record {
      before = folded ++ (part.held ++ ends.before);
      folded = ends.folded;
      are = (folded, ends.before, fold, ends.are, refl);
      fold = ends.fold;
      is = joined ∙ ap (λ xs. folded ++ xs) (sym (append_assoc part.held ends.before (ends.folded ++ last.held)))
          ∙ sym (append_assoc folded (part.held ++ ends.before) (ends.folded ++ last.held));
    }

-- of one part more
pub one_part_more : {X : Type 0} (contents : X → Contents) (parts : List X) (i : ℕ) (part : X) → i < length parts
    → part ≡ get_or parts i part
    → map contents (take (i + 1) parts) ≡ map contents (take i parts) ++ contents part ∷ []
one_part_more contents parts i part lt is =
    ap (map contents) (take_more parts i part lt ∙ ap (λ x. take i parts ++ x ∷ []) (sym is))
    ∙ map-append contents (take i parts) (part ∷ [])

-- which is counted at most as often as all parts
pub size_more : {X : Type 0} (contents : X → Contents) (parts : List X) (i : ℕ) (part : X) → i < length parts → part ≡ get_or parts i part
    → size_of_all (map contents (take (i + 1) parts)) ≡ size_of_all (map contents (take i parts)) + size_of (contents part)
size_more contents parts i part lt is =
    let one : size_of_all (contents part ∷ []) ≡ size_of (contents part) = sum_by-cons size_of (contents part) [] ∙ omega arith in
    let both = ap size_of_all (one_part_more contents parts i part lt is)
    ∙ sum_by-append size_of (map contents (take i parts)) (contents part ∷ []) in
    omega (arith, one, both)

-- the first parts and one more count no more events than all
pub size_most : {X : Type 0} (contents : X → Contents) (parts : List X) (i : ℕ) (part : X) → i < length parts → part ≡ get_or parts i part
    → size_of_all (map contents (take i parts)) + size_of (contents part) ≤ size_of_all (map contents parts)
size_most contents parts i part lt is =
    let more = size_more contents parts i part lt is in
    let all = sum_by-take-drop size_of (map contents parts) (i + 1) in
    let same = ap size_of_all (take-map contents (i + 1) parts) in
    omega (arith, more, all, same)

-- the events of parts put together
pub record Joins (front back : List Contents) (events : List Event) : Type 0 where
  pub first : List Event
  pub second : List Event
  pub of_front : AreEventsOf front first
  pub of_back : AreEventsOf back second
  pub is : events ≡ first ++ second

-- the events of two lists of parts together are those of the first, and then those of the second
pub split_parts : (front back : List Contents) (events : List Event) → AreEventsOf (front ++ back) events → Joins front back events
split_parts [] back events are = record { first = []; second = events; of_front = refl; of_back = are; is = refl }
split_parts (part ∷ front) back events (folded, others, fold, rest, is) =
    let joins = split_parts front back others rest in
    let joined : events ≡ folded ++ (part.held ++ (joins.first ++ joins.second)) = is ∙ ap (λ xs. folded ++ (part.held ++ xs)) joins.is in
    record {
      first = folded ++ (part.held ++ joins.first);
      second = joins.second;
      of_front = (folded, joins.first, fold, joins.of_front, refl);
      of_back = joins.of_back;
      is = joined ∙ ap (λ xs. folded ++ xs) (sym (append_assoc part.held joins.first joins.second))
          ∙ sym (append_assoc folded (part.held ++ joins.first) joins.second);
    }
