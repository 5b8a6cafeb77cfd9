-- An event of a list stands at one place of the list of all lists' events.
use Rattle.std.proofs.Common.{◌≡◌, ℕ, zero, suc, ◌+◌, ◌-◌, ◌<◌, ◌≤◌, List, [], ◌∷◌, ◌++◌, length}
use Rattle.std.proofs.Common.{take, get_or, append-nil, Some, refl, sym, ap, ◌∙◌, inl, inr, ◌⊎◌, arith, slice_get}
use Rattle.std.specs.Prelude.{flat_map}
use Rattle.std.proofs.lemmas.Bool.{cases_lt}
use Rattle.std.proofs.lemmas.List.{take_more}
use Rattle.std.proofs.lemmas.List.Concat.{flat_map-append}
use Rattle.std.proofs.lemmas.Option.{slice_get_within, same_Some, none-some}
use Rattle.htl_event.specs.Events.{Event}
use Rattle.htl_tables.specs.SortKeys.{StandsAt}

-- ---- elements of two lists put together, by their places

-- an element of the first list stands at the same place in both lists together
pub get_left : {X : Type 0} (xs ys : List X) (i : ℕ) (x : X) → slice_get xs i ≡ Some x → slice_get (xs ++ ys) i ≡ Some x
get_left [] ys i x at = absurd (none-some x at)
get_left (z ∷ zs) ys zero x at = at
get_left (z ∷ zs) ys (suc i) x at = get_left zs ys i x at

-- an element of both lists together, at a place in the first, stands there in the first
pub get_left_back : {X : Type 0} (xs ys : List X) (i : ℕ) (x : X) → i < length xs → slice_get (xs ++ ys) i ≡ Some x → slice_get xs i ≡ Some x
get_left_back [] ys i x lt at = absurd (omega (arith, lt))
get_left_back (z ∷ zs) ys zero x lt at = at
get_left_back (z ∷ zs) ys (suc i) x lt at = get_left_back zs ys i x (omega (arith, lt)) at

-- both lists together have, behind the first one's length, what the second has
pub get_right : {X : Type 0} (xs ys : List X) (i : ℕ) → slice_get (xs ++ ys) (length xs + i) ≡ slice_get ys i
get_right [] ys i = ap (slice_get ys) (omega arith)
get_right (z ∷ zs) ys i =
    let next : length (z ∷ zs) + i ≡ suc (length zs + i) = omega arith in
    ap (slice_get (z ∷ (zs ++ ys))) next ∙ get_right zs ys i

-- ---- lists put together

-- the events of one more list
pub flat_map-take : {X A : Type 0} (f : X → List A) (xs : List X) (n : ℕ) (x : X) → n < length xs → x ≡ get_or xs n x
    → flat_map f (take (n + 1) xs) ≡ flat_map f (take n xs) ++ f x
flat_map-take {X} f xs n x lt is =
    let last : take n xs ++ get_or xs n x ∷ [] ≡ take n xs ++ x ∷ [] = ap (λ (y : X). take n xs ++ y ∷ []) (sym is) in
    ap (flat_map f) (take_more xs n x lt ∙ last) ∙ flat_map-append f (take n xs) (x ∷ [])
    ∙ ap (λ l. flat_map f (take n xs) ++ l) (append-nil (f x))

module _ {X : Type 0} (events_of : X → List Event) where
  -- the place, in the list of all lists' events, of the i-th event of the r-th list
  pub flat_place : List X → ℕ → ℕ → ℕ
  flat_place [] r i = i
  flat_place (x ∷ xs) zero i = i
  flat_place (x ∷ xs) (suc r) i = length (events_of x) + flat_place xs r i

  behind : (x : X) (xs : List X) (r i : ℕ) (e : Event) → StandsAt events_of xs r i e → StandsAt events_of (x ∷ xs) (suc r) i e
  behind x xs r i e s = record { list = s.list; in_lists = s.in_lists; in_list = s.in_list }

  before : (x : X) (xs : List X) (r i : ℕ) (e : Event) → StandsAt events_of (x ∷ xs) (suc r) i e → StandsAt events_of xs r i e
  before x xs r i e s = record { list = s.list; in_lists = s.in_lists; in_list = s.in_list }

  -- an event of a list stands at its flat place
  pub stands_flat : (xs : List X) (r i : ℕ) (e : Event) → StandsAt events_of xs r i e
      → slice_get (flat_map events_of xs) (flat_place xs r i) ≡ Some e
  unfolding flat_place
  stands_flat [] r i e s = absurd (none-some s.list s.in_lists)
  stands_flat (x ∷ xs) zero i e s =
      let list : x ≡ s.list = same_Some x s.list s.in_lists in
      get_left (events_of x) (flat_map events_of xs) i e (ap (λ (y : X). slice_get (events_of y) i) list ∙ s.in_list)
  stands_flat (x ∷ xs) (suc r) i e s =
      get_right (events_of x) (flat_map events_of xs) (flat_place xs r i) ∙ stands_flat xs r i e (before x xs r i e s)

  -- flat places keep the order of lists, and of events in a list
  pub flat_place-le : (xs : List X) (r s i j : ℕ) (a b : Event) → StandsAt events_of xs r i a → StandsAt events_of xs s j b
      → (r < s) ⊎ ((r ≡ s) × (i ≤ j)) → flat_place xs r i ≤ flat_place xs s j
  unfolding flat_place
  flat_place-le [] r s i j a b sa sb le = absurd (none-some sa.list sa.in_lists)
  flat_place-le (x ∷ xs) zero zero i j a b sa sb le = elim le [ inl lt ↦ absurd (omega (arith, lt)) | inr same ↦ same.1 ]
  flat_place-le (x ∷ xs) zero (suc s) i j a b sa sb le =
      let list : x ≡ sa.list = same_Some x sa.list sa.in_lists in
      let lt : i < length (events_of x) = slice_get_within (events_of x) i a (ap (λ (y : X). slice_get (events_of y) i) list ∙ sa.in_list) in
      omega (arith, lt)
  flat_place-le (x ∷ xs) (suc r) zero i j a b sa sb le = absurd (elim le [
    | inl lt ↦ omega (arith, lt)
    | inr same ↦ (let e = same.0 in omega (arith, e))
  ])
  flat_place-le (x ∷ xs) (suc r) (suc s) i j a b sa sb le =
      let le' : (r < s) ⊎ ((r ≡ s) × (i ≤ j)) = elim le [
        | inl lt ↦ inl (omega (arith, lt))
        | inr same ↦ (let e = same.0 in inr (omega (arith, e), same.1))
      ] in
      let rest = flat_place-le xs r s i j a b (before x xs r i a sa) (before x xs s j b sb) le' in
      omega (arith, rest)

  -- each event of the list is one of a list
  pub record IsFrom (xs : List X) (p : ℕ) (e : Event) : Type 0 where
    pub r : ℕ
    pub i : ℕ
    pub stands : StandsAt events_of xs r i e
    pub is : p ≡ flat_place xs r i

  -- each event in the list of all lists' events stands at a place of one of the lists
  pub flat_stands : (xs : List X) (p : ℕ) (e : Event) → slice_get (flat_map events_of xs) p ≡ Some e → IsFrom xs p e
  unfolding flat_place
  flat_stands [] p e at = absurd (none-some e at)
  flat_stands (x ∷ xs) p e at = elim (cases_lt p (length (events_of x))) [
    | inl lt ↦ record {
      r = 0;
      i = p;
      stands = record { list = x; in_lists = refl; in_list = get_left_back (events_of x) (flat_map events_of xs) p e lt at };
      is = refl;
    }
    | inr ge ↦
        let q = p - length (events_of x) in
        let whole : p ≡ length (events_of x) + q = omega (arith, ge) in
        let from = flat_stands xs q e (sym (get_right (events_of x) (flat_map events_of xs) q)
        ∙ ap (slice_get (events_of x ++ flat_map events_of xs)) (sym whole) ∙ at) in
        record {
          r = suc from.r;
          i = from.i;
          stands = behind x xs from.r from.i e from.stands;
          is = whole ∙ ap (λ (n : ℕ). length (events_of x) + n) from.is;
        }
  ]
