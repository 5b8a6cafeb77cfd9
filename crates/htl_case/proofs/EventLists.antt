-- Of the events of lists, one list after another, those that pass a test are gathered or left.
use Rattle.std.proofs.Common.{◌≡◌, ℕ, ◌+◌, ◌<◌, ◌≤◌, Bool, List, ◌++◌, length, get_or, set, take, Vec, Global}
use Rattle.std.proofs.Common.{refl, sym, ap, ◌∙◌, arith}
use Rattle.std.specs.Prelude.{[], ◌∷◌, filter, flat_map}
use Rattle.std.proofs.lemmas.Grind.{flat_map-append}
use Rattle.std.proofs.lemmas.List.{append-nil, get_or-set_other, length-set, take_all, take_more, take_more_set}
use Rattle.std.proofs.lemmas.List.Elements.{filter-append}
use Rattle.htl_event.specs.Events.{Event}
use Rattle.htl_segment.specs.Picks.{events_in}
use Rattle.htl_segment.proofs.PicksLaws.{list_more}

-- one list more
list_at : (lists : List (Vec Event Global)) (i : ℕ) (list : Vec Event Global) → i < length lists
    → events_in (take (i + 1) lists) ≡ events_in (take i lists) ++ (get_or lists i list).items
list_at lists i list lt = ap events_in (take_more lists i list lt) ∙ list_more (take i lists) (get_or lists i list)

-- the events so far that pass a test, and those of the list at the next place
pub filtered_more : {X : Type 0} (f : X → List Event) (p : Event → Bool) (lists : List X) (i : ℕ) (list : X) (old new : List Event)
    → i < length lists → list ≡ get_or lists i list → old ≡ filter p (flat_map f (take i lists)) → new ≡ old ++ filter p (f list)
    → new ≡ filter p (flat_map f (take (i + 1) lists))
filtered_more {X = X} f p lists i list old new lt is so_far pushed =
    let before = flat_map f (take i lists) in
    let more : flat_map f (take (i + 1) lists) ≡ before ++ f (get_or lists i list) =
    ap (flat_map f) (take_more lists i list lt) ∙ flat_map-append f (take i lists) (get_or lists i list ∷ [])
    ∙ ap (λ (es : List Event). before ++ es) (append-nil (f (get_or lists i list))) in
    pushed ∙ ap (λ (es : List Event). es ++ filter p (f list)) so_far ∙ ap (λ (x : X). filter p before ++ filter p (f x)) is
    ∙ sym (ap (filter p) more ∙ filter-append p before (f (get_or lists i list)))

-- after the last list, the events gathered are those of all lists that pass
pub filtered_all : {X : Type 0} (f : X → List Event) (p : Event → Bool) (lists : List X) (i : ℕ) (rows : List Event) → length lists ≤ i
    → rows ≡ filter p (flat_map f (take i lists)) → rows ≡ filter p (flat_map f lists)
filtered_all f p lists i rows past so_far = so_far ∙ ap (λ (ls : List _). filter p (flat_map f ls)) (take_all i lists past)

-- of the lists below a place the events that pass a test are left, and the others are as they were
pub record AreFiltered (p : Event → Bool) (old new : List (Vec Event Global)) (place : ℕ) : Type 0 where
  pub long : length new ≡ length old
  pub below : events_in (take place new) ≡ filter p (events_in (take place old))
  pub above : (i : ℕ) (d : Vec Event Global) → place ≤ i → get_or new i d ≡ get_or old i d

-- before the first list, the lists are as they were
pub none_filtered : (p : Event → Bool) (lists : List (Vec Event Global)) → AreFiltered p lists lists 0
none_filtered p lists = record { long = refl; below = refl; above = λ i d over. refl }

-- where the list at the next place keeps what passes, one list more is filtered
pub one_filtered : (p : Event → Bool) (old new : List (Vec Event Global)) (place : ℕ) (list d : Vec Event Global) → place < length new
    → list.items ≡ filter p (get_or new place d).items → AreFiltered p old new place → AreFiltered p old (set new place list) (place + 1)
one_filtered p old new place list d inside left so_far = record {
  long = length-set new place list ∙ so_far.long;
  below =
      let lt : place < length old = omega (arith, inside, so_far.long) in
      ap events_in (take_more_set new place list inside) ∙ list_more (take place new) list
      ∙ ap (λ (es : List Event). es ++ list.items) so_far.below
      ∙ ap (λ (es : List Event). filter p (events_in (take place old)) ++ es)
      (left ∙ ap (λ (l : Vec Event Global). filter p l.items) (so_far.above place d (omega arith)))
      ∙ sym (ap (filter p) (list_at old place d lt) ∙ filter-append p (events_in (take place old)) (get_or old place d).items);
  above = λ i e over.
      get_or-set_other new place i list e (λ same. omega (arith, same, over)) ∙ so_far.above i e (omega (arith, over));
}

-- after the last list, the lists have the events of all that pass
pub all_filtered : (p : Event → Bool) (old new : List (Vec Event Global)) (place : ℕ) → length new ≤ place → AreFiltered p old new place
    → events_in new ≡ filter p (events_in old)
all_filtered p old new place past all =
    ap events_in (sym (take_all place new past)) ∙ all.below
    ∙ ap (λ (ls : List (Vec Event Global)). filter p (events_in ls)) (take_all place old (omega (arith, past, all.long)))
