-- What is wanted of lists of events: of one after another, and which sequences it has.
use Rattle.std.proofs.Common.{◌≡◌, Bool, true, false, List, [], ◌∷◌, ◌++◌, map, refl, ap, ◌∙◌}
use Rattle.std.specs.Prelude.{filter, if◌then◌else◌}
use Rattle.std.proofs.lemmas.List.{map-append}
use Rattle.std.proofs.lemmas.List.Elements.{filter-append}
use Rattle.htl_event.specs.Events.{Event}
use Rattle.htl_event.specs.declared.interest.Interest.{Interest}
use Rattle.htl_event.specs.Interests.{wants, needs_stack, without_stack, as_needed, wanted}

-- what is wanted of two lists, one after the other
pub wanted-append : (interest : Interest) (xs ys : List Event) → wanted interest (xs ++ ys) ≡ wanted interest xs ++ wanted interest ys
wanted-append interest xs ys =
    ap (map (as_needed interest)) (filter-append (wants interest) xs ys)
    ∙ map-append (as_needed interest) (filter (wants interest) xs) (filter (wants interest) ys)

-- a test that doesn't see stacks sees the same in an event and in what is needed of it
pub unseen : {X : Type 0} (test : Event → X) → ((e : Event) → test (without_stack e) ≡ test e) → (interest : Interest) (e : Event)
    → test (as_needed interest e) ≡ test e
unseen test same interest e = either (needs_stack interest e.kind)
  where
    either : (whole : Bool) → test (if whole then e else without_stack e) ≡ test e
    either true = refl
    either false = same e

-- so it maps both lists to one
pub map-as_needed : {X : Type 0} (f : Event → X) → ((e : Event) → f (without_stack e) ≡ f e) → (interest : Interest) (es : List Event)
    → map f (map (as_needed interest) es) ≡ map f es
map-as_needed f same interest [] = refl
map-as_needed f same interest (e ∷ es) = rw (unseen f same interest e, map-as_needed f same interest es) refl
