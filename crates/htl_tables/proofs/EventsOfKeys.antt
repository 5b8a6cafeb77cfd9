-- The events of sort keys are listed one after the other.
use Rattle.std.proofs.Common.{◌≡◌, ◌+◌, ◌<◌, List, [], ◌∷◌, ◌++◌, length, Some, sym, ap, ◌∙◌, inl, inr, arith}
use Rattle.std.proofs.Common.{slice_get, subst}
use Rattle.std.specs.Borrow.{Bor}
use Rattle.std.proofs.lemmas.Bool.{cases_lt}
use Rattle.std.proofs.lemmas.List.{length-append}
use Rattle.std.proofs.lemmas.Option.{slice_get_within, same_Some}
use Rattle.htl_event.specs.Events.{Event}
use Rattle.htl_tables.specs.declared.sort_key.SortKey.{SortKey}
use Rattle.htl_tables.specs.SortKeys.{StandsAt, AreEventsOfKeys}
use Rattle.htl_tables.proofs.FlatPlaces.{get_left_back, get_right}

module _ {X : Type 0} (events_of : X → List Event) (lists : List X) (keys : List SortKey) where
  -- the event of the next key comes to them
  pub one_more : (events : List (Bor Event)) (t : SortKey) (e : Bor Event) → AreEventsOfKeys events_of lists keys events
      → slice_get keys (length events) ≡ Some t → StandsAt events_of lists t.list t.index e.now
      → AreEventsOfKeys events_of lists keys (events ++ e ∷ [])
  one_more events t e are at stands i x at_i = elim (cases_lt i (length events)) [
    | inl lt ↦ are i x (get_left_back events (e ∷ []) i x lt at_i)
    | inr ge ↦
        let inside : i < length (events ++ e ∷ []) = slice_get_within (events ++ e ∷ []) i x at_i in
        let within : i < length events + 1 = rw (length-append events (e ∷ [])) at inside in
        let last : i ≡ length events + 0 = omega (arith, ge, within) in
        let here : i ≡ length events = omega (arith, last) in
        let is : e ≡ x = same_Some e x (sym (get_right events (e ∷ []) 0) ∙ (rw last at at_i)) in
        record {
          key = t;
          at = ap (slice_get keys) here ∙ at;
          stands = subst (λ (y : Bor Event). StandsAt events_of lists t.list t.index y.now) is stands;
        }
  ]
