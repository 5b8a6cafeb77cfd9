-- Events noted in the order of their sort keys leave the latest event of each handle, of all processes or of one.
use Rattle.std.proofs.Common.{◌≡◌, ℕ, true, false, List, length, Option, Some, None, refl, sym, ap, ◌∙◌, inl, inr, IsSorted}
use Rattle.std.specs.Prelude.{flat_map}
use Rattle.std.proofs.lemmas.Bool.{cases_Bool, and_parts, and_from, both_ways}
use Rattle.std.proofs.lemmas.Option.{slice_get_within, get_or_from_slice_get}
use Rattle.htl_event.specs.Events.{Event}
use Rattle.htl_event.specs.Handles.{opens_or_closes}
use Rattle.htl_event.proofs.EventTests.{opens_or_closes_base}
use Rattle.htl_tables.specs.declared.sort_key.SortKey.{SortKey}
use Rattle.htl_tables.specs.OfProcess.{is_chosen, touches, noted_of}
use Rattle.htl_tables.specs.SortKeys.{sort_key_cmp, AreCandidates}
use Rattle.htl_tables.specs.FirstKeys.{FirstKeyIs}
use Rattle.htl_tables.proofs.FirstKeys.{keys_noted, key_of_event, opens_of}

-- an event that touches a handle of a chosen process opens or closes a handle
pub touches-opens : (chosen : Option ℕ) (e : Event) → touches chosen e ≡ true → opens_or_closes e.kind ≡ true
touches-opens chosen e c = (and_parts (opens_or_closes e.kind) (is_chosen chosen e.process) c).0

module _ {X : Type 0} (events_of : X → List Event) (lists : List X) (chosen : Option ℕ) (keys : List SortKey) (process base : ℕ)
    (are : AreCandidates events_of lists (touches chosen) keys) (sorted : IsSorted sort_key_cmp keys) where
  -- each event of a handle that is chosen for is among those that were gathered
  passes : is_chosen chosen process ≡ true → (e : Event) → opens_or_closes_base process base e ≡ true → touches chosen e ≡ true
  passes t e c = and_from (opens_or_closes e.kind) (is_chosen chosen e.process) (opens_of process base e c)
      (ap (is_chosen chosen) (key_of_event process base e 0 0 c).owner ∙ t)

  -- and no other is
  none : is_chosen chosen process ≡ false → (q : Option Event) → FirstKeyIs events_of lists (touches chosen) keys process base (length keys) q
      → q ≡ None
  none f None h = refl
  none f (Some e) one =
      let here = are.each one.key (
        one.place,
        slice_get_within keys one.place one.key one.at,
        get_or_from_slice_get keys one.place one.key one.key one.at,
      ) in
      let owner : one.key.process ≡ here.event.process = ap (λ (k : SortKey). k.process) here.is in
      let its = (and_parts (opens_or_closes here.event.kind) (is_chosen chosen here.event.process) here.passes).1 in
      absurd (both_ways (is_chosen chosen process) f (ap (is_chosen chosen) (sym one.of.owner ∙ owner) ∙ its))

  -- once all were noted
  pub chosen_noted : (o : Option Event) → FirstKeyIs events_of lists (touches chosen) keys process base (length keys) o
      → o ≡ noted_of chosen (flat_map events_of lists) process base
  chosen_noted o h = elim (cases_Bool (is_chosen chosen process)) [
    | inl t ↦ rw t (keys_noted events_of lists (touches chosen) keys process base (touches-opens chosen) are sorted (passes t) o h)
    | inr f ↦ rw f (none f o h)
  ]
