-- The events of a process, an object or a handle are those whose bytes say that they can be, and that are.
use Rattle.std.proofs.Common.{◌≡◌, ◌+◌, ◌<◌, ◌++◌, ◌∷◌, ◌∙◌, [], ℕ, zero, suc, Bool, true, false, List, Option, None, Some, ap, append_assoc, arith, get_or}
use Rattle.std.proofs.Common.{inl, inr, length, map, refl, sym, take}
use Rattle.std.specs.Prelude.{◌&&◌, ◌==◌, filter, nat_le}
use Rattle.std.proofs.lemmas.Bool.{and_from, and_parts, both_ways, cases_Bool, eq-eqb, eqb-true}
use Rattle.std.proofs.lemmas.List.{take_more}
use Rattle.std.proofs.lemmas.List.Elements.{filter-append}
use Rattle.htl_event.specs.Events.{Event}
use Rattle.htl_event.specs.Moments.{counted_events}
use Rattle.htl_event.specs.Slots.{base_of}
use Rattle.htl_event.proofs.Members.{filter-pass, filter-skip}
use Rattle.htl_segment.specs.Content.{Content}
use Rattle.htl_evidence.specs.Columns.{AreColumnsOf, HaveColumns, byte_of, handle_bytes, is_counted, is_counted_own, number_in, object_bytes}
use Rattle.htl_evidence.specs.Columns.{process_bytes}
use Rattle.htl_evidence.specs.Told.{is_own, number_of, own_events}
use Rattle.htl_evidence.specs.declared.columns.Columns.{Columns}
use Rattle.htl_evidence.specs.declared.owner.Owner.{Owner}
use Rattle.htl_evidence.specs.declared.owner.Owner.TheVariants.{Process, Object, Handle}

-- ---- one event

and_false : (a b : Bool) → b ≡ false → (a && b) ≡ false
and_false true b is = is
and_false false b is = refl

false_and : (a b : Bool) → a ≡ false → (a && b) ≡ false
false_and a b is = rw is refl

-- the event has the number of what it is of
own_number : (owner : Owner) (e : Event) → is_own owner e ≡ true → number_in owner e ≡ number_of owner
own_number (Process process) e own = eqb-true e.process process own
own_number (Object object) e own = eqb-true e.object object own
own_number (Handle process base) e own =
    eqb-true (base_of e.handle) base (and_parts (e.process == process) (base_of e.handle == base) own).1

-- where the bytes differ, the event isn't of the process, the object or the handle
pub differs : (owner : Owner) (until : Option ℕ) (e : Event) (candidate byte : ℕ) → candidate ≡ byte_of (number_in owner e)
    → byte ≡ byte_of (number_of owner) → (candidate == byte) ≡ false → is_counted_own owner until e ≡ false
differs owner until e candidate byte of is other = elim (cases_Bool (is_own owner e)) [
  | inl own ↦
      let same : candidate ≡ byte = of ∙ ap byte_of (own_number owner e own) ∙ sym is in
      absurd (both_ways (candidate == byte) other (eq-eqb candidate byte same))
  | inr none ↦ and_false (is_counted until e) (is_own owner e) none
]

-- ---- the events of one segment

-- those found so far, and the next event where it is one
pub own_more : (p : Event → Bool) (events : List Event) (i : ℕ) (e : Event) (before old new : List Event) → i < length events
    → e ≡ get_or events i e → old ≡ before ++ filter p (take i events) → new ≡ old ++ filter p (e ∷ [])
    → new ≡ before ++ filter p (take (i + 1) events)
own_more p events i e before old new lt is so_far pushed =
    let next : take (i + 1) events ≡ take i events ++ e ∷ [] =
    take_more events i e lt ∙ ap (λ (x : Event). take i events ++ x ∷ []) (sym is) in
    pushed ∙ ap (λ (l : List Event). l ++ filter p (e ∷ [])) so_far
    ∙ append_assoc before (filter p (take i events)) (filter p (e ∷ []))
    ∙ ap (λ (l : List Event). before ++ l) (sym (ap (filter p) next ∙ filter-append p (take i events) (e ∷ [])))

-- two tests, one after the other, are both at once
both_tests : {X : Type 0} (p q : X → Bool) (xs : List X) → filter (λ x. p x && q x) xs ≡ filter q (filter p xs)
both_tests p q [] = refl
both_tests {X = X} p q (x ∷ xs) =
    let both : X → Bool = λ y. p y && q y in
    let rest = both_tests p q xs in
    elim (cases_Bool (p x)) [
      | inl first ↦ elim (cases_Bool (q x)) [
        | inl second ↦
            filter-pass both x xs (and_from (p x) (q x) first second) ∙ ap (λ (l : List X). x ∷ l) rest
            ∙ sym (ap (filter q) (filter-pass p x xs first) ∙ filter-pass q x (filter p xs) second)
        | inr second ↦
            filter-skip both x xs (and_false (p x) (q x) second) ∙ rest
            ∙ sym (ap (filter q) (filter-pass p x xs first) ∙ filter-skip q x (filter p xs) second)
      ]
      | inr first ↦ filter-skip both x xs (false_and (p x) (q x) first) ∙ rest ∙ sym (ap (filter q) (filter-skip p x xs first))
    ]

-- the events that count and are of the process, the object or the handle
pub counted_own_are : (owner : Owner) (until : Option ℕ) (es : List Event)
    → filter (is_counted_own owner until) es ≡ own_events (Some owner) (counted_events until es)
counted_own_are owner None es = refl
counted_own_are owner (Some moment) es = both_tests (λ e. nat_le e.sequence moment) (is_own owner) es

-- ---- the columns of all segments

-- what two lists are mapped to is the same place by place, where it is the same
same_at : {X Y Z : Type 0} (f : X → Z) (g : Y → Z) (xs : List X) (ys : List Y) (i : ℕ) (x : X) (y : Y) → map f xs ≡ map g ys
    → i < length ys → x ≡ get_or xs i x → y ≡ get_or ys i y → f x ≡ g y
same_at f g xs [] i x y same lt here there = absurd (omega (arith, lt))
same_at f g [] (w ∷ ys) i x y same lt here there = absurd (cc same)
same_at f g (v ∷ xs) (w ∷ ys) zero x y same lt here there = ap f here ∙ cc same ∙ sym (ap g there)
same_at f g (v ∷ xs) (w ∷ ys) (suc i) x y same lt here there = same_at f g xs ys i x y (cc same) (omega (arith, lt)) here there

-- those at a place are the columns of the segment at this place
pub columns_at : (ss : List Content) (all : List Columns) (i : ℕ) (s : Content) (c : Columns) → HaveColumns ss all → i < length ss
    → s ≡ get_or ss i s → c ≡ get_or all i c → AreColumnsOf s.events c
columns_at ss all i s c have lt there here = record {
  processes =
      same_at (λ (d : Columns). d.processes.items) (λ (t : Content). process_bytes t.events) all ss i c s have.processes lt here there;
  objects = same_at (λ (d : Columns). d.objects.items) (λ (t : Content). object_bytes t.events) all ss i c s have.objects lt here there;
  handles = same_at (λ (d : Columns). d.handles.items) (λ (t : Content). handle_bytes t.events) all ss i c s have.handles lt here there;
}
