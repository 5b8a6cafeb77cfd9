-- Balances over all objects are the same over the same events at other places, and over what is asked about for them.
use Rattle.std.proofs.Common.{◌≡◌, ℕ, Bool, true, List, [], ◌∷◌, map, refl, sym, ap, ◌∙◌, ◌&&◌, nat_eq, subst}
use Rattle.std.specs.Prelude.{count_by, filter, ◌↔◌}
use Rattle.std.specs.List.Sorted.{IsPermutation}
use Rattle.std.specs.Cmp.{unsigned_Decides}
use Rattle.std.specs.Cmp.Lexicographic.{pointwise, pointwise_decides}
use Rattle.std.proofs.lemmas.Bool.{and_parts, and_from}
use Rattle.std.proofs.lemmas.Cmp.{nat_cmp_total, nat_list_cmp_total, on_total, then_total, back_total}
use Rattle.htl_event.specs.Events.{Event}
use Rattle.htl_event.specs.Slots.{is_slot, slot_by_kind}
use Rattle.htl_event.specs.declared.interest.Interest.TheVariants.{Tag, AllEvents}
use Rattle.htl_event.specs.declared.kind.Kind.{Kind}
use Rattle.htl_event.specs.declared.kind.Kind.TheVariants.{Opened, Closed, BadRef, Snapshot, Ref, Deref, Exited}
use Rattle.htl_event.specs.declared.slot.Slot.TheVariants.{Tagged}
use Rattle.htl_event.specs.declared.slot.Sign.{Sign}
use Rattle.htl_event.specs.declared.slot.Count.{Count}
use Rattle.htl_event.specs.Members.{IsStrictOrder}
use Rattle.htl_event.specs.OrderLaws.{stack_total}
use Rattle.htl_event.specs.Tallies.{count_where, balance, has_stack, tally, IsPositive}
use Rattle.htl_event.specs.Summaries.{is_unbalanced}
use Rattle.htl_event.specs.Balances.{Balance, is_ref, is_deref, references_where, has_tag, HaveObjects, IsTagBalance, MostObjectsFirst}
use Rattle.htl_event.specs.Balances.{IsStackBalance, InStackOrder, BalancesAreDetermined}
use Rattle.htl_event.specs.Interests.{names_object, wants, without_stack, as_needed, wanted, BalancesNeedNoStack, StacksNeedTheirTag}
use Rattle.htl_event.proofs.Counts.{count_by-IsPermutation, count_where-IsPermutation}
use Rattle.htl_event.proofs.Members.{Lists-same}
use Rattle.htl_event.proofs.Orders.{strict_from_total}
use Rattle.htl_event.proofs.Wanted.{lists_too, lists_same, count_same, count_where_same}
use Rattle.htl_event.proofs.WantedSummaries.{all_without_stacks, count_bare, balance_same}

-- ---- orders

-- the order of balances, the greatest number of objects first and then by bytes, is strict
pub MostObjectsFirst-strict : IsStrictOrder MostObjectsFirst
MostObjectsFirst-strict =
    strict_from_total (then_total (back_total (on_total (λ (row : Balance). row.objects) nat_cmp_total))
    (on_total (λ (row : Balance). row.by) nat_list_cmp_total))

-- the order of balances by stack is strict
pub InStackOrder-strict : IsStrictOrder InStackOrder
InStackOrder-strict = strict_from_total (on_total (λ (row : Balance). row.by) stack_total)

-- ---- rows over two lists that count the same

objects_too : (P Q : ℕ → Type 0) (n : ℕ) → ((object : ℕ) → P object ↔ Q object) → HaveObjects P n → HaveObjects Q n
objects_too P Q n same (objects, listed, number) = (objects, lists_too P Q objects same listed, number)

abbrev Differs : List ℕ → Count → Type 0
Differs tag count = is_unbalanced (tag, count) ≡ true

tag_too : (xs ys : List Event) (row : Balance) → references_where (has_tag row.by) xs ≡ references_where (has_tag row.by) ys
    → ((object : ℕ) → balance xs object row.by ≡ balance ys object row.by) → IsTagBalance xs row → IsTagBalance ys row
tag_too xs ys row used balances is = record {
  used = is.used ∙ used;
  named = is.named;
  differing = objects_too _ _ row.objects (λ object.
      (subst (Differs row.by) (balances object), subst (Differs row.by) (sym (balances object)))) is.differing;
}

stack_too : (xs ys : List Event) (tag : List ℕ) (row : Balance)
    → references_where (λ e. has_tag tag e && has_stack row.by e) xs ≡ references_where (λ e. has_tag tag e && has_stack row.by e) ys
    → ((object : ℕ) → tally xs (Tagged object tag) row.by ≡ tally ys (Tagged object tag) row.by)
    → IsStackBalance xs tag row → IsStackBalance ys tag row
stack_too xs ys tag row used tallies is = record {
  used = is.used ∙ used;
  named = is.named;
  touched = objects_too _ _ row.objects (λ object. (subst IsPositive (tallies object), subst IsPositive (sym (tallies object)))) is.touched;
}

-- ---- the same events at other places

references-moved : (passes : Event → Bool) (xs ys : List Event) → IsPermutation xs ys → references_where passes xs ≡ references_where passes ys
references-moved passes xs ys moved =
    let refs = count_by-IsPermutation (λ e. is_ref e.kind && passes e) xs ys moved in
    let derefs = count_by-IsPermutation (λ e. is_deref e.kind && passes e) xs ys moved in
    λ i. record { plus = refs i; minus = derefs i }

-- over a list and the same list in another order, each answer about balances is one
pub balances_are_determined : (xs ys : List Event) → IsPermutation xs ys → BalancesAreDetermined xs ys
balances_are_determined xs ys moved =
    let used : (passes : Event → Bool) → references_where passes xs ≡ references_where passes ys =
    (λ passes. references-moved passes xs ys moved) in
    let balances : (object : ℕ) (tag : List ℕ) → balance xs object tag ≡ balance ys object tag =
    (λ object tag. count_where-IsPermutation (λ e. true) xs ys moved (Tagged object tag)) in
    let tallies : (object : ℕ) (tag stack : List ℕ) → tally xs (Tagged object tag) stack ≡ tally ys (Tagged object tag) stack =
    (λ object tag stack. count_where-IsPermutation (has_stack stack) xs ys moved (Tagged object tag)) in
    record {
      tags = λ all a b. Lists-same MostObjectsFirst MostObjectsFirst-strict _ _ a b (λ row. (
        λ h. (tag_too xs ys row (used _) (λ object. balances object row.by) h.0, h.1),
        λ h. (tag_too ys xs row (sym (used _)) (λ object. sym (balances object row.by)) h.0, h.1),
      ));
      stacks = λ tag a b. Lists-same InStackOrder InStackOrder-strict _ _ a b (λ row. (
        stack_too xs ys tag row (used _) (λ object. tallies object tag row.by),
        stack_too ys xs tag row (sym (used _)) (λ object. sym (tallies object tag row.by)),
      ));
    }

-- ---- without stacks

-- balances of tags need all events, but none of their stacks
pub balances_need_no_stack : (events own : List Event) → IsPermutation (wanted AllEvents events) own → BalancesNeedNoStack events own
balances_need_no_stack events own moved all rows =
    let counted : (test : Event → Bool) → ((e : Event) → test (without_stack e) ≡ test e) → count_by test events ≡ count_by test own =
    (λ test blind. sym (count_bare test blind events) ∙ ap (count_by test) (sym (all_without_stacks events))
    ∙ count_by-IsPermutation test (wanted AllEvents events) own moved) in
    let used : (tag : List ℕ) → references_where (has_tag tag) events ≡ references_where (has_tag tag) own = (λ tag.
    let refs = counted (λ e. is_ref e.kind && has_tag tag e) (λ e. refl) in
    let derefs = counted (λ e. is_deref e.kind && has_tag tag e) (λ e. refl) in
    λ i. record { plus = refs i; minus = derefs i }) in
    lists_same _ _ rows (λ row. (
      λ h. (tag_too events own row (used row.by) (λ object. balance_same events own moved object row.by) h.0, h.1),
      λ h. (tag_too own events row (sym (used row.by)) (λ object. sym (balance_same events own moved object row.by)) h.0, h.1),
    ))

-- ---- of one tag

-- the events of a tag are needed as they are
all_of_tag : (tag : List ℕ) (es : List Event) → map (as_needed (Tag tag)) es ≡ es
all_of_tag tag [] = refl
all_of_tag tag (e ∷ es) = ap (λ (l : List Event). e ∷ l) (all_of_tag tag es)

ref_named : (kind : Kind) → is_ref kind ≡ true → names_object kind ≡ true
ref_named Ref is = refl
ref_named kind is = absurd cc

deref_named : (kind : Kind) → is_deref kind ≡ true → names_object kind ≡ true
deref_named Deref is = refl
deref_named kind is = absurd cc

has_turned : (a b : List ℕ) → pointwise nat_eq a b ≡ true → pointwise nat_eq b a ≡ true
has_turned a b is = (pointwise_decides unsigned_Decides b a).1 (sym ((pointwise_decides unsigned_Decides a b).0 is))

-- what is counted under a tag is a reference or dereference under it
tagged_wanted : (kind : Kind) (object : ℕ) (tag : List ℕ) (sign : Sign) (e : Event)
    → is_slot (Tagged object tag) sign (slot_by_kind kind e) ≡ true → (names_object kind && has_tag tag e) ≡ true
tagged_wanted Opened object tag sign e is = absurd cc
tagged_wanted Closed object tag sign e is = absurd cc
tagged_wanted BadRef object tag sign e is = absurd cc
tagged_wanted Snapshot object tag sign e is = absurd cc
tagged_wanted Ref object tag sign e is = has_turned tag e.tag (and_parts _ _ (and_parts _ _ is).0).1
tagged_wanted Deref object tag sign e is = has_turned tag e.tag (and_parts _ _ (and_parts _ _ is).0).1
tagged_wanted Exited object tag sign e is = absurd cc

-- the stacks of a tag need its references and dereferences alone
pub stacks_need_their_tag : (tag : List ℕ) (events own : List Event) → IsPermutation (wanted (Tag tag) events) own
    → StacksNeedTheirTag tag events own
stacks_need_their_tag tag events own moved rows =
    let asked = wants (Tag tag) in
    let here = rw (all_of_tag tag (filter asked events)) at moved in
    let used : (stack : List ℕ) → references_where (λ e. has_tag tag e && has_stack stack e) events
    ≡ references_where (λ e. has_tag tag e && has_stack stack e) own = (λ stack.
    let refs = count_same (λ e. is_ref e.kind && (has_tag tag e && has_stack stack e)) asked (λ e h.
    let parts = and_parts _ _ h in and_from _ _ (ref_named e.kind parts.0) (and_parts _ _ parts.1).0) events
    ∙ count_by-IsPermutation (λ e. is_ref e.kind && (has_tag tag e && has_stack stack e)) (filter asked events) own here in
    let derefs = count_same (λ e. is_deref e.kind && (has_tag tag e && has_stack stack e)) asked (λ e h.
    let parts = and_parts _ _ h in and_from _ _ (deref_named e.kind parts.0) (and_parts _ _ parts.1).0) events
    ∙ count_by-IsPermutation (λ e. is_deref e.kind && (has_tag tag e && has_stack stack e)) (filter asked events) own here in
    λ i. record { plus = refs i; minus = derefs i }) in
    let tallies : (object : ℕ) (stack : List ℕ) → tally events (Tagged object tag) stack ≡ tally own (Tagged object tag) stack =
    (λ object stack. count_where_same (has_stack stack) asked (Tagged object tag)
    (λ sign e counted. tagged_wanted e.kind object tag sign e counted) events
    ∙ count_where-IsPermutation (has_stack stack) (filter asked events) own here (Tagged object tag)) in
    lists_same _ _ rows (λ row. (
      stack_too events own tag row (used row.by) (λ object. tallies object row.by),
      stack_too own events tag row (sym (used row.by)) (λ object. sym (tallies object row.by)),
    ))
