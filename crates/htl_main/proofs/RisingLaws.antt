-- Segments that are accepted one after the other rise, and of given ones the same first part is taken, whenever it is folded.
use Rattle.std.proofs.Common.{◌≡◌, ◌≢◌, ◌⊎◌, ◌<◌, ◌∙◌, ℕ, List, [], ◌∷◌, ◌++◌, Option, Some, None, refl, sym, ap, subst, inl, inr}
use Rattle.std.proofs.Common.{arith, append_assoc, append-nil}
use Rattle.std.specs.Prelude.{Contains}
use Rattle.std.specs.List.{AllByRecursion}
use Rattle.std.proofs.lemmas.Bool.{cases_lt}
use Rattle.std.proofs.lemmas.List.Elements.{Contains-append_left, Contains-append_right}
use Rattle.htl_event.specs.Members.{IsLeastSuch}
use Rattle.htl_event.proofs.Members.{Contains-cases, Contains-here, Contains-nil, at_member, some_member}
use Rattle.htl_segment.specs.Content.{Content}
use Rattle.htl_analyst.specs.TakenAll.{HasKeyOf, IsFirstOf}
use Rattle.htl_analyst.proofs.Firsts.{is_member}
use Rattle.htl_case.specs.Faults.{HaveOneContent, key_of}
use Rattle.htl_case.specs.declared.fault.CaseFault.{CaseFault}
use Rattle.htl_case.specs.declared.fault.CaseFault.TheVariants as cases
use Rattle.htl_main.specs.Folding.{Accepts, AreAccepted, AreAcceptedAfter, AreOfTraceOf, AreRising, Fall, FallsAt, IsOfPlace, IsUnfit}
use Rattle.htl_main.specs.Folding.{TakesUpTo, TakingEndsAt, counted}

-- ---- what was accepted rises

-- the first segments of one more are those from before, and that one where its key is new
first_of_push : (ss : List Content) (s t : Content) → IsFirstOf (ss ++ s ∷ []) t
    → IsFirstOf ss t ⊎ ((t ≡ s) × (HasKeyOf ss s.processor s.number → ⊥))
first_of_push [] s t first =
    elim first [
      | inl is ↦ inr (sym is, λ key. Contains-nil key.0 key.1)
      | inr later ↦ absurd (later.1)
    ]
first_of_push (u ∷ ss) s t first =
    elim first [
      | inl is ↦ inl (inl is)
      | inr later ↦ elim (first_of_push ss s t later.1) [
        | inl there ↦ inl (inr (later.0, there))
        | inr new ↦ inr (
          new.0,
          λ key. elim (Contains-cases u ss key.0 key.1) [
            | inl is ↦ later.0 (ap (λ (x : Content). x.processor) is ∙ key.2 ∙ ap (λ (x : Content). x.processor) (sym new.0))
                (ap (λ (x : Content). x.number) is ∙ key.3 ∙ ap (λ (x : Content). x.number) (sym new.0))
            | inr there ↦ new.1 (key.0, there, key.2, key.3)
          ],
        )
      ]
    ]

-- segments that rise go on to where one more neither falls nor makes another one fall
rise_push : (ss : List Content) (s : Content) → AreRising ss
    → ((HasKeyOf ss s.processor s.number → ⊥) → (t : Content) → IsFirstOf ss t → (Fall t s → ⊥) × (Fall s t → ⊥)) → AreRising (ss ++ s ∷ [])
rise_push ss s rising rises x y first_x first_y fall =
    elim (first_of_push ss s x first_x) [
      | inl x_in ↦ elim (first_of_push ss s y first_y) [
        | inl y_in ↦ rising x y x_in y_in fall
        | inr y_new ↦ (rises y_new.1 x x_in).0 (subst (Fall x) y_new.0 fall)
      ]
      | inr x_new ↦ elim (first_of_push ss s y first_y) [
        | inl y_in ↦ (rises x_new.1 y y_in).1 (subst (λ (z : Content). Fall z y) x_new.0 fall)
        | inr y_new ↦
            let lower = fall.number in
            let same = ap (λ (z : Content). z.number) (x_new.0 ∙ sym y_new.0) in
            omega (arith, lower, same)
      ]
    ]

rise_after : (before earlier more : List Content) → AreRising (before ++ earlier) → AreAcceptedAfter before earlier more
    → AreRising (before ++ (earlier ++ more))
rise_after before earlier [] rising accepted = subst (λ (ss : List Content). AreRising (before ++ ss)) (sym (append-nil earlier)) rising
rise_after before earlier (s ∷ more) rising accepted =
    subst (λ (ss : List Content). AreRising (before ++ ss)) (append_assoc earlier (s ∷ []) more)
    (rise_after before (earlier ++ s ∷ []) more
    (subst AreRising (append_assoc before earlier (s ∷ [])) (rise_push (before ++ earlier) s rising accepted.0.rises)) accepted.1)

-- segments that rise, and those that are accepted after them, rise
pub accepted_rise : (before taken : List Content) → AreRising before → AreAccepted before taken → AreRising (before ++ taken)
accepted_rise before taken rising accepted = rise_after before [] taken (subst AreRising (sym (append-nil before)) rising) accepted

-- ---- of given segments one first part is taken

accepted_at : (before earlier taken rest : List Content) (s : Content) → AreAcceptedAfter before earlier (taken ++ s ∷ rest)
    → Accepts before (earlier ++ taken) s
accepted_at before earlier [] rest s accepted = subst (λ (ss : List Content). Accepts before ss s) (sym (append-nil earlier)) accepted.0
accepted_at before earlier (t ∷ taken) rest s accepted =
    subst (λ (ss : List Content). Accepts before ss s) (append_assoc earlier (t ∷ []) taken)
    (accepted_at before (earlier ++ t ∷ []) taken rest s accepted.1)

-- Where a key has one content, why a segment isn't taken is one fault, and it is none of a segment that is accepted.
module _ (taken : List Content) (s : Content) (one : (t : Content) → IsFirstOf taken t → key_of t ≡ key_of s → t ≡ s) where
  not_other : AreOfTraceOf taken s → taken ≢ [] → AllByRecursion (λ t. t.trace_id ≢ s.trace_id) taken → ⊥
  not_other same some differ =
      let t = some_member taken some in
      at_member (λ t. t.trace_id ≢ s.trace_id) taken t.0 differ t.1
      (at_member (λ t. (t.trace_id ≡ s.trace_id) × (t.processors ≡ s.processors)) taken t.0 same t.1).0

  not_other_count : AreOfTraceOf taken s → taken ≢ []
      → AllByRecursion (λ t. (t.trace_id ≡ s.trace_id) × (t.processors ≢ s.processors)) taken → ⊥
  not_other_count same some differ =
      let t = some_member taken some in
      (at_member (λ t. (t.trace_id ≡ s.trace_id) × (t.processors ≢ s.processors)) taken t.0 differ t.1).1
      (at_member (λ t. (t.trace_id ≡ s.trace_id) × (t.processors ≡ s.processors)) taken t.0 same t.1).1

  not_both : taken ≢ [] → AllByRecursion (λ t. t.trace_id ≢ s.trace_id) taken
      → AllByRecursion (λ t. (t.trace_id ≡ s.trace_id) × (t.processors ≢ s.processors)) taken → ⊥
  not_both some differ same =
      let t = some_member taken some in
      at_member (λ t. t.trace_id ≢ s.trace_id) taken t.0 differ t.1
      (at_member (λ t. (t.trace_id ≡ s.trace_id) × (t.processors ≢ s.processors)) taken t.0 same t.1).0

  least_is_one : (n m : ℕ) → IsLeastSuch ◌<◌ (FallsAt taken s) n → IsLeastSuch ◌<◌ (FallsAt taken s) m → n ≡ m
  least_is_one n m is it =
      elim (cases_lt n m) [
        | inl lt ↦ absurd (it.least n lt is.holds)
        | inr le ↦ elim (cases_lt m n) [
          | inl lt ↦ absurd (is.least m lt it.holds)
          | inr other ↦ omega (arith, le, other)
        ]
      ]

  one_fault : (a b : CaseFault) (place : ℕ) → IsUnfit taken s a → IsOfPlace a place → IsUnfit taken s b → IsOfPlace b place → a ≡ b
  one_fault (cases.TwoContents p n) b place is at it there = absurd (is.5 (one is.2 is.3 is.4))
  one_fault (cases.OtherTrace i) (cases.OtherTrace j) place is at it there = ap cases.OtherTrace (at ∙ sym there)
  one_fault (cases.OtherTrace i) (cases.OtherProcessors j) place is at it there = absurd (not_both is.0 is.1 it.1)
  one_fault (cases.OtherTrace i) (cases.TwoContents p n) place is at it there = absurd (not_other it.1 is.0 is.1)
  one_fault (cases.OtherTrace i) (cases.Falling p n) place is at it there = absurd (not_other it.trace is.0 is.1)
  one_fault (cases.OtherTrace i) b place is at it there = absurd it
  one_fault (cases.OtherProcessors i) (cases.OtherTrace j) place is at it there = absurd (not_both it.0 it.1 is.1)
  one_fault (cases.OtherProcessors i) (cases.OtherProcessors j) place is at it there = ap cases.OtherProcessors (at ∙ sym there)
  one_fault (cases.OtherProcessors i) (cases.TwoContents p n) place is at it there = absurd (not_other_count it.1 is.0 is.1)
  one_fault (cases.OtherProcessors i) (cases.Falling p n) place is at it there = absurd (not_other_count it.trace is.0 is.1)
  one_fault (cases.OtherProcessors i) b place is at it there = absurd it
  one_fault (cases.Falling p n) (cases.OtherTrace j) place is at it there = absurd (not_other is.trace it.0 it.1)
  one_fault (cases.Falling p n) (cases.OtherProcessors j) place is at it there = absurd (not_other_count is.trace it.0 it.1)
  one_fault (cases.Falling p n) (cases.TwoContents q m) place is at it there = absurd (it.5 (one it.2 it.3 it.4))
  one_fault (cases.Falling p n) (cases.Falling q m) place is at it there =
      let same = least_is_one n m is.falls it.falls in
      let own : p ≡ q = is.processor ∙ sym it.processor in
      cc (same, own)
  one_fault (cases.Falling p n) b place is at it there = absurd it
  one_fault a b place is at it there = absurd is

-- a segment that is accepted isn't unfit
accepted_fits : (before taken : List Content) (s : Content) → ((t : Content) → IsFirstOf (before ++ taken) t → key_of t ≡ key_of s → t ≡ s)
    → Accepts before taken s → (fault : CaseFault) → IsUnfit (before ++ taken) s fault → ⊥
accepted_fits before taken s one accepted (cases.OtherTrace i) is = not_other (before ++ taken) s one accepted.trace is.0 is.1
accepted_fits before taken s one accepted (cases.OtherProcessors i) is = not_other_count (before ++ taken) s one accepted.trace is.0 is.1
accepted_fits before taken s one accepted (cases.TwoContents p n) is = is.5 (one is.2 is.3 is.4)
accepted_fits before taken s one accepted (cases.Falling p n) is =
    let at = is.falls.holds in
    let never = accepted.rises is.new at.0 at.1 in
    elim at.2 [ inl low ↦ never.0 low.0 | inr high ↦ never.1 high.0 ]
accepted_fits before taken s one accepted fault is = is

-- ---- two first parts of one list

-- they are the same, or the one goes on behind the other
record GoesOn (xs ys us vs : List Content) : Type 0 where
  next : Content
  between : List Content
  longer : us ≡ xs ++ next ∷ between
  rest : ys ≡ next ∷ (between ++ vs)

goes_on : (x : Content) (xs ys us vs : List Content) → GoesOn xs ys us vs → GoesOn (x ∷ xs) ys (x ∷ us) vs
goes_on x xs ys us vs on =
    record { next = on.next; between = on.between; longer = ap (λ (l : List Content). x ∷ l) on.longer; rest = on.rest }

two_parts : (xs ys us vs : List Content) → xs ++ ys ≡ us ++ vs
    → ((xs ≡ us) × (ys ≡ vs)) ⊎ (GoesOn xs ys us vs ⊎ GoesOn us vs xs ys)
two_parts [] ys [] vs same = inl (refl, same)
two_parts [] ys (u ∷ us) vs same = inr (inl (record { next = u; between = us; longer = refl; rest = same }))
two_parts (x ∷ xs) ys [] vs same = inr (inr (record { next = x; between = xs; longer = refl; rest = sym same }))
two_parts (x ∷ xs) ys (u ∷ us) vs same =
    let head : x ≡ u = cc in
    let tail : xs ++ ys ≡ us ++ vs = cc in
    elim (two_parts xs ys us vs tail) [
      | inl both ↦ (let first = both.0 in inl (cc, both.1))
      | inr (inl on) ↦ inr (inl (subst (λ (y : Content). GoesOn (x ∷ xs) ys (y ∷ us) vs) head (goes_on x xs ys us vs on)))
      | inr (inr on) ↦ inr (inr (subst (λ (y : Content). GoesOn (u ∷ us) vs (y ∷ xs) ys) (sym head) (goes_on u us vs xs ys on)))
    ]

module _ (before given : List Content) (content : HaveOneContent (before ++ given)) where
  one_of : (taken later more : List Content) (s : Content) → given ≡ taken ++ later → later ≡ s ∷ more → (t : Content)
      → IsFirstOf (before ++ taken) t → key_of t ≡ key_of s → t ≡ s
  one_of taken later more s cut next t first same =
      let all : (before ++ taken) ++ later ≡ before ++ given = append_assoc before taken later ∙ ap (λ (l : List Content). before ++ l) (sym cut) in
      let here = subst (λ (l : List Content). Contains l s) (sym next) (Contains-here s more) in
      content t s
      (subst (λ (l : List Content). Contains l t) all (Contains-append_left (before ++ taken) later t (is_member (before ++ taken) t first)))
      (subst (λ (l : List Content). Contains l s) all (Contains-append_right (before ++ taken) later s here)) same

  -- a reading that ends at a segment isn't one that goes on behind it
  ends_before : (first second : List Content) (one other : Option CaseFault) (is : TakesUpTo before given first one)
      (it : TakesUpTo before given second other) → GoesOn first is.later second it.later → ⊥
  ends_before first second None other is it on = (let none = is.ends in let next = on.rest in cc (none, next))
  ends_before first second (Some fault) other is it on =
      let ends = is.ends in
      let same : ends.0 ≡ on.next = (let next = on.rest in let there = ends.2 in cc (next, there)) in
      let accepted = accepted_at before [] first on.between on.next (subst (AreAccepted before) on.longer it.accepted) in
      accepted_fits before first ends.0 (one_of first is.later ends.1 ends.0 is.cut ends.2)
      (subst (Accepts before first) (sym same) accepted) fault ends.3

  same_end : (taken later : List Content) (one other : Option CaseFault) → given ≡ taken ++ later → TakingEndsAt before taken later one
      → TakingEndsAt before taken later other → one ≡ other
  same_end taken later None None cut is it = refl
  same_end taken later None (Some fault) cut is it = (let next = it.2 in cc (is, next))
  same_end taken later (Some fault) None cut is it = (let next = is.2 in cc (it, next))
  same_end taken later (Some fault) (Some cause) cut is it =
      let same : it.0 ≡ is.0 = (let next = is.2 in let there = it.2 in cc (next, there)) in
      let place = counted taken in
      ap Some (one_fault (before ++ taken) is.0 (one_of taken later is.1 is.0 cut is.2) fault cause place is.3 is.4
      (subst (λ (s : Content). IsUnfit (before ++ taken) s cause) same it.3) it.4)

  -- the segments that are taken, and why the next one isn't, are determined by what was taken before and by what is given
  pub one_reading : (first second : List Content) (one other : Option CaseFault) → TakesUpTo before given first one
      → TakesUpTo before given second other → (first ≡ second) × (one ≡ other)
  one_reading first second one other is it =
      elim (two_parts first is.later second it.later (sym is.cut ∙ it.cut)) [
        | inl both ↦ (
          both.0,
          same_end first is.later one other is.cut is.ends
              (subst (λ (l : List Content). TakingEndsAt before first l other) (sym both.1)
              (subst (λ (l : List Content). TakingEndsAt before l it.later other) (sym both.0) it.ends)),
        )
        | inr (inl on) ↦ absurd (ends_before first second one other is it on)
        | inr (inr on) ↦ absurd (ends_before second first other one it is on)
      ]
