-- What the format says of the events of segments holds of whatever is folded of them.
use Rattle.std.proofs.Common.{◌≡◌, ◌≢◌, ℕ, zero, suc, ◌+◌, ◌<◌, ◌^◌, ◌&&◌, List, [], ◌∷◌, Bool, true, cond}
use Rattle.std.proofs.Common.{sym, ◌∙◌, ap, arith, subst, inl, inr, eqb, not}
use Rattle.std.specs.Prelude.{Contains, count_by}
use Rattle.std.specs.List.{AllByRecursion}
use Rattle.std.specs.Cmp.{unsigned_Decides}
use Rattle.std.specs.Cmp.Lexicographic.{pointwise_decides}
use Rattle.std.proofs.lemmas.Bool.{cases_Bool, cases_lt, and_parts, eqb-true, eq-eqb, false≢true}
use Rattle.std.proofs.lemmas.List.Sums.{sum_by-cons}
use Rattle.htl_event.specs.Events.{Event}
use Rattle.htl_event.specs.Handles.{opens_or_closes, IsGreatestSequence, IsOf}
use Rattle.htl_event.specs.Slots.{base_of, same_slot, same_sign, slot_by_kind, is_slot, is_counted}
use Rattle.htl_event.specs.Tallies.{tally, has_stack, IsPositive}
use Rattle.htl_event.specs.declared.kind.Kind.{Kind}
use Rattle.htl_event.specs.declared.kind.Kind.TheVariants.{Opened, Closed, BadRef, Snapshot, Ref, Deref, Exited}
use Rattle.htl_event.specs.declared.slot.Slot.{Slot}
use Rattle.htl_event.specs.declared.slot.Slot.TheVariants.{Tagged, Handles, Bad}
use Rattle.htl_event.specs.declared.slot.Sign.{Sign}
use Rattle.htl_event.specs.declared.slot.Sign.TheVariants.{Plus, Minus}
use Rattle.htl_event.proofs.Members.{Contains-here, Contains-there, Contains-nil, Contains-cases, at_member}
use Rattle.htl_segment.specs.Numbers.{IsBytes}
use Rattle.htl_segment.specs.Content.{EventFits, EventsFit, Fits, fields_fit, is_no_tag}
use Rattle.htl_segment.specs.Traces.{Trace, events_of}
use Rattle.htl_segment.specs.declared.version.Version.{Version}
use Rattle.htl_segment.proofs.Spans.{above}
use Rattle.htl_segment.proofs.Traces.{members_agree}
use Rattle.htl_tree.proofs.Under.{same_slot_Decides}
use Rattle.htl_state.specs.WellFormed.{SlotFits, StackFits}
use Rattle.htl_saved.specs.Laws.{IsPlain}

-- an event that a segment has
pub record IsWritten (e : Event) : Type 0 where
  pub version : Version
  pub fits : EventFits version e
  pub some : 0 < e.sequence

event_fits : (v : Version) (last : ℕ) (es : List Event) → EventsFit v last es → (e : Event) → Contains es e → EventFits v e
event_fits v last [] fit e h = absurd (Contains-nil e h)
event_fits v last (x ∷ xs) fit e h =
    elim (Contains-cases x xs e h) [ inl is ↦ subst (EventFits v) is fit.0 | inr there ↦ event_fits v x.sequence xs fit.2 e there ]

-- each event of a trace's segments is one that a segment has
pub written : (T : Trace) → AllByRecursion Fits T.segments → (S : ℕ → ℕ → Bool) (e : Event) → Contains (events_of S T.segments) e
    → IsWritten e
written T fit S e here =
    let r = (members_agree S T.segments e).0 here in
    let fits : Fits r.0 = at_member Fits T.segments r.0 fit r.1 in
    record {
      version = r.0.version;
      fits = event_fits r.0.version 0 r.0.events fits.events e r.3;
      some = above r.0.version 0 r.0.events fits.events e r.3;
    }

-- ---- stacks

pub stack_written : (e : Event) → IsWritten e → StackFits e.stack
stack_written e w = record { depth = w.fits.in_range.depth; addresses = w.fits.in_range.stack }

-- ---- opens and closes

fields_of : (handle object : ℕ) (tag : List ℕ) → (not (eqb (base_of handle) 0) && eqb object 0 && is_no_tag tag) ≡ true
    → (base_of handle ≢ 0) × (object ≡ 0) × (tag ≡ 0 ∷ 0 ∷ 0 ∷ 0 ∷ [])
fields_of handle object tag fit =
    let one = and_parts (not (eqb (base_of handle) 0) && eqb object 0) (is_no_tag tag) fit in
    let two = and_parts (not (eqb (base_of handle) 0)) (eqb object 0) one.0 in (
      (λ e. false≢true (sym (ap not (eq-eqb (base_of handle) 0 e)) ∙ two.0)),
      eqb-true object 0 two.1,
      (pointwise_decides unsigned_Decides tag (0 ∷ 0 ∷ 0 ∷ 0 ∷ [])).0 one.1,
    )

kind_fields : (k : Kind) (handle object : ℕ) (tag : List ℕ) → opens_or_closes k ≡ true → fields_fit k handle object tag ≡ true
    → (base_of handle ≢ 0) × (object ≡ 0) × (tag ≡ 0 ∷ 0 ∷ 0 ∷ 0 ∷ [])
kind_fields Opened handle object tag opens fit = fields_of handle object tag fit
kind_fields Closed handle object tag opens fit = fields_of handle object tag fit
kind_fields BadRef handle object tag opens fit = absurd (false≢true opens)
kind_fields Snapshot handle object tag opens fit = absurd (false≢true opens)
kind_fields Ref handle object tag opens fit = absurd (false≢true opens)
kind_fields Deref handle object tag opens fit = absurd (false≢true opens)
kind_fields Exited handle object tag opens fit = absurd (false≢true opens)

-- an open or a close has a base handle, and no object and no tag
pub base_written : (e : Event) → IsWritten e → opens_or_closes e.kind ≡ true → base_of e.handle ≢ 0
base_written e w opens = (kind_fields e.kind e.handle e.object e.tag opens w.fits.fields).0

pub plain_written : (e : Event) → IsWritten e → opens_or_closes e.kind ≡ true → IsPlain e
plain_written e w opens =
    let f = kind_fields e.kind e.handle e.object e.tag opens w.fits.fields in record { object = f.1; tag = f.2 }

-- ---- slots

bytes_each : (tag : List ℕ) → AllByRecursion (λ b. b < 256) tag → IsBytes tag
bytes_each [] all i = omega arith
bytes_each (b ∷ tag) all zero = all.0
bytes_each (b ∷ tag) all (suc i) = bytes_each tag all.1 i

tag_slot : (e : Event) → IsWritten e → SlotFits (Tagged e.object e.tag)
tag_slot e w = (w.fits.in_range.object, w.fits.in_range.tag_len, bytes_each e.tag w.fits.in_range.tag)

same_fits : (s t : Slot) (b : Bool) → (same_slot s t && b) ≡ true → SlotFits t → SlotFits s
same_fits s t b e fits = subst SlotFits (sym ((same_slot_Decides s t).0 (and_parts (same_slot s t) b e).0)) fits

kind_slot : (k : Kind) (slot : Slot) (sign : Sign) (e : Event) → IsWritten e → is_slot slot sign (slot_by_kind k e) ≡ true → SlotFits slot
kind_slot Opened slot sign e w is = same_fits slot (Handles e.process) (same_sign sign Plus) is w.fits.in_range.process
kind_slot Closed slot sign e w is = same_fits slot (Handles e.process) (same_sign sign Minus) is w.fits.in_range.process
kind_slot BadRef slot sign e w is =
    same_fits slot (Bad e.process e.handle) (same_sign sign Plus) is (w.fits.in_range.process, w.fits.in_range.handle)
kind_slot Snapshot slot sign e w is = absurd (false≢true is)
kind_slot Ref slot sign e w is = same_fits slot (Tagged e.object e.tag) (same_sign sign Plus) is (tag_slot e w)
kind_slot Deref slot sign e w is = same_fits slot (Tagged e.object e.tag) (same_sign sign Minus) is (tag_slot e w)
kind_slot Exited slot sign e w is = absurd (false≢true is)

-- ---- what is counted

-- a positive count has an element that passes
some_counted : {X : Type 0} (p : X → Bool) (xs : List X) → 0 < count_by p xs → (x : X) × Contains xs x × (p x ≡ true)
some_counted p [] h = absurd (omega (arith, h))
some_counted p (x ∷ xs) h = elim (cases_Bool (p x)) [
  | inl holds ↦ (x, Contains-here x xs, holds)
  | inr fails ↦
      let split : count_by p (x ∷ xs) ≡ cond (p x) 1 0 + count_by p xs = sum_by-cons (λ y. cond (p y) 1 0) x xs in
      let none : cond (p x) 1 0 < 1 = rw fails (omega arith) in
      let r = some_counted p xs (omega (arith, h, split, none)) in
      (r.0, Contains-there x xs r.0 r.1, r.2)
]

module _ (events : List Event) (all : (e : Event) → Contains events e → IsWritten e) where
  counted_on : (slot : Slot) (stack : List ℕ) (sign : Sign) → 0 < count_by (λ e. is_counted slot sign e && has_stack stack e) events
      → SlotFits slot × StackFits stack
  counted_on slot stack sign some =
      let r = some_counted (λ (e : Event). is_counted slot sign e && has_stack stack e) events some in
      let w : IsWritten r.0 = all r.0 r.1 in
      let both = and_parts (is_counted slot sign r.0) (has_stack stack r.0) r.2 in (
        kind_slot r.0.kind slot sign r.0 w both.0,
        subst StackFits ((pointwise_decides unsigned_Decides r.0.stack stack).0 both.1) (stack_written r.0 w),
      )

  -- what is counted of the events has a slot and a stack that fit
  pub counted_fits : (slot : Slot) (stack : List ℕ) → IsPositive (tally events slot stack) → SlotFits slot × StackFits stack
  counted_fits slot stack some =
      elim (cases_lt 0 (tally events slot stack).plus) [
        | inl plus ↦ counted_on slot stack Plus plus
        | inr none ↦ counted_on slot stack Minus (omega (arith, some, none))
      ]

  -- the greatest sequence of some of the events is a number of 64 bits
  pub greatest_fits : (P : Event → Type 0) → ((e : Event) → P e → Contains events e) → (n : ℕ) → IsGreatestSequence P n → n < 2 ^ 64
  greatest_fits P in_events n is =
      elim is.reached [
        | inl none ↦ omega (arith, none)
        | inr found ↦ let f = (all found.0 (in_events found.0 found.1)).fits.in_range.sequence in omega (arith, f, found.2)
      ]

  -- a process that has such an event has a number of 32 bits
  pub process_fits : (kind : Kind) (process n : ℕ) → IsGreatestSequence (λ e. Contains events e × IsOf kind process e) n → 0 < n
      → process < 2 ^ 32
  process_fits kind process n is some =
      elim is.reached [
        | inl none ↦ absurd (omega (arith, none, some))
        | inr found ↦ let f = (all found.0 found.1.0).fits.in_range.process in omega (arith, f, found.1.1.1)
      ]
