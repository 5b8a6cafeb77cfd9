-- A summary is the same over all events and over the same events without their stacks, in whatever order.
use Rattle.std.proofs.Common.{IsPermutation, ◌≡◌, ℕ, Bool, true, cond, List, [], ◌∷◌, map, length, refl, sym, ap, ◌∙◌, subst, inl, inr, ◌&&◌, ◌==◌}
use Rattle.std.specs.Prelude.{Contains, count_by, ◌↔◌}
use Rattle.std.specs.List.{AllByRecursion}
use Rattle.std.proofs.lemmas.List.{length-map}
use Rattle.std.proofs.lemmas.List.Sums.{sum_by-cons}
use Rattle.std.proofs.lemmas.List.Sorted.{length_permutation}
use Rattle.htl_event.specs.Events.{Event}
use Rattle.htl_event.specs.Slots.{is_slot, is_counted, slot_by_kind}
use Rattle.htl_event.specs.declared.kind.Kind.{Kind}
use Rattle.htl_event.specs.declared.kind.Kind.TheVariants.{Opened, Closed, BadRef, Snapshot, Ref, Deref, Exited}
use Rattle.htl_event.specs.declared.slot.Slot.TheVariants.{Tagged}
use Rattle.htl_event.specs.declared.slot.Sign.{Sign}
use Rattle.htl_event.specs.declared.slot.Sign.TheVariants.{Plus, Minus}
use Rattle.htl_event.specs.declared.summary.ProcessRow.{ProcessRow}
use Rattle.htl_event.specs.declared.summary.ObjectRow.{ObjectRow}
use Rattle.htl_event.specs.Members.{IsRising}
use Rattle.htl_event.specs.Handles.{ByBase, IsOpen, HaveOwnSequences}
use Rattle.htl_event.specs.Tallies.{times, balance, IsPositive}
use Rattle.htl_event.specs.Summaries.{how_many, HasOutstanding, IsProcessRow, IsObject, IsOfObject, IsNumberOfObjects, IsObjectRow}
use Rattle.htl_event.specs.declared.interest.Interest.TheVariants.{AllEvents}
use Rattle.htl_event.specs.Interests.{without_stack, wanted, SummaryNeedsNoStack}
use Rattle.htl_event.proofs.Counts.{count_by-IsPermutation, same_rows}
use Rattle.htl_event.proofs.Determined.{one_event}
use Rattle.htl_event.proofs.Members.{Contains-here, Contains-there, Contains-nil, Contains-cases, Contains-map, Contains-from_map}
use Rattle.htl_event.proofs.Wanted.{Shows, greatest, open_alike, lists_same, in_own, from_own, alike_as_needed, as_needed_alike}

-- ---- lists without stacks

-- all events are asked about, and none of their stacks
pub all_without_stacks : (es : List Event) → wanted AllEvents es ≡ map without_stack es
all_without_stacks [] = refl
all_without_stacks (e ∷ es) = ap (λ (l : List Event). without_stack e ∷ l) (all_without_stacks es)

-- a test that looks at no stack counts as many
pub count_bare : (test : Event → Bool) → ((e : Event) → test (without_stack e) ≡ test e) → (es : List Event)
    → count_by test (map without_stack es) ≡ count_by test es
count_bare test blind [] = refl
count_bare test blind (e ∷ es) =
    let one : Event → ℕ = λ x. cond (test x) 1 0 in
    sum_by-cons one (without_stack e) (map without_stack es)
    ∙ rw (blind e, count_bare test blind es) (sym (sum_by-cons one e es))

slot_bare : (kind : Kind) (e : Event) → slot_by_kind kind (without_stack e) ≡ slot_by_kind kind e
slot_bare Opened e = refl
slot_bare Closed e = refl
slot_bare BadRef e = refl
slot_bare Snapshot e = refl
slot_bare Ref e = refl
slot_bare Deref e = refl
slot_bare Exited e = refl

after_bare : (e : Event) (es : List Event) → AllByRecursion (ByBase e) es ↔ AllByRecursion (ByBase (without_stack e)) (map without_stack es)
after_bare e [] = (λ h. tt, λ h. tt)
after_bare e (x ∷ es) =
    let others = after_bare e es in
    (λ h. (h.0, others.0 h.1), λ h. (h.0, others.1 h.1))

rising_bare : (es : List Event) → IsRising ByBase es ↔ IsRising ByBase (map without_stack es)
rising_bare [] = (λ h. tt, λ h. tt)
rising_bare (e ∷ es) =
    let here = after_bare e es in
    let others = rising_bare es in
    (λ h. (here.0 h.0, others.0 h.1), λ h. (here.1 h.0, others.1 h.1))

-- ---- rows over lists with the same events but for their stacks

-- the rows are events of the set without their stacks
record AreBare (A : Event → Type 0) (rows : List Event) : Type 0 where
  pub whole : List Event
  pub are : map without_stack whole ≡ rows
  pub among : (x : Event) → Contains whole x → A x

process_row_too : (xs ys : List Event) (row : ProcessRow)
    → (HasOutstanding xs row.process row.outstanding → HasOutstanding ys row.process row.outstanding)
    → ((is_kind : Kind → Bool) → how_many is_kind xs row.process ≡ how_many is_kind ys row.process)
    → Shows row.process (Contains xs) (Contains ys) → Shows row.process (Contains ys) (Contains xs)
    → IsProcessRow xs row → IsProcessRow ys row
process_row_too xs ys row outstanding counts shown back is = record {
  some = is.some;
  handles = outstanding is.handles;
  opened = is.opened ∙ counts _;
  closed = is.closed ∙ counts _;
  misused = is.misused ∙ counts _;
  marked = greatest row.process (Contains xs) (Contains ys) Snapshot row.mark refl shown back is.marked;
  exited = greatest row.process (Contains xs) (Contains ys) Exited row.exit refl shown back is.exited;
}

object_row_too : (xs ys : List Event) (row : ObjectRow)
    → ((object : ℕ) (tag : List ℕ) → balance xs object tag ≡ balance ys object tag) → IsObjectRow xs row → IsObjectRow ys row
object_row_too xs ys row same is = record {
  balances = is.balances;
  all = (lists_same _ _ is.balances (same_rows (balance xs row.object) (balance ys row.object) IsPositive (same row.object))).0 is.all;
  number = is.number;
  differing = is.differing;
  plus = is.plus;
  minus = is.minus;
}

-- ---- the law

module _ (events own : List Event) (moved : IsPermutation (wanted AllEvents events) own) where
  abbrev A : Event → Type 0
  A = Contains events

  abbrev B : Event → Type 0
  B = Contains own

  there : (x : Event) → A x → B (without_stack x)
  there x here = in_own AllEvents events own moved x refl here

  back : (x : Event) → B x → (y : Event) × A y × (without_stack y ≡ x)
  back = from_own AllEvents events own moved

  shown : (p : ℕ) → Shows p A B
  shown p x owner tracks here = (without_stack x, there x here, alike_as_needed AllEvents x)

  shown_back : (p : ℕ) → Shows p B A
  shown_back p x owner tracks here =
      let (y, found, is) = back x here in
      (y, found, as_needed_alike AllEvents y x is)

  open_there : (p : ℕ) (x : Event) → IsOpen A p x → IsOpen B p (without_stack x)
  open_there p x o =
      open_alike p A B x (without_stack x) (alike_as_needed AllEvents x) (there x o.latest.here) (shown p) (shown_back p) o

  open_back : (p : ℕ) (x : Event) → A x → IsOpen B p (without_stack x) → IsOpen A p x
  open_back p x here o =
      open_alike p B A (without_stack x) x (as_needed_alike AllEvents x (without_stack x) refl) here (shown_back p) (shown p) o

  -- for each of these rows there is an event that has a stack too
  whole_rows : (rows : List Event) → ((x : Event) → Contains rows x → B x) → AreBare A rows
  whole_rows [] are = record { whole = []; are = refl; among = λ x h. absurd (Contains-nil x h) }
  whole_rows (r ∷ rows) are =
      let (x, here, is) = back r (are r (Contains-here r rows)) in
      let others = whole_rows rows (λ y h. are y (Contains-there r rows y h)) in
      record {
        whole = x ∷ others.whole;
        are = rw (is, others.are) refl;
        among = λ y h. elim (Contains-cases x others.whole y h) [ inl same ↦ subst A same here | inr later ↦ others.among y later ];
      }

  outstanding_there : (p n : ℕ) → HasOutstanding events p n → HasOutstanding own p n
  outstanding_there p n (opens, lists, number) = (
    map without_stack opens,
    record {
      rising = (rising_bare opens).0 lists.rising;
      members = λ x. (
        λ h.
            let (y, listed, is) = Contains-from_map without_stack opens x h in
            subst (IsOpen B p) is (open_there p y ((lists.members y).0 listed)),
        λ o.
            let (y, here, is) = back x o.latest.here in
            let opened : IsOpen A p y = open_back p y here (subst (IsOpen B p) (sym is) o) in
            subst (Contains (map without_stack opens)) is (Contains-map without_stack opens y ((lists.members y).1 opened)),
      );
    },
    number ∙ sym (length-map opens without_stack),
  )

  -- Each open event is the one that was chosen for its row, since the two have one sequence.
  outstanding_back : HaveOwnSequences events → (p n : ℕ) → HasOutstanding own p n → HasOutstanding events p n
  outstanding_back each p n (rows, lists, number) =
      let bare = whole_rows rows (λ x h. ((lists.members x).0 h).latest.here) in
      let opens = bare.whole in (
        opens,
        record {
          rising = (rising_bare opens).1 (subst (IsRising ByBase) (sym bare.are) lists.rising);
          members = λ x. (
            λ h.
                let listed : Contains rows (without_stack x) = subst (λ l. Contains l (without_stack x)) bare.are
                (Contains-map without_stack opens x h) in
                open_back p x (bare.among x h) ((lists.members (without_stack x)).0 listed),
            λ o.
                let listed : Contains rows (without_stack x) = (lists.members (without_stack x)).1 (open_there p x o) in
                let (y, chosen, is) = Contains-from_map without_stack opens (without_stack x)
                (subst (λ l. Contains l (without_stack x)) (sym bare.are) listed) in
                subst (Contains opens) (one_event events each y x (bare.among y chosen) o.latest.here (ap (λ (e : Event). e.sequence) is)) chosen,
          );
        },
        number ∙ ap length (sym bare.are) ∙ length-map opens without_stack,
      )

  counts_same : (test : Event → Bool) → ((e : Event) → test (without_stack e) ≡ test e) → count_by test events ≡ count_by test own
  counts_same test blind =
      sym (count_bare test blind events) ∙ ap (count_by test) (sym (all_without_stacks events))
      ∙ count_by-IsPermutation test (wanted AllEvents events) own moved

  -- a tag of an object has the same balance without stacks
  pub balance_same : (object : ℕ) (tag : List ℕ) → balance events object tag ≡ balance own object tag
  balance_same object tag =
      let side : (sign : Sign) → times (λ e. true) events (Tagged object tag) sign ≡ times (λ e. true) own (Tagged object tag) sign =
      (λ sign. counts_same (λ e. is_counted (Tagged object tag) sign e && true)
      (λ e. ap (λ s. is_slot (Tagged object tag) sign s && true) (slot_bare e.kind e))) in
      rw (side Plus, side Minus) refl

  object_there : (object : ℕ) → IsObject events object → IsObject own object
  object_there object (e, here, of) = (without_stack e, there e here, record { kind = of.kind; target = of.target })

  object_back : (object : ℕ) → IsObject own object → IsObject events object
  object_back object (e, here, of) =
      let (y, found, is) = back e here in
      let same : IsOfObject object (without_stack y) = subst (IsOfObject object) (sym is) of in
      (y, found, record { kind = same.kind; target = same.target })

  process_row_same : HaveOwnSequences events → (row : ProcessRow) → IsProcessRow events row ↔ IsProcessRow own row
  process_row_same each row =
      let p = row.process in
      let counts : (is_kind : Kind → Bool) → how_many is_kind events p ≡ how_many is_kind own p =
      (λ is_kind. counts_same (λ e. is_kind e.kind && p == e.process) (λ e. refl)) in (
        process_row_too events own row (outstanding_there p row.outstanding) counts (shown p) (shown_back p),
        process_row_too own events row (outstanding_back each p row.outstanding) (λ is_kind. sym (counts is_kind)) (shown_back p) (shown p),
      )

  numbers_same : (n : ℕ) → IsNumberOfObjects events n ↔ IsNumberOfObjects own n
  numbers_same n =
      let same = (λ (objects : List ℕ). lists_same (IsObject events) (IsObject own) objects
      (λ object. (object_there object, object_back object))) in
      (λ h. (h.0, (same h.0).0 h.1, h.2), λ h. (h.0, (same h.0).1 h.1, h.2))

-- a summary needs all events, but none of their stacks
pub summary_needs_no_stack : (events own : List Event) → IsPermutation (wanted AllEvents events) own → SummaryNeedsNoStack events own
summary_needs_no_stack events own moved = record {
  number = length_permutation (wanted AllEvents events) own moved ∙ ap length (all_without_stacks events) ∙ length-map events without_stack;
  processes = λ each rows. lists_same (IsProcessRow events) (IsProcessRow own) rows (process_row_same events own moved each);
  objects = numbers_same events own moved;
  unbalanced = λ rows. lists_same _ _ rows (λ row. (
    λ h. (object_row_too events own row (balance_same events own moved) h.0, h.1),
    λ h. (object_row_too own events row (λ object tag. sym (balance_same events own moved object tag)) h.0, h.1),
  ));
}
