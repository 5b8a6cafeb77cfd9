-- Where there is nothing of what a question asks about, its answer finds nothing.
use Rattle.std.proofs.Common.{◌≡◌, ℕ, ◌<◌, ◌≤◌, Bool, true, false, ◌&&◌, ◌||◌, not, List, [], ◌∷◌, Option, Some, None, refl, sym, ap, ◌∙◌, subst, arith}
use Rattle.std.proofs.Common.{inl, inr, ◌⊎◌, length, nat_eq}
use Rattle.std.specs.Prelude.{Contains, count_by, filter, nat_le, nat_lt, ◌==◌}
use Rattle.std.specs.List.{list_any}
use Rattle.std.specs.Cmp.{unsigned_Decides}
use Rattle.std.specs.Cmp.Lexicographic.{pointwise, pointwise_decides}
use Rattle.std.proofs.lemmas.Bool.{and_from, and_parts, cases_Bool, cases_lt, eq-eqb, eqb-true, leb-true, lt-ltb}
use Rattle.std.proofs.lemmas.List.Sums.{length-filter}
use Rattle.htl_event.proofs.Members.{Contains-from_filter, Contains-here, Contains-nil, some_member}
use Rattle.htl_symbols.proofs.Searches.{list_any-true}
use Rattle.htl_event.specs.Balances.{Balance, AreBalances, AreTagStacks, IsListed, IsStackBalance, IsTagBalance, has_tag, is_deref, is_ref}
use Rattle.htl_event.specs.Balances.{references_where}
use Rattle.htl_event.specs.Events.{Event}
use Rattle.htl_event.specs.Handles.{IsDiff, IsListing, IsOfHandle, IsOpen}
use Rattle.htl_event.specs.Interests.{names_object}
use Rattle.htl_event.specs.Members.{Lists}
use Rattle.htl_event.specs.Moments.{counted_events}
use Rattle.htl_event.specs.Sites.{Site, AreOpenAnywhere, CountsSince, IsSite, IsSites}
use Rattle.htl_event.specs.Slots.{base_of, is_counted, is_slot, slot_by_kind}
use Rattle.htl_event.specs.Summaries.{IsObjectRow, IsProcessRow, IsProcesses, IsUnbalanced, is_unbalanced}
use Rattle.htl_event.specs.Tallies.{AreOpenSince, IsBad, IsLeaksSince, IsPositive, IsStacks, IsTags, balance, count_where, has_stack, tally, times}
use Rattle.htl_event.specs.declared.kind.Kind.{Kind}
use Rattle.htl_event.specs.declared.kind.Kind.TheVariants.{Opened, Closed, BadRef, Snapshot, Ref, Deref, Exited}
use Rattle.htl_event.specs.declared.slot.Count.{Count}
use Rattle.htl_event.specs.declared.slot.Sign.{Sign}
use Rattle.htl_event.specs.declared.slot.Sign.TheVariants.{Plus, Minus}
use Rattle.htl_event.specs.declared.slot.Slot.{Slot}
use Rattle.htl_event.specs.declared.slot.Slot.TheVariants.{Bad as bad_of, Tagged}
use Rattle.htl_event.specs.declared.summary.ObjectRow.{ObjectRow}
use Rattle.htl_event.specs.declared.summary.ProcessRow.{ProcessRow}
use Rattle.htl_event.specs.declared.since.Since.{Since}
use Rattle.htl_event.specs.declared.since.Since.TheVariants.{Sequence, Snapshot}
use Rattle.htl_segment.specs.Traces.{Trace, all_events}
use Rattle.htl_question.specs.Answers.{AreRows, IsSinceIfGiven, after, process_of}
use Rattle.htl_question.specs.Bases.{Basis}
use Rattle.htl_question.specs.Questions.{asks_since}
use Rattle.htl_question.specs.Rows.{Found, Listed, has_finding, has_rows}
use Rattle.htl_question.specs.Subjects.{is_of, names_handle}
use Rattle.htl_question.specs.declared.question.Question.{Question}
use Rattle.htl_question.specs.declared.question.Question.TheVariants as questions
use Rattle.htl_question.specs.declared.subject.Subject.TheVariants as subjects
use Rattle.htl_evidence.specs.Bases.{IsAnswer}
use Rattle.htl_main.specs.Subjects.{absence_by, absence_in, has_subject, is_below_last, is_growth, given_sequence, later_absence, since_of}
use Rattle.htl_main.specs.declared.completed.Absence.{Absence}

-- ---- lists without elements

-- a list without an element is empty
none_there : {X : Type 0} (xs : List X) → ((x : X) → Contains xs x → ⊥) → xs ≡ []
none_there [] none = refl
none_there (x ∷ xs) none = absurd (none x (Contains-here x xs))

-- a list that names the elements of an empty set is empty
lists_none : {X : Type 0} {before : X → X → Type 0} (P : X → Type 0) (xs : List X) → Lists before P xs → ((x : X) → P x → ⊥) → xs ≡ []
lists_none P xs lists none = none_there xs (λ x h. none x ((lists.members x).0 h))

-- where no element passes, one that passes isn't there
not_there : {X : Type 0} (p : X → Bool) (xs : List X) → list_any p xs ≡ false → (x : X) → Contains xs x → p x ≡ true → ⊥
not_there p xs none x here passes = cc (sym none ∙ list_any-true p xs x here passes)

-- of a count above 0 an element passes
some_counted : {X : Type 0} (p : X → Bool) (xs : List X) → 0 < count_by p xs → (x : X) × Contains xs x × (p x ≡ true)
some_counted p xs lt =
    let is = length-filter p xs in
    let some = some_member (filter p xs) (λ e. let long : length (filter p xs) ≡ 0 = ap length e in omega (arith, is, lt, long)) in
    let from = Contains-from_filter p xs some.0 some.1 in
    (some.0, from.0, from.1)

-- ---- handles of a process without an event

-- no event is of the process
abbrev HasNone : ℕ → List Event → Type 0
HasNone p events = list_any (λ e. e.process == p) events ≡ false

not_of : (p : ℕ) (events : List Event) → HasNone p events → (e : Event) → Contains events e → e.process ≡ p → ⊥
not_of p events none e here owner = not_there (λ x. x.process == p) events none e here (eq-eqb e.process p owner)

none_open : (p : ℕ) (events : List Event) → HasNone p events → (e : Event) → IsOpen (Contains events) p e → ⊥
none_open p events none e is = not_of p events none e is.latest.here is.latest.of_handle.owner

-- no open handle was opened after the moment, where one is given
abbrev NoneSince : List Event → ℕ → Option ℕ → Type 0
NoneSince events p None = (e : Event) → IsOpen (Contains events) p e → ⊥
NoneSince events p (Some since) = (e : Event) → IsOpen (Contains events) p e → since < e.sequence → ⊥

no_handles : (events : List Event) (p : ℕ) (since : Option ℕ) (rows : List Event) → NoneSince events p since
    → AreOpenSince (Contains events) p since rows → rows ≡ []
no_handles events p None rows none are = lists_none (IsOpen (Contains events) p) rows are none
no_handles events p (Some since) rows none are =
    lists_none (λ e. IsOpen (Contains events) p e × (since < e.sequence)) rows are (λ e h. none e h.0 h.1)

no_leaks : (events : List Event) (p : ℕ) (since : Option ℕ) (least : ℕ) (rows : List (List ℕ × ℕ)) → NoneSince events p since
    → IsLeaksSince (Contains events) p since least rows → rows ≡ []
no_leaks events p since least rows none is =
    let empty = no_handles events p since is.handles none is.are in
    lists_none (λ (row : List ℕ × ℕ). (row.1 ≡ count_by (has_stack row.0) is.handles) × ((0 < row.1) × (least ≤ row.1))) rows is.stacks (λ row h.
    let number = h.0 in let some = h.1.0 in
    let zero : count_by (has_stack row.0) is.handles ≡ 0 = ap (λ (es : List Event). count_by (has_stack row.0) es) empty in
    omega (arith, number, some, zero))

-- nor of any process
no_handles_anywhere : (events : List Event) (since : ℕ) (rows : List Event)
    → ((e : Event) → Contains events e → since < e.sequence → ⊥) → AreOpenAnywhere (Contains events) (Some (Sequence since)) rows → rows ≡ []
no_handles_anywhere events since rows none are =
    lists_none (λ e. IsOpen (Contains events) e.process e × CountsSince (Contains events) (Some (Sequence since)) e) rows are
    (λ e h. none e h.0.latest.here h.1)

no_sites : (events : List Event) (since : ℕ) (least : ℕ) (rows : List Site)
    → ((e : Event) → Contains events e → since < e.sequence → ⊥) → IsSites (Contains events) (Some (Sequence since)) least rows → rows ≡ []
no_sites events since least rows none is =
    let empty = no_handles_anywhere events since is.handles none is.are in
    lists_none (λ (site : Site). IsSite is.handles site × ((0 < site.handles) × (least ≤ site.handles))) rows is.stacks (λ site h.
    let number = (h.0).opened in let some = h.1.0 in
    let zero : count_by (has_stack site.stack) is.handles ≡ 0 = ap (λ (es : List Event). count_by (has_stack site.stack) es) empty in
    omega (arith, number, some, zero))

-- since a moment that is given or not
none_since : (p : ℕ) (events : List Event) → HasNone p events → (since : Option ℕ) → NoneSince events p since
none_since p events none None = none_open p events none
none_since p events none (Some since) = λ e is later. none_open p events none e is

-- ---- what is counted under a slot

-- an event that is counted under a bad reference of a process is of it
bad_owner : (k : Kind) (p h : ℕ) (sign : Sign) (e : Event) → is_slot (bad_of p h) sign (slot_by_kind k e) ≡ true → e.process ≡ p
bad_owner Opened p h sign e is = absurd cc
bad_owner Closed p h sign e is = absurd cc
bad_owner BadRef p h sign e is = sym (eqb-true p e.process (and_parts _ _ (and_parts _ _ is).0).0)
bad_owner Snapshot p h sign e is = absurd cc
bad_owner Ref p h sign e is = absurd cc
bad_owner Deref p h sign e is = absurd cc
bad_owner Exited p h sign e is = absurd cc

-- an event is about an object and its tag
abbrev is_of_tag : ℕ → List ℕ → Event → Bool
is_of_tag object tag e = (e.object == object) && pointwise nat_eq e.tag tag

same_tag : (o : ℕ) (t : List ℕ) (e : Event) → (o == e.object && pointwise nat_eq t e.tag) ≡ true → is_of_tag o t e ≡ true
same_tag o t e is =
    let both = and_parts (o == e.object) (pointwise nat_eq t e.tag) is in
    and_from (e.object == o) (pointwise nat_eq e.tag t) (eq-eqb e.object o (sym (eqb-true o e.object both.0)))
    ((pointwise_decides unsigned_Decides e.tag t).1 (sym ((pointwise_decides unsigned_Decides t e.tag).0 both.1)))

-- an event that is counted under a tag of an object is about both
tagged_about : (k : Kind) (o : ℕ) (t : List ℕ) (sign : Sign) (e : Event) → is_slot (Tagged o t) sign (slot_by_kind k e) ≡ true
    → (names_object k && is_of_tag o t e) ≡ true
tagged_about Opened o t sign e is = absurd cc
tagged_about Closed o t sign e is = absurd cc
tagged_about BadRef o t sign e is = absurd cc
tagged_about Snapshot o t sign e is = absurd cc
tagged_about Ref o t sign e is = same_tag o t e (and_parts _ _ is).0
tagged_about Deref o t sign e is = same_tag o t e (and_parts _ _ is).0
tagged_about Exited o t sign e is = absurd cc

-- of a count that isn't 0 an event was counted, on one side
counted_once : (passes : Event → Bool) (events : List Event) (slot : Slot) (c : Count) → c ≡ count_where passes events slot → IsPositive c
    → (sign : Sign) × (e : Event) × Contains events e × (is_counted slot sign e ≡ true)
counted_once passes events slot c is some =
    let plus : c.plus ≡ times passes events slot Plus = ap (λ (x : Count). x.plus) is in
    let minus : c.minus ≡ times passes events slot Minus = ap (λ (x : Count). x.minus) is in
    elim (cases_lt 0 (times passes events slot Plus)) [
      | inl lt ↦
          let one = some_counted (λ e. is_counted slot Plus e && passes e) events lt in
          (Plus, one.0, one.1, (and_parts (is_counted slot Plus one.0) (passes one.0) one.2).0)
      | inr none ↦
          let lt : 0 < times passes events slot Minus = omega (arith, plus, minus, some, none) in
          let one = some_counted (λ e. is_counted slot Minus e && passes e) events lt in
          (Minus, one.0, one.1, (and_parts (is_counted slot Minus one.0) (passes one.0) one.2).0)
    ]

no_bad : (p : ℕ) (events : List Event) (rows : List (ℕ × List ℕ × ℕ)) → HasNone p events → IsBad events p rows → rows ≡ []
no_bad p events rows none is =
    lists_none (λ (row : ℕ × List ℕ × ℕ). (row.2 ≡ (tally events (bad_of p row.0) row.1).plus) × (0 < row.2)) rows is (λ row h.
    let number : row.2 ≡ times (has_stack row.1) events (bad_of p row.0) Plus = h.0 in let some = h.1 in
    let one = some_counted (λ e. is_counted (bad_of p row.0) Plus e && has_stack row.1 e) events (omega (arith, number, some)) in
    not_of p events none one.0 one.1 (bad_owner (one.0).kind p row.0 Plus one.0
    (and_parts (is_counted (bad_of p row.0) Plus one.0) (has_stack row.1 one.0) one.2).0))

no_tags : (o : ℕ) (events : List Event) (rows : List (List ℕ × Count)) → list_any (is_of (subjects.Object o)) events ≡ false
    → IsTags events o rows → rows ≡ []
no_tags o events rows none is =
    lists_none (λ (row : List ℕ × Count). (row.1 ≡ balance events o row.0) × IsPositive row.1) rows is (λ row h.
    let one = counted_once (λ e. true) events (Tagged o row.0) row.1 h.0 h.1 in
    let e = one.1 in
    let about = and_parts (names_object e.kind) (is_of_tag o row.0 e) (tagged_about e.kind o row.0 one.0 e one.3) in
    not_there (is_of (subjects.Object o)) events none e one.2 (and_from (names_object e.kind) (e.object == o) about.0
    (and_parts (e.object == o) (pointwise nat_eq e.tag row.0) about.1).0))

no_stacks : (o : ℕ) (t : List ℕ) (events : List Event) (rows : List (List ℕ × Count))
    → list_any (is_of (subjects.Tag o t)) events ≡ false → IsStacks events o t rows → rows ≡ []
no_stacks o t events rows none is =
    lists_none (λ (row : List ℕ × Count). (row.1 ≡ tally events (Tagged o t) row.0) × IsPositive row.1) rows is (λ row h.
    let one = counted_once (has_stack row.0) events (Tagged o t) row.1 h.0 h.1 in
    not_there (is_of (subjects.Tag o t)) events none one.1 one.2 (tagged_about (one.1).kind o t one.0 one.1 one.3))

-- ---- references and dereferences of all objects

ref_names : (k : Kind) → is_ref k ≡ true → names_object k ≡ true
ref_names Ref is = refl
ref_names other is = absurd (cc is)

deref_names : (k : Kind) → is_deref k ≡ true → names_object k ≡ true
deref_names Deref is = refl
deref_names other is = absurd (cc is)

-- of a count that isn't 0 a reference or a dereference was counted
some_reference : (passes : Event → Bool) (events : List Event) (c : Count) → c ≡ references_where passes events → IsPositive c
    → (e : Event) × Contains events e × ((names_object e.kind && passes e) ≡ true)
some_reference passes events c is some =
    let refs = count_by (λ e. is_ref e.kind && passes e) events in
    let derefs = count_by (λ e. is_deref e.kind && passes e) events in
    let plus : c.plus ≡ refs = ap (λ (x : Count). x.plus) is in
    let minus : c.minus ≡ derefs = ap (λ (x : Count). x.minus) is in
    elim (cases_lt 0 refs) [
      | inl lt ↦
          let one = some_counted (λ e. is_ref e.kind && passes e) events lt in
          let both = and_parts (is_ref (one.0).kind) (passes one.0) one.2 in
          (one.0, one.1, and_from _ _ (ref_names (one.0).kind both.0) both.1)
      | inr none ↦
          let lt : 0 < derefs = omega (arith, plus, minus, some, none) in
          let one = some_counted (λ e. is_deref e.kind && passes e) events lt in
          let both = and_parts (is_deref (one.0).kind) (passes one.0) one.2 in
          (one.0, one.1, and_from _ _ (deref_names (one.0).kind both.0) both.1)
    ]

no_balances : (all : Bool) (rows : List Balance) → AreBalances [] all rows → rows ≡ []
no_balances all rows is =
    lists_none (λ (row : Balance). IsTagBalance [] row × IsListed all row) rows is (λ row h.
    let one = some_reference (has_tag row.by) [] row.count (h.0).used (h.0).named in
    absurd (Contains-nil one.0 one.1))

no_tag_stacks : (t : List ℕ) (events : List Event) (rows : List Balance) → list_any (is_of (subjects.TagOfAll t)) events ≡ false
    → AreTagStacks events t rows → rows ≡ []
no_tag_stacks t events rows none is =
    lists_none (IsStackBalance events t) rows is (λ row h.
    let one = some_reference (λ e. has_tag t e && has_stack row.by e) events row.count h.used h.named in
    let e = one.0 in
    let about = and_parts (names_object e.kind) (has_tag t e && has_stack row.by e) one.2 in
    not_there (is_of (subjects.TagOfAll t)) events none e one.1
    (and_from (names_object e.kind) (has_tag t e) about.0 (and_parts (has_tag t e) (has_stack row.by e) about.1).0))

-- ---- one handle

named : (e : Event) → (e.kind ≡ Opened) ⊎ ((e.kind ≡ Closed) ⊎ (e.kind ≡ BadRef)) → names_handle e.kind ≡ true
named e (inl is) = ap names_handle is
named e (inr (inl is)) = ap names_handle is
named e (inr (inr is)) = ap names_handle is

no_listing : (p handle : ℕ) (events rows : List Event) → list_any (is_of (subjects.Handle p handle)) events ≡ false
    → IsListing (Contains events) p handle rows → rows ≡ []
no_listing p handle events rows none is =
    lists_none (λ e. Contains events e × IsOfHandle p (base_of handle) e) rows is (λ e h.
    not_there (is_of (subjects.Handle p handle)) events none e h.0
    (and_from (names_handle e.kind) (e.process == p && (base_of e.handle == base_of handle)) (named e h.1.kind)
    (and_from (e.process == p) (base_of e.handle == base_of handle) (eq-eqb e.process p h.1.owner)
    (eq-eqb (base_of e.handle) (base_of handle) h.1.handle))))

-- ---- a summary of no events

no_processes : (rows : List ProcessRow) → IsProcesses [] rows → rows ≡ []
no_processes rows is = lists_none (IsProcessRow []) rows is (λ row h.
    let some = h.some in
    let opened : row.opens ≡ 0 = h.opened in let closed : row.closes ≡ 0 = h.closed in let misused : row.bad ≡ 0 = h.misused in
    omega (arith, some, opened, closed, misused))

no_objects : (rows : List ObjectRow) → IsUnbalanced [] rows → rows ≡ []
no_objects rows is = lists_none (λ row. IsObjectRow [] row × (0 < row.unbalanced)) rows is (λ row h.
    let empty = no_tags row.object [] (h.0).balances refl (h.0).all in
    let differing = (h.0).differing in let some = h.1 in
    let zero : count_by is_unbalanced (h.0).balances ≡ 0 = ap (λ (tags : List (List ℕ × Count)). count_by is_unbalanced tags) empty in
    omega (arith, differing, some, zero))

-- ---- each question

-- a moment since which is asked, where nothing that counts comes later
none_later : (events : List Event) (p : ℕ) (since : ℕ) → ((e : Event) → Contains events e → since < e.sequence → ⊥)
    → NoneSince events p (Some since)
none_later events p since none = λ e is later. none e is.latest.here later

rows_found : {X : Type 0} (rows : List X) → rows ≡ [] → has_rows rows ≡ false
rows_found rows empty = ap has_rows empty

-- ---- nothing is about the subject

-- a summary without a row finds nothing
in_summary : (processes : List ProcessRow) (objects : List ObjectRow) → processes ≡ [] → objects ≡ []
    → (list_any (λ row. not (row.outstanding == 0) || not (row.bad == 0)) processes || has_rows objects) ≡ false
in_summary processes objects p o = rw (p, o) refl

no_subject : (B : Basis) (question : Question) (since : Option ℕ) (rows : Listed) → is_growth question ≡ false
    → has_subject question B.events ≡ false → AreRows B question since rows → has_finding rows ≡ false
no_subject B questions.Summary since rows other none is =
    let empty : B.events ≡ [] = none_there B.events (λ e h. not_there (λ x. true) B.events none e h refl) in
    ap has_finding is.4 ∙ in_summary is.2 is.3
    (no_processes is.2 (subst (λ (es : List Event). IsProcesses es is.2) empty is.5.processes_are))
    (no_objects is.3 (subst (λ (es : List Event). IsUnbalanced es is.3) empty is.5.objects_are))
no_subject B (questions.Outstanding p) since rows other none is =
    ap has_finding is.1 ∙ rows_found is.0 (no_handles B.events p None is.0 (none_open p B.events none) is.2)
no_subject B (questions.Diff p from) since rows other none is =
    ap has_finding is.1 ∙ rows_found is.0 (no_handles B.events p (Some (after since)) is.0 (none_since p B.events none (Some (after since))) is.2)
no_subject B (questions.Tags o) since rows other none is =
    ap has_finding is.1
    ∙ ap (λ (rs : List (List ℕ × Count)). list_any (λ row. not (row.1.plus == row.1.minus)) rs) (no_tags o B.events is.0 none is.2)
no_subject B (questions.Bad p) since rows other none is = ap has_finding is.1 ∙ rows_found is.0 (no_bad p B.events is.0 none is.2)
no_subject B (questions.Leaks p from least) since rows other none is =
    ap has_finding is.1 ∙ rows_found is.0 (no_leaks B.events p since least is.0 (none_since p B.events none since) is.2)
no_subject B (questions.Sites from least) since rows other none is = absurd (cc none)
no_subject B (questions.Stacks o t) since rows other none is = ap has_finding is.1 ∙ rows_found is.0 (no_stacks o t B.events is.0 none is.2)
no_subject B (questions.Balance all) since rows other none is =
    let empty : B.events ≡ [] = none_there B.events (λ e h. not_there (λ x. true) B.events none e h refl) in
    ap has_finding is.2 ∙ ap (λ (rs : List Balance). list_any (λ row. nat_lt 0 row.objects) rs)
    (no_balances all is.1 (subst (λ (es : List Event). AreBalances es all is.1) empty is.4))
no_subject B (questions.TagStacks t) since rows other none is = ap has_finding is.1 ∙ rows_found is.0 (no_tag_stacks t B.events is.0 none is.2)
no_subject B (questions.Trace p handle) since rows other none is =
    ap has_finding is.1 ∙ rows_found is.0 (no_listing p handle B.events is.0 none is.2)
no_subject B (questions.Growth p points) since rows other none is = absurd (cc other)

-- ---- nothing comes later

some_is : (m n : ℕ) → ◌≡◌ {A = Option ℕ} (Some m) (Some n) → m ≡ n
some_is m n same = cc

-- no event that counts comes after a sequence, where none comes before the moment that is given
none_after : (until : Option ℕ) (events : List Event) (n : ℕ) → is_below_last until events n ≡ false
    → (e : Event) → Contains (counted_events until events) e → n < e.sequence → ⊥
none_after None events n none e here later = not_there (λ x. nat_lt n x.sequence) events none e here (lt-ltb n e.sequence later)
none_after (Some moment) events n none e here later =
    let from = Contains-from_filter (λ x. nat_le x.sequence moment) events e here in
    let le = leb-true e.sequence moment from.1 in
    let before : nat_lt n moment ≡ true = lt-ltb n moment (omega (arith, le, later)) in
    cc (sym none ∙ and_from (nat_lt n moment) (list_any (λ x. nat_lt n x.sequence) events) before
    (list_any-true (λ x. nat_lt n x.sequence) events e from.0 (lt-ltb n e.sequence later)))

-- the question asks since a sequence after which no event of the basis comes
nothing_later : (B : Basis) (question : Question) (since : Option ℕ) (rows : Listed) (n : ℕ) → since_of question ≡ Some n → since ≡ Some n
    → ((e : Event) → Contains B.events e → n < e.sequence → ⊥) → AreRows B question since rows → has_finding rows ≡ false
nothing_later B (questions.Diff p from) since rows n given at none is =
    let from_n : after since ≡ n = ap after at in
    ap has_finding is.1 ∙ rows_found is.0 (no_handles B.events p (Some n) is.0 (none_later B.events p n none)
    (subst (λ (m : ℕ). IsDiff (Contains B.events) p m is.0) from_n is.2))
nothing_later B (questions.Leaks p from least) since rows n given at none is =
    ap has_finding is.1 ∙ rows_found is.0 (no_leaks B.events p (Some n) least is.0 (none_later B.events p n none)
    (subst (λ (m : Option ℕ). IsLeaksSince (Contains B.events) p m least is.0) at is.2))
nothing_later B (questions.Sites (Some (Sequence m)) least) since rows n given at none is =
    let since_n : m ≡ n = some_is m n given in
    ap has_finding is.1 ∙ rows_found is.0 (no_sites B.events m least is.0 (λ e here later. none e here (subst (λ (k : ℕ). k < e.sequence) since_n later)) is.2)
nothing_later B (questions.Sites (Some Snapshot) least) since rows n given at none is = absurd (cc given)
nothing_later B (questions.Sites None least) since rows n given at none is = absurd (cc given)
nothing_later B questions.Summary since rows n given at none is = absurd (cc given)
nothing_later B (questions.Outstanding p) since rows n given at none is = absurd (cc given)
nothing_later B (questions.Tags o) since rows n given at none is = absurd (cc given)
nothing_later B (questions.Bad p) since rows n given at none is = absurd (cc given)
nothing_later B (questions.Stacks o t) since rows n given at none is = absurd (cc given)
nothing_later B (questions.Balance all) since rows n given at none is = absurd (cc given)
nothing_later B (questions.TagStacks t) since rows n given at none is = absurd (cc given)
nothing_later B (questions.Trace p handle) since rows n given at none is = absurd (cc given)
nothing_later B (questions.Growth p points) since rows n given at none is = absurd (cc given)

-- a sequence since which is asked is the one that the answer says
since_given : (events : List Event) (process : ℕ) (asked : Option Since) (since : Option ℕ) (n : ℕ) → given_sequence asked ≡ Some n
    → IsSinceIfGiven events process asked since → since ≡ Some n
since_given events process None since n given is = absurd (cc given)
since_given events process (Some Snapshot) since n given is = absurd (cc given)
since_given events process (Some (Sequence m)) since n given is = is.1 ∙ ap (λ (k : ℕ). Some k) (is.2 ∙ some_is m n given)

-- ---- both

-- What isn't there is the subject, or what comes later.
absence_is : (has : Bool) (question : Question) (until : Option ℕ) (events : List Event) (absence : Absence)
    → absence_by has question until events ≡ Some absence
    → (has ≡ false) ⊎ ((n : ℕ) × (since_of question ≡ Some n) × (is_below_last until events n ≡ false))
absence_is false question until events absence is = inl refl
absence_is true question until events absence is = go (since_of question) refl is
  where
    go : (since : Option ℕ) → since_of question ≡ since → later_absence since until events ≡ Some absence
        → (true ≡ false) ⊎ ((n : ℕ) × (since_of question ≡ Some n) × (is_below_last until events n ≡ false))
    go None at later = absurd (cc later)
    go (Some n) at later = elim (cases_Bool (is_below_last until events n)) [
      | inl below ↦ absurd (cc (below, later))
      | inr not_below ↦ inr (n, at, not_below)
    ]

pub nothing_found : (T : Trace) (until : Option ℕ) (question : Question) (answer : Found) (absence : Absence) → is_growth question ≡ false
    → absence_in question until (all_events T.segments) ≡ Some absence → IsAnswer T until question answer → has_finding answer.rows ≡ false
nothing_found T until question answer absence other absent is =
    let B = is.0 in let counted = is.1.events in let over = is.2 in
    elim (absence_is (has_subject question (counted_events until (all_events T.segments))) question until
    (all_events T.segments) absence absent) [
      | inl none ↦
          let here : has_subject question B.events ≡ false = ap (λ (es : List Event). has_subject question es) counted ∙ none in
          no_subject B question answer.since answer.rows other here over.rows
      | inr later ↦
          let at = since_given B.events (process_of question) (asks_since question) answer.since later.0 later.1 over.since in
          nothing_later B question answer.since answer.rows later.0 later.1 at
          (λ e here. none_after until (all_events T.segments) later.0 later.2 e (subst (λ (es : List Event). Contains es e) counted here)) over.rows
    ]
