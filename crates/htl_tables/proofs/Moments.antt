-- The moments of one kind of event are gathered, and the greatest of a process's is its greatest sequence.
use Rattle.std.proofs.Common.{◌≡◌, ◌≢◌, ℕ, ◌<◌, ◌≤◌, max, List, [], ◌∷◌, ◌++◌, refl}
use Rattle.std.proofs.Common.{sym, ap, ◌∙◌, inl, inr, ◌⊎◌, arith, subst, Contains, IsPermutation}
use Rattle.std.specs.Prelude.{◌↔◌}
use Rattle.std.proofs.lemmas.Bool.{cases_eq}
use Rattle.std.proofs.lemmas.List.Elements.{Contains-push, Contains-push_cases, Contains-append_left}
use Rattle.std.proofs.lemmas.List.Elements.{Contains-append_right, Contains-append_cases}
use Rattle.std.proofs.lemmas.List.Sorted.{Contains-permutation, IsPermutation-sym}
use Rattle.htl_event.specs.Events.{Event}
use Rattle.htl_event.specs.declared.kind.Kind.{Kind}
use Rattle.htl_event.specs.Handles.{IsGreatestSequence}
use Rattle.htl_event.specs.Handles.{IsOf}
use Rattle.htl_tables.specs.Moments.{IsMoment}

-- the rows are the moments of the events
abbrev pub AreMoments : Kind → List Event → List (ℕ × ℕ) → Type 0
AreMoments kind events rows = (row : ℕ × ℕ) → Contains rows row ↔ IsMoment (Contains events) kind row

-- the new rows are the old ones and the moments of the events
abbrev pub AreMoreMoments : Kind → List (ℕ × ℕ) → List Event → List (ℕ × ℕ) → Type 0
AreMoreMoments kind old events new = (row : ℕ × ℕ) → Contains new row ↔ (Contains old row ⊎ IsMoment (Contains events) kind row)

no_moment : (kind : Kind) (row : ℕ × ℕ) → IsMoment (Contains []) kind row → ⊥
no_moment kind row m = let here = m.here in omega (arith, here.1)

-- no events add no moments
pub moments_none : (kind : Kind) (old : List (ℕ × ℕ)) → AreMoreMoments kind old [] old
moments_none kind old row = (λ h. inl h, λ h. elim h [ inl before ↦ before | inr m ↦ absurd (no_moment kind row m) ])

moment_among : (kind : Kind) (A B : Event → Type 0) (row : ℕ × ℕ) → ((e : Event) → A e → B e) → IsMoment A kind row → IsMoment B kind row
moment_among kind A B row within m = record {
  event = m.event;
  here = within m.event m.here;
  kind_is = m.kind_is;
  is = m.is;
  positive = m.positive;
}

moment_left : (kind : Kind) (events : List Event) (e : Event) (row : ℕ × ℕ) → IsMoment (Contains events) kind row
    → IsMoment (Contains (events ++ e ∷ [])) kind row
moment_left kind events e row m = moment_among kind (Contains events) (Contains (events ++ e ∷ [])) row
    (Contains-append_left events (e ∷ [])) m

-- an event of the kind with a sequence above 0 adds its process and its sequence
pub moments_more : (kind : Kind) (old : List (ℕ × ℕ)) (events : List Event) (rows : List (ℕ × ℕ)) (e : Event)
    → AreMoreMoments kind old events rows → e.kind ≡ kind → 0 < e.sequence
    → AreMoreMoments kind old (events ++ e ∷ []) (rows ++ (e.process, e.sequence) ∷ [])
moments_more kind old events rows e are kind_is positive row = (
  (λ h. elim (Contains-push_cases rows (e.process, e.sequence) row h) [
    | inl before ↦ elim ((are row).0 before) [ inl there ↦ inl there | inr m ↦ inr (moment_left kind events e row m) ]
    | inr new ↦ inr (record { event = e; here = Contains-push events e; kind_is = kind_is; is = sym new; positive = positive })
  ]),
  (λ h. elim h [
    | inl there ↦ Contains-append_left rows ((e.process, e.sequence) ∷ []) row ((are row).1 (inl there))
    | inr m ↦ elim (Contains-push_cases events e m.event m.here) [
      | inl before ↦
          let old_one : IsMoment (Contains events) kind row =
          record { event = m.event; here = before; kind_is = m.kind_is; is = m.is; positive = m.positive } in
          Contains-append_left rows ((e.process, e.sequence) ∷ []) row ((are row).1 (inr old_one))
      | inr new ↦
          let same : (e.process, e.sequence) ≡ row = ap (λ (x : Event). (x.process, x.sequence)) new ∙ sym m.is in
          subst (λ (r : ℕ × ℕ). Contains (rows ++ (e.process, e.sequence) ∷ []) r) same (Contains-push rows (e.process, e.sequence))
    ]
  ]),
)

-- an event of another kind, or with the sequence 0, adds no moment
pub moments_skip : (kind : Kind) (old : List (ℕ × ℕ)) (events : List Event) (rows : List (ℕ × ℕ)) (e : Event)
    → AreMoreMoments kind old events rows → (e.kind ≡ kind → e.sequence ≡ 0)
    → AreMoreMoments kind old (events ++ e ∷ []) rows
moments_skip kind old events rows e are none row = (
  (λ h. elim ((are row).0 h) [ inl there ↦ inl there | inr m ↦ inr (moment_left kind events e row m) ]),
  (λ h. elim h [
    | inl there ↦ (are row).1 (inl there)
    | inr m ↦ elim (Contains-push_cases events e m.event m.here) [
      | inl before ↦ (are row).1 (inr (record { event = m.event; here = before; kind_is = m.kind_is; is = m.is; positive = m.positive }))
      | inr new ↦
          let zero : m.event.sequence ≡ 0 = ap (λ (x : Event). x.sequence) (sym new) ∙ none (ap (λ (x : Event). x.kind) new ∙ m.kind_is) in
          let above = m.positive in
          absurd (omega (arith, zero, above))
    ]
  ]),
)

-- one more list was read
pub moments_list : (kind : Kind) (before events : List Event) (old new : List (ℕ × ℕ)) → AreMoments kind before old
    → AreMoreMoments kind old events new → AreMoments kind (before ++ events) new
moments_list kind before events old new are more row = (
  (λ h. elim ((more row).0 h) [
    | inl there ↦ moment_among kind (Contains before) (Contains (before ++ events)) row (Contains-append_left before events)
        ((are row).0 there)
    | inr m ↦ moment_among kind (Contains events) (Contains (before ++ events)) row (Contains-append_right before events) m
  ]),
  (λ m. elim (Contains-append_cases before events m.event m.here) [
    | inl there ↦ (more row).1
        (inl ((are row).1 (record { event = m.event; here = there; kind_is = m.kind_is; is = m.is; positive = m.positive })))
    | inr there ↦ (more row).1 (inr (record { event = m.event; here = there; kind_is = m.kind_is; is = m.is; positive = m.positive }))
  ]),
)

-- moments in another order are moments of the same events
pub moments_sorted : (kind : Kind) (events : List Event) (rows sorted : List (ℕ × ℕ)) → AreMoments kind events rows
    → IsPermutation rows sorted → AreMoments kind events sorted
moments_sorted kind events rows sorted are moved row = (
  (λ h. (are row).0 (Contains-permutation sorted rows row (IsPermutation-sym rows sorted moved) h)),
  (λ m. Contains-permutation rows sorted row moved ((are row).1 m)),
)

-- ---- the greatest

-- the greatest sequence that the rows have for the process, 0 where they have none
pub record IsGreatestIn (rows : List (ℕ × ℕ)) (process n : ℕ) : Type 0 where
  pub bound : (sequence : ℕ) → Contains rows (process, sequence) → sequence ≤ n
  pub reached : (n ≡ 0) ⊎ Contains rows (process, n)

pub greatest_none : (process : ℕ) → IsGreatestIn [] process 0
greatest_none process = record { bound = λ s h. omega (arith, h.1); reached = inl refl }

-- with one row more, the greatest of its process rises to its sequence, and that of each other stays
pub greatest_more : (rows : List (ℕ × ℕ)) (row : ℕ × ℕ) (process old new : ℕ) → (process ≡ row.0 → new ≡ max old row.1)
    → (process ≢ row.0 → new ≡ old)
    → IsGreatestIn rows process old → IsGreatestIn (rows ++ row ∷ []) process new
greatest_more rows row process old new raised other g =
    elim (cases_eq process row.0) [
      | inl e ↦ let is = raised e in record {
        bound = λ s h. elim (Contains-push_cases rows row (process, s) h) [
          | inl before ↦ (let le = g.bound s before in omega (arith, le, is))
          | inr now ↦ (let same : row.1 ≡ s = ap (λ (r : ℕ × ℕ). r.1) now in omega (arith, same, is))
        ];
        reached = reach e is;
      }
      | inr ne ↦ let is = other ne in record {
        bound = λ s h. elim (Contains-push_cases rows row (process, s) h) [
          | inl before ↦ (let le = g.bound s before in omega (arith, le, is))
          | inr now ↦ absurd (ne (sym (ap (λ (r : ℕ × ℕ). r.0) now)))
        ];
        reached = elim g.reached [
          | inl z ↦ inl (is ∙ z)
          | inr h ↦ inr (Contains-append_left rows (row ∷ []) (process, new) (subst (λ (n : ℕ). Contains rows (process, n)) (sym is) h))
        ];
      }
    ] where
      reach : process ≡ row.0 → new ≡ max old row.1 → (new ≡ 0) ⊎ Contains (rows ++ row ∷ []) (process, new)
      reach e is = elim (cases_eq new row.1) [
        | inl top ↦
            let same : row ≡ (process, new) = ap (λ (n : ℕ). (n, row.1)) (sym e) ∙ ap (λ (n : ℕ). (process, n)) (sym top) in
            inr (subst (λ (r : ℕ × ℕ). Contains (rows ++ row ∷ []) r) same (Contains-push rows row))
        | inr not_top ↦
            let kept : new ≡ old = omega (arith, is, not_top) in
            elim g.reached [
              | inl z ↦ inl (kept ∙ z)
              | inr h ↦ inr (Contains-append_left rows (row ∷ []) (process, new)
                  (subst (λ (n : ℕ). Contains rows (process, n)) (sym kept) h))
            ]
      ]

-- the greatest of the moments is the greatest sequence of the events
pub greatest_of_events : (kind : Kind) (events : List Event) (rows : List (ℕ × ℕ)) (process n : ℕ) → AreMoments kind events rows
    → IsGreatestIn rows process n
    → IsGreatestSequence (λ e. Contains events e × IsOf kind process e) n
greatest_of_events kind events rows process n are g = record {
  bound = λ x among. elim (cases_eq x.sequence 0) [
    | inl z ↦ omega (arith, z)
    | inr above ↦
        let row : (process, x.sequence) ≡ (x.process, x.sequence) = ap (λ (p : ℕ). (p, x.sequence)) (sym among.1.1) in
        g.bound x.sequence ((are (process, x.sequence)).1
        (record { event = x; here = among.0; kind_is = among.1.0; is = row; positive = omega (arith, above) }))
  ];
  reached = elim g.reached [
    | inl z ↦ inl z
    | inr h ↦
        let m = (are (process, n)).0 h in
        let owner : m.event.process ≡ process = sym (ap (λ (r : ℕ × ℕ). r.0) m.is) in
        let sequence : m.event.sequence ≡ n = sym (ap (λ (r : ℕ × ℕ). r.1) m.is) in
        inr (m.event, (m.here, (m.kind_is, owner)), sequence)
  ];
}
