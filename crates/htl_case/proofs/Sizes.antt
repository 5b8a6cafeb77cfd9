-- An analyst that is right about a trace has taken as many segments as the trace has with a taken key.
use Rattle.std.proofs.Common.{◌≡◌, ℕ, zero, suc, ◌+◌, ◌<◌, ◌≤◌, Bool, true, false, eqb, ltb, cond, ◌&&◌}
use Rattle.std.proofs.Common.{List, [], ◌∷◌, length, map, take, refl, sym, ap, ◌∙◌, subst, inl, inr, arith}
use Rattle.std.specs.Prelude.{Contains, ◌↔◌, filter, count_by, sum_by}
use Rattle.std.proofs.lemmas.Bool.{cases_Bool, cases_eq, cases_lt, eq-eqb, eqb-true, ne_eqb, lt-ltb, le-ltb, and_parts, and_from}
use Rattle.std.proofs.lemmas.List.{length-map, take_all}
use Rattle.std.proofs.lemmas.List.Sums.{sum_by-cons, sum_by_more, length-filter}
use Rattle.htl_event.proofs.Members.{Contains-here, Contains-there, at_member, filter-pass, filter-skip, Contains-filter}
use Rattle.htl_event.proofs.Members.{Contains-from_filter, Contains-map, Contains-from_map}
use Rattle.htl_segment.specs.Content.{Content, Fits}
use Rattle.htl_segment.specs.Traces.{Trace, AreInOrder, IsBefore, HasKey, key_is_in}
use Rattle.htl_taken.specs.NumberSets.{Has}
use Rattle.htl_taken.specs.Rising.{Rises}
use Rattle.htl_taken.specs.Numbers.{Numbers, numbers_at, no_numbers, has_number, size_of}
use Rattle.htl_taken.proofs.NumberSets.{numbers_at-past, Has-no_numbers}
use Rattle.htl_taken.proofs.Rising.{Rises-member, Rises-same}
use Rattle.htl_taken.proofs.SetLaws.{counts_numbers}
use Rattle.htl_analyst.specs.States.{State, held_at}
use Rattle.htl_analyst.specs.Keys.{keys, HasTaken}
use Rattle.htl_analyst.specs.Right.{IsOwned, IsRight}
use Rattle.htl_analyst.proofs.KeyEvents.{keys_taken}

abbrev number : Content → ℕ
number s = s.number

-- ---- counts of two tests

count_cons : (p : Content → Bool) (s : Content) (ss : List Content) → count_by p (s ∷ ss) ≡ cond (p s) 1 0 + count_by p ss
count_cons p s ss = sum_by-cons (λ t. cond (p t) 1 0) s ss

count_apart : (f g h : Content → Bool) → ((s : Content) → cond (f s) 1 0 ≡ cond (g s) 1 0 + cond (h s) 1 0) → (ss : List Content)
    → count_by f ss ≡ count_by g ss + count_by h ss
count_apart f g h one [] = omega arith
count_apart f g h one (s ∷ ss) =
    let here = one s in
    let rest = count_apart f g h one ss in
    let a = count_cons f s ss in
    let b = count_cons g s ss in
    let c = count_cons h s ss in
    omega arith

count_same : (f g : Content → Bool) (ss : List Content) → ((s : Content) → Contains ss s → f s ≡ g s) → count_by f ss ≡ count_by g ss
count_same f g [] same = refl
count_same f g (s ∷ ss) same =
    count_cons f s ss ∙ ap (λ (b : Bool). cond b 1 0 + count_by f ss) (same s (Contains-here s ss))
    ∙ ap (λ (n : ℕ). cond (g s) 1 0 + n) (count_same f g ss (λ t h. same t (Contains-there s ss t h))) ∙ sym (count_cons g s ss)

count_none : (f : Content → Bool) → ((s : Content) → f s ≡ false) → (ss : List Content) → count_by f ss ≡ 0
count_none f none [] = refl
count_none f none (s ∷ ss) =
    count_cons f s ss ∙ ap (λ (b : Bool). cond b 1 0 + count_by f ss) (none s) ∙ (let rest = count_none f none ss in omega arith)

-- ---- keys of one processor, and of those below one

abbrev at : (ℕ → ℕ → Bool) → ℕ → Content → Bool
at S k s = eqb s.processor k && key_is_in S s

abbrev below : (ℕ → ℕ → Bool) → ℕ → Content → Bool
below S k s = ltb s.processor k && key_is_in S s

one_more : (p k : ℕ) (b : Bool) → cond (ltb p (k + 1) && b) 1 0 ≡ cond (ltb p k && b) 1 0 + cond (eqb p k && b) 1 0
one_more p k b =
    elim (cases_eq p k) [
      | inl e ↦ rw (lt-ltb p (k + 1) (omega arith), le-ltb p k (omega arith), eq-eqb p k e) (omega arith)
      | inr ne ↦ elim (cases_lt p k) [
        | inl lt ↦ rw (lt-ltb p (k + 1) (omega arith), lt-ltb p k lt, ne_eqb p k ne) (omega arith)
        | inr le ↦ rw (le-ltb p (k + 1) (omega arith), le-ltb p k le, ne_eqb p k ne) (omega arith)
      ]
    ]

-- the numbers of a processor's segments rise
numbers_rise : (S : ℕ → ℕ → Bool) (k low high : ℕ) (ss : List Content) → AreInOrder ss
    → ((s : Content) → Contains ss s → at S k s ≡ true → (low ≤ s.number) × (s.number < high)) → low ≤ high
    → Rises low high (map number (filter (at S k) ss))
numbers_rise S k low high [] ordered within le = le
numbers_rise S k low high (s ∷ ss) ordered within le =
    elim (cases_Bool (at S k s)) [
      | inl t ↦
          let here = within s (Contains-here s ss) t in
          let low' : low ≤ number s = here.0 in
          let more : number s + 1 ≤ high = omega (arith, here.1) in
          subst (λ (us : List Content). Rises low high (map number us)) (sym (filter-pass (at S k) s ss t)) (
            low',
            numbers_rise S k (number s + 1) high ss ordered.1 (λ u h pass.
                (follows s u (at_member (IsBefore s) ss u ordered.0 h) t pass, (within u (Contains-there s ss u h) pass).1)) more,
          )
      | inr f ↦
          subst (λ (us : List Content). Rises low high (map number us)) (sym (filter-skip (at S k) s ss f))
          (numbers_rise S k low high ss ordered.1 (λ u h. within u (Contains-there s ss u h)) le)
    ] where
      follows : (s u : Content) → IsBefore s u → at S k s ≡ true → at S k u ≡ true → number s + 1 ≤ u.number
      follows s u before ps pu =
          let es = eqb-true s.processor k (and_parts _ _ ps).0 in
          let eu = eqb-true u.processor k (and_parts _ _ pu).0 in
          elim before [ inl lt ↦ absurd (omega (arith, lt, es, eu)) | inr both ↦ omega (arith, both.1) ]

-- ---- a state that is right

module _ (T : Trace) (a : State) (right : IsRight a T) where
  key_there : (p n : ℕ) → p < a.processors → HasTaken a p n → HasKey T p n
  key_there p n lt (inl low) = (right.each p lt).complete n low
  key_there p n lt (inr loose) =
      let part = right.state.each p lt in
      let held = Contains-from_map (λ s. s.number) (held_at a.parts p) n
      (subst (λ (ns : List ℕ). Contains ns n) (sym part.numbers) loose) in (
        held.0,
        at_member (Contains T.segments) (held_at a.parts p) held.0 (right.each p lt).held held.1,
        (at_member (IsOwned a.trace_id a.processors p) (held_at a.parts p) held.0 part.owned held.1).processor,
        held.2,
      )

  -- nothing was taken of a processor that isn't there
  pub key_of_trace : (p n : ℕ) → HasTaken a p n → HasKey T p n
  key_of_trace p n h =
      elim (cases_lt p a.processors) [
        | inl lt ↦ key_there p n lt h
        | inr past ↦
            let out : length a.taken ≤ p = (let e = right.state.places in omega (arith, e, past)) in
            absurd (Has-no_numbers n (subst (λ (q : Numbers). Has q n) (numbers_at-past a.taken p out) h))
      ]

  -- the segments of one processor are as many as its taken numbers
  of_processor : (k : ℕ) → k < a.processors → count_by (at (keys a) k) T.segments ≡ size_of (numbers_at a.taken k)
  of_processor k lt =
      sym (length-filter (at (keys a) k) T.segments) ∙ sym (length-map (filter (at (keys a) k) T.segments) number)
      ∙ ap length same ∙ c.3 where
        q : Numbers
        q = numbers_at a.taken k

        c : (ns : List ℕ) × (high : ℕ) × Rises 0 high ns × (length ns ≡ size_of (numbers_at a.taken k))
            × ((n : ℕ) → Contains ns n ↔ (has_number (numbers_at a.taken k) n ≡ true))
        c = counts_numbers (numbers_at a.taken k) (right.state.each k lt).proper

        listed : (s : Content) → at (keys a) k s ≡ true → Contains c.0 s.number
        listed s pass =
            let both = and_parts _ _ pass in
            (c.4 s.number).1 (subst (λ (p : ℕ). keys a p s.number ≡ true) (eqb-true s.processor k both.0) both.1)

        into : (n : ℕ) → Contains (map number (filter (at (keys a) k) T.segments)) n → Contains c.0 n
        into n h =
            let s = Contains-from_map number (filter (at (keys a) k) T.segments) n h in
            let from = Contains-from_filter (at (keys a) k) T.segments s.0 s.1 in
            subst (Contains c.0) s.2 (listed s.0 from.1)

        back : (n : ℕ) → Contains c.0 n → Contains (map number (filter (at (keys a) k) T.segments)) n
        back n h =
            let t = (c.4 n).0 h in
            let s = key_there k n lt (keys_taken a k n t) in
            let key : keys a s.0.processor s.0.number ≡ true =
            ap (λ (p : ℕ). keys a p s.0.number) s.2 ∙ ap (λ (m : ℕ). keys a k m) s.3 ∙ t in
            let pass = and_from (eqb s.0.processor k) (key_is_in (keys a) s.0) (eq-eqb s.0.processor k s.2) key in
            subst (Contains (map number (filter (at (keys a) k) T.segments))) s.3
            (Contains-map number (filter (at (keys a) k) T.segments) s.0 (Contains-filter (at (keys a) k) T.segments s.0 s.1 pass))

        same : map number (filter (at (keys a) k) T.segments) ≡ c.0
        same =
            Rises-same 0 0 c.1 (map number (filter (at (keys a) k) T.segments)) c.0
            (numbers_rise (keys a) k 0 c.1 T.segments right.collection.in_order
            (λ s h pass. Rises-member 0 c.1 c.0 s.number c.2 (listed s pass)) (omega arith)) c.2 into back

  up_to : (k : ℕ) → k ≤ a.processors → count_by (below (keys a) k) T.segments ≡ sum_by size_of (take k a.taken)
  up_to zero le = count_none (below (keys a) 0) (λ s. rw (le-ltb s.processor 0 (omega arith)) refl) T.segments
  up_to (suc k) le =
      let len = right.state.places in
      let more : suc k ≡ k + 1 = omega arith in
      let lt : k < length a.taken = omega arith in
      let one = count_apart (below (keys a) (k + 1)) (below (keys a) k) (at (keys a) k)
      (λ s. one_more s.processor k (key_is_in (keys a) s)) T.segments in
      let rest = up_to k (omega arith) in
      let here = of_processor k (omega arith) in
      let sum = sum_by_more size_of a.taken k no_numbers lt in
      subst (λ (n : ℕ). count_by (below (keys a) n) T.segments ≡ sum_by size_of (take n a.taken)) (sym more) (one ∙ cc)

  -- the taken numbers of an analyst are as many as the segments of the trace with a taken key
  pub size_is : sum_by size_of a.taken ≡ count_by (key_is_in (keys a)) T.segments
  size_is =
      sym (ap (sum_by size_of) (take_all a.processors a.taken (let len = right.state.places in omega arith)))
      ∙ sym (up_to a.processors (omega arith))
      ∙ count_same (below (keys a) a.processors) (key_is_in (keys a)) T.segments within where
        within : (s : Content) → Contains T.segments s → below (keys a) a.processors s ≡ key_is_in (keys a) s
        within s h =
            let fits = (at_member Fits T.segments s right.collection.fit h).processor in
            let count = (at_member (λ s. (s.trace_id ≡ T.id) × (s.processors ≡ T.processors)) T.segments s right.collection.same h).1 in
            let e = right.processors in
            let lt : s.processor < a.processors = omega arith in
            rw (lt-ltb s.processor a.processors lt) refl
