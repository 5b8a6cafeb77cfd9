-- Which processor of a trace is the first that misses a segment, and which cut end isn't known; and why a run ends that looks for gaps and symbols.
use Rattle.std.proofs.Common.{◌≡◌, ℕ, zero, suc, ◌+◌, ◌<◌, ◌≤◌, Bool, true, false, List, [], ◌∷◌, ◌++◌, Option, Some, None, ◌⊎◌}
use Rattle.std.proofs.Common.{refl, ap, subst, sym, ◌∙◌, arith, inl, inr, length, take, drop, All}
use Rattle.std.specs.Prelude.{Contains, slice_get, nat_lt, if◌then◌else◌, is_some, map, IfNone, IfSome}
use Rattle.std.proofs.lemmas.Bool.{ltb-false, ltb-true}
use Rattle.std.proofs.lemmas.List.{take_more}
use Rattle.std.proofs.lemmas.List.Elements.{All-append, All-cons, All-nil, Contains-append_cases, Contains-append_left, Contains-append_right}
use Rattle.std.proofs.lemmas.Option.{get_or_from_slice_get, slice_get_within}
use Rattle.htl_event.proofs.Members.{Contains-cases, Contains-here, Contains-nil, some_member}
use Rattle.htl_segment.specs.Content.{Content}
use Rattle.htl_segment.specs.Traces.{Trace, HasKey}
use Rattle.htl_analyst.proofs.Held.{one_segment}
use Rattle.htl_case.specs.Cases.{IsCaseOf}
use Rattle.htl_case.specs.Faults.{AreOfOneTrace}
use Rattle.htl_case.proofs.Outcomes.{case_one_count, case_one_trace}
use Rattle.htl_taken.specs.Gaps.{IsGap, IsGapBefore, processor_of}
use Rattle.htl_taken.specs.declared.gap.Gap.{Gap}
use Rattle.htl_taken.specs.declared.gap.Gap.TheVariants.{Between, Absent}
use Rattle.htl_reading.specs.declared.outcome.SegmentName.{SegmentName}
use Rattle.htl_command.specs.declared.question.Job.{Job}
use Rattle.std.specs.List.{AllByRecursion}
use Rattle.htl_segment.specs.Outlines.{outline_of}
use Rattle.htl_segment.specs.declared.outline.Outline.{Outline}
use Rattle.htl_evidence.specs.Outlines.{AreOutlinesOf}
use Rattle.htl_inputs.specs.CutInputs.{Decoding}
use Rattle.htl_inputs.specs.declared.cuts.CutEnd.{CutEnd}
use Rattle.htl_inputs.specs.declared.fault.RunFault.{RunFault}
use Rattle.htl_inputs.specs.declared.fault.RunFault.TheVariants.{Incomplete, Memory, UnknownCut}
use Rattle.htl_inputs.specs.Faults.{of_symbols}
use Rattle.htl_main.specs.CaseOutlines.{IsFirstShort, IsMissed, IsShortUpTo, lesser}
use Rattle.htl_main.specs.Causes.{IsCauseAfter}
use Rattle.htl_main.specs.Completeness.{IsFirstUnknown, IsKnown, IsLeastMissing, IsOfKey, Misses, MissesUpTo, ReportsMissing}
use Rattle.htl_case.specs.Complete.{IsFirstMissing}
use Rattle.htl_main.specs.declared.coverage.Missed.{Missed}
use Rattle.htl_main.specs.Moments.{IsCompleteUntil}
use Rattle.htl_main.specs.Printed.{HasSymbolFault}
use Rattle.htl_symbols.specs.declared.fault.SymbolFault.{SymbolFault}
use Rattle.htl_symbols.specs.declared.fault.SymbolFault.TheVariants.{NoMemory}

-- ---- the first processor that misses a segment

-- a gap before another is of no later processor
pub no_later : (a b : Gap) → IsGapBefore a b → processor_of a ≤ processor_of b
no_later a b (inl lt) = omega (arith, lt)
no_later a b (inr both) = let e = both.0 in omega (arith, e)

-- the first of a list
pub first_at : (gaps : List Gap) (gap : Gap) → slice_get gaps 0 ≡ Some gap → (more : List Gap) × (gaps ≡ gap ∷ more)
first_at [] gap at = absurd (cc at)
first_at (g ∷ gs) gap at = let same : g ≡ gap = cc at in (gs, ap (λ (x : Gap). x ∷ gs) same)

-- with one cut end more a processor misses what it missed, or a segment up to that end
misses_more : (T : Trace) (cuts : List CutEnd) (cut : CutEnd) (p : ℕ) → Misses T (cuts ++ cut ∷ []) p → Misses T cuts p ⊎ MissesUpTo T cut p
misses_more T cuts cut p (inl gap) = inl (inl gap)
misses_more T cuts cut p (inr at) = elim (Contains-append_cases cuts (cut ∷ []) at.0 at.1) [
  | inl earlier ↦ inl (inr (at.0, earlier, at.2))
  | inr last ↦ elim (Contains-cases cut [] at.0 last) [
    | inl same ↦ inr (subst (λ (c : CutEnd). MissesUpTo T c p) (sym same) at.2)
    | inr none ↦ absurd (Contains-nil at.0 none)
  ]
]

misses_earlier : (T : Trace) (cuts : List CutEnd) (cut : CutEnd) (p : ℕ) → Misses T cuts p → Misses T (cuts ++ cut ∷ []) p
misses_earlier T cuts cut p (inl gap) = inl gap
misses_earlier T cuts cut p (inr at) = inr (at.0, Contains-append_left cuts (cut ∷ []) at.0 at.1, at.2)

misses_last : (T : Trace) (cuts : List CutEnd) (cut : CutEnd) (p : ℕ) → MissesUpTo T cut p → Misses T (cuts ++ cut ∷ []) p
misses_last T cuts cut p up = inr (cut, Contains-append_right cuts (cut ∷ []) cut (Contains-here cut []), up)

abbrev processor_in : Option SegmentName → ℕ
processor_in None = 0
processor_in (Some name) = name.processor

abbrev number_in : Option SegmentName → ℕ
number_in None = 0
number_in (Some name) = name.number

-- a cut end is of one processor
one_processor : (T : Trace) (cut : CutEnd) (p q : ℕ) → MissesUpTo T cut p → MissesUpTo T cut q → p ≡ q
one_processor T cut p q a b = ap processor_in (sym a.3 ∙ b.3)

short_lesser : (T : Trace) (cuts : List CutEnd) (cut : CutEnd) (p q : ℕ) (low : Bool) → nat_lt p q ≡ low → IsFirstShort T cuts (Some p)
    → MissesUpTo T cut q → IsFirstShort T (cuts ++ cut ∷ []) (Some (if low then p else q))
short_lesser T cuts cut p q true test first now =
    let lt = ltb-true p q test in (
      misses_earlier T cuts cut p first.0,
      λ other misses. elim (misses_more T cuts cut other misses) [
        | inl earlier ↦ first.1 other earlier
        | inr last ↦ (let same = one_processor T cut other q last now in omega (arith, lt, same))
      ],
    )
short_lesser T cuts cut p q false test first now =
    let le = ltb-false p q test in (
      misses_last T cuts cut q now,
      λ other misses. elim (misses_more T cuts cut other misses) [
        | inl earlier ↦ (let low = first.1 other earlier in omega (arith, le, low))
        | inr last ↦ (let same = one_processor T cut other q last now in omega (arith, same))
      ],
    )

-- with one cut end more it is the lesser of both
pub short_next : (T : Trace) (cuts : List CutEnd) (cut : CutEnd) (first now : Option ℕ) → IsFirstShort T cuts first → IsShortUpTo T cut now
    → IsFirstShort T (cuts ++ cut ∷ []) (lesser first now)
short_next T cuts cut None None first now = λ p misses. elim (misses_more T cuts cut p misses) [
  | inl earlier ↦ first p earlier
  | inr last ↦ now p last
]
short_next T cuts cut None (Some q) first now = (
  misses_last T cuts cut q now,
  λ other misses. elim (misses_more T cuts cut other misses) [
    | inl earlier ↦ absurd (first other earlier)
    | inr last ↦ (let same = one_processor T cut other q last now in omega (arith, same))
  ],
)
short_next T cuts cut (Some p) None first now = (
  misses_earlier T cuts cut p first.0,
  λ other misses. elim (misses_more T cuts cut other misses) [
    | inl earlier ↦ first.1 other earlier
    | inr last ↦ absurd (now other last)
  ],
)
short_next T cuts cut (Some p) (Some q) first now = short_lesser T cuts cut p q (nat_lt p q) refl first now

-- ---- one cut end

-- it is of no segment of the trace
pub short_unknown : (T : Trace) (cut : CutEnd) → (IsKnown T cut → ⊥) → IsShortUpTo T cut None
short_unknown T cut unknown = λ p up. unknown (p, up.1, up.3)

same_key : (T : Trace) (cut : CutEnd) (p q m n : ℕ) → IsOfKey T cut p m → IsOfKey T cut q n → (p ≡ q) × (m ≡ n)
same_key T cut p q m n a b = (ap processor_in (sym a ∙ b), ap number_in (sym a ∙ b))

module _ (T : Trace) (missed : Missed) (is : IsMissed T missed) (cut : CutEnd) (p last : ℕ) (of : IsOfKey T cut p last) where
  -- or of no processor
  pub short_outside : length missed.extent.fronts.items ≤ p → IsShortUpTo T cut None
  short_outside out = λ q up.
      let same = same_key T cut q p up.1 last up.3 of in
      let long = is.extent.fronts.each in
      let within = up.0 in
      omega (arith, out, long, within, same.0)

  -- all segments up to it are there
  pub short_below : (front : ℕ) → slice_get missed.extent.fronts.items p ≡ Some front → last < front → IsShortUpTo T cut None
  short_below front at low = λ q up.
      let same = same_key T cut q p up.1 last up.3 of in
      let first = is.extent.fronts.first p front at in
      let le = up.4 in
      up.5 (subst (λ (r : ℕ). HasKey T r up.2) (sym same.0) (first.below up.2 (omega (arith, le, low, same.1))))

  -- the first missing one isn't behind it
  pub short_at : (front : ℕ) → slice_get missed.extent.fronts.items p ≡ Some front → front ≤ last → IsShortUpTo T cut (Some p)
  short_at front at le =
      let within = slice_get_within missed.extent.fronts.items p front at in
      let long = is.extent.fronts.each in
      (omega (arith, within, long), last, front, of, le, (is.extent.fronts.first p front at).missing)

-- ---- the least missing key, and the first cut end that isn't known

-- the first missing number of the first processor that misses a segment
pub least_missing : (T : Trace) (cuts : List CutEnd) (p n : ℕ) → IsFirstShort T cuts (Some p) → IsFirstMissing T p n
    → IsLeastMissing T cuts p n
least_missing T cuts p n short first = record { there = short.0; first = first; before = short.1 }

gap_within : (T : Trace) (gap : Gap) (p : ℕ) → IsGap (HasKey T) T.processors gap → processor_of gap ≡ p → p < T.processors
gap_within T (Between q from to) p is own = let low = is.0 in omega (arith, low, own)
gap_within T (Absent q) p is own = let low = is.0 in omega (arith, low, own)

-- a processor that misses a segment is one of the trace
pub within : (T : Trace) (cuts : List CutEnd) (p : ℕ) → Misses T cuts p → p < T.processors
within T cuts p (inl gap) = gap_within T gap.0 p gap.1 gap.2
within T cuts p (inr cut) = cut.2.0

-- ends that are known, with one more
pub known_next : (T : Trace) (cuts : List CutEnd) (place : ℕ) (cut : CutEnd) → slice_get cuts place ≡ Some cut → All (IsKnown T) (take place cuts)
    → IsKnown T cut → All (IsKnown T) (take (place + 1) cuts)
known_next T cuts place cut here so_far known =
    rw (take_more cuts place cut (slice_get_within cuts place cut here), get_or_from_slice_get cuts place cut cut here)
    (All-append (IsKnown T) (take place cuts) (cut ∷ []) so_far (All-cons (IsKnown T) cut [] known (All-nil (IsKnown T))))

-- a cut end that was found to have a name is known
pub known_of : (T : Trace) (missed : Missed) (cut : CutEnd) (found : Option SegmentName) → IsMissed T missed
    → IfSome found (λ name. (T : Trace) → IsMissed T missed → IsOfKey T cut name.processor name.number) → is_some found ≡ true → IsKnown T cut
known_of T missed cut None is of some = absurd (cc some)
known_of T missed cut (Some name) is of some = (name.processor, name.number, of T is)

pub unknown_of : (T : Trace) (missed : Missed) (cut : CutEnd) (found : Option SegmentName) → IsMissed T missed
    → IfNone found ((T : Trace) → IsMissed T missed → IsKnown T cut → ⊥) → is_some found ≡ false → IsKnown T cut → ⊥
unknown_of T missed cut None is of none = of T is
unknown_of T missed cut (Some name) is of none = absurd (cc none)

pub first_unknown : (T : Trace) (cuts : List CutEnd) (place : ℕ) (cut : CutEnd) → slice_get cuts place ≡ Some cut
    → All (IsKnown T) (take place cuts) → (IsKnown T cut → ⊥) → ((p : ℕ) → Misses T cuts p → ⊥) → IsFirstUnknown T cuts cut.input
first_unknown T cuts place cut here known unknown whole = record {
  whole = whole;
  earlier = take place cuts;
  cut = cut;
  later = drop (suc place) cuts;
  parts = split_at cuts place cut here;
  known = known;
  unknown = unknown;
  input_is = refl;
}
  where
    split_at : (xs : List CutEnd) (i : ℕ) (x : CutEnd) → slice_get xs i ≡ Some x → xs ≡ take i xs ++ x ∷ drop (suc i) xs
    split_at [] i x at = absurd (cc at)
    split_at (y ∷ xs) zero x at = let same : y ≡ x = cc at in ap (λ (z : CutEnd). z ∷ xs) same
    split_at (y ∷ xs) (suc i) x at = ap (λ (l : List CutEnd). y ∷ l) (split_at xs i x at)

-- ---- why a run ends

of_one_trace : (segments : List Content) (T : Trace) → IsCaseOf segments T → AreOfOneTrace segments
of_one_trace segments T is = record {
  some = λ none.
      let first = some_member T.segments is.is_case.some in
      Contains-nil first.0 (subst (λ (ss : List Content). Contains ss first.0) none ((is.members first.0).0 first.1));
  trace = case_one_trace segments T is;
  count = case_one_count segments T is;
  content = λ s t h k same.
      one_segment T.segments is.is_case.trace.in_order s t ((is.members s).1 h) ((is.members t).1 k)
      (ap (λ (key : ℕ × ℕ). key.0) same) (ap (λ (key : ℕ × ℕ). key.1) same);
}

-- a key that is missing is a cause where the job asks for a complete case, and a gap is below its moment
pub missing_cause : (given : Decoding) (symbols : Option (List ℕ)) (job : Job) (T : Trace) (fault : RunFault) → IsCaseOf given.segments T
    → job.setting.complete ≡ true → (IsCompleteUntil T given.cuts job.until → ⊥) → ReportsMissing T given.cuts fault
    → IsCauseAfter given symbols job fault
missing_cause given symbols job T (Incomplete p n) case complete touched missing = (complete, T, case, touched, missing)
missing_cause given symbols job T (UnknownCut input) case complete touched missing = (complete, T, case, touched, missing)
missing_cause given symbols job T other case complete touched missing = absurd missing

-- memory may be refused before the gaps are looked for
pub memory_cause : (given : Decoding) (symbols : Option (List ℕ)) (job : Job) (T : Trace) → IsCaseOf given.segments T
    → IsCauseAfter given symbols job Memory
memory_cause given symbols job T case = inl (of_one_trace given.segments T case)

-- so is the first fault of the symbols, or memory that was refused for them
pub symbols_cause : (given : Decoding) (symbols : Option (List ℕ)) (job : Job) (T : Trace) (fault : SymbolFault) → IsCaseOf given.segments T
    → (job.setting.complete ≡ true → IsCompleteUntil T given.cuts job.until) → ((fault ≡ NoMemory) ⊎ HasSymbolFault symbols fault)
    → IsCauseAfter given symbols job (of_symbols fault)
symbols_cause given symbols job T NoMemory case ends found = inr (T, (case, ends))
symbols_cause given symbols job T other case ends found = elim found [
  | inl memory ↦ subst (λ fault. IsCauseAfter given symbols job (of_symbols fault)) (sym memory) (inr (T, (case, ends)))
  | inr has ↦ (T, (case, ends), has)
]

-- ---- the trace of outlines

abbrev id_in : Option Outline → ℕ
id_in None = 0
id_in (Some o) = o.trace_id

first_id : (id processors : ℕ) (ss : List Content) (o : Outline) → AllByRecursion (λ s. (s.trace_id ≡ id) × (s.processors ≡ processors)) ss
    → slice_get (map outline_of ss) 0 ≡ Some o → o.trace_id ≡ id
first_id id processors [] o same at = absurd (cc at)
first_id id processors (s ∷ ss) o same at = ap id_in (sym at) ∙ same.0.0

-- the first of a trace's outlines has the trace's id
pub outlines_id : (T : Trace) (processors : ℕ) (outlines : List Outline) (o : Outline) → AreOutlinesOf processors outlines T
    → slice_get outlines 0 ≡ Some o → o.trace_id ≡ T.id
outlines_id T processors outlines o are at =
    first_id T.id T.processors T.segments o are.0.trace.same (subst (λ (os : List Outline). slice_get os 0 ≡ Some o) are.2 at)
