-- Inputs and a symbol table come to one outcome: one text, or one first fault, and never both.
use Rattle.std.proofs.Common.{◌≡◌, ◌≢◌, ◌⊎◌, ◌<◌, ℕ, zero, suc, Bool, true, false, List, [], ◌∷◌, ◌++◌, length, take, Option, Some, None}
use Rattle.std.proofs.Common.{refl, sym, ap, ◌∙◌, subst, inl, inr, arith, All, ◌+◌, drop, get_or}
use Rattle.std.proofs.lemmas.List.Elements.{All-head, All-tail}
use Rattle.std.specs.Prelude.{Result, Ok, Err, slice_get}
use Rattle.std.proofs.lemmas.Bool.{cases_order}
use Rattle.htl_command.specs.declared.question.InputForm.{InputForm}
use Rattle.htl_segment.specs.Content.{Content}
use Rattle.htl_segment.specs.Traces.{Trace, all_events}
use Rattle.htl_segment.specs.Bundles.{bundle, cut_off, is_early_end, Splits}
use Rattle.htl_segment.specs.Faults.{first_fault}
use Rattle.htl_segment.specs.declared.fault.Fault.{Fault}
use Rattle.htl_segment.specs.declared.hexadecimal.HexFault.{HexFault}
use Rattle.htl_segment.proofs.BundleLaws.{first_fault-rest, split_in_one_way}
use Rattle.htl_segment.proofs.PassedTests.{some_is}
use Rattle.htl_case.specs.Cases.{IsCaseOf}
use Rattle.htl_case.specs.Faults.{IsOutcome}
use Rattle.htl_case.specs.declared.fault.CaseFault.{CaseFault}
use Rattle.htl_case.specs.declared.fault.CaseFault.TheVariants as case_faults
use Rattle.htl_case.proofs.Outcomes.{one_case, exact_case, exact_fault}
use Rattle.htl_symbols.specs.Ranges.{Range}
use Rattle.htl_symbols.specs.Reading.{records_of}
use Rattle.htl_symbols.specs.declared.fault.SymbolFault.{SymbolFault}
use Rattle.htl_command.specs.declared.question.Job.{Job}
use Rattle.htl_reading.specs.Sources.{name_in}
use Rattle.htl_reading.specs.declared.outcome.EarlyEnd.{EarlyEnd}
use Rattle.htl_reading.specs.declared.outcome.SegmentName.{SegmentName}
use Rattle.htl_evidence.specs.Bases.{IsAnswer}
use Rattle.htl_inputs.specs.CutInputs.{AreCutEndsFrom, Decoding, EndsAs, HasEnd, IsDecoding, cut_ends_at, decoding}
use Rattle.htl_inputs.specs.Inputs.{HasBytes, Decodes, DecodeAll, HasBundleFault, HasHexFault, IsReportedOfInput, MayBeLeft, StopsAtInput, reported_of}
use Rattle.htl_inputs.specs.declared.cuts.CutEnd.{CutEnd}
use Rattle.htl_inputs.specs.declared.fault.RunFault.{RunFault}
use Rattle.htl_inputs.specs.declared.fault.RunFault.TheVariants.{Workers, Segment, Hex, Case, Incomplete, NoSubject, Symbols, Memory, UnknownCut}
use Rattle.htl_inputs.proofs.EndLaws.{cut_off_early, left_fault}
use Rattle.htl_main.specs.Completeness.{IsFirstUnknown, IsKnown, IsLeastMissing, ReportsMissing}
use Rattle.htl_main.specs.Moments.{IsCompleteUntil}
use Rattle.htl_main.specs.Remarks.{RemarksIn, RemarksOver, ReportsRemarks, remarks_on}
use Rattle.htl_main.specs.Subjects.{HasAbsence, absence_in}
use Rattle.htl_main.specs.declared.completed.Absence.{Absence}
use Rattle.htl_main.specs.declared.remarks.Remarks.{Remarks}
use Rattle.htl_main.specs.Printed.{lines_of_answer, IsText, IsAcceptedCase, HasSymbols, HasSymbolFault, AreAnswerLines, IsMissing, IsPrinted}
use Rattle.htl_main.specs.Printed.{WorkersFit, Printed, by_workers}
use Rattle.htl_case.specs.Complete.{IsFirstMissing}
use Rattle.htl_evidence.proofs.Covered.{one_first}
use Rattle.htl_main.proofs.MomentLaws.{one_moment}
use Rattle.htl_evidence.proofs.OneAnswer.{one_answer}
use Rattle.htl_symbols.proofs.OneTable.{one_table, one_symbol_fault, table_has_no_fault}

-- ---- one input

one_bytes : (hex : Bool) (input a b : List ℕ) → HasBytes hex input a → HasBytes hex input b → a ≡ b
one_bytes false input a b p q = p ∙ sym q
one_bytes true input a b p q = let same = sym p.1 ∙ q.1 in cc

-- what may be left has the fault of bytes that end too early
left_short : (form : InputForm) (input : List ℕ) (ss : List Content) (p : Decodes form input ss) → first_fault p.rest ≡ Some (cut_off p.rest)
left_short form input ss p = first_fault-rest p.rest (left_fault form.partial p.rest p.left)

one_content : (form : InputForm) (input : List ℕ) (ss ts : List Content) → Decodes form input ss → Decodes form input ts → ss ≡ ts
one_content form input ss ts p q =
    let same = one_bytes form.hex input p.bytes q.bytes p.has q.has in
    (split_in_one_way p.bytes p.rest q.rest ss ts _ _ p.splits (subst (λ (b : List ℕ). Splits b ts q.rest) (sym same) q.splits)
    (left_short form input ss p) (left_short form input ts q)).0

-- no fault has what may be left
not_left : (partial : Bool) (rest : List ℕ) (first fault : Fault) → MayBeLeft partial rest → 0 < length rest → first_fault rest ≡ Some first
    → reported_of partial rest first ≡ Some fault → ⊥
not_left false rest first fault left some is told = omega (arith, ap length left, some)
not_left true rest first fault left some is told =
    let same = some_is (cut_off rest) first (sym (first_fault-rest rest left.0) ∙ is) in
    let early : is_early_end first ≡ true = sym (ap is_early_end same) ∙ cut_off_early rest in
    cc (rw (early, left.1) at told)

-- what is decoded has no fault
not_faulty : (form : InputForm) (input : List ℕ) (ss : List Content) (offset : ℕ) (fault : Fault) → Decodes form input ss
    → HasBundleFault form input offset fault → ⊥
not_faulty form input ss offset fault p q =
    let same = one_bytes form.hex input p.bytes q.bytes p.has q.has in
    let found = subst (λ (b : List ℕ). Splits b q.before q.rest) (sym same) q.splits in
    let both = split_in_one_way p.bytes p.rest q.rest ss q.before _ q.first p.splits found (left_short form input ss p) q.first_is in
    not_left form.partial q.rest q.first fault (subst (MayBeLeft form.partial) both.1 p.left) q.some q.first_is q.reported

one_bundle_fault : (form : InputForm) (input : List ℕ) (m n : ℕ) (f g : Fault) → HasBundleFault form input m f
    → HasBundleFault form input n g → (m ≡ n) × (f ≡ g)
one_bundle_fault form input m n f g p q =
    let same = one_bytes form.hex input p.bytes q.bytes p.has q.has in
    let found = subst (λ (b : List ℕ). Splits b q.before q.rest) (sym same) q.splits in
    let both = split_in_one_way p.bytes p.rest q.rest p.before q.before p.first q.first p.splits found p.first_is q.first_is in
    let first = some_is p.first q.first (sym p.first_is ∙ ap first_fault both.1 ∙ q.first_is) in (
      omega (arith, p.offset_is, q.offset_is, ap (λ (ss : List Content). length (bundle ss)) both.0),
      some_is f g (sym p.reported ∙ ap (λ (r : List ℕ). reported_of form.partial r p.first) both.1
          ∙ ap (λ (x : Fault). reported_of form.partial q.rest x) first ∙ q.reported),
    )

-- ---- which inputs are cut

-- whole segments to its end, or within one more
not_whole : (hex : Bool) (input : List ℕ) (ss : List Content) (end : EarlyEnd) → Decodes (record { hex = hex; partial = false }) input ss
    → EndsAs hex input end → ⊥
not_whole hex input ss end p q =
    let same = one_bytes hex input p.bytes q.bytes p.has q.has in
    let found = subst (λ (l : List ℕ). Splits l q.segments q.rest) (sym same) q.splits in
    let both = split_in_one_way p.bytes p.rest q.rest ss q.segments _ end.fault p.splits found
    (left_short (record { hex = hex; partial = false }) input ss p) q.within.fault_is in
    omega (arith, ap length p.left, ap length both.1, q.within.some)

-- an input ends in one way
one_cut : (hex : Bool) (place : ℕ) (input : List ℕ) (a b : Option EarlyEnd) → HasEnd hex input a → HasEnd hex input b
    → cut_ends_at place a ≡ cut_ends_at place b
one_cut hex place input None None p q = refl
one_cut hex place input None (Some b) p q = absurd (not_whole hex input p.0 b p.1 q)
one_cut hex place input (Some a) None p q = absurd (not_whole hex input q.0 a q.1 p)
one_cut hex place input (Some a) (Some b) p q =
    let same = one_bytes hex input p.bytes q.bytes p.has q.has in
    let found = subst (λ (l : List ℕ). Splits l q.segments q.rest) (sym same) q.splits in
    let both = split_in_one_way p.bytes p.rest q.rest p.segments q.segments a.fault b.fault p.splits found p.within.fault_is q.within.fault_is in
    ap (λ (name : Option SegmentName). record { input = place; name = name } ∷ []) (p.within.named ∙ ap name_in both.1 ∙ sym q.within.named)

one_cuts : (hex : Bool) (place : ℕ) (inputs : List (List ℕ)) (a b : List CutEnd) → AreCutEndsFrom hex place inputs a
    → AreCutEndsFrom hex place inputs b → a ≡ b
one_cuts hex place [] a b p q = p ∙ sym q
one_cuts hex place (input ∷ inputs) a b p q =
    p.4 ∙ ap (λ (l : List CutEnd). l ++ p.1) (one_cut hex place input p.0 q.0 p.2 q.2)
    ∙ ap (λ (l : List CutEnd). cut_ends_at place q.0 ++ l) (one_cuts hex (place + 1) inputs p.1 q.1 p.3 q.3) ∙ sym q.4

no_hex_fault : (hex : Bool) (input bytes : List ℕ) (fault : HexFault) → HasHexFault hex input fault → HasBytes hex input bytes → ⊥
no_hex_fault false input bytes fault p has = let no = p.0 in cc
no_hex_fault true input bytes fault p has = let none = has.0 in let some = p.1 in cc

-- what is reported of an input, but for out of memory
abbrev Reported : InputForm → ℕ → List ℕ → RunFault → Type 0
Reported form place input fault =
    ((offset : ℕ) × (f : Fault) × HasBundleFault form input offset f × (fault ≡ Segment place offset f))
    ⊎ ((f : HexFault) × HasHexFault form.hex input f × (fault ≡ Hex place f))

cases_reported : (form : InputForm) (place : ℕ) (input : List ℕ) (fault : RunFault) → fault ≢ Memory → IsReportedOfInput form place input fault
    → Reported form place input fault
cases_reported form place input (Segment at offset f) reported is = inl (offset, f, is.1, ap (λ (p : ℕ). Segment p offset f) is.0)
cases_reported form place input (Hex at f) reported is = inr (f, is.1, ap (λ (p : ℕ). Hex p f) is.0)
cases_reported form place input Memory reported is = absurd (reported refl)
cases_reported form place input other reported is = absurd is

one_reported : (form : InputForm) (place : ℕ) (input : List ℕ) (f g : RunFault) → Reported form place input f → Reported form place input g → f ≡ g
one_reported form place input f g (inl p) (inl q) =
    let both = one_bundle_fault form input p.0 q.0 p.1 q.1 p.2 q.2 in
    p.3 ∙ ap (λ (n : ℕ). Segment place n p.1) both.0 ∙ ap (λ (x : Fault). Segment place q.0 x) both.1 ∙ sym q.3
one_reported form place input f g (inl p) (inr q) = absurd (no_hex_fault form.hex input p.2.bytes q.0 q.1 p.2.has)
one_reported form place input f g (inr p) (inl q) = absurd (no_hex_fault form.hex input q.2.bytes p.0 p.1 q.2.has)
one_reported form place input f g (inr p) (inr q) =
    let same = sym p.1.1 ∙ q.1.1 in
    let one : p.0 ≡ q.0 = cc in
    p.2 ∙ ap (λ (x : HexFault). Hex place x) one ∙ sym q.2

decoded_not_reported : (form : InputForm) (place : ℕ) (input : List ℕ) (ss : List Content) (fault : RunFault) → Decodes form input ss
    → Reported form place input fault → ⊥
decoded_not_reported form place input ss fault is (inl p) = not_faulty form input ss p.0 p.1 is p.2
decoded_not_reported form place input ss fault is (inr p) = no_hex_fault form.hex input is.bytes p.0 p.1 is.has

-- ---- all inputs

-- inputs are decoded to one list of segments
pub one_decoding : (form : InputForm) (inputs : List (List ℕ)) (ss ts : List Content) → DecodeAll form inputs ss → DecodeAll form inputs ts → ss ≡ ts
one_decoding form [] ss ts p q = p ∙ sym q
one_decoding form (input ∷ inputs) ss ts p q =
    p.4 ∙ ap (λ (l : List Content). l ++ p.1) (one_content form input p.0 q.0 p.2 q.2)
    ∙ ap (λ (l : List Content). q.0 ++ l) (one_decoding form inputs p.1 q.1 p.3 q.3) ∙ sym q.4

decoded_at : (form : InputForm) (inputs : List (List ℕ)) (place : ℕ) (input : List ℕ) (ss : List Content) → DecodeAll form inputs ss
    → slice_get inputs place ≡ Some input → (ts : List Content) × Decodes form input ts
decoded_at form [] place input ss all here = absurd cc
decoded_at form (x ∷ inputs) zero input ss all here =
    let is : x ≡ input = some_is x input here in (all.0, subst (λ (i : List ℕ). Decodes form i all.0) is all.2)
decoded_at form (x ∷ inputs) (suc place) input ss all here = decoded_at form inputs place input all.1 all.3 here

taken_at : (inputs : List (List ℕ)) (n place : ℕ) (input : List ℕ) → place < n → slice_get inputs place ≡ Some input
    → slice_get (take n inputs) place ≡ Some input
taken_at [] n place input lt here = absurd cc
taken_at (x ∷ inputs) zero place input lt here = absurd (omega (arith, lt))
taken_at (x ∷ inputs) (suc n) zero input lt here = here
taken_at (x ∷ inputs) (suc n) (suc place) input lt here = taken_at inputs n place input (omega (arith, lt)) here

abbrev Stops : InputForm → List (List ℕ) → RunFault → Type 0
Stops form inputs fault = StopsAtInput form (IsReportedOfInput form) inputs fault

-- of two inputs that are refused the first one would be decoded
none_before : (form : InputForm) (inputs : List (List ℕ)) (f g : RunFault) (p : Stops form inputs f) (q : Stops form inputs g) → f ≢ Memory
    → p.place < q.place → ⊥
none_before form inputs f g p q reported lt =
    let at = decoded_at form (take q.place inputs) p.place p.input q.segments q.before
    (taken_at inputs q.place p.place p.input lt p.here) in
    decoded_not_reported form p.place p.input at.0 f at.1 (cases_reported form p.place p.input f reported p.reported)

same_input : (form : InputForm) (inputs : List (List ℕ)) (f g : RunFault) (p : Stops form inputs f) (q : Stops form inputs g) → f ≢ Memory
    → g ≢ Memory → p.place ≡ q.place → f ≡ g
same_input form inputs f g p q reported reported_too same =
    let there = subst (λ (n : ℕ). slice_get inputs n ≡ Some q.input) (sym same) q.here in
    let input : q.input ≡ p.input = some_is q.input p.input (sym there ∙ p.here) in
    one_reported form p.place p.input f g (cases_reported form p.place p.input f reported p.reported)
    (cases_reported form p.place p.input g reported_too
    (subst (λ (i : List ℕ). IsReportedOfInput form p.place i g) input (subst (λ (n : ℕ). IsReportedOfInput form n q.input g) (sym same) q.reported)))

one_stop : (form : InputForm) (inputs : List (List ℕ)) (f g : RunFault) → Stops form inputs f → Stops form inputs g → f ≢ Memory → g ≢ Memory
    → f ≡ g
one_stop form inputs f g p q reported reported_too =
    elim (cases_order p.place q.place) [
      | inl same ↦ same_input form inputs f g p q reported reported_too same
      | inr (inl lt) ↦ absurd (none_before form inputs f g p q reported lt)
      | inr (inr gt) ↦ absurd (none_before form inputs g f q p reported_too gt)
    ]

not_decoded : (form : InputForm) (inputs : List (List ℕ)) (fault : RunFault) (ss : List Content) → Stops form inputs fault → fault ≢ Memory
    → DecodeAll form inputs ss → ⊥
not_decoded form inputs fault ss p reported all =
    let at = decoded_at form inputs p.place p.input ss all p.here in
    decoded_not_reported form p.place p.input at.0 fault at.1 (cases_reported form p.place p.input fault reported p.reported)

-- ---- what decoded segments come to

one_symbols : (symbols : Option (List ℕ)) (a b : List Range) → HasSymbols symbols a → HasSymbols symbols b → a ≡ b
one_symbols None a b p q = p ∙ sym q
one_symbols (Some bytes) a b p q = one_table (records_of bytes) a b p q

one_fault_of_symbols : (symbols : Option (List ℕ)) (f g : SymbolFault) → HasSymbolFault symbols f → HasSymbolFault symbols g → f ≡ g
one_fault_of_symbols None f g p q = absurd p
one_fault_of_symbols (Some bytes) f g p q = one_symbol_fault (records_of bytes) f g p.0 q.0 p.1 q.1

symbols_or_fault : (symbols : Option (List ℕ)) (table : List Range) (fault : SymbolFault) → HasSymbols symbols table
    → HasSymbolFault symbols fault → ⊥
symbols_or_fault None table fault p q = q
symbols_or_fault (Some bytes) table fault p q = table_has_no_fault (records_of bytes) p.0 fault p.1 q.0 q.1

case_or_fault : (segments : List Content) (T : Trace) (fault : CaseFault) → IsCaseOf segments T → IsOutcome segments (Err fault) → ⊥
case_or_fault segments T fault p q = elim (exact_case segments T (Err fault) p q) [ inl same ↦ cc | inr same ↦ cc ]

one_case_fault : (segments : List Content) (f g : CaseFault) → IsOutcome segments (Err f) → IsOutcome segments (Err g) → f ≡ g
one_case_fault segments f g p q = elim (exact_fault segments f (Err g) p.1 q) [
  | inl same ↦ fault_is f g same
  | inr same ↦ absurd (p.0 (fault_is f case_faults.NoMemory same))
]
  where
    fault_is : (x y : CaseFault) → ◌≡◌ {A = Result Trace CaseFault} (Err x) (Err y) → x ≡ y
    fault_is x y e = cc

one_text : (T : Trace) (table : List Range) (job : Job) (a b : List ℕ) → IsText T table job a → IsText T table job b → a ≡ b
one_text T table job a b p q =
    let until = one_moment T job.until p.0 q.0 p.1 q.1 in
    let is = subst (λ (n : Option ℕ). IsAnswer T n job.question p.2) until p.3 in
    p.4 ∙ ap (λ (n : Option ℕ). lines_of_answer job.format table n job.top p.2) until
    ∙ ap (lines_of_answer job.format table q.0 job.top) (one_answer T q.0 job.question p.2 q.2 is q.3) ∙ sym q.4

one_lines : (given : Decoding) (symbols : Option (List ℕ)) (job : Job) (a b : List ℕ)
    → AreAnswerLines given symbols job a → AreAnswerLines given symbols job b → a ≡ b
one_lines given symbols job a b p q =
    let trace = one_case given.segments p.trace q.trace p.taken.0 q.taken.0 in
    let table = one_symbols symbols p.table q.table p.named q.named in
    let is = subst (λ (t : List Range). IsText q.trace t job a) table (subst (λ (T : Trace). IsText T p.table job a) trace p.is) in
    one_text q.trace q.table job a b is q.is

-- no segment is missing up to the moment, or one is
complete_or_missing : (given : Decoding) (job : Job) (T : Trace) (fault : RunFault) → IsAcceptedCase given job T → IsMissing given job fault → ⊥
complete_or_missing given job T fault taken missing =
    missing.3 (subst (λ (V : Trace). IsCompleteUntil V given.cuts job.until) (one_case given.segments T missing.1 taken.0 missing.2)
    (taken.1 missing.0))

case_or_missing : (given : Decoding) (job : Job) (broken : CaseFault) (fault : RunFault) → IsOutcome given.segments (Err broken)
    → IsMissing given job fault → ⊥
case_or_missing given job broken fault outcome missing = case_or_fault given.segments missing.1 broken missing.2 outcome

-- something can be found of what is asked about, or nothing can
one_absence : (segments : List Content) (job : Job) (T U : Trace) (a b : Option Absence) → IsCaseOf segments T → IsCaseOf segments U
    → HasAbsence T job a → HasAbsence U job b → a ≡ b
one_absence segments job T U a b case other p q =
    let is = subst (λ (V : Trace). HasAbsence V job a) (one_case segments T U case other) p in
    let until = one_moment U job.until is.0 q.0 is.1 q.1 in
    is.2 ∙ ap (λ (n : Option ℕ). absence_in job.question n (all_events U.segments)) until ∙ sym q.2

subject_or_none : (segments : List Content) (job : Job) (T U : Trace) → IsCaseOf segments T → IsCaseOf segments U
    → (job.exit_code ≡ true → HasAbsence T job None) → job.exit_code ≡ true → (absence : Absence) → HasAbsence U job (Some absence) → ⊥
subject_or_none segments job T U case other about coded absence there =
    let same = one_absence segments job T U None (Some absence) case other (about coded) there in cc same

one_missing : (T : Trace) (cuts : List CutEnd) (p q n m : ℕ) → IsLeastMissing T cuts p n → IsLeastMissing T cuts q m → (p ≡ q) × (n ≡ m)
one_missing T cuts p q n m a b =
    let le = a.before q b.there in
    let ge = b.before p a.there in
    let same : p ≡ q = omega (arith, le, ge) in
    (same, one_first T q n m (subst (λ (r : ℕ). IsFirstMissing T r n) same a.first) b.first)

same_head : (x y : CutEnd) (xs ys : List CutEnd) → x ∷ xs ≡ y ∷ ys → x ≡ y
same_head x y xs ys same = ap (λ (l : List CutEnd). get_or l 0 x) same

same_tail : (x y : CutEnd) (xs ys : List CutEnd) → x ∷ xs ≡ y ∷ ys → xs ≡ ys
same_tail x y xs ys same = ap (λ (l : List CutEnd). drop 1 l) same

-- of a list one element is the first that isn't so
one_such : (P : CutEnd → Type 0) (xs ys : List CutEnd) (x y : CutEnd) (more others : List CutEnd) → xs ++ x ∷ more ≡ ys ++ y ∷ others
    → All P xs → (P x → ⊥) → All P ys → (P y → ⊥) → x ≡ y
one_such P [] [] x y more others same all none every differs = same_head x y more others same
one_such P [] (z ∷ ys) x y more others same all none every differs =
    absurd (none (subst P (sym (same_head x z more (ys ++ y ∷ others) same)) (All-head P z ys every)))
one_such P (z ∷ xs) [] x y more others same all none every differs =
    absurd (differs (subst P (same_head z y (xs ++ x ∷ more) others same) (All-head P z xs all)))
one_such P (z ∷ xs) (w ∷ ys) x y more others same all none every differs =
    one_such P xs ys x y more others (same_tail z w (xs ++ x ∷ more) (ys ++ y ∷ others) same) (All-tail P z xs all) none (All-tail P w ys every) differs

one_unknown : (T : Trace) (cuts : List CutEnd) (m n : ℕ) → IsFirstUnknown T cuts m → IsFirstUnknown T cuts n → m ≡ n
one_unknown T cuts m n a b =
    sym a.input_is
    ∙ ap (λ (c : CutEnd). c.input) (one_such (IsKnown T) a.earlier b.earlier a.cut b.cut a.later b.later (sym a.parts ∙ b.parts) a.known
    a.unknown b.known b.unknown)
    ∙ b.input_is

-- what two missing faults report is of one trace
one_trace : (given : Decoding) (job : Job) (f g : RunFault) (p : IsMissing given job f) (q : IsMissing given job g)
    → ReportsMissing q.1 given.cuts f
one_trace given job f g p q =
    subst (λ (T : Trace). ReportsMissing T given.cuts f) (one_case given.segments p.1 q.1 p.2 q.2) p.4

abbrev done : List ℕ → Result (List ℕ) RunFault
done lines = Ok lines

abbrev failed : RunFault → Result (List ℕ) RunFault
failed fault = Err fault

one_least : (given : Decoding) (job : Job) (r s n m : ℕ) → IsMissing given job (Incomplete r n) → IsMissing given job (Incomplete s m)
    → failed (Incomplete r n) ≡ failed (Incomplete s m)
one_least given job r s n m p q =
    let key = one_missing q.1 given.cuts r s n m (one_trace given job (Incomplete r n) (Incomplete s m) p q) q.4 in
    ap (λ (x : ℕ). failed (Incomplete x n)) key.0 ∙ ap (λ (x : ℕ). failed (Incomplete s x)) key.1

least_or_unknown : (given : Decoding) (job : Job) (r n input : ℕ) → IsMissing given job (Incomplete r n)
    → IsMissing given job (UnknownCut input) → ⊥
least_or_unknown given job r n input p q =
    let least = one_trace given job (Incomplete r n) (UnknownCut input) p q in q.4.whole r least.there

one_printed : (given : Decoding) (symbols : Option (List ℕ)) (job : Job) (a b : Result (List ℕ) RunFault)
    → IsPrinted given symbols job a → IsPrinted given symbols job b → a ≡ b
one_printed given symbols job (Ok a) (Ok b) p q = ap done (one_lines given symbols job a b p q)
one_printed given symbols job (Ok a) (Err (Case f)) p q = absurd (case_or_fault given.segments p.trace f p.taken.0 q)
one_printed given symbols job (Ok a) (Err (Incomplete r n)) p q =
    absurd (complete_or_missing given job p.trace (Incomplete r n) p.taken q)
one_printed given symbols job (Ok a) (Err (UnknownCut i)) p q = absurd (complete_or_missing given job p.trace (UnknownCut i) p.taken q)
one_printed given symbols job (Ok a) (Err (Symbols f)) p q = absurd (symbols_or_fault symbols p.table f p.named q.2)
one_printed given symbols job (Ok a) (Err NoSubject) p q =
    absurd (subject_or_none given.segments job p.trace q.1 p.taken.0 q.2.0 p.about q.0 q.5 q.6)
one_printed given symbols job (Ok a) (Err other) p q = absurd q
one_printed given symbols job (Err (Case f)) (Ok b) p q = absurd (case_or_fault given.segments q.trace f q.taken.0 p)
one_printed given symbols job (Err (Case f)) (Err (Case g)) p q =
    ap (λ (x : CaseFault). failed (Case x)) (one_case_fault given.segments f g p q)
one_printed given symbols job (Err (Case f)) (Err (Incomplete r n)) p q = absurd (case_or_missing given job f (Incomplete r n) p q)
one_printed given symbols job (Err (Case f)) (Err (UnknownCut i)) p q = absurd (case_or_missing given job f (UnknownCut i) p q)
one_printed given symbols job (Err (Case f)) (Err (Symbols g)) p q = absurd (case_or_fault given.segments q.0 f q.1.0 p)
one_printed given symbols job (Err (Case f)) (Err NoSubject) p q = absurd (case_or_fault given.segments q.1 f q.2.0 p)
one_printed given symbols job (Err (Case f)) (Err other) p q = absurd q
one_printed given symbols job (Err (Incomplete r n)) (Ok b) p q =
    absurd (complete_or_missing given job q.trace (Incomplete r n) q.taken p)
one_printed given symbols job (Err (Incomplete r n)) (Err (Case g)) p q = absurd (case_or_missing given job g (Incomplete r n) q p)
one_printed given symbols job (Err (Incomplete r n)) (Err (Incomplete s m)) p q = one_least given job r s n m p q
one_printed given symbols job (Err (Incomplete r n)) (Err (UnknownCut i)) p q = absurd (least_or_unknown given job r n i p q)
one_printed given symbols job (Err (Incomplete r n)) (Err (Symbols g)) p q = absurd (complete_or_missing given job q.0 (Incomplete r n) q.1 p)
one_printed given symbols job (Err (Incomplete r n)) (Err NoSubject) p q = absurd (complete_or_missing given job q.1 (Incomplete r n) q.2 p)
one_printed given symbols job (Err (Incomplete r n)) (Err other) p q = absurd q
one_printed given symbols job (Err (UnknownCut i)) (Ok b) p q = absurd (complete_or_missing given job q.trace (UnknownCut i) q.taken p)
one_printed given symbols job (Err (UnknownCut i)) (Err (Case g)) p q = absurd (case_or_missing given job g (UnknownCut i) q p)
one_printed given symbols job (Err (UnknownCut i)) (Err (Incomplete r n)) p q = absurd (least_or_unknown given job r n i q p)
one_printed given symbols job (Err (UnknownCut i)) (Err (UnknownCut j)) p q =
    ap (λ (x : ℕ). failed (UnknownCut x)) (one_unknown q.1 given.cuts i j (one_trace given job (UnknownCut i) (UnknownCut j) p q) q.4)
one_printed given symbols job (Err (UnknownCut i)) (Err (Symbols g)) p q = absurd (complete_or_missing given job q.0 (UnknownCut i) q.1 p)
one_printed given symbols job (Err (UnknownCut i)) (Err NoSubject) p q = absurd (complete_or_missing given job q.1 (UnknownCut i) q.2 p)
one_printed given symbols job (Err (UnknownCut i)) (Err other) p q = absurd q
one_printed given symbols job (Err (Symbols f)) (Ok b) p q = absurd (symbols_or_fault symbols q.table f q.named p.2)
one_printed given symbols job (Err (Symbols f)) (Err (Case g)) p q = absurd (case_or_fault given.segments p.0 g p.1.0 q)
one_printed given symbols job (Err (Symbols f)) (Err (Incomplete r n)) p q = absurd (complete_or_missing given job p.0 (Incomplete r n) p.1 q)
one_printed given symbols job (Err (Symbols f)) (Err (UnknownCut i)) p q = absurd (complete_or_missing given job p.0 (UnknownCut i) p.1 q)
one_printed given symbols job (Err (Symbols f)) (Err (Symbols g)) p q =
    ap (λ (x : SymbolFault). failed (Symbols x)) (one_fault_of_symbols symbols f g p.2 q.2)
one_printed given symbols job (Err (Symbols f)) (Err NoSubject) p q = absurd (symbols_or_fault symbols q.3 f q.4 p.2)
one_printed given symbols job (Err (Symbols f)) (Err other) p q = absurd q
one_printed given symbols job (Err NoSubject) (Ok b) p q =
    absurd (subject_or_none given.segments job q.trace p.1 q.taken.0 p.2.0 q.about p.0 p.5 p.6)
one_printed given symbols job (Err NoSubject) (Err (Case g)) p q = absurd (case_or_fault given.segments p.1 g p.2.0 q)
one_printed given symbols job (Err NoSubject) (Err (Incomplete r n)) p q = absurd (complete_or_missing given job p.1 (Incomplete r n) p.2 q)
one_printed given symbols job (Err NoSubject) (Err (UnknownCut i)) p q = absurd (complete_or_missing given job p.1 (UnknownCut i) p.2 q)
one_printed given symbols job (Err NoSubject) (Err (Symbols g)) p q = absurd (symbols_or_fault symbols p.3 g p.4 q.2)
one_printed given symbols job (Err NoSubject) (Err NoSubject) p q = refl
one_printed given symbols job (Err NoSubject) (Err other) p q = absurd q
one_printed given symbols job (Err other) b p q = absurd p

-- ---- the outcome

-- inputs are decoded to one thing
one_given : (form : InputForm) (inputs : List (List ℕ)) (a b : Decoding) → IsDecoding form inputs a → IsDecoding form inputs b → a ≡ b
one_given form inputs a b p q =
    ap (λ (ss : List Content). decoding ss a.cuts) (one_decoding form inputs a.segments b.segments p.segments q.segments)
    ∙ ap (λ (cuts : List CutEnd). decoding b.segments cuts) (one_cuts form.hex 0 inputs a.cuts b.cuts p.cuts q.cuts)

-- what a run comes to where the number of workers is allowed
abbrev Comes : Job → List (List ℕ) → Option (List ℕ) → Result (List ℕ) RunFault → Type 0
Comes job inputs symbols outcome =
    ((fault : RunFault) × (outcome ≡ failed fault) × (fault ≢ Memory) × Stops job.setting.form inputs fault)
    ⊎ ((given : Decoding) × IsDecoding job.setting.form inputs given × IsPrinted given symbols job outcome)

one_coming : (job : Job) (inputs : List (List ℕ)) (symbols : Option (List ℕ)) (a b : Result (List ℕ) RunFault)
    → Comes job inputs symbols a → Comes job inputs symbols b → a ≡ b
one_coming job inputs symbols a b (inl p) (inl q) =
    p.1 ∙ ap failed (one_stop job.setting.form inputs p.0 q.0 p.3 q.3 p.2 q.2) ∙ sym q.1
one_coming job inputs symbols a b (inl p) (inr q) = absurd (not_decoded job.setting.form inputs p.0 q.0.segments p.3 p.2 q.1.segments)
one_coming job inputs symbols a b (inr p) (inl q) = absurd (not_decoded job.setting.form inputs q.0 p.0.segments q.3 q.2 p.1.segments)
one_coming job inputs symbols a b (inr p) (inr q) =
    let same = one_given job.setting.form inputs p.0 q.0 p.1 q.1 in
    one_printed q.0 symbols job a b (subst (λ (given : Decoding). IsPrinted given symbols job a) same p.2) q.2

cases_printed : (job : Job) (inputs : List (List ℕ)) (symbols : Option (List ℕ)) (outcome : Result (List ℕ) RunFault)
    → Printed job inputs symbols outcome
    → ((outcome ≡ failed Workers) × (WorkersFit job.setting.workers → ⊥)) ⊎ (WorkersFit job.setting.workers × Comes job inputs symbols outcome)
cases_printed job inputs symbols (Err Workers) is = inl (refl, is)
cases_printed job inputs symbols (Err (Segment at offset fault)) is =
    inr (is.0, inl (Segment at offset fault, refl, (λ same. cc), is.1))
cases_printed job inputs symbols (Err (Hex at fault)) is = inr (is.0, inl (Hex at fault, refl, (λ same. cc), is.1))
cases_printed job inputs symbols outcome is = inr (is.0, inr (is.1, is.2, is.3))

-- a job over its inputs and symbols comes to one outcome
pub one_outcome : (job : Job) (inputs : List (List ℕ)) (symbols : Option (List ℕ)) (a b : Result (List ℕ) RunFault)
    → Printed job inputs symbols a → Printed job inputs symbols b → a ≡ b
one_outcome job inputs symbols a b p q =
    elim (cases_printed job inputs symbols a p) [
      | inl x ↦ elim (cases_printed job inputs symbols b q) [ inl y ↦ x.0 ∙ sym y.0 | inr y ↦ absurd (x.1 y.0) ]
      | inr x ↦ elim (cases_printed job inputs symbols b q) [
        | inl y ↦ absurd (y.1 x.0)
        | inr y ↦ one_coming job inputs symbols a b x.1 y.1
      ]
    ]

-- and the number of workers is no part of it
module _ (job : Job) (workers other : ℕ) (inputs : List (List ℕ)) (symbols : Option (List ℕ)) where
  abbrev with_workers : ℕ → Job
  with_workers n = by_workers n job

  same_printed : (given : Decoding) (outcome : Result (List ℕ) RunFault) → IsPrinted given symbols (with_workers workers) outcome
      → IsPrinted given symbols (with_workers other) outcome
  same_printed given (Ok lines) p =
      record { trace = p.trace; taken = p.taken; table = p.table; named = p.named; about = p.about; is = p.is }
  same_printed given (Err (Case f)) p = p
  same_printed given (Err (Incomplete r n)) p = p
  same_printed given (Err (UnknownCut i)) p = p
  same_printed given (Err (Symbols f)) p = p
  same_printed given (Err NoSubject) p = p
  same_printed given (Err any) p = absurd p

  same_coming : (outcome : Result (List ℕ) RunFault) → Comes (with_workers workers) inputs symbols outcome → Comes (with_workers other) inputs symbols outcome
  same_coming outcome (inl p) = inl p
  same_coming outcome (inr p) = inr (p.0, p.1, same_printed p.0 outcome p.2)

  -- whatever number of workers is allowed, a job comes to the same outcome
  pub for_all_workers : (a b : Result (List ℕ) RunFault) → WorkersFit workers → WorkersFit other → Printed (with_workers workers) inputs symbols a
      → Printed (with_workers other) inputs symbols b → a ≡ b
  for_all_workers a b few few_too p q =
      elim (cases_printed (with_workers workers) inputs symbols a p) [
        | inl x ↦ absurd (x.1 few)
        | inr x ↦ elim (cases_printed (with_workers other) inputs symbols b q) [
          | inl y ↦ absurd (y.1 few_too)
          | inr y ↦ one_coming (with_workers other) inputs symbols a b (same_coming a x.1) y.1
        ]
      ]

-- ---- what is told of the answer

remarks_one : (T : Trace) (table : List Range) (job : Job) (a b : Remarks) → RemarksOver T table job a → RemarksOver T table job b → a ≡ b
remarks_one T table job a b p q =
    let until = one_moment T job.until p.0 q.0 p.1 q.1 in
    let is = subst (λ (n : Option ℕ). IsAnswer T n job.question p.2) until p.3 in
    p.4 ∙ ap (remarks_on table job) (one_answer T q.0 job.question p.2 q.2 is q.3) ∙ sym q.4

-- what is told of the answer of a job over its inputs is one thing
pub one_finding : (job : Job) (inputs : List (List ℕ)) (symbols : Option (List ℕ)) (a b : Remarks) → ReportsRemarks job inputs symbols a
    → ReportsRemarks job inputs symbols b → a ≡ b
one_finding job inputs symbols a b p q =
    let same = one_decoding job.setting.form inputs p.0 q.0 p.1 q.1 in
    let first = subst (λ (ss : List Content). RemarksIn ss symbols job a) same p.2 in
    let second = q.2 in
    let trace = one_case q.0 first.0 second.0 first.1 second.1 in
    let table = one_symbols symbols first.2 second.2 first.3 second.3 in
    remarks_one second.0 second.2 job a b
    (subst (λ (t : List Range). RemarksOver second.0 t job a) table (subst (λ (T : Trace). RemarksOver T first.2 job a) trace first.4)) second.4
