-- Reading comes to what the contract says: what the text encodes, or its first fault.
use Rattle.std.proofs.Common.{◌≡◌, ◌⊎◌, inl, inr, ℕ, List, [], refl, ap, subst, sym, ◌∙◌}
use Rattle.std.specs.Prelude.{None, Result, Ok, Err, IfOk, IfErr, MatchResult}
use Rattle.htl_segment.specs.Bundles.{bundle}
use Rattle.htl_segment.specs.Content.{Content}
use Rattle.htl_text.specs.declared.fault.LineFault.{LineFault}
use Rattle.htl_text.specs.declared.fault.TextFault.{TextFault}
use Rattle.htl_text.specs.declared.fault.TextFault.TheVariants as text
use Rattle.htl_text.specs.Encoded.{Encodes, FirstFault, IsOrNoMemory, IsRefused}
use Rattle.htl_text.specs.Lines.{text_lines, without_mark}
use Rattle.htl_text.specs.Steps.{read, nothing_read, NeedsSegment, Reports}
use Rattle.htl_text.proofs.Complete.{encoded_is_read, fault_is_read}
use Rattle.htl_text.proofs.Holding.{bytes_in, lines_read, lines_held}
use Rattle.htl_text.proofs.Sound.{Concludes, sound}
use Rattle.htl_text.proofs.Writing.{kept_nil}

same_ok : {A E : Type 0} (r : Result A E) (a b : A) → r ≡ Ok a → r ≡ Ok b → a ≡ b
same_ok r a b h k = cc

same_err : {A E : Type 0} (r : Result A E) (a b : E) → r ≡ Err a → r ≡ Err b → a ≡ b
same_err r a b h k = cc

never_both : {A E : Type 0} (r : Result A E) (a : A) (e : E) → r ≡ Ok a → r ≡ Err e → ⊥
never_both r a e h k = cc

-- what reading comes to
abbrev pub outcome : List ℕ → Result (List ℕ) (ℕ × LineFault)
outcome bytes = read 0 (text_lines bytes) nothing_read

concluded : (bytes : List ℕ) → Concludes (text_lines bytes) (lines_read 0 (text_lines bytes) None)
concluded bytes = sound (text_lines bytes) [] 0 None (refl, rw kept_nil refl)

outcome_is : (bytes : List ℕ) → outcome bytes ≡ bytes_in (lines_read 0 (text_lines bytes) None)
outcome_is bytes = lines_held 0 (text_lines bytes) None

pub outcome_found : (bytes out : List ℕ) → outcome bytes ≡ Ok out → (segments : List Content) × Encodes bytes segments × (out ≡ bundle segments)
outcome_found bytes out is = by_read (lines_read 0 (text_lines bytes) None) (concluded bytes) (sym (outcome_is bytes) ∙ is)
  where
    by_read : (r : Result (List Content) (ℕ × LineFault)) → Concludes (text_lines bytes) r → bytes_in r ≡ Ok out
        → (segments : List Content) × Encodes bytes segments × (out ≡ bundle segments)
    by_read (Ok segments) h e = (segments, h, same_ok (Ok out) out (bundle segments) refl (sym e))
    by_read (Err fault) h e = absurd (never_both (Ok out) out fault refl (sym e))

pub outcome_fault : (bytes : List ℕ) (line : ℕ) (fault : LineFault) → outcome bytes ≡ Err (line, fault) → FirstFault bytes line fault
outcome_fault bytes line fault is = by_read (lines_read 0 (text_lines bytes) None) (concluded bytes) (sym (outcome_is bytes) ∙ is)
  where
    by_read : (r : Result (List Content) (ℕ × LineFault)) → Concludes (text_lines bytes) r → bytes_in r ≡ Err (line, fault) → FirstFault bytes line fault
    by_read (Ok segments) h e = absurd (never_both (Ok (bundle segments)) (bundle segments) (line, fault) refl e)
    by_read (Err found) h e = let same : found ≡ (line, fault) = same_err (Err found) found (line, fault) refl e in
        subst (λ (x : ℕ × LineFault). FirstFault bytes x.0 x.1) same h

pub encoded_outcome : (bytes : List ℕ) (segments : List Content) → Encodes bytes segments → outcome bytes ≡ Ok (bundle segments)
encoded_outcome bytes segments h = outcome_is bytes ∙ ap bytes_in (encoded_is_read (text_lines bytes) segments h)

pub fault_outcome : (bytes : List ℕ) (line : ℕ) (fault : LineFault) → FirstFault bytes line fault → outcome bytes ≡ Err (line, fault)
fault_outcome bytes line fault h = outcome_is bytes ∙ ap bytes_in (fault_is_read (text_lines bytes) line fault h)

-- an answer that reports the outcome
abbrev pub Answers : {V : Type 0} → (V → List ℕ) → List ℕ → Result V TextFault → Type 0
Answers items bytes answer = MatchResult answer (λ out. outcome bytes ≡ Ok (items out)) (λ fault. Reports (outcome bytes) fault)

-- an answer that gives bytes gives those of segments that the text encodes
pub answer_found : {V : Type 0} (items : V → List ℕ) (bytes : List ℕ) (answer : Result V TextFault) → Answers items bytes answer
    → IfOk answer (λ out. (segments : List Content) × Encodes bytes segments × (items out ≡ bundle segments))
answer_found items bytes (Ok out) is = outcome_found bytes (items out) is
answer_found items bytes (Err fault) is = tt

-- where a text encodes segments, an answer gives their bytes, or memory was refused
pub answer_only : {V : Type 0} (items : V → List ℕ) (bytes : List ℕ) (answer : Result V TextFault) → Answers items bytes answer
    → (segments : List Content) → Encodes bytes segments
    → MatchResult answer (λ out. items out ≡ bundle segments) (λ refused. refused ≡ text.NoMemory)
answer_only items bytes (Ok out) is segments h = same_ok (outcome bytes) (items out) (bundle segments) is (encoded_outcome bytes segments h)
answer_only items bytes (Err (text.Line line fault)) is segments h =
    absurd (never_both (outcome bytes) (bundle segments) (line, fault) (encoded_outcome bytes segments h) is)
answer_only items bytes (Err text.NoMemory) is segments h = refl

-- a refusal has its cause: the text's first fault, or memory for a segment that it begins with
pub answer_cause : {V : Type 0} (items : V → List ℕ) (bytes : List ℕ) (answer : Result V TextFault) → Answers items bytes answer
    → IfErr answer (λ refused. NeedsSegment (without_mark bytes) refused) → IfErr answer (λ refused. IsRefused bytes refused)
answer_cause items bytes (Ok out) is needs = tt
answer_cause items bytes (Err (text.Line line fault)) is needs = outcome_fault bytes line fault is
answer_cause items bytes (Err text.NoMemory) is needs = needs

-- where a text has a first fault, the answer is this fault, or memory was refused
pub answer_fault : {V : Type 0} (items : V → List ℕ) (bytes : List ℕ) (answer : Result V TextFault) → Answers items bytes answer
    → (line : ℕ) (fault : LineFault) → FirstFault bytes line fault
    → MatchResult answer (λ out. ⊥) (λ refused. IsOrNoMemory line fault refused)
answer_fault items bytes (Ok out) is line fault h = never_both (outcome bytes) (items out) (line, fault) is (fault_outcome bytes line fault h)
answer_fault items bytes (Err (text.Line place found)) is line fault h =
    inl (ap (λ (x : ℕ × LineFault). text.Line x.0 x.1) (same_err (outcome bytes) (place, found) (line, fault) is (fault_outcome bytes line fault h)))
answer_fault items bytes (Err text.NoMemory) is line fault h = inr refl

-- so a text is read in one way
same_pair : (m n : ℕ) (f g : LineFault) → let a : ℕ × LineFault = (m, f) in let b : ℕ × LineFault = (n, g) in a ≡ b → (m ≡ n) × (f ≡ g)
same_pair m n f g e = (ap (λ (x : ℕ × LineFault). x.0) e, ap (λ (x : ℕ × LineFault). x.1) e)

-- a text encodes one list of segments
pub one_list : (text : List ℕ) (ss ts : List Content) → Encodes text ss → Encodes text ts → ss ≡ ts
one_list text ss ts h k =
    same_ok (lines_read 0 (text_lines text) None) ss ts (encoded_is_read (text_lines text) ss h) (encoded_is_read (text_lines text) ts k)

-- a text has one first fault, in one line
pub one_fault : (text : List ℕ) (m n : ℕ) (f g : LineFault) → FirstFault text m f → FirstFault text n g → (m ≡ n) × (f ≡ g)
one_fault text m n f g h k =
    same_pair m n f g (same_err (lines_read 0 (text_lines text) None) (m, f) (n, g) (fault_is_read (text_lines text) m f h)
    (fault_is_read (text_lines text) n g k))

-- a text that encodes segments has no first fault
pub not_both : (text : List ℕ) (ss : List Content) (n : ℕ) (f : LineFault) → Encodes text ss → FirstFault text n f → ⊥
not_both text ss n f h k =
    never_both (lines_read 0 (text_lines text) None) ss (n, f) (encoded_is_read (text_lines text) ss h) (fault_is_read (text_lines text) n f k)

-- a text encodes segments, or has a first fault
pub one_of_both : (text : List ℕ) → ((ss : List Content) × Encodes text ss) ⊎ ((n : ℕ) × (f : LineFault) × FirstFault text n f)
one_of_both text = by_read (lines_read 0 (text_lines text) None) (concluded text)
  where
    by_read : (r : Result (List Content) (ℕ × LineFault)) → Concludes (text_lines text) r
        → ((ss : List Content) × Encodes text ss) ⊎ ((n : ℕ) × (f : LineFault) × FirstFault text n f)
    by_read (Ok segments) h = inl (segments, h)
    by_read (Err fault) h = inr (fault.0, fault.1, h)
