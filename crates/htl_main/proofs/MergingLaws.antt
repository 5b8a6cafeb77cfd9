-- Of two analysts that took segments of one trace, the one into which the other was merged took all of both.
use Rattle.std.proofs.Common.{◌≡◌, ◌≢◌, ◌⊎◌, ◌∙◌, ◌<◌, ◌-◌, ℕ, Bool, List, [], ◌∷◌, ◌++◌, Option, Some, None, refl, sym, ap}
use Rattle.std.proofs.Common.{subst, arith, inl, inr}
use Rattle.std.specs.Prelude.{Contains, Ok, Err, ◌↔◌}
use Rattle.std.proofs.lemmas.List.Elements.{Contains-append_cases, Contains-append_left, Contains-append_right}
use Rattle.htl_event.proofs.Members.{all_append, at_member, each_member, some_member}
use Rattle.htl_segment.specs.Content.{Content, Fits}
use Rattle.htl_segment.specs.Traces.{Trace}
use Rattle.htl_analyst.specs.Calls.{IsMerged}
use Rattle.htl_analyst.specs.Keys.{HasTaken, number_taken}
use Rattle.htl_analyst.specs.Refusals.{HoldTwo, MergeRefused}
use Rattle.htl_analyst.specs.Right.{IsRight}
use Rattle.htl_analyst.specs.States.{State}
use Rattle.htl_analyst.specs.TakenAll.{HasKeyOf, HasTakenAll, IsFirstOf}
use Rattle.htl_analyst.specs.declared.fault.MergeFault.{MergeFault}
use Rattle.htl_analyst.specs.declared.fault.MergeFault.TheVariants as merges
use Rattle.htl_analyst.proofs.Firsts.{first_of_key, is_member, still_first}
use Rattle.htl_analyst.proofs.Merges.{HoldTwo-within}
use Rattle.htl_analyst.proofs.TakenAll.{compact_has_taken_the_same}
use Rattle.htl_case.specs.Faults.{HaveOneContent, key_of}
use Rattle.htl_case.specs.declared.fault.CaseFault.TheVariants as cases
use Rattle.htl_inputs.specs.declared.fault.RunFault.{RunFault}
use Rattle.htl_inputs.specs.declared.fault.RunFault.TheVariants as faults
use Rattle.htl_symbols.specs.Ranges.{Range}
use Rattle.htl_main.specs.Asked.{IsUnasked}
use Rattle.htl_main.specs.Coverages.{IsCoverage}
use Rattle.htl_main.specs.Folders.{number_of}
use Rattle.htl_main.specs.Folding.{AreFolded, AreRising, IsCollectionOf, IsFoldedFar}
use Rattle.htl_main.specs.Merging.{AreMerged, IsAbsorbed, IsLoadFault, IsNotAbsorbed, of_merge}
use Rattle.htl_main.specs.SavedStates.{AreOfOne, EndsMerging, HasTwoContents, HaveOtherCounts, HaveOtherIds, IsMergedState, KeepsAtNoState}
use Rattle.htl_main.specs.declared.folding.Folded.{Folded}
use Rattle.htl_main.specs.declared.loading.adding.Added.{Added}
use Rattle.htl_main.proofs.AddingLaws.{no_more}
use Rattle.htl_main.proofs.Collections.{firsts_of}
use Rattle.htl_main.proofs.FoldInputs.{counted_before}
use Rattle.htl_main.proofs.FoldLaws.{all_counted, held_in_list, right_of_all}

abbrev AreIdsOf : State → Content → Type 0
AreIdsOf a s = (s.trace_id ≡ a.trace_id) × (s.processors ≡ a.processors)

same_key : (s t : Content) → s.processor ≡ t.processor → s.number ≡ t.number → key_of s ≡ key_of t
same_key s t p n = cc

-- ---- two lists as one

-- a key of both lists is one of either
key_of_both : (before told : List Content) (p n : ℕ) → HasKeyOf (before ++ told) p n ↔ (HasKeyOf before p n ⊎ HasKeyOf told p n)
key_of_both before told p n = (
  (λ key. elim (Contains-append_cases before told key.0 key.1) [
    | inl here ↦ inl (key.0, here, key.2, key.3)
    | inr there ↦ inr (key.0, there, key.2, key.3)
  ]),
  (λ either. elim either [
    | inl key ↦ (key.0, Contains-append_left before told key.0 key.1, key.2, key.3)
    | inr key ↦ (key.0, Contains-append_right before told key.0 key.1, key.2, key.3)
  ]),
)

-- where no key has two contents, the first segment of a key in the second list is that in both
first_of_both : (before told : List Content) → HaveOneContent (before ++ told) → (s : Content) → IsFirstOf told s
    → IsFirstOf (before ++ told) s
first_of_both before told one s first =
    let here = Contains-append_right before told s (is_member told s first) in
    let found = first_of_key (before ++ told) s.processor s.number (s, here, refl, refl) in
    let same = one found.0 s (is_member (before ++ told) found.0 found.1) here (same_key found.0 s found.2 found.3) in
    subst (IsFirstOf (before ++ told)) same found.1

not_empty : (before told : List Content) → before ≢ [] → before ++ told ≢ []
not_empty [] told some none = some refl
not_empty (s ∷ before) told some none = cc none

-- ---- a merge

module _ (before told : List Content) (a b m : State) (of_a : HasTakenAll before a) (of_b : HasTakenAll told b) (is : IsMerged a b m) where
  same_id : (m.trace_id ≡ a.trace_id) × (m.trace_id ≡ b.trace_id)
  same_id = (is.merged.trace_id, is.merged.trace_id ∙ is.accepted.of_one.trace_id)

  same_count : (m.processors ≡ a.processors) × (m.processors ≡ b.processors)
  same_count = (is.merged.processors, is.merged.processors ∙ is.accepted.of_one.processors)

  keys_of_both : (p n : ℕ) → HasTaken m p n ↔ HasKeyOf (before ++ told) p n
  keys_of_both p n =
      let now = is.keys p n in
      let list = key_of_both before told p n in (
        (λ taken. elim (now.0 taken) [
          | inl own ↦ list.1 (inl ((of_a.keys p n).0 own))
          | inr theirs ↦ list.1 (inr ((of_b.keys p n).0 theirs))
        ]),
        (λ key. elim (list.0 key) [
          | inl own ↦ now.1 (inl ((of_a.keys p n).1 own))
          | inr theirs ↦ now.1 (inr ((of_b.keys p n).1 theirs))
        ]),
      )

  -- It took the segments of both lists, where no key has two contents in them.
  pub merge_has_taken_both : HaveOneContent (before ++ told) → HasTakenAll (before ++ told) m
  merge_has_taken_both one = record {
    ids = all_append (AreIdsOf m) before told
        (each_member (AreIdsOf m) before
        (λ s has. (let e = at_member (AreIdsOf a) before s of_a.ids has in (e.0 ∙ sym same_id.0, e.1 ∙ sym same_count.0))))
        (each_member (AreIdsOf m) told
        (λ s has. (let e = at_member (AreIdsOf b) told s of_b.ids has in (e.0 ∙ sym same_id.1, e.1 ∙ sym same_count.1))));
    fit = all_append Fits before told of_a.fit of_b.fit;
    keys = keys_of_both;
    right = λ T collection id count each. is.right T
        (of_a.right T collection (id ∙ same_id.0) (count ∙ same_count.0) (λ s first. each s (still_first before told s first)))
        (of_b.right T collection (id ∙ same_id.1) (count ∙ same_count.1) (λ s first. each s (first_of_both before told one s first)));
  }

-- ---- once it is compacted

-- an analyst that took segments which rise has folded all that it can of them
pub compacted_folds : (segments : List Content) (a n : State) → HasTakenAll segments a → segments ≢ [] → AreRising segments
    → (n.trace_id ≡ a.trace_id) × (n.processors ≡ a.processors) → ((p k : ℕ) → HasTaken n p k ↔ HasTaken a p k)
    → ((T : Trace) → IsRight a T → IsRight n T) → IsFoldedFar (Some n) → AreFolded (Some n) segments
compacted_folds segments a n took some rising same keys right far = record {
  taken = (some, compact_has_taken_the_same segments a n took same keys right);
  rising = rising;
  far = far;
}

-- ---- one trace or two

module _ (before told : List Content) (a b : State) (of_a : AreFolded (Some a) before) (of_b : AreFolded (Some b) told) where
  ids_of_a : (s : Content) → Contains before s → AreIdsOf a s
  ids_of_a s has = at_member (AreIdsOf a) before s of_a.taken.1.ids has

  ids_of_b : (t : Content) → Contains told t → AreIdsOf b t
  ids_of_b t has = at_member (AreIdsOf b) told t of_b.taken.1.ids has

  one_id : a.trace_id ≡ b.trace_id → HaveOtherIds before told → before ≡ []
  one_id same other =
      let s = some_member before of_a.taken.0 in
      let t = some_member told of_b.taken.0 in
      absurd (other s.0 t.0 s.1 t.1 ((ids_of_a s.0 s.1).0 ∙ same ∙ sym (ids_of_b t.0 t.1).0))

  one_count : a.processors ≡ b.processors → HaveOtherCounts before told → before ≡ []
  one_count same other =
      let s = some_member before of_a.taken.0 in
      let t = some_member told of_b.taken.0 in
      absurd ((other s.0 t.0 s.1 t.1).1 ((ids_of_a s.0 s.1).1 ∙ same ∙ sym (ids_of_b t.0 t.1).1))

  other_ids : a.trace_id ≢ b.trace_id → HaveOtherIds before told
  other_ids differ s t in_s in_t same = differ (sym (ids_of_a s in_s).0 ∙ same ∙ (ids_of_b t in_t).0)

  other_counts : a.trace_id ≡ b.trace_id → a.processors ≢ b.processors → HaveOtherCounts before told
  other_counts one differ s t in_s in_t = (
    (ids_of_a s in_s).0 ∙ one ∙ sym (ids_of_b t in_t).0,
    λ same. differ (sym (ids_of_a s in_s).1 ∙ same ∙ (ids_of_b t in_t).1),
  )

  -- two segments of one key that both hold are of the two lists
  two_contents : a.processors ≡ b.processors → (p n : ℕ) → HoldTwo a b p n → HasTwoContents before told p n
  two_contents count p n two =
      let own = firsts_of before a of_a.taken.1 in
      let theirs = firsts_of told b of_b.taken.1 in
      let right = right_of_all told b theirs.0 of_b.taken.1 of_b.taken.0 theirs.1 in
      let within : p < b.processors = HoldTwo-within a b right.state p n two in
      let there = held_in_list told b theirs.0 of_b.taken.1 of_b.taken.0 theirs.1 p two.segment within two.here in
      let own_p : two.segment.processor ≡ p = there.0 in
      let inside : two.segment.processor < a.processors = omega (arith, own_p, within, count) in
      let other = two.other in
      let here = held_in_list before a own.0 of_a.taken.1 of_a.taken.0 own.1 two.segment.processor other.held inside other.here in
      record {
        one = other.held;
        other = two.segment;
        before_has = is_member before other.held here.1;
        told_has = is_member told two.segment there.1;
        one_key = pair other.held p n (here.0 ∙ own_p) (other.number ∙ two.number);
        other_key = pair two.segment p n own_p two.number;
        differ = other.other;
      }
    where
      pair : (s : Content) (p n : ℕ) → s.processor ≡ p → s.number ≡ n → key_of s ≡ (p, n)
      pair s p n own number = cc

-- ---- what comes of absorbing a state

-- an analyst was merged into another one, which was compacted then
pub absorbed : (a b m n : State) → IsMerged a b m → (n.trace_id ≡ m.trace_id) × (n.processors ≡ m.processors)
    → ((p k : ℕ) → HasTaken n p k ↔ HasTaken m p k) → ((T : Trace) → IsRight m T → IsRight n T) → IsFoldedFar (Some n)
    → IsAbsorbed (Some a) b (Some n)
absorbed a b m n is same keys right far = record {
  some = refl;
  both = λ before told of_a of_b. record {
    ids = one_id before told a b of_a of_b is.accepted.of_one.trace_id;
    counts = one_count before told a b of_a of_b is.accepted.of_one.processors;
    folded = λ one. compacted_folds (before ++ told) m n (merge_has_taken_both before told a b m of_a.taken.1 of_b.taken.1 is one.contents)
        (not_empty before told of_a.taken.0) one.rising same keys right far;
  };
}

-- the other is refused
pub not_absorbed : (a b now : State) (fault : MergeFault) → MergeRefused a b fault → now ≡ a
    → IsNotAbsorbed (Some a) b (Some now) (of_merge fault)
not_absorbed a b now merges.OtherTrace refused same = (
  ap Some same,
  λ before told of_a of_b. (refl, of_a.taken.0, other_ids before told a b of_a of_b refused),
)
not_absorbed a b now merges.OtherProcessors refused same = (
  ap Some same,
  λ before told of_a of_b. (refl, of_a.taken.0, other_counts before told a b of_a of_b refused.0 refused.1),
)
not_absorbed a b now (merges.Conflict p n) refused same = (
  ap Some same,
  λ before told of_a of_b. two_contents before told a b of_a of_b refused.0.processors p n refused.1,
)
not_absorbed a b now merges.NoMemory refused same = tt

-- ---- how a merge ends

module _ (complete : Bool) (before told : List Content) (old now : Option State) (b : State) (was : AreFolded old before)
    (of_b : AreFolded (Some b) told) where
  -- the other is refused
  pub ends_unmerged : (Keeps : List Content → Type 0) (fault : RunFault) → IsNotAbsorbed old b now fault
      → EndsMerging complete before told Keeps (now ≡ old) (Err fault)
  ends_unmerged Keeps faults.Memory refused = tt
  ends_unmerged Keeps (faults.Case (cases.OtherTrace place)) refused =
      (let why = refused.1 before told was of_b in (why.0, why.1, why.2, refused.0))
  ends_unmerged Keeps (faults.Case (cases.OtherProcessors place)) refused =
      (let why = refused.1 before told was of_b in (why.0, why.1, why.2, refused.0))
  ends_unmerged Keeps (faults.Case (cases.TwoContents p n)) refused = (refused.1 before told was of_b, refused.0)
  ends_unmerged Keeps (faults.Case fault) refused = absurd (refused.1 before told was of_b)
  ends_unmerged Keeps fault refused = absurd refused

  -- a gap is reported of what is merged
  pub ends_short : AreMerged before told now → (fault : RunFault) → IsUnasked complete now fault
      → EndsMerging complete before told (AreFolded now) (now ≡ old) (Err fault)
  ends_short merged faults.Memory short = tt
  ends_short merged (faults.Incomplete p n) short =
      (short.0, λ one. (merged.folded one, λ T all. short.1 (before ++ told) T (merged.folded one) all))
  ends_short merged fault short = absurd short

  -- all that either list has was taken
  merged_state : AreMerged before told now → (added : Added) → added.segments ≡ number_taken b → added.new ≡ number_of now - number_of old
      → ((segments : List Content) (T : Trace) → AreFolded now segments → IsCollectionOf segments T → IsCoverage T added.coverage)
      → AreOfOne before told → IsMergedState before told (AreFolded now) added
  merged_state merged added segments new covered one =
      let both = merged.folded one in
      record {
        kept = both;
        segments = λ T all. segments ∙ all_counted told b T of_b.taken.1 of_b.taken.0 all;
        new = λ T U all_before all_after.
            (let first = counted_before before old T was.taken all_before in
            let last = counted_before (before ++ told) now U both.taken all_after in
            let more = no_more U.segments T.segments all_before.collection.in_order all_after.collection.in_order
            (λ s has. (all_after.members s).1 (still_first before told s ((all_before.members s).0 has))) in
            omega (arith, first, last, more, new));
        coverage = λ T all. covered (before ++ told) T both all;
      }

  pub ends_merged : AreMerged before told now → (added : Added) → added.cut ≡ None → added.segments ≡ number_taken b
      → added.new ≡ number_of now - number_of old
      → ((segments : List Content) (T : Trace) → AreFolded now segments → IsCollectionOf segments T → IsCoverage T added.coverage)
      → EndsMerging complete before told (AreFolded now) (now ≡ old) (Ok added)
  ends_merged merged added uncut segments new covered =
      (uncut, merged.ids, merged.counts, merged_state merged added segments new covered)

-- ---- refused bytes

-- what was folded stays where bytes are no state
pub stays_at_no_state : (bytes : List ℕ) (folded : Folded) (fault : RunFault) → IsLoadFault bytes fault
    → KeepsAtNoState bytes folded folded fault
stays_at_no_state bytes folded faults.Memory is = tt
stays_at_no_state bytes folded (faults.State place offset fault) is = (is, refl)
stays_at_no_state bytes folded (faults.Unbounded place processor) is = (is, refl)
stays_at_no_state bytes folded fault is = absurd is

same_folded : (one other : Folded) → one.analyst ≡ other.analyst → one.symbols ≡ other.symbols → one ≡ other
same_folded one other analyst symbols =
    let half : one ≡ record { analyst = other.analyst; symbols = one.symbols } =
    ap (λ (a : Option State). record { analyst = a; symbols = one.symbols }) analyst in
    half ∙ ap (λ (table : List Range). record { analyst = other.analyst; symbols = table }) symbols

-- and where the state is refused
pub stays_unmerged : (bytes : List ℕ) (before after : Folded) (b : State) (fault : RunFault) → after.symbols ≡ before.symbols
    → IsNotAbsorbed before.analyst b after.analyst fault → KeepsAtNoState bytes before after fault
stays_unmerged bytes before after b faults.Memory symbols is = tt
stays_unmerged bytes before after b (faults.Case fault) symbols is = same_folded after before is.0 symbols
stays_unmerged bytes before after b fault symbols is = absurd is

-- but not where a gap is reported
pub merged_with_gap : (bytes : List ℕ) (before after : Folded) (complete : Bool) (fault : RunFault)
    → IsUnasked complete after.analyst fault → KeepsAtNoState bytes before after fault
merged_with_gap bytes before after complete faults.Memory is = tt
merged_with_gap bytes before after complete (faults.Incomplete processor number) is = tt
merged_with_gap bytes before after complete fault is = absurd is

-- where memory was refused, nothing is said
pub ends_in_memory : (complete : Bool) (before told : List Content) (Keeps : List Content → Type 0) (Stays : Type 0) (fault : RunFault)
    → fault ≡ faults.Memory → EndsMerging complete before told Keeps Stays (Err fault)
ends_in_memory complete before told Keeps Stays fault is = rw is tt
