-- What the steps of `Case::of` report of the segments in order holds of the list as it was given.
use Rattle.std.proofs.Common.{◌≡◌, ℕ, ◌<◌, List, [], ◌∷◌, refl, sym, ◌∙◌, subst, All, inl, inr}
use Rattle.std.specs.Prelude.{Contains, ◌↔◌}
use Rattle.std.proofs.lemmas.List.Elements.{recursion_from_All}
use Rattle.htl_event.specs.Handles.{HaveOwnSequences}
use Rattle.htl_event.proofs.Members.{each_member, Contains-here, Contains-nil}
use Rattle.htl_segment.specs.Content.{Content, Fits}
use Rattle.htl_segment.specs.Traces.{Trace, IsTrace, trace, all_events}
use Rattle.htl_case.specs.declared.fault.CaseFault.{CaseFault}
use Rattle.htl_case.specs.Cases.{IsCase, IsCaseOf}
use Rattle.htl_segment.specs.Rising.{IsKeyBefore}
use Rattle.htl_event.specs.Members.{IsLeastSuch}
use Rattle.htl_case.specs.Faults.{ComesTwice, Falls, AreOfOneTrace, IsRefusal}
use Rattle.htl_case.specs.Ordered.{AreOf, IsInOrder, IsTwoContents, IsFalling}
use Rattle.htl_case.proofs.Scanned.{falls_moved, rise_from_none}

-- two contents under one key refuse the list
pub two_refused : (given : List Content) (id processors : ℕ) (fault : CaseFault) → AreOf given id processors → IsTwoContents given fault
    → IsRefusal given fault
two_refused given id processors fault of (processor, number, is, least) =
    subst (IsRefusal given) (sym is) (
      (λ s t h k. of.trace s h ∙ sym (of.trace t k)),
      (λ s t h k. of.count s h ∙ sym (of.count t k)),
      least,
    )

-- a sequence that comes twice in some segments does so in all
pub twice_moved : (a b : List Content) (x : ℕ) → ((s : Content) → Contains a s → Contains b s) → ComesTwice a x → ComesTwice b x
twice_moved a b x into two = record {
  one = two.one;
  other = two.other;
  has_one = into two.one two.has_one;
  has_other = into two.other two.has_other;
  differ = two.differ;
  in_one = two.in_one;
  in_other = two.in_other;
}

module _ (given ordered : List Content) (id processors : ℕ) (of : AreOf given id processors) (put : IsInOrder given ordered) where
  -- what was put in order under one id and one count is of one trace, with one content a key
  pub of_one_trace : AreOfOneTrace given
  of_one_trace = record {
    some = of.some;
    trace = λ s t h k. of.trace s h ∙ sym (of.trace t k);
    count = λ s t h k. of.count s h ∙ sym (of.count t k);
    content = put.content;
  }

  -- the least sequence that comes twice in the segments in order refuses the list as it was given
  pub twice_refused : (x : ℕ) → IsLeastSuch ◌<◌ (ComesTwice ordered) x → AreOfOneTrace given × IsLeastSuch ◌<◌ (ComesTwice given) x
  twice_refused x least = (
    of_one_trace,
    record {
      holds = twice_moved ordered given x (λ s h. (put.members s).0 h) least.holds;
      least = λ y lt two. least.least y lt (twice_moved given ordered y (λ s h. (put.members s).1 h) two);
    },
  )

  -- the least key that falls in the segments in order, where no sequence comes twice, refuses the list as it was given
  pub falling_refused : (key : ℕ × ℕ) → ((x : ℕ) → ComesTwice ordered x → ⊥) → IsLeastSuch IsKeyBefore (Falls ordered) key
      → AreOfOneTrace given × ((x : ℕ) → ComesTwice given x → ⊥) × IsLeastSuch IsKeyBefore (Falls given) key
  falling_refused key once least = (
    of_one_trace,
    (λ x two. once x (twice_moved given ordered x (λ s h. (put.members s).1 h) two)),
    record {
      holds = falls_moved ordered given key (λ s h. (put.members s).0 h) least.holds;
      least = λ lower before falls. least.least lower before (falls_moved given ordered lower (λ s h. (put.members s).1 h) falls);
    },
  )

  -- what a fault of sequences that fall says of the segments in order refuses the list as it was given
  pub rising_refused : (fault : CaseFault) → ((x : ℕ) → ComesTwice ordered x → ⊥) → IsFalling ordered fault → IsRefusal given fault
  rising_refused fault once (inl memory) = subst (IsRefusal given) (sym memory) of_one_trace
  rising_refused fault once (inr (processor, number, is, least)) =
      subst (IsRefusal given) (sym is) (falling_refused (processor, number) once least)

  -- there are segments in order
  pub still_some : ordered ≡ [] → ⊥
  still_some none = of.some (no_members given (λ s h. Contains-nil s
      (subst (λ (ss : List Content). Contains ss s) none ((put.members s).1 h))))
    where
      no_members : (ss : List Content) → ((s : Content) → Contains ss s → ⊥) → ss ≡ []
      no_members [] none = refl
      no_members (s ∷ ss) none = absurd (none s (Contains-here s ss))

  -- segments in order that fit, with sequences of their own, are those of a trace
  pub is_trace : All Fits ordered → HaveOwnSequences (all_events ordered) → IsTrace (trace id processors ordered)
  is_trace fit own = record {
    in_order = put.in_order;
    fit = recursion_from_All Fits ordered fit;
    same = each_member (λ s. (s.trace_id ≡ id) × (s.processors ≡ processors)) ordered
        (λ s h. let k = (put.members s).0 h in (of.trace s k, of.count s k));
    sequences = own;
  }

  -- segments in order that fit, with sequences of their own that rise, are the case of the list as it was given
  pub is_case_of : All Fits ordered → HaveOwnSequences (all_events ordered) → ((key : ℕ × ℕ) → Falls ordered key → ⊥)
      → IsCaseOf given (trace id processors ordered)
  is_case_of fit own none = record {
    is_case = record { some = still_some; trace = is_trace fit own; rising = rise_from_none ordered none };
    members = put.members;
  }

  -- a case of the segments in order is that of the list as it was given
  pub case_of_given : (T : Trace) → T ≡ trace id processors ordered → IsCase T → IsCaseOf given T
  case_of_given T is case = record {
    is_case = case;
    members = subst (λ (S : Trace). (s : Content) → Contains S.segments s ↔ Contains given s) (sym is) put.members;
  }
