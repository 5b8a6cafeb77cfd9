-- Of a list of segments, the first of each key are a collection; of a case's segments they are all.
use Rattle.std.proofs.Common.{◌≡◌, ◌⊎◌, ◌∙◌, ℕ, List, [], ◌∷◌, refl, sym, ap, subst, inl, inr}
use Rattle.std.specs.Prelude.{Contains, ◌↔◌}
use Rattle.std.specs.List.{AllByRecursion}
use Rattle.htl_event.proofs.Members.{Contains-cases, Contains-here, Contains-nil, Contains-there, at_member, each_member, some_member}
use Rattle.htl_segment.specs.Content.{Content, Fits}
use Rattle.htl_segment.specs.Rising.{IsKeyBefore}
use Rattle.htl_segment.specs.Traces.{AreInOrder, IsBefore, Trace, trace}
use Rattle.htl_analyst.specs.States.{State}
use Rattle.htl_analyst.specs.TakenAll.{HasTakenAll, IsFirstOf}
use Rattle.htl_analyst.proofs.Firsts.{first_of_key, is_member}
use Rattle.htl_analyst.proofs.Held.{collection_of, keys_differ, one_segment}
use Rattle.htl_case.specs.Cases.{IsCaseOf}
use Rattle.htl_case.specs.Faults.{key_of}
use Rattle.htl_case.proofs.KeyOrder.{before_before, cases_key}
use Rattle.htl_question.specs.declared.question.Question.{Question}
use Rattle.htl_main.specs.Folding.{IsAskedOver, IsCaseOfFirsts, IsCollectionOf}

-- ---- a segment in place of that of its key

abbrev Differ : Content → Content → Type 0
Differ s x = s.processor ≡ x.processor → s.number ≡ x.number → ⊥

-- The one list, in order, has this segment and those of the other list that have other keys.
record IsPut (s : Content) (ts us : List Content) : Type 0 where
  in_order : AreInOrder us
  members : (x : Content) → Contains us x ↔ ((x ≡ s) ⊎ (Contains ts x × Differ s x))

put_first : (s t : Content) (ts : List Content) → AreInOrder (t ∷ ts) → IsBefore s t → IsPut s (t ∷ ts) (s ∷ t ∷ ts)
put_first s t ts ordered before =
    let all : AllByRecursion (IsBefore s) (t ∷ ts) = (
      before,
      each_member (IsBefore s) ts
          (λ x has. before_before (key_of s) (key_of t) (key_of x) before (at_member (IsBefore t) ts x ordered.0 has)),
    ) in
    record {
      in_order = (all, ordered);
      members = λ x. (
        (λ has. elim (Contains-cases s (t ∷ ts) x has) [
          | inl is ↦ inl (sym is)
          | inr later ↦ inr (later, keys_differ s x (at_member (IsBefore s) (t ∷ ts) x all later))
        ]),
        (λ either. elim either [
          | inl is ↦ subst (Contains (s ∷ t ∷ ts)) (sym is) (Contains-here s (t ∷ ts))
          | inr there ↦ Contains-there s (t ∷ ts) x there.0
        ]),
      );
    }

put_over : (s t : Content) (ts : List Content) → AreInOrder (t ∷ ts) → key_of s ≡ key_of t → IsPut s (t ∷ ts) (s ∷ ts)
put_over s t ts ordered same =
    let all : AllByRecursion (IsBefore s) ts =
    each_member (IsBefore s) ts
    (λ x has. subst (λ (k : ℕ × ℕ). IsKeyBefore k (key_of x)) (sym same) (at_member (IsBefore t) ts x ordered.0 has)) in
    record {
      in_order = (all, ordered.1);
      members = λ x. (
        (λ has. elim (Contains-cases s ts x has) [
          | inl is ↦ inl (sym is)
          | inr later ↦ inr (Contains-there t ts x later, keys_differ s x (at_member (IsBefore s) ts x all later))
        ]),
        (λ either. elim either [
          | inl is ↦ subst (Contains (s ∷ ts)) (sym is) (Contains-here s ts)
          | inr there ↦ elim (Contains-cases t ts x there.0) [
            | inl is ↦
                absurd (there.1 (ap (λ (k : ℕ × ℕ). k.0) same ∙ ap (λ (y : Content). y.processor) is)
                (ap (λ (k : ℕ × ℕ). k.1) same ∙ ap (λ (y : Content). y.number) is))
            | inr later ↦ Contains-there s ts x later
          ]
        ]),
      );
    }

put_behind : (s t : Content) (ts us : List Content) → AreInOrder (t ∷ ts) → IsBefore t s → IsPut s ts us → IsPut s (t ∷ ts) (t ∷ us)
put_behind s t ts us ordered before put = record {
  in_order = (
    each_member (IsBefore t) us (λ x has. elim ((put.members x).0 has) [
      | inl is ↦ subst (λ (y : Content). IsBefore t y) (sym is) before
      | inr there ↦ at_member (IsBefore t) ts x ordered.0 there.0
    ]),
    put.in_order,
  );
  members = λ x. (
    (λ has. elim (Contains-cases t us x has) [
      | inl is ↦ inr (
        subst (Contains (t ∷ ts)) is (Contains-here t ts),
        λ p n. keys_differ t s before (ap (λ (y : Content). y.processor) is ∙ sym p) (ap (λ (y : Content). y.number) is ∙ sym n),
      )
      | inr later ↦ elim ((put.members x).0 later) [
        | inl is ↦ inl is
        | inr there ↦ inr (Contains-there t ts x there.0, there.1)
      ]
    ]),
    (λ either. elim either [
      | inl is ↦ Contains-there t us x ((put.members x).1 (inl is))
      | inr there ↦ elim (Contains-cases t ts x there.0) [
        | inl is ↦ subst (Contains (t ∷ us)) is (Contains-here t us)
        | inr later ↦ Contains-there t us x ((put.members x).1 (inr (later, there.1)))
      ]
    ]),
  );
}

put : (s : Content) (ts : List Content) → AreInOrder ts → (us : List Content) × IsPut s ts us
put s [] ordered = (
  s ∷ [],
  record {
    in_order = (tt, tt);
    members = λ x. (
      (λ has. elim (Contains-cases s [] x has) [ inl is ↦ inl (sym is) | inr none ↦ absurd (Contains-nil x none) ]),
      (λ either. elim either [
        | inl is ↦ subst (Contains (s ∷ [])) (sym is) (Contains-here s [])
        | inr there ↦ absurd (Contains-nil x there.0)
      ]),
    );
  },
)
put s (t ∷ ts) ordered =
    elim (cases_key (key_of s) (key_of t)) [
      | inl before ↦ (s ∷ t ∷ ts, put_first s t ts ordered before)
      | inr (inl same) ↦ (s ∷ ts, put_over s t ts ordered same)
      | inr (inr after) ↦ (let rest = put s ts ordered.1 in (t ∷ rest.0, put_behind s t ts rest.0 ordered after rest.1))
    ]

-- ---- the first segments

-- the first segments of all keys, in order
in_order : (ss : List Content) → (us : List Content) × AreInOrder us × ((x : Content) → Contains us x ↔ IsFirstOf ss x)
in_order [] = ([], tt, λ x. ((λ has. Contains-nil x has), (λ none. absurd none)))
in_order (s ∷ ss) =
    let rest = in_order ss in
    let all = put s rest.0 rest.1 in (
      all.0,
      all.1.in_order,
      λ x. (
        (λ has. elim ((all.1.members x).0 has) [
          | inl is ↦ inl (sym is)
          | inr there ↦ inr (there.1, (rest.2 x).0 there.0)
        ]),
        (λ first. elim first [
          | inl is ↦ (all.1.members x).1 (inl (sym is))
          | inr later ↦ (all.1.members x).1 (inr ((rest.2 x).1 later.1, later.0))
        ]),
      ),
    )

-- what was taken has a collection of its first segments
pub firsts_of : (segments : List Content) (a : State) → HasTakenAll segments a → (T : Trace) × IsCollectionOf segments T
firsts_of segments a took =
    let all = in_order segments in (
      trace a.trace_id a.processors all.0,
      record {
        collection = record {
          in_order = all.1;
          fit = each_member Fits all.0 (λ s has. at_member Fits segments s took.fit (is_member segments s ((all.2 s).0 has)));
          same = each_member (λ s. (s.trace_id ≡ a.trace_id) × (s.processors ≡ a.processors)) all.0
              (λ s has. at_member (λ t. (t.trace_id ≡ a.trace_id) × (t.processors ≡ a.processors)) segments s took.ids
              (is_member segments s ((all.2 s).0 has)));
        };
        members = all.2;
      },
    )

-- the segments of a case are the first of their keys
pub case_of_firsts : (segments : List Content) (T : Trace) → IsCaseOf segments T → IsCaseOfFirsts segments T
case_of_firsts segments T case = record {
  is_case = case.is_case;
  members = λ s. (first s, λ is. (case.members s).1 (is_member segments s is));
}
  where
    first : (s : Content) → Contains T.segments s → IsFirstOf segments s
    first s has =
        let found = first_of_key segments s.processor s.number (s, (case.members s).0 has, refl, refl) in
        let there = (case.members found.0).1 (is_member segments found.0 found.1) in
        subst (IsFirstOf segments) (one_segment T.segments case.is_case.trace.in_order found.0 s there has found.2 found.3) found.1

-- every question can be asked over a case
pub case_asked : (segments : List Content) (T : Trace) → IsCaseOf segments T → (question : Question) → IsAskedOver question segments T
case_asked segments T case question =
    let firsts = case_of_firsts segments T case in
    let one = some_member T.segments case.is_case.some in
    record {
      some = λ none. subst (λ (ss : List Content). IsFirstOf ss one.0) none ((firsts.members one.0).0 one.1);
      all = record { collection = collection_of T case.is_case.trace; members = firsts.members };
      case = λ ordered. case.is_case;
    }
