-- A new state has taken nothing, and is right about every collection of its trace id and processor count.
use Rattle.std.proofs.Common.{◌≡◌, ℕ, ◌<◌, ◌≤◌, eqb, ltb, List, [], ◌∷◌, replicate, get_or, refl, sym}
use Rattle.std.proofs.Common.{◌∙◌, subst, arith, inl, inr}
use Rattle.std.proofs.lemmas.List.{get_or_past, length-replicate, get_or-replicate}
use Rattle.std.proofs.lemmas.Bool.{cases_lt, le-ltb, and_right}
use Rattle.htl_event.proofs.Members.{Contains-nil}
use Rattle.htl_segment.specs.Content.{Content}
use Rattle.htl_segment.specs.Keys.{run_below}
use Rattle.htl_segment.specs.Traces.{Trace, events_of}
use Rattle.htl_segment.proofs.Traces.{events_of-skip}
use Rattle.htl_taken.specs.NumberSets.{Has}
use Rattle.htl_taken.specs.Numbers.{Numbers, numbers_at, no_numbers}
use Rattle.htl_answers.proofs.JoinedTables.{tables_none}
use Rattle.htl_analyst.specs.States.{no_part, no_folded}
use Rattle.htl_analyst.specs.Keys.{HasTaken}
use Rattle.htl_analyst.specs.Right.{IsCollection, IsFolded, IsPart, IsState, IsRight}
use Rattle.htl_analyst.specs.Steps.{new_state}

-- a read of a list of one value
get_or_any-replicate : {X : Type 0} (n p : ℕ) (x : X) → get_or (replicate n x) p x ≡ x
get_or_any-replicate n p x =
    elim (cases_lt p n) [
      | inl lt ↦ get_or-replicate n p x x lt
      | inr le ↦ get_or_past (replicate n x) p x (let len = length-replicate n x in omega (arith, len))
    ]

-- no segment is below front 0
pub run_events-0 : (p : ℕ) (ss : List Content) → events_of (run_below p 0) ss ≡ []
run_events-0 p [] = refl
run_events-0 p (s ∷ ss) =
    events_of-skip (run_below p 0) s ss (and_right (eqb s.processor p) (ltb s.number 0) (le-ltb s.number 0 (omega arith)))
    ∙ run_events-0 p ss

pub IsFolded-nothing : IsFolded no_folded []
IsFolded-nothing = record {
  fold = record {
    tree = λ slot stack. refl;
    tables = tables_none;
  };
  last = record { bound = λ x h. absurd (Contains-nil x h); reached = inl refl };
  number = refl;
}

IsPart-no_part : (id count p : ℕ) → IsPart id count p no_numbers no_part
IsPart-no_part id count p = record {
  proper = record { rises = omega arith };
  numbers = refl;
  owned = tt;
  bounded = record { counts = omega arith; events = omega arith };
}

-- a new state of 1 to 256 processors is a state
pub IsState-new : (id n : ℕ) → 0 < n → n ≤ 256 → IsState (new_state id n)
IsState-new id n some few = record {
  some = some;
  few = few;
  places = length-replicate n no_numbers;
  parts = length-replicate n no_part;
  each = λ p lt. rw (get_or_any-replicate n p no_numbers, get_or_any-replicate n p no_part) (IsPart-no_part id n p);
}

-- a new state is right about each collection of its trace id and processor count
pub IsRight-new : (T : Trace) (id n : ℕ) → 0 < n → n ≤ 256 → IsCollection T → T.id ≡ id → T.processors ≡ n → IsRight (new_state id n) T
IsRight-new T id n some few collection ei en = record {
  collection = collection;
  id = ei;
  processors = en;
  state = IsState-new id n some few;
  each = λ p lt. rw (get_or_any-replicate n p no_numbers, get_or_any-replicate n p no_part) (record {
    complete = λ m below. absurd (omega arith);
    held = tt;
    folded = subst (IsFolded no_folded) (sym (run_events-0 p T.segments)) IsFolded-nothing;
  });
}

-- a new state has taken no segment
pub HasTaken-new : (id n p m : ℕ) → HasTaken (new_state id n) p m → ⊥
HasTaken-new id n p m h =
    let e : numbers_at (replicate n no_numbers) p ≡ no_numbers = get_or_any-replicate n p no_numbers in
    elim (subst (λ (q : Numbers). Has q m) e h) [ inl lt ↦ omega (arith, lt) | inr there ↦ Contains-nil m there ]
