-- The fault of a draft is known by what is held of it: the first 64 frames of each stack, and where one had more.
use Rattle.std.proofs.Common.{◌≡◌, ◌≤◌, ◌<◌, ◌+◌, ℕ, suc, Bool, true, false, List, [], ◌∷◌, length, take, refl, arith, ap}
use Rattle.std.specs.Prelude.{Option, Some, None, map, nat_le, nat_lt, not, ◌||◌, ◌==◌, if◌then◌else◌}
use Rattle.std.specs.List.{AllByRecursion}
use Rattle.std.proofs.lemmas.Bool.Decides.{nat_tests}
use Rattle.std.proofs.lemmas.List.{take_all}
use Rattle.htl_event.specs.Events.{Event}
use Rattle.htl_segment.specs.Building.{event_fault, events_fault, build_fault}
use Rattle.htl_segment.specs.Content.{kind_code, fields_fit}
use Rattle.htl_segment.specs.Faults.{or_else}
use Rattle.htl_segment.specs.Reading.{version_of}
use Rattle.htl_segment.specs.Versions.{limits_of}
use Rattle.htl_segment.specs.declared.fault.Fault.{Fault}
use Rattle.htl_segment.specs.declared.fault.Fault.TheVariants as faults
use Rattle.htl_segment.specs.declared.version.Version.{Version}
use Rattle.htl_text.specs.declared.item.Head.{Head}
use Rattle.htl_text.specs.Items.{Draft}
use Rattle.htl_text.specs.Encoded.{draft, draft_fault, content_of}
use Rattle.htl_text.specs.Steps.{overfull_fault, with_overfull}
use Rattle.htl_segment.proofs.RecordLaws.{frames≤64}

-- what is held of an event
abbrev pub cut : Event → Event
cut e = record e { stack = take 64 e.stack }

-- the event has more than 64 frames
abbrev pub is_deep : Event → Bool
is_deep e = nat_lt 64 (length e.stack)

-- the place of the first event that has more, counted from i
abbrev pub first_deep : ℕ → List Event → Option ℕ
first_deep i [] = None
first_deep i (e ∷ es) = if is_deep e then Some i else first_deep (i + 1) es

abbrev OnSome : {A : Type 0} → Option A → (A → Type 0) → Type 0
OnSome None P = Unit {0}
OnSome (Some a) P = P a

first_deep_from : (i : ℕ) (es : List Event) → OnSome (first_deep i es) (λ j. i ≤ j)
first_deep_from i [] = tt
first_deep_from i (e ∷ es) = by_case (first_deep_from (i + 1) es) (is_deep e)
  where
    later : (o : Option ℕ) → OnSome o (λ j. i + 1 ≤ j) → OnSome o (λ j. i ≤ j)
    later None h = tt
    later (Some j) h = omega arith

    by_case : OnSome (first_deep (i + 1) es) (λ j. i + 1 ≤ j) → (b : Bool) → OnSome (if b then Some i else first_deep (i + 1) es) (λ j. i ≤ j)
    by_case h true = omega arith
    by_case h false = later (first_deep (i + 1) es) h

-- the faults of one event, by the tests of its parts
abbrev four : ℕ → Bool → Bool → Bool → Bool → Option Fault
four i a b c d =
    if a then Some (faults.Sequence i) else if b then Some (faults.Kind i) else if c then Some (faults.Frames i)
    else if d then Some (faults.Field i) else None

-- a fault of an event at this place or a later one
abbrev AtOrAfter : ℕ → Fault → Type 0
AtOrAfter i (faults.Sequence p) = i ≤ p
AtOrAfter i (faults.Kind p) = i ≤ p
AtOrAfter i (faults.Frames p) = i ≤ p
AtOrAfter i (faults.Field p) = i ≤ p
AtOrAfter i fault = ⊥

four_at : (i : ℕ) (a b c d : Bool) (rest : Option Fault) → OnSome rest (AtOrAfter i) → OnSome (or_else (four i a b c d) rest) (AtOrAfter i)
four_at i true b c d rest h = omega arith
four_at i false true c d rest h = omega arith
four_at i false false true d rest h = omega arith
four_at i false false false true rest h = omega arith
four_at i false false false false rest h = h

weaker : (i : ℕ) (f : Fault) → AtOrAfter (i + 1) f → AtOrAfter i f
weaker i (faults.Sequence p) h = omega arith
weaker i (faults.Kind p) h = omega arith
weaker i (faults.Frames p) h = omega arith
weaker i (faults.Field p) h = omega arith
weaker i fault h = absurd h

weaker_on : (i : ℕ) (o : Option Fault) → OnSome o (AtOrAfter (i + 1)) → OnSome o (AtOrAfter i)
weaker_on i None h = tt
weaker_on i (Some f) h = weaker i f h

events_at : (v : Version) (i last : ℕ) (es : List Event) → OnSome (events_fault v i last es) (AtOrAfter i)
unfolding events_fault event_fault
events_at v i last [] = tt
events_at v i last (e ∷ es) =
    four_at i (nat_le e.sequence last) (nat_lt (limits_of v).kinds (kind_code e.kind)) (nat_lt (limits_of v).frames (length e.stack))
    (not (fields_fit e.kind e.handle e.object e.tag)) (events_fault v (i + 1) e.sequence es)
    (weaker_on i (events_fault v (i + 1) e.sequence es) (events_at v (i + 1) e.sequence es))

not_le : (p i : ℕ) → i + 1 ≤ p → nat_le p i ≡ false
not_le p i h = grind (arith, nat_tests)

not_lt : (p i : ℕ) → i ≤ p → nat_lt p i ≡ false
not_lt p i h = grind (arith, nat_tests)

le_yes : (p i : ℕ) → p ≤ i → nat_le p i ≡ true
le_yes p i h = grind (arith, nat_tests)

lt_yes : (p i : ℕ) → p < i → nat_lt p i ≡ true
lt_yes p i h = grind (arith, nat_tests)

-- later faults come after that of too many frames
overfull_later : (i : ℕ) (f : Fault) → AtOrAfter (i + 1) f → overfull_fault i (Some f) ≡ faults.Frames i
overfull_later i (faults.Sequence p) h = rw (not_le p i h) refl
overfull_later i (faults.Kind p) h = rw (not_le p i h) refl
overfull_later i (faults.Frames p) h = rw (not_le p i h) refl
overfull_later i (faults.Field p) h = rw (not_lt p i (omega arith)) refl
overfull_later i fault h = absurd h

-- of an event with too many frames
deep_one : (i : ℕ) (a b c d : Bool) (held rest : Option Fault) → OnSome held (AtOrAfter (i + 1))
    → Some (overfull_fault i (or_else (four i a b c d) held)) ≡ or_else (four i a b true d) rest
deep_one i true b c d held rest h = rw (le_yes i i (omega arith)) refl
deep_one i false true c d held rest h = rw (le_yes i i (omega arith)) refl
deep_one i false false true d held rest h = rw (le_yes i i (omega arith)) refl
deep_one i false false false true held rest h = rw (not_lt i i (omega arith)) refl
deep_one i false false false false None rest h = refl
deep_one i false false false false (Some f) rest h = ap Some (overfull_later i f h)

-- of one before the first such event
shallow_one : (i : ℕ) (a b c d : Bool) (o : Option ℕ) (held rest : Option Fault) → OnSome o (λ j. i + 1 ≤ j) → with_overfull o held ≡ rest
    → with_overfull o (or_else (four i a b c d) held) ≡ or_else (four i a b c d) rest
shallow_one i true b c d None held rest h same = refl
shallow_one i true b c d (Some j) held rest h same = rw (le_yes i j (omega arith)) refl
shallow_one i false true c d None held rest h same = refl
shallow_one i false true c d (Some j) held rest h same = rw (le_yes i j (omega arith)) refl
shallow_one i false false true d None held rest h same = refl
shallow_one i false false true d (Some j) held rest h same = rw (le_yes i j (omega arith)) refl
shallow_one i false false false true None held rest h same = refl
shallow_one i false false false true (Some j) held rest h same = rw (lt_yes i j (omega arith)) refl
shallow_one i false false false false o held rest h same = same

deep_above : (v : Version) (e : Event) → is_deep e ≡ true → nat_lt (limits_of v).frames (length e.stack) ≡ true
deep_above v e h = let few = frames≤64 v in grind (arith, nat_tests)

stack_whole : (e : Event) → is_deep e ≡ false → take 64 e.stack ≡ e.stack
stack_whole e h = let low : length e.stack ≤ 64 = grind (arith, nat_tests) in take_all 64 e.stack low

pub cut_whole : (e : Event) → is_deep e ≡ false → cut e ≡ e
cut_whole e h = rw (stack_whole e h) refl

overfull_events : (v : Version) (i last : ℕ) (es : List Event)
    → with_overfull (first_deep i es) (events_fault v i last (map cut es)) ≡ events_fault v i last es
unfolding events_fault event_fault
overfull_events v i last [] = refl
overfull_events v i last (e ∷ es) = by_case (overfull_events v (i + 1) e.sequence es) (is_deep e) refl
  where
    fault : Bool → Option Fault
    fault c = four i (nat_le e.sequence last) (nat_lt (limits_of v).kinds (kind_code e.kind)) c (not (fields_fit e.kind e.handle e.object e.tag))

    by_case : with_overfull (first_deep (i + 1) es) (events_fault v (i + 1) e.sequence (map cut es)) ≡ events_fault v (i + 1) e.sequence es
        → (b : Bool) → is_deep e ≡ b
        → with_overfull (first_deep i (e ∷ es)) (events_fault v i last (map cut (e ∷ es))) ≡ events_fault v i last (e ∷ es)
    by_case more true deep =
        rw (deep, deep_above v e deep) (deep_one i (nat_le e.sequence last) (nat_lt (limits_of v).kinds (kind_code e.kind))
        (nat_lt (limits_of v).frames (length (take 64 e.stack))) (not (fields_fit e.kind e.handle e.object e.tag))
        (events_fault v (i + 1) e.sequence (map cut es)) (events_fault v (i + 1) e.sequence es)
        (events_at v (i + 1) e.sequence (map cut es)))
    by_case more false deep =
        rw (deep, stack_whole e deep) (shallow_one i (nat_le e.sequence last) (nat_lt (limits_of v).kinds (kind_code e.kind))
        (nat_lt (limits_of v).frames (length e.stack)) (not (fields_fit e.kind e.handle e.object e.tag)) (first_deep (i + 1) es)
        (events_fault v (i + 1) e.sequence (map cut es)) (events_fault v (i + 1) e.sequence es)
        (first_deep_from (i + 1) es) more)

-- of a whole segment
parts : Bool → Bool → Bool → Bool → Option Fault → Option Fault
parts p q r s rest =
    if p then Some faults.Processors else if q then Some faults.Processor else if r then Some faults.Number
    else if s then Some faults.Count else rest

overfull_parts : (o : Option ℕ) (p q r s : Bool) (held rest : Option Fault) → with_overfull o held ≡ rest
    → with_overfull o (parts p q r s held) ≡ parts p q r s rest
unfolding parts
overfull_parts None true q r s held rest h = refl
overfull_parts (Some i) true q r s held rest h = refl
overfull_parts None false true r s held rest h = refl
overfull_parts (Some i) false true r s held rest h = refl
overfull_parts None false false true s held rest h = refl
overfull_parts (Some i) false false true s held rest h = refl
overfull_parts None false false false true held rest h = refl
overfull_parts (Some i) false false false true held rest h = refl
overfull_parts o false false false false held rest h = h

-- as many events are held as there are
pub length_cut : (es : List Event) → length (map cut es) ≡ length es
length_cut [] = refl
length_cut (e ∷ es) = ap suc (length_cut es)

overfull_build : (v : Version) (head : Head) (es : List Event)
    → with_overfull (first_deep 0 es) (build_fault (content_of v (draft head (map cut es)))) ≡ build_fault (content_of v (draft head es))
unfolding build_fault parts
overfull_build v head es =
    rw (length_cut es) (overfull_parts (first_deep 0 es) (head.processors == 0 || nat_lt (limits_of v).processors head.processors)
    (nat_le head.processors head.processor) (nat_lt 0xFFFFFFFE head.number) (nat_lt 4096 (length es))
    (events_fault v 0 0 (map cut es)) (events_fault v 0 0 es) (overfull_events v 0 0 es))

-- the fault of a draft, by what is held of it
pub overfull_draft : (head : Head) (es : List Event)
    → with_overfull (first_deep 0 es) (draft_fault (draft head (map cut es))) ≡ draft_fault (draft head es)
overfull_draft head es = by_version (version_of head.version) refl
  where
    any : (o : Option ℕ) → with_overfull o (Some faults.Version) ≡ Some faults.Version
    any None = refl
    any (Some i) = refl

    by_version : (o : Option Version) → version_of head.version ≡ o
        → with_overfull (first_deep 0 es) (draft_fault (draft head (map cut es))) ≡ draft_fault (draft head es)
    by_version None is = rw is (any (first_deep 0 es))
    by_version (Some v) is = rw is (overfull_build v head es)

-- a draft without a fault is held whole
no_four : (i : ℕ) (a b c d : Bool) (rest : Option Fault) → or_else (four i a b c d) rest ≡ None → (c ≡ false) × (rest ≡ None)
no_four i true b c d rest h = cc
no_four i false true c d rest h = cc
no_four i false false true d rest h = cc
no_four i false false false true rest h = cc
no_four i false false false false rest h = (refl, h)

not_deep : (v : Version) (e : Event) → nat_lt (limits_of v).frames (length e.stack) ≡ false → is_deep e ≡ false
not_deep v e h = let few = frames≤64 v in grind (arith, nat_tests)

whole_events : (v : Version) (i last : ℕ) (es : List Event) → events_fault v i last es ≡ None → map cut es ≡ es
unfolding events_fault event_fault
whole_events v i last [] h = refl
whole_events v i last (e ∷ es) h =
    let found = no_four i (nat_le e.sequence last) (nat_lt (limits_of v).kinds (kind_code e.kind))
    (nat_lt (limits_of v).frames (length e.stack)) (not (fields_fit e.kind e.handle e.object e.tag))
    (events_fault v (i + 1) e.sequence es) h in
    rw (cut_whole e (not_deep v e found.0), whole_events v (i + 1) e.sequence es found.1) refl

low_stack : (e : Event) → is_deep e ≡ false → length e.stack ≤ 64
low_stack e h = grind (arith, nat_tests)

shallow_events : (v : Version) (i last : ℕ) (es : List Event) → events_fault v i last es ≡ None → AllByRecursion (λ e. length e.stack ≤ 64) es
unfolding events_fault event_fault
shallow_events v i last [] h = tt
shallow_events v i last (e ∷ es) h =
    let found = no_four i (nat_le e.sequence last) (nat_lt (limits_of v).kinds (kind_code e.kind))
    (nat_lt (limits_of v).frames (length e.stack)) (not (fields_fit e.kind e.handle e.object e.tag))
    (events_fault v (i + 1) e.sequence es) h in
    (low_stack e (not_deep v e found.0), shallow_events v (i + 1) e.sequence es found.1)

no_parts : (p q r s : Bool) (rest : Option Fault) → parts p q r s rest ≡ None → rest ≡ None
unfolding parts
no_parts true q r s rest h = cc
no_parts false true r s rest h = cc
no_parts false false true s rest h = cc
no_parts false false false true rest h = cc
no_parts false false false false rest h = h

-- the events of a draft without a fault are held whole
pub whole_draft : (v : Version) (d : Draft) → build_fault (content_of v d) ≡ None → map cut d.events ≡ d.events
unfolding build_fault parts
whole_draft v d h =
    whole_events v 0 0 d.events (no_parts (d.head.processors == 0 || nat_lt (limits_of v).processors d.head.processors)
    (nat_le d.head.processors d.head.processor) (nat_lt 0xFFFFFFFE d.head.number) (nat_lt 4096 (length d.events))
    (events_fault v 0 0 d.events) h)

-- nor has any of its events too many frames
pub shallow_draft : (v : Version) (d : Draft) → build_fault (content_of v d) ≡ None → AllByRecursion (λ e. length e.stack ≤ 64) d.events
unfolding build_fault parts
shallow_draft v d h =
    shallow_events v 0 0 d.events (no_parts (d.head.processors == 0 || nat_lt (limits_of v).processors d.head.processors)
    (nat_le d.head.processors d.head.processor) (nat_lt 0xFFFFFFFE d.head.number) (nat_lt 4096 (length d.events))
    (events_fault v 0 0 d.events) h)
