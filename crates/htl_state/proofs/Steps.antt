-- What each step of decoding answers for the whole: a list, the lists of a part, the parts, and the state.
use Rattle.std.proofs.Common.{◌≡◌, ◌⊎◌, ℕ, ◌-◌, ◌/◌, ◌<◌, ◌≤◌, List, [], length, take, drop, None, refl, inl, inr}
use Rattle.std.specs.Prelude.{Ok, Err}
use Rattle.std.proofs.lemmas.Bool.{lt-ltb, le-ltb}
use Rattle.htl_segment.specs.Numbers.{number}
use Rattle.htl_segment.specs.Content.{Content}
use Rattle.htl_state.specs.declared.fault.Fault.TheVariants as faults
use Rattle.htl_state.specs.declared.fault.Refused.{Refused}
use Rattle.htl_state.specs.declared.rows.CountRow.{CountRow}
use Rattle.htl_state.specs.declared.rows.LatestRow.{LatestRow}
use Rattle.htl_state.specs.declared.rows.Setting.{Setting}
use Rattle.htl_state.specs.Rows.{Part, State, part}
use Rattle.htl_state.specs.Reading.{Reading, IsRefusal, RowFormat, refused, and_then, rows_in, list_in, counts, latest, moments, held, lists_in}
use Rattle.htl_state.specs.Reading.{of_processor, part_in, parts_in, body_in, frame_fault, state_in}
use Rattle.htl_state.proofs.Turns.{part_refused}

-- ---- a list

pub list_short : {Row : Type 0} (f : RowFormat Row) (s : Setting) (b : List ℕ) (r : Refused) → length b < 8 → r ≡ refused faults.List b
    → IsRefusal r (list_in f s b)
unfolding list_in
list_short f s b r short is = rw (lt-ltb (length b) 8 short, is) (inr refl)

pub list_over : {Row : Type 0} (f : RowFormat Row) (s : Setting) (b rest : List ℕ) (n least : ℕ) (r : Refused) → 8 ≤ length b
    → rest ≡ drop 8 b → n ≡ number 0 8 b → least ≡ f.least → length rest / least < n → r ≡ refused faults.List b → IsRefusal r (list_in f s b)
unfolding list_in
list_over f s b rest n least r long rest_is n_is least_is over is =
    let more : length (drop 8 b) / f.least < number 0 8 b = rw (rest_is, n_is, least_is) at over in
    rw (le-ltb (length b) 8 long, lt-ltb (length (drop 8 b) / f.least) (number 0 8 b) more, is) (inr refl)

pub list_goes : {Row : Type 0} (f : RowFormat Row) (s : Setting) (b rest : List ℕ) (n least : ℕ) → 8 ≤ length b → rest ≡ drop 8 b
    → n ≡ number 0 8 b → least ≡ f.least → n ≤ length rest / least → list_in f s b ≡ rows_in f s n [] rest
unfolding list_in
list_goes f s b rest n least long rest_is n_is least_is room =
    let few : number 0 8 b ≤ length (drop 8 b) / f.least = rw (rest_is, n_is, least_is) at room in
    rw (le-ltb (length b) 8 long, le-ltb (length (drop 8 b) / f.least) (number 0 8 b) few, rest_is, n_is) refl

-- ---- the lists of a part

first_refused : {X Y : Type 0} (r : Refused) (first : Reading X) (next : X → List ℕ → Reading Y) → IsRefusal r first
    → IsRefusal r (and_then first next)
first_refused r first next refusal = elim refusal [ inl none ↦ inl none | inr e ↦ inr (rw e refl) ]

pub latest_refused : (s : Setting) (b : List ℕ) (r : Refused) (tree : List CountRow) (b1 : List ℕ) → list_in counts s (drop 20 b) ≡ Ok (tree, b1)
    → IsRefusal r (list_in latest s b1) → IsRefusal r (lists_in s b)
unfolding lists_in
latest_refused s b r tree b1 e1 refusal = rw e1 (first_refused r (list_in latest s b1) _ refusal)

pub marks_refused : (s : Setting) (b : List ℕ) (r : Refused) (tree : List CountRow) (b1 : List ℕ) (events : List LatestRow) (b2 : List ℕ)
    → list_in counts s (drop 20 b) ≡ Ok (tree, b1) → list_in latest s b1 ≡ Ok (events, b2) → IsRefusal r (list_in moments s b2)
    → IsRefusal r (lists_in s b)
unfolding lists_in
marks_refused s b r tree b1 events b2 e1 e2 refusal = rw (e1, e2) (first_refused r (list_in moments s b2) _ refusal)

pub exits_refused : (s : Setting) (b : List ℕ) (r : Refused) (tree : List CountRow) (b1 : List ℕ) (events : List LatestRow) (b2 : List ℕ)
    (marks : List (ℕ × ℕ)) (b3 : List ℕ) → list_in counts s (drop 20 b) ≡ Ok (tree, b1) → list_in latest s b1 ≡ Ok (events, b2)
    → list_in moments s b2 ≡ Ok (marks, b3) → IsRefusal r (list_in moments s b3) → IsRefusal r (lists_in s b)
unfolding lists_in
exits_refused s b r tree b1 events b2 marks b3 e1 e2 e3 refusal = rw (e1, e2, e3) (first_refused r (list_in moments s b3) _ refusal)

pub held_refused : (s : Setting) (b : List ℕ) (r : Refused) (tree : List CountRow) (b1 : List ℕ) (events : List LatestRow) (b2 : List ℕ)
    (marks : List (ℕ × ℕ)) (b3 : List ℕ) (exits : List (ℕ × ℕ)) (b4 : List ℕ) → list_in counts s (drop 20 b) ≡ Ok (tree, b1)
    → list_in latest s b1 ≡ Ok (events, b2) → list_in moments s b2 ≡ Ok (marks, b3) → list_in moments s b3 ≡ Ok (exits, b4)
    → IsRefusal r (list_in held s b4) → IsRefusal r (lists_in s b)
unfolding lists_in
held_refused s b r tree b1 events b2 marks b3 exits b4 e1 e2 e3 e4 refusal =
    rw (e1, e2, e3, e4) (first_refused r (list_in held s b4) _ refusal)

pub lists_read : (s : Setting) (b : List ℕ) (tree : List CountRow) (b1 : List ℕ) (events : List LatestRow) (b2 : List ℕ) (marks : List (ℕ × ℕ))
    (b3 : List ℕ) (exits : List (ℕ × ℕ)) (b4 : List ℕ) (segments : List Content) (b5 : List ℕ) → list_in counts s (drop 20 b) ≡ Ok (tree, b1)
    → list_in latest s b1 ≡ Ok (events, b2) → list_in moments s b2 ≡ Ok (marks, b3) → list_in moments s b3 ≡ Ok (exits, b4)
    → list_in held s b4 ≡ Ok (segments, b5)
    → lists_in s b ≡ Ok (part (number 0 4 b) (number 4 8 b) (number 12 8 b) tree events marks exits segments, b5)
unfolding lists_in
lists_read s b tree b1 events b2 marks b3 exits b4 segments b5 e1 e2 e3 e4 e5 = rw (e1, e2, e3, e4, e5) refl

-- ---- the parts

pub part_refusal : (s : Setting) (n i : ℕ) (before : List Part) (b : List ℕ) (r : Refused) (all : Reading (List Part)) → i < n
    → IsRefusal r (part_in (of_processor s i) b) → parts_in s (n - i) i before b ≡ all → IsRefusal r all
part_refusal s n i before b r all lt refusal so_far =
    elim refusal [ inl none ↦ inl none | inr e ↦ inr (part_refused s n i before b r all lt e so_far) ]

-- ---- the state

pub state_read : (b inner : List ℕ) (id processors : ℕ) (s : State) (rest : List ℕ) → frame_fault b ≡ None
    → inner ≡ drop 24 (take (length b - 16) b) → id ≡ number 8 8 b → processors ≡ number 16 8 b → body_in id processors inner ≡ Ok (s, rest)
    → state_in b ≡ Ok s
unfolding state_in
state_read b inner id processors s rest none inner_is id_is processors_is read =
    let body = rw (inner_is, id_is, processors_is) at read in
    rw (none, body) refl

pub state_refused : (b inner : List ℕ) (id processors : ℕ) (r : Refused) (offset : ℕ) → frame_fault b ≡ None
    → inner ≡ drop 24 (take (length b - 16) b) → id ≡ number 8 8 b → processors ≡ number 16 8 b → offset ≡ length b - 16 - r.left
    → IsRefusal r (body_in id processors inner)
    → (r.fault ≡ faults.NoMemory) ⊎ (state_in b ≡ Err (record { fault = r.fault; offset = offset }))
unfolding state_in
state_refused b inner id processors r offset none inner_is id_is processors_is offset_is refusal =
    elim refusal [
      | inl no_memory ↦ inl no_memory
      | inr e ↦ (let body = rw (inner_is, id_is, processors_is) at e in inr (rw (none, body, offset_is) refl))
    ]
