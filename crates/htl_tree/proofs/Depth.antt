-- No node is deeper than a stack is long.
use Rattle.std.proofs.Common.{◌≡◌, ℕ, ◌+◌, ◌<◌, ◌≤◌, List, [], ◌∷◌, length, map, refl, ◌∙◌, ap, subst, arith}
use Rattle.htl_event.specs.declared.slot.Slot.{Slot}
use Rattle.htl_event.specs.declared.slot.Count.{Count}
use Rattle.htl_sorted.specs.Entries.{Each}
use Rattle.htl_lemmas.proofs.Members.{all_left, all_right}
use Rattle.htl_tree.specs.Nodes.{Position, counts, children, rows, height, heights, below, IsNormal, IsNonEmpty, IsShortFrom}
use Rattle.htl_tree.proofs.CountAdded.{normal_here}
use Rattle.htl_tree.proofs.Positions.{ind_position}
use Rattle.htl_tree.proofs.NodeRows.{rows_here, child_rows, rows_is, children_normal}
use Rattle.htl_tree.proofs.Children.{height_is}
use Rattle.htl_tree.proofs.SlotRows.{short_here, short_below}

abbrev IsLow : {A : Type 0} → Position A → Type 0
IsLow n = (depth : ℕ) → IsNormal n → IsNonEmpty n → IsShortFrom depth (rows n) → depth + height n ≤ 65

abbrev Row : Type 0
Row = (List ℕ × Slot) × Count

children_low : {A : Type 0} (depth : ℕ) (ks : List (ℕ × ((c : Position A) × IsLow c))) → Each (λ c. IsNormal c) (map (λ e. (e.0, e.1.0)) ks)
    → Each (λ c. IsNonEmpty c) (map (λ e. (e.0, e.1.0)) ks) → IsShortFrom depth (child_rows (map (λ e. (e.0, e.1.0)) ks))
    → 0 < length (map (λ (e : ℕ × ((c : Position A) × IsLow c)). e.0) ks) → depth + 1 + heights (map (λ e. (e.0, e.1.0)) ks) ≤ 65
children_low depth [] h some short any = absurd (omega arith)
children_low {A} depth (k ∷ []) h some short any =
    let here = short_below depth k.0 (rows k.1.0)
    (all_left (λ (row : Row). depth + length row.0.0 ≤ 64) (map (λ row. below k.0 row) (rows k.1.0)) [] short) in
    let low = k.1.1 (depth + 1) h.0 some.0 here in
    omega (arith, low)
children_low {A} depth (k ∷ j ∷ ks) h some short any =
    let first : List Row = map (λ row. below k.0 row) (rows k.1.0) in
    let rest : List Row = child_rows (map (λ e. (e.0, e.1.0)) (j ∷ ks)) in
    let here = short_below depth k.0 (rows k.1.0) (all_left (λ (row : Row). depth + length row.0.0 ≤ 64) first rest short) in
    let low = k.1.1 (depth + 1) h.0 some.0 here in
    let more = children_low depth (j ∷ ks) h.1 some.1 (all_right (λ (row : Row). depth + length row.0.0 ≤ 64) first rest short)
    (omega arith) in
    omega (arith, low, more)

low_from : {A : Type 0} (n : Position A) → IsNormal n → IsNonEmpty n → (depth : ℕ) → IsShortFrom depth (rows n) → (os : List (Slot × Count))
    → counts n ≡ os → (ks : List (ℕ × ((c : Position A) × IsLow c))) → children n ≡ map (λ e. (e.0, e.1.0)) ks → depth + height n ≤ 65
low_from n h some depth short [] no_rows_here [] no_children = absurd (some no_rows_here no_children)
low_from n h some depth short (o ∷ os) counts_are [] no_children =
    let tall : height n ≡ 1 = height_is n ∙ ap (λ ks. heights ks + 1) no_children in
    let mine : length (counts n) ≡ length (o ∷ os) = ap length counts_are in
    let here = short_here n depth short (omega (arith, mine)) in
    omega (arith, tall, here)
low_from {A} n h some depth short os counts_are (k ∷ ks) children_are =
    let tall : height n ≡ heights (map (λ (e : ℕ × ((c : Position A) × IsLow c)). (e.0, e.1.0)) (k ∷ ks)) + 1 = height_is n
    ∙ ap (λ l. heights l + 1) children_are in
    let normal : Each (λ c. IsNormal c) (map (λ (e : ℕ × ((c : Position A) × IsLow c)). (e.0, e.1.0)) (k ∷ ks)) =
    subst (λ (l : List (ℕ × Position A)). Each (λ c. IsNormal c) l) children_are (children_normal n h) in
    let full : Each (λ c. IsNonEmpty c) (map (λ (e : ℕ × ((c : Position A) × IsLow c)). (e.0, e.1.0)) (k ∷ ks)) =
    subst (λ (l : List (ℕ × Position A)). Each (λ c. IsNonEmpty c) l) children_are (normal_here n h).nonempty in
    let inner : IsShortFrom depth (child_rows (map (λ (e : ℕ × ((c : Position A) × IsLow c)). (e.0, e.1.0)) (k ∷ ks))) =
    subst (λ (l : List (ℕ × Position A)). IsShortFrom depth (child_rows l)) children_are
    (all_right (λ (row : Row). depth + length row.0.0 ≤ 64) (rows_here (counts n)) (child_rows (children n))
    (subst (λ t. IsShortFrom depth t) (rows_is n) short)) in
    let low = children_low depth (k ∷ ks) normal full inner (omega arith) in
    omega (arith, tall, low)

-- so many frames below the root, a node has at most the other nodes of a path below it
pub low_node : {A : Type 0} (n : Position A) → IsLow n
low_node {A} = ind_position (λ n. IsLow n) (λ n ks is depth h some short. low_from n h some depth short (counts n) refl ks is)
