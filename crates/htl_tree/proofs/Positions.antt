-- A node that was made of parts has these inside, and what goes on from position to position holds of all.
use Rattle.std.proofs.Common.{◌≡◌, ℕ, List, [], ◌∷◌, ◌++◌, map, Some, refl, sym, ◌∙◌, ap}
use Rattle.std.specs.Cmp.{nat_cmp_total}
use Rattle.std.specs.Ordering.{nat_cmp}
use Rattle.std.specs.FinMap.Entries.{find}
use Rattle.htl_event.specs.declared.slot.Slot.{Slot}
use Rattle.htl_sorted.proofs.Finds.{find_first}
use Rattle.htl_tree.specs.declared.node.Node.{Node}
use Rattle.htl_tree.specs.declared.node.Node.TheOpen.{Node-F}
use Rattle.htl_tree.specs.declared.node.Node.TheViews.{roll-Node, out-roll-Node}
use Rattle.htl_tree.specs.declared.node.Node.TheFolds.{ind-Node}
use Rattle.htl_tree.specs.Nodes.{Position, frames, children_of, top, inside, tops, counts, filters, children, tally, at_child}

-- the frames of a node made of parts are those parts' frames
pub frames_rolled : {A : Type 0} (x : Node-F A (Node A)) → frames (roll-Node A x) ≡ x.frames.items
frames_rolled {A} x = ap (λ (y : Node-F A (Node A)). y.frames.items) (out-roll-Node A x)

-- the counts inside it are the parts' counts
pub counts_rolled : {A : Type 0} (x : Node-F A (Node A)) → counts (inside (roll-Node A x)) ≡ x.counts.items
counts_rolled {A} x = ap (λ (y : Node-F A (Node A)). y.counts.items) (out-roll-Node A x)

-- the filters inside it are the parts' filters
pub filters_rolled : {A : Type 0} (x : Node-F A (Node A)) → filters (inside (roll-Node A x)) ≡ x.filters
filters_rolled {A} x = ap (λ (y : Node-F A (Node A)). y.filters) (out-roll-Node A x)

-- the children of a node made of parts are those parts' children
pub children_rolled : {A : Type 0} (x : Node-F A (Node A)) → children_of (roll-Node A x) ≡ x.children.items
children_rolled {A} x = ap (λ (y : Node-F A (Node A)). y.children.items) (out-roll-Node A x)

-- the positions one frame further in than the node are the tops of the parts' children
pub tops_rolled : {A : Type 0} (x : Node-F A (Node A)) → children (inside (roll-Node A x)) ≡ tops x.children.items
tops_rolled x = ap tops (children_rolled x)

-- one frame before a position
abbrev pub before : {A : Type 0} → ℕ → Position A → Position A
before f c = (f ∷ c.0, c.1)

-- the only position there is found at its frame
pub find_before : {A : Type 0} (f : ℕ) (c : Position A) → find nat_cmp f (children (before f c)) ≡ Some c
find_before f c = find_first nat_cmp nat_cmp_total (f, c) []

pub tally_before : {A : Type 0} (f : ℕ) (c : Position A) (p : List ℕ) (s : Slot) → tally (f ∷ p) s (before f c) ≡ tally p s c
tally_before f c p s = ap (at_child (λ k. tally p s k)) (find_before f c)

-- so many frames before a position
abbrev pub frames_before : {A : Type 0} → List ℕ → Position A → Position A
frames_before fs c = (fs ++ c.0, c.1)

-- with frames before a position, the path along these and on counts what the path from the position counts
pub tally_along : {A : Type 0} (fs : List ℕ) (c : Position A) (p : List ℕ) (s : Slot) → tally (fs ++ p) s (frames_before fs c) ≡ tally p s c
tally_along [] c p s = refl
tally_along (f ∷ fs) c p s = tally_before f (frames_before fs c) (fs ++ p) s ∙ tally_along fs c p s

-- ---- induction

module _ {A : Type 0} (P : Position A → Type 0) (step : (c : Position A) (ks : List (ℕ × ((k : Position A) × P k)))
    → children c ≡ map (λ e. (e.0, e.1.0)) ks → P c) where
  abbrev Throughout : Node A → Type 0
  Throughout n = (fs : List ℕ) → P (fs, n)

  abbrev tops_with : List (ℕ × ((n : Node A) × Throughout n)) → List (ℕ × ((k : Position A) × P k))
  tops_with ks = map (λ e. (e.0, (top e.1.0, e.1.1 (frames e.1.0)))) ks

  tops_kept : (ks : List (ℕ × ((n : Node A) × Throughout n))) → tops (map (λ e. (e.0, e.1.0)) ks) ≡ map (λ e. (e.0, e.1.0)) (tops_with ks)
  tops_kept [] = refl
  tops_kept (k ∷ ks) = ap (λ l. (k.0, top k.1.0) ∷ l) (tops_kept ks)

  -- from the node back along its frames
  throughout : (n : Node A) (ks : List (ℕ × ((k : Position A) × P k))) → children (inside n) ≡ map (λ e. (e.0, e.1.0)) ks → Throughout n
  throughout n ks is [] = step (inside n) ks is
  throughout n ks is (f ∷ fs) = step (f ∷ fs, n) ((f, ((fs, n), throughout n ks is fs)) ∷ []) refl

  -- what holds of a position where it holds of those one frame further in holds of all
  pub ind_position : (c : Position A) → P c
  ind_position c = ind-Node A (λ n. Throughout n) (λ x y is. throughout (roll-Node A x) (tops_with y.children.items)
      (tops_rolled x ∙ sym (ap (λ (z : Node-F A (Node A)). tops z.children.items) is) ∙ tops_kept y.children.items)) c.1 c.0
