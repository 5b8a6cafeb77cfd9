-- When a call is refused, and why.
use Rattle.std.specs.Prelude.{◌≡◌, ◌≢◌, ℕ, Contains}
use Rattle.htl_segment.specs.Content.{Content}
use Rattle.htl_segment.specs.Rising.{IsKeyBefore}
use Rattle.htl_analyst.specs.States.{State, held_at}
use Rattle.htl_analyst.specs.Keys.{HasTaken}
use Rattle.htl_analyst.specs.declared.fault.TakeFault.{TakeFault}
use Rattle.htl_analyst.specs.declared.fault.TakeFault.TheVariants as takes
use Rattle.htl_analyst.specs.declared.fault.MergeFault.{MergeFault}
use Rattle.htl_analyst.specs.declared.fault.MergeFault.TheVariants as merges

-- a segment of this key with other content is held
pub record HoldsOther (a : State) (s : Content) : Type 0 where
  pub held : Content
  pub here : Contains (held_at a.parts s.processor) held
  pub number : held.number ≡ s.number
  pub other : held ≢ s

-- the segment has the state's trace id and processor count
pub record IsOfState (a : State) (s : Content) : Type 0 where
  pub trace_id : s.trace_id ≡ a.trace_id
  pub processors : s.processors ≡ a.processors

-- Why a segment isn't taken: the first cause in this order. Memory is asked for only where the key is new.
abbrev pub TakeRefused : State → Content → TakeFault → Type 0
TakeRefused a s takes.OtherTrace = s.trace_id ≢ a.trace_id
TakeRefused a s takes.OtherProcessors = (s.trace_id ≡ a.trace_id) × (s.processors ≢ a.processors)
TakeRefused a s (takes.Conflict p n) = IsOfState a s × (p ≡ s.processor) × (n ≡ s.number) × HoldsOther a s
TakeRefused a s takes.NoMemory = IsOfState a s × (HasTaken a s.processor s.number → ⊥)

pub record TakeAccepted (a : State) (s : Content) : Type 0 where
  pub of_state : IsOfState a s
  pub agrees : HoldsOther a s → ⊥

-- both states hold a segment of this key, and the two segments differ
pub record HoldTwo (a b : State) (p n : ℕ) : Type 0 where
  pub segment : Content
  pub here : Contains (held_at b.parts p) segment
  pub number : segment.number ≡ n
  pub other : HoldsOther a segment

-- both states have the same trace id and the same processor count
pub record AreOfOne (a b : State) : Type 0 where
  pub trace_id : a.trace_id ≡ b.trace_id
  pub processors : a.processors ≡ b.processors

-- Why two states aren't merged: the first cause in this order.
abbrev pub MergeRefused : State → State → MergeFault → Type 0
MergeRefused a b merges.OtherTrace = a.trace_id ≢ b.trace_id
MergeRefused a b merges.OtherProcessors = (a.trace_id ≡ b.trace_id) × (a.processors ≢ b.processors)
MergeRefused a b (merges.Conflict p n) =
    AreOfOne a b × HoldTwo a b p n × ((q m : ℕ) → IsKeyBefore (q, m) (p, n) → HoldTwo a b q m → ⊥)
MergeRefused a b merges.NoMemory = AreOfOne a b × ((q m : ℕ) → HoldTwo a b q m → ⊥)

pub record MergeAccepted (a b : State) : Type 0 where
  pub of_one : AreOfOne a b
  pub agree : (p n : ℕ) → HoldTwo a b p n → ⊥
