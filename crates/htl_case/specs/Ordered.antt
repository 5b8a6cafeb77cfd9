-- For the clauses of private functions: lists of segments in the order of their keys.
use Rattle.std.specs.Prelude.{◌≡◌, ◌≢◌, ◌⊎◌, ℕ, Bool, ◌==◌, ◌&&◌, List, [], ◌∷◌, Contains, ◌↔◌}
use Rattle.std.specs.List.{AllByRecursion}
use Rattle.htl_segment.specs.Content.{Content}
use Rattle.htl_segment.specs.Traces.{AreInOrder}
use Rattle.htl_case.specs.declared.fault.CaseFault.{CaseFault}
use Rattle.htl_case.specs.declared.fault.CaseFault.TheVariants.{TwoContents, NoMemory, Falling}
use Rattle.htl_segment.specs.Rising.{IsKeyBefore}
use Rattle.htl_event.specs.Members.{IsLeastSuch}
use Rattle.htl_case.specs.Faults.{HasTwoContents, HaveOneContent, Falls, key_of}

abbrev pub same_key : Content → Content → Bool
same_key s t = (s.processor == t.processor) && (s.number == t.number)

-- no element's key comes before that of one in front of it, and keys may come again
abbrev pub AreSortedBy : {X : Type 0} → (X → ℕ × ℕ) → List X → Type 0
AreSortedBy key [] = Unit {0}
AreSortedBy key (x ∷ xs) = AllByRecursion (λ y. IsKeyBefore (key y) (key x) → ⊥) xs × AreSortedBy key xs

abbrev pub AreSorted : List Content → Type 0
AreSorted segments = AreSortedBy key_of segments

-- the segments of a list in which no key has two contents, each once and in the order of their keys
pub record IsInOrder (segments ordered : List Content) : Type 0 where
  pub in_order : AreInOrder ordered
  pub members : (s : Content) → Contains ordered s ↔ Contains segments s
  pub content : HaveOneContent segments

-- the segments have one trace id and one processor count, and these are they
pub record AreOf (segments : List Content) (trace_id processors : ℕ) : Type 0 where
  pub some : segments ≢ []
  pub trace : (s : Content) → Contains segments s → s.trace_id ≡ trace_id
  pub count : (s : Content) → Contains segments s → s.processors ≡ processors

abbrev pub IsTwoContents : List Content → CaseFault → Type 0
IsTwoContents segments fault =
    (processor number : ℕ) × (fault ≡ TwoContents processor number) × IsLeastSuch IsKeyBefore (HasTwoContents segments) (processor, number)

-- memory was refused, or the least segment that falls is told
abbrev pub IsFalling : List Content → CaseFault → Type 0
IsFalling segments fault =
    (fault ≡ NoMemory)
    ⊎ ((processor number : ℕ) × (fault ≡ Falling processor number) × IsLeastSuch IsKeyBefore (Falls segments) (processor, number))
