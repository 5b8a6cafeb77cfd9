-- For the clauses of private functions: what the two segments of a fault have that no two may have.
use Rattle.std.specs.Prelude.{◌≡◌, ◌≢◌, ℕ, ◌≤◌, ◌==◌, nat_lt, nat_le, ◌&&◌, Bool, true, List, Contains, slice_get, Some}
use Rattle.std.specs.List.{list_any}
use Rattle.htl_event.specs.Events.{Event}
use Rattle.htl_segment.specs.Content.{Content}
use Rattle.htl_main.specs.declared.loading.pairing.Shared.{Shared}
use Rattle.htl_main.specs.declared.loading.pairing.Shared.TheVariants.{Key, Sequence}

abbrev pub is_key : ℕ → ℕ → Content → Bool
is_key processor number s = (s.processor == processor) && (s.number == number)

-- the segment has the key, or an event of the sequence
abbrev pub has_shared : Shared → Content → Bool
has_shared (Key processor number) s = is_key processor number s
has_shared (Sequence sequence) s = list_any (λ e. e.sequence == sequence) s.events

-- an element at the place passes the test
pub record PassesAt {X : Type 0} (test : X → Bool) (xs : List X) (place : ℕ) : Type 0 where
  pub one : X
  pub here : slice_get xs place ≡ Some one
  pub passes : test one ≡ true

-- no element passes the test
abbrev pub NonePasses : {X : Type 0} → (X → Bool) → List X → Type 0
NonePasses {X} test xs = (x : X) → Contains xs x → test x ≡ true → ⊥

-- all segments that have the key, or an event of the sequence, are this one
abbrev pub HaveOne : Shared → List Content → Content → Type 0
HaveOne shared segments one = (s : Content) → Contains segments s → has_shared shared s ≡ true → s ≡ one

-- all segments that have the key, or an event of the sequence, are one
abbrev pub AreOne : Shared → List Content → Type 0
AreOne shared segments =
    (s t : Content) → Contains segments s → Contains segments t → has_shared shared s ≡ true → has_shared shared t ≡ true → s ≡ t

-- the segment at the place has the key, or an event of the sequence, and is another than `one`
pub record IsOtherAt (shared : Shared) (segments : List Content) (one : Content) (place : ℕ) : Type 0 where
  pub other : Content
  pub here : slice_get segments place ≡ Some other
  pub has : has_shared shared other ≡ true
  pub differ : other ≢ one

-- different segments at these places have the same key, or events of the same sequence
pub record AreTwoAt (segments : List Content) (shared : Shared) (first second : ℕ) : Type 0 where
  pub one : Content
  pub other : Content
  pub at_first : slice_get segments first ≡ Some one
  pub at_second : slice_get segments second ≡ Some other
  pub has_one : has_shared shared one ≡ true
  pub has_other : has_shared shared other ≡ true
  pub differ : other ≢ one

-- the least sequence of some events
pub record IsLeastSequence (events : List Event) (least : ℕ) : Type 0 where
  pub event : Event
  pub has : Contains events event
  pub sequence : event.sequence ≡ least
  pub bound : (e : Event) → Contains events e → least ≤ e.sequence

-- the segment is of the processor, has a lower number, and an event that is at or above the floor
abbrev pub reaches : ℕ → ℕ → ℕ → Content → Bool
reaches processor number floor s =
    (s.processor == processor) && (nat_lt s.number number && list_any (λ e. nat_le floor e.sequence) s.events)
