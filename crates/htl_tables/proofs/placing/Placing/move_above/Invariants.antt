-- The rows still make what they made, whatever that is.
use Rattle.std.proofs.Common.{◌≡◌, ◌≤◌, ◌++◌, length, ℕ, [], ◌∷◌, List, Option}
use Rattle.htl_event.specs.Events.{Event}
use Rattle.htl_tables.specs.Keys.{key_of}
use Rattle.htl_tables.specs.Placing.{IsUnderWay}
use Rattle.htl_tables.proofs.placing.Placing.move_above.Given as goal

abbrev pub invariant-loop-key : goal.invariant-loop-key
invariant-loop-key g l = ((target : ℕ → ℕ → Option Event) (left : List Event) (e : Event) → key_of e ≡ l.key
    → IsUnderWay target (left ++ e ∷ []) l.initial.self.rows.items l.initial.self.older l.initial.self.end
    → IsUnderWay target (left ++ e ∷ []) l.self.rows.items l.self.older l.self.end)
    × (l.self.older ≤ l.self.end) × (l.self.end ≤ length l.self.rows.items)

abbrev pub decreases-loop-key : goal.decreases-loop-key
decreases-loop-key g l = l.self.older
