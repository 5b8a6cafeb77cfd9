-- The order of keys, and sequences that rise along each processor (this project's own rule for a case).
use Rattle.std.specs.Prelude.{◌≡◌, ℕ, ◌<◌, ◌⊎◌, List, Contains}
use Rattle.htl_event.specs.Events.{Event}
use Rattle.htl_segment.specs.Content.{Content}

-- The key, a processor and a segment number, comes before the other: by processor, and then by number.
abbrev pub IsKeyBefore : ℕ × ℕ → ℕ × ℕ → Type 0
IsKeyBefore a b = (a.0 < b.0) ⊎ ((a.0 ≡ b.0) × (a.1 < b.1))

-- Sequences rise along each processor: every event is above all those in the processor's segments of lower
-- numbers.
abbrev pub SequencesRise : List Content → Type 0
SequencesRise segments =
    (s t : Content) → Contains segments s → Contains segments t → t.processor ≡ s.processor → t.number < s.number
    → (e f : Event) → Contains s.events e → Contains t.events f → f.sequence < e.sequence
