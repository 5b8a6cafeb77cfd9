-- Segments are equal where their fields are.
use Rattle.std.proofs.Common.{◌≡◌, ℕ, List, ap, ◌∙◌}
use Rattle.htl_event.specs.Events.{Event}
use Rattle.htl_segment.specs.declared.version.Version.{Version}
use Rattle.htl_segment.specs.Content.{Content, content}

-- segments with equal fields are equal
pub same_content : (s t : Content)
    → (s.version ≡ t.version) × (s.trace_id ≡ t.trace_id) × (s.processors ≡ t.processors) × (s.processor ≡ t.processor) ×
    (s.number ≡ t.number) → s.events ≡ t.events → s ≡ t
same_content s t header events =
    ap (λ (x : Version). content x s.trace_id s.processors s.processor s.number s.events) header.0
    ∙ ap (λ (x : ℕ). content t.version x s.processors s.processor s.number s.events) header.1
    ∙ ap (λ (x : ℕ). content t.version t.trace_id x s.processor s.number s.events) header.2
    ∙ ap (λ (x : ℕ). content t.version t.trace_id t.processors x s.number s.events) header.3
    ∙ ap (λ (x : ℕ). content t.version t.trace_id t.processors t.processor x s.events) header.4
    ∙ ap (λ (x : List Event). content t.version t.trace_id t.processors t.processor t.number x) events
