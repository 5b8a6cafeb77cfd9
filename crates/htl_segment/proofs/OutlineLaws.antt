-- The first and the last sequence of a segment are its least and its greatest.
use Rattle.std.proofs.Common.{◌≡◌, ℕ, zero, suc, ◌+◌, ◌≤◌, List, [], ◌∷◌, length, Some, refl, ap, inl, inr, arith}
use Rattle.std.specs.Prelude.{Contains, slice_get}
use Rattle.std.proofs.lemmas.Option.{same_Some}
use Rattle.htl_event.specs.Events.{Event}
use Rattle.htl_event.specs.Handles.{IsGreatestSequence}
use Rattle.htl_event.proofs.Members.{Contains-here, Contains-there, Contains-cases, Contains-nil}
use Rattle.htl_segment.specs.declared.version.Version.{Version}
use Rattle.htl_segment.specs.Content.{Content, EventsFit, Fits}
use Rattle.htl_segment.specs.Outlines.{last_sequence}

-- the sequence of the event at the last place is the last sequence
pub last_at : (n : ℕ) (es : List Event) (k : ℕ) (e : Event) → k + 1 ≡ length es → slice_get es k ≡ Some e
    → last_sequence n es ≡ e.sequence
last_at n [] k e len at = absurd (omega (arith, len))
last_at n (x ∷ []) zero e len at = ap (λ (y : Event). y.sequence) (same_Some x e at)
last_at n (x ∷ y ∷ es) zero e len at = absurd (omega (arith, len))
last_at n (x ∷ es) (suc k) e len at = last_at x.sequence es k e (omega (arith, len)) at

-- no event is above the last sequence
last_bounds : (version : Version) (low : ℕ) (es : List Event) → EventsFit version low es
    → (low ≤ last_sequence low es) × ((x : Event) → Contains es x → x.sequence ≤ last_sequence low es)
last_bounds version low [] fit = (omega arith, λ x h. absurd (Contains-nil x h))
last_bounds version low (e ∷ es) fit =
    let rest = last_bounds version e.sequence es fit.2 in
    let up = fit.1 in (
      omega (arith, up, rest.0),
      λ x h. elim (Contains-cases e es x h) [
        | inl is ↦ (let here : e.sequence ≡ x.sequence = ap (λ (y : Event). y.sequence) is in omega (arith, rest.0, here))
        | inr there ↦ rest.1 x there
      ],
    )

last_reached : (low : ℕ) (e : Event) (es : List Event)
    → (x : Event) × Contains (e ∷ es) x × (x.sequence ≡ last_sequence low (e ∷ es))
last_reached low e [] = (e, Contains-here e [], refl)
last_reached low e (y ∷ es) =
    let rest = last_reached e.sequence y es in (rest.0, Contains-there e (y ∷ es) rest.0 rest.1, rest.2)

-- the last sequence of a segment that fits is the greatest of its events
pub last_is_greatest : (s : Content) → Fits s → IsGreatestSequence (Contains s.events) (last_sequence 0 s.events)
last_is_greatest s fit = go s.events fit.events where
  go : (es : List Event) → EventsFit s.version 0 es → IsGreatestSequence (Contains es) (last_sequence 0 es)
  go [] fits = record { bound = λ x h. absurd (Contains-nil x h); reached = inl refl }
  go (e ∷ es) fits = record { bound = (last_bounds s.version 0 (e ∷ es) fits).1; reached = inr (last_reached 0 e es) }
