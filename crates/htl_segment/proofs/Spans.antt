-- The last event of a segment has its greatest sequence.
use Rattle.std.proofs.Common.{◌≡◌, ℕ, zero, suc, ◌+◌, ◌<◌, ◌≤◌, List, [], ◌∷◌, length, Some, ap}
use Rattle.std.proofs.Common.{subst, inl, inr, arith}
use Rattle.std.specs.Prelude.{Contains, slice_get}
use Rattle.std.proofs.lemmas.Option.{same_Some, slice_get_within, get_or_from_slice_get}
use Rattle.htl_event.specs.Events.{Event}
use Rattle.htl_event.proofs.Members.{Contains-cases, Contains-nil}
use Rattle.htl_segment.specs.declared.version.Version.{Version}
use Rattle.htl_segment.specs.Content.{EventsFit}

-- an element at a place is a member
pub at_place : {X : Type 0} (xs : List X) (i : ℕ) (x : X) → slice_get xs i ≡ Some x → Contains xs x
at_place xs i x at = (i, slice_get_within xs i x at, get_or_from_slice_get xs i x x at)

-- every event is above what its sequences have to be above
pub above : (version : Version) (low : ℕ) (es : List Event) → EventsFit version low es → (x : Event) → Contains es x → low < x.sequence
above version low [] fit x h = absurd (Contains-nil x h)
above version low (e ∷ es) fit x h =
    elim (Contains-cases e es x h) [
      | inl is ↦ subst (λ (y : Event). low < y.sequence) is fit.1
      | inr there ↦ (let up = above version e.sequence es fit.2 x there in let first = fit.1 in omega (arith, up, first))
    ]

-- the last event has the greatest sequence
pub greatest_last : (version : Version) (low : ℕ) (es : List Event) (k : ℕ) (last : Event) → EventsFit version low es → k + 1 ≡ length es
    → slice_get es k ≡ Some last
    → (x : Event) → Contains es x → x.sequence ≤ last.sequence
greatest_last version low [] k last fit len at x h = absurd (Contains-nil x h)
greatest_last version low (e ∷ es) zero last fit len at x h =
    let same : e.sequence ≡ last.sequence = ap (λ (y : Event). y.sequence) (same_Some e last at) in
    elim (Contains-cases e es x h) [
      | inl is ↦ (let here : e.sequence ≡ x.sequence = ap (λ (y : Event). y.sequence) is in omega (arith, same, here))
      | inr there ↦ absurd (omega (arith, len, there.1))
    ]
greatest_last version low (e ∷ es) (suc k) last fit len at x h =
    elim (Contains-cases e es x h) [
      | inl is ↦ (let up = above version e.sequence es fit.2 last (at_place es k last at) in let here : e.sequence ≡ x.sequence = ap
          (λ (y : Event). y.sequence) is in omega (arith, up, here))
      | inr there ↦ greatest_last version e.sequence es k last fit.2 (omega (arith, len)) at x there
    ]
