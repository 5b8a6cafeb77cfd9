-- The first and the last sequence of a segment with events are its least and its greatest.
use Rattle.std.proofs.Common.{◌≡◌, ℕ, ◌<◌, List, [], ◌∷◌, refl, ap, inl, inr, ◌⊎◌, arith}
use Rattle.htl_event.specs.Events.{Event}
use Rattle.htl_event.specs.declared.growth.Span.{Span}
use Rattle.htl_event.proofs.Members.{Contains-here, Contains-cases}
use Rattle.htl_segment.specs.Content.{Content, EventsFit, Fits}
use Rattle.htl_segment.specs.Outlines.{first_sequence, last_sequence}
use Rattle.htl_segment.proofs.Spans.{above}
use Rattle.htl_segment.proofs.OutlineLaws.{last_is_greatest}
use Rattle.htl_case.specs.Spans.{IsSpanOf}

-- the span from one sequence to another
abbrev pub from_to : ℕ → ℕ → Span
from_to first last = record { first = first; last = last }

pub record HasNone (events : List Event) : Type 0 where
  pub none : events ≡ []
  pub first : first_sequence events ≡ 0
  pub last : last_sequence 0 events ≡ 0

pub record HasSome (events : List Event) : Type 0 where
  pub first : 0 < first_sequence events
  pub span : IsSpanOf events (from_to (first_sequence events) (last_sequence 0 events))

-- a segment that fits has no events, or its first and last sequence are its span
pub none_or_some : (s : Content) → Fits s → HasNone s.events ⊎ HasSome s.events
none_or_some s fit = go s.events fit.events refl
  where
    go : (es : List Event) → EventsFit s.version 0 es → s.events ≡ es → HasNone es ⊎ HasSome es
    go [] fits is = inl (record { none = refl; first = refl; last = refl })
    go (e ∷ es) fits is =
        let up = fits.1 in
        let greatest = rw is at (last_is_greatest s fit) in
        inr (record {
          first = up;
          span = record {
            has_first = (e, Contains-here e es, refl);
            has_last = elim greatest.reached [
              | inl zero ↦ absurd (let le = greatest.bound e (Contains-here e es) in omega (arith, le, zero, up))
              | inr reached ↦ reached
            ];
            between = λ x h. (
              elim (Contains-cases e es x h) [
                | inl here ↦ (let same : e.sequence ≡ x.sequence = ap (λ (y : Event). y.sequence) here in omega (arith, same))
                | inr there ↦ (let later = above s.version e.sequence es fits.2 x there in omega (arith, later))
              ],
              greatest.bound x h,
            );
          };
        })
