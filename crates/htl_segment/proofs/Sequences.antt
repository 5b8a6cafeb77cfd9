-- The sequences of a segment's events differ, since they rise.
use Rattle.std.proofs.Common.{◌≢◌, ℕ, ◌<◌, List, [], ◌∷◌, arith}
use Rattle.std.specs.List.{AllByRecursion}
use Rattle.htl_event.specs.Events.{Event}
use Rattle.htl_event.specs.Handles.{HaveOwnSequences}
use Rattle.htl_event.proofs.Members.{AllByRecursion-weaker}
use Rattle.htl_segment.specs.declared.version.Version.{Version}
use Rattle.htl_segment.specs.Content.{EventsFit}

all_above : (version : Version) (last low : ℕ) (es : List Event) → low < last → EventsFit version last es
    → AllByRecursion (λ x. low < x.sequence) es
all_above version last low [] lt fits = tt
all_above version last low (e ∷ es) lt fits =
    let up = fits.1 in
    (omega (arith, up), all_above version e.sequence low es (omega (arith, up)) fits.2)

above_last : (version : Version) (last : ℕ) (es : List Event) → EventsFit version last es → AllByRecursion (λ x. last < x.sequence) es
above_last version last [] fits = tt
above_last version last (e ∷ es) fits = (fits.1, all_above version e.sequence last es fits.1 fits.2)

-- events that rise have sequences of their own
pub own_sequences : (version : Version) (last : ℕ) (es : List Event) → EventsFit version last es → HaveOwnSequences es
own_sequences version last [] fits = tt
own_sequences version last (e ∷ es) fits = (
  AllByRecursion-weaker (λ x. e.sequence < x.sequence) (λ x. e.sequence ≢ x.sequence) es (λ x lt same. omega arith)
      (above_last version e.sequence es fits.2),
  own_sequences version e.sequence es fits.2,
)
