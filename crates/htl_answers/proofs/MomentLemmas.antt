-- The greatest sequence over one part more is the greater of that so far and the part's.
use Rattle.std.proofs.Common.{◌≡◌, ℕ, ◌+◌, ◌<◌, List, ◌++◌, length, map, take, get_or, sym, subst}
use Rattle.std.specs.Prelude.{Contains, max}
use Rattle.htl_event.specs.Events.{Event}
use Rattle.htl_event.specs.Handles.{IsGreatestSequence}
use Rattle.htl_answers.specs.Parts.{Contents, IsFoldOf, AreEventsOf}
use Rattle.htl_answers.proofs.Appended.{greatest_append}
use Rattle.htl_answers.proofs.PartLemmas.{last_part, one_part_more}

abbrev IsGreatestOver : (Event → Type 0) → List Event → ℕ → Type 0
IsGreatestOver P events = IsGreatestSequence (λ e. Contains events e × P e)

-- the greatest of the parts before, of what the next folded and of what it holds
pub greatest_more : (P : Event → Type 0) {X : Type 0} (contents : X → Contents) (parts : List X) (i : ℕ) (part : X) → i < length parts
    → part ≡ get_or parts i part
    → (before folded held : ℕ) → ((events : List Event) → AreEventsOf (map contents (take i parts)) events
    → IsGreatestOver P events before)
    → ((events : List Event) → IsFoldOf (contents part) events → IsGreatestOver P events folded)
    → IsGreatestOver P (contents part).held held
    → (events : List Event) → AreEventsOf (map contents (take (i + 1) parts)) events
    → IsGreatestOver P events (max before (max folded held))
greatest_more P contents parts i part lt is before folded held of_before of_folded of_held events are =
    let ends = last_part (map contents (take i parts)) (contents part) events
    (subst (λ ps. AreEventsOf ps events) (one_part_more contents parts i part lt is) are) in
    let kept = greatest_append P ends.folded (contents part).held folded held (of_folded ends.folded ends.fold) of_held in
    subst (λ es. IsGreatestOver P es (max before (max folded held))) (sym ends.is)
    (greatest_append P ends.before (ends.folded ++ (contents part).held) before (max folded held) (of_before ends.before ends.are) kept)
