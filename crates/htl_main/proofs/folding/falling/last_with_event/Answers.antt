-- The search from the end stops at the last segment that has an event.
use Rattle.std.proofs.Common.{◌≡◌, ◌≢◌, [], rules, tests}
use Rattle.std.proofs.lemmas.Iterator.{first_from_find}
use Rattle.std.proofs.lemmas.Iterator.Adapters.{YieldsList-from_rev_slice}
use Rattle.std.proofs.lemmas.List.{nil_from_length}
use Rattle.htl_main.proofs.FallingLaws.{nearest_last}
use Rattle.htl_main.proofs.folding.falling.last_with_event.Goals as goal

pub returns : goal.returns
returns c = λ order. nearest_last c.args.segments.now order (λ s. s.now) c.find.result
    (first_from_find _ _ c.find.result (λ s. s.events ≢ []) (λ s. s.events ≡ []) c.find.ensures.ran
    (YieldsList-from_rev_slice c.args.segments.now cc) (λ s q called. search rules)
    (λ s q called. (search rules, nil_from_length s.now.events (search (rules, tests)))))
