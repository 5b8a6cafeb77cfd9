-- The taken keys as facts and as a test have the same gaps.
use Rattle.std.proofs.Common.{◌≡◌, ℕ, true, List, length, subst, sym, ap, ◌∙◌}
use Rattle.htl_taken.specs.Numbers.{Numbers, has_key}
use Rattle.htl_taken.specs.Gaps.{IsGaps}
use Rattle.htl_taken.proofs.Keys.{has_key-decides}
use Rattle.htl_taken.proofs.Gaps.{gaps_agree}
use Rattle.htl_analyst.specs.States.{State}
use Rattle.htl_analyst.specs.Keys.{HasTaken}
use Rattle.htl_analyst.proofs.analyst.Analyst.gaps.Goals as goal

pub returns : goal.returns
returns g c =
    let a = c.args.self.now in
    let gaps = c.in_ok-gaps.gaps.items in
    let taken : c.self.inside.taken ≡ a.taken = ap (λ (s : State). s.taken) c.self.view_is in
    let of_all = subst (λ (ps : List Numbers). IsGaps (λ p n. has_key ps p n ≡ true) (length ps) gaps) taken c.in_ok-gaps.ensures in
    let count : length a.taken ≡ a.processors = ap length (sym taken) ∙ c.self.invariant.places ∙ ap (λ (s : State). s.processors) c.self.view_is in
    let listed = subst (λ (n : ℕ). IsGaps (λ p n. has_key a.taken p n ≡ true) n gaps) count of_all in
    gaps_agree (λ p n. has_key a.taken p n ≡ true) (HasTaken a) a.processors gaps (λ p n lt. has_key-decides a.taken p n) listed
