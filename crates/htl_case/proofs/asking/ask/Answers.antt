-- Each call answers its question over the taken keys, which are those of the gaps and of the number too.
use Rattle.std.proofs.Common.{◌≡◌, ℕ, true, sym, ◌∙◌, subst}
use Rattle.htl_taken.specs.Gaps.{IsGaps}
use Rattle.htl_taken.proofs.Gaps.{gaps_agree}
use Rattle.htl_analyst.specs.Keys.{HasTaken, keys}
use Rattle.htl_analyst.proofs.KeyEvents.{keys_taken, taken_keys}
use Rattle.htl_case.proofs.Sizes.{size_is}
use Rattle.htl_case.proofs.asking.ask.Goals as goal
use Rattle.htl_case.proofs.asking.ask.Goals.{in-Has, in-Taken, in-Events, in-Gaps+in_ok-gaps-in-Gaps}
use Rattle.htl_case.proofs.asking.ask.Goals.{in-Latest+in_ok-copied-in-Latest, in-Mark}
use Rattle.htl_case.proofs.asking.ask.Goals.{in-Outstanding+in_ok-outstanding-in-Outstanding, in-Diff+in_ok-diff-in-Diff}
use Rattle.htl_case.proofs.asking.ask.Goals.{in-Leaks+in_ok-leaks-in-Leaks, in-Bad+in_ok-bad-in-Bad, in-Tags+in_ok-tags-in-Tags}
use Rattle.htl_case.proofs.asking.ask.Goals.{in-Stacks+in_ok-stacks-in-Stacks, in-Tally+in_ok-count_of-in-Tally, in-Under}
use Rattle.htl_case.proofs.asking.ask.Goals.{in-Processes+in_ok-processes-in-Processes, in-Objects+in_ok-objects-in-Objects}

pub returns : goal.returns
returns g c T stated right =
    let a = c.args.analyst.now in
    elim c.match-question.branch [
      | in-Has w ↦ rw (w.in-Has.is, w.result-is) w.has.ensures
      | in-Taken w ↦ rw (w.in-Taken.is, w.result-is) (w.taken.ensures ∙ size_is T a right)
      | in-Events w ↦ rw (w.in-Events.is, w.result-is) (w.events.ensures.taken T right)
      | in-Gaps+in_ok-gaps-in-Gaps w ↦
          let gaps = w.in_ok-gaps-in-Gaps.field-0.items in
          let listed = subst (λ (n : ℕ). IsGaps (HasTaken a) n gaps) (sym right.processors) w.in_ok-gaps-in-Gaps.ensures in
          rw (w.in-Gaps.is, w.result-is) (gaps_agree (HasTaken a) (λ p n. keys a p n ≡ true) T.processors gaps
          (λ p n lt. (taken_keys a p n, keys_taken a p n)) listed)
      | in-Latest+in_ok-copied-in-Latest w ↦
          rw (w.in-Latest.is, w.result-is, w.in_ok-copied-in-Latest.ensures) (w.latest.ensures T right)
      | in-Mark w ↦ rw (w.in-Mark.is, w.result-is) (w.mark.ensures T right)
      | in-Outstanding+in_ok-outstanding-in-Outstanding w ↦
          rw (w.in-Outstanding.is, w.result-is) (w.in_ok-outstanding-in-Outstanding.ensures T (rw w.in-Outstanding.is at stated) right)
      | in-Diff+in_ok-diff-in-Diff w ↦ rw (w.in-Diff.is, w.result-is) (w.in_ok-diff-in-Diff.ensures T (rw w.in-Diff.is at stated) right)
      | in-Leaks+in_ok-leaks-in-Leaks w ↦ rw (w.in-Leaks.is, w.result-is) (w.in_ok-leaks-in-Leaks.ensures T (rw w.in-Leaks.is at stated) right)
      | in-Bad+in_ok-bad-in-Bad w ↦ rw (w.in-Bad.is, w.result-is) (w.in_ok-bad-in-Bad.ensures T right)
      | in-Tags+in_ok-tags-in-Tags w ↦ rw (w.in-Tags.is, w.result-is) (w.in_ok-tags-in-Tags.ensures T right)
      | in-Stacks+in_ok-stacks-in-Stacks w ↦ rw (w.in-Stacks.is, w.result-is) (w.in_ok-stacks-in-Stacks.ensures T right)
      | in-Tally+in_ok-count_of-in-Tally w ↦ rw (w.in-Tally.is, w.result-is) (w.in_ok-count_of-in-Tally.ensures T right)
      | in-Under w ↦ rw (w.in-Under.is, w.result-is) (rw w.deref.ensures.value at w.under.ensures T right)
      | in-Processes+in_ok-processes-in-Processes w ↦
          rw (w.in-Processes.is, w.result-is) (w.in_ok-processes-in-Processes.ensures T (rw w.in-Processes.is at stated) right)
      | in-Objects+in_ok-objects-in-Objects w ↦
          rw (w.in-Objects.is, w.result-is)
          (w.in_ok-objects-in-Objects.ensures.number T right, w.in_ok-objects-in-Objects.ensures.unbalanced T right)
    ]
