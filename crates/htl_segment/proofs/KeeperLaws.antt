-- What a keeper took up to an offset is the same behind other segments, and where more bytes follow.
use Rattle.std.proofs.Common.{ℕ, ◌+◌, ◌-◌, List, [], ◌++◌, length, All, sym, append_assoc, append-nil}
use Rattle.htl_segment.specs.Content.{Content, Fits}
use Rattle.htl_segment.specs.Bundles.{bundle, Splits}
use Rattle.htl_segment.specs.Feeding.{SplitsMore}
use Rattle.htl_segment.specs.Keepers.{Took, TookUpTo}
use Rattle.htl_segment.proofs.BundleLaws.{boundary}
use Rattle.htl_segment.proofs.PiecesLaws.{boundary_after, boundary_more}

module _ {S K : Type 0} (gathers : S → K → List Content → Type 0) (old : K) where
  -- the segments that were split off
  pub took_split : (new : K) (b : List ℕ) (more : List Content) (rest : List ℕ) → SplitsMore b [] more rest → Took gathers old new more
      → TookUpTo gathers old new b (length b - length rest)
  unfolding boundary
  took_split new b more rest so_far took = (boundary b [] more rest so_far, rw so_far.pushed at took)

  -- and some behind others
  pub took_after : (mid new : K) (segments : List Content) (b : List ℕ) (offset : ℕ) → All Fits segments → Took gathers old mid segments
      → TookUpTo gathers mid new b offset → TookUpTo gathers old new (bundle segments ++ b) (length (bundle segments) + offset)
  unfolding boundary_after
  took_after mid new segments b offset fits first next =
      let whole : Splits (bundle segments) segments [] = record { parts = sym (append-nil (bundle segments)); fits = fits } in (
        boundary_after (bundle segments) b segments offset whole next.0,
        λ kind before was. rw (← append_assoc before segments next.0.before) (next.1 kind (before ++ segments) (first kind before was)),
      )

  -- whichever bytes follow
  pub took_more : (new : K) (b more : List ℕ) (offset : ℕ) → TookUpTo gathers old new b offset
      → TookUpTo gathers old new (b ++ more) offset
  unfolding boundary_more
  took_more new b more offset took = (boundary_more b more offset took.0, took.1)
