-- No segment so far is another one that has the key or the sequence.
use Rattle.htl_main.proofs.PairLaws.{AreOneBefore}
use Rattle.htl_main.proofs.loading.pairing.other_with.Given as goal

abbrev pub invariant-loop-place : goal.invariant-loop-place
invariant-loop-place l = AreOneBefore l.shared l.segments l.one l.place
