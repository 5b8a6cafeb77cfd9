-- The pair that is told of a sequence are two different segments that have an event of it.
use Rattle.htl_main.proofs.PairLaws.{sequence_pair}
use Rattle.htl_main.proofs.loading.pairing.pair.Goals as goal

pub returns-in-SequenceTwice : goal.returns-in-SequenceTwice
returns-in-SequenceTwice c =
    rw (c.in-SequenceTwice.is) (sequence_pair c.args.segments.now c.in-SequenceTwice.sequence c.two_of-in-SequenceTwice.result
    (rw (c.in-SequenceTwice.is) at c.requires) c.two_of-in-SequenceTwice.ensures)
