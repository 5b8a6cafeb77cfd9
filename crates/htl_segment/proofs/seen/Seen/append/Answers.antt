-- What the other saw is noted, or it is known that it saw one twice.
use Rattle.std.proofs.Common.{◌++◌}
use Rattle.htl_segment.specs.Seen.{Saw}
use Rattle.htl_segment.proofs.SeenLaws.{apart_and_marked, saw_twice}
use Rattle.htl_segment.proofs.seen.Seen.append.Goals as goal
use Rattle.htl_segment.proofs.seen.Seen.append.Goals.{then-other, else-other+in_ok-note_all+in_ok-note_marks}

pub returns-clause-seen : goal.returns-clause-seen
returns-clause-seen c = λ numbers more saw also.
    elim c.if-other.branch [
      | then-other w ↦ rw (w.self-is) (record { counted = λ never. absurd cc; twice = λ is. saw_twice numbers more (also.twice (w.if-other.true)) })
      | else-other+in_ok-note_all+in_ok-note_marks w ↦
          let other = c.args.other.now in
          let apart : Saw w.note_all.new.self (numbers ++ other.apart.items) = rw (← w.deref.ensures.value) (w.in_ok-note_all.ensures numbers saw) in
          let all : Saw w.note_marks.new.self (numbers ++ more) = w.in_ok-note_marks.ensures (numbers ++ other.apart.items) (numbers ++ more) apart
          (rw (w.deref-else-other.ensures.value) (apart_and_marked numbers more other.apart.items other.marks.items (also.counted (w.if-other.false)))) in
          rw (w.self-is) (record { counted = all.counted; twice = all.twice })
    ]
