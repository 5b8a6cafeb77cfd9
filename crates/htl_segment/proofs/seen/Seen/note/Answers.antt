-- One sequence more was seen: it gets a mark or stands apart, and where it has a mark already it came twice.
use Rattle.std.proofs.Common.{◌<◌, false, length, sym, ◌∙◌, rules}
use Rattle.std.proofs.lemmas.List.{get_or_default}
use Rattle.htl_segment.proofs.SeenLaws.{again}
use Rattle.htl_segment.proofs.seen.Seen.note.Goals as goal

pub returns-then-index : goal.returns-then-index
returns-then-index c = λ numbers saw.
    let marks = c.make_room.new.marks.items in
    let inside : c.args.sequence < length marks = search rules in
    let marked = get_or_default marks c.args.sequence false c.index.result.now inside ∙ sym c.index.ensures ∙ c.if-index.true in
    record {
      counted = λ never. absurd cc;
      twice = λ is. again c.args.self.now.marks.items marks c.args.self.now.apart.items numbers c.args.sequence
          c.make_room.ensures.kept marked (saw.counted c.if-self.false);
    }
