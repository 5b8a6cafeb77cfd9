-- The bytes held are those behind the ones that were consumed.
use Rattle.std.proofs.Common.{◌≡◌, ◌-◌, drop, length, take, ap, sym, ◌∙◌, arith}
use Rattle.std.proofs.lemmas.List.{length-take-le, length-drop}
use Rattle.htl_reading.specs.Blocks.{BlockState}
use Rattle.htl_reading.proofs.TakenLaws.{held_after}
use Rattle.htl_reading.proofs.block.Block.consume.Goals as goal

pub returns : goal.returns
returns c =
    let b = c.self.inside in
    let bytes = b.bytes.items in
    let held : take (b.end - b.start) (drop b.start bytes) ≡ c.args.self.now.held = ap (λ (s : BlockState). s.held) c.self.view_is in
    let size : length c.args.self.now.held ≡ b.end - b.start = ap length (sym held)
    ∙ length-take-le (b.end - b.start) (drop b.start bytes) (omega (arith, c.self.invariant, length-drop b.start bytes)) in
    held_after bytes b.start b.end c.args.len (omega (arith, size, c.requires, c.self.invariant)) ∙ ap (drop c.args.len) held
