-- The frames so far were written, each after a `;`.
use Rattle.std.proofs.Common.{◌≡◌, ◌++◌, codes}
use Rattle.std.specs.List.{flat_map}
use Rattle.htl_report.specs.Folded.{folded_frame}
use Rattle.htl_report.proofs.flame_graph.write_inner.Given as goal

abbrev pub invariant-loop-frame : goal.invariant-loop-frame
invariant-loop-frame l =
    l.out.items ≡ l.initial.out.items ++ flat_map (λ frame. codes ";" ++ folded_frame l.symbols frame.now) l.yielded
