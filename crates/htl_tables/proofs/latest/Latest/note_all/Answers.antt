-- What is left after a half was noted and dropped are the keys that follow it.
use Rattle.std.proofs.Common.{◌≡◌, ◌+◌, ◌≤◌, length, take, drop, ◌++◌, arith, sym, subst, ◌∙◌}
use Rattle.std.proofs.lemmas.Grind.{div_ceil_times}
use Rattle.std.proofs.lemmas.List.{length-drop, length-take-le, take-append-drop}
use Rattle.htl_tables.specs.FirstKeys.{StandFrom}
use Rattle.htl_tables.proofs.KeyRuns.{first_stand, rest_stand}
use Rattle.htl_tables.proofs.latest.Latest.note_all.Goals as goal

pub loop-chosen-preserved : goal.loop-chosen-preserved
loop-chosen-preserved g c =
    let all = c.args.keys.items in
    let rest = c.loop-chosen.rest.items in
    let half = c.div_ceil-half.result in
    let n = c.loop-chosen.invariant.0 in
    let sum = c.loop-chosen.invariant.1 in
    let stand : StandFrom all n (take half rest ++ drop half rest) =
    subst (StandFrom all n) (sym (take-append-drop half rest)) c.loop-chosen.invariant.2 in
    let left = c.drop_first.ensures in
    let len : length rest ≡ c.len.result = (rw c.deref.ensures.value at c.deref.ensures.len) ∙ sym c.len.ensures in
    let times = (div_ceil_times c.len.result 2 (omega arith)).1 in
    let is = c.div_ceil-half.ensures in
    let within : half ≤ length rest = omega (arith, len, times, is) in
    let first = length-take-le half rest within in
    let after = length-drop half rest in
    rw left (
      n + half,
      omega (arith, sum, within, after),
      subst (λ len. StandFrom all (n + len) (drop half rest)) first (rest_stand all n (take half rest) (drop half rest) stand),
      (λ process base. rw (← first)
          ((rw c.deref.ensures.value at c.in_ok-note_keys.ensures) all n c.requires.keys c.requires.sorted
          (first_stand all n (take half rest) (drop half rest) stand) c.loop-chosen.invariant.3 process base)),
    )
