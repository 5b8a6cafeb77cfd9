-- Desks have every part exactly where nothing is left after the last.
use Rattle.std.proofs.Common.{◌≡◌, ℕ, ◌+◌, ◌≤◌, take, get_or, sym, ap, arith}
use Rattle.htl_exchange.specs.Desks.{DeskValue, parts_at}
use Rattle.htl_exchange.proofs.DeskLists.{parts_at-take, parts_at-more}
use Rattle.htl_exchange.proofs.closing.have_all_parts.Goals as goal

pub returns-then-parts-left-clause-parts : goal.returns-then-parts-left-clause-parts
returns-then-parts-left-clause-parts c =
    let i : ℕ = c.loop-desk.desk-index in
    let d : DeskValue = c.desk-item.result in
    let p : (get_or c.args.desks.now i d).known.parts ≡ d.known.parts = ap (λ (x : DeskValue). x.known.parts) (sym c.desk-item.is) in
    let more = parts_at-more c.args.desks.now i d c.loop-desk-test.true in
    let most = parts_at-take c.args.desks.now (i + 1) in
    let inv : c.loop-desk.left + parts_at (take i c.args.desks.now) ≡ 8 = c.loop-desk.invariant.0 in
    let off : parts_at c.args.desks.now ≡ 8 → ⊥ = λ h. omega arith in
    ((λ f. absurd (cc)), λ h. absurd (off h))

pub loop-desk-preserved : goal.loop-desk-preserved
loop-desk-preserved c =
    let i : ℕ = c.loop-desk.desk-index in
    let d : DeskValue = c.desk-item.result in
    let p : (get_or c.args.desks.now i d).known.parts ≡ d.known.parts = ap (λ (x : DeskValue). x.known.parts) (sym c.desk-item.is) in
    let more = parts_at-more c.args.desks.now i d c.loop-desk-test.true in
    let inv : c.loop-desk.left + parts_at (take i c.args.desks.now) ≡ 8 = c.loop-desk.invariant.0 in
    let few : c.loop-desk.left + i ≤ 8 = c.loop-desk.invariant.1 in
    (omega arith, omega arith)
