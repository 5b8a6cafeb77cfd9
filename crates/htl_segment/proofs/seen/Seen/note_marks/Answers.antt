-- The marks are added, or one was there already.
use Rattle.std.proofs.Common.{◌≡◌, ◌+◌, ◌∙◌, ℕ, Bool, List, ap, arith, cond, sym}
use Rattle.std.proofs.lemmas.List.{with_items_is}
use Rattle.htl_segment.specs.Repeated.{times}
use Rattle.htl_segment.specs.Seen.{mark_count}
use Rattle.htl_segment.proofs.SeenLaws.{saw_again, saw_once}
use Rattle.htl_segment.proofs.seen.Seen.note_marks.Goals as goal

pub returns-then-unite : goal.returns-then-unite
returns-then-unite c = λ numbers all saw adds.
    let same : (n : ℕ) → mark_count c.deref_mut.result.now n ≡ mark_count c.args.self.now.marks.items n = λ n.
    ap (λ (marks : List Bool). mark_count marks n) c.deref_mut.ensures.value
    ∙ ap (λ (b : Bool). cond {A = ℕ} b 1 0) (c.in_ok-reach.ensures.kept n) in
    record {
      counted = λ never. absurd cc;
      twice = λ is. saw_again c.args.self.now c.deref_mut.result.now c.args.marks.now numbers all same (c.unite.ensures.twice c.if-unite.true)
          saw adds;
    }

pub returns-else-unite : goal.returns-else-unite
returns-else-unite c = λ numbers all saw adds.
    let same : (n : ℕ) → mark_count c.deref_mut.result.now n ≡ mark_count c.args.self.now.marks.items n = λ n.
    ap (λ (marks : List Bool). mark_count marks n) c.deref_mut.ensures.value
    ∙ ap (λ (b : Bool). cond {A = ℕ} b 1 0) (c.in_ok-reach.ensures.kept n) in
    let are = saw_once c.args.self.now c.unite.new.marks c.args.marks.now numbers all
    (λ n. omega (arith, c.unite.ensures.once c.if-unite.false n, same n)) saw adds in
    let put = with_items_is c.reach.new.marks c.unite.new.marks (c.unite.auto.marks ∙ c.deref_mut.ensures.len) in
    record {
      counted = λ once n. are.0 once n ∙ ap (λ (marks : List Bool). mark_count marks n + times n c.args.self.now.apart.items) (sym put);
      twice = are.1;
    }
