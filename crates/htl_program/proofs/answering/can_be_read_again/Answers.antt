-- One name more can be read again.
use Rattle.std.proofs.Common.{◌≡◌, ◌∙◌, All, rules, subst, sym, take, true}
use Rattle.std.proofs.lemmas.List.Elements.{All-push}
use Rattle.htl_world.specs.Worlds.{of_each}
use Rattle.htl_world.proofs.Names.{all_taken, names_again, one_more, standard_again}
use Rattle.htl_program.proofs.answering.can_be_read_again.Goals as goal

pub loop-name-preserved : goal.loop-name-preserved
loop-name-preserved g c =
    let can = (g.W.World.state c.args.world.now).known.can_be_read_again in
    let name = c.deref.result.now in
    let again : can name ≡ true = search rules in
    record {
      can = subst (λ l. All (λ can. can ≡ true) l)
          (sym (one_more can c.args.files.now c.loop-name.name-index c.name-item.result name c.loop-name-test.true c.name-item.is c.deref.ensures))
          (All-push (λ can. can ≡ true) (take c.loop-name.name-index (of_each can c.args.files.now)) (can name) c.loop-name.invariant.can again);
    }

pub returns-then-is_empty : goal.returns-then-is_empty
returns-then-is_empty g c = λ can.
    standard_again (g.W.World.state c.args.world.now).known c.args.files.now (sym c.is_empty.ensures ∙ c.if-is_empty.true)
    (c.standard_can_be_read_again.ensures can)

pub returns : goal.returns
returns g c =
    let known = (g.W.World.state c.args.world.now).known in
    let all = subst (λ l. All (λ can. can ≡ true) l)
    (all_taken known.can_be_read_again c.args.files.now c.loop-name.name-index c.loop-name-test.false c.loop-name.auto.name-index-end)
    c.loop-name.invariant.can in
    λ is. names_again known c.args.files.now (sym c.is_empty.ensures ∙ c.if-is_empty.false) all
