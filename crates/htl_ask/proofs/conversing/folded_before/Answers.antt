-- A dialogue that folds begins with what its states come to; one that keeps segments has no state.
use Rattle.std.proofs.Common.{◌∙◌, [], All, map, string_bytes, subst, sym}
use Rattle.std.specs.Prelude.{Some}
use Rattle.std.proofs.lemmas.List.Elements.{All-nil}
use Rattle.std.proofs.lemmas.Result.{err_from_is_err_and}
use Rattle.htl_world.specs.Worlds.{IsAsked}
use Rattle.htl_world.proofs.Asked.{asked_none}
use Rattle.htl_ask.specs.Asking.{IsSavedState}
use Rattle.htl_ask.specs.Beginnings.{AllFit}
use Rattle.htl_ask.specs.LineRounds.{all_read}
use Rattle.htl_ask.proofs.RestoringLaws.{no_states}
use Rattle.htl_ask.proofs.conversing.folded_before.Goals as goal

pub returns-then-not-forgets : goal.returns-then-not-forgets
returns-then-not-forgets g c =
    let of = c.args.dialogue.now in
    let keeps = sym c.forgets.ensures ∙ c.if-not-forgets.true in
    let none = sym (no_states of.folds of.states.items keeps) in
    record {
      told = λ states. tt;
      form = sym keeps;
      states = subst (λ names. All (IsSavedState (g.W.World.state c.args.world.now).known) (map string_bytes names)) none (All-nil _);
      fit = λ states. subst (λ names. AllFit states (Some []) (map string_bytes names)) none tt;
      refused = λ states. tt;
      between = tt;
      asked = subst (λ names. IsAsked (g.W.World.state c.args.world.now) (g.W.World.state c.args.world.now) (all_read (map string_bytes names)))
          none (asked_none (g.W.World.state c.args.world.now));
    }

pub returns-in_err-folded : goal.returns-in_err-folded
returns-in_err-folded g c =
    let p = err_from_is_err_and c.from_residual.result c.from_residual.ensures.1 in
    let is = rw c.deref.ensures.value at c.in_err-folded.ensures in
    rw (p.1, p.2) (record {
      told = λ states. tt;
      form = tt;
      states = tt;
      fit = λ states. tt;
      refused = is.refused;
      between = is.between;
      asked = is.asked;
    })

pub returns : goal.returns
returns g c =
    let is = rw c.deref.ensures.value at c.in_ok-folded.ensures in
    record {
      told = is.told;
      form = sym c.if-not-forgets.false ∙ c.forgets.ensures;
      states = is.states;
      fit = is.fit;
      refused = λ states. tt;
      between = tt;
      asked = is.asked;
    }
