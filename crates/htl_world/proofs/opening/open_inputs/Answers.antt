-- Memory is refused once standard input was asked for; and the inputs of names are their files.
use Rattle.std.proofs.Common.{◌≡◌, ◌∷◌, ◌∙◌, [], ap, false, inl, length, map, refl, rules, sym}
use Rattle.std.specs.Prelude.{◌==◌}
use Rattle.std.proofs.lemmas.List.{nil_from_length}
use Rattle.std.proofs.lemmas.Result.{err_from_is_err_and}
use Rattle.htl_device.specs.States.{fresh}
use Rattle.htl_world.specs.Worlds.{IsAsked, for_standard}
use Rattle.htl_world.proofs.Names.{inputs_named, opened_named}
use Rattle.htl_world.proofs.opening.open_inputs.Goals as goal

pub returns-in_err-push : goal.returns-in_err-push
returns-in_err-push g c =
    let p = err_from_is_err_and c.from_residual.result c.from_residual.ensures.1 in
    let none : c.args.names.now ≡ [] = nil_from_length c.args.names.now (search rules) in
    let asked : IsAsked (g.W.World.state c.args.world.now) (g.W.World.state c.standard_input.new.self) (for_standard ∷ []) = search rules in
    rw (p.1, p.2, none) (record {
      ready = tt;
      sources = tt;
      there = tt;
      none = search rules;
      refused = inl refl;
      asked = (for_standard ∷ [], asked, (1, inl (refl, refl)));
    })

pub returns-in_err-inputs : goal.returns-in_err-inputs
returns-in_err-inputs g c =
    let p = err_from_is_err_and c.from_residual-in_err-inputs.result c.from_residual-in_err-inputs.ensures.1 in
    let some : (length c.args.names.now == 0) ≡ false = sym c.is_empty.ensures ∙ c.if-is_empty.false in
    let is = c.in_err-inputs.ensures in
    rw (p.1, p.2) (record {
      ready = tt;
      sources = tt;
      there = tt;
      none = search rules;
      refused = is.refused;
      asked = rw (opened_named c.args.names.now some) is.asked;
    })

pub returns : goal.returns
returns g c =
    let known = (g.W.World.state c.args.world.now).known in
    let some : (length c.args.names.now == 0) ≡ false = sym c.is_empty.ensures ∙ c.if-is_empty.false in
    let is = c.in_ok-inputs.ensures in
    record {
      ready = is.ready;
      sources = is.sources ∙ ap (λ l. map fresh l) (sym (inputs_named known.holds known.standard c.args.names.now some));
      there = is.there;
      none = tt;
      refused = tt;
      asked = rw (opened_named c.args.names.now some) is.asked;
    }
