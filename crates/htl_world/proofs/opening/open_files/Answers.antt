-- The world is asked for one name more, which is opened, or can't be.
use Rattle.std.proofs.Common.{◌≡◌, ◌+◌, ◌++◌, ◌∷◌, ◌∙◌, [], All, List, None, Option, Some, ap, false, inl, inr, map, refl, rules, subst, sym, take, ℕ, Bool}
use Rattle.std.specs.Prelude.{slice_get, string_bytes}
use Rattle.std.proofs.lemmas.List.{map-append}
use Rattle.std.proofs.lemmas.List.Elements.{All-push}
use Rattle.std.proofs.lemmas.Result.{err_from_is_err_and}
use Rattle.htl_device.specs.States.{AreOpen, IsOpen, fresh}
use Rattle.htl_inputs.specs.declared.fault.RunFault.{RunFault}
use Rattle.htl_world.specs.Readings.{IsUnopenedFor}
use Rattle.htl_world.specs.Rounds.{unopened}
use Rattle.htl_world.specs.Worlds.{Ask, IsAsked, of_each, to_open}
use Rattle.htl_world.specs.declared.world.OpenFault.{OpenFault}
use Rattle.htl_world.specs.declared.world.OpenFault.TheVariants.{NoMemory, Refused}
use Rattle.htl_world.proofs.Asked.{asked_more, asked_none}
use Rattle.htl_world.proofs.Names.{all_taken, at_place, name_at, one_more}
use Rattle.htl_world.proofs.opening.open_files.Goals as goal

-- the world gives a name
abbrev gives : List ℕ → Ask
gives name = to_open name None

-- what is reported of a name that could not be opened, where each before it could be
reported : (holds : List (Option (List ℕ))) (absences : List Bool) (place : ℕ) (why : OpenFault) (fault : RunFault) → fault ≡ unopened place why
    → (why ≡ Refused → slice_get holds place ≡ Some None) → All (λ absent. absent ≡ false) (take place absences)
    → IsUnopenedFor holds absences fault
reported holds absences place NoMemory fault is here before = inl is
reported holds absences place Refused fault is here before = inr (place, is, record { here = here refl; before = before })

pub loop-place-init : goal.loop-place-init
loop-place-init g c = record {
  ready = search rules;
  sources = search rules;
  there = search rules;
  asked = asked_none (g.W.World.state c.args.world.now);
}

pub returns-in_err-push-in-Ok : goal.returns-in_err-push-in-Ok
returns-in_err-push-in-Ok g c =
    let p = err_from_is_err_and c.from_residual.result c.from_residual.ensures.1 in
    let names = c.args.names.now in
    let place = c.loop-place.place in
    let name = c.deref.result.now in
    let same : name ≡ string_bytes c.index-names-place.result = search rules in
    let more = one_more gives names place c.index-names-place.result name c.loop-place-test.true c.index-names-place.is same in
    let asked : IsAsked (g.W.World.state c.loop-place.world) (g.W.World.state c.open.new.self) (gives name ∷ []) = search rules in
    rw (p.1, p.2) (record {
      ready = tt;
      sources = tt;
      there = tt;
      refused = inl refl;
      asked = (
        take place (of_each gives names) ++ gives name ∷ [],
        asked_more c.loop-place.invariant.asked asked,
        (place + 1, inl (sym more, refl)),
      );
    })

pub returns-in-Err : goal.returns-in-Err
returns-in-Err g c =
    let inv = c.loop-place.invariant in
    let known = (g.W.World.state c.args.world.now).known in
    let names = c.args.names.now in
    let place = c.loop-place.place in
    let name = c.deref.result.now in
    let why = c.in-Err.why in
    let same : name ≡ string_bytes c.index-names-place.result = search rules in
    let none : why ≡ Refused → (g.W.World.state c.loop-place.world).known.holds name ≡ None = λ is. search rules in
    let here = at_place known.holds names place c.index-names-place.result name c.loop-place-test.true c.index-names-place.is same in
    let asked : IsAsked (g.W.World.state c.loop-place.world) (g.W.World.state c.open.new.self) (to_open name (Some why) ∷ []) = search rules in
    record {
      ready = tt;
      sources = tt;
      there = tt;
      refused = reported (of_each known.holds names) (of_each known.is_absent names) place why c.unopened.result c.unopened.ensures
          (λ is. here ∙ ap Some (rw inv.asked.known at none is)) inv.there;
      asked = (
        take place (of_each gives names) ++ to_open name (Some why) ∷ [],
        asked_more inv.asked asked,
        (
          place,
          inr (
            name,
            why,
            name_at names place c.index-names-place.result name c.loop-place-test.true c.index-names-place.is same,
            refl,
            c.unopened.ensures,
          ),
        ),
      );
    }

pub loop-place-preserved : goal.loop-place-preserved
loop-place-preserved g c =
    let inv = c.loop-place.invariant in
    let names = c.args.names.now in
    let place = c.loop-place.place in
    let name = c.deref.result.now in
    let known = (g.W.World.state c.args.world.now).known in
    let before = (g.W.World.state c.loop-place.world).known in
    let same : name ≡ string_bytes c.index-names-place.result = search rules in
    let holds = one_more known.holds names place c.index-names-place.result name c.loop-place-test.true c.index-names-place.is same in
    let absent = one_more known.is_absent names place c.index-names-place.result name c.loop-place-test.true c.index-names-place.is same in
    let more = one_more gives names place c.index-names-place.result name c.loop-place-test.true c.index-names-place.is same in
    let asked : IsAsked (g.W.World.state c.loop-place.world) (g.W.World.state c.open.new.self) (gives name ∷ []) = search rules in
    let state = g.W.Input.Source.state in
    let old = map state c.loop-place.inputs.items in
    let input = state c.in-Ok.input in
    let given : input ≡ fresh (before.holds name) = search rules in
    let is : input ≡ fresh (known.holds name) = rw inv.asked.known at given in
    let opens_it : before.is_absent name ≡ false = search rules in
    let there : known.is_absent name ≡ false = rw inv.asked.known at opens_it in
    let ready : IsOpen input = rw is (record { fine = refl; inside = refl }) in
    let pushed : c.push.new.self.items ≡ c.loop-place.inputs.items ++ c.in-Ok.input ∷ [] = search rules in
    let states : map state c.push.new.self.items ≡ old ++ input ∷ [] =
    ap (map state) pushed ∙ map-append state c.loop-place.inputs.items (c.in-Ok.input ∷ []) in
    record {
      ready = subst (λ l. AreOpen l) (sym states) (All-push (λ source. IsOpen source) old input inv.ready ready);
      sources = states ∙ ap (λ l. l ++ input ∷ []) inv.sources ∙ ap (λ x. map fresh (take place (of_each known.holds names)) ++ x ∷ []) is
          ∙ sym (map-append fresh (take place (of_each known.holds names)) (known.holds name ∷ [])) ∙ ap (λ l. map fresh l) (sym holds);
      there = subst (λ l. All (λ absent. absent ≡ false) l) (sym absent)
          (All-push (λ absent. absent ≡ false) (take place (of_each known.is_absent names)) (known.is_absent name) inv.there there);
      asked = rw more (asked_more inv.asked asked);
    }

pub returns : goal.returns
returns g c =
    let inv = c.loop-place.invariant in
    let known = (g.W.World.state c.args.world.now).known in
    let names = c.args.names.now in
    let under = c.loop-place-test.false in
    let within = c.loop-place.auto.place-end in
    record {
      ready = inv.ready;
      sources = inv.sources ∙ ap (λ l. map fresh l) (all_taken known.holds names c.loop-place.place under within);
      there = subst (λ l. All (λ absent. absent ≡ false) l) (all_taken known.is_absent names c.loop-place.place under within) inv.there;
      refused = tt;
      asked = rw (all_taken gives names c.loop-place.place under within) at inv.asked;
    }
