-- The run is folded, and the rest of the held segments stays.
use Rattle.std.proofs.Common.{◌≡◌, ◌++◌, ◌+◌, ◌*◌, List, take, drop, length, sym, ap, ◌∙◌, subst, arith}
use Rattle.htl_segment.specs.Content.{Content}
use Rattle.htl_segment.specs.Traces.{all_events}
use Rattle.htl_analyst.specs.States.{Folded, Part, part}
use Rattle.htl_analyst.specs.Right.{IsFolded, IsWithin}
use Rattle.htl_analyst.proofs.Folds.{IsWithin-above}
use Rattle.htl_analyst.proofs.part.Part.fold.Goals as goal

pub returns-clause-ok : goal.returns-clause-ok
returns-clause-ok g c =
    let run = c.args.run in
    let k = c.args.self.now in
    let new = c.fold.new.self in
    let few = c.requires.few in
    let held : c.self.inside.held.items ≡ k.held = ap (λ (x : Part). x.held) c.self.view_is in
    let folded : c.self.inside.folded ≡ k.folded = ap (λ (x : Part). x.folded) c.self.view_is in
    let read : c.deref.result.now ≡ k.held = c.deref.ensures.value ∙ held in
    record {
      folded = new;
      is = ap (λ (hs : List Content). part hs new) (c.drop_front.ensures ∙ ap (drop run) held);
      joins = λ events old.
          subst (λ (hs : List Content). IsFolded new (events ++ all_events (take run hs))) read
          (c.in_ok-fold.ensures.folded events (subst (λ (d : Folded). IsFolded d events) (sym folded) old));
      bounded = λ most old.
          let more = subst (λ (hs : List Content). IsWithin (most + length (all_events (take run hs))) new) read
          (c.in_ok-fold.ensures.bounded most (subst (IsWithin most) (sym folded) old)) in
          IsWithin-above (most + length (all_events (take run k.held))) (most + 4096 * run) new more (omega (arith, few));
    }
