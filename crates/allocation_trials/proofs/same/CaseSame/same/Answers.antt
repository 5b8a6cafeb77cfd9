-- Two cases that have the same segments are of one trace.
use Rattle.std.proofs.Common.{rules, ◌≡◌, ◌∙◌, [], sym}
use Rattle.std.proofs.lemmas.List.{ext_get_or}
use Rattle.htl_segment.specs.Content.{Content, content}
use Rattle.htl_segment.specs.declared.version.Version.TheVariants.{V1}
use Rattle.allocation_trials.proofs.same.CaseSame.same.Goals as goal

pub returns : goal.returns
returns c = λ same.
    let lists = c.are_same.ensures same in
    let any : Content = content V1 0 0 0 0 [] in
    let listed : c.segments.result.now ≡ c.segments-2.result.now = ext_get_or any _ _ lists.long (λ place below. lists.each place any below) in
    let segments : c.args.self.now.segments ≡ c.args.other.now.segments =
    sym c.segments.ensures.value ∙ listed ∙ c.segments-2.ensures.value in
    search rules
