-- The segments of the case stand behind the decoded ones, as those of one more input.
use Rattle.std.proofs.Common.{◌≡◌, ◌++◌, ◌∷◌, ◌∙◌, ℕ, [], inr, List, None, Some, refl, subst, sym}
use Rattle.std.specs.Prelude.{slice_get}
use Rattle.std.proofs.lemmas.Result.{err_from_is_err_and}
use Rattle.htl_segment.specs.Content.{Content}
use Rattle.htl_tables.proofs.FirstNoted.{get_last}
use Rattle.htl_inputs.specs.CutInputs.{decoding}
use Rattle.htl_inputs.specs.Inputs.{DecodeAll, Decodes}
use Rattle.htl_inputs.proofs.InputLaws.{decode_more}
use Rattle.htl_main.specs.Causes.{IsCauseAfter}
use Rattle.htl_main.specs.Loading.{AreLoaded}
use Rattle.htl_main.proofs.AddingLaws.{behind, spans_too}
use Rattle.htl_main.proofs.AfterDecoding.{some_job}
use Rattle.htl_main.proofs.CaseRefused.{none_after}
use Rattle.htl_main.proofs.loading.adding.load_with.Goals as goal

pub returns-in_err-whole-clause-err : goal.returns-in_err-whole-clause-err
returns-in_err-whole-clause-err c =
    let p = err_from_is_err_and c.from_residual.result c.from_residual.ensures.1 in
    let segments = c.args.decoded.segments.items ++ c.args.before.now.segments in
    let is = rw c.deref.ensures.value at c.in-Some.ensures in
    rw (p.1, p.2.0) (inr (λ job whole as_of. rw (← c.deref-in-Some.ensures.value) (c.in_err-whole.ensures.err segments job is whole as_of)))

pub returns-in_err-whole-clause-between : goal.returns-in_err-whole-clause-between
returns-in_err-whole-clause-between c =
    let p = err_from_is_err_and c.from_residual.result c.from_residual.ensures.1 in
    let segments = c.args.decoded.segments.items ++ c.args.before.now.segments in
    let is = rw c.deref.ensures.value at c.in-Some.ensures in
    let job = record some_job { setting = record (some_job.setting) { complete = c.args.complete }; until = None } in
    rw (p.1, p.2.0, p.2.1) (λ form inputs earlier long decoded are before. none_after form (inputs ++ earlier ∷ [])
    (decoding segments c.deref-in-Some.result.now) c.in-Some.case None job c.in_err-whole.field-0.0 is
    (c.in_err-whole.ensures.err segments job is refl refl))

pub returns-in-Some-clause-ok : goal.returns-in-Some-clause-ok
returns-in-Some-clause-ok c =
    let is = rw c.deref.ensures.value at c.in-Some.ensures in
    rw (← c.deref-in-Some.ensures.value) (c.in_ok-whole.ensures.ok (c.args.decoded.segments.items ++ c.args.before.now.segments) is)

pub returns-in-Some-clause-cut : goal.returns-in-Some-clause-cut
returns-in-Some-clause-cut c = λ hex inputs are. c.in_ok-whole.ensures.cut hex inputs (rw c.deref-in-Some.ensures.value are)

pub returns-in_err-loaded-clause-err : goal.returns-in_err-loaded-clause-err
returns-in_err-loaded-clause-err c =
    let p = err_from_is_err_and c.from_residual-in_err-loaded.result c.from_residual-in_err-loaded.ensures.1 in
    let all = behind c.add_segments.new.self.segments.items c.args.decoded.segments.items c.in_ok-earlier.earlier.items c.segments-own.result.now
    c.args.before.now.segments c.in_ok-add_segments.ensures.segments c.in_ok-earlier.ensures c.segments-own.ensures.value in
    rw (p.1, p.2) (inr (λ job whole as_of. subst (λ (ss : List Content). IsCauseAfter
    (decoding ss c.args.decoded.cuts.items) None job c.in_err-loaded.field-0.0.fault) all
    (rw (← c.add_segments.ensures.kept) (c.in_err-loaded.ensures.err job whole as_of))))

pub returns-in_err-loaded-clause-between : goal.returns-in_err-loaded-clause-between
returns-in_err-loaded-clause-between c =
    let p = err_from_is_err_and c.from_residual-in_err-loaded.result c.from_residual-in_err-loaded.ensures.1 in
    let all = behind c.add_segments.new.self.segments.items c.args.decoded.segments.items c.in_ok-earlier.earlier.items c.segments-own.result.now
    c.args.before.now.segments c.in_ok-add_segments.ensures.segments c.in_ok-earlier.ensures c.segments-own.ensures.value in
    let same = c.in_ok-earlier.ensures ∙ c.segments-own.ensures.value in
    rw (p.1, p.2) (λ form inputs earlier long decoded are before. c.in_err-loaded.ensures.between form (inputs ++ earlier ∷ [])
    (subst (DecodeAll form (inputs ++ earlier ∷ [])) (sym all)
    (decode_more form inputs earlier c.args.decoded.segments.items c.args.before.now.segments decoded before))
    (c.in_ok-add_segments.ensures.spans form (inputs ++ earlier ∷ []) earlier
    (subst (λ (n : ℕ). slice_get (inputs ++ earlier ∷ []) n ≡ Some earlier) long (get_last inputs earlier))
    (subst (Decodes form earlier) (sym same) before)
    (spans_too form inputs earlier c.args.decoded.segments.items c.args.decoded.spans.items are)))

pub returns-clause-ok : goal.returns-clause-ok
returns-clause-ok c =
    let all = behind c.add_segments.new.self.segments.items c.args.decoded.segments.items c.in_ok-earlier.earlier.items c.segments-own.result.now
    c.args.before.now.segments c.in_ok-add_segments.ensures.segments c.in_ok-earlier.ensures c.segments-own.ensures.value in
    let loaded = c.in_ok-loaded.loaded in
    subst (λ (ss : List Content). AreLoaded (decoding ss c.args.decoded.cuts.items) None c.args.complete None loaded.case loaded.symbols) all
    (rw (← c.add_segments.ensures.kept) (c.in_ok-loaded.ensures.ok))

pub returns-clause-cut : goal.returns-clause-cut
returns-clause-cut c = λ hex inputs are. c.in_ok-loaded.ensures.cut hex inputs (rw (c.add_segments.ensures.kept) are)
