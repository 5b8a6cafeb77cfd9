-- The state of segments is merged into what was folded, or there is a reason why not.
use Rattle.std.proofs.Common.{◌≡◌, None, refl}
use Rattle.std.proofs.lemmas.Result.{err_from_is_err_and}
use Rattle.htl_main.specs.Folding.{AreFolded}
use Rattle.htl_main.proofs.MergingLaws.{ends_in_memory, ends_merged, ends_short, ends_unmerged, merged_with_gap, stays_at_no_state, stays_unmerged}
use Rattle.htl_main.proofs.folding.states.merge_state.Goals as goal

pub returns-in_err-other : goal.returns-in_err-other
returns-in_err-other c =
    let p = err_from_is_err_and c.from_residual.result c.from_residual.ensures.1 in
    rw (p.1, p.2) (record {
      outcome = λ taken told was is. ends_in_memory c.args.setting.complete taken told
          (AreFolded c.args.folded.now.analyst) (c.args.folded.now.analyst ≡ c.args.folded.now.analyst) c.in_err-other.field-0.0
          (c.in_err-other.ensures.memory told is);
      loaded = tt;
      no_state = stays_at_no_state c.args.bytes.now c.args.folded.now c.in_err-other.field-0.0 c.in_err-other.ensures.err;
      symbols = refl;
    })

pub returns-in_err-absorb : goal.returns-in_err-absorb
returns-in_err-absorb c =
    let p = err_from_is_err_and c.from_residual-in_err-absorb.result c.from_residual-in_err-absorb.ensures.1 in
    let before = c.args.folded.now in
    let after = c.absorb.new.folded in
    let fault = c.in_err-absorb.field-0.0 in
    let other = c.in_ok-other.other in
    rw (p.1, p.2) (record {
      outcome = λ taken told was is. ends_unmerged c.args.setting.complete taken told before.analyst after.analyst other was
          (c.in_ok-other.ensures.told told is) (AreFolded after.analyst) fault c.in_err-absorb.ensures.err;
      loaded = tt;
      no_state = stays_unmerged c.args.bytes.now before after other fault c.absorb.ensures.symbols c.in_err-absorb.ensures.err;
      symbols = c.absorb.ensures.symbols;
    })

pub returns-in_err-coverage : goal.returns-in_err-coverage
returns-in_err-coverage c =
    let p = err_from_is_err_and c.from_residual-in_err-coverage.result c.from_residual-in_err-coverage.ensures.1 in
    let before = c.args.folded.now in
    let after = c.absorb.new.folded in
    let fault = c.in_err-coverage.field-0.0 in
    let other = c.in_ok-other.other in
    rw (p.1, p.2) (record {
      outcome = λ taken told was is.
          (let of_b = c.in_ok-other.ensures.told told is in
          ends_short c.args.setting.complete taken told before.analyst after.analyst other was of_b
          (c.in_ok-absorb.ensures.ok.both taken told was of_b) fault c.in_err-coverage.ensures.err);
      loaded = tt;
      no_state = merged_with_gap c.args.bytes.now before after c.args.setting.complete fault c.in_err-coverage.ensures.err;
      symbols = c.absorb.ensures.symbols;
    })

pub returns : goal.returns
returns c =
    let before = c.args.folded.now in
    let after = c.absorb.new.folded in
    let other = c.in_ok-other.other in
    record {
      outcome = λ taken told was is.
          (let of_b = c.in_ok-other.ensures.told told is in
          ends_merged c.args.setting.complete taken told before.analyst after.analyst other was of_b
          (c.in_ok-absorb.ensures.ok.both taken told was of_b)
          (record {
            segments = c.taken-segments.result;
            new = c.saturating_sub.result;
            coverage = c.in_ok-coverage.coverage;
            cut = None;
          })
          refl c.taken-segments.ensures
          (rw (c.number.ensures, c.number-before.ensures) at c.saturating_sub.ensures) c.in_ok-coverage.ensures.ok);
      loaded = (other, c.in_ok-other.ensures.loaded);
      no_state = tt;
      symbols = c.absorb.ensures.symbols;
    }
