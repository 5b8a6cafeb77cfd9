-- Tables with the same sequence for each process have the same rows.
use Rattle.std.proofs.Common.{◌≡◌, ℕ, sym, ap, ◌∙◌, Decides, List, ◌&&◌, eqb}
use Rattle.std.proofs.lemmas.Slice.Eq.{slice_eq-Decides}
use Rattle.std.proofs.lemmas.Bool.Decides.{Decides-and, Decides-like, Decides-eqb}
use Rattle.htl_event.proofs.Members.{Lists-same}
use Rattle.htl_tables.specs.Greatest.{sequence_at, HasSequence, HasLowerProcess}
use Rattle.htl_tables.proofs.Sequences.{HasLowerProcess-strict}
use Rattle.htl_tables.proofs.greatest.Greatest.same.Goals as goal

rows_decide : (a b : ℕ × ℕ) → Decides (eqb a.0 b.0 && eqb a.1 b.1) (a ≡ b)
rows_decide a b =
    Decides-like _ (λ p. ap (λ (n : ℕ). (n, a.1)) p.0 ∙ ap (λ (n : ℕ). (b.0, n)) p.1)
    (λ e. (ap (λ (r : ℕ × ℕ). r.0) e, ap (λ (r : ℕ × ℕ). r.1) e))
    (Decides-and _ _ (Decides-eqb a.0 b.0) (Decides-eqb a.1 b.1))

pub returns-clause-sequences : goal.returns-clause-sequences
returns-clause-sequences g c =
    let rows : Decides c.eq.result (c.rows.result.now ≡ c.rows-2.result.now) = slice_eq-Decides rows_decide _ _ c.eq.result c.eq.ensures in
    let left = c.rows.ensures.value in
    let right = c.rows-2.ensures.value in (
      (λ t process. ap (λ (l : List (ℕ × ℕ)). sequence_at l process) (sym left ∙ rows.0 t ∙ right)),
      (λ same. rows.1 (Lists-same HasLowerProcess HasLowerProcess-strict (HasSequence c.args.self.now)
          (HasSequence c.args.other.now) c.rows.result.now c.rows-2.result.now
          (λ row. (
            (λ kept. record { positive = kept.positive; is = sym (same row.0) ∙ kept.is }),
            (λ kept. record { positive = kept.positive; is = same row.0 ∙ kept.is }),
          )) c.rows.ensures.listed c.rows-2.ensures.listed)),
    )

pub returns-clause-equal : goal.returns-clause-equal
returns-clause-equal g c =
    let rows : Decides c.eq.result (c.rows.result.now ≡ c.rows-2.result.now) = slice_eq-Decides rows_decide _ _ c.eq.result c.eq.ensures in
    let left = c.rows.ensures.value in
    let right = c.rows-2.ensures.value in
    (λ t. sym left ∙ rows.0 t ∙ right, λ e. rows.1 (left ∙ e ∙ sym right))
