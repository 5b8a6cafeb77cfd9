-- A key above the last row's goes to the end, and one that is the last row's is there.
use Rattle.std.proofs.Common.{◌≡◌, ◌<◌, ℕ, ◌-◌, length, get_or, List, sym, ◌∙◌, ap, arith, inl, inr}
use Rattle.std.proofs.lemmas.Bool.{cases_lt}
use Rattle.std.specs.Cmp.{IsTotalOrder}
use Rattle.std.specs.declared.cmp.Ordering.{Ordering}
use Rattle.std.specs.declared.cmp.Ordering.TheVariants.{Less, Equal}
use Rattle.htl_sorted.specs.Entries.{IsSorted, IsGap, entries}
use Rattle.htl_sorted.proofs.Places.{place, gap, rising}
use Rattle.htl_sorted.proofs.searching.search.Goals as goal

-- all rows come before a key above the last row's
gap_at_end : {Row K X : Type 0} (key : Row → K) (value : Row → X) {R : K → K → Ordering} → IsTotalOrder R → (k : K) (rows : List Row)
    → IsSorted R (entries key value rows)
    → 0 < length rows → ((d : Row) → R (key (get_or rows (length rows - 1) d)) k ≡ Less) → IsGap R (entries key value rows) k (length rows)
gap_at_end {Row} {K} {X} key value {R} o k rows sorted some last =
    gap key value o k rows (length rows) (omega arith) below (λ j d le lt. absurd (omega (arith, le, lt))) where
      below : (j : ℕ) (d : Row) → j < length rows → R (key (get_or rows j d)) k ≡ Less
      below j d lt =
          elim (cases_lt j (length rows - 1)) [
            | inl before ↦ o.trans (key (get_or rows j d)) (key (get_or rows (length rows - 1) d)) k
                (rising key value o rows sorted j (length rows - 1) d before (omega (arith, some))) (last d)
            | inr at ↦ let e : j ≡ length rows - 1 = omega (arith, at, lt) in rw e (last d)
          ]

pub returns-in-Less-clause-absent : goal.returns-in-Less-clause-absent
returns-in-Less-clause-absent g c =
    let item = c.in-Some.ensures.item in
    let rows = c.args.rows.now in
    let cmp : g.L.Key.Ord.cmp (g.L.Keyed.key_of c.in-Some.last.now) c.args.key ≡ Less =
    ap (λ k. g.L.Key.Ord.cmp k c.args.key) (sym c.key.ensures) ∙ sym c.cmp.ensures ∙ c.in-Less.is in
    gap_at_end g.L.Keyed.key_of g.L.Keyed.value_of g.met.L.Key.Ord.total c.args.key rows c.requires item.3.0
    (λ d. ap (λ r. g.L.Key.Ord.cmp (g.L.Keyed.key_of r) c.args.key) (sym (item.3.1 d)) ∙ cmp)

pub returns-in-Equal-clause-found : goal.returns-in-Equal-clause-found
returns-in-Equal-clause-found g c =
    let item = c.in-Some.ensures.item in
    let rows = c.args.rows.now in
    let cmp : g.L.Key.Ord.cmp (g.L.Keyed.key_of c.in-Some.last.now) c.args.key ≡ Equal =
    ap (λ k. g.L.Key.Ord.cmp k c.args.key) (sym c.key.ensures) ∙ sym c.cmp.ensures ∙ c.in-Equal.is in
    place g.L.Keyed.key_of g.L.Keyed.value_of g.met.L.Key.Ord.total c.args.key rows c.requires (length rows - 1) (omega (arith, item.3.0))
    (λ d. ap (λ r. g.L.Key.Ord.cmp (g.L.Keyed.key_of r) c.args.key) (sym (item.3.1 d)) ∙ cmp)
