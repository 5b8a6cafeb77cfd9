-- The parts of a merge are put together in place, processor by processor.
use Rattle.std.proofs.Common.{◌≡◌, ℕ, ◌+◌, ◌<◌, ◌≤◌, List, [], ◌∷◌, ◌++◌, length, length-append, length-set, slice_set}
use Rattle.std.proofs.Common.{refl, sym, ap, ◌∙◌, subst, arith, inl, inr}
use Rattle.std.specs.Prelude.{nat_lt, if◌then◌else◌}
use Rattle.std.proofs.lemmas.Bool.{cases_lt}
use Rattle.std.proofs.lemmas.List.{get_or_append_left, get_or_push}
use Rattle.htl_taken.specs.Numbers.{Numbers, front_at}
use Rattle.htl_analyst.specs.States.{Part, part, no_part, part_at, held_at, folded_at}
use Rattle.htl_analyst.proofs.Updates.{part-set_same, part-set_other}

-- the part that comes of three
abbrev pub united_part : List Numbers → List Numbers → List Part → List Part → List Part → ℕ → Part
united_part own_taken their_taken own theirs incoming p =
    part (held_at incoming p) (if nat_lt (front_at own_taken p) (front_at their_taken p) then folded_at theirs p else folded_at own p)

-- the first n parts are put together, and the others are as they were
pub record AreUnitedTo (own_taken their_taken : List Numbers) (own theirs incoming own_now theirs_now incoming_now : List Part)
    (n : ℕ) : Type 0 where
  pub len : length incoming_now ≡ length incoming
  pub own_len : length own_now ≡ length own
  pub theirs_len : length theirs_now ≡ length theirs
  pub done : (p : ℕ) → p < n → part_at incoming_now p ≡ united_part own_taken their_taken own theirs incoming p
  pub own_left : (p : ℕ) → n ≤ p → part_at own_now p ≡ part_at own p
  pub theirs_left : (p : ℕ) → n ≤ p → part_at theirs_now p ≡ part_at theirs p
  pub incoming_left : (p : ℕ) → n ≤ p → part_at incoming_now p ≡ part_at incoming p

-- at the begin
pub AreUnitedTo-none : (ts us : List Numbers) (own theirs incoming : List Part)
    → AreUnitedTo ts us own theirs incoming own theirs incoming 0
AreUnitedTo-none ts us own theirs incoming = record {
  len = refl;
  own_len = refl;
  theirs_len = refl;
  done = λ p lt. absurd (omega arith);
  own_left = λ p le. refl;
  theirs_left = λ p le. refl;
  incoming_left = λ p le. refl;
}

later_left : (was now new : List Part) (n : ℕ) (k : Part) → new ≡ slice_set now n k → ((p : ℕ) → n ≤ p → part_at now p ≡ part_at was p)
    → (p : ℕ) → n + 1 ≤ p → part_at new p ≡ part_at was p
later_left was now new n k e left p le =
    ap (λ (ls : List Part). part_at ls p) e ∙ part-set_other now n p k (λ same. omega (arith, same, le)) ∙ left p (omega arith)

-- one part more
pub AreUnitedTo-more : (ts us : List Numbers) (own theirs incoming own_now theirs_now incoming_now own_new theirs_new incoming_new : List
    Part) (n : ℕ) (x y z : Part)
    → AreUnitedTo ts us own theirs incoming own_now theirs_now incoming_now n → n < length incoming_now
    → own_new ≡ slice_set own_now n x → theirs_new ≡ slice_set theirs_now n y → incoming_new ≡ slice_set incoming_now n z
    → z ≡ part (held_at incoming_now n) (if nat_lt (front_at ts n) (front_at us n) then folded_at theirs_now n else folded_at own_now n)
    → AreUnitedTo ts us own theirs incoming own_new theirs_new incoming_new (n + 1)
AreUnitedTo-more ts us own theirs incoming own_now theirs_now incoming_now own_new theirs_new incoming_new n x y z old lt ex ey ez made =
    record {
      len = ap length ez ∙ length-set incoming_now n z ∙ old.len;
      own_len = ap length ex ∙ length-set own_now n x ∙ old.own_len;
      theirs_len = ap length ey ∙ length-set theirs_now n y ∙ old.theirs_len;
      done = λ p below. elim (cases_lt p n) [
        | inl before ↦
            ap (λ (ls : List Part). part_at ls p) ez ∙ part-set_other incoming_now n p z (λ same. omega (arith, same, before))
            ∙ old.done p before
        | inr le ↦
            let e : p ≡ n = omega (arith, below, le) in
            let put : Part → Part → Part → Part =
            (λ k l m. part m.held (if nat_lt (front_at ts n) (front_at us n) then l.folded else k.folded)) in
            let here : part_at incoming_new n ≡ united_part ts us own theirs incoming n =
            ap (λ (ls : List Part). part_at ls n) ez ∙ part-set_same incoming_now n z lt ∙ made
            ∙ ap (λ (k : Part). put k (part_at theirs_now n) (part_at incoming_now n)) (old.own_left n (omega arith))
            ∙ ap (λ (k : Part). put (part_at own n) k (part_at incoming_now n)) (old.theirs_left n (omega arith))
            ∙ ap (λ (k : Part). put (part_at own n) (part_at theirs n) k) (old.incoming_left n (omega arith)) in
            subst (λ (m : ℕ). part_at incoming_new m ≡ united_part ts us own theirs incoming m) (sym e) here
      ];
      own_left = later_left own own_now own_new n x ex old.own_left;
      theirs_left = later_left theirs theirs_now theirs_new n y ey old.theirs_left;
      incoming_left = later_left incoming incoming_now incoming_new n z ez old.incoming_left;
    }

-- parts pushed one by one
pub parts_more : (P : ℕ → Part → Type 0) (ks new : List Part) (k : Part) (n : ℕ) → new ≡ ks ++ k ∷ [] → length ks ≡ n
    → ((p : ℕ) → p < n → P p (part_at ks p)) → P n k
    → (length new ≡ n + 1) × ((p : ℕ) → p < n + 1 → P p (part_at new p))
parts_more P ks new k n e len old here = (
  ap length e ∙ length-append ks (k ∷ []) ∙ ap (λ (m : ℕ). m + 1) len,
  λ p lt. elim (cases_lt p n) [
    | inl below ↦
        let same : part_at new p ≡ part_at ks p =
        ap (λ (ls : List Part). part_at ls p) e ∙ get_or_append_left ks (k ∷ []) no_part p (omega (arith, below, len)) in
        subst (P p) (sym same) (old p below)
    | inr le ↦
        let is : p ≡ n = omega (arith, lt, le) in
        let same : part_at new n ≡ k = ap (λ (ls : List Part). part_at ls n) e ∙ get_or_push ks k no_part n len in
        subst (λ (q : ℕ). P q (part_at new q)) (sym is) (subst (P n) (sym same) here)
  ],
)
