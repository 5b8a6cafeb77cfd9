-- Tests of keys decide which keys a set has, and tests of facts that hold together are equal.
use Rattle.std.proofs.Common.{◌≡◌, ℕ, ◌==◌, ◌&&◌, Bool, true, false, not, List, [], ◌∷◌, refl, sym, inl, inr, ◌⊎◌}
use Rattle.std.specs.Prelude.{Contains, ◌↔◌, ◌||◌}
use Rattle.std.specs.Bool.{Decides}
use Rattle.std.specs.List.{list_any}
use Rattle.std.proofs.lemmas.Bool.{cases_Bool, both_ways, false≢true, eq-eqb, eqb-true}
use Rattle.std.proofs.lemmas.Bool.Decides.{Decides-eqb, Decides-and, Decides-or, Decides-like, Decides-ltb, same_from_decides}
use Rattle.htl_event.proofs.Members.{Contains-there, Contains-cases, Contains-nil}
use Rattle.htl_taken.specs.Numbers.{Numbers, numbers_at, has_number, has_key}
use Rattle.htl_taken.specs.NumberSets.{Has}
use Rattle.htl_taken.proofs.Members.{Contains-head}

list_has : (n : ℕ) (ns : List ℕ) → list_any (λ m. m == n) ns ≡ true → Contains ns n
list_has n [] t = absurd (false≢true t)
list_has n (m ∷ ns) t =
    elim (cases_Bool (m == n)) [
      | inl e ↦ Contains-head m ns n (eqb-true m n e)
      | inr f ↦ Contains-there m ns n (list_has n ns (rw f at t))
    ]

has_list : (n : ℕ) (ns : List ℕ) → Contains ns n → list_any (λ m. m == n) ns ≡ true
has_list n [] h = absurd (Contains-nil n h)
has_list n (m ∷ ns) h =
    elim (cases_Bool (m == n)) [
      | inl e ↦ rw e refl
      | inr f ↦ rw f (elim (Contains-cases m ns n h) [
        | inl is ↦ absurd (both_ways (m == n) f (eq-eqb m n is))
        | inr there ↦ has_list n ns there
      ])
    ]

-- the test of a number passes exactly where it is taken
pub has_number-decides : (q : Numbers) (n : ℕ) → Decides (has_number q n) (Has q n)
has_number-decides q n = Decides-or _ _ (Decides-ltb n q.front) (list_has n q.loose, has_list n q.loose)

-- the test of a key passes exactly where its processor has its number
pub has_key-decides : (taken : List Numbers) (p n : ℕ) → Decides (has_key taken p n) (Has (numbers_at taken p) n)
has_key-decides taken p n = has_number-decides (numbers_at taken p) n

-- tests of facts that hold together are equal
pub same_tests : {P Q : Type 0} (a b : Bool) → Decides a P → Decides b Q → P ↔ Q → a ≡ b
same_tests a b da db both = same_from_decides a b (Decides-like a both.0 both.1 da) db

-- the test of a key fails where its processor doesn't have its number
pub absent_key : (taken : List Numbers) (p n : ℕ) → (Has (numbers_at taken p) n → ⊥) → has_key taken p n ≡ false
absent_key taken p n absent =
    elim (cases_Bool (has_key taken p n)) [ inl t ↦ absurd (absent ((has_key-decides taken p n).0 t)) | inr f ↦ f ]

-- where one number more of one processor is taken, just one key more passes
pub key_inserted : (old new : List Numbers) (p n q m : ℕ) → Has (numbers_at new q) m ↔ (Has (numbers_at old q) m ⊎ ((q ≡ p) × (m ≡ n)))
    → has_key new q m ≡ (has_key old q m || (q == p && m == n))
key_inserted old new p n q m both =
    same_tests _ _ (has_key-decides new q m)
    (Decides-or _ _ (has_key-decides old q m) (Decides-and _ _ (Decides-eqb q p) (Decides-eqb m n))) both

-- where a processor has the numbers of both sets, the keys of both pass
pub key_united : (a b c : List Numbers) (p n : ℕ) → Has (numbers_at c p) n ↔ (Has (numbers_at a p) n ⊎ Has (numbers_at b p) n)
    → has_key c p n ≡ (has_key a p n || has_key b p n)
key_united a b c p n both =
    same_tests _ _ (has_key-decides c p n) (Decides-or _ _ (has_key-decides a p n) (has_key-decides b p n)) both

-- where a processor has the same numbers, the same keys pass
pub key_kept : (a b : List Numbers) (p n : ℕ) → Has (numbers_at a p) n ↔ Has (numbers_at b p) n → has_key a p n ≡ has_key b p n
key_kept a b p n both = same_tests _ _ (has_key-decides a p n) (has_key-decides b p n) both

-- one set has the keys of another, as facts and as tests
abbrev pub KeysWithin : List Numbers → List Numbers → Type 0
KeysWithin a b = (p n : ℕ) → has_key a p n ≡ true → has_key b p n ≡ true

-- where a set has all numbers of another, the other's keys pass there
pub keys_within : (a b : List Numbers) → ((p n : ℕ) → Has (numbers_at a p) n → Has (numbers_at b p) n) → KeysWithin a b
keys_within a b within p n t = (has_key-decides b p n).1 (within p n ((has_key-decides a p n).0 t))

-- where a set passes all keys of another, it has all of the other's numbers
pub within_keys : (a b : List Numbers) → KeysWithin a b → (p n : ℕ) → Has (numbers_at a p) n → Has (numbers_at b p) n
within_keys a b within p n h = (has_key-decides b p n).0 (within p n ((has_key-decides a p n).1 h))

-- one test is false exactly where the other is true
pub fresh_not : (fresh known : Bool) → (fresh ≡ false → known ≡ true) → (known ≡ true → fresh ≡ false) → fresh ≡ not known
fresh_not true true f g = absurd (false≢true (sym (g refl)))
fresh_not true false f g = refl
fresh_not false true f g = refl
fresh_not false false f g = absurd (false≢true (f refl))
