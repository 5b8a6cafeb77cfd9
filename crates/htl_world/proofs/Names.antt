-- What is said of each name is said of the names, place by place.
use Rattle.std.proofs.Common.{◌≡◌, ◌+◌, ◌<◌, ◌≤◌, ◌++◌, ◌∷◌, ◌∙◌, [], ℕ, All, false, true, List, String, ap, arith, length, map, refl, sym, take}
use Rattle.std.specs.Prelude.{◌==◌, Some, get_or, slice_get, string_bytes}
use Rattle.std.proofs.lemmas.List.{get_or-map, length-map, take_more, take_all}
use Rattle.std.proofs.lemmas.Bool.{eqb-true}
use Rattle.std.proofs.lemmas.Option.{slice_get_read}
use Rattle.htl_world.specs.Rounds.{CanBeReadAgain, all_opened, inputs_opened}
use Rattle.htl_world.specs.Worlds.{Known, of_each, of_inputs}

-- there is as much as there are names
pub as_many : {X A : Type 0} (of : List ℕ → X) (names : List (String A)) → length (of_each of names) ≡ length names
as_many of names = length-map (map string_bytes names) of ∙ length-map names string_bytes

within : {X A : Type 0} (of : List ℕ → X) (names : List (String A)) (i : ℕ) → i < length names → i < length (of_each of names)
within of names i lt = let long = as_many of names in omega (arith, long, lt)

read : {X A : Type 0} (of : List ℕ → X) (names : List (String A)) (i : ℕ) (name : String A) (bytes : List ℕ)
    → i < length names → name ≡ get_or names i name → bytes ≡ string_bytes name → get_or (of_each of names) i (of bytes) ≡ of bytes
read of names i name bytes lt is same =
    let long = length-map names string_bytes in
    let far : i < length (map string_bytes names) = omega (arith, long, lt) in
    get_or-map of (map string_bytes names) i bytes (of bytes) far
    ∙ ap of (get_or-map string_bytes names i name bytes lt ∙ ap string_bytes (sym is) ∙ sym same)

-- what is said of the first names and the next one is said of one name more
pub one_more : {X A : Type 0} (of : List ℕ → X) (names : List (String A)) (i : ℕ) (name : String A) (bytes : List ℕ)
    → i < length names → name ≡ get_or names i name → bytes ≡ string_bytes name
    → take (i + 1) (of_each of names) ≡ take i (of_each of names) ++ of bytes ∷ []
one_more of names i name bytes lt is same =
    take_more (of_each of names) i (of bytes) (within of names i lt)
    ∙ ap (λ x. take i (of_each of names) ++ x ∷ []) (read of names i name bytes lt is same)

-- what is said of the name at a place stands at this place
pub at_place : {X A : Type 0} (of : List ℕ → X) (names : List (String A)) (i : ℕ) (name : String A) (bytes : List ℕ)
    → i < length names → name ≡ get_or names i name → bytes ≡ string_bytes name → slice_get (of_each of names) i ≡ Some (of bytes)
at_place of names i name bytes lt is same =
    slice_get_read (of_each of names) (length (of_each of names)) i (of bytes) refl (within of names i lt)
    (sym (read of names i name bytes lt is same))

-- the name at a place stands at this place
pub name_at : {A : Type 0} (names : List (String A)) (i : ℕ) (name : String A) (bytes : List ℕ)
    → i < length names → name ≡ get_or names i name → bytes ≡ string_bytes name → slice_get (map string_bytes names) i ≡ Some bytes
name_at names i name bytes lt is same =
    let long = length-map names string_bytes in
    slice_get_read (map string_bytes names) (length (map string_bytes names)) i bytes refl (omega (arith, long, lt))
    (same ∙ ap string_bytes is ∙ sym (get_or-map string_bytes names i name bytes lt))

-- what is said of as many names as there are is said of all
pub all_taken : {X A : Type 0} (of : List ℕ → X) (names : List (String A)) (n : ℕ) → length names ≤ n → n ≤ length names
    → take n (of_each of names) ≡ of_each of names
all_taken of names n le ge =
    let long = as_many of names in
    let same : n ≡ length (of_each of names) = omega (arith, long, le, ge) in
    ap (λ k. take k (of_each of names)) same ∙ take_all (length (of_each of names)) (of_each of names) (omega arith)

-- where all files of names can be read again, the inputs can be; and so it is of standard input, where there is no name
pub names_again : {A : Type 0} (known : Known) (names : List (String A)) → (length names == 0) ≡ false
    → All (λ can. can ≡ true) (of_each known.can_be_read_again names) → CanBeReadAgain known (map string_bytes names)
names_again known [] some all = absurd (cc some)
names_again known (name ∷ more) some all = all

pub standard_again : {A : Type 0} (known : Known) (names : List (String A)) → (length names == 0) ≡ true
    → known.standard_can_be_read_again ≡ true → CanBeReadAgain known (map string_bytes names)
standard_again known [] none can = can
standard_again known (name ∷ more) none can = absurd (omega (arith, eqb-true (length (name ∷ more)) 0 none))

-- where there are names, the inputs are their files, and these are what is opened
pub inputs_named : {X A : Type 0} (of : List ℕ → X) (standard : X) (names : List (String A)) → (length names == 0) ≡ false
    → of_inputs of standard names ≡ of_each of names
inputs_named of standard [] some = absurd (cc some)
inputs_named of standard (name ∷ more) some = refl

pub opened_named : {A : Type 0} (names : List (String A)) → (length names == 0) ≡ false
    → inputs_opened (map string_bytes names) ≡ all_opened (map string_bytes names)
opened_named [] some = absurd (cc some)
opened_named (name ∷ more) some = refl
