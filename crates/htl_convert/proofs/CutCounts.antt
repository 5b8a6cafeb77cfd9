-- The inputs that end within a segment are counted one after another.
use Rattle.std.proofs.Common.{◌≡◌, ◌+◌, ℕ, suc, Bool, true, false, List, [], ◌∷◌, ◌++◌, length, take, refl, sym}
use Rattle.std.proofs.Common.{subst, Option, Some, None, arith, append-nil}
use Rattle.std.specs.Prelude.{slice_get, if◌then◌else◌}
use Rattle.std.proofs.lemmas.List.{length-append, length-take-le, take_more}
use Rattle.std.proofs.lemmas.Option.{slice_get_within, get_or_from_slice_get}
use Rattle.htl_inputs.specs.CutInputs.{AreCut, ArePlacesFrom, IsCut}
use Rattle.htl_inputs.specs.declared.cuts.CutInputs.{CutInputs}
use Rattle.htl_convert.specs.Dumping.{OthersFit, with_input}

abbrev its_place : Bool → ℕ → List ℕ
its_place is_cut place = if is_cut then place ∷ [] else []

place_first : (is_cut later_cut : Bool) (place last : ℕ) (places : List ℕ)
    → (if is_cut then place ∷ (places ++ its_place later_cut last) else places ++ its_place later_cut last)
    ≡ (if is_cut then place ∷ places else places) ++ its_place later_cut last
place_first true later place last places = refl
place_first false later place last places = refl

-- the one behind these inputs
places_more : (hex : Bool) (from : ℕ) (inputs : List (List ℕ)) (input : List ℕ) (is_cut : Bool) (places : List ℕ)
    → ArePlacesFrom hex from inputs places → IsCut hex input is_cut
    → ArePlacesFrom hex from (inputs ++ input ∷ []) (places ++ its_place is_cut (from + length inputs))
places_more hex from [] input is_cut places are cut =
    let here : from + 0 ≡ from = omega arith in
    rw (are, here) (is_cut, [], cut, refl, refl)
places_more hex from (first ∷ inputs) input is_cut places are cut =
    let later = places_more hex (from + 1) inputs input is_cut are.1 are.3 cut in
    let place : from + 1 + length inputs ≡ from + suc (length inputs) = omega arith in (
      are.0,
      are.1 ++ its_place is_cut (from + suc (length inputs)),
      are.2,
      subst (λ (n : ℕ). ArePlacesFrom hex (from + 1) (inputs ++ input ∷ []) (are.1 ++ its_place is_cut n)) place later,
      rw (are.4) (sym (place_first are.0 is_cut from (from + suc (length inputs)) are.1)),
    )

-- of no inputs none is cut
pub none_cut : (hex : Bool) (inputs : List (List ℕ)) → AreCut hex (take 0 inputs) None
none_cut hex inputs = refl

-- so many inputs may be cut before a place
pub none_fits : (place : ℕ) → OthersFit None place
none_fits place = tt

-- where an input more is counted, there are still fewer others than inputs
pub fits_next : (is_cut : Bool) (place : ℕ) (cut : Option CutInputs) → OthersFit cut place → OthersFit (with_input is_cut place cut) (place + 1)
fits_next false place None few = tt
fits_next false place (Some cut) few = omega (arith, few)
fits_next true place None few = omega arith
fits_next true place (Some cut) few = omega (arith, few)

cut_with : (hex : Bool) (inputs : List (List ℕ)) (input : List ℕ) (is_cut : Bool) (cut : Option CutInputs) → AreCut hex inputs cut
    → IsCut hex input is_cut → AreCut hex (inputs ++ input ∷ []) (with_input is_cut (length inputs) cut)
cut_with hex inputs input false None are is = places_more hex 0 inputs input false [] are is
cut_with hex inputs input false (Some cut) are is = (
  are.0,
  subst (ArePlacesFrom hex 0 (inputs ++ input ∷ [])) (append-nil (cut.first ∷ are.0))
      (places_more hex 0 inputs input false (cut.first ∷ are.0) are.1 is),
  are.2,
)
cut_with hex inputs input true None are is =
    let place : 0 + length inputs ≡ length inputs = omega arith in
    ([], rw (← place) (places_more hex 0 inputs input true [] are is), refl)
cut_with hex inputs input true (Some cut) are is =
    let place : 0 + length inputs ≡ length inputs = omega arith in (
      are.0 ++ length inputs ∷ [],
      rw (← place) (places_more hex 0 inputs input true (cut.first ∷ are.0) are.1 is),
      omega (arith, are.2, length-append are.0 (length inputs ∷ [])),
    )

-- the cut inputs so far, with the next one where it is cut, are those of one input more
pub cut_next : (hex : Bool) (inputs : List (List ℕ)) (place : ℕ) (input : List ℕ) (is_cut : Bool) (cut : Option CutInputs)
    → slice_get inputs place ≡ Some input → AreCut hex (take place inputs) cut → IsCut hex input is_cut
    → AreCut hex (take (place + 1) inputs) (with_input is_cut place cut)
cut_next hex inputs place input is_cut cut here are is =
    let within = slice_get_within inputs place input here in
    let long : length (take place inputs) ≡ place = length-take-le place inputs (omega (arith, within)) in
    rw (take_more inputs place [] within, get_or_from_slice_get inputs place input [] here)
    (subst (λ (n : ℕ). AreCut hex (take place inputs ++ input ∷ []) (with_input is_cut n cut)) long
    (cut_with hex (take place inputs) input is_cut cut are is))
