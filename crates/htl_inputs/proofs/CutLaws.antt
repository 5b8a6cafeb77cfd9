-- One input more is among those that end within a segment, where it does, and which segment that is.
use Rattle.std.proofs.Common.{◌≡◌, ◌+◌, ℕ, suc, Bool, List, [], ◌∷◌, ◌++◌, length, take, refl, sym}
use Rattle.std.proofs.Common.{subst, Option, Some, None, arith, append-nil, append_assoc, map, ap}
use Rattle.std.specs.Prelude.{slice_get, if◌then◌else◌, is_some}
use Rattle.std.proofs.lemmas.List.{length-map, length-take-le, take_more}
use Rattle.std.proofs.lemmas.Option.{slice_get_within, get_or_from_slice_get}
use Rattle.htl_reading.specs.declared.outcome.EarlyEnd.{EarlyEnd}
use Rattle.htl_reading.specs.declared.outcome.SegmentName.{SegmentName}
use Rattle.htl_segment.specs.Bundles.{bundle}
use Rattle.htl_segment.proofs.BundleLaws.{early_end}
use Rattle.htl_inputs.specs.CutInputs.{AreCut, AreCutEnds, AreCutEndsFrom, ArePlacesFrom, HasEnd, IsCut, cut_ends_at}
use Rattle.htl_inputs.specs.declared.cuts.CutEnd.{CutEnd}
use Rattle.htl_inputs.specs.declared.cuts.CutInputs.{CutInputs}

-- an input that ends within a segment is cut
pub is_cut_of : (hex : Bool) (input : List ℕ) (end : Option EarlyEnd) → HasEnd hex input end → IsCut hex input (is_some end)
is_cut_of hex input None is = is
is_cut_of hex input (Some end) is = record {
  bytes = is.bytes;
  has = is.has;
  offset = length (bundle is.segments);
  there = record {
    before = is.segments;
    rest = is.rest;
    splits = is.splits;
    offset_is = refl;
    some = is.within.some;
    is_rest = early_end is.rest end.fault is.within.fault_is is.within.early;
  };
}

-- ---- which segments they are

-- of no inputs none is cut
pub no_ends : (hex : Bool) (inputs : List (List ℕ)) → AreCutEnds hex (take 0 inputs) []
no_ends hex inputs = refl

ends_more : (hex : Bool) (from : ℕ) (inputs : List (List ℕ)) (input : List ℕ) (end : Option EarlyEnd) (cuts : List CutEnd)
    → AreCutEndsFrom hex from inputs cuts → HasEnd hex input end
    → AreCutEndsFrom hex from (inputs ++ input ∷ []) (cuts ++ cut_ends_at (from + length inputs) end)
ends_more hex from [] input end cuts are ends =
    let here : from + 0 ≡ from = omega arith in
    rw (are, here) (end, [], ends, refl, sym (append-nil (cut_ends_at from end)))
ends_more hex from (first ∷ inputs) input end cuts are ends =
    let later = ends_more hex (from + 1) inputs input end are.1 are.3 ends in
    let place : from + 1 + length inputs ≡ from + suc (length inputs) = omega arith in (
      are.0,
      are.1 ++ cut_ends_at (from + suc (length inputs)) end,
      are.2,
      subst (λ (n : ℕ). AreCutEndsFrom hex (from + 1) (inputs ++ input ∷ []) (are.1 ++ cut_ends_at n end)) place later,
      rw (are.4) (append_assoc (cut_ends_at from are.0) are.1 (cut_ends_at (from + suc (length inputs)) end)),
    )

-- the cut ends so far, with that of the next input where it is cut, are those of one input more
pub ends_next : (hex : Bool) (inputs : List (List ℕ)) (place : ℕ) (input : List ℕ) (end : Option EarlyEnd) (cuts : List CutEnd)
    → slice_get inputs place ≡ Some input → AreCutEnds hex (take place inputs) cuts → HasEnd hex input end
    → AreCutEnds hex (take (place + 1) inputs) (cuts ++ cut_ends_at place end)
ends_next hex inputs place input end cuts here are ends =
    let within = slice_get_within inputs place input here in
    let long : length (take place inputs) ≡ place = length-take-le place inputs (omega (arith, within)) in
    let all : 0 + length (take place inputs) ≡ place = omega (arith, long) in
    rw (take_more inputs place [] within, get_or_from_slice_get inputs place input [] here)
    (subst (λ (n : ℕ). AreCutEnds hex (take place inputs ++ input ∷ []) (cuts ++ cut_ends_at n end)) all
    (ends_more hex 0 (take place inputs) input end cuts are ends))

-- with an input more that isn't cut they are the same
pub ends_whole : (hex : Bool) (inputs : List (List ℕ)) (input : List ℕ) (cuts : List CutEnd) → AreCutEnds hex inputs cuts → HasEnd hex input None
    → AreCutEnds hex (inputs ++ input ∷ []) cuts
ends_whole hex inputs input cuts are whole =
    subst (AreCutEnds hex (inputs ++ input ∷ [])) (append-nil cuts) (ends_more hex 0 inputs input None cuts are whole)

abbrev place_of : CutEnd → ℕ
place_of cut = cut.input

its_input : (place : ℕ) (end : Option EarlyEnd) (later : List CutEnd)
    → map place_of (cut_ends_at place end ++ later) ≡ (if is_some end then place ∷ map place_of later else map place_of later)
its_input place None later = refl
its_input place (Some end) later = refl

places_of : (hex : Bool) (place : ℕ) (inputs : List (List ℕ)) (cuts : List CutEnd) → AreCutEndsFrom hex place inputs cuts
    → ArePlacesFrom hex place inputs (map place_of cuts)
places_of hex place [] cuts are = rw are refl
places_of hex place (input ∷ more) cuts are = (
  is_some are.0,
  map place_of are.1,
  is_cut_of hex input are.0 are.2,
  places_of hex (place + 1) more are.1 are.3,
  rw (are.4) (its_input place are.0 are.1),
)

-- where there is no cut end no input is cut
pub none_told : (hex : Bool) (inputs : List (List ℕ)) (cuts : List CutEnd) → slice_get cuts 0 ≡ None → AreCutEnds hex inputs cuts
    → AreCut hex inputs None
none_told hex inputs [] at are = places_of hex 0 inputs [] are
none_told hex inputs (cut ∷ later) at are = cc at

-- and else the first of them is the first input that is cut, and the others are the others
pub some_told : (hex : Bool) (inputs : List (List ℕ)) (cuts : List CutEnd) (first : CutEnd) (told : CutInputs) → slice_get cuts 0 ≡ Some first
    → told.first ≡ first.input → told.others + 1 ≡ length cuts → AreCutEnds hex inputs cuts → AreCut hex inputs (Some told)
some_told hex inputs [] first told at first_is others are = cc at
some_told hex inputs (cut ∷ later) first told at first_is others are =
    let same : cut ≡ first = cc at in (
      map place_of later,
      rw (first_is, ← same) (places_of hex 0 inputs (cut ∷ later) are),
      omega (arith, others, length-map later place_of),
    )

-- the cut ends of inputs and of others after them
pub ends_both : (hex : Bool) (from : ℕ) (inputs others : List (List ℕ)) (cuts more : List CutEnd) → AreCutEndsFrom hex from inputs cuts
    → AreCutEndsFrom hex (from + length inputs) others more → AreCutEndsFrom hex from (inputs ++ others) (cuts ++ more)
ends_both hex from [] others cuts more are next =
    let here : from + 0 ≡ from = omega arith in
    rw are (subst (λ (n : ℕ). AreCutEndsFrom hex n others more) here next)
ends_both hex from (input ∷ inputs) others cuts more are next =
    let place : from + suc (length inputs) ≡ from + 1 + length inputs = omega arith in (
      are.0,
      are.1 ++ more,
      are.2,
      ends_both hex (from + 1) inputs others are.1 more are.3 (subst (λ (n : ℕ). AreCutEndsFrom hex n others more) place next),
      rw (are.4) (append_assoc (cut_ends_at from are.0) are.1 more),
    )

abbrev pub name_at : CutEnd → Option SegmentName
name_at cut = cut.name

-- cut ends whose inputs are counted from elsewhere have the same names
abbrev pub HaveNames : List CutEnd → List CutEnd → Type 0
HaveNames cuts moved = map name_at cuts ≡ map name_at moved

moved_one : (from to : ℕ) (end : Option EarlyEnd) (later moved : List CutEnd) → HaveNames later moved
    → HaveNames (cut_ends_at from end ++ later) (cut_ends_at to end ++ moved)
moved_one from to None later moved same = same
moved_one from to (Some end) later moved same = ap (λ (names : List (Option SegmentName)). end.name ∷ names) same

pub ends_moved : (hex : Bool) (from to : ℕ) (inputs : List (List ℕ)) (cuts : List CutEnd) → AreCutEndsFrom hex from inputs cuts
    → (moved : List CutEnd) × AreCutEndsFrom hex to inputs moved × HaveNames cuts moved
ends_moved hex from to [] cuts are = ([], refl, rw are refl)
ends_moved hex from to (input ∷ inputs) cuts are =
    let later = ends_moved hex (from + 1) (to + 1) inputs are.1 are.3 in (
      cut_ends_at to are.0 ++ later.0,
      (are.0, later.0, are.2, later.1, refl),
      rw (are.4) (moved_one from to are.0 are.1 later.0 later.2),
    )
