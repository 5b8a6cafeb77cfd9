-- The values of lines nest no deeper than a row, its stack, and a frame of that.
use Rattle.std.proofs.Common.{◌≤◌, ℕ, List, [], ◌∷◌, ◌++◌, Option, Some, None, arith, map}
use Rattle.json.specs.Json.{array}
use Rattle.json.specs.Tree.{depth, items_depth, members_depth}
use Rattle.json.specs.Value.{items_of}
use Rattle.htl_symbols.specs.Ranges.{Range, resolved}
use Rattle.htl_json.specs.Frames.{address_fields, frame, named_fields, symbol_fields}
use Rattle.htl_json.specs.Records.{Field, members_of}
use Rattle.htl_json.specs.Writing.{AreWithin}

-- fields nest no deeper than both lists of them
pub AreWithin-append : (d : ℕ) (fs gs : List Field) → AreWithin d fs → AreWithin d gs → AreWithin d (fs ++ gs)
AreWithin-append d [] gs h k = k
AreWithin-append d (f ∷ fs) gs h k = (h.0, AreWithin-append d fs gs h.1 k)

-- members nest no deeper than their fields
pub depth_of_members : (d : ℕ) (fs : List Field) → AreWithin d fs → members_depth (members_of fs) ≤ d
depth_of_members d [] h = omega arith
depth_of_members d (f ∷ fs) h = omega (arith, h.0, depth_of_members d fs h.1)

address_within : (address : ℕ) → AreWithin 0 (address_fields address)
unfolding address_fields
address_within address = (omega arith, tt)

named_within : (s : Option (List ℕ × List ℕ × ℕ)) → AreWithin 0 (named_fields s)
unfolding symbol_fields
named_within None = tt
named_within (Some s) = (omega arith, (omega arith, (omega arith, tt)))

depth_of_frame : (symbols : List Range) (address : ℕ) → depth (frame symbols address) ≤ 1
depth_of_frame symbols address =
    let s = resolved symbols address in
    omega (arith, depth_of_members 0 _ (AreWithin-append 0 (address_fields address) (named_fields s) (address_within address) (named_within s)))

depth_of_frames : (symbols : List Range) (frames : List ℕ) → items_depth (items_of (map (frame symbols) frames)) ≤ 1
depth_of_frames symbols [] = omega arith
depth_of_frames symbols (f ∷ fs) = omega (arith, depth_of_frame symbols f, depth_of_frames symbols fs)

-- a stack nests two deep: the array, and the objects of its frames
pub depth_of_stack : (symbols : List Range) (frames : List ℕ) → depth (array (items_of (map (frame symbols) frames))) ≤ 2
depth_of_stack symbols frames = omega (arith, depth_of_frames symbols frames)
