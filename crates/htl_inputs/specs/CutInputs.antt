-- Which inputs end within a segment (this project's own): what a writer was cut off in, or hasn't finished yet.
use Rattle.std.specs.Prelude.{◌≡◌, ◌+◌, ◌++◌, ℕ, Bool, true, false, List, [], ◌∷◌, length, Option, None, Some, if◌then◌else◌}
use Rattle.htl_command.specs.declared.question.InputForm.{InputForm}
use Rattle.htl_reading.specs.Sources.{EndsWithin}
use Rattle.htl_reading.specs.declared.outcome.EarlyEnd.{EarlyEnd}
use Rattle.htl_segment.specs.Bundles.{RestAt, Splits}
use Rattle.htl_segment.specs.Content.{Content}
use Rattle.htl_inputs.specs.Inputs.{DecodeAll, Decodes, HasBytes}
use Rattle.htl_inputs.specs.declared.cuts.CutEnd.{CutEnd}
use Rattle.htl_inputs.specs.declared.cuts.CutInputs.{CutInputs}

-- The input ends within a segment: after the last whole one some bytes are left, which end within one more.
pub record EndsEarly (hex : Bool) (input : List ℕ) : Type 0 where
  pub bytes : List ℕ
  pub has : HasBytes hex input bytes
  pub offset : ℕ
  pub there : RestAt bytes offset

-- The input ends within a segment (`true`), or is whole segments to its end (`false`).
abbrev pub IsCut : Bool → List ℕ → Bool → Type 0
IsCut hex input true = EndsEarly hex input
IsCut hex input false = (segments : List Content) × Decodes (record { hex = hex; partial = false }) input segments

-- The places of the inputs that end within a segment, counted from `place` for the first input of the list.
abbrev pub ArePlacesFrom : Bool → ℕ → List (List ℕ) → List ℕ → Type 0
ArePlacesFrom hex place [] places = places ≡ []
ArePlacesFrom hex place (input ∷ more) places =
    (is_cut : Bool) × (later : List ℕ) × IsCut hex input is_cut × ArePlacesFrom hex (place + 1) more later
    × (places ≡ if is_cut then place ∷ later else later)

-- No input ends within a segment; or `cut.first` is the place of the first that does, and there are `cut.others` more.
abbrev pub AreCut : Bool → List (List ℕ) → Option CutInputs → Type 0
AreCut hex inputs None = ArePlacesFrom hex 0 inputs []
AreCut hex inputs (Some cut) =
    (later : List ℕ) × ArePlacesFrom hex 0 inputs (cut.first ∷ later) × (cut.others ≡ length later)

-- ---- of which segments they are

-- the input ends within a segment, of which this is known
pub record EndsAs (hex : Bool) (input : List ℕ) (end : EarlyEnd) : Type 0 where
  pub bytes : List ℕ
  pub has : HasBytes hex input bytes
  pub segments : List Content
  pub rest : List ℕ
  pub splits : Splits bytes segments rest
  pub within : EndsWithin segments rest end

-- how the input ends: as whole segments, or within one more
abbrev pub HasEnd : Bool → List ℕ → Option EarlyEnd → Type 0
HasEnd hex input None = (segments : List Content) × Decodes (record { hex = hex; partial = false }) input segments
HasEnd hex input (Some end) = EndsAs hex input end

-- the input at a place is cut, and of this segment, if it ends so
abbrev pub cut_ends_at : ℕ → Option EarlyEnd → List CutEnd
cut_ends_at place None = []
cut_ends_at place (Some end) = record { input = place; name = end.name } ∷ []

-- The inputs that end within a segment, counted from `place` for the first input of the list, and which segments these are.
abbrev pub AreCutEndsFrom : Bool → ℕ → List (List ℕ) → List CutEnd → Type 0
AreCutEndsFrom hex place [] cuts = cuts ≡ []
AreCutEndsFrom hex place (input ∷ more) cuts =
    (end : Option EarlyEnd) × (later : List CutEnd) × HasEnd hex input end × AreCutEndsFrom hex (place + 1) more later
    × (cuts ≡ cut_ends_at place end ++ later)

abbrev pub AreCutEnds : Bool → List (List ℕ) → List CutEnd → Type 0
AreCutEnds hex inputs cuts = AreCutEndsFrom hex 0 inputs cuts

-- What inputs are decoded to: their segments, and which of them are cut.
pub record Decoding : Type 0 where
  pub segments : List Content
  pub cuts : List CutEnd

abbrev pub decoding : List Content → List CutEnd → Decoding
decoding segments cuts = record { segments = segments; cuts = cuts }

pub record IsDecoding (form : InputForm) (inputs : List (List ℕ)) (given : Decoding) : Type 0 where
  pub segments : DecodeAll form inputs given.segments
  pub cuts : AreCutEnds form.hex inputs given.cuts
