-- The two versions of the format HLS1 (this project's own), and what each allows at most.
use Rattle.std.specs.Prelude.{ℕ}
use Rattle.htl_segment.specs.declared.version.Version.{Version}
use Rattle.htl_segment.specs.declared.version.Version.TheVariants.{V1, V2}
use Rattle.htl_segment.specs.declared.version.Limits.{Limits}

-- a version as a header names it
abbrev pub version_number : Version → ℕ
version_number V1 = 1
version_number V2 = 2

-- The greatest length is that of a header and 4,096 records with all their frames.
abbrev pub limits_of : Version → Limits
limits_of V1 = record { processors = 64; frames = 32; kinds = 6; len = 1196064 }
limits_of V2 = record { processors = 256; frames = 64; kinds = 7; len = 2244640 }
