-- Parts of lines that several answers print, as bytes.
use Rattle.std.specs.Prelude.{◌++◌, ◌&&◌, [], ℕ, List, Option, Some, None, codes, if◌then◌else◌, map, nat_le}
use Rattle.std.specs.Fmt.{decimal}
use Rattle.htl_event.specs.declared.slot.Count.{Count}
use Rattle.htl_numbers.specs.Written.{padded}
use Rattle.htl_report.specs.Addresses.{line_feed}

unfoldable pub object_part : ℕ → List ℕ
object_part object = codes " object=0x" ++ padded 16 object

-- the moment up to which events count, where one was given
unfoldable pub until_part : Option ℕ → List ℕ
until_part None = []
until_part (Some moment) = codes " until=" ++ decimal moment

-- the end of a first line: the moment, and the number of rows
unfoldable pub count_part : Option ℕ → ℕ → List ℕ
count_part until count = until_part until ++ (codes " count=" ++ (decimal count ++ line_feed))

-- references and dereferences
unfoldable pub counts : Count → List ℕ
counts c = codes "refs=" ++ (decimal c.plus ++ (codes " derefs=" ++ decimal c.minus))

-- printable ASCII as itself, and a dot for every other byte
abbrev pub shown_byte : ℕ → ℕ
shown_byte b = if nat_le 0x20 b && nat_le b 0x7E then b else 46

-- a tag as it is shown
abbrev pub shown_tag : List ℕ → List ℕ
shown_tag tag = map shown_byte tag
