-- Where lines of stacks that were written stand in the text so far.
use Rattle.std.specs.Prelude.{◌≡◌, ◌<◌, ◌++◌, ℕ, List, All, IsUtf8, length}
use Rattle.htl_symbols.specs.Ranges.{Range}
use Rattle.htl_report.specs.Addresses.{stack_lines}
use Rattle.htl_report.specs.declared.printed.Place.{Place}

-- the lines of the stack stand at the place, between two characters each
pub record IsPrinted (symbols : List Range) (text : List ℕ) (place : Place) : Type 0 where
  pub before : List ℕ
  pub after : List ℕ
  pub text_is : text ≡ (before ++ stack_lines symbols place.frames.now) ++ after
  pub from_is : place.from ≡ length before
  pub to_is : place.to ≡ length (before ++ stack_lines symbols place.frames.now)
  pub begins : IsUtf8 before
  pub ends : IsUtf8 (before ++ stack_lines symbols place.frames.now)

pub record HasPrinted (symbols : List Range) (text : List ℕ) (places : List Place) : Type 0 where
  pub some : 0 < length places
  pub each : All (IsPrinted symbols text) places
