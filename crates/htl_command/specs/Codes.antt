-- The codes of faults (this project's own).
use Rattle.std.specs.Prelude.{ℕ, List, [], ◌∷◌, codes}
use Rattle.htl_command.specs.declared.code.Code.{Code}
use Rattle.htl_command.specs.declared.code.Code.TheVariants.{S1, S2, S3, S4, S5, S6, S7, S8, S9, S10, S11, S12, S13, S14, S15, S16, S17}
use Rattle.htl_command.specs.declared.code.Code.TheVariants.{H1, H2, H3}
use Rattle.htl_command.specs.declared.code.Code.TheVariants.{F1, F2, F3, F4, F5, F6, F7, F8, F9, F10, F11, F12, F13, F14, F15, F16, F17}
use Rattle.htl_command.specs.declared.code.Code.TheVariants.{C1, C2, C3, C4, C5, C6, C7, C8, C9, C10}
use Rattle.htl_command.specs.declared.code.Code.TheVariants.{Y1, Y2, Y3, Y4, Y5, Y6, Y7}
use Rattle.htl_command.specs.declared.code.Code.TheVariants.{E1, E2}

abbrev pub all_codes : List Code
all_codes =
    S1 ∷ S2 ∷ S3 ∷ S4 ∷ S5 ∷ S6 ∷ S7 ∷ S8 ∷ S9 ∷ S10 ∷ S11 ∷ S12 ∷ S13 ∷ S14 ∷ S15 ∷ S16 ∷ S17 ∷ H1 ∷ H2 ∷ H3 ∷
    F1 ∷ F2 ∷ F3 ∷ F4 ∷ F5 ∷ F6 ∷ F7 ∷ F8 ∷ F9 ∷ F10 ∷ F11 ∷ F12 ∷ F13 ∷ F14 ∷ F15 ∷ F16 ∷ F17 ∷
    C1 ∷ C2 ∷ C3 ∷ C4 ∷ C5 ∷ C6 ∷ C7 ∷ C8 ∷ C9 ∷ C10 ∷ Y1 ∷ Y2 ∷ Y3 ∷ Y4 ∷ Y5 ∷ Y6 ∷ Y7 ∷ E1 ∷ E2 ∷ []

-- each code as a fault's line has it
abbrev pub code_name : Code → List ℕ
code_name S1 = codes "S1"
code_name S2 = codes "S2"
code_name S3 = codes "S3"
code_name S4 = codes "S4"
code_name S5 = codes "S5"
code_name S6 = codes "S6"
code_name S7 = codes "S7"
code_name S8 = codes "S8"
code_name S9 = codes "S9"
code_name S10 = codes "S10"
code_name S11 = codes "S11"
code_name S12 = codes "S12"
code_name S13 = codes "S13"
code_name S14 = codes "S14"
code_name S15 = codes "S15"
code_name S16 = codes "S16"
code_name S17 = codes "S17"
code_name H1 = codes "H1"
code_name H2 = codes "H2"
code_name H3 = codes "H3"
code_name F1 = codes "F1"
code_name F2 = codes "F2"
code_name F3 = codes "F3"
code_name F4 = codes "F4"
code_name F5 = codes "F5"
code_name F6 = codes "F6"
code_name F7 = codes "F7"
code_name F8 = codes "F8"
code_name F9 = codes "F9"
code_name F10 = codes "F10"
code_name F11 = codes "F11"
code_name F12 = codes "F12"
code_name F13 = codes "F13"
code_name F14 = codes "F14"
code_name F15 = codes "F15"
code_name F16 = codes "F16"
code_name F17 = codes "F17"
code_name C1 = codes "C1"
code_name C2 = codes "C2"
code_name C3 = codes "C3"
code_name C4 = codes "C4"
code_name C5 = codes "C5"
code_name C6 = codes "C6"
code_name C7 = codes "C7"
code_name C8 = codes "C8"
code_name C9 = codes "C9"
code_name C10 = codes "C10"
code_name Y1 = codes "Y1"
code_name Y2 = codes "Y2"
code_name Y3 = codes "Y3"
code_name Y4 = codes "Y4"
code_name Y5 = codes "Y5"
code_name Y6 = codes "Y6"
code_name Y7 = codes "Y7"
code_name E1 = codes "E1"
code_name E2 = codes "E2"
