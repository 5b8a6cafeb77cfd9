-- Four characters of one byte each are a tag as it is shown.
use Rattle.std.proofs.Common.{◌≡◌, ◌<◌, ◌++◌, ◌∷◌, [], List, ℕ, length, get_or, arith, refl}
use Rattle.std.proofs.Math.Utf8.{encode}
use Rattle.std.proofs.lemmas.Str.{encode_ascii}
use Rattle.htl_report.specs.Parts.{shown_byte, shown_tag}

-- the four characters of a tag's shown bytes are the tag as it is shown
pub four_shown : (tag : List ℕ) (a b c d : ℕ) → length tag ≡ 4
    → a ≡ shown_byte (get_or tag 0 0) → b ≡ shown_byte (get_or tag 1 0) → c ≡ shown_byte (get_or tag 2 0) → d ≡ shown_byte (get_or tag 3 0)
    → a < 128 → b < 128 → c < 128 → d < 128
    → encode a ++ (encode b ++ (encode c ++ encode d)) ≡ shown_tag tag
four_shown (s ∷ t ∷ u ∷ v ∷ []) a b c d four first second third fourth lt1 lt2 lt3 lt4 =
    rw (encode_ascii a lt1, encode_ascii b lt2, encode_ascii c lt3, encode_ascii d lt4, first, second, third, fourth) refl
four_shown [] a b c d four first second third fourth lt1 lt2 lt3 lt4 = absurd (omega (arith, four))
four_shown (s ∷ []) a b c d four first second third fourth lt1 lt2 lt3 lt4 = absurd (omega (arith, four))
four_shown (s ∷ t ∷ []) a b c d four first second third fourth lt1 lt2 lt3 lt4 = absurd (omega (arith, four))
four_shown (s ∷ t ∷ u ∷ []) a b c d four first second third fourth lt1 lt2 lt3 lt4 = absurd (omega (arith, four))
four_shown (s ∷ t ∷ u ∷ v ∷ w ∷ more) a b c d four first second third fourth lt1 lt2 lt3 lt4 = absurd (omega (arith, four))
