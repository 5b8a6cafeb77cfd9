-- A record of four fields is these four, and one that lacks any of them hasn't four.
use Rattle.std.proofs.Common.{◌≡◌, ◌≢◌, ◌<◌, ℕ, List, [], ◌∷◌, Option, Some, None, true, length, refl, ap, arith, sym, ◌∙◌, Decides}
use Rattle.std.specs.Prelude.{Err, codes}
use Rattle.std.specs.Str.{bytes_eq}
use Rattle.std.proofs.lemmas.Bool.{and_parts}
use Rattle.std.proofs.lemmas.Slice.Eq.{bytes_eq-Decides}
use Rattle.csv.specs.Records.{field_at}
use Rattle.csv.proofs.RecordFacts.{field-there}
use Rattle.htl_symbols.specs.Rows.{Record, address_of, header, range_between, range_of_row}
use Rattle.htl_symbols.specs.Steps.{columns_eq}
use Rattle.htl_symbols.specs.declared.fault.SymbolFault.TheVariants as fault

-- a record that lacks one of the first four fields hasn't four
pub not-four : (fields : Record) (i : ℕ) → i < 4 → None ≡ field_at fields i → length fields ≢ 4
not-four fields i low none four = field-there fields i (omega arith) (sym none)

-- a record of four fields is these four
pub four : (fields : Record) (a b c d : List ℕ) → length fields ≡ 4 → Some a ≡ field_at fields 0 → Some b ≡ field_at fields 1
    → Some c ≡ field_at fields 2 → Some d ≡ field_at fields 3 → fields ≡ a ∷ b ∷ c ∷ d ∷ []
unfolding field_at
four (p ∷ q ∷ r ∷ s ∷ []) a b c d n i j k l = cc
four [] a b c d n i j k l = absurd (omega arith)
four (p ∷ []) a b c d n i j k l = absurd (omega arith)
four (p ∷ q ∷ []) a b c d n i j k l = absurd (omega arith)
four (p ∷ q ∷ r ∷ []) a b c d n i j k l = absurd (omega arith)
four (p ∷ q ∷ r ∷ s ∷ t ∷ fields) a b c d n i j k l = absurd (omega arith)

-- a record that hasn't four fields writes no range
pub fields-wrong : (row : ℕ) (fields : Record) → length fields ≢ 4 → range_of_row (row, fields) ≡ Err (fault.Fields row)
unfolding range_of_row
fields-wrong row [] n = refl
fields-wrong row (a ∷ []) n = refl
fields-wrong row (a ∷ b ∷ []) n = refl
fields-wrong row (a ∷ b ∷ c ∷ []) n = refl
fields-wrong row (a ∷ b ∷ c ∷ d ∷ []) n = absurd (n refl)
fields-wrong row (a ∷ b ∷ c ∷ d ∷ e ∷ fields) n = refl

-- four fields write the range between their numbers
pub fields-right : (row : ℕ) (fields : Record) (a b c d : List ℕ) (p q : Option ℕ) → fields ≡ a ∷ b ∷ c ∷ d ∷ [] → p ≡ address_of a
    → q ≡ address_of b
    → range_of_row (row, fields) ≡ range_between row p q c d
unfolding range_of_row
fields-right row fields a b c d p q is first second = rw (is, first, second) refl

-- a record that hasn't four fields is no header
pub header-wrong : (fields : Record) → length fields ≢ 4 → fields ≢ header
unfolding header
header-wrong fields n same = n (ap length same)

-- the test of the header's columns says whether a record is the header
pub columns-header : (fields : Record) (a b c d : List ℕ) → fields ≡ a ∷ b ∷ c ∷ d ∷ [] → Decides (columns_eq a b c d) (fields ≡ header)
unfolding header
columns-header fields a b c d is = (to, from)
  where
    to : columns_eq a b c d ≡ true → fields ≡ header
    to passes =
        let first = and_parts (bytes_eq a (codes "start")) _ passes in
        let second = and_parts (bytes_eq b (codes "end")) _ first.1 in
        let third = and_parts (bytes_eq c (codes "module")) _ second.1 in
        rw (
          is,
          (bytes_eq-Decides a (codes "start")).0 first.0,
          (bytes_eq-Decides b (codes "end")).0 second.0,
          (bytes_eq-Decides c (codes "module")).0 third.0,
          (bytes_eq-Decides d (codes "name")).0 third.1,
        ) refl

    from : fields ≡ header → columns_eq a b c d ≡ true
    from same =
        let e : a ∷ b ∷ c ∷ d ∷ [] ≡ codes "start" ∷ codes "end" ∷ codes "module" ∷ codes "name" ∷ [] = sym is ∙ same in
        let e1 : a ≡ codes "start" = cc in
        let e2 : b ≡ codes "end" = cc in
        let e3 : c ≡ codes "module" = cc in
        let e4 : d ≡ codes "name" = cc in
        rw (e1, e2, e3, e4) refl
