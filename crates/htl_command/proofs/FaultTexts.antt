-- What is read of a text as a printed fault is all that the text can be.
use Rattle.std.proofs.Common.{◌≡◌, ◌≢◌, ◌∙◌, ap, sym, subst, refl, true, false, ℕ, zero, suc, List, [], ◌∷◌, ◌++◌, inl, inr, ◌⊎◌, ◌<◌}
use Rattle.std.proofs.Common.{length, get_or, map, eqb, arith, take, drop, take-append-drop}
use Rattle.std.specs.Prelude.{◌||◌, Bool, Contains, MatchOption, None, Option, Some, find, ⊤}
use Rattle.std.specs.Char.{is_digit, to_ascii_lowercase}
use Rattle.std.specs.List.{list_any}
use Rattle.std.specs.Str.{bytes_eq, trim, trim_end}
use Rattle.std.specs.Str.Pattern.{RFindsChar}
use Rattle.std.proofs.lemmas.Bool.{and_parts, eqb-true, or_parts}
use Rattle.std.proofs.lemmas.List.Folds.{list_all_at}
use Rattle.std.proofs.lemmas.Option.{cond_some}
use Rattle.std.proofs.lemmas.Slice.Eq.{bytes_eq-Decides}
use Rattle.std.proofs.lemmas.Str.Pattern.{IsSplitOnceResult, NoCharPasses-char, drop_at_char, split_after}
use Rattle.htl_numbers.specs.Numbers.{number_of}
use Rattle.htl_command.specs.Codes.{all_codes, code_name}
use Rattle.htl_command.specs.Printed.{AreInside, AreTwo, Follow, IsNameOf, IsPrinted, behind_colon, field_names, form_of, is_colon, is_parenthesis}
use Rattle.htl_command.specs.Steps.{AreFault, Finds, after_blank, code_named, is_called}
use Rattle.htl_command.specs.Values.{sequence_in}
use Rattle.htl_command.specs.declared.code.Code.{Code}
use Rattle.htl_command.specs.declared.code.Code.TheVariants.{S1, S2, S3, S4, S5, S6, S7, S8, S9, S10, S11, S12, S13, S14, S15, S16, S17, H1, H2, H3}
use Rattle.htl_command.specs.declared.code.Code.TheVariants.{F1, F2, F3, F4, F5, F6, F7, F8, F9, F10, F11, F12, F13, F14, F15, F16, F17}
use Rattle.htl_command.specs.declared.code.Code.TheVariants.{C1, C2, C3, C4, C5, C6, C7, C8, C9, C10, Y1, Y2, Y3, Y4, Y5, Y6, Y7, E1, E2}
use Rattle.htl_command.specs.declared.printed.Form.{Form}
use Rattle.htl_command.specs.declared.printed.Form.TheVariants as form
use Rattle.htl_command.specs.declared.printed.Parts.{Parts}
use Rattle.htl_command.specs.declared.printed.Parts.TheVariants.{Nothing, Number, Numbers, Field}
use Rattle.htl_command.specs.declared.printed.PrintedFault.{PrintedFault}
use denote.Ref.{Bor}

-- where nothing was found, and nothing has P, it was found as P asks
pub finds-none : {X : Type 0} (P : X → Type 0) (found : Option X) → found ≡ None → ((x : X) → P x → ⊥) → Finds P found
finds-none P found none never = rw none never

-- ---- codes by their names

-- what `find` finds passes the test
find-passes : {X : Type 0} (test : X → Bool) (xs : List X) (x : X) → find test xs ≡ Some x → test x ≡ true
find-passes test [] x none = cc
find-passes test (y ∷ ys) x is = go (test y) refl (find-passes test ys x)
  where
    go : (b : Bool) → test y ≡ b → (find test ys ≡ Some x → test x ≡ true) → test x ≡ true
    go true pass later = let same : Some y ≡ Some x = rw pass at is in let same' : y ≡ x = cc in rw (← same') pass
    go false fail later = later (rw fail at is)

-- each code is that of its name
own : (code : Code) → find (is_called (code_name code)) all_codes ≡ Some code
own S1 = refl
own S2 = refl
own S3 = refl
own S4 = refl
own S5 = refl
own S6 = refl
own S7 = refl
own S8 = refl
own S9 = refl
own S10 = refl
own S11 = refl
own S12 = refl
own S13 = refl
own S14 = refl
own S15 = refl
own S16 = refl
own S17 = refl
own H1 = refl
own H2 = refl
own H3 = refl
own F1 = refl
own F2 = refl
own F3 = refl
own F4 = refl
own F5 = refl
own F6 = refl
own F7 = refl
own F8 = refl
own F9 = refl
own F10 = refl
own F11 = refl
own F12 = refl
own F13 = refl
own F14 = refl
own F15 = refl
own F16 = refl
own F17 = refl
own C1 = refl
own C2 = refl
own C3 = refl
own C4 = refl
own C5 = refl
own C6 = refl
own C7 = refl
own C8 = refl
own C9 = refl
own C10 = refl
own Y1 = refl
own Y2 = refl
own Y3 = refl
own Y4 = refl
own Y5 = refl
own Y6 = refl
own Y7 = refl
own E1 = refl
own E2 = refl

-- a name that equals that of a code, in letters of either case, names this code
pub named : (name : List ℕ) (code : Code) → IsNameOf code name → code_named name ≡ Some code
unfolding code_named
named name code same =
    subst (λ (text : List ℕ). find (λ (c : Code). bytes_eq (map to_ascii_lowercase (code_name c)) text) all_codes ≡ Some code) (sym same) (own code)

-- a name that names a code equals that of this code, in letters of either case
pub called : (name : List ℕ) (code : Code) → code_named name ≡ Some code → IsNameOf code name
unfolding code_named
called name code is = sym ((bytes_eq-Decides _ _).0 (find-passes (is_called (trim_end name)) all_codes code is))

-- ---- what stands behind the last colon

abbrev LacksColon : List ℕ → Type 0
LacksColon text = (i : ℕ) → i < length text → get_or text i 0 ≢ 58

any-false : (text : List ℕ) → LacksColon text → list_any is_colon text ≡ false
any-false [] lacks = refl
any-false (b ∷ text) lacks = go (eqb b 58) refl (any-false text (λ i below. lacks (suc i) (omega arith)))
  where
    go : (t : Bool) → eqb b 58 ≡ t → list_any is_colon text ≡ false → list_any is_colon (b ∷ text) ≡ false
    go true colon later = absurd (lacks zero (omega arith) (eqb-true b 58 colon))
    go false other later = rw other later

pub behind_none : (text : List ℕ) → LacksColon text → text ≡ behind_colon text
behind_none [] lacks = refl
behind_none (b ∷ text) lacks = rw (any-false (b ∷ text) lacks) refl

any-true : (front back : List ℕ) → list_any is_colon (front ++ (58 ∷ back)) ≡ true
any-true [] back = refl
any-true (b ∷ front) back = rw (any-true front back) (or-true (eqb b 58))
  where
    or-true : (t : Bool) → (t || true) ≡ true
    or-true true = refl
    or-true false = refl

pub behind_last : (front back : List ℕ) → LacksColon back → back ≡ behind_colon (front ++ (58 ∷ back))
behind_last [] back lacks = behind_none back lacks
behind_last (b ∷ front) back lacks = rw (any-true (b ∷ front) back) (behind_last front back lacks)

-- what follows a colon, and has none, stands behind the last colon
pub behind_found : (text back : List ℕ) (i j : ℕ) → RFindsChar 58 text (Some (i, j)) → back ≡ drop j text → back ≡ behind_colon text
behind_found text back i j finds is =
    let rest : drop i text ≡ 58 ∷ drop j text = drop_at_char 58 text i j finds.1 (omega arith) in
    let whole : take i text ++ (58 ∷ drop j text) ≡ text = rw (← rest) (take-append-drop i text) in
    let last : drop j text ≡ behind_colon (take i text ++ (58 ∷ drop j text)) =
    behind_last (take i text) (drop j text) (λ k below. NoCharPasses-char 58 (drop j text) k finds.0 (omega arith) below) in
    is ∙ (last ∙ ap behind_colon whole)

-- ---- the name ends at the first parenthesis

abbrev pub Lacks : List ℕ → Type 0
Lacks text = (i : ℕ) → i < length text → get_or text i 0 ≡ 40 → ⊥

lacks : (name : List ℕ) → list_any is_parenthesis name ≡ false → Lacks name
lacks [] none i below is = omega arith
lacks (b ∷ name) none zero below is =
    let bad : true ≡ false = subst (λ (x : ℕ). list_any is_parenthesis (x ∷ name) ≡ false) is none in cc
lacks (b ∷ name) none (suc i) below is = lacks name (or_parts _ _ none).1 i (omega arith) is

up_to : (name : List ℕ) → Lacks name → list_any is_parenthesis name ≡ false
up_to [] apart = refl
up_to (b ∷ name) apart = go (eqb b 40) refl (up_to name (λ i below. apart (suc i) (omega arith)))
  where
    go : (t : Bool) → eqb b 40 ≡ t → list_any is_parenthesis name ≡ false → list_any is_parenthesis (b ∷ name) ≡ false
    go true is later = absurd (apart zero (omega arith) (eqb-true b 40 is))
    go false other later = rw other later

abbrev pub Starts : List ℕ → Type 0
Starts [] = ⊤
Starts (b ∷ text) = b ≡ 40

same_front : (n t m s : List ℕ) → Lacks n → Lacks m → Starts t → Starts s → n ++ t ≡ m ++ s → (n ≡ m) × (t ≡ s)
same_front [] t [] s apart apart' at at' e = (refl, e)
same_front [] t (b ∷ m) s apart apart' at at' e = let is : b ≡ 40 = subst Starts e at in absurd (apart' zero (omega arith) is)
same_front (b ∷ n) t [] s apart apart' at at' e = let is : b ≡ 40 = subst Starts (sym e) at' in absurd (apart zero (omega arith) is)
same_front (b ∷ n) t (c ∷ m) s apart apart' at at' e =
    let rest : n ++ t ≡ m ++ s = cc in
    let head : b ≡ c = cc in
    let same = same_front n t m s (λ i below is. apart (suc i) (omega arith) is) (λ i below is. apart' (suc i) (omega arith) is) at at' rest in
    (rw (head, same.0) refl, same.1)

starts : (f : Form) (parts : Parts) (tail : List ℕ) → Follow f parts tail → Starts tail
starts f Nothing tail is = rw is tt
starts f (Number n) tail is = rw is.1 refl
starts f (Numbers m n) tail is = rw is.1 refl
starts f (Field name) tail is = rw is.1 refl

-- a text with its first parenthesis is a printed fault where its halves are one
pub of_halves : (text name tail : List ℕ) (found : Option PrintedFault) → trim (behind_colon text) ≡ name ++ tail → Lacks name → Starts tail
    → Finds (AreFault name tail) found → Finds (IsPrinted text) found
of_halves text name tail None is apart at none =
    λ (fault : PrintedFault) (p : IsPrinted text fault).
    let same = same_front p.name p.tail name tail (lacks p.name p.up_to) apart (starts (form_of fault.code) fault.parts p.tail p.parts)
    at (sym p.whole ∙ is) in
    none fault (record { code = rw same.0 at p.code; parts = rw same.1 at p.parts })
of_halves text name tail (Some fault) is apart at of =
    record { name = name; tail = tail; whole = is; up_to = up_to name apart; code = of.code; parts = of.parts }

-- ---- what stands in parentheses

-- parts in parentheses are those that stand inside
inside : (f : Form) (parts : Parts) (tail : List ℕ) → Follow f parts (40 ∷ tail) → (text : List ℕ) × (tail ≡ text ++ (41 ∷ [])) × AreInside f parts text
inside f Nothing tail is = cc
inside f (Number n) tail is = (is.0, cc, is.2)
inside f (Numbers m n) tail is = (is.0, cc, is.2)
inside f (Field name) tail is = (is.0, cc, is.2)

follow : (f : Form) (parts : Parts) (text : List ℕ) → AreInside f parts text → Follow f parts (40 ∷ (text ++ (41 ∷ [])))
follow form.Nothing Nothing text never = absurd never
follow form.Number Nothing text never = absurd never
follow form.Numbers Nothing text never = absurd never
follow form.Field Nothing text never = absurd never
follow f (Number n) text at = (text, refl, at)
follow f (Numbers m n) text at = (text, refl, at)
follow f (Field name) text at = (text, refl, at)

-- a name with a parenthesis that isn't closed at the end is no printed fault
pub no_end : (name tail : List ℕ) → ((front : List ℕ) → tail ≡ front ++ (41 ∷ []) → ⊥) → (fault : PrintedFault) → AreFault name (40 ∷ tail) fault → ⊥
no_end name tail none fault of = let p = inside (form_of fault.code) fault.parts tail of.parts in none p.0 p.1

same_end : (xs ys : List ℕ) → xs ++ (41 ∷ []) ≡ ys ++ (41 ∷ []) → xs ≡ ys
same_end [] [] e = refl
same_end [] (y ∷ []) e = cc
same_end [] (y ∷ z ∷ ys) e = cc
same_end (x ∷ []) [] e = cc
same_end (x ∷ z ∷ xs) [] e = cc
same_end (x ∷ xs) (y ∷ ys) e =
    let rest : xs ++ (41 ∷ []) ≡ ys ++ (41 ∷ []) = cc in
    let head : x ≡ y = cc in
    rw (head, same_end xs ys rest) refl

-- a code's name with something in parentheses that isn't of the code's form is no printed fault
pub no_parts : (name inner : List ℕ) (code : Code) → code_named name ≡ Some code
    → ((parts : Parts) → AreInside (form_of code) parts inner → ⊥) → (fault : PrintedFault) → AreFault name (40 ∷ (inner ++ (41 ∷ []))) fault → ⊥
no_parts name inner code is none fault of =
    let own : code_named name ≡ Some fault.code = named name fault.code of.code in
    let same : fault.code ≡ code = cc in
    let p = inside (form_of fault.code) fault.parts (inner ++ (41 ∷ [])) of.parts in
    none fault.parts (rw (← same, same_end inner p.0 p.1) p.2)

-- a code's name with parts of its form in parentheses is the printed fault of both
pub some_parts : (name inner : List ℕ) (code : Code) (parts : Parts) → code_named name ≡ Some code → AreInside (form_of code) parts inner
    → AreFault name (40 ∷ (inner ++ (41 ∷ []))) (record { code = code; parts = parts })
some_parts name inner code parts is at = record { code = called name code is; parts = follow (form_of code) parts inner at }

-- what isn't the name of a field is nothing that stands in a fault about a field
pub no_field : (inner : List ℕ) → ((name : Bor (List ℕ)) → (name.now ≡ inner) × Contains field_names inner → ⊥) → (parts : Parts)
    → AreInside form.Field parts inner → ⊥
no_field inner none Nothing at = at
no_field inner none (Number n) at = at
no_field inner none (Numbers m n) at = at
no_field inner none (Field name) at = none name at

-- what isn't two numbers is nothing that stands in a fault about two numbers
pub no_numbers : (inner : List ℕ) → ((x : ℕ × ℕ) → AreTwo x.0 x.1 inner → ⊥) → (parts : Parts) → AreInside form.Numbers parts inner → ⊥
no_numbers inner none Nothing at = at
no_numbers inner none (Number n) at = at
no_numbers inner none (Numbers m n) at = none (m, n) at
no_numbers inner none (Field name) at = at

-- ---- two numbers

-- digits are neither commas nor blanks
digits-lack : (text : List ℕ) (n b : ℕ) → sequence_in text ≡ Some n → is_digit b 10 ≡ false → (i : ℕ) → i < length text → get_or text i 0 ≡ b → ⊥
unfolding number_of
digits-lack text n b is other i below same =
    let all = (and_parts _ _ (cond_some _ _ _ is).0).0 in
    let none = list_all_at (λ c. is_digit c 10) text i 0 below (rw same other) in
    let bad : true ≡ false = sym all ∙ none in cc

-- of digits there is no blank to take away
no_blank : (text : List ℕ) (n : ℕ) → sequence_in text ≡ Some n → after_blank text ≡ text
no_blank [] n is = refl
no_blank (b ∷ text) n is = go (eqb b 32) refl
  where
    go : (t : Bool) → eqb b 32 ≡ t → after_blank (b ∷ text) ≡ b ∷ text
    go true blank = absurd (digits-lack (b ∷ text) n 32 is refl zero (omega arith) (eqb-true b 32 blank))
    go false other = rw other refl

-- a text that doesn't begin with a blank has no blank to take away
pub blank_kept : (text : List ℕ) → ((rest : List ℕ) → text ≡ 32 ∷ rest → ⊥) → text ≡ after_blank text
blank_kept [] none = refl
blank_kept (b ∷ text) none = go (eqb b 32) refl
  where
    go : (t : Bool) → eqb b 32 ≡ t → b ∷ text ≡ after_blank (b ∷ text)
    go true blank = let is : b ≡ 32 = eqb-true b 32 blank in absurd (none text (rw is refl))
    go false other = rw other refl

abbrev Splits : List ℕ → List ℕ → Option (Bor (List ℕ) × Bor (List ℕ)) → Type 0
Splits first second r = MatchOption r ⊥ (λ x. (x.0.now ≡ first) × (after_blank x.1.now ≡ second))

-- two numbers in a text are split by the first comma into the text of each
pub two_split : (m n : ℕ) (text : List ℕ) (r : Option (Bor (List ℕ) × Bor (List ℕ))) (p : AreTwo m n text) → IsSplitOnceResult 44 text r
    → Splits p.first p.second r
two_split m n text r p splits = go p.blank
  where
    apart : (i : ℕ) → i < length p.first → get_or p.first i 0 ≡ 44 → ⊥
    apart = digits-lack p.first m 44 p.left refl

    after : (rest : List ℕ) → text ≡ p.first ++ (44 ∷ rest) → after_blank rest ≡ p.second → Splits p.first p.second r
    after rest is blank = elim r as (λ r. MatchOption r ⊥ (λ x. (x.0.now ≡ p.first) × (x.1.now ≡ rest)) → Splits p.first p.second r)
        [ None ↦ (λ none. none) | Some x ↦ (λ of. (of.0, rw of.1 blank)) ] (split_after 44 text p.first rest r splits (omega arith) is apart)

    go : (p.comma ≡ 44 ∷ []) ⊎ (p.comma ≡ 44 ∷ (32 ∷ [])) → Splits p.first p.second r
    go (inl is) = after p.second (p.whole ∙ ap (λ (c : List ℕ). p.first ++ (c ++ p.second)) is) (no_blank p.second n p.right)
    go (inr is) = after (32 ∷ p.second) (p.whole ∙ ap (λ (c : List ℕ). p.first ++ (c ++ p.second)) is) refl

blank_cases : (text : List ℕ) → (text ≡ after_blank text) ⊎ (text ≡ 32 ∷ after_blank text)
blank_cases [] = inl refl
blank_cases (b ∷ text) = go (eqb b 32) refl
  where
    go : (t : Bool) → eqb b 32 ≡ t → (b ∷ text ≡ after_blank (b ∷ text)) ⊎ (b ∷ text ≡ 32 ∷ after_blank (b ∷ text))
    go true blank = let is : b ≡ 32 = eqb-true b 32 blank in inr (rw (blank, is) refl)
    go false other = inl (rw other refl)

-- a text with a number before its comma, and one after it with or without a blank, is these two numbers
pub two_made : (m n : ℕ) (text first second : List ℕ) → text ≡ first ++ (44 ∷ second) → sequence_in first ≡ Some m
    → sequence_in (after_blank second) ≡ Some n → AreTwo m n text
two_made m n text first second is left right = go (blank_cases second)
  where
    go : (second ≡ after_blank second) ⊎ (second ≡ 32 ∷ after_blank second) → AreTwo m n text
    go (inl same) = record {
      first = first;
      comma = 44 ∷ [];
      second = after_blank second;
      whole = is ∙ ap (λ (s : List ℕ). first ++ (44 ∷ s)) same;
      blank = inl refl;
      left = left;
      right = right;
    }
    go (inr same) = record {
      first = first;
      comma = 44 ∷ (32 ∷ []);
      second = after_blank second;
      whole = is ∙ ap (λ (s : List ℕ). first ++ (44 ∷ s)) same;
      blank = inr refl;
      left = left;
      right = right;
    }

-- ---- a name among others

abbrev Names : List (Bor (List ℕ)) → List (List ℕ)
Names names = map (λ name. name.now) names

missing : (names : List (Bor (List ℕ))) (inner : List ℕ) (k : ℕ) → find (λ name. bytes_eq name.now inner) names ≡ None
    → k < length (Names names) → get_or (Names names) k inner ≡ inner → ⊥
missing [] inner k none below is = omega arith
missing (y ∷ ys) inner zero none below is =
    let pass : bytes_eq y.now inner ≡ true = (bytes_eq-Decides y.now inner).1 is in
    let bad : Some y ≡ None = rw pass at none in cc
missing (y ∷ ys) inner (suc k) none below is = go (bytes_eq y.now inner) refl (λ later. missing ys inner k later (omega arith) is)
  where
    go : (t : Bool) → bytes_eq y.now inner ≡ t → (find (λ name. bytes_eq name.now inner) ys ≡ None → ⊥) → ⊥
    go true pass later = let bad : Some y ≡ None = rw pass at none in cc
    go false fail later = later (rw fail at none)

found : (names : List (Bor (List ℕ))) (inner : List ℕ) (x : Bor (List ℕ)) → find (λ name. bytes_eq name.now inner) names ≡ Some x
    → (k : ℕ) × (k < length (Names names)) × (get_or (Names names) k inner ≡ inner)
found [] inner x is = cc
found (y ∷ ys) inner x is = go (bytes_eq y.now inner) refl (λ later. found ys inner x later)
  where
    go : (t : Bool) → bytes_eq y.now inner ≡ t
        → (find (λ name. bytes_eq name.now inner) ys ≡ Some x → (k : ℕ) × (k < length (Names ys)) × (get_or (Names ys) k inner ≡ inner))
        → (k : ℕ) × (k < length (Names (y ∷ ys))) × (get_or (Names (y ∷ ys)) k inner ≡ inner)
    go true pass later = (zero, omega arith, (bytes_eq-Decides y.now inner).0 pass)
    go false fail later = let p = later (rw fail at is) in (suc p.0, omega arith, p.2)

-- a search among names finds the one that the text is, or none where it is none of them
pub finds_name : (names : List (Bor (List ℕ))) (inner : List ℕ) (r : Option (Bor (List ℕ))) → r ≡ find (λ name. bytes_eq name.now inner) names
    → Finds (λ name. (name.now ≡ inner) × Contains (Names names) inner) r
finds_name names inner None is = λ (x : Bor (List ℕ)) (p : (x.now ≡ inner) × Contains (Names names) inner). missing names inner p.1.0 (sym is) p.1.1 p.1.2
finds_name names inner (Some x) is =
    ((bytes_eq-Decides x.now inner).0 (find-passes (λ name. bytes_eq name.now inner) names x (sym is)), found names inner x (sym is))
