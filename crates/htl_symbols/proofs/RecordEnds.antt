-- A record of a text ends where another can begin, and has a byte at least.
use Rattle.std.proofs.Common.{◌≡◌, ◌≤◌, ◌<◌, ◌==◌, ℕ, Bool, true, false, cond, List, [], ◌∷◌, ◌++◌, Option, Some}
use Rattle.std.proofs.Common.{length, refl, arith, sym, inl, inr}
use Rattle.std.proofs.lemmas.Bool.{cases_cond}
use Rattle.std.proofs.lemmas.Option.{cond_some, same_Some}
use Rattle.csv.specs.Machine.{Read, after_end, ends_at_end, ends_with, field_after, fields_after, in_field, is_end}
use Rattle.csv.specs.Machine.{next_record, start_field, start_record, step}
use Rattle.csv.specs.Reading.{default_config}
use Rattle.csv.specs.declared.parser.State.{State}
use Rattle.csv.specs.declared.parser.State.TheVariants as st
use Rattle.csv.specs.declared.parser.Action.{Action}
use Rattle.csv.specs.declared.parser.Action.TheVariants as act
use Rattle.htl_symbols.specs.Records.{is_start}
use Rattle.htl_symbols.specs.Rows.{Record}

-- a step that ends a record leaves a state in which one begins
abbrev EndsAtStart : State × Action → Type 0
EndsAtStart p = is_end p.1 ≡ true → is_start p.0 ≡ true

-- either of two steps
either : (b : Bool) (x y : State × Action) → EndsAtStart x → EndsAtStart y → EndsAtStart (cond b x y)
either true x y hx hy = hx
either false x y hx hy = hy

-- a step that doesn't end a record
goes-on : (s : State) (a : Action) → is_end a ≡ false → EndsAtStart (s, a)
goes-on s a none e = absurd (cc)

-- a byte that ends a line
line-end : (c : ℕ) → EndsAtStart (after_end default_config.terminator c, act.EndRecord)
line-end c e = elim (c == 13) as (λ b. is_start (cond b st.AfterCr st.StartRecord) ≡ true) [ true ↦ refl | false ↦ refl ]

-- a byte in each state, by the state machine's definitions
in-field : (c : ℕ) → EndsAtStart (in_field default_config c)
in-field c = either (c == 44) _ _ (goes-on st.StartField act.EndField refl)
    (either (ends_with default_config.terminator c) _ _ (line-end c) (goes-on st.InField act.Copy refl))

-- at the start of a field
start-field : (c : ℕ) → EndsAtStart (start_field default_config c)
start-field c = either (c == 34) _ _ (goes-on st.InQuoted act.Skip refl) (in-field c)

-- at the start of a record
start-record : (c : ℕ) → EndsAtStart (start_record default_config c)
start-record c = either (ends_with default_config.terminator c) _ _ (goes-on st.StartRecord act.Skip refl) (start-field c)

-- in any state
step-end : (s : State) (c : ℕ) → EndsAtStart (step default_config s c)
step-end st.StartRecord c = start-record c
step-end st.StartField c = start-field c
step-end st.InField c = in-field c
step-end st.InQuoted c = either (c == 34) _ _ (goes-on st.AfterQuote act.Skip refl) (goes-on st.InQuoted act.Copy refl)
step-end st.InEscape c = goes-on st.InQuoted act.Copy refl
step-end st.AfterQuote c = either (c == 34) _ _ (goes-on st.InQuoted act.Copy refl) (in-field c)
step-end st.InComment c = either (c == 10) _ _ (goes-on st.StartRecord act.Skip refl) (goes-on st.InComment act.Skip refl)
step-end st.AfterCr c = either (c == 10) _ _ (goes-on st.StartRecord act.Skip refl) (start-record c)

-- a record leaves a state in which one begins
pub next-starts : (s : State) (fields : Record) (field xs : List ℕ) (p : Read) → next_record default_config s fields field xs ≡ Some p
    → is_start p.1 ≡ true
unfolding next_record
next-starts s fields field [] p e =
    let parts = cond_some (ends_at_end s) (fields ++ (field ∷ []), st.StartRecord, []) p e in rw (sym parts.1) refl
next-starts s fields field (c ∷ rest) p e =
    by_end (is_end (step default_config s c).1) refl
    (next-starts (step default_config s c).0 (fields_after (step default_config s c).1 fields field)
    (field_after (step default_config s c).1 c field) rest p) e
  where
    by_end : {more : Option Read} (b : Bool) → is_end (step default_config s c).1 ≡ b → (more ≡ Some p → is_start p.1 ≡ true)
        → cond b (Some (fields_after (step default_config s c).1 fields field, (step default_config s c).0, rest)) more ≡ Some p
        → is_start p.1 ≡ true
    by_end true end later e = rw (sym (same_Some _ _ e)) (step-end s c end)
    by_end false end later e = later e

-- a record takes no more than is there
next-le : (s : State) (fields : Record) (field xs : List ℕ) (p : Read) → next_record default_config s fields field xs ≡ Some p
    → length p.2 ≤ length xs
unfolding next_record
next-le s fields field [] p e =
    let parts = cond_some (ends_at_end s) (fields ++ (field ∷ []), st.StartRecord, []) p e in rw (sym parts.1) (omega arith)
next-le s fields field (c ∷ rest) p e = elim (cases_cond (is_end (step default_config s c).1) _ _ _ (sym e)) [
  | inl ends ↦ rw (same_Some _ _ ends) (omega arith)
  | inr goes ↦
      let more = next-le (step default_config s c).0 (fields_after (step default_config s c).1 fields field)
      (field_after (step default_config s c).1 c field) rest p (sym goes) in
      omega arith
]

-- and from a state in which one begins, a byte at least
pub next-lt : (s : State) (xs : List ℕ) (p : Read) → is_start s ≡ true → next_record default_config s [] [] xs ≡ Some p
    → length p.2 < length xs
unfolding next_record
next-lt s [] p start e =
    let parts = cond_some (ends_at_end s) ([] ∷ [], st.StartRecord, []) p e in absurd (no-end s start parts.0)
  where
    no-end : (s : State) → is_start s ≡ true → ends_at_end s ≡ true → ⊥
    no-end st.StartRecord start e = absurd (cc)
    no-end st.AfterCr start e = absurd (cc)
    no-end st.StartField start e = absurd (cc)
    no-end st.InField start e = absurd (cc)
    no-end st.InQuoted start e = absurd (cc)
    no-end st.AfterQuote start e = absurd (cc)
    no-end st.InEscape start e = absurd (cc)
    no-end st.InComment start e = absurd (cc)
next-lt s (c ∷ rest) p start e = elim (cases_cond (is_end (step default_config s c).1) _ _ _ (sym e)) [
  | inl ends ↦ rw (same_Some _ _ ends) (omega arith)
  | inr goes ↦
      let more = next-le (step default_config s c).0 (fields_after (step default_config s c).1 [] [])
      (field_after (step default_config s c).1 c []) rest p (sym goes) in
      omega arith
]
