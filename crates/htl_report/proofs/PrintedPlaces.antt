-- Lines that stand at a place stand there still once more was written, and can be copied from there.
use Rattle.std.proofs.Common.{◌≡◌, ◌++◌, ◌-◌, ◌%◌, ◌<◌, ◌≤◌, ◌∙◌, [], ℕ, List, IsCharBoundary, IsUtf8, ap, append_assoc, arith, drop, get_or, length}
use Rattle.std.proofs.Common.{length-append, set, slice_range, subst, sym, take}
use Rattle.std.proofs.Math.Seq.{drop-append_seam, take-append_seam}
use Rattle.std.proofs.lemmas.List.{append-nil, length-set}
use Rattle.std.proofs.lemmas.List.Elements.{All-set}
use Rattle.std.proofs.lemmas.Nat.{mod_below}
use Rattle.std.proofs.lemmas.Str.{IsCharBoundary-from_take, IsUtf8-nil}
use Rattle.htl_symbols.specs.Ranges.{Range}
use Rattle.htl_report.specs.Addresses.{stack_lines}
use Rattle.htl_report.specs.Printed.{HasPrinted, IsPrinted}
use Rattle.htl_report.specs.declared.printed.Place.{Place}

printed_on : {symbols : List Range} {text : List ℕ} {place : Place} (more : List ℕ) → IsPrinted symbols text place
    → IsPrinted symbols (text ++ more) place
printed_on {symbols} {text} {place} more p = record {
  before = p.before;
  after = p.after ++ more;
  text_is = ap (λ t. t ++ more) p.text_is ∙ append_assoc (p.before ++ stack_lines symbols place.frames.now) p.after more;
  from_is = p.from_is;
  to_is = p.to_is;
  begins = p.begins;
  ends = p.ends;
}

pub has_printed_on : {symbols : List Range} {text : List ℕ} {places : List Place} (new more : List ℕ) → new ≡ text ++ more
    → HasPrinted symbols text places → HasPrinted symbols new places
has_printed_on {symbols} {text} {places} new more e h =
    subst (λ t. HasPrinted symbols t places) (sym e) (record { some = h.some; each = λ k d lt. printed_on more (h.each k d lt) })

-- a text may be cut behind a part of it that is a text
cut_behind : (text front back : List ℕ) (n : ℕ) → text ≡ front ++ back → n ≡ length front → IsUtf8 front → IsUtf8 text → IsCharBoundary text n
cut_behind text front back n e here begins whole =
    let fits : n ≤ length text = omega (arith, here, ap length e, length-append front back) in
    let front_is : front ≡ take n text = sym (ap (λ m. take m text) here ∙ ap (take (length front)) e ∙ take-append_seam front back) in
    IsCharBoundary-from_take text n whole fits (subst IsUtf8 front_is begins)

pub from_cuts : {symbols : List Range} {text : List ℕ} {place : Place} → IsPrinted symbols text place → IsUtf8 text
    → IsCharBoundary text place.from
from_cuts {symbols} {text} {place} p =
    let lines = stack_lines symbols place.frames.now in
    cut_behind text p.before (lines ++ p.after) place.from (p.text_is ∙ append_assoc p.before lines p.after) p.from_is p.begins

pub to_cuts : {symbols : List Range} {text : List ℕ} {place : Place} → IsPrinted symbols text place → IsUtf8 text → IsCharBoundary text place.to
to_cuts {symbols} {text} {place} p =
    cut_behind text (p.before ++ stack_lines symbols place.frames.now) p.after place.to p.text_is p.to_is p.ends

pub lines_there : {symbols : List Range} {text : List ℕ} {place : Place} → IsPrinted symbols text place
    → slice_range text place.from place.to ≡ stack_lines symbols place.frames.now
lines_there {symbols} {text} {place} p =
    let lines = stack_lines symbols place.frames.now in
    let len : place.to - place.from ≡ length lines = omega (arith, p.from_is, p.to_is, length-append p.before lines) in
    let behind : drop place.from text ≡ lines ++ p.after =
    ap (λ n. drop n text) p.from_is ∙ ap (drop (length p.before)) (p.text_is ∙ append_assoc p.before lines p.after)
    ∙ drop-append_seam p.before (lines ++ p.after) in
    ap (λ n. take n (drop place.from text)) len ∙ ap (take (length lines)) behind ∙ take-append_seam lines p.after

-- the place of a fingerprint
pub printed_at : {symbols : List Range} {text : List ℕ} {places : List Place} (fingerprint len : ℕ) (place : Place)
    → HasPrinted symbols text places → len ≡ length places → place ≡ get_or places (fingerprint % len) place → IsPrinted symbols text place
printed_at {symbols} {text} {places} fingerprint len place h len_is here =
    let some : 0 < len = omega (arith, len_is, h.some) in
    let within : fingerprint % len < length places = omega (arith, len_is, mod_below fingerprint len some) in
    subst (IsPrinted symbols text) (sym here) (h.each (fingerprint % len) place within)

-- lines that are written after a text stand behind it
pub written_there : (symbols : List Range) (old new : List ℕ) (place : Place) → new ≡ old ++ stack_lines symbols place.frames.now
    → place.from ≡ length old → place.to ≡ length new → IsUtf8 old → IsUtf8 new → IsPrinted symbols new place
written_there symbols old new place e from to begins ends = record {
  before = old;
  after = [];
  text_is = e ∙ sym (append-nil (old ++ stack_lines symbols place.frames.now));
  from_is = from;
  to_is = to ∙ ap length e;
  begins = begins;
  ends = subst IsUtf8 e ends;
}

pub has_written : {symbols : List Range} {old new : List ℕ} {places : List Place} {place : Place} (more : List ℕ) (cell : ℕ)
    → new ≡ old ++ more → HasPrinted symbols old places → IsPrinted symbols new place → HasPrinted symbols new (set places cell place)
has_written {symbols} {old} {new} {places} {place} more cell e h there = record {
  some = omega (arith, h.some, length-set places cell place);
  each = All-set (IsPrinted symbols new) places cell place there (has_printed_on new more e h).each;
}

-- no stack has no lines, which stand anywhere
pub none_there : (symbols : List Range) (text : List ℕ) (place : Place) → place.frames.now ≡ [] → place.from ≡ 0 → place.to ≡ 0
    → IsPrinted symbols text place
none_there symbols text place none from to =
    let lines : stack_lines symbols place.frames.now ≡ [] = ap (stack_lines symbols) none in
    record {
      before = [];
      after = text;
      text_is = ap (λ l. l ++ text) (sym lines);
      from_is = from;
      to_is = to ∙ ap length (sym lines);
      begins = IsUtf8-nil;
      ends = subst IsUtf8 (sym lines) IsUtf8-nil;
    }
