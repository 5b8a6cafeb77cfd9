-- A part is read exactly where the bytes begin with one that fits, and so are the parts of all processors.
use Rattle.std.proofs.Common.{◌≡◌, ℕ, zero, suc, ◌+◌, ◌^◌, ◌<◌, ◌≤◌, false, nat_lt, List, [], ◌∷◌, ◌++◌, length, drop, refl, sym, ap, ◌∙◌, append_assoc, arith}
use Rattle.std.specs.Prelude.{Ok}
use Rattle.std.specs.List.{flat_map}
use Rattle.std.proofs.lemmas.List.{append-nil, length-append}
use Rattle.std.proofs.lemmas.Bool.{ltb-false, le-ltb}
use Rattle.htl_segment.specs.Numbers.{IsBytes, number, bytes_of}
use Rattle.htl_segment.specs.Content.{Content}
use Rattle.htl_segment.specs.Encoding.{encoding}
use Rattle.htl_segment.proofs.Bytes.{IsBytes-drop, field, number-lt, number_here, after_number, length-bytes_of}
use Rattle.htl_state.specs.declared.fault.Fault.TheVariants as faults
use Rattle.htl_state.specs.declared.rows.CountRow.{CountRow}
use Rattle.htl_state.specs.declared.rows.LatestRow.{LatestRow}
use Rattle.htl_state.specs.declared.rows.Setting.{Setting}
use Rattle.htl_state.specs.Rows.{Part, part}
use Rattle.htl_state.specs.Format.{count_bytes, latest_bytes, moment_bytes, list_bytes, front_bytes, part_bytes}
use Rattle.htl_state.specs.Reading.{Reading, refused, and_then, list_in, counts, latest, moments, held, setting, of_processor}
use Rattle.htl_state.specs.Reading.{lists_in, part_in, parts_in}
use Rattle.htl_state.specs.WellFormed.{CountFits, LatestFits, MomentFits, SegmentFits, PartFits, PartsFit}
use Rattle.htl_state.proofs.Readings.{two_steps, went_on, ok_is}
use Rattle.htl_state.proofs.Lists.{IsBytes-tail, list_sound, list_complete}
use Rattle.htl_state.proofs.Moments.{moments_exact}
use Rattle.htl_state.proofs.Counts.{counts_exact, three}
use Rattle.htl_state.proofs.LatestRows.{latest_exact}
use Rattle.htl_state.proofs.Held.{held_exact}

-- ---- the steps of reading a part, named

abbrev whole : List ℕ → List CountRow → List LatestRow → List (ℕ × ℕ) → List (ℕ × ℕ) → List Content → List ℕ → Reading Part
whole b tree events marks exits segments b5 =
    Ok (part (number 0 4 b) (number 4 8 b) (number 12 8 b) tree events marks exits segments, b5)

abbrev from_held : Setting → List ℕ → List CountRow → List LatestRow → List (ℕ × ℕ) → List (ℕ × ℕ) → List ℕ → Reading Part
from_held s b tree events marks exits b4 = and_then (list_in held s b4) (whole b tree events marks exits)

abbrev from_exits : Setting → List ℕ → List CountRow → List LatestRow → List (ℕ × ℕ) → List ℕ → Reading Part
from_exits s b tree events marks b3 = and_then (list_in moments s b3) (from_held s b tree events marks)

abbrev from_marks : Setting → List ℕ → List CountRow → List LatestRow → List ℕ → Reading Part
from_marks s b tree events b2 = and_then (list_in moments s b2) (from_exits s b tree events)

abbrev from_latest : Setting → List ℕ → List CountRow → List ℕ → Reading Part
from_latest s b tree b1 = and_then (list_in latest s b1) (from_marks s b tree)

-- ---- pieces, and what follows them, grouped in two ways

six : (a b c d e f rest : List ℕ) → (a ++ b ++ c ++ d ++ e ++ f) ++ rest ≡ a ++ (b ++ (c ++ (d ++ (e ++ (f ++ rest)))))
six a b c d e f rest = simp append_assoc

-- ---- from bytes to a part

front_parts : (b : List ℕ) (p : Part) → IsBytes b → 20 ≤ length b → p.front ≡ number 0 4 b → p.last_sequence ≡ number 4 8 b
    → p.events ≡ number 12 8 b → b ≡ front_bytes p ++ drop 20 b
unfolding front_bytes
front_parts b p small long front last events =
    let f0 = field 0 4 4 b small (omega arith) refl in
    let f4 = field 4 8 12 b small (omega arith) refl in
    let f12 = field 12 8 20 b small (omega arith) refl in
    let all : b ≡ bytes_of 4 (number 0 4 b) ++ (bytes_of 8 (number 4 8 b) ++ (bytes_of 8 (number 12 8 b) ++ drop 20 b)) = f0
    ∙ ap (λ (x : List ℕ). bytes_of 4 (number 0 4 b) ++ x) (f4 ∙ ap (λ (x : List ℕ). bytes_of 8 (number 4 8 b) ++ x) f12) in
    rw (front, last, events) (all ∙ sym (three (bytes_of 4 (number 0 4 b)) (bytes_of 8 (number 4 8 b)) (bytes_of 8 (number 12 8 b)) (drop 20 b)))

-- the numbers and the five lists, and what follows them, grouped in two ways
grouped : (p : Part) (rest : List ℕ)
    → part_bytes p ++ rest
    ≡ front_bytes p ++ (list_bytes count_bytes p.counts ++ (list_bytes latest_bytes p.latest ++ (list_bytes moment_bytes p.marks
    ++ (list_bytes moment_bytes p.exits ++ (list_bytes encoding p.held ++ rest)))))
unfolding part_bytes
grouped p rest =
    six (front_bytes p) (list_bytes count_bytes p.counts) (list_bytes latest_bytes p.latest) (list_bytes moment_bytes p.marks)
    (list_bytes moment_bytes p.exits) (list_bytes encoding p.held) rest

pub record PartRead (id processors processor table : ℕ) (b : List ℕ) (p : Part) (rest : List ℕ) : Type 0 where
  pub fits : PartFits id processors processor table p
  pub bytes_are : b ≡ part_bytes p ++ rest

part_sound : (id processors processor table : ℕ) (b : List ℕ) (p : Part) (rest : List ℕ) → IsBytes b
    → part_in (setting id processors processor 0 table) b ≡ Ok (p, rest) → PartRead id processors processor table b p rest
unfolding part_in lists_in
part_sound id processors processor table b p rest small e =
    let s = setting id processors processor (number 0 4 b) table in
    let t0 = went_on (nat_lt (length b) 20) (refused faults.Part b) (and_then (list_in counts s (drop 20 b)) (from_latest s b)) (p, rest) e in
    let long : 20 ≤ length b = ltb-false _ _ t0.0 in
    let t1 = two_steps (list_in counts s (drop 20 b)) (from_latest s b) (p, rest) t0.1 in
    let t2 = two_steps (list_in latest s t1.rest) (from_marks s b t1.read) (p, rest) t1.next_is in
    let t3 = two_steps (list_in moments s t2.rest) (from_exits s b t1.read t2.read) (p, rest) t2.next_is in
    let t4 = two_steps (list_in moments s t3.rest) (from_held s b t1.read t2.read t3.read) (p, rest) t3.next_is in
    let t5 = two_steps (list_in held s t4.rest) (whole b t1.read t2.read t3.read t4.read) (p, rest) t4.next_is in
    let q = part (number 0 4 b) (number 4 8 b) (number 12 8 b) t1.read t2.read t3.read t4.read t5.read in
    let pair = ok_is (q, t5.rest) (p, rest) t5.next_is in
    let part_is : q ≡ p = ap (λ (x : Part × List ℕ). x.0) pair in
    let rest_is : t5.rest ≡ rest = ap (λ (x : Part × List ℕ). x.1) pair in
    let l1 = list_sound counts s (CountFits s) (counts_exact s) (drop 20 b) t1.read t1.rest (IsBytes-drop 20 b small) t1.first_is in
    let small1 : IsBytes t1.rest = IsBytes-tail (list_bytes count_bytes t1.read) t1.rest (rw l1.1 at (IsBytes-drop 20 b small)) in
    let l2 = list_sound latest s (LatestFits s) (latest_exact s) t1.rest t2.read t2.rest small1 t2.first_is in
    let small2 : IsBytes t2.rest = IsBytes-tail (list_bytes latest_bytes t2.read) t2.rest (rw l2.1 at small1) in
    let l3 = list_sound moments s MomentFits (moments_exact s) t2.rest t3.read t3.rest small2 t3.first_is in
    let small3 : IsBytes t3.rest = IsBytes-tail (list_bytes moment_bytes t3.read) t3.rest (rw l3.1 at small2) in
    let l4 = list_sound moments s MomentFits (moments_exact s) t3.rest t4.read t4.rest small3 t4.first_is in
    let small4 : IsBytes t4.rest = IsBytes-tail (list_bytes moment_bytes t4.read) t4.rest (rw l4.1 at small3) in
    let l5 = list_sound held s (SegmentFits s) (held_exact s) t4.rest t5.read t5.rest small4 t5.first_is in
    let fits : PartFits id processors processor table q = record {
      front = number-lt 0 4 b small;
      last_sequence = number-lt 4 8 b small;
      events = number-lt 12 8 b small;
      counts = l1.0;
      latest = l2.0;
      marks = l3.0;
      exits = l4.0;
      held = l5.0;
    } in
    let lists : drop 20 b
    ≡ list_bytes count_bytes t1.read ++ (list_bytes latest_bytes t2.read ++ (list_bytes moment_bytes t3.read ++ (list_bytes moment_bytes t4.read
    ++ (list_bytes encoding t5.read ++ t5.rest)))) = l1.1
    ∙ ap (λ (x : List ℕ). list_bytes count_bytes t1.read ++ x) (l2.1
    ∙ ap (λ (x : List ℕ). list_bytes latest_bytes t2.read ++ x) (l3.1
    ∙ ap (λ (x : List ℕ). list_bytes moment_bytes t3.read ++ x) (l4.1 ∙ ap (λ (x : List ℕ). list_bytes moment_bytes t4.read ++ x) l5.1))) in
    let front = front_parts b q small long refl refl refl in
    record {
      fits = rw part_is at fits;
      bytes_are = front ∙ ap (λ (x : List ℕ). front_bytes q ++ x) lists ∙ sym (grouped q t5.rest)
          ∙ ap (λ (x : Part). part_bytes x ++ t5.rest) part_is ∙ ap (λ (x : List ℕ). part_bytes p ++ x) rest_is;
    }

-- ---- from a part to its bytes

record FrontAgain (b : List ℕ) (p : Part) (rest : List ℕ) : Type 0 where
  front : number 0 4 b ≡ p.front
  last_sequence : number 4 8 b ≡ p.last_sequence
  events : number 12 8 b ≡ p.events
  rest_is : drop 20 b ≡ rest
  long : 20 ≤ length b

front_again : (b : List ℕ) (p : Part) (rest : List ℕ) → p.front < 2 ^ 32 → p.last_sequence < 2 ^ 64 → p.events < 2 ^ 64
    → drop 0 b ≡ front_bytes p ++ rest → FrontAgain b p rest
unfolding front_bytes
front_again b p rest front last events here =
    let r12 = bytes_of 8 p.events ++ rest in
    let r4 = bytes_of 8 p.last_sequence ++ r12 in
    let d0 : drop 0 b ≡ bytes_of 4 p.front ++ r4 =
    here ∙ three (bytes_of 4 p.front) (bytes_of 8 p.last_sequence) (bytes_of 8 p.events) rest in
    let d4 : drop 4 b ≡ r4 = after_number 0 4 4 p.front b r4 d0 refl in
    let d12 : drop 12 b ≡ r12 = after_number 4 8 12 p.last_sequence b r12 d4 refl in
    record {
      front = number_here 0 4 p.front b r4 d0 front;
      last_sequence = number_here 4 8 p.last_sequence b r12 d4 last;
      events = number_here 12 8 p.events b rest d12 events;
      rest_is = after_number 12 8 20 p.events b rest d12 refl;
      long = omega (
        arith,
        ap length d0,
        length-append (bytes_of 4 p.front) r4,
        length-bytes_of 4 p.front,
        length-append (bytes_of 8 p.last_sequence) r12,
        length-bytes_of 8 p.last_sequence,
        length-append (bytes_of 8 p.events) rest,
        length-bytes_of 8 p.events,
      );
    }

part_complete : (id processors processor table : ℕ) (p : Part) (rest : List ℕ) → PartFits id processors processor table p
    → part_in (setting id processors processor 0 table) (part_bytes p ++ rest) ≡ Ok (p, rest)
unfolding part_in lists_in
part_complete id processors processor table p rest fits =
    let s = setting id processors processor p.front table in
    let r4 = list_bytes encoding p.held ++ rest in
    let r3 = list_bytes moment_bytes p.exits ++ r4 in
    let r2 = list_bytes moment_bytes p.marks ++ r3 in
    let r1 = list_bytes latest_bytes p.latest ++ r2 in
    let r0 = list_bytes count_bytes p.counts ++ r1 in
    let front = front_again (part_bytes p ++ rest) p r0 fits.front fits.last_sequence fits.events (grouped p rest) in
    let long : nat_lt (length (part_bytes p ++ rest)) 20 ≡ false = le-ltb (length (part_bytes p ++ rest)) 20 front.long in
    let l1 = list_complete counts s (CountFits s) (counts_exact s) p.counts r1 fits.counts in
    let l2 = list_complete latest s (LatestFits s) (latest_exact s) p.latest r2 fits.latest in
    let l3 = list_complete moments s MomentFits (moments_exact s) p.marks r3 fits.marks in
    let l4 = list_complete moments s MomentFits (moments_exact s) p.exits r4 fits.exits in
    let l5 = list_complete held s (SegmentFits s) (held_exact s) p.held rest fits.held in
    rw (long, front.front, front.rest_is, l1, l2, l3, l4, l5, front.last_sequence, front.events) refl

-- ---- the parts of all processors

pub record PartsRead (id processors processor table n : ℕ) (before : List Part) (b : List ℕ) (ps : List Part) (rest : List ℕ) : Type 0 where
  pub more : List Part
  pub all : ps ≡ before ++ more
  pub count : length more ≡ n
  pub fit : PartsFit id processors processor table more
  pub bytes_are : b ≡ flat_map part_bytes more ++ rest

pub parts_sound : (id processors table n processor : ℕ) (before : List Part) (b : List ℕ) (ps : List Part) (rest : List ℕ) → IsBytes b
    → parts_in (setting id processors 0 0 table) n processor before b ≡ Ok (ps, rest)
    → PartsRead id processors processor table n before b ps rest
unfolding parts_in
parts_sound id processors table zero processor before b ps rest small e =
    let pair = ok_is (before, b) (ps, rest) e in
    let same : before ≡ ps = ap (λ (x : List Part × List ℕ). x.0) pair in
    record {
      more = [];
      all = sym same ∙ sym (append-nil before);
      count = refl;
      fit = tt;
      bytes_are = ap (λ (x : List Part × List ℕ). x.1) pair;
    }
parts_sound id processors table (suc n) processor before b ps rest small e =
    let s = setting id processors 0 0 table in
    let t = two_steps (part_in (of_processor s processor) b)
    (λ (next : Part) (after : List ℕ). parts_in s n (processor + 1) (before ++ next ∷ []) after) (ps, rest) e in
    let one = part_sound id processors processor table b t.read t.rest small t.first_is in
    let tail : IsBytes t.rest = IsBytes-tail (part_bytes t.read) t.rest (rw one.bytes_are at small) in
    let others = parts_sound id processors table n (processor + 1) (before ++ t.read ∷ []) t.rest ps rest tail t.next_is in
    record {
      more = t.read ∷ others.more;
      all = others.all ∙ append_assoc before (t.read ∷ []) others.more;
      count = ap suc others.count;
      fit = (one.fits, others.fit);
      bytes_are = one.bytes_are ∙ ap (λ (x : List ℕ). part_bytes t.read ++ x) others.bytes_are
          ∙ sym (append_assoc (part_bytes t.read) (flat_map part_bytes others.more) rest);
    }

pub parts_complete : (id processors table : ℕ) (more : List Part) (processor : ℕ) (before : List Part) (rest : List ℕ)
    → PartsFit id processors processor table more
    → parts_in (setting id processors 0 0 table) (length more) processor before (flat_map part_bytes more ++ rest) ≡ Ok (before ++ more, rest)
unfolding parts_in
parts_complete id processors table [] processor before rest fit = rw (append-nil before) refl
parts_complete id processors table (p ∷ more) processor before rest fit =
    let s = setting id processors 0 0 table in
    let here : part_in (of_processor s processor) ((part_bytes p ++ flat_map part_bytes more) ++ rest) ≡ Ok (p, flat_map part_bytes more ++ rest) =
    rw (append_assoc (part_bytes p) (flat_map part_bytes more) rest)
    (part_complete id processors processor table p (flat_map part_bytes more ++ rest) fit.0) in
    let others = parts_complete id processors table more (processor + 1) (before ++ p ∷ []) rest fit.1 in
    let joined : (before ++ p ∷ []) ++ more ≡ before ++ p ∷ more = append_assoc before (p ∷ []) more in
    rw here (rw joined at others)
