-- Bundles put together from pieces are split as the pieces are, and a refusal of a piece tells of all bytes.
use Rattle.std.proofs.Common.{◌≡◌, ℕ, ◌+◌, ◌-◌, ◌<◌, ◌≤◌, Bool, true, false, List, [], ◌∷◌, ◌++◌, length, get_or, take, drop, Option}
use Rattle.std.proofs.Common.{Some, None, Result, Ok, Err, cond, eqb, Bor, refl, sym, ap, ◌∙◌, append_assoc, arith, inl, inr, ◌⊎◌}
use Rattle.std.proofs.lemmas.List.{append-nil, length-append, length-take, take_all, take-append-drop, take_more, drop_at, drop-drop}
use Rattle.std.proofs.lemmas.Bool.{eqb-false}
use Rattle.std.proofs.lemmas.Grind.{flat_map-append}
use Rattle.std.proofs.lemmas.List.Elements.{All-nil, All-cons, All-append, All-head}
use Rattle.htl_segment.specs.declared.fault.Fault.{Fault}
use Rattle.htl_segment.specs.declared.fault.Fault.TheVariants as faults
use Rattle.htl_segment.specs.Content.{Content, Fits}
use Rattle.htl_segment.specs.Encoding.{encoding, BeginsWith}
use Rattle.htl_segment.specs.Reading.{length_in}
use Rattle.htl_segment.specs.Faults.{header_fault, first_fault}
use Rattle.htl_segment.specs.Bundles.{bundle, Splits, IsBoundary, BundleFault, SegmentAt, RestAt, IsRest, IsRefused, IsPieceRefused}
use Rattle.htl_segment.specs.Bundles.{is_early_end, cut_off}
use Rattle.htl_segment.specs.Feeding.{SplitsMore}
use Rattle.htl_segment.specs.Pieces.{SplitterState, RefusesPiece, AsksMemory, joined, ended, start_of}
use Rattle.htl_segment.specs.Feeding.{Extends, HasRoom}
use Rattle.htl_segment.proofs.SegmentLaws.{segment_again, begins}
use Rattle.htl_segment.proofs.MoreBytes.{number-append, header_fault-append, first_fault-append}
use Rattle.htl_segment.proofs.BundleLaws.{early_end, refused_boundary, late_stays, no_fault_stays, whole_fault, first_fault-rest}

-- the bytes of two lists of segments, one after the other, are those of both lists
pub bundle-append : (ss ts : List Content) → bundle (ss ++ ts) ≡ bundle ss ++ bundle ts
bundle-append ss ts = flat_map-append encoding ss ts

-- where bytes are whole segments, the segments of bytes behind them come behind these segments
pub splits_after : (a b rest : List ℕ) (ss ts : List Content) → Splits a ss [] → Splits b ts rest → Splits (a ++ b) (ss ++ ts) rest
splits_after a b rest ss ts first second =
    let whole : a ≡ bundle ss = first.parts ∙ append-nil (bundle ss) in
    record {
      parts = rw (whole, second.parts, bundle-append) (sym (append_assoc (bundle ss) (bundle ts) rest));
      fits = All-append Fits ss ts first.fits second.fits;
    }

pub splits_more : (a b rest : List ℕ) (ss new : List Content) → Splits a ss [] → SplitsMore b ss new rest → Splits (a ++ b) new rest
splits_more a b rest ss new first second = rw second.pushed (splits_after a b rest ss second.more first second.splits)

abbrev failed : ℕ × Fault → Result (Unit {0}) (ℕ × Fault)
failed refused = Err refused

pub offset_after : (a b rest : List ℕ) (ss ts : List Content) (offset : ℕ) → Splits a ss [] → Splits b ts rest → offset ≡ length (bundle ts)
    → length a + offset ≡ length (bundle (ss ++ ts))
offset_after a b rest ss ts offset first second is =
    omega (
      arith,
      ap length first.parts,
      length-append (bundle ss) [],
      ap length (bundle-append ss ts),
      length-append (bundle ss) (bundle ts),
      is,
    )

-- a boundary of bytes that stand behind whole segments is one of all bytes, that much further on
unfoldable pub boundary_after : (a b : List ℕ) (ss : List Content) (offset : ℕ) → Splits a ss [] → IsBoundary b offset
    → IsBoundary (a ++ b) (length a + offset)
boundary_after a b ss offset first here = record {
  before = ss ++ here.before;
  rest = here.rest;
  splits = splits_after a b here.rest ss here.before first here.splits;
  offset_is = offset_after a b here.rest ss here.before offset first here.splits here.offset_is;
}

pub fault_after : (a b : List ℕ) (ss : List Content) (offset : ℕ) (fault : Fault) → Splits a ss [] → BundleFault b offset fault
    → BundleFault (a ++ b) (length a + offset) fault
fault_after a b ss offset fault first found = record {
  before = ss ++ found.before;
  rest = found.rest;
  splits = splits_after a b found.rest ss found.before first found.splits;
  offset_is = offset_after a b found.rest ss found.before offset first found.splits found.offset_is;
  some = found.some;
  fault_is = found.fault_is;
}

segment_after : (a b : List ℕ) (ss : List Content) (offset : ℕ) → Splits a ss [] → SegmentAt b offset
    → SegmentAt (a ++ b) (length a + offset)
segment_after a b ss offset first at = record {
  before = ss ++ at.before;
  rest = at.rest;
  splits = splits_after a b at.rest ss at.before first at.splits;
  offset_is = offset_after a b at.rest ss at.before offset first at.splits at.offset_is;
  no_fault = at.no_fault;
}

rest_after : (a b : List ℕ) (ss : List Content) (offset : ℕ) → Splits a ss [] → RestAt b offset → RestAt (a ++ b) (length a + offset)
rest_after a b ss offset first at = record {
  before = ss ++ at.before;
  rest = at.rest;
  splits = splits_after a b at.rest ss at.before first at.splits;
  offset_is = offset_after a b at.rest ss at.before offset first at.splits at.offset_is;
  some = at.some;
  is_rest = at.is_rest;
}

-- a refusal of bytes that stand behind whole segments is one of all bytes, that much further on
pub refused_after : (a b : List ℕ) (ss : List Content) (offset : ℕ) (fault : Fault) → Splits a ss [] → IsRefused b offset fault
    → IsRefused (a ++ b) (length a + offset) fault
refused_after a b ss offset fault first refused =
    elim refused [
      | inl found ↦ inl (fault_after a b ss offset fault first found.0, found.1)
      | inr asked ↦ inr (asked.0, segment_after a b ss offset first asked.1)
    ]

piece_refused_after : (a b : List ℕ) (ss : List Content) (offset : ℕ) (fault : Fault) → Splits a ss [] → IsPieceRefused b offset fault
    → IsPieceRefused (a ++ b) (length a + offset) fault
piece_refused_after a b ss offset fault first refused =
    elim refused [
      | inl here ↦ inl (refused_after a b ss offset fault first here)
      | inr asked ↦ inr (asked.0, rest_after a b ss offset first asked.1)
    ]

-- whole segments end where a piece is refused
pub piece_boundary : (b : List ℕ) (offset : ℕ) (fault : Fault) → IsPieceRefused b offset fault → IsBoundary b offset
piece_boundary b offset fault refused =
    elim refused [
      | inl here ↦ refused_boundary b offset fault here
      | inr asked ↦ record { before = asked.1.before; rest = asked.1.rest; splits = asked.1.splits; offset_is = asked.1.offset_is }
    ]

-- ---- what follows a first segment

encodes_itself : (s : Content) → Fits s → Splits (encoding s) (s ∷ []) []
encodes_itself s fits = record {
  parts = sym (append-nil (encoding s)) ∙ sym (append-nil (encoding s ++ []));
  fits = All-cons Fits s [] fits (All-nil Fits);
}

-- where bytes are split into segments behind a first one, the first's encoding with these bytes is split into all of them
pub taken_after : (s : Content) (b rest : List ℕ) (new : List Content) → Fits s → SplitsMore b (s ∷ []) new rest
    → Splits (encoding s ++ b) new rest
taken_after s b rest new fits split = splits_more (encoding s) b rest (s ∷ []) new (encodes_itself s fits) split

-- a refusal of bytes that stand behind a segment's encoding is one of both together, that much further on
pub refused_behind : (s : Content) (b : List ℕ) (offset : ℕ) (fault : Fault) → Fits s → IsPieceRefused b offset fault
    → IsPieceRefused (encoding s ++ b) (length (encoding s) + offset) fault
refused_behind s b offset fault fits refused = piece_refused_after (encoding s) b (s ∷ []) offset fault (encodes_itself s fits) refused

-- memory was refused for the segment at the front
pub first_refused : (b : List ℕ) → first_fault b ≡ None → IsPieceRefused b 0 faults.NoMemory
first_refused b none =
    inl (inr (
      refl,
      record {
        before = [];
        rest = b;
        splits = record { parts = refl; fits = All-nil Fits };
        offset_is = refl;
        no_fault =
            none;
      },
    ))

-- bytes that begin with a segment's encoding may be refused at their front, for want of memory
pub encoded_refused : (s : Content) (b : List ℕ) → Fits s → IsPieceRefused (encoding s ++ b) 0 faults.NoMemory
encoded_refused s b fits = first_refused (encoding s ++ b) (segment_again s b fits).no_fault

pub late_refused : (b : List ℕ) (fault : Fault) → 0 < length b → first_fault b ≡ Some fault → is_early_end fault ≡ false
    → IsPieceRefused b 0 fault
late_refused b fault some is late =
    inl (inl (
      record {
        before = [];
        rest = b;
        splits = record { parts = refl; fits = All-nil Fits };
        offset_is = refl;
        some = some;
        fault_is = is;
      },
      late,
    ))

-- bytes that state their own length, and begin with a segment, are its encoding
pub whole_encoded : (w : List ℕ) (n : ℕ) (s : Content) → length_in w ≡ length w → BeginsWith w n s → w ≡ encoding s
whole_encoded w n s len front =
    let again = begins w n s front in
    sym (take_all n w (omega (arith, again.len, len, ap length front.encodes.bytes, length-take n w, front.inside))) ∙ front.encodes.bytes

-- a header and the bytes after it that begin with a segment are its encoding, and then what follows the segment
pub parts_encoded : (head left : List ℕ) (n : ℕ) (s : Content) → length head ≡ 32 → 32 ≤ n → BeginsWith (head ++ left) n s
    → head ++ left ≡ encoding s ++ drop (n - 32) left
parts_encoded head left n s len long front =
    let total : n ≡ length head + (n - 32) = omega arith in
    let tail : drop n (head ++ left) ≡ drop (n - 32) left = ap (λ (k : ℕ). drop k (head ++ left)) total
    ∙ sym (drop-drop (n - 32) (length head) (head ++ left)) ∙ ap (drop (n - 32)) (drop_at head left (length head) refl) in
    sym (take-append-drop n (head ++ left)) ∙ ap (λ (x : List ℕ). x ++ drop n (head ++ left)) front.encodes.bytes
    ∙ ap (λ (x : List ℕ). encoding s ++ x) tail

-- ---- bytes put after others

-- bytes extend themselves
pub extends_nothing : (b : List ℕ) → Extends b b
extends_nothing b = record { more = []; is = sym (append-nil b) }

-- bytes extend those that they equal
pub extends_same : (old new : List ℕ) → new ≡ old → Extends old new
extends_same old new same = record { more = []; is = same ∙ sym (append-nil old) }

-- ---- parts of a header and what follows it

-- a header made of a rest and a piece's first bytes, with the piece's other bytes, is the rest with the piece
pub parts_joined : (rest piece taken left head : List ℕ) → head ≡ rest ++ taken → piece ≡ taken ++ left → head ++ left ≡ rest ++ piece
parts_joined rest piece taken left head first second = rw (first, second) (append_assoc rest taken left)

-- ---- what is kept

-- a header that more bytes follow, and all the bytes that it states aren't there
pub cut_is_rest : (old more : List ℕ) → 32 ≤ length old → header_fault old ≡ None → length old + length more < length_in old
    → IsRest (old ++ more)
cut_is_rest old more long none fewer =
    let same : length_in (old ++ more) ≡ length_in old = number-append 28 4 old more (omega arith) in
    record { cut_off = inr (header_fault-append old more long ∙ none, omega (arith, same, length-append old more)) }

-- a vector with room for what a header states still has it when more bytes follow the header
pub cut_has_room : (old more : List ℕ) (c : ℕ) → 32 ≤ length old → 32 ≤ length_in old → length_in old ≤ c → HasRoom (old ++ more) c
cut_has_room old more c long low room =
    let same : length_in (old ++ more) ≡ length_in old = number-append 28 4 old more (omega arith) in
    record { header = λ _. omega (arith, low, room); records = λ _. omega (arith, same, room) }

-- a header that more bytes follow states the same length
pub length_in-append : (old more : List ℕ) → 32 ≤ length old → length_in (old ++ more) ≡ length_in old
length_in-append old more long = number-append 28 4 old more (omega arith)

-- bytes of the length that their own header states
pub record IsComplete (whole : List ℕ) : Type 0 where
  pub long : 32 ≤ length whole
  pub no_fault : header_fault whole ≡ None
  pub stated : length_in whole ≡ length whole

-- a rest that has a header, and then the bytes that this states
pub completed : (rest taken whole : List ℕ) → whole ≡ rest ++ taken → 32 ≤ length rest → header_fault rest ≡ None
    → length rest + length taken ≡ length_in rest → IsComplete whole
completed rest taken whole is long none len =
    let size : length whole ≡ length rest + length taken = ap length is ∙ length-append rest taken in
    let told : length_in whole ≡ length_in rest = ap length_in is ∙ length_in-append rest taken long in
    record {
      long = omega (arith, size, long);
      no_fault = ap header_fault is ∙ header_fault-append rest taken long ∙ none;
      stated = told ∙ sym len ∙ sym size;
    }

-- what is answered of them, whatever follows: memory was refused, or they have a fault
pub complete_refused : (w left : List ℕ) → IsComplete w → first_fault w ≡ None → IsPieceRefused (w ++ left) 0 faults.NoMemory
complete_refused w left complete none =
    first_refused (w ++ left) (first_fault-append w left complete.long (omega (arith, complete.stated)) ∙ none)

pub faulty_refused : (w left : List ℕ) (fault : Fault) → IsComplete w → first_fault w ≡ Some fault → IsPieceRefused (w ++ left) 0 fault
faulty_refused w left fault complete is =
    late_refused (w ++ left) fault (omega (arith, length-append w left, complete.long))
    (first_fault-append w left complete.long (omega (arith, complete.stated)) ∙ is)
    (whole_fault w fault complete.long complete.no_fault (omega (arith, complete.stated)) is)

pub rest_cut : (b : List ℕ) → IsRest b → 32 ≤ length b → (header_fault b ≡ None) × (length b < length_in b)
rest_cut b rest long =
    elim (rest.cut_off) [
      | inl short ↦ absurd (omega arith)
      | inr cut ↦ cut
    ]

-- bytes that may become a segment, which has so many
pub record IsPartOf (bytes : List ℕ) (len : ℕ) : Type 0 where
  pub fewer : length bytes < len
  pub is_rest : IsRest bytes
  pub room : (c : ℕ) → len ≤ c → HasRoom bytes c

-- a header, and fewer bytes after it than it states
pub header_cut : (head left : List ℕ) (fault : Fault) → length head ≡ 32 → first_fault (head ++ left) ≡ Some fault
    → is_early_end fault ≡ true → IsPartOf (head ++ left) (length_in head)
header_cut head left fault size is early =
    let is_rest = early_end (head ++ left) fault is early in
    let long : length (head ++ left) ≡ 32 + length left = length-append head left ∙ ap (λ n. n + length left) size in
    let cut = rest_cut (head ++ left) is_rest (omega (arith, long)) in
    let told = length_in-append head left (omega (arith, size)) in
    record {
      fewer = omega (arith, cut.1, told);
      is_rest = is_rest;
      room = λ c le. cut_has_room head left c (omega (arith, size)) (omega (arith, cut.1, told, long)) le;
    }

-- the rest is no longer than what was fed
pub rest_inside : (held piece rest : List ℕ) (segments : List Content) (fed : ℕ) → Splits (held ++ piece) segments rest
    → length held ≤ fed → length rest ≤ fed + length piece
rest_inside held piece rest segments fed splits inside =
    omega (arith, ap length splits.parts, length-append held piece, length-append (bundle segments) rest)

-- ---- one piece after the other

front_split : (a rest : List ℕ) (ss : List Content) → Splits a ss rest → Splits (bundle ss) ss []
front_split a rest ss split = record { parts = sym (append-nil (bundle ss)); fits = split.fits }

pub regroup : (a rest piece : List ℕ) (ss : List Content) → Splits a ss rest → a ++ piece ≡ bundle ss ++ (rest ++ piece)
regroup a rest piece ss split = ap (λ (x : List ℕ). x ++ piece) split.parts ∙ append_assoc (bundle ss) rest piece

-- the segments of a rest with the next piece come behind those that were split off before it
pub splits_next : (a piece rest new : List ℕ) (ss ts : List Content) → Splits a ss rest → Splits (rest ++ piece) ts new
    → Splits (a ++ piece) (ss ++ ts) new
splits_next a piece rest new ss ts split next =
    rw (regroup a rest piece ss split) (splits_after (bundle ss) (rest ++ piece) new ss ts (front_split a rest ss split) next)

-- a bundle's fault that more bytes can't mend stays when more bytes follow
pub fault_more : (b more : List ℕ) (offset : ℕ) (fault : Fault) → is_early_end fault ≡ false → BundleFault b offset fault
    → BundleFault (b ++ more) offset fault
fault_more b more offset fault late found = record {
  before = found.before;
  rest = found.rest ++ more;
  splits = record {
    parts = regroup b found.rest more found.before found.splits;
    fits = found.splits.fits;
  };
  offset_is = found.offset_is;
  some = omega (arith, length-append found.rest more, found.some);
  fault_is = late_stays found.rest more fault late found.fault_is;
}

-- a segment that begins at an offset still begins there when more bytes follow
pub segment_more : (b more : List ℕ) (offset : ℕ) → SegmentAt b offset → SegmentAt (b ++ more) offset
segment_more b more offset at = record {
  before = at.before;
  rest = at.rest ++ more;
  splits = record { parts = regroup b at.rest more at.before at.splits; fits = at.splits.fits };
  offset_is = at.offset_is;
  no_fault = no_fault_stays at.rest more at.no_fault;
}

fault_here : (s : SplitterState) (a piece more : List ℕ) (ss : List Content) (offset inside : ℕ) (fault : Fault) → Splits a ss s.rest
    → s.fed ≡ length a → offset ≡ start_of s + inside → is_early_end fault ≡ false → BundleFault (s.rest ++ piece) inside fault
    → BundleFault ((a ++ piece) ++ more) offset fault
fault_here s a piece more ss offset inside fault split fed is late fault_inside =
    let start : offset ≡ length (bundle ss) + inside = omega (arith, is, fed, ap length split.parts, length-append (bundle ss) s.rest) in
    let found = fault_after (bundle ss) (s.rest ++ piece) ss inside fault (front_split a s.rest ss split) fault_inside in
    let here : BundleFault (a ++ piece) offset fault = rw (regroup a s.rest piece ss split, start) found in
    fault_more (a ++ piece) more offset fault late here

asked_here : (s : SplitterState) (a piece : List ℕ) (ss : List Content) (offset inside : ℕ) → Splits a ss s.rest → s.fed ≡ length a
    → offset ≡ start_of s + inside → SegmentAt (s.rest ++ piece) inside → SegmentAt (a ++ piece) offset
asked_here s a piece ss offset inside split fed is asked =
    let start : offset ≡ length (bundle ss) + inside = omega (arith, is, fed, ap length split.parts, length-append (bundle ss) s.rest) in
    rw (
      regroup a s.rest piece ss split,
      start,
    ) (segment_after (bundle ss) (s.rest ++ piece) ss inside (front_split a s.rest ss split) asked)

rest_here : (s : SplitterState) (a piece : List ℕ) (ss : List Content) (offset inside : ℕ) → Splits a ss s.rest → s.fed ≡ length a
    → offset ≡ start_of s + inside → RestAt (s.rest ++ piece) inside → RestAt (a ++ piece) offset
rest_here s a piece ss offset inside split fed is asked =
    let start : offset ≡ length (bundle ss) + inside = omega (arith, is, fed, ap length split.parts, length-append (bundle ss) s.rest) in
    rw (regroup a s.rest piece ss split, start) (rest_after (bundle ss) (s.rest ++ piece) ss inside (front_split a s.rest ss split) asked)

-- What a refused piece reports of all bytes: their first fault, or where memory was refused in those fed.
pub record Brought (a more : List ℕ) (offset : ℕ) (fault : Fault) : Type 0 where
  pub boundary : IsBoundary (a ++ more) offset
  pub cause : BundleFault (a ++ more) offset fault ⊎ ((fault ≡ faults.NoMemory) × (SegmentAt a offset ⊎ RestAt a offset))

-- a boundary stays one when more bytes follow
unfoldable pub boundary_more : (a more : List ℕ) (offset : ℕ) → IsBoundary a offset → IsBoundary (a ++ more) offset
boundary_more a more offset here = record {
  before = here.before;
  rest = here.rest ++ more;
  splits = record { parts = regroup a here.rest more here.before here.splits; fits = here.splits.fits };
  offset_is = here.offset_is;
}

-- the refusal of a piece tells where all bytes have their first fault, or where memory was refused in those fed
pub brought : (s : SplitterState) (a piece more : List ℕ) (ss : List Content) (refusal : ℕ × Fault) → Splits a ss s.rest
    → s.fed ≡ length a → RefusesPiece s piece refusal
    → Brought (a ++ piece) more refusal.0 refusal.1
brought s a piece more ss refusal split fed refuses =
    let start : refusal.0 ≡ length (bundle ss) + refuses.inside =
    omega (arith, refuses.offset_is, fed, ap length split.parts, length-append (bundle ss) s.rest) in
    let there = boundary_after (bundle ss) (s.rest ++ piece) ss refuses.inside (front_split a s.rest ss split)
    (piece_boundary (s.rest ++ piece) refuses.inside refusal.1 refuses.refused) in
    let here : IsBoundary (a ++ piece) refusal.0 = rw (regroup a s.rest piece ss split, start) there in
    record {
      boundary = boundary_more (a ++ piece) more refusal.0 here;
      cause = elim (refuses.refused) [
        | inl refused ↦ elim refused [
          | inl found ↦ inl (fault_here s a piece more ss refusal.0 refuses.inside refusal.1 split fed refuses.offset_is found.1 found.0)
          | inr asked ↦ inr (asked.0, inl (asked_here s a piece ss refusal.0 refuses.inside split fed refuses.offset_is asked.1))
        ]
        | inr asked ↦ inr (asked.0, inr (rest_here s a piece ss refusal.0 refuses.inside split fed refuses.offset_is asked.1))
      ];
    }

-- memory was refused for the list of the segments that a piece completed
pub list_refused : (s : SplitterState) (a piece more rest : List ℕ) (ss new : List Content) → Splits a ss s.rest → s.fed ≡ length a
    → Splits (s.rest ++ piece) new rest → 0 < length new
    → Brought (a ++ piece) more (start_of s) faults.NoMemory
list_refused s a piece more rest ss [] split fed taken some = absurd (omega arith)
list_refused s a piece more rest ss (t ∷ ts) split fed taken some =
    let parts : s.rest ++ piece ≡ encoding t ++ (bundle ts ++ rest) = taken.parts ∙ append_assoc (encoding t) (bundle ts) rest in
    let none : first_fault (s.rest ++ piece) ≡ None = ap first_fault parts
    ∙ (segment_again t (bundle ts ++ rest) (All-head Fits t ts taken.fits)).no_fault in
    brought s a piece more ss (
      start_of s,
      faults.NoMemory,
    ) split fed (record { inside = 0; offset_is = omega arith; refused = first_refused (s.rest ++ piece) none })

-- what an index beyond all pieces would give
abbrev pub no_piece : Bor (List ℕ)
no_piece = record { ref_ptr = (0, 0); now = [] }

-- the bytes of the first pieces and one more are those of the first, and then the piece
pub joined-more : (pieces : List (Bor (List ℕ))) (i : ℕ) → i < length pieces
    → joined (take (i + 1) pieces) ≡ joined (take i pieces) ++ (get_or pieces i no_piece).now
joined-more pieces i lt =
    ap joined (take_more pieces i no_piece lt)
    ∙ flat_map-append (λ (piece : Bor (List ℕ)). piece.now) (take i pieces) (get_or pieces i no_piece ∷ [])
    ∙ ap (λ (x : List ℕ). joined (take i pieces) ++ x) (append-nil (get_or pieces i no_piece).now)

-- what is joined before a piece, the piece, and what is joined after it
pub joined-around : (pieces : List (Bor (List ℕ))) (i : ℕ) → i < length pieces
    → joined pieces ≡ (joined (take i pieces) ++ (get_or pieces i no_piece).now) ++ joined (drop (i + 1) pieces)
joined-around pieces i lt =
    ap joined (sym (take-append-drop (i + 1) pieces))
    ∙ flat_map-append (λ (piece : Bor (List ℕ)). piece.now) (take (i + 1) pieces) (drop (i + 1) pieces)
    ∙ ap (λ (x : List ℕ). x ++ joined (drop (i + 1) pieces)) (joined-more pieces i lt)

-- what a refused piece reports of all pieces
pub told_of_pieces : (pieces : List (Bor (List ℕ))) (i offset : ℕ) (fault : Fault) → i < length pieces
    → Brought (joined (take i pieces) ++ (get_or pieces i no_piece).now) (joined (drop (i + 1) pieces)) offset fault
    → BundleFault (joined pieces) offset fault ⊎ ((fault ≡ faults.NoMemory) × AsksMemory pieces offset)
told_of_pieces pieces i offset fault lt found =
    elim (found.cause) [
      | inl first ↦ inl (rw (joined-around pieces i lt) first)
      | inr asked ↦ inr (asked.0, record { taken = i + 1; asked = rw (joined-more pieces i lt) (asked.1) })
    ]

-- whole segments end where a bundle has its fault
pub fault_boundary : (b : List ℕ) (offset : ℕ) (fault : Fault) → BundleFault b offset fault → IsBoundary b offset
fault_boundary b offset fault found =
    record { before = found.before; rest = found.rest; splits = found.splits; offset_is = found.offset_is }

ended_with : (t : Bool) (refused other : ℕ × Fault) → failed refused ≡ cond t (Ok tt) (failed other) → (t ≡ false) × (refused ≡ other)
ended_with true refused other is = absurd cc
ended_with false refused other is = (refl, cc)

-- the end of the bytes inside a segment
pub ended_inside : (s : SplitterState) (a : List ℕ) (ss : List Content) (refused : ℕ × Fault) → Splits a ss s.rest → s.fed ≡ length a
    → s.fault ≡ None → IsRest s.rest → failed refused ≡ ended s.fault (start_of s) s.rest → BundleFault a refused.0 refused.1
ended_inside s a ss refused split fed none rest is =
    let end = ended_with (eqb (length s.rest) 0) refused (start_of s, cut_off s.rest) (is
    ∙ ap (λ (fault : Option (ℕ × Fault)). ended fault (start_of s) s.rest) none) in
    let some : length s.rest ≡ 0 → ⊥ = eqb-false _ _ end.0 in
    let found : BundleFault a (start_of s) (cut_off s.rest) = record {
      before = ss;
      rest = s.rest;
      splits = split;
      offset_is = omega (arith, fed, ap length split.parts, length-append (bundle ss) s.rest);
      some = omega arith;
      fault_is = first_fault-rest s.rest rest;
    } in
    rw end.1 found
