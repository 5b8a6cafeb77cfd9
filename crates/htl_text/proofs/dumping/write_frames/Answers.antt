-- Each turn writes one address's line, and in the end no address is left.
use Rattle.std.proofs.Common.{◌≡◌, ◌∙◌, ◌*◌, ◌/◌, ◌++◌, ◌∷◌, [], ℕ, List, ap, append_assoc, length, sym}
use Rattle.std.specs.List.{flat_map}
use Rattle.std.proofs.lemmas.Grind.{flat_map-append}
use Rattle.std.proofs.lemmas.List.{append-nil}
use Rattle.htl_segment.specs.Numbers.{number}
use Rattle.htl_segment.proofs.Frames.{numbers-all, numbers-more}
use Rattle.htl_text.specs.Texts.{frame_line}
use Rattle.htl_text.proofs.dumping.write_frames.Goals as goal

one_more : (old : List ℕ) (addresses : List ℕ) (a : ℕ)
    → (old ++ flat_map frame_line addresses) ++ frame_line a ≡ old ++ flat_map frame_line (addresses ++ a ∷ [])
one_more old addresses a =
    append_assoc old (flat_map frame_line addresses) (frame_line a)
    ∙ ap (λ lines. old ++ lines) (sym (flat_map-append frame_line addresses (a ∷ [])
    ∙ ap (λ line. flat_map frame_line addresses ++ line) (append-nil (frame_line a))))

pub loop-place-preserved : goal.loop-place-preserved
loop-place-preserved c =
    let inv = c.loop-place.invariant in
    let frames = c.args.frames.now in
    let address = number (8 * c.loop-place.place) 8 frames in
    record {
      addresses = inv.addresses ++ address ∷ [];
      so_far = numbers-more inv.addresses c.loop-place.place (length frames / 8) frames _ c.loop-place-test.true inv.so_far;
      written = c.in_ok-extend_from_slice.ensures.items ∙ (rw (inv.written, c.frame_line.ensures, c.address_at.ensures)
          (one_more c.args.out.now.items inv.addresses address));
    }

pub returns : goal.returns
returns c =
    let inv = c.loop-place.invariant in
    let frames = c.args.frames.now in
    rw (← numbers-all inv.addresses c.loop-place.place (length frames / 8) frames _ c.loop-place-test.false inv.so_far) inv.written
