-- Segments that are written one after the other are written together.
use Rattle.std.proofs.Common.{◌≡◌, ◌∙◌, ℕ, ◌+◌, List, [], ◌∷◌, ◌++◌, refl, ap, append_assoc, Option, Some, None, add-one}
use Rattle.std.specs.Io.KnownBytes.{Appends}
use Rattle.std.proofs.lemmas.Grind.{flat_map-append}
use Rattle.std.proofs.lemmas.List.{map-append}
use Rattle.std.proofs.lemmas.List.Elements.{All-nil, All-append}
use Rattle.htl_segment.specs.Content.{Content, Fits}
use Rattle.htl_segment.specs.Bundles.{bundle}
use Rattle.htl_segment.specs.Encoding.{encoding}
use Rattle.htl_samples.specs.Samples.{IsOfTrace}
use Rattle.htl_samples.specs.declared.trace.Trace.{Trace}
use Rattle.make_samples.specs.Writing.{Writes, WritesKeys, key_of, turn, turns}
use Rattle.std.proofs.KnownBytes.{Appends-nil}

appends-both : (old mid new : Option (List ℕ)) (xs ys : List ℕ) → Appends old mid xs → Appends mid new ys → Appends old new (xs ++ ys)
appends-both None mid new xs ys a b = tt
appends-both (Some o) None new xs ys a b = absurd a
appends-both (Some o) (Some m) None xs ys a b = absurd b
appends-both (Some o) (Some m) (Some n) xs ys a b = rw (b, a) (append_assoc o xs ys)

pub writes-none : (trace : Trace) (old : Option (List ℕ)) → Writes trace [] old old
writes-none trace old = record {
  of_trace = All-nil (IsOfTrace trace);
  fit = All-nil Fits;
  bytes = Appends-nil old;
}

pub writes-both : (trace : Trace) (ss ts : List Content) (old mid new : Option (List ℕ)) → Writes trace ss old mid
    → Writes trace ts mid new → Writes trace (ss ++ ts) old new
writes-both trace ss ts old mid new a b = record {
  of_trace = All-append (IsOfTrace trace) ss ts a.of_trace b.of_trace;
  fit = All-append Fits ss ts a.fit b.fit;
  bytes = rw (flat_map-append encoding ss ts) (appends-both old mid new (bundle ss) (bundle ts) a.bytes b.bytes);
}

-- segments of some keys that were written, and then those of others, are written together
pub keys-both : (trace : Trace) (ks js : List (ℕ × ℕ)) (old mid new : Option (List ℕ)) → WritesKeys trace ks old mid
    → WritesKeys trace js mid new → WritesKeys trace (ks ++ js) old new
keys-both trace ks js old mid new a b = (
  a.0 ++ b.0,
  writes-both trace a.0 b.0 old mid new a.1 b.1,
  map-append key_of a.0 b.0 ∙ rw (a.2, b.2) refl,
)

-- a segment of a key that was written is what is written of this key
pub keys-one : (trace : Trace) (s : Content) (p n : ℕ) (old new : Option (List ℕ)) → s.processor ≡ p → s.number ≡ n
    → Writes trace (s ∷ []) old new → WritesKeys trace ((p, n) ∷ []) old new
keys-one trace s p n old new is_p is_n w = (s ∷ [], w, ap (λ (q : ℕ). (q, s.number) ∷ []) is_p ∙ ap (λ (m : ℕ). (p, m) ∷ []) is_n)

-- the keys of a turn over one processor more are those of the turn, and then that of this processor
pub turn-more : (p n : ℕ) → turn (p + 1) n ≡ turn p n ++ (p, n) ∷ []
turn-more p n = rw add-one refl

-- the keys of one turn more are those of the turns before, and then those of this turn
pub turns-more : (p n : ℕ) → turns p (n + 1) ≡ turns p n ++ turn p n
turns-more p n = rw add-one refl
