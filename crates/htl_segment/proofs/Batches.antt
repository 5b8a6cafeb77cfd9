-- Events that pass through a batch come behind those before, in order, and those that aren't wanted are left out.
use Rattle.std.proofs.Common.{◌≡◌, Bool, true, false, List, [], ◌∷◌, ◌++◌, map, sym, ap, ◌∙◌, append_assoc}
use Rattle.std.specs.Prelude.{filter}
use Rattle.htl_event.proofs.Members.{filter-pass, filter-skip}

-- what is made of a wanted event goes behind those of the batch, whether that was full or not
pub batched : {X : Type 0} (w : X → Bool) (f : X → X) (es next b batch rest : List X) (x : X) (total : List X)
    → next ++ batch ≡ es ++ (b ++ f x ∷ []) → w x ≡ true → es ++ (b ++ map f (filter w (x ∷ rest))) ≡ total
    → next ++ (batch ++ map f (filter w rest)) ≡ total
batched w f es next b batch rest x total put wanted so_far =
    let later = map f (filter w rest) in
    sym (append_assoc next batch later) ∙ ap (λ l. l ++ later) put ∙ append_assoc es (b ++ f x ∷ []) later
    ∙ ap (λ l. es ++ l) (append_assoc b (f x ∷ []) later) ∙ (rw (filter-pass w x rest wanted) at so_far)

-- one that isn't wanted is left out
pub unwanted : {X : Type 0} (w : X → Bool) (f : X → X) (es b rest : List X) (x : X) (total : List X) → w x ≡ false
    → es ++ (b ++ map f (filter w (x ∷ rest))) ≡ total → es ++ (b ++ map f (filter w rest)) ≡ total
unwanted w f es b rest x total left so_far = rw (filter-skip w x rest left) at so_far
