-- Other readers of a source are asked for one after another, and nothing else of it changes.
use Rattle.std.proofs.Common.{◌≡◌, ◌+◌, ◌≤◌, ◌∙◌, ℕ, Bool, ap, arith, refl}
use Rattle.htl_device.specs.States.{SourceState}
use Rattle.htl_reading.specs.Parts.{AsksFew, IsTailed}

-- none, of at most so many
pub asks_nothing : (most : ℕ) (source : SourceState) → AsksFew most source source
asks_nothing most source = record { none = λ is. refl; few = omega arith }

-- none, and then some more
pub asks_more : (first second most : ℕ) (old mid new : SourceState) → first + second ≤ most → AsksFew first old mid → AsksFew second mid new
    → AsksFew most old new
asks_more first second most old mid new fits one other = record {
  none = λ is. other.none (omega (arith, is, fits)) ∙ one.none (omega (arith, is, fits));
  few = (let few = one.few in let more = other.few in omega (arith, fits, few, more));
}

-- some, before what asks for none
pub asks_still : (most : ℕ) (old mid new : SourceState) → AsksFew most old mid → new.tails ≡ mid.tails → AsksFew most old new
asks_still most old mid new asks same = record {
  none = λ is. same ∙ asks.none is;
  few = rw same asks.few;
}

-- the same bytes are left of the source
pub same_left : (old new : SourceState) → new ≡ record old { tails = new.tails } → new.remaining ≡ old.remaining
same_left old new same = ap (λ (source : SourceState). source.remaining) same

module _ {R : Type 0} (state : R → SourceState) (is_parted : R → Bool) where
  pub tailed_none : (most : ℕ) (source : R) → IsTailed state is_parted most source source
  tailed_none most source = record { asks = asks_nothing most (state source); same = refl; parted = refl }

  -- some, and then some more
  pub tailed_more : (first second most : ℕ) (old mid new : R) → first + second ≤ most → IsTailed state is_parted first old mid
      → IsTailed state is_parted second mid new → IsTailed state is_parted most old new
  tailed_more first second most old mid new fits one other = record {
    asks = asks_more first second most (state old) (state mid) (state new) fits one.asks other.asks;
    same = other.same ∙ ap (λ (source : SourceState). record source { tails = (state new).tails }) one.same;
    parted = other.parted ∙ one.parted;
  }
