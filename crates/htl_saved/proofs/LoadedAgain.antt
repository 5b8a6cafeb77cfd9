-- Bytes that were saved of a standing state are loaded as it, unless memory is refused.
use Rattle.std.proofs.Common.{◌≡◌, ℕ, ◌<◌, ◌^◌, List, length, refl, sym, ◌∙◌, ap, arith, subst, inl, inr}
use Rattle.htl_analyst.specs.States.{State as Analyst}
use Rattle.htl_analyst.specs.Right.{IsState}
use Rattle.htl_analyst.specs.Restored.{Fold, CanRestore, RestoreRefused}
use Rattle.htl_analyst.specs.declared.fault.RestoreFault.{RestoreFault}
use Rattle.htl_analyst.specs.declared.fault.RestoreFault.TheVariants.{Processors, Counts, Events, NoMemory}
use Rattle.htl_analyst.proofs.Restores.{made_again}
use Rattle.htl_state.proofs.Readings.{ok_is}
use Rattle.htl_state.proofs.States.{state_complete}
use Rattle.htl_state.specs.Format.{spelling}
use Rattle.htl_state.specs.Rows.{State}
use Rattle.htl_state.specs.WellFormed.{WellFormed, Spells}
use Rattle.htl_saved.specs.declared.fault.LoadFault.{LoadFault}
use Rattle.htl_saved.specs.declared.fault.LoadFault.TheVariants.{Format, Bounds}
use Rattle.htl_saved.specs.Laws.{IsPlainState, IsWantOfMemory, AreLoadedAs, AreLoadedAgain}
use Rattle.htl_saved.specs.Loads.{LoadRefused}
use Rattle.htl_saved.specs.Restored.{state_told, folds_told}
use Rattle.htl_saved.proofs.StatesTold.{folds_of_told}
use Rattle.htl_saved.proofs.ToldBack.{tell_itself}
use Rattle.htl_saved.proofs.WellFormedRows.{are_plain, are_well_formed}

-- bytes spell one state
one_state : (bytes : List ℕ) (r s : State) → Spells bytes r → Spells bytes s → r ≡ s
one_state bytes r s p q = ok_is r s (sym (state_complete bytes r p) ∙ state_complete bytes s q)

-- where there is a state of the folds, it is refused for want of memory alone
memory_alone : (folds : List Fold) → CanRestore folds → (fault : RestoreFault) → RestoreRefused folds fault → fault ≡ NoMemory
memory_alone folds can Processors refused =
    elim refused [ inl none ↦ absurd (omega (arith, none, can.some)) | inr many ↦ absurd (omega (arith, many, can.few)) ]
memory_alone folds can (Counts p) (first, over) =
    let within = (can.each p first.here).counts in absurd (omega (arith, within, over))
memory_alone folds can (Events p) (first, over) =
    let within = (can.each p first.here).events in absurd (omega (arith, within, over.1))
memory_alone folds can NoMemory refused = refl

module _ (a : Analyst) (bytes : List ℕ) (rows : State) (spells : Spells bytes rows) (is : IsState a) (told : state_told rows ≡ a) where
  can : CanRestore (folds_told rows)
  can = (made_again (state_told rows) (folds_told rows) (subst IsState (sym told) is) (folds_of_told rows)).restores

  refused_as : (fault : LoadFault) → LoadRefused bytes fault → IsWantOfMemory fault
  refused_as (Format error) (inl memory) = memory
  refused_as (Format error) (inr read) = let clash = sym (state_complete bytes rows spells) ∙ read in absurd (cc)
  refused_as (Bounds fault) (others, spelled, refused) =
      memory_alone (folds_told rows) can fault
      (subst (λ (s : State). RestoreRefused (folds_told s) fault) (one_state bytes others rows spelled spells) refused)

  pub loaded_as : AreLoadedAs a bytes
  loaded_as = record {
    loaded = λ b l. l.told ∙ ap state_told (one_state bytes l.rows rows l.spelled spells) ∙ told;
    refused = refused_as;
  }

pub are_loaded_again : AreLoadedAgain
are_loaded_again T a bytes standing keeps saved small =
    let rows = saved.rows in
    let short : length (spelling rows) < 2 ^ 64 = subst (λ (b : List ℕ). length b < 2 ^ 64) saved.spelled small in
    let fits : WellFormed rows = are_well_formed T a rows standing keeps saved.are saved.few short in
    let plain : IsPlainState a = are_plain T a standing.right keeps in
    loaded_as a bytes rows (record { bytes_are = saved.spelled; fits = fits }) standing.right.state (tell_itself a rows plain saved.are)
