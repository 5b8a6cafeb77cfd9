-- A fault is passed on as it is, and inputs that were opened are all there.
use Rattle.std.proofs.Common.{◌≡◌, ◌⊎◌, ◌∙◌, Bool, false, inl, inr, true, ap, refl, sym}
use Rattle.std.specs.Prelude.{Result, Ok, Err}
use mathlib.Core.Bool.{true≢false}
use Rattle.htl_inputs.specs.declared.fault.RunFault.{RunFault}

fault_or : {S E : Type 0} → E → Result S E → E
fault_or other (Ok done) = other
fault_or other (Err fault) = fault

-- one fault is reported
pub same_fault : {S E : Type 0} (a b : E) (result : Result S E) → result ≡ Err a → result ≡ Err b → a ≡ b
unfolding fault_or
same_fault a b result one other = ap (fault_or a) (sym one ∙ other)

is_ok : {S E : Type 0} → Result S E → Bool
is_ok (Ok done) = true
is_ok (Err fault) = false

-- what ended well has no fault
pub no_fault : {S E : Type 0} (done : S) (fault : E) → Ok done ≡ Err fault → ⊥
unfolding is_ok
no_fault done fault is = true≢false (ap is_ok is)

-- what ended well has neither of two faults
pub no_end : {S X : Type 0} {one other : RunFault} (done : S)
    → (◌≡◌ {A = Result S RunFault} (Ok done) (Err one)) ⊎ (◌≡◌ {A = Result S RunFault} (Ok done) (Err other)) → X
no_end done (inl is) = absurd (no_fault done _ is)
no_end done (inr is) = absurd (no_fault done _ is)

-- one of two faults of the opening is the fault of what was to come of it
pub ends_so : {S T : Type 0} {one other : RunFault} (result : Result T RunFault) (fault : RunFault) → result ≡ Err fault
    → (◌≡◌ {A = Result S RunFault} (Err fault) (Err one)) ⊎ (◌≡◌ {A = Result S RunFault} (Err fault) (Err other))
    → (result ≡ Err one) ⊎ (result ≡ Err other)
ends_so result fault is (inl told) = inl (is ∙ ap Err (same_fault _ _ _ refl told))
ends_so result fault is (inr told) = inr (is ∙ ap Err (same_fault _ _ _ refl told))
