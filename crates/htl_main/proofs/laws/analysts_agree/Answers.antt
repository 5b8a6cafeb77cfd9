-- Both definitions say the same of the rows, and an answer also repeats its question.
use Rattle.std.proofs.Common.{◌≡◌, List, refl, subst, sym}
use Rattle.htl_question.specs.Answers.{Are}
use Rattle.htl_question.specs.Rows.{Listed, bad, leaks, opens, stacks, tags}
use Rattle.htl_main.proofs.laws.analysts_agree.Goals as goal

inside : {R : Type 0} (form : List R → Listed) (Holds : List R → Type 0) (rows : List R) → ((xs : List R) → form rows ≡ form xs → rows ≡ xs)
    → Are form Holds (form rows) → Holds rows
inside form Holds rows same are = subst Holds (sym (same are.0 are.1)) are.2

pub returns-clause-outstanding : goal.returns-clause-outstanding
returns-clause-outstanding c = λ B process rows. (
  (λ h. inside opens _ rows.items (λ xs is. cc is) h.rows),
  (λ h. record { asked = refl; since = refl; rows = (rows.items, refl, h) }),
)

pub returns-clause-diff : goal.returns-clause-diff
returns-clause-diff c = λ B process since rows. (
  (λ h. inside opens _ rows.items (λ xs is. cc is) h.rows),
  (λ h. record { asked = refl; since = (since, refl, refl); rows = (rows.items, refl, h) }),
)

pub returns-clause-tags : goal.returns-clause-tags
returns-clause-tags c = λ B object rows. (
  (λ h. inside tags _ rows.items (λ xs is. cc is) h.rows),
  (λ h. record { asked = refl; since = refl; rows = (rows.items, refl, h) }),
)

pub returns-clause-bad : goal.returns-clause-bad
returns-clause-bad c = λ B process rows. (
  (λ h. inside bad _ rows.items (λ xs is. cc is) h.rows),
  (λ h. record { asked = refl; since = refl; rows = (rows.items, refl, h) }),
)

pub returns-clause-leaks : goal.returns-clause-leaks
returns-clause-leaks c = λ B process rows. (
  (λ h. inside leaks _ rows.items (λ xs is. cc is) h.rows),
  (λ h. record { asked = refl; since = refl; rows = (rows.items, refl, h) }),
)

pub returns-clause-stacks : goal.returns-clause-stacks
returns-clause-stacks c = λ B object tag rows. (
  (λ h. inside stacks _ rows.items (λ xs is. cc is) h.rows),
  (λ h. record { asked = refl; since = refl; rows = (rows.items, refl, h) }),
)
