-- Once an event was noted, a table has the later event at its key, and what it had at each other.
use Rattle.std.proofs.Common.{◌≡◌, ℕ, ◌==◌, ◌&&◌, Bool, true, ◌<◌, ◌≤◌, List, [], ◌∷◌}
use Rattle.std.proofs.Common.{Option, Some, None, refl, sym, ap, ◌∙◌, inl, inr, cond}
use Rattle.std.specs.Ordering.{eq_by_cmp}
use Rattle.std.proofs.lemmas.Option.{same_Some}
use Rattle.std.specs.FinMap.Entries.{find, put, find-put, is_sorted-put}
use Rattle.std.proofs.lemmas.Bool.{cases_Bool, lt-ltb, le-ltb, and_parts, eqb-true}
use Rattle.htl_event.specs.Events.{Event}
use Rattle.htl_event.specs.Slots.{base_of}
use Rattle.htl_event.specs.Handles.{later}
use Rattle.htl_sorted.specs.Entries.{IsSorted}
use Rattle.htl_tables.specs.Keys.{key_cmp, key_of, keyed}
use Rattle.htl_tables.specs.KeyLaws.{key_cmp-equal}
use Rattle.htl_tables.specs.Latest.{event_at, with_event}
use Rattle.htl_event.specs.Handles.{opens_or_closes}
use Rattle.htl_event.proofs.EventTests.{opens_or_closes_base}
use Rattle.htl_tables.proofs.KeyOrder.{key_total, key_test}
use Rattle.htl_lemmas.proofs.Tests.{equal}

-- the event is later than what is there
abbrev pub IsLater : Event → Option Event → Type 0
IsLater e None = Unit {0}
IsLater e (Some x) = x.sequence < e.sequence

later-newer : (old : Option Event) (e : Event) → IsLater e old → later old (Some e) ≡ Some e
later-newer None e h = refl
later-newer (Some x) e h = rw (lt-ltb x.sequence e.sequence h) refl

later-older : (x e : Event) → e.sequence ≤ x.sequence → later (Some x) (Some e) ≡ Some x
later-older x e le = rw (le-ltb x.sequence e.sequence le) refl

module _ (rows : List Event) (e : Event) (opens : opens_or_closes e.kind ≡ true) (process base : ℕ) where
  here : Bool
  here = e.process == process && base_of e.handle == base

  tests_here : opens_or_closes_base process base e ≡ (e.process == process && base_of e.handle == base)
  tests_here = rw opens refl

  key_here : (e.process == process && base_of e.handle == base) ≡ true
      → event_at rows process base ≡ event_at rows e.process (base_of e.handle)
  key_here t =
      let both = and_parts (e.process == process) (base_of e.handle == base) t in
      let p : process ≡ e.process = sym (eqb-true e.process process both.0) in
      let b : base ≡ base_of e.handle = sym (eqb-true (base_of e.handle) base both.1) in
      ap (λ (n : ℕ). event_at rows n base) p ∙ ap (λ (n : ℕ). event_at rows e.process n) b

  -- a later event was put at its key
  pub put_noted : (new : List Event) → keyed new ≡ put key_cmp (key_of e) e (keyed rows)
      → IsLater e (event_at rows e.process (base_of e.handle))
      → event_at new process base ≡ with_event process base (event_at rows process base) e
  put_noted new made newer =
      let found : event_at new process base ≡ cond (eq_by_cmp key_cmp (process, base) (key_of e)) (Some e) (event_at rows process base)
      = ap (λ (es : List ((ℕ × ℕ) × Event)). find key_cmp (process, base) es) made
      ∙ find-put key_cmp key_total (process, base) (key_of e) e (keyed rows) in
      let test : eq_by_cmp key_cmp (process, base) (key_of e) ≡ (e.process == process && base_of e.handle == base) =
      key_test (process, base) (key_of e) in
      elim (cases_Bool (e.process == process && base_of e.handle == base)) [
        | inl t ↦ found ∙ rw (test, tests_here, t, key_here t) (sym (later-newer (event_at rows e.process (base_of e.handle)) e newer))
        | inr f ↦ found ∙ rw (test, tests_here, f) refl
      ]

  -- an event that isn't later leaves all as it is
  pub kept_noted : (x : Event) → event_at rows e.process (base_of e.handle) ≡ Some x → e.sequence ≤ x.sequence
      → event_at rows process base ≡ with_event process base (event_at rows process base) e
  kept_noted x found le =
      elim (cases_Bool (e.process == process && base_of e.handle == base)) [
        | inl t ↦ rw (tests_here, t, key_here t, found) (sym (later-older x e le))
        | inr f ↦ rw (tests_here, f) refl
      ]

-- a sorted table into which an event was put at its key is sorted
pub sorted_put : (rows new : List Event) (e : Event) → IsSorted key_cmp (keyed rows) → keyed new ≡ put key_cmp (key_of e) e (keyed rows)
    → IsSorted key_cmp (keyed new)
sorted_put rows new e sorted made = rw made (is_sorted-put key_cmp key_total (key_of e) e (keyed rows) sorted)

-- what is found at a key has that key
pub event_at-key : (rows : List Event) (process base : ℕ) (x : Event) → event_at rows process base ≡ Some x → key_of x ≡ (process, base)
event_at-key [] process base x found = cc
event_at-key (row ∷ rows) process base x found =
    elim (cases_Bool (eq_by_cmp key_cmp (process, base) (key_of row))) [
      | inl t ↦
          let same : row ≡ x = same_Some row x (rw t at found) in
          let tied : (process, base) ≡ key_of row =
          key_cmp-equal (process, base) (key_of row) (equal (key_cmp (process, base) (key_of row)) t) in
          sym (tied ∙ ap key_of same)
      | inr f ↦ event_at-key rows process base x (rw f at found)
    ]
