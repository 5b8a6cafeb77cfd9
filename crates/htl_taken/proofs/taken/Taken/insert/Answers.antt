-- The set with a loose number more at one processor has one key more.
use Rattle.std.proofs.Common.{◌≡◌, ◌<◌, ◌↔◌, ℕ, arith, length, get_or, map, sym, ap, ◌∙◌, Bool, true, false, not}
use Rattle.std.proofs.Common.{◌==◌, ◌&&◌, Result, Ok, Err, IfOk, OnOk, OnErr, List, if◌then◌else◌, slice_set, IsFalse, refl, subst}
use Rattle.std.specs.Prelude.{◌||◌}
use Rattle.htl_event.specs.declared.memory.NoMemory.{NoMemory}
use Rattle.htl_taken.specs.declared.number_set.NumberSet.{NumberSet}
use Rattle.htl_taken.specs.Numbers.{Numbers, numbers_at, has_number, has_key, with_loose}
use Rattle.htl_taken.specs.NumberSets.{Has}
use Rattle.htl_taken.specs.NumberSets.{numbers_of}
use Rattle.htl_taken.proofs.Keys.{has_number-decides, key_inserted, fresh_not}
use Rattle.htl_taken.proofs.NumberSets.{numbers_at-view, length-view, sets_set, sets_kept, Has-inserted, Has-known}
use Rattle.htl_taken.proofs.taken.Taken.insert.Given.{Over}
use Rattle.htl_taken.proofs.taken.Taken.insert.Goals as goal

module _ {A : Type 0} (sets : List (NumberSet A)) (ps : List Numbers) (view : map numbers_of sets ≡ ps) (p n : ℕ) (old : Numbers)
    (is : numbers_at ps p ≡ old) (new : NumberSet A) where
  abbrev IsMade : Bool → Type 0
  IsMade fresh = numbers_of new ≡ (if fresh then with_loose old n else old)

  changed : numbers_of new ≡ with_loose old n → map numbers_of (slice_set sets p new) ≡ slice_set ps p (with_loose (numbers_at ps p) n)
  changed e = rw (← view) (sets_set sets p new (with_loose (numbers_at (map numbers_of sets) p) n)
      (e ∙ ap (λ (q : Numbers). with_loose q n) (sym is ∙ ap (λ (qs : List Numbers). numbers_at qs p) (sym view))))

  kept : numbers_of new ≡ old → map numbers_of (slice_set sets p new) ≡ ps
  kept e = sets_kept sets p new (e ∙ sym is ∙ ap (λ (qs : List Numbers). numbers_at qs p) (sym view)) ∙ view

  inserted : (r : Result Bool NoMemory) → IfOk r IsMade
      → IfOk r (λ fresh. map numbers_of (slice_set sets p new) ≡ (if fresh then slice_set ps p (with_loose (numbers_at ps p) n) else ps))
  inserted (Ok true) e = changed e
  inserted (Ok false) e = kept e
  inserted (Err x) e = tt

  refused : (r : Result Bool NoMemory) → OnErr r (numbers_of new ≡ old) → OnErr r (map numbers_of (slice_set sets p new) ≡ ps)
  refused (Ok x) e = tt
  refused (Err x) e = kept e

  keyed : p < length ps → (r : Result Bool NoMemory) → IfOk r (λ fresh. IsFalse fresh ↔ Has old n) → IfOk r IsMade
      → OnOk r ((q m : ℕ) → has_key (map numbers_of (slice_set sets p new)) q m ≡ (has_key ps q m || (q == p && m == n)))
  keyed lt (Ok true) known e = rw (changed e)
      (λ q m. key_inserted ps (slice_set ps p (with_loose (numbers_at ps p) n)) p n q m (Has-inserted ps p n lt q m))
  keyed lt (Ok false) known e = rw (kept e)
      (λ q m. key_inserted ps ps p n q m (Has-known ps p n (subst (λ (q : Numbers). Has q n) (sym is) (known.0 refl)) q m))
  keyed lt (Err x) known e = tt

at : (g : Over) (c : goal.After-self-1 g) → numbers_at c.args.self.now c.args.processor ≡ numbers_of c.index_mut-numbers.result.now
at g c =
    let sets = c.self.inside.sets.items in
    let lt : c.args.processor < length sets = omega (arith, c.requires.processor, length-view sets c.args.self.now c.self.view_is) in
    let is : c.index_mut-numbers.result.now ≡ get_or sets c.args.processor c.index_mut-numbers.result.now =
    rw (← c.from.ensures) c.index_mut-numbers.ensures.value in
    numbers_at-view sets c.args.self.now c.self.view_is c.args.processor c.index_mut-numbers.result.now lt is

-- new exactly where it wasn't there
fresh_is : (q : Numbers) (n : ℕ) (r : Result Bool NoMemory) → IfOk r (λ fresh. IsFalse fresh ↔ Has q n)
    → IfOk r (λ fresh. fresh ≡ not (has_number q n))
fresh_is q n (Err x) known = tt
fresh_is q n (Ok fresh) known = fresh_not fresh (has_number q n) (λ f. (has_number-decides q n).1 (known.0 f))
    (λ t. known.1 ((has_number-decides q n).0 t))

pub returns-clause-fresh : goal.returns-clause-fresh
returns-clause-fresh g c = rw (at g c)
    (fresh_is (numbers_of c.index_mut-numbers.result.now) c.args.number c.insert.result c.insert.ensures.known)

pub returns-clause-ok : goal.returns-clause-ok
returns-clause-ok g c = rw c.from.ensures
    (inserted c.self.inside.sets.items c.args.self.now c.self.view_is c.args.processor c.args.number
    (numbers_of c.index_mut-numbers.result.now) (at g c) c.insert.new.self c.insert.result c.insert.ensures.ok)

pub returns-clause-err : goal.returns-clause-err
returns-clause-err g c = rw c.from.ensures
    (refused c.self.inside.sets.items c.args.self.now c.self.view_is c.args.processor c.args.number
    (numbers_of c.index_mut-numbers.result.now) (at g c) c.insert.new.self c.insert.result c.insert.ensures.err)

pub returns-clause-keys : goal.returns-clause-keys
returns-clause-keys g c = rw c.from.ensures
    (keyed c.self.inside.sets.items c.args.self.now c.self.view_is c.args.processor c.args.number
    (numbers_of c.index_mut-numbers.result.now) (at g c) c.insert.new.self c.requires.processor c.insert.result c.insert.ensures.known
    c.insert.ensures.ok)
