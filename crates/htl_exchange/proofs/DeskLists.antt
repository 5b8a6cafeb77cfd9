-- Lists of desks have the parts, the pushes and the runs of their desks, wherever a desk stands in them.
use Rattle.std.proofs.Common.{◌≡◌, ℕ, zero, suc, ◌+◌, ◌≤◌, ◌<◌, ◌||◌, List, [], ◌∷◌, ◌++◌, take, length, get_or, add-one, sym, ap, ◌∙◌, arith, inl, inr}
use mathlib.Core.Bool.{or-false, or_assoc}
use Rattle.std.proofs.lemmas.Bool.{or_cases, or_left, or_right}
use Rattle.htl_exchange.specs.declared.pass.Known.{Known}
use Rattle.htl_exchange.specs.Runs.{has}
use Rattle.htl_exchange.specs.Moves.{joined}
use Rattle.htl_exchange.specs.Desks.{ExchangeValue, DeskValue, IsDeskOf, AreDesksOf, IsFresh, AreFresh, parts_at, pushes_at, any_desk_got, KeepAll}
use Rattle.htl_exchange.proofs.Sets.{has-union}

-- with a desk put last, the desks have its parts more
pub parts_at-last : (ds : List DeskValue) (d : DeskValue) → parts_at (ds ++ d ∷ []) ≡ parts_at ds + d.known.parts
parts_at-last [] d = omega arith
parts_at-last (x ∷ ds) d = omega (arith, parts_at-last ds d)

-- with a desk put last, the desks have its pushes more
pub pushes_at-last : (ds : List DeskValue) (d : DeskValue) → pushes_at (ds ++ d ∷ []) ≡ pushes_at ds + d.known.pushes
pushes_at-last [] d = omega arith
pushes_at-last (x ∷ ds) d = omega (arith, pushes_at-last ds d)

-- with a desk of the exchange put last, all are desks of the exchange
pub desks-add : (e : ExchangeValue) (ds : List DeskValue) (d : DeskValue) → AreDesksOf e ds → IsDeskOf e d → AreDesksOf e (ds ++ d ∷ [])
desks-add e [] d a b = (b, tt)
desks-add e (x ∷ ds) d a b = (a.0, desks-add e ds d a.1 b)

-- all but the last of an exchange's desks are its desks
pub desks-front : (e : ExchangeValue) (ds : List DeskValue) (d : DeskValue) → AreDesksOf e (ds ++ d ∷ []) → AreDesksOf e ds
desks-front e [] d a = tt
desks-front e (x ∷ ds) d a = (a.0, desks-front e ds d a.1)

-- the last of an exchange's desks is one of its desks
pub desks-last : (e : ExchangeValue) (ds : List DeskValue) (d : DeskValue) → AreDesksOf e (ds ++ d ∷ []) → IsDeskOf e d
desks-last e [] d a = a.0
desks-last e (x ∷ ds) d a = desks-last e ds d a.1

-- the first desks have no more parts than all
pub parts_at-take : (ds : List DeskValue) (i : ℕ) → parts_at (take i ds) ≤ parts_at ds
parts_at-take [] zero = omega arith
parts_at-take [] (suc i) = omega arith
parts_at-take (d ∷ ds) zero = omega arith
parts_at-take (d ∷ ds) (suc i) = omega (arith, parts_at-take ds i)

more : (ds : List DeskValue) (i : ℕ) (d : DeskValue) → i < length ds → parts_at (take (suc i) ds) ≡ parts_at (take i ds) + (get_or ds i d).known.parts
more [] i d h = absurd (omega (arith, h))
more (x ∷ ds) zero d h = omega arith
more (x ∷ ds) (suc i) d h = omega (arith, more ds i d (omega (arith, h)))

-- the first desks and one more have its parts more
pub parts_at-more : (ds : List DeskValue) (i : ℕ) (d : DeskValue) → i < length ds
    → parts_at (take (i + 1) ds) ≡ parts_at (take i ds) + (get_or ds i d).known.parts
parts_at-more ds i d h = rw add-one (more ds i d h)

-- with a fresh desk put last, fresh desks are all fresh
pub fresh-add : (ds : List DeskValue) (d : DeskValue) → AreFresh ds → IsFresh d → AreFresh (ds ++ d ∷ [])
fresh-add [] d a b = (b, tt)
fresh-add (x ∷ ds) d a b = (a.0, fresh-add ds d a.1 b)

-- ---- what desks have got

pub got-last : (p : ℕ) (ds : List DeskValue) (d : DeskValue) → any_desk_got p (ds ++ d ∷ []) ≡ (any_desk_got p ds || has d.known.got p)
got-last p [] d = or-false (has d.known.got p)
got-last p (x ∷ ds) d = ap (λ b. has x.known.got p || b) (got-last p ds d) ∙ sym (or_assoc (has x.known.got p) (any_desk_got p ds) (has d.known.got p))

-- the last desk may as well stand first
pub last_first : (ds : List DeskValue) (d : DeskValue) → KeepAll (ds ++ d ∷ []) (d ∷ ds)
last_first ds d p h =
    elim (or_cases (any_desk_got p ds) (has d.known.got p) (sym (got-last p ds d) ∙ h)) [
      | inl rest ↦ or_right (has d.known.got p) (any_desk_got p ds) rest
      | inr mine ↦ or_left (has d.known.got p) (any_desk_got p ds) mine
    ]

-- each run that some desks have got is still got where the first of them stands last
pub first_last : (ds : List DeskValue) (d : DeskValue) → KeepAll (d ∷ ds) (ds ++ d ∷ [])
first_last ds d p h =
    got-last p ds d ∙ elim (or_cases (has d.known.got p) (any_desk_got p ds) h) [
      | inl mine ↦ or_right (any_desk_got p ds) (has d.known.got p) mine
      | inr rest ↦ or_left (any_desk_got p ds) (has d.known.got p) rest
    ]

-- runs that are kept from the first desks to the second, and on to the third, are kept from the first to the third
pub keeps-through : (a b c : List DeskValue) → KeepAll a b → KeepAll b c → KeepAll a c
keeps-through a b c f g p h = g p (f p h)

-- the first desk has adopted the last
pub keeps-adopted : (d e other : DeskValue) (ds : List DeskValue) → e.known ≡ joined d.known other.known → KeepAll (d ∷ (ds ++ other ∷ [])) (e ∷ ds)
keeps-adopted d e other ds is p h =
    let both : has e.known.got p ≡ (has d.known.got p || has other.known.got p) =
    ap (λ (v : Known). has v.got p) is ∙ has-union d.known.got other.known.got p in
    elim (or_cases (has d.known.got p) (any_desk_got p (ds ++ other ∷ [])) h) [
      | inl mine ↦ or_left (has e.known.got p) (any_desk_got p ds) (both ∙ or_left (has d.known.got p) (has other.known.got p) mine)
      | inr rest ↦ elim (or_cases (any_desk_got p ds) (has other.known.got p) (sym (got-last p ds other) ∙ rest)) [
        | inl front ↦ or_right (has e.known.got p) (any_desk_got p ds) front
        | inr its ↦ or_left (has e.known.got p) (any_desk_got p ds) (both ∙ or_right (has d.known.got p) (has other.known.got p) its)
      ]
    ]

-- it was refused, and both are as they were
pub keeps-refused : (d e other again : DeskValue) (ds : List DeskValue) → e.known ≡ d.known → again.known ≡ other.known
    → KeepAll (d ∷ (ds ++ other ∷ [])) (e ∷ (ds ++ again ∷ []))
keeps-refused d e other again ds same same' p h =
    (λ i. has (same i).got p || got-last p ds again i)
    ∙ (λ i. has d.known.got p || (any_desk_got p ds || has (same' i).got p)) ∙ (λ i. has d.known.got p || sym (got-last p ds other) i) ∙ h
