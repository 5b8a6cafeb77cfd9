-- What a contract sees of an exchange and of its desks.
use Rattle.std.specs.Prelude.{◌≡◌, ◌≢◌, ℕ, ◌+◌, ◌<◌, ◌⊎◌, ◌||◌, Bool, true, false, List, [], ◌∷◌, Option, Some, None}
use Rattle.atomic_table.specs.Seated.{TableId}
use Rattle.htl_segment.specs.Traces.{Trace, HasKey}
use Rattle.htl_analyst.specs.States.{State}
use Rattle.htl_analyst.specs.Keys.{HasTaken}
use Rattle.htl_analyst.specs.Right.{IsRight, IsStanding}
use Rattle.htl_exchange.specs.declared.parcel.Parcel.{Parcel}
use Rattle.htl_exchange.specs.declared.pass.Known.{Known}
use Rattle.htl_exchange.specs.Runs.{has, runs_of}
use Rattle.htl_exchange.specs.Parcels.{Brings, IsOf, AreWholeRuns}

-- an exchange: its name, its case's trace, how many parcels its queue has room for, and how many desks are out
pub record ExchangeValue : Type 0 where
  pub id : TableId
  pub trace : Trace
  pub capacity : ℕ
  pub desks : ℕ

abbrev pub exchange_value : TableId → Trace → ℕ → ℕ → ExchangeValue
exchange_value id T capacity desks = record { id = id; trace = T; capacity = capacity; desks = desks }

-- a desk: the name of its exchange, what its pass knows, its analyst's state, and what is in hand
pub record DeskValue : Type 0 where
  pub exchange : TableId
  pub known : Known
  pub analyst : State
  pub hand : Option Parcel

abbrev pub desk_value : TableId → Known → State → Option Parcel → DeskValue
desk_value exchange known analyst hand = record { exchange = exchange; known = known; analyst = analyst; hand = hand }

abbrev pub HandBrings : Option Parcel → ℕ → ℕ → Type 0
HandBrings None p n = ⊥
HandBrings (Some x) p n = Brings x p n

abbrev pub HandIsOf : Trace → Option Parcel → Type 0
HandIsOf T None = Unit {0}
HandIsOf T (Some x) = IsOf T x

-- A desk's keys: those that its analyst has taken, and those in hand.
abbrev pub HasGot : State → Option Parcel → ℕ → ℕ → Type 0
HasGot a hand p n = HasTaken a p n ⊎ HandBrings hand p n

-- A desk follows the rule: its analyst and what is in hand are right about the trace, and its keys are those
-- of the runs that its pass has got.
pub record Follows (v : Known) (a : State) (hand : Option Parcel) : Type 0 where
  pub some : v.trace.segments ≢ []
  pub part : 0 < v.parts
  pub right : IsRight a v.trace
  pub in_hand : HandIsOf v.trace hand
  pub runs : (p : ℕ) → has v.got p ≡ true → has (runs_of v.trace.segments) p ≡ true
  pub keys : AreWholeRuns v.trace (HasGot a hand) v.got

abbrev pub FollowsRule : DeskValue → Type 0
FollowsRule d = Follows d.known d.analyst d.hand

abbrev pub IsAtExchange : TableId → Trace → DeskValue → Type 0
IsAtExchange id T d = (d.exchange ≡ id) × (d.known.trace ≡ T)

-- the desk is one of this exchange
abbrev pub IsDeskOf : ExchangeValue → DeskValue → Type 0
IsDeskOf e d = IsAtExchange e.id e.trace d

abbrev pub AreAtExchange : TableId → Trace → List DeskValue → Type 0
AreAtExchange id T [] = Unit {0}
AreAtExchange id T (d ∷ ds) = IsAtExchange id T d × AreAtExchange id T ds

abbrev pub AreDesksOf : ExchangeValue → List DeskValue → Type 0
AreDesksOf e ds = AreAtExchange e.id e.trace ds

-- the parts of all these desks
abbrev pub parts_at : List DeskValue → ℕ
parts_at [] = 0
parts_at (d ∷ ds) = d.known.parts + parts_at ds

-- how many parcels were pushed with the passes of these desks
abbrev pub pushes_at : List DeskValue → ℕ
pushes_at [] = 0
pushes_at (d ∷ ds) = d.known.pushes + pushes_at ds

-- some desk has got the run
abbrev pub any_desk_got : ℕ → List DeskValue → Bool
any_desk_got p [] = false
any_desk_got p (d ∷ ds) = has d.known.got p || any_desk_got p ds

-- the pass still has each run that it had got
abbrev pub KeepsGot : Known → Known → Type 0
KeepsGot v w = (p : ℕ) → has v.got p ≡ true → has w.got p ≡ true

-- each run that the desks before had got, the desks after have
abbrev pub KeepAll : List DeskValue → List DeskValue → Type 0
KeepAll before after = (p : ℕ) → any_desk_got p before ≡ true → any_desk_got p after ≡ true

-- the desk has got nothing and done nothing yet
pub record IsFresh (d : DeskValue) : Type 0 where
  pub got : (p : ℕ) → has d.known.got p ≡ false
  pub log : d.known.log ≡ []
  pub hand : d.hand ≡ None
  pub taken : (p n : ℕ) → HasTaken d.analyst p n → ⊥

abbrev pub AreFresh : List DeskValue → Type 0
AreFresh [] = Unit {0}
AreFresh (d ∷ ds) = IsFresh d × AreFresh ds

-- The standing state of the whole trace: it has taken all segments of the trace.
pub record IsWholeStanding (T : Trace) (a : State) : Type 0 where
  pub standing : IsStanding a T
  pub keys : (p n : ℕ) → HasKey T p n → HasTaken a p n
