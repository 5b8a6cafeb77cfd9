-- Worked answers show what the definitions of counts say of some given events.
use Rattle.std.proofs.Common.{◌≡◌, ℕ, List, [], ◌∷◌, Some, None, refl}
use Rattle.std.specs.Prelude.{Contains, codes}
use Rattle.htl_event.specs.Events.{Event}
use Rattle.htl_event.specs.declared.kind.Kind.{Kind}
use Rattle.htl_event.specs.declared.kind.Kind.TheVariants.{Opened, BadRef, Ref, Deref}
use Rattle.htl_event.specs.declared.slot.Slot.{Slot}
use Rattle.htl_event.specs.declared.slot.Slot.TheVariants.{Tagged}
use Rattle.htl_event.specs.declared.slot.Count.{Count}
use Rattle.htl_event.specs.Tallies.{tally, under, IsTags, IsStacks, IsBad, IsLeaks, IsLeaksSince}
use Rattle.htl_event.proofs.ComputedCounts.{IsTags-tags_of, IsStacks-stacks_of, IsBad-bad_of, IsLeaksSince-leaks_of}
use Rattle.htl_event.proofs.ComputedHandles.{outstanding_of, diff_of, IsOutstanding-outstanding_of, IsDiff-diff_of}

abbrev counts : ℕ → ℕ → Count
counts plus minus = record { plus = plus; minus = minus }

-- ---- Tags over and under: one dereference too many, a balanced tag, and one reference too many.

abbrev tagged : Kind → ℕ → List ℕ → Event
tagged kind sequence tag =
    record { sequence = sequence; kind = kind; process = 4; thread = 12; handle = 0; object = 0xffffa00000001000; tag = tag; stack = [] }

-- the bytes 01 41 42 43
abbrev unprintable : List ℕ
unprintable = 0x01 ∷ 0x41 ∷ 0x42 ∷ 0x43 ∷ []

abbrev over_and_under : List Event
over_and_under =
    tagged Ref 1 (codes "Lky8")
    ∷ tagged Ref 2 (codes "Lky8")
    ∷ tagged Deref 3 (codes "Lky8")
    ∷ tagged Ref 4 (codes "Dflt")
    ∷ tagged Deref 5 (codes "Dflt")
    ∷ tagged Deref 6 unprintable
    ∷ []

pub over_and_under_tags : IsTags over_and_under 0xffffa00000001000
    ((unprintable, counts 0 1) ∷ (codes "Dflt", counts 1 1) ∷ (codes "Lky8", counts 2 1) ∷ [])
over_and_under_tags = IsTags-tags_of over_and_under 0xffffa00000001000 refl

-- ---- Shared outer frames: two stacks that differ in their innermost frame, and an empty one.

abbrev in_30 : List ℕ
in_30 = 0x30 ∷ 0x20 ∷ 0x10 ∷ []

abbrev in_40 : List ℕ
in_40 = 0x40 ∷ 0x20 ∷ 0x10 ∷ []

abbrev framed : Kind → ℕ → List ℕ → Event
framed kind sequence stack =
    record { sequence = sequence; kind = kind; process = 4; thread = 12; handle = 0; object = 0x1000; tag = codes "Lky8"; stack = stack }

abbrev shared : List Event
shared = framed Ref 1 in_30 ∷ framed Ref 2 in_40 ∷ framed Deref 3 [] ∷ []

abbrev slot : Slot
slot = Tagged 0x1000 (codes "Lky8")

pub under_all : under shared [] slot ≡ counts 2 1
under_all = refl

pub under_both : under shared (0x10 ∷ 0x20 ∷ []) slot ≡ counts 2 0
under_both = refl

pub under_one : under shared (0x10 ∷ 0x20 ∷ 0x40 ∷ []) slot ≡ counts 1 0
under_one = refl

-- a path begins at the outermost frame
pub under_inner : under shared (0x20 ∷ []) slot ≡ counts 0 0
under_inner = refl

pub tally_whole : tally shared slot in_30 ≡ counts 1 0
tally_whole = refl

-- a stack's outer frames alone are another stack
pub tally_outer : tally shared slot (0x20 ∷ 0x10 ∷ []) ≡ counts 0 0
tally_outer = refl

pub shared_stacks : IsStacks shared 0x1000 (codes "Lky8") (([], counts 0 1) ∷ (in_30, counts 1 0) ∷ (in_40, counts 1 0) ∷ [])
shared_stacks = IsStacks-stacks_of shared 0x1000 (codes "Lky8") refl

-- ---- Leaking stacks and bad references: by number and then from the outermost frame, and by handle as written.

abbrev by_handle : Kind → ℕ → ℕ → List ℕ → Event
by_handle kind sequence handle stack =
    record {
      sequence = sequence;
      kind = kind;
      process = 4;
      thread = 12;
      handle = handle;
      object = 0;
      tag = 0 ∷ 0 ∷ 0 ∷ 0 ∷ [];
      stack = stack;
    }

abbrev leaking : List Event
leaking =
    by_handle Opened 1 0x44 (0x50 ∷ 0x20 ∷ [])
    ∷ by_handle Opened 2 0x48 (0x30 ∷ 0x40 ∷ [])
    ∷ by_handle Opened 3 0x4c (0x60 ∷ [])
    ∷ by_handle Opened 4 0x50 (0x60 ∷ [])
    ∷ by_handle BadRef 5 0x7 (0x10 ∷ [])
    ∷ by_handle BadRef 6 0x7 (0x10 ∷ [])
    ∷ by_handle BadRef 7 0x0 []
    ∷ []

pub leaking_stacks : IsLeaks (Contains leaking) 4 ((0x60 ∷ [], 2) ∷ (0x50 ∷ 0x20 ∷ [], 1) ∷ (0x30 ∷ 0x40 ∷ [], 1) ∷ [])
leaking_stacks = IsLeaksSince-leaks_of leaking 4 None 1 (outstanding_of leaking 4) (IsOutstanding-outstanding_of leaking 4 refl) refl

-- those that opened two handles at least, or one after a moment
pub leaking_often : IsLeaksSince (Contains leaking) 4 None 2 ((0x60 ∷ [], 2) ∷ [])
leaking_often = IsLeaksSince-leaks_of leaking 4 None 2 (outstanding_of leaking 4) (IsOutstanding-outstanding_of leaking 4 refl) refl

pub leaking_since : IsLeaksSince (Contains leaking) 4 (Some 2) 1 ((0x60 ∷ [], 2) ∷ [])
leaking_since = IsLeaksSince-leaks_of leaking 4 (Some 2) 1 (diff_of leaking 4 2) (IsDiff-diff_of leaking 4 2 refl) refl

pub leaking_bad : IsBad leaking 4 ((0x0, [], 1) ∷ (0x7, 0x10 ∷ [], 2) ∷ [])
leaking_bad = IsBad-bad_of leaking 4 refl
