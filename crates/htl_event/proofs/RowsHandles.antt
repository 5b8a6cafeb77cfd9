-- Worked answers show what the definitions of handles say of given events, which are of process 4 where nothing else is stated.
use Rattle.std.proofs.Common.{ℕ, List, [], ◌∷◌, Some, refl}
use Rattle.std.specs.Prelude.{Contains}
use Rattle.htl_event.specs.Events.{Event}
use Rattle.htl_event.specs.declared.kind.Kind.{Kind}
use Rattle.htl_event.specs.declared.kind.Kind.TheVariants.{Opened, Closed, BadRef, Snapshot, Exited}
use Rattle.htl_event.specs.Slots.{base_of}
use Rattle.htl_event.specs.Handles.{LatestIs, IsOutstanding, IsMark, IsLastExit, IsDiff, IsListing}
use Rattle.htl_event.proofs.ComputedHandles.{LatestIs-latest_of, IsMark-mark_of, IsLastExit-last_exit_of}
use Rattle.htl_event.proofs.ComputedHandles.{IsOutstanding-outstanding_of, IsDiff-diff_of, IsListing-listing_of}

abbrev of_process : ℕ → Kind → ℕ → ℕ → Event
of_process process kind sequence handle =
    record {
      sequence = sequence;
      kind = kind;
      process = process;
      thread = 12;
      handle = handle;
      object = 0;
      tag = 0 ∷ 0 ∷ 0 ∷ 0 ∷ [];
      stack = [];
    }

abbrev event : Kind → ℕ → ℕ → Event
event = of_process 4

-- ---- Close before its open: the close came later, wherever it stands in the list.

abbrev close_first : List Event
close_first = event Closed 9 0x44 ∷ event Opened 4 0x44 ∷ []

abbrev open_first : List Event
open_first = event Opened 4 0x44 ∷ event Closed 9 0x44 ∷ []

pub close_first_latest : LatestIs (Contains close_first) 4 0x44 (Some (event Closed 9 0x44))
close_first_latest = LatestIs-latest_of close_first 4 0x44

pub open_first_latest : LatestIs (Contains open_first) 4 0x44 (Some (event Closed 9 0x44))
open_first_latest = LatestIs-latest_of open_first 4 0x44

pub close_first_outstanding : IsOutstanding (Contains close_first) 4 []
close_first_outstanding = IsOutstanding-outstanding_of close_first 4 refl

pub open_first_outstanding : IsOutstanding (Contains open_first) 4 []
open_first_outstanding = IsOutstanding-outstanding_of open_first 4 refl

-- ---- A closed handle: two opens and one close of it, so opens and closes are not counted.

abbrev opened_twice : List Event
opened_twice = event Opened 1 0x44 ∷ event Opened 2 0x44 ∷ event Closed 3 0x44 ∷ []

pub opened_twice_outstanding : IsOutstanding (Contains opened_twice) 4 []
opened_twice_outstanding = IsOutstanding-outstanding_of opened_twice 4 refl

-- ---- Low bits ignored: 0x44, 0x46 and 0x47 name one entry of the handle table.

abbrev low_bits : List Event
low_bits = event Opened 1 0x44 ∷ event Closed 2 0x46 ∷ []

pub low_bits_outstanding : IsOutstanding (Contains low_bits) 4 []
low_bits_outstanding = IsOutstanding-outstanding_of low_bits 4 refl

pub low_bits_latest : LatestIs (Contains low_bits) 4 (base_of 0x47) (Some (event Closed 2 0x46))
low_bits_latest = LatestIs-latest_of low_bits 4 (base_of 0x47)

-- the answer has the event as it was written
pub handle_as_written : IsOutstanding (Contains (event Opened 1 0x46 ∷ [])) 4 (event Opened 1 0x46 ∷ [])
handle_as_written = IsOutstanding-outstanding_of (event Opened 1 0x46 ∷ []) 4 refl

-- ---- Two processes, one value: the handle of one is no handle of the other.

abbrev two_processes : List Event
two_processes = event Opened 1 0x44 ∷ of_process 5 Opened 2 0x44 ∷ of_process 5 Closed 3 0x44 ∷ []

pub two_processes_outstanding_4 : IsOutstanding (Contains two_processes) 4 (event Opened 1 0x44 ∷ [])
two_processes_outstanding_4 = IsOutstanding-outstanding_of two_processes 4 refl

pub two_processes_outstanding_5 : IsOutstanding (Contains two_processes) 5 []
two_processes_outstanding_5 = IsOutstanding-outstanding_of two_processes 5 refl

pub two_processes_outstanding_6 : IsOutstanding (Contains two_processes) 6 []
two_processes_outstanding_6 = IsOutstanding-outstanding_of two_processes 6 refl

-- ---- Snapshot and difference: 0x14 was closed and opened again after the snapshot.

abbrev around_snapshot : List Event
around_snapshot =
    event Opened 7 0x14 ∷ event Opened 8 0x10 ∷ event Snapshot 10 0 ∷ event Closed 11 0x14 ∷ event Opened 12 0x18 ∷ event Opened
    13 0x14 ∷ []

pub snapshot_mark_4 : IsMark (Contains around_snapshot) 4 10
snapshot_mark_4 = IsMark-mark_of around_snapshot 4

pub snapshot_mark_5 : IsMark (Contains around_snapshot) 5 0
snapshot_mark_5 = IsMark-mark_of around_snapshot 5

pub snapshot_outstanding : IsOutstanding (Contains around_snapshot) 4
    (event Opened 8 0x10 ∷ event Opened 13 0x14 ∷ event Opened 12 0x18 ∷ [])
snapshot_outstanding = IsOutstanding-outstanding_of around_snapshot 4 refl

pub snapshot_diff : IsDiff (Contains around_snapshot) 4 10 (event Opened 13 0x14 ∷ event Opened 12 0x18 ∷ [])
snapshot_diff = IsDiff-diff_of around_snapshot 4 10 refl

pub snapshot_diff_since_last : IsDiff (Contains around_snapshot) 4 13 []
snapshot_diff_since_last = IsDiff-diff_of around_snapshot 4 13 refl

-- ---- A handle's listing: also the bad reference, and whatever the low bits.

abbrev of_one_handle : List Event
of_one_handle = event Opened 1 0x44 ∷ event BadRef 2 0x45 ∷ event Closed 3 0x46 ∷ []

pub one_handle_listing : IsListing (Contains of_one_handle) 4 0x44 (event Closed 3 0x46 ∷ event BadRef 2 0x45 ∷ event Opened 1 0x44 ∷ [])
one_handle_listing = IsListing-listing_of of_one_handle 4 0x44 refl

-- ---- Process exit: it closes what its process opened before, and `latest` still shows the open.

abbrev exit_between : List Event
exit_between = event Opened 1 0x44 ∷ event Exited 2 0 ∷ event Opened 3 0x48 ∷ []

pub exit_between_outstanding : IsOutstanding (Contains exit_between) 4 (event Opened 3 0x48 ∷ [])
exit_between_outstanding = IsOutstanding-outstanding_of exit_between 4 refl

pub exit_between_latest : LatestIs (Contains exit_between) 4 0x44 (Some (event Opened 1 0x44))
exit_between_latest = LatestIs-latest_of exit_between 4 0x44

-- the exit of sequence 5 stands before both opens in the list
abbrev exit_listed_first : List Event
exit_listed_first = event Exited 5 0 ∷ event Opened 4 0x44 ∷ event Opened 6 0x48 ∷ []

pub exit_listed_first_outstanding : IsOutstanding (Contains exit_listed_first) 4 (event Opened 6 0x48 ∷ [])
exit_listed_first_outstanding = IsOutstanding-outstanding_of exit_listed_first 4 refl

abbrev exit_of_another : List Event
exit_of_another = event Opened 1 0x44 ∷ of_process 5 Exited 2 0 ∷ []

pub exit_of_another_outstanding : IsOutstanding (Contains exit_of_another) 4 (event Opened 1 0x44 ∷ [])
exit_of_another_outstanding = IsOutstanding-outstanding_of exit_of_another 4 refl

pub greater_exit_first : IsLastExit (Contains (event Exited 10 0 ∷ event Exited 8 0 ∷ [])) 4 10
greater_exit_first = IsLastExit-last_exit_of (event Exited 10 0 ∷ event Exited 8 0 ∷ []) 4

pub greater_exit_last : IsLastExit (Contains (event Exited 8 0 ∷ event Exited 10 0 ∷ [])) 4 10
greater_exit_last = IsLastExit-last_exit_of (event Exited 8 0 ∷ event Exited 10 0 ∷ []) 4
