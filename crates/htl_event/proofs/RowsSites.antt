-- Worked answers show what the definition of sites says of given events, of the processes 4, 5 and 6.
use Rattle.std.proofs.Common.{ℕ, List, [], ◌∷◌, Some, None, refl}
use Rattle.std.specs.Prelude.{Contains}
use Rattle.htl_event.specs.Events.{Event}
use Rattle.htl_event.specs.declared.kind.Kind.{Kind}
use Rattle.htl_event.specs.declared.kind.Kind.TheVariants as kinds
use Rattle.htl_event.specs.declared.since.Since.TheVariants.{Snapshot, Sequence}
use Rattle.htl_event.specs.Sites.{Site, IsSites}
use Rattle.htl_event.proofs.ComputedSites.{anywhere_of, AreOpenAnywhere-anywhere_of, IsSites-sites_of}

abbrev in_read : List ℕ
in_read = 0x30 ∷ 0x10 ∷ []

abbrev in_write : List ℕ
in_write = 0x40 ∷ 0x10 ∷ []

abbrev event : ℕ → Kind → ℕ → ℕ → List ℕ → Event
event process kind sequence handle stack =
    record {
      sequence = sequence;
      kind = kind;
      process = process;
      thread = 12;
      handle = handle;
      object = 0;
      tag = 0 ∷ 0 ∷ 0 ∷ 0 ∷ [];
      stack = stack;
    }

abbrev site : List ℕ → ℕ → ℕ → Site
site stack handles processes = record { stack = stack; handles = handles; processes = processes }

-- Process 4 has 0x10 and 0x14 open from one stack, and 0x18, which was closed and opened again by another. Process 5 closed 0x10, and
-- has 0x14. Process 6 exited, and opened 0x10 again.
abbrev events : List Event
events =
    event 4 kinds.Opened 1 0x10 in_read
    ∷ event 5 kinds.Opened 2 0x10 in_read
    ∷ event 4 kinds.Opened 3 0x14 in_read
    ∷ event 5 kinds.Opened 4 0x14 in_read
    ∷ event 6 kinds.Opened 5 0x10 in_read
    ∷ event 6 kinds.Opened 6 0x14 in_write
    ∷ event 4 kinds.Opened 7 0x18 in_read
    ∷ event 5 kinds.Closed 8 0x10 []
    ∷ event 4 kinds.Closed 9 0x18 []
    ∷ event 6 kinds.Exited 10 0 []
    ∷ event 4 kinds.Snapshot 11 0 []
    ∷ event 4 kinds.Opened 12 0x18 in_write
    ∷ event 6 kinds.Opened 13 0x10 in_write
    ∷ event 5 kinds.Snapshot 14 0 []
    ∷ []

-- a value that two processes have open is two handles, and a process with two handles of a stack is one
pub all_sites : IsSites (Contains events) None 1 (site in_read 3 2 ∷ site in_write 2 2 ∷ [])
all_sites = IsSites-sites_of events None 1 (anywhere_of events None) (AreOpenAnywhere-anywhere_of events None refl) refl refl

-- a stack with exactly so many is there, and one with fewer isn't
pub sites_of_three : IsSites (Contains events) None 3 (site in_read 3 2 ∷ [])
sites_of_three = IsSites-sites_of events None 3 (anywhere_of events None) (AreOpenAnywhere-anywhere_of events None refl) refl refl

-- after one sequence, whatever the process
pub sites_since_3 : IsSites (Contains events) (Some (Sequence 3)) 1 (site in_write 2 2 ∷ site in_read 1 1 ∷ [])
sites_since_3 =
    IsSites-sites_of events (Some (Sequence 3)) 1 (anywhere_of events (Some (Sequence 3)))
    (AreOpenAnywhere-anywhere_of events (Some (Sequence 3)) refl) refl refl

-- Each process has its own mark, 4 has 11 and 5 has 14. Process 6 has none, so all its handles count.
pub sites_since_snapshots : IsSites (Contains events) (Some Snapshot) 1 (site in_write 2 2 ∷ [])
sites_since_snapshots =
    IsSites-sites_of events (Some Snapshot) 1 (anywhere_of events (Some Snapshot)) (AreOpenAnywhere-anywhere_of events (Some Snapshot) refl) refl refl

-- with no event there is no site
pub no_sites : IsSites (Contains []) None 1 []
no_sites = IsSites-sites_of [] None 1 [] (AreOpenAnywhere-anywhere_of [] None refl) refl refl
