-- What the sites are made of: the stack and the process of each open handle.
use Rattle.std.specs.Prelude.{◌≡◌, ◌≢◌, ℕ, ◌<◌, ◌≤◌, max, Bool, nat_eq, List, ◌++◌}
use Rattle.std.specs.Prelude.{Contains, Option, Some, None, length, get_or, map, count_by}
use Rattle.std.specs.List.Sorted.{IsSortedByKey}
use Rattle.std.specs.Ordering.{nat_cmp, ordering_then}
use Rattle.std.specs.Cmp.Lexicographic.{pointwise}
use Rattle.std.specs.declared.cmp.Ordering.{Ordering}
use Rattle.htl_event.specs.Events.{Event}
use Rattle.htl_event.specs.declared.since.Since.{Since}
use Rattle.htl_event.specs.declared.since.Since.TheVariants.{Snapshot, Sequence}
use Rattle.htl_event.specs.Members.{IsRising, Lists}
use Rattle.htl_event.specs.Sites.{Site, AreOpenAnywhere}
use Rattle.htl_event.specs.Stacks.{stack_cmp}
use Rattle.htl_tables.specs.Greatest.{sequence_at}
use Rattle.htl_answers.specs.Open.{is_opened_after}

-- the stack that opened a handle, and the process that has it
abbrev pub Opener : Type 0
Opener = List ℕ × ℕ

abbrev pub stack_of : Opener → List ℕ
stack_of opener = opener.0

abbrev pub opener_of : Event → Opener
opener_of e = (e.stack, e.process)

-- the stack and the process of each open handle that counts, of whatever process
abbrev pub AreOpenersOf : List Event → Option Since → List Opener → Type 0
AreOpenersOf events since openers =
    (handles : List Event) × AreOpenAnywhere (Contains events) since handles × (openers ≡ map opener_of handles)

-- by stack, and then by process
abbrev pub opener_cmp : Opener → Opener → Ordering
opener_cmp a b = ordering_then (stack_cmp a.0 b.0) (nat_cmp a.1 b.1)

-- the moment after which handles of the process count
abbrev pub start_of : List (ℕ × ℕ) → Option Since → ℕ → ℕ
start_of marks None process = 0
start_of marks (Some (Sequence moment)) process = moment
start_of marks (Some Snapshot) process = sequence_at marks process

-- the latest event of a handle is an open after the last exit of its process, and counts
abbrev pub is_counted_open : List (ℕ × ℕ) → List (ℕ × ℕ) → Option Since → Event → Bool
is_counted_open marks exits since e = is_opened_after (max (start_of marks since e.process) (sequence_at exits e.process)) e

abbrev pub is_of_stack : List ℕ → Opener → Bool
is_of_stack stack opener = pointwise nat_eq opener.0 stack

-- so many different processes are among the openers
abbrev pub HaveOwners : List Opener → ℕ → Type 0
HaveOwners openers n =
    (processes : List ℕ) × Lists (λ p q. p < q) (Contains (map (λ (opener : Opener). opener.1) openers)) processes × (n ≡ length processes)

-- the site of the stack that the first of the run has, where all of them have it
pub record IsSiteOfRun (run : List Opener) (site : Site) : Type 0 where
  pub first : (d : Opener) → site.stack ≡ (get_or run 0 d).0
  pub opened : site.handles ≡ length run
  pub owners : HaveOwners run site.processes

-- the site of its stack, over all openers
pub record IsSiteOf (openers : List Opener) (site : Site) : Type 0 where
  pub opened : site.handles ≡ count_by (is_of_stack site.stack) openers
  pub owners :
      (processes : List ℕ) × Lists (λ p q. p < q) (λ p. Contains openers (site.stack, p)) processes × (site.processes ≡ length processes)

-- the sites of some of the openers' stacks, each once, where they have so many handles at least
pub record AreSitesOf (openers some : List Opener) (at_least : ℕ) (sites : List Site) : Type 0 where
  pub apart : IsRising (λ (a b : Site). a.stack ≢ b.stack) sites
  pub each : (site : Site) → Contains sites site
      → IsSiteOf openers site × ((0 < site.handles) × (at_least ≤ site.handles)) × ((p : ℕ) × Contains some (site.stack, p))
  pub all : (opener : Opener) → Contains some opener → at_least ≤ count_by (is_of_stack opener.0) openers
      → (site : Site) × Contains sites site × (site.stack ≡ opener.0)

-- the sites are those of the openers before the rest, of which each has another stack than any in the rest, which is sorted by stack
pub record HavePassed (openers rest : List Opener) (at_least : ℕ) (sites : List Site) : Type 0 where
  pub sorted : IsSortedByKey stack_of stack_cmp rest
  pub passed : List Opener
  pub split : openers ≡ passed ++ rest
  pub differ : (x y : Opener) → Contains passed x → Contains rest y → x.0 ≢ y.0
  pub are : AreSitesOf openers passed at_least sites
