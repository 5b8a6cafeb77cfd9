-- Whatever candidates the keys stand among: where the first of them had been noted, these are, too, up to those that are left.
use Rattle.std.proofs.Common.{◌≡◌, ℕ, List, ◌+◌, length, IsSorted}
use Rattle.std.specs.Slice.Iter.{chunks_rest}
use Rattle.htl_tables.specs.declared.sort_key.SortKey.{SortKey}
use Rattle.htl_tables.specs.OfProcess.{touches}
use Rattle.htl_tables.specs.SortKeys.{sort_key_cmp, AreKeysIn, AreCandidates}
use Rattle.htl_tables.specs.FirstKeys.{HaveFirstKeys, StandFrom}
use Rattle.htl_tables.proofs.latest.Latest.note_keys.Given as goal

abbrev pub invariant-loop-block : goal.invariant-loop-block
invariant-loop-block g l =
    (goal.iterator-loop-block g).can_next l.block-iterator × (goal.iterator-loop-block g).is_finite l.block-iterator
    × AreKeysIn g.R.EventList.events_of l.fn.lists (touches l.fn.chosen) (chunks_rest l.block-iterator)
    × ((all : List SortKey) (n : ℕ) → AreCandidates g.R.EventList.events_of l.fn.lists (touches l.fn.chosen) all
    → IsSorted sort_key_cmp all → StandFrom all n l.fn.keys
    → HaveFirstKeys g.R.EventList.events_of l.fn.lists (touches l.fn.chosen) all n l.initial.self
    → (m : ℕ) × (m + length (chunks_rest l.block-iterator) ≡ n + length l.fn.keys) × StandFrom all m (chunks_rest l.block-iterator)
    × HaveFirstKeys g.R.EventList.events_of l.fn.lists (touches l.fn.chosen) all m l.self)
