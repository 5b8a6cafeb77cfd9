-- A desk may move to another thread, and threads may share an exchange.
use denote.RattleType.{RattleType}
use denote.Param.Send.{IsSend, IsSync, Frees, sendable, part_keyless}
use denote.Param.SendFields.{declared_send}
use denote.Hole.Fix.{holes}
use denote.Hole.FixSend.{Sends, fix_send}
use Rattle.std.proofs.Crossing.{crosses, send}
use Rattle.std_heap.specs.contracts.Global as Heap
use Rattle.std_heap.specs.contracts.GlobalAllocator.TheImpl.{ghosts}
use denote.Struct.Struct.{Struct}
use denote.Struct.Owning.{shape}
use Rattle.atomic_table.specs.contracts.shared.Seat as seat
use Rattle.atomic_table.specs.contracts.shared.Shared as shared
use Rattle.atomic_table.specs.contracts.send_lease.SendLease as lease
use Rattle.atomic_table.proofs.Sent.{seat_keyless, shares_keyless}
use Rattle.atomic_table.proofs.Rights.{right_send}
use Rattle.atomic_table.specs.declared.shared.TableRule.{Ghosts}
use Rattle.std.specs.declared.alloc.Allocator as alloc
use Rattle.htl_segment.proofs.Threads.{event_send, segment_send}
use Rattle.htl_tree.specs.contracts.tree.StackTree as tree
use Rattle.htl_tables.specs.contracts.latest.Latest as latest
use Rattle.htl_taken.specs.contracts.number_set.NumberSet as numbers
use Rattle.htl_taken.specs.contracts.taken.Taken as taken
use Rattle.htl_analyst.specs.contracts.folded.Folded as folded
use Rattle.htl_analyst.specs.contracts.part.Part as part
use Rattle.htl_analyst.specs.contracts.analyst.Analyst as analyst
use Rattle.htl_exchange.specs.contracts.parcel.Parcel as parcel
use Rattle.htl_exchange.specs.contracts.desk.Desk as desk
use Rattle.htl_exchange.specs.contracts.exchange.Exchange as exchange
use Rattle.htl_tree.specs.contracts.node.Node as node
use Rattle.htl_tree.specs.contracts.node.Node.TheKnot as knot
use Rattle.htl_tree.specs.declared.node.Node.TheBlock.{the_members, member-Node}
use Rattle.htl_event.specs.contracts.slot.Slot as slot
use Rattle.htl_event.specs.contracts.slot.Count as count

-- what a tree has may move to another thread: slots, counts and nodes
pub slot_send : IsSend slot.the_row
slot_send = search sendable depth 20

pub count_send : IsSend count.the_row
count_send = search sendable depth 20

node_step : (i : the_members (Heap.the_row).Denot) → Sends (knot.ring Heap.the_row ghosts) i
node_step member-Node = record {
  send = λ h s. declared_send (knot.type-Node Heap.the_row ghosts (h member-Node)) (
    search (sendable, crosses) depth 20,
    (
      search (sendable, crosses, slot_send, count_send) depth 20,
      (search (sendable, crosses) depth 20, (search (sendable, crosses) depth 20, tt)),
    ),
  );
}

pub hole_send : IsSend (holes (knot.ring Heap.the_row ghosts) member-Node)
hole_send = fix_send (knot.ring Heap.the_row ghosts) node_step member-Node

pub knot_send : IsSend (knot.hole-Node Heap.the_row ghosts)
knot_send = hole_send

pub node_send : IsSend (node.the_row Heap.the_row ghosts)
node_send = search (sendable, crosses, slot_send, count_send, knot_send) depth 20

-- so may a tree
pub tree_send : IsSend (tree.the_row Heap.the_row ghosts)
tree_send = search (sendable, crosses, send, node_send) depth 20

-- ---- analysts

latest_send : IsSend (latest.the_row Heap.the_row ghosts)
latest_send = search (sendable, crosses, event_send) depth 20

numbers_send : IsSend (numbers.the_row Heap.the_row ghosts)
numbers_send = search (sendable, crosses) depth 20

taken_send : IsSend (taken.the_row Heap.the_row ghosts)
taken_send = search (sendable, crosses, numbers_send) depth 20

folded_send : IsSend (folded.the_row Heap.the_row ghosts)
folded_send = search (sendable, crosses, tree_send, latest_send) depth 20

part_send : IsSend (part.the_row Heap.the_row ghosts)
part_send = search (sendable, crosses, segment_send, folded_send) depth 20

-- and an analyst
pub analyst_send : IsSend (analyst.the_row Heap.the_row ghosts)
analyst_send = search (sendable, crosses, taken_send, part_send) depth 20

-- ---- desks

-- and a parcel
pub parcel_send : IsSend parcel.the_row
parcel_send = search (sendable, crosses, segment_send, analyst_send) depth 20

seat_send : (S V : RattleType) → IsSend S → IsSend (seat.the_row S V)
seat_send S V s = record {
  owned = λ d vs. ((λ vss. (tt, ((λ uss. (tt, tt)), tt))), seat_keyless S s V.coded.code d.table_id d.id d.me);
  leaving = λ k f vs. tt;
}

-- and so a desk
pub desk_send : IsSend desk.the_row
desk_send = search (sendable, crosses, seat_send, analyst_send, parcel_send) depth 20

-- ---- exchanges

shared_sync : (S V K P : RattleType) (g : Ghosts P.Denot S.Denot V.Denot K.Denot) → IsSend S → IsSync (shared.the_row S V K P g)
shared_sync S V K P g s =
    let fields : IsSync (Struct (shape (shared.the_type S V K P g))) = search sendable depth 20 in
    record {
      shared = λ d b o ν. (fields.shared (d.words, (d.slots, (tt, tt))) b o ν, shares_keyless S s V.coded.code d.table_id (g.holds d.key) d.words d.slots ν);
    }

lease_sync : (T A : RattleType) (g : alloc.Ghosts A.Denot) → IsSend T → Frees g g.dealloc_token → IsSync (lease.the_row T A g)
lease_sync T A g s f = record { shared = λ d b o ν q. part_keyless (lease.the_row T A g) (right_send T A g f) q d b o }

-- threads may share an exchange
pub exchange_sync : IsSync exchange.the_row
exchange_sync = search (sendable, crosses, parcel_send, shared_sync, lease_sync) depth 30
