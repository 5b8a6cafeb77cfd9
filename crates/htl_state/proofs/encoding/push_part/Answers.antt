-- The numbers and the lists one after the other are the bytes of the part.
use Rattle.std.proofs.Common.{append_assoc}
use Rattle.htl_state.specs.Format.{part_bytes}
use Rattle.htl_state.proofs.encoding.push_part.Goals as goal

pub returns : goal.returns
unfolding part_bytes
returns c = rw (
  c.in_ok-write_list-5.ensures,
  c.in_ok-write_list-4.ensures,
  c.in_ok-write_list-3.ensures,
  c.in_ok-write_list-2.ensures,
  c.in_ok-write_list.ensures,
  c.in_ok-push_front.ensures,
  c.deref-5.ensures.value,
  c.deref-4.ensures.value,
  c.deref-3.ensures.value,
  c.deref-2.ensures.value,
  c.deref.ensures.value,
  ← c.part.view_is,
)
    (simp append_assoc)
