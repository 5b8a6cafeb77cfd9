-- Events as values: whichever kind of stack the code holds, its value is the list of its addresses.
use Rattle.std.specs.Prelude.{ℕ, List}
use Rattle.htl_event.specs.declared.event.Event.{Event as EventWith}

abbrev pub Event : Type 0
Event = EventWith (List ℕ)

-- the event with this stack in place of its own
abbrev pub with_stack : {S T : Type 0} → T → EventWith S → EventWith T
with_stack stack e = record {
  sequence = e.sequence;
  kind = e.kind;
  process = e.process;
  thread = e.thread;
  handle = e.handle;
  object = e.object;
  tag = e.tag;
  stack = stack;
}
