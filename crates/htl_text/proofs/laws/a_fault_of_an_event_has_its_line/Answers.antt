-- The events of a segment with a fault are in its lines, one after the other, and the fault is about one of them.
use Rattle.htl_text.proofs.EventPlaces.{its_event}
use Rattle.htl_text.proofs.laws.a_fault_of_an_event_has_its_line.Goals as goal

pub returns : goal.returns
returns c = its_event
