-- What the types of an event's fields say of their numbers.
use Rattle.std.specs.Prelude.{◌≡◌, ◌<◌, ◌≤◌, ◌^◌, length}
use Rattle.std.specs.List.{AllByRecursion}
use Rattle.htl_event.specs.Events.{Event}

pub record InRange (e : Event) : Type 0 where
  pub sequence : e.sequence < 2 ^ 64
  pub process : e.process < 2 ^ 32
  pub thread : e.thread < 2 ^ 32
  pub handle : e.handle < 2 ^ 32
  pub object : e.object < 2 ^ 64
  pub tag_len : length e.tag ≡ 4
  pub tag : AllByRecursion (λ b. b < 256) e.tag
  pub depth : length e.stack ≤ 64
  pub stack : AllByRecursion (λ a. a < 2 ^ 64) e.stack
