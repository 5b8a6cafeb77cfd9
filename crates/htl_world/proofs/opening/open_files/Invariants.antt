-- The inputs so far are fresh sources of the names so far, each of which was asked for once.
use Rattle.std.proofs.Common.{◌≡◌, All, None, false, map, take}
use Rattle.htl_device.specs.States.{AreOpen, fresh}
use Rattle.htl_world.specs.Worlds.{IsAsked, of_each, to_open}
use Rattle.htl_world.proofs.opening.open_files.Given as goal

abbrev pub invariant-loop-place : goal.invariant-loop-place
invariant-loop-place g l = record {
  ready : AreOpen (map g.W.Input.Source.state l.inputs.items);
  sources : map g.W.Input.Source.state l.inputs.items
      ≡ map fresh (take l.place (of_each (g.W.World.state l.fn.world).known.holds l.fn.names));
  there : All (λ absent. absent ≡ false) (take l.place (of_each (g.W.World.state l.fn.world).known.is_absent l.fn.names));
  asked : IsAsked (g.W.World.state l.fn.world) (g.W.World.state l.world) (take l.place (of_each (λ name. to_open name None) l.fn.names));
}
