-- What became of what was opened in a world (this project's own).
use Rattle.std.specs.Prelude.{◌≡◌, List, Option, map, option_map}
use Rattle.htl_device.specs.States.{SourceState}
use Rattle.htl_world.specs.Worlds.{WorldChange, WorldState, change}
use Rattle.htl_program.specs.declared.inputs.Inputs.{Inputs}

-- what became of the files that were opened, or of standard input in their place, and of the lines of a dialogue
pub record Opened : Type 0 where
  pub files : List SourceState
  pub questions : Option SourceState

abbrev pub opened : {R : Type 0} → (R → SourceState) → Inputs R → Opened
opened state inputs = record { files = map state inputs.files.items; questions = option_map state inputs.questions }

-- what a run reaches: the world that it asks, and what was opened there, before the run and after it
pub record Reach : Type 0 where
  pub world : WorldChange
  pub before : Opened
  pub after : Opened

abbrev pub reach : {R : Type 0} → (R → SourceState) → WorldState → WorldState → Inputs R → Inputs R → Reach
reach state old new before after = record { world = change old new; before = opened state before; after = opened state after }

-- the world was asked for nothing, and what was opened stays
pub record IsUntouched (reach : Reach) : Type 0 where
  pub world : reach.world.new ≡ reach.world.old
  pub inputs : reach.after ≡ reach.before
