-- What is written is the state of what was folded; where there is none that can be written, nothing is.
use Rattle.std.proofs.Common.{◌≡◌, ◌≢◌, [], inl, length, refl, rules}
use Rattle.htl_inputs.specs.declared.fault.RunFault.TheVariants.{Memory}
use Rattle.htl_world.specs.Worlds.{change}
use Rattle.htl_world.proofs.Asked.{asked_none}
use Rattle.htl_ask.proofs.Written.{not_saved}
use Rattle.htl_ask.proofs.files.Files.save.Goals as goal

pub returns-in-Err : goal.returns-in-Err
returns-in-Err g c =
    let world = g.W.World.state c.args.world.now in
    let known : c.in-Err.fault ≢ Memory = search rules in
    record {
      saved = rw c.in-State.is
          (not_saved (change world world) c.in-State.folded c.args.name.now c.in-Err.fault c.in-Err.ensures.err known (asked_none world));
      asked = ([], asked_none world, inl refl);
    }

pub returns-in-Ok-write-clause-saved : goal.returns-in-Ok-write-clause-saved
returns-in-Ok-write-clause-saved g c =
    let size : c.len.result ≡ length c.in-Ok.bytes.items = search rules in
    rw c.in-State.is (c.in-Ok.bytes.items, size, c.in-Ok.ensures.saved, rw c.deref.ensures.value at c.in-Ok-write.ensures.asked)

pub returns-in-Err-Refused-clause-saved : goal.returns-in-Err-Refused-clause-saved
returns-in-Err-Refused-clause-saved g c =
    rw c.in-State.is (
      c.in-Ok.bytes.items,
      c.in-Ok.ensures.saved,
      rw (c.deref.ensures.value, c.in-Err-Refused.field-0-is) at c.in-Err-Refused.ensures.asked,
    )
