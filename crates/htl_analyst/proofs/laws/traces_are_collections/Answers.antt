-- A trace has one segment for each key.
use Rattle.htl_analyst.proofs.Held.{collection_of}
use Rattle.htl_analyst.proofs.laws.traces_are_collections.Goals as goal

pub returns : goal.returns
returns c = collection_of
