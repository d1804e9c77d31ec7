use Rattle.component_store.proofs.SlotLemmas.{decides}
use Rattle.component_store.proofs.slots.is_same_digest.Goals as goal

pub returns : goal.returns
returns c = decides c.is_same.result c.args.a.now c.args.b.now c.is_same.ensures
