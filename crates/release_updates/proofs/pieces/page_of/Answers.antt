use Rattle.release_updates.proofs.Sent.{page_between}
use Rattle.release_updates.proofs.pieces.page_of.Goals as goal

pub returns : goal.returns
returns c = page_between c.args.bytes.now c.args.page c.min-start.result c.min-end.result c.min-start.ensures c.min-end.ensures
