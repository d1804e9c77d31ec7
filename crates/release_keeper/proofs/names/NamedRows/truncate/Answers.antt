use Rattle.std.specs.Prelude.{bytes_eq}
use Rattle.release_keeper.specs.Index.{at_name}
use Rattle.release_keeper.proofs.Index.{indexed_take}
use Rattle.release_keeper.proofs.names.NamedRows.truncate.Goals as goal

pub invariant_of-self : goal.invariant_of-self
invariant_of-self g c =
    indexed_take (λ name r. bytes_eq name (g.R.Named.name r)) (at_name c.self.inside.by_name) c.args.count c.self.inside.rows.items _ c.truncate.ensures.items c.self.invariant
