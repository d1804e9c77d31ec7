use Rattle.release_versions.proofs.Different.{symbols_differ}
use Rattle.release_versions.proofs.version.keep_version.Goals as goal

pub pack-requires-clause-different : goal.pack-requires-clause-different
pack-requires-clause-different c = symbols_differ c.args.numbers.now c.requires.symbols
