use Rattle.release_versions.proofs.KeptNumbers.{kept_numbers_differ}
use Rattle.release_versions.proofs.law.kept_numbers_differ.Goals as goal

pub returns : goal.returns
returns c = kept_numbers_differ
