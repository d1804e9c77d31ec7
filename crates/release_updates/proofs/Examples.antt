-- Worked updates over tables, by computing.
use Rattle.std.proofs.Common.{refl}
use Rattle.sha2.specs.Sha256.{sha256, digest_bytes, hash_after, compress, rounds, schedule, first_words}
use Rattle.release_updates.specs.Rows.{WorkedUpdates}

pub worked_updates : WorkedUpdates
unfolding sha256 digest_bytes hash_after compress rounds schedule first_words
worked_updates = record { first = refl; same = refl; above = refl; other = refl; second = refl; whole = refl; missing = refl; gone = refl; unasked = refl }
