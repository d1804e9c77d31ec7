-- The laws of manifests, joined from their parts.
use Rattle.std.proofs.Common.{sym, ◌∙◌}
use Rattle.component_package.specs.Laws.{FaultlessManifestsSpell, ManifestIsOne, StoredReleaseIsOne}
use Rattle.component_package.proofs.ManifestLemmas.{spelled_release, faultless_release, release_again}
use Rattle.component_package.proofs.StoredLemmas.{stored_again}

pub faultless_manifests_spell : FaultlessManifestsSpell
faultless_manifests_spell = record { spells = spelled_release; faultless = faultless_release; said = release_again }

pub manifest_is_one : ManifestIsOne
manifest_is_one = record {
  bytes = λ b d r s t. s.bytes ∙ sym t.bytes;
  release = λ b r q s t. sym (release_again b r s) ∙ release_again b q t;
}

pub stored_release_is_one : StoredReleaseIsOne
stored_release_is_one = record {
  bytes = λ b d m s t. s.bytes ∙ sym t.bytes;
  release = λ b m n s t. sym (stored_again b m s) ∙ stored_again b n t;
  said = stored_again;
}
