use Rattle.std.proofs.Common.{◌≡◌, ℕ, ◌<◌, List, length, get_or}
use Rattle.avr_reloc.specs.Field.{AreBytes}
use Rattle.kept_manifests.proofs.pages.are_pages.Given as goal

abbrev pub invariant-loop-page : goal.invariant-loop-page
invariant-loop-page l = record {
  sizes : (k : ℕ) → k < l.page → (d : List ℕ) → length (get_or l.pages k d) ≡ 256;
  bytes : (k : ℕ) → k < l.page → (d : List ℕ) → AreBytes (get_or l.pages k d);
}
