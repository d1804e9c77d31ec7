-- Lists of different numbers.
use Rattle.std.proofs.Common.{◌≡◌, ℕ, ◌+◌, ◌<◌, ◌≤◌, true, false, List, [], ◌∷◌, length, get_or, drop, ap, ◌∙◌}
use Rattle.std.specs.Prelude.{◌==◌, ◌&&◌, not}
use Rattle.std.specs.List.{list_any}
use Rattle.std.proofs.lemmas.Bool.{and_parts, not-true}
use Rattle.std.proofs.lemmas.List.{at_drop_more, at_drop_all}
use Rattle.component_package.specs.packages.Manifest.{AreDistinct}
use Rattle.release_judging.specs.Judging.{are_distinct}

-- what the test says
pub distinct_means : (ns : List ℕ) → are_distinct ns ≡ true → AreDistinct ns
distinct_means [] e = tt
distinct_means (n ∷ ns) e =
    let parts = and_parts (not (list_any (λ m. m == n) ns)) (are_distinct ns) e in
    (not-true (list_any (λ m. m == n) ns) parts.0, distinct_means ns parts.1)

-- a number that is again among the rest
pub distinct_not : (ns : List ℕ) (i : ℕ) → i < length ns → list_any (λ m. m == get_or ns i 0) (drop (i + 1) ns) ≡ true → are_distinct ns ≡ are_distinct (drop i ns) → are_distinct ns ≡ false
distinct_not ns i lt again same = same ∙ at_drop_more are_distinct ns i 0 lt ∙ ap (λ b. not b && are_distinct (drop (i + 1) ns)) again

-- and one that isn't
pub distinct_more : (ns : List ℕ) (i : ℕ) → i < length ns → list_any (λ m. m == get_or ns i 0) (drop (i + 1) ns) ≡ false → are_distinct ns ≡ are_distinct (drop i ns) → are_distinct ns ≡ are_distinct (drop (i + 1) ns)
distinct_more ns i lt new same = same ∙ at_drop_more are_distinct ns i 0 lt ∙ ap (λ b. not b && are_distinct (drop (i + 1) ns)) new

pub distinct_all : (ns : List ℕ) (i : ℕ) → length ns ≤ i → are_distinct ns ≡ are_distinct (drop i ns) → are_distinct ns ≡ true
distinct_all ns i past same = same ∙ at_drop_all are_distinct ns i past
