use Rattle.std.proofs.Common.{◌≡◌, ◌≤◌, ◌<◌, ◌+◌, ◌-◌, ◌*◌, ◌++◌, ℕ, ◌∷◌, List, length, take, drop, replicate, refl, sym, ap, ap₂, ◌∙◌, arith, rules, slice_range, length-append, append_assoc}
use Rattle.std.specs.List.{flat_map}
use Rattle.std.proofs.lemmas.List.{take_at, drop-drop, length-take-le}
use Rattle.component_package.proofs.Lists.{length-list_of}
use Rattle.component_package.specs.packages.Numbers.{u32_bytes}
use Rattle.kept_definitions.specs.Stored.{StoredRelease, stored_bytes, placed_bytes}
use Rattle.kept_manifests.specs.Slots.{place_of, stored_of}
use Rattle.component_package.proofs.StoredLemmas.{take_further}
use Rattle.kept_manifests.proofs.StoredLemmas.{front_page, padding, block_at}
use Rattle.kept_manifests.proofs.pages.slot_page.Goals as goal

pub returns-then-page-eq0 : goal.returns-then-page-eq0
returns-then-page-eq0 c =
    let m = c.args.m.now in
    let s : StoredRelease = stored_of m in
    let count : length s.placed ≡ m.manifest.count = length-list_of (place_of m) m.manifest.count in
    let page : c.front_page.result ≡ front_page s = c.front_page.ensures ∙ ap (λ (n : ℕ). u32_bytes m.manifest.release ++ n ∷ 2 ∷ replicate 250 0) (sym count) in
    let first : slice_range (stored_bytes s) 0 256 ≡ front_page s = take_at (front_page s) (flat_map placed_bytes s.placed ++ padding s) 256 refl in
    let zero_page : c.args.page ≡ 0 = c.if-page-eq0.true in
    page ∙ sym first ∙ ap (λ (p : ℕ). slice_range (stored_bytes s) (256 * p) (256 * p + 256)) (sym zero_page)

pub loop-j-preserved : goal.loop-j-preserved
loop-j-preserved c =
    let s : StoredRelease = stored_of c.args.m.now in
    let b : List ℕ = stored_bytes s in
    let p : ℕ = c.args.page in
    let j : ℕ = c.loop-j.j in
    let bytes : List ℕ = c.loop-j.bytes in
    let piece : List ℕ = c.block_array.result in
    let some : 1 ≤ p = omega arith in
    let small : p < 5 = c.requires.page in
    let lt : j < 4 = omega arith in
    let size : length bytes ≡ 256 = c.loop-j.invariant.size in
    let wide : length piece ≡ 64 = search rules in
    let len : length (take (64 * j) bytes ++ piece) ≡ 64 * (j + 1) = length-append (take (64 * j) bytes) piece ∙ omega (arith, length-take-le (64 * j) bytes (omega arith)) in
    let from : 256 * p + 64 * j ≡ 256 + 64 * (4 * (p - 1) + j) = omega arith in
    let here : take 64 (drop (64 * j) (drop (256 * p) b)) ≡ piece =
    ap (take 64) (drop-drop (64 * j) (256 * p) b) ∙ ap (λ (k : ℕ). take 64 (drop k b)) from ∙ block_at s c.requires.manifest.stored (4 * (p - 1) + j) (omega arith) ∙ sym c.block_array.ensures in
    let more : 64 * (j + 1) ≡ 64 * j + 64 = omega arith in
    record {
      size = search rules;
      bytes =
          ap (take (64 * (j + 1))) (c.put.ensures ∙ sym (append_assoc (take (64 * j) bytes) piece (drop (64 * j + length piece) bytes)))
          ∙ take_at (take (64 * j) bytes ++ piece) (drop (64 * j + length piece) bytes) (64 * (j + 1)) len
          ∙ ap₂ (λ (x y : List ℕ). x ++ y) c.loop-j.invariant.bytes (sym here)
          ∙ sym (take_further (drop (256 * p) b) (64 * j) 64)
          ∙ ap (λ (k : ℕ). take k (drop (256 * p) b)) (sym more);
    }
