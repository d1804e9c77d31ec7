use Rattle.std.proofs.Common.{◌≡◌, suc, ◌+◌, ◌++◌, ◌∷◌, ℕ, List, length, drop, set, replicate, ap, ◌∙◌, arith, rules}
use Rattle.std.proofs.lemmas.List.{set_at, set-append_right}
use Rattle.component_package.specs.packages.Manifest.{manifest_entry_bytes}
use Rattle.kept_manifests.proofs.pages.placed_array.Goals as goal

pub returns : goal.returns
returns c =
    let e = c.args.e.now in
    let slot : ℕ = c.args.slot in
    let mark : ℕ = c.mark.result in
    let zeros : List ℕ = replicate 64 0 in
    let piece : List ℕ = c.entry_array.result in
    let long : length e.digest ≡ 32 = search rules in
    let wide : length piece ≡ 38 = ap length c.entry_array.ensures ∙ ap (λ (k : ℕ). suc (suc (suc (suc (suc (suc k)))))) long in
    let first : c.put.new.into ≡ piece ++ 0 ∷ replicate 25 0 = c.put.ensures ∙ ap (λ (k : ℕ). piece ++ drop (0 + k) zeros) wide in
    let second : set c.put.new.into 38 slot ≡ piece ++ slot ∷ replicate 25 0 = ap (λ (l : List ℕ). set l 38 slot) first ∙ set_at piece 0 (replicate 25 0) slot 38 wide in
    ap (λ (l : List ℕ). set l 39 mark) second ∙ next piece slot mark wide ∙ ap (λ (x : List ℕ). x ++ slot ∷ mark ∷ replicate 24 0) c.entry_array.ensures
    ∙ ap (λ (k : ℕ). manifest_entry_bytes e ++ slot ∷ k ∷ replicate 24 0) c.mark.ensures
  where
    next : (p : List ℕ) (s k : ℕ) → length p ≡ 38 → set (p ++ s ∷ replicate 25 0) 39 k ≡ p ++ s ∷ k ∷ replicate 24 0
    next p s k wide = set-append_right p (s ∷ replicate 25 0) 38 39 k wide (omega arith)
