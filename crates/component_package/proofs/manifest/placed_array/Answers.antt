use Rattle.std.proofs.Common.{◌≡◌, suc, ◌+◌, ◌++◌, ◌∷◌, ℕ, List, length, drop, set, replicate, ap, ◌∙◌, rules}
use Rattle.std.proofs.lemmas.List.{set_at}
use Rattle.component_package.proofs.manifest.placed_array.Goals as goal

pub returns : goal.returns
returns c =
    let e = c.args.e.now in
    let slot : ℕ = c.args.slot in
    let zeros : List ℕ = replicate 64 0 in
    let piece : List ℕ = c.entry_array.result in
    let long : length e.digest ≡ 32 = search rules in
    let wide : length piece ≡ 38 = ap length c.entry_array.ensures ∙ ap (λ (k : ℕ). suc (suc (suc (suc (suc (suc k)))))) long in
    let first : c.put.new.into ≡ piece ++ 0 ∷ replicate 25 0 = c.put.ensures ∙ ap (λ (k : ℕ). piece ++ drop (0 + k) zeros) wide in
    ap (λ (l : List ℕ). set l 38 slot) first ∙ set_at piece 0 (replicate 25 0) slot 38 wide ∙ ap (λ (x : List ℕ). x ++ slot ∷ replicate 25 0) c.entry_array.ensures
