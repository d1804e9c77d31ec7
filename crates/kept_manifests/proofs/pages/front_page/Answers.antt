use Rattle.std.proofs.Common.{◌≡◌, ◌+◌, ◌++◌, ◌∷◌, ℕ, List, length, drop, set, replicate, ap, ◌∙◌}
use Rattle.std.proofs.lemmas.List.{set_at}
use Rattle.kept_manifests.proofs.pages.front_page.Goals as goal

pub returns : goal.returns
returns c =
    let m = c.args.m.now in
    let zeros : List ℕ = replicate 256 0 in
    let front : List ℕ = c.front_array.result in
    let five : length front ≡ 5 = ap length c.front_array.ensures in
    let put : c.put.new.into ≡ front ++ 0 ∷ replicate 250 0 = c.put.ensures ∙ ap (λ (k : ℕ). front ++ drop (0 + k) zeros) five in
    ap (λ (l : List ℕ). set l 5 2) put ∙ set_at front 0 (replicate 250 0) 2 5 five ∙ ap (λ (l : List ℕ). l ++ 2 ∷ replicate 250 0) c.front_array.ensures
