use Rattle.std.proofs.Common.{◌≡◌, ◌+◌, ◌++◌, ℕ, List, [], length, drop, replicate, ap, ◌∙◌, rules}
use Rattle.std.proofs.lemmas.List.{append-nil}
use Rattle.component_package.proofs.ManifestLemmas.{put_next}
use Rattle.kept_manifests.proofs.entries.entry_array.Goals as goal

pub returns : goal.returns
returns c =
    let e = c.args.e.now in
    let zeros : List ℕ = replicate 38 0 in
    let nums : List ℕ = c.numbers_array.result in
    let six : length nums ≡ 6 = ap length c.numbers_array.ensures in
    let long : length e.digest ≡ 32 = search rules in
    let first : c.put.new.into ≡ nums ++ drop 6 zeros = c.put.ensures ∙ ap (λ (k : ℕ). nums ++ drop (0 + k) zeros) six in
    let second = put_next nums zeros c.put.new.into e.digest 6 first six in
    let none : drop (6 + length e.digest) zeros ≡ [] = ap (λ (k : ℕ). drop (6 + k) zeros) long in
    c.put-2.ensures ∙ second ∙ ap (λ (y : List ℕ). (nums ++ e.digest) ++ y) none ∙ append-nil (nums ++ e.digest) ∙ ap (λ (x : List ℕ). x ++ e.digest) c.numbers_array.ensures
