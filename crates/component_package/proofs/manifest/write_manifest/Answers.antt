use Rattle.std.proofs.Common.{◌≡◌, ℕ, ◌+◌, ◌*◌, ◌≤◌, ◌<◌, ◌++◌, ◌∷◌, [], List, length, take, drop, get_or, sym, ap, ap₂, subst, ◌∙◌, arith, length-append, rules}
use Rattle.std.specs.List.{flat_map, AllByRecursion}
use Rattle.std.proofs.lemmas.List.{length-take-le, flat_map_more, take_more, take-take}
use Rattle.component_package.specs.declared.manifest.Entry.{Entry}
use Rattle.component_package.specs.packages.Numbers.{u32_bytes}
use Rattle.component_package.specs.packages.Manifest.{manifest_entry_bytes, IsManifestEntry}
use Rattle.component_package.proofs.ManifestLemmas.{put_next, length-among, entry_wide, all_front, front_at}
use Rattle.component_package.proofs.manifest.write_manifest.Goals as goal

abbrev none : Entry
none = record { component = 0; version = 0; length = 0; digest = [] }

pub loop-i-preserved : goal.loop-i-preserved
loop-i-preserved c =
    let es : List Entry = c.args.m.now.entries in
    let i : ℕ = c.loop-i.i in
    let n : ℕ = c.args.m.now.count in
    let old : List ℕ = c.args.into.now in
    let front : List ℕ = u32_bytes c.args.m.now.release ++ n ∷ [] in
    let piece : List ℕ = c.entry_array.result in
    let room : length es ≡ 16 = search rules in
    let few : n ≤ 16 = c.requires.count in
    let lt : i < n = c.loop-i-test.true in
    let all : AllByRecursion IsManifestEntry (take n es) = c.requires.release.entries in
    let is : IsManifestEntry (get_or es i none) = front_at IsManifestEntry n es i none all lt (omega arith) in
    let wide : length piece ≡ 38 = ap length c.entry_array.ensures ∙ entry_wide (get_or es i none) is in
    let before : AllByRecursion IsManifestEntry (take i es) = subst (AllByRecursion IsManifestEntry) (take-take i n es (omega arith)) (all_front IsManifestEntry i (take n es) all) in
    let flat : List ℕ = flat_map manifest_entry_bytes (take i es) in
    let len : length (front ++ flat) ≡ 5 + 38 * i =
    length-append front flat ∙ omega (arith, length-among IsManifestEntry manifest_entry_bytes 38 entry_wide (take i es) before, length-take-le i es (omega arith)) in
    let step = put_next (front ++ flat) old c.loop-i.into piece (5 + 38 * i) c.loop-i.invariant len in
    let more : (front ++ flat) ++ piece ≡ front ++ flat_map manifest_entry_bytes (take (i + 1) es) =
    ap (λ (x : List ℕ). (front ++ flat) ++ x) c.entry_array.ensures ∙ flat_map_more manifest_entry_bytes front (take i es) (get_or es i none)
    ∙ ap (λ (x : List Entry). front ++ flat_map manifest_entry_bytes x) (sym (take_more es i none (omega arith))) in
    let rest : 5 + 38 * i + length piece ≡ 5 + 38 * (i + 1) = omega arith in
    c.put-in-loop-i.ensures ∙ step ∙ ap₂ (λ (x : List ℕ) (k : ℕ). x ++ drop k old) more rest

pub returns-clause-bytes : goal.returns-clause-bytes
returns-clause-bytes c =
    let es : List Entry = c.args.m.now.entries in
    let n : ℕ = c.args.m.now.count in
    let room : length es ≡ 16 = search rules in
    let few : n ≤ 16 = c.requires.count in
    let all : c.loop-i.i ≡ n = omega (arith, c.loop-i-test.false, c.loop-i.auto.i-end) in
    let count : length (take n es) ≡ n = length-take-le n es (omega arith) in
    rw (count) (subst (λ (k : ℕ). c.loop-i.into ≡ ((u32_bytes c.args.m.now.release ++ n ∷ []) ++ flat_map manifest_entry_bytes (take k es)) ++ drop (5 + 38 * k) c.args.into.now) all c.loop-i.invariant)

pub returns-clause-count : goal.returns-clause-count
returns-clause-count c =
    let es : List Entry = c.args.m.now.entries in
    let n : ℕ = c.args.m.now.count in
    let room : length es ≡ 16 = search rules in
    let few : n ≤ 16 = c.requires.count in
    omega (arith, length-among IsManifestEntry manifest_entry_bytes 38 entry_wide (take n es) c.requires.release.entries, length-take-le n es (omega arith))
