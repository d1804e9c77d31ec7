use Rattle.std.proofs.Common.{arith, ◌++◌, ◌∷◌, [], ◌∙◌, ap, sym, List, ℕ, length, map}
use Rattle.std.specs.List.{flat_map}
use Rattle.std.proofs.lemmas.List.{take_all, length-map}
use Rattle.std.proofs.lemmas.List.Folds.{flat_map-map}
use Rattle.component_package.specs.packages.Numbers.{u32_bytes}
use Rattle.component_package.specs.packages.Manifest.{manifest_entry_bytes}
use Rattle.update_laws.specs.Update.{Delivered, entry_of}
use Rattle.drawn_releases.proofs.frames.manifest.Goals as goal

pub returns : goal.returns
returns c =
    let ds = c.args.packages.now in
    c.loop-delivered.invariant
    ∙ ap (λ (x : List Delivered). (u32_bytes c.args.number ++ length ds ∷ []) ++ flat_map (λ d. manifest_entry_bytes (entry_of d)) x) (take_all c.loop-delivered.delivered-index ds (omega (arith, c.loop-delivered-test.false)))
    ∙ ap (λ (n : ℕ). u32_bytes c.args.number ++ n ∷ flat_map (λ d. manifest_entry_bytes (entry_of d)) ds) (sym (length-map ds entry_of))
    ∙ ap (λ (x : List ℕ). u32_bytes c.args.number ++ length (map entry_of ds) ∷ x) (sym (flat_map-map manifest_entry_bytes entry_of ds))
