use Rattle.std.proofs.Common.{◌≡◌, ℕ, ◌<◌, length, arith}
use Rattle.component_package.specs.packages.Reading.{header_of, reloc_of, raw_reloc}
use Rattle.component_package.proofs.Lists.{slice_get-list_of, length-list_of}
use Rattle.component_package.proofs.read.PackageView.reloc.Goals as goal

pub reloc_raw-requires-clause-inside : goal.reloc_raw-requires-clause-inside
reloc_raw-requires-clause-inside c =
    let b = c.self.inside.bytes.now in
    let n : length c.args.self.now.relocs ≡ c.self.inside.header.relocs = rw (← c.self.view_is, c.self.invariant.header) (length-list_of (λ i. reloc_of (raw_reloc b i)) _) in
    omega arith

pub returns : goal.returns
returns c =
    let b = c.self.inside.bytes.now in
    let f = λ (i : ℕ). reloc_of (raw_reloc b i) in
    let n : length c.args.self.now.relocs ≡ (header_of b).relocs = rw (← c.self.view_is) (length-list_of f _) in
    let inside : c.args.i < (header_of b).relocs = rw n at c.requires in
    rw (← c.self.view_is, c.reloc_of.ensures, c.reloc_raw.ensures) (slice_get-list_of f _ c.args.i inside)
