use Rattle.std.proofs.Common.{◌≡◌, ℕ, ◌<◌, length, arith}
use Rattle.component_package.specs.packages.Reading.{header_of, export_of, raw_export}
use Rattle.component_package.proofs.Lists.{slice_get-list_of, length-list_of}
use Rattle.component_package.proofs.read.PackageView.export.Goals as goal

pub export_raw-requires-clause-inside : goal.export_raw-requires-clause-inside
export_raw-requires-clause-inside c =
    let b = c.self.inside.bytes.now in
    let n : length c.args.self.now.exports ≡ c.self.inside.header.exports = rw (← c.self.view_is, c.self.invariant.header) (length-list_of (λ i. export_of (raw_export b i)) _) in
    omega arith

pub returns : goal.returns
returns c =
    let b = c.self.inside.bytes.now in
    let f = λ (i : ℕ). export_of (raw_export b i) in
    let n : length c.args.self.now.exports ≡ (header_of b).exports = rw (← c.self.view_is) (length-list_of f _) in
    let inside : c.args.i < (header_of b).exports = rw n at c.requires in
    rw (← c.self.view_is, c.export_of.ensures, c.export_raw.ensures) (slice_get-list_of f _ c.args.i inside)
