use Rattle.std.proofs.Common.{◌≡◌, ◌≤◌, ◌<◌, ◌+◌, ℕ, length, List, [], take, map, get_or, sym, ap, subst, ◌∙◌, arith, length-set}
use Rattle.component_package.specs.declared.manifest.Entry.{Entry}
use Rattle.component_package.specs.packages.Manifest.{Release, IsRelease}
use Rattle.release_rows.specs.declared.part.Numbered.{Numbered}
use Rattle.update_laws.specs.Update.{Delivered, entry_of, release_of_packages}
use Rattle.release_updates.specs.Updates.{with_packages}
use Rattle.release_updates.proofs.Sent.{delivered_at}
use Rattle.release_updates.proofs.Packages.{are_lengths, length_with, with_more, package_at, package_short, parts_release, entries_more, entries_all}
use Rattle.release_updates.proofs.manifest.manifest_of.Goals as goal

abbrev none : Numbered
none = record { component = 0; version = 0 }

pub bounds-packages-i : goal.bounds-packages-i
bounds-packages-i c = omega (arith, c.loop-i-test.true, are_lengths c.args.parts.now c.args.packages.now c.requires.packages)

pub entry_of-requires : goal.entry_of-requires
entry_of-requires c =
    let ps : List Numbered = c.args.parts.now in
    let bs : List (List ℕ) = c.args.packages.now in
    let i : ℕ = c.loop-i.i in
    let p : Numbered = get_or ps i none in
    let x : List ℕ = c.index-packages-i.result in
    subst (λ (b : List ℕ). length b ≤ 9984) (sym (c.as_slice.ensures ∙ c.index-packages-i.is)) (package_short p.component p.version (get_or bs i x) (package_at ps bs i none x c.requires.packages c.loop-i-test.true))

pub loop-i-preserved : goal.loop-i-preserved
loop-i-preserved c =
    let ps : List Numbered = c.args.parts.now in
    let bs : List (List ℕ) = c.args.packages.now in
    let i : ℕ = c.loop-i.i in
    let p : Numbered = get_or ps i none in
    let x : List ℕ = c.index-packages-i.result in
    let d : Delivered = delivered_at p (get_or bs i x) in
    let es : List Entry = c.loop-i.entries in
    let entry : c.entry_of.result ≡ entry_of d = c.entry_of.ensures ∙ ap (λ (b : List ℕ). entry_of (delivered_at p b)) (c.as_slice.ensures ∙ c.index-packages-i.is) in
    let more = with_more ps bs i none x (are_lengths ps bs c.requires.packages) c.loop-i-test.true in (
      length-set es i c.entry_of.result ∙ c.loop-i.invariant.0,
      entries_more es (with_packages ps bs) i c.entry_of.result d (omega (arith, c.loop-i.invariant.0, c.loop-i-test.true, c.requires.parts.few)) entry more c.loop-i.invariant.1,
    )

pub returns-clause-release : goal.returns-clause-release
returns-clause-release c =
    let ps : List Numbered = c.args.parts.now in
    let bs : List (List ℕ) = c.args.packages.now in
    let news : List Delivered = with_packages ps bs in
    let count : length ps ≡ length news = sym (length_with ps bs (are_lengths ps bs c.requires.packages)) in
    ap (λ (es : List Entry). record { number = c.args.release; entries = es })
    (entries_all (length ps) c.loop-i.i c.loop-i.entries news count (omega (arith, c.loop-i-test.false, c.loop-i.auto.i-end)) c.loop-i.invariant.1)

pub returns-clause-manifest : goal.returns-clause-manifest
returns-clause-manifest c =
    let ps : List Numbered = c.args.parts.now in
    let bs : List (List ℕ) = c.args.packages.now in
    record {
      count = c.requires.parts.few;
      release = subst IsRelease (sym (returns-clause-release c)) (parts_release c.args.release ps bs (omega (arith, c.ranges.release.fits)) c.requires.parts c.requires.packages);
    }
