use Rattle.std.proofs.Common.{◌≡◌, ◌≤◌, ◌<◌, ◌+◌, ◌*◌, ◌++◌, ◌∷◌, [], ℕ, length, List, take, map, get_or, sym, ap, ap₂, subst, ◌∙◌, arith, length-append, append_assoc}
use Rattle.component_package.specs.mote.Frames.{Frame, stream_of}
use Rattle.release_rows.specs.declared.part.Numbered.{Numbered}
use Rattle.update_laws.specs.Update.{Delivered, pages_of, pieces_from, entry_of}
use Rattle.release_updates.specs.Updates.{with_packages, parts_alone}
use Rattle.release_updates.proofs.Sent.{delivered_at}
use Rattle.release_updates.proofs.Packages.{are_lengths, length_with, package_at, package_short, pieces_next, pieces_all}
use Rattle.release_updates.proofs.pieces.push_parts.Goals as goal

abbrev none : Numbered
none = record { component = 0; version = 0 }

pub bounds-packages-i : goal.bounds-packages-i
bounds-packages-i c = omega (arith, c.loop-i-test.true, are_lengths c.args.parts.now c.args.packages.now c.requires.packages)

pub push_part-requires : goal.push_part-requires
push_part-requires c =
    let ps : List Numbered = c.args.parts.now in
    let bs : List (List ℕ) = c.args.packages.now in
    let i : ℕ = c.loop-i.i in
    let p : Numbered = get_or ps i none in
    let x : List ℕ = c.index-packages-i.result in
    subst (λ (b : List ℕ). length b ≤ 9984) (sym (c.as_slice.ensures ∙ c.index-packages-i.is)) (package_short p.component p.version (get_or bs i x) (package_at ps bs i none x c.requires.packages c.loop-i-test.true))

pub loop-i-preserved : goal.loop-i-preserved
loop-i-preserved c =
    let olds : List Delivered = parts_alone c.args.olds.now in
    let ps : List Numbered = c.args.parts.now in
    let bs : List (List ℕ) = c.args.packages.now in
    let i : ℕ = c.loop-i.i in
    let p : Numbered = get_or ps i none in
    let x : List ℕ = c.index-packages-i.result in
    let old : List ℕ = c.args.out.now.items in
    let sent : List ℕ = stream_of (pieces_from olds 0 (take i (with_packages ps bs))) in
    let piece : List ℕ = stream_of (pieces_from olds i (delivered_at p (get_or bs i x) ∷ [])) in
    let same = are_lengths ps bs c.requires.packages in
    c.in_ok-push_part.ensures ∙ ap (λ (b : List ℕ). c.loop-i.out.items ++ stream_of (pieces_from olds i (delivered_at p b ∷ []))) (c.as_slice.ensures ∙ c.index-packages-i.is)
    ∙ ap (λ (x : List ℕ). x ++ piece) c.loop-i.invariant ∙ append_assoc old sent piece ∙ ap (λ (x : List ℕ). old ++ x) (sym (pieces_next olds ps bs i none x same c.loop-i-test.true))

pub returns : goal.returns
returns c =
    let olds : List Delivered = parts_alone c.args.olds.now in
    let ps : List Numbered = c.args.parts.now in
    let bs : List (List ℕ) = c.args.packages.now in
    let all = pieces_all olds ps bs c.loop-i.i (are_lengths ps bs c.requires.packages) (omega (arith, c.loop-i-test.false)) in
    c.loop-i.invariant ∙ ap (λ (fs : List Frame). c.args.out.now.items ++ stream_of fs) all
