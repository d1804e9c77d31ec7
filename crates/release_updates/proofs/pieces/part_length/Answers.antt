use Rattle.std.proofs.Common.{◌≡◌, ◌≤◌, ◌+◌, ◌*◌, ◌++◌, ◌∷◌, [], ℕ, Bool, true, false, length, List, take, get_or, sym, ap, ap₂, subst, ◌∙◌, arith, length-append, append_assoc}
use Rattle.std.proofs.lemmas.List.{append-nil}
use Rattle.component_package.specs.mote.Frames.{Frame, stream_of}
use Rattle.release_rows.specs.declared.part.Numbered.{Numbered}
use Rattle.update_laws.specs.Update.{Delivered, pages_of, pieces_from}
use Rattle.release_updates.specs.Updates.{with_packages, parts_alone}
use Rattle.release_updates.proofs.Sent.{delivered_at, held_alone, held_none, new_all, pieces_wide}
use Rattle.release_updates.proofs.pieces.part_length.Goals as goal

pub returns-then-has_version-clause-length : goal.returns-then-has_version-clause-length
returns-then-has_version-clause-length c k =
    let olds : List Delivered = parts_alone c.args.olds.now in
    let d : Delivered = delivered_at c.args.part c.args.bytes.now in
    let held = sym (held_alone c.args.olds.now d) ∙ sym c.has_version.ensures ∙ c.if-has_version.true in
    sym (ap (λ (fs : List Frame). length (stream_of fs)) (held_none olds k d held))

pub returns-clause-length : goal.returns-clause-length
returns-clause-length c k =
    let olds : List Delivered = parts_alone c.args.olds.now in
    let b : List ℕ = c.args.bytes.now in
    let d : Delivered = delivered_at c.args.part b in
    let new = sym (held_alone c.args.olds.now d) ∙ sym c.has_version.ensures ∙ c.if-has_version.false in
    ap (λ (n : ℕ). length b + 5 * n) c.pages_of.ensures ∙ sym (pieces_wide k 0 (pages_of b) b (omega arith))
    ∙ sym (ap (λ (fs : List Frame). length (stream_of fs)) (new_all olds k d new))
