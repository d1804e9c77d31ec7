use Rattle.std.proofs.Common.{◌≡◌, ◌≤◌, ◌+◌, ◌*◌, ◌++◌, ◌∷◌, [], ℕ, Bool, true, false, length, List, take, get_or, sym, ap, ap₂, subst, ◌∙◌, arith, length-append, append_assoc}
use Rattle.std.proofs.lemmas.List.{append-nil}
use Rattle.component_package.specs.mote.Frames.{Frame, stream_of}
use Rattle.release_rows.specs.declared.part.Numbered.{Numbered}
use Rattle.update_laws.specs.Update.{Delivered, pages_of, pieces_from}
use Rattle.release_updates.specs.Updates.{with_packages, parts_alone}
use Rattle.release_updates.proofs.Sent.{delivered_at, held_alone, held_none, new_all, pieces_wide}
use Rattle.release_updates.proofs.pieces.push_part.Goals as goal

pub returns-then-has_version : goal.returns-then-has_version
returns-then-has_version c =
    let olds : List Delivered = parts_alone c.args.olds.now in
    let d : Delivered = delivered_at c.args.part c.args.bytes.now in
    let held = sym (held_alone c.args.olds.now d) ∙ sym c.has_version.ensures ∙ c.if-has_version.true in
    sym (ap (λ (fs : List Frame). c.args.out.now.items ++ stream_of fs) (held_none olds c.args.ordinal d held) ∙ append-nil c.args.out.now.items)

pub returns : goal.returns
returns c =
    let olds : List Delivered = parts_alone c.args.olds.now in
    let d : Delivered = delivered_at c.args.part c.args.bytes.now in
    let new = sym (held_alone c.args.olds.now d) ∙ sym c.has_version.ensures ∙ c.if-has_version.false in
    c.in_ok-push_pieces.ensures ∙ sym (ap (λ (fs : List Frame). c.args.out.now.items ++ stream_of fs) (new_all olds c.args.ordinal d new))
