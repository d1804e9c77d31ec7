use Rattle.std.proofs.Common.{◌≡◌, ℕ, List, Option, Some, sym, ap, subst, ◌∙◌}
use Rattle.std.specs.Option.{option_map}
use Rattle.component_package.specs.mote.Frames.{stream_of}
use Rattle.release_rows.specs.declared.part.Numbered.{Numbered}
use Rattle.release_rows.specs.Kept.{packages_of}
use Rattle.update_laws.specs.Update.{update_frames}
use Rattle.release_updates.specs.Updates.{with_packages, parts_alone}
use Rattle.release_updates.proofs.Cases.{no_row, no_package, frames_between}
use Rattle.release_updates.proofs.update.update_between.Goals as goal

pub returns-in_default-2-clause-frames : goal.returns-in_default-2-clause-frames
returns-in_default-2-clause-frames g c t told =
    let row = c.in_ok-parts.ensures.row t (c.in_ok-olds.ensures.reads.tables ∙ told) in
    sym (ap (option_map stream_of) (no_row t c.args.mote.now c.args.have c.args.last c.requires.some (sym row ∙ c.in_default-2.is)))

pub returns-in_default-3-clause-frames : goal.returns-in_default-3-clause-frames
returns-in_default-3-clause-frames g c t told =
    let then = c.in_ok-olds.ensures.reads.tables ∙ told in
    let row = sym (c.in_ok-parts.ensures.row t then) ∙ c.in-Some-2.is in
    let read = c.in_ok-packages.ensures.packages t (c.in_ok-parts.ensures.reads.tables ∙ then) in
    let none = sym (ap (packages_of t) c.as_slice.ensures) ∙ sym read ∙ ap (option_map (λ v. v.items)) c.in_default-3.is in
    sym (ap (option_map stream_of) (no_package t c.args.mote.now c.args.have c.args.last c.requires.some c.in-Some-2.parts row none))

pub returns-clause-frames : goal.returns-clause-frames
returns-clause-frames g c t told =
    let then = c.in_ok-olds.ensures.reads.tables ∙ told in
    let older = sym (c.in_ok-olds.ensures.parts t told) ∙ c.in-Some.is in
    let row = sym (c.in_ok-parts.ensures.row t then) ∙ c.in-Some-2.is in
    let read = c.in_ok-packages.ensures.packages t (c.in_ok-parts.ensures.reads.tables ∙ then) in
    let all = sym (ap (packages_of t) c.as_slice.ensures) ∙ sym read ∙ ap (option_map (λ v. v.items)) c.in-Some-3.is in
    let have : ℕ = c.args.have in
    let last : ℕ = c.args.last in
    let sent = c.in_ok-update.ensures
    ∙ ap (λ (ps : List Numbered). stream_of (update_frames have (parts_alone ps) last (with_packages c.as_slice-3.result.now c.deref.result.now))) c.as_slice-2.ensures
    ∙ ap (λ (ps : List Numbered). stream_of (update_frames have (parts_alone c.in-Some.olds) last (with_packages ps c.deref.result.now))) c.as_slice-3.ensures
    ∙ ap (λ (bs : List (List ℕ)). stream_of (update_frames have (parts_alone c.in-Some.olds) last (with_packages c.in-Some-2.parts bs))) c.deref.ensures.value in
    ap Some sent ∙ sym (ap (option_map stream_of) (frames_between t c.args.mote.now have last c.requires.some c.in-Some.olds c.in-Some-2.parts c.in-Some-3.packages.items older row all))
