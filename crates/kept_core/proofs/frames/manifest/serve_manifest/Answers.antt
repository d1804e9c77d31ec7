use Rattle.std.proofs.Common.{sym, ap, ◌∙◌, arith, ℕ}
use Rattle.std.proofs.lemmas.Bool.{lt-ltb, le-ltb}
use Rattle.component_package.specs.declared.answer.Answer.TheVariants.{Reboot, BadManifest}
use Rattle.kept_definitions.specs.Stored.{StoredRelease, stored_bytes}
use Rattle.component_package.specs.packages.Manifest.{release_of}
use Rattle.kept_manifests.specs.Slots.{stored_of}
use Rattle.kept_definitions.specs.Kept.{slots_for}
use Rattle.kept_definitions.specs.Machine.{refuses}
use Rattle.kept_core.specs.Reading.{frame_of}
use Rattle.kept_core.proofs.Works.{idle, served_so}
use Rattle.kept_core.proofs.Rows.{standing_row, current_number}
use Rattle.kept_core.proofs.Manifests.{manifest_bad, manifest_stale, manifest_same, manifest_new, comes_next, manifest_works, manifest_does, held_is, incoming_same}
use Rattle.kept_journal.specs.Steps.{parts, Step, CanTake, takes_in, taken_in, manifest_pages}
use Rattle.kept_core.proofs.Wears.{idle_starts, takes_idle, manifest_low}
use Rattle.kept_core.proofs.Formats.{stays_here, stays_becomes, taken_unformatted}
use Rattle.kept_core.proofs.frames.manifest.serve_manifest.Goals as goal

pub returns-then-standing-clause-works : goal.returns-then-standing-clause-works
returns-then-standing-clause-works g c z t told stands is = idle t (frame_of 1 c.args.payload.now) z 10 _ told stands

pub returns-then-standing-clause-does : goal.returns-then-standing-clause-does
returns-then-standing-clause-does g c z t told stands is =
    served_so t (frame_of 1 c.args.payload.now) (Reboot c.args.standing.now.current.manifest.release) z (g.B.Board.view c.args.board.now) told stands (standing_row t _ _ (sym is.standing ∙ c.if-standing.true) (current_number t _ is))

pub returns-in-Err-clause-works : goal.returns-in-Err-clause-works
returns-in-Err-clause-works g c z t told stands is = idle t (frame_of 1 c.args.payload.now) z 10 _ told stands

pub returns-in-Err-clause-does : goal.returns-in-Err-clause-does
returns-in-Err-clause-does g c z t told stands is =
    served_so t (frame_of 1 c.args.payload.now) _ z (g.B.Board.view c.args.board.now) told stands
    (manifest_bad t c.args.payload.now c.in-Err.fault (sym is.standing ∙ c.if-standing.false) (sym (c.in-Err.ensures.fault (let short = c.requires.short in omega arith))) ∙ ap (λ (n : ℕ). refuses t (BadManifest n)) (sym c.number.ensures))

pub returns-then-manifest-current-clause-works : goal.returns-then-manifest-current-clause-works
returns-then-manifest-current-clause-works g c z t told stands is = idle t (frame_of 1 c.args.payload.now) z 10 _ told stands

pub returns-then-manifest-current-clause-does : goal.returns-then-manifest-current-clause-does
returns-then-manifest-current-clause-does g c z t told stands is =
    let number = current_number t c.args.standing.now is in
    let low = c.if-manifest-current.true in
    served_so t (frame_of 1 c.args.payload.now) _ z (g.B.Board.view c.args.board.now) told stands
    (manifest_stale t c.args.payload.now (release_of c.in-Ok.manifest) (sym is.standing ∙ c.if-standing.false) (sym (c.in-Ok.ensures.fault (let short = c.requires.short in omega arith))) c.in-Ok.ensures.release _
    (le-ltb t.current.release.number c.in-Ok.manifest.release (omega arith)) number)

pub returns-then-is_incoming-clause-works : goal.returns-then-is_incoming-clause-works
returns-then-is_incoming-clause-works g c z t told stands is = idle t (frame_of 1 c.args.payload.now) z 10 _ told stands

pub returns-then-is_incoming-clause-does : goal.returns-then-is_incoming-clause-does
returns-then-is_incoming-clause-does g c z t told stands is =
    let r = release_of c.in-Ok.manifest in
    let number = current_number t c.args.standing.now is in
    let high = c.if-manifest-current.false in
    served_so t (frame_of 1 c.args.payload.now) _ z (g.B.Board.view c.args.board.now) told stands
    (manifest_same t c.args.payload.now r (sym is.standing ∙ c.if-standing.false) (sym (c.in-Ok.ensures.fault (let short = c.requires.short in omega arith))) c.in-Ok.ensures.release _
    (lt-ltb t.current.release.number r.number (omega arith)) (incoming_same t c.args.standing.now r c.is_incoming.result is c.is_incoming.ensures ∙ c.if-is_incoming.true)
    (held_is t c.args.standing.now r c.held_count.result is c.held_count.ensures.count))

pub returns-in_err-put_manifest-clause-works : goal.returns-in_err-put_manifest-clause-works
returns-in_err-put_manifest-clause-works g c z t told stands is =
    let r = release_of c.in-Ok.manifest in
    let number = current_number t c.args.standing.now is in
    let high = c.if-manifest-current.false in
    manifest_works z t (stored_of c.slot_for.result) c.args.payload.now _ _ stands
    (comes_next t r _ (sym is.standing ∙ c.if-standing.false) c.in-Ok.ensures.spells.release (omega arith) (c.slot_for.ensures.slots ∙ ap (λ (m : StoredRelease). slots_for m r) is.current))
    (c.put_manifest.ensures.each z told)

pub returns-clause-works : goal.returns-clause-works
returns-clause-works g c z t told stands is =
    let r = release_of c.in-Ok.manifest in
    let number = current_number t c.args.standing.now is in
    let high = c.if-manifest-current.false in
    manifest_works z t (stored_of c.slot_for.result) c.args.payload.now _ _ stands
    (comes_next t r _ (sym is.standing ∙ c.if-standing.false) c.in-Ok.ensures.spells.release (omega arith) (c.slot_for.ensures.slots ∙ ap (λ (m : StoredRelease). slots_for m r) is.current))
    (c.put_manifest.ensures.each z told)

pub returns-clause-does : goal.returns-clause-does
returns-clause-does g c z t told stands is =
    let r = release_of c.in-Ok.manifest in
    let number = current_number t c.args.standing.now is in
    let high = c.if-manifest-current.false in
    let rests = sym is.standing ∙ c.if-standing.false in
    let slots = c.slot_for.ensures.slots ∙ ap (λ (m : StoredRelease). slots_for m r) is.current in
    manifest_does z t (stored_of c.slot_for.result) r c.args.payload.now _ _ _ stands
    (comes_next t r _ rests c.in-Ok.ensures.spells.release (omega arith) slots) slots
    (manifest_new t c.args.payload.now r rests (sym (c.in-Ok.ensures.fault (let short = c.requires.short in omega arith))) c.in-Ok.ensures.release
    (lt-ltb t.current.release.number r.number (omega arith)) (incoming_same t c.args.standing.now r c.is_incoming.result is c.is_incoming.ensures ∙ c.if-is_incoming.false))
    (held_is t c.args.standing.now r c.held_count.result is c.held_count.ensures.count)
    (c.in_ok-put_manifest.ensures.ok z told)

pub returns-then-standing-clause-idle : goal.returns-then-standing-clause-idle
returns-then-standing-clause-idle g c z told = idle_starts (g.B.Board.view c.args.board.now)

pub returns-then-standing-clause-formatted : goal.returns-then-standing-clause-formatted
returns-then-standing-clause-formatted g c z told = stays_here z (g.B.Board.view c.args.board.now) told

pub returns-in-Err-clause-idle : goal.returns-in-Err-clause-idle
returns-in-Err-clause-idle g c z told = idle_starts (g.B.Board.view c.args.board.now)

pub returns-in-Err-clause-formatted : goal.returns-in-Err-clause-formatted
returns-in-Err-clause-formatted g c z told = stays_here z (g.B.Board.view c.args.board.now) told

pub returns-then-manifest-current-clause-idle : goal.returns-then-manifest-current-clause-idle
returns-then-manifest-current-clause-idle g c z told = idle_starts (g.B.Board.view c.args.board.now)

pub returns-then-manifest-current-clause-formatted : goal.returns-then-manifest-current-clause-formatted
returns-then-manifest-current-clause-formatted g c z told = stays_here z (g.B.Board.view c.args.board.now) told

pub returns-then-is_incoming-clause-idle : goal.returns-then-is_incoming-clause-idle
returns-then-is_incoming-clause-idle g c z told = idle_starts (g.B.Board.view c.args.board.now)

pub returns-then-is_incoming-clause-formatted : goal.returns-then-is_incoming-clause-formatted
returns-then-is_incoming-clause-formatted g c z told = stays_here z (g.B.Board.view c.args.board.now) told

pub returns-in_err-put_manifest-clause-idle : goal.returns-in_err-put_manifest-clause-idle
returns-in_err-put_manifest-clause-idle g c z told = takes_idle (Step (CanTake (stored_of c.slot_for.result)) (manifest_pages (parts z)) z) (manifest_pages (parts z)) 10 (g.B.Board.view c.args.board.now) (g.B.Board.view c.put_manifest.new.board) (manifest_low (parts z)) (c.put_manifest.ensures.each z told)

pub returns-clause-idle : goal.returns-clause-idle
returns-clause-idle g c z told = takes_idle (Step (CanTake (stored_of c.slot_for.result)) (manifest_pages (parts z)) z) (manifest_pages (parts z)) 10 (g.B.Board.view c.args.board.now) (g.B.Board.view c.put_manifest.new.board) (manifest_low (parts z)) (c.put_manifest.ensures.each z told)

pub returns-clause-formatted : goal.returns-clause-formatted
returns-clause-formatted g c z told = stays_becomes (taken_in (stored_bytes (stored_of c.slot_for.result)) (parts z)) (CanTake (stored_of c.slot_for.result)) (takes_in (stored_of c.slot_for.result)) z (g.B.Board.view c.put_manifest.new.board) (c.in_ok-put_manifest.ensures.ok z told) (taken_unformatted (stored_bytes (stored_of c.slot_for.result)) (parts z))
