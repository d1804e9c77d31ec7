use Rattle.std.proofs.Common.{true, false, Some, Err, refl, sym, ap, ◌∙◌, subst, arith}
use Rattle.component_package.specs.declared.answer.Answer.TheVariants.{Reboot, NoManifest, Linked, Missing as MissingLine, BadPackage as BadPackageLine}
use Rattle.kept_manifests.specs.Slots.{stored_of}
use Rattle.component_package.specs.mote.Store.{Missing, BadPackage}
use Rattle.kept_definitions.specs.Kept.{set_fault}
use Rattle.component_store.specs.declared.set.SetFault.{SetFault}
use Rattle.kept_store.specs.declared.set.StoredSet.{StoredSet}
use Rattle.component_store.specs.Sets.{SetFaultIs, is_set_fault}
use Rattle.kept_core.specs.Frames.{link_frame}
use Rattle.kept_core.specs.Links.{Opens}
use Rattle.kept_core.proofs.Works.{idle, only_read, weaker_read, served_so}
use Rattle.kept_core.proofs.Rows.{standing_row, current_number, incoming_is, nothing_incoming}
use Rattle.kept_core.proofs.Chain.{link_none, link_again, link_opens, flags_are, link_works, link_does}
use Rattle.kept_core.proofs.Wears.{idle_starts, idle_reads, idle_wears, read_wears, link_wears}
use Rattle.kept_core.proofs.Formats.{stays_here, stays_alike}
use Rattle.kept_core.proofs.frames.link.serve_link.Goals as goal

pub returns-then-standing-clause-works : goal.returns-then-standing-clause-works
returns-then-standing-clause-works g c z t told stands is read =
    idle t link_frame z 771 _ told stands

pub returns-then-standing-clause-does : goal.returns-then-standing-clause-does
returns-then-standing-clause-does g c z t told stands is read =
    served_so t link_frame (Reboot c.args.standing.now.current.manifest.release) z (g.B.Board.view c.args.board.now) told stands (standing_row t _ _ (sym is.standing ∙ c.if-standing.true) (current_number t _ is))

pub returns-in_default-clause-works : goal.returns-in_default-clause-works
returns-in_default-clause-works g c z t told stands is read =
    idle t link_frame z 771 _ told stands

pub returns-in_default-clause-does : goal.returns-in_default-clause-does
returns-in_default-clause-does g c z t told stands is read =
    served_so t link_frame NoManifest z (g.B.Board.view c.args.board.now) told stands (link_none t (sym is.standing ∙ c.if-standing.false) (nothing_incoming t c.args.standing.now is c.in_default.is))

pub returns-then-standing-2-clause-works : goal.returns-then-standing-2-clause-works
returns-then-standing-2-clause-works g c z t told stands is read =
    idle t link_frame z 771 _ told stands

pub returns-then-standing-2-clause-does : goal.returns-then-standing-2-clause-does
returns-then-standing-2-clause-does g c z t told stands is read =
    let rests = sym is.standing ∙ c.if-standing.false in
    let m = stored_of c.in-Some.incoming in
    let coming = incoming_is t c.args.standing.now c.in-Some.incoming is c.in-Some.is in
    served_so t link_frame (Linked c.in-Some.incoming.manifest.release) z (g.B.Board.view c.args.board.now) told stands (link_again t m rests coming _ (sym is.linked ∙ c.if-standing-2.true) refl)

pub returns-in-Err-Missing-clause-works : goal.returns-in-Err-Missing-clause-works
returns-in-Err-Missing-clause-works g c z t told stands is read =
    only_read t link_frame z 771 (g.B.Board.view c.args.board.now) (g.B.Board.view c.open_coming.new.board) told stands c.open_coming.ensures.reads

pub returns-in-Err-Missing-clause-does : goal.returns-in-Err-Missing-clause-does
returns-in-Err-Missing-clause-does g c z t told stands is read =
    let rests = sym is.standing ∙ c.if-standing.false in
    let m = stored_of c.in-Some.incoming in
    let coming = incoming_is t c.args.standing.now c.in-Some.incoming is c.in-Some.is in
    let unlinked = sym is.linked ∙ c.if-standing-2.false in
    let opens : Opens t c.args.standing.now.current c.in-Some.incoming z = record { stands = stands; rests = rests; current = is.current; incoming = coming; unlinked = unlinked } in
    let faulty = subst (λ (e : SetFault). SetFaultIs {A = StoredSet} (Err e) (set_fault t.inbox m)) c.in-Err-Missing.field-0-is (c.in-Err-Missing.ensures.answer (ap (λ (e : SetFault). is_set_fault {A = StoredSet} (Err e)) c.in-Err-Missing.field-0-is) z told t opens) in
    served_so t link_frame (MissingLine c.in-Err-Missing.k) z (g.B.Board.view c.open_coming.new.board) (c.open_coming.ensures.reads.state ∙ told) stands (link_opens t m rests coming (Some (Missing c.in-Err-Missing.k)) unlinked faulty)

pub returns-in-Err-BadPackage-clause-works : goal.returns-in-Err-BadPackage-clause-works
returns-in-Err-BadPackage-clause-works g c z t told stands is read =
    only_read t link_frame z 771 (g.B.Board.view c.args.board.now) (g.B.Board.view c.open_coming.new.board) told stands c.open_coming.ensures.reads

pub returns-in-Err-BadPackage-clause-does : goal.returns-in-Err-BadPackage-clause-does
returns-in-Err-BadPackage-clause-does g c z t told stands is read =
    let rests = sym is.standing ∙ c.if-standing.false in
    let m = stored_of c.in-Some.incoming in
    let coming = incoming_is t c.args.standing.now c.in-Some.incoming is c.in-Some.is in
    let unlinked = sym is.linked ∙ c.if-standing-2.false in
    let opens : Opens t c.args.standing.now.current c.in-Some.incoming z = record { stands = stands; rests = rests; current = is.current; incoming = coming; unlinked = unlinked } in
    let faulty = subst (λ (e : SetFault). SetFaultIs {A = StoredSet} (Err e) (set_fault t.inbox m)) c.in-Err-BadPackage.field-0-is (c.in-Err-BadPackage.ensures.answer (ap (λ (e : SetFault). is_set_fault {A = StoredSet} (Err e)) c.in-Err-BadPackage.field-0-is) z told t opens) in
    served_so t link_frame (BadPackageLine c.in-Err-BadPackage.k c.in-Err-BadPackage.fault) z (g.B.Board.view c.open_coming.new.board) (c.open_coming.ensures.reads.state ∙ told) stands (link_opens t m rests coming (Some (BadPackage c.in-Err-BadPackage.k c.in-Err-BadPackage.fault)) unlinked faulty)

pub returns-in-Err-Fault-clause-works : goal.returns-in-Err-Fault-clause-works
returns-in-Err-Fault-clause-works g c z t told stands is read =
    only_read t link_frame z 771 (g.B.Board.view c.args.board.now) (g.B.Board.view c.open_coming.new.board) told stands c.open_coming.ensures.reads

pub returns-in-Ok-link_set-clause-works : goal.returns-in-Ok-link_set-clause-works
returns-in-Ok-link_set-clause-works g c z t told stands is read =
    let rests = sym is.standing ∙ c.if-standing.false in
    let m = stored_of c.in-Some.incoming in
    let coming = incoming_is t c.args.standing.now c.in-Some.incoming is c.in-Some.is in
    let unlinked = sym is.linked ∙ c.if-standing-2.false in
    let told_read = c.open_coming.ensures.reads.state ∙ told in
    let opens : Opens t c.args.standing.now.current c.in-Some.incoming z = record { stands = stands; rests = rests; current = is.current; incoming = coming; unlinked = unlinked } in
    let linking = c.in-Ok.ensures.linking z told t opens in
    let flags = flags_are t c.args.standing.now c.in-Some.incoming z stands read c.in-Some.is rests unlinked in
    let run = c.link_set.ensures.leaves z told_read t linking flags in
    weaker_read t link_frame z 771 771 (g.B.Board.view c.args.board.now) (g.B.Board.view c.open_coming.new.board) (g.B.Board.view c.link_set.new.board) told stands c.open_coming.ensures.reads (omega arith) (link_works t z (g.B.Board.view c.open_coming.new.board) (g.B.Board.view c.link_set.new.board) stands run)

pub returns-in-Err-clause-works : goal.returns-in-Err-clause-works
returns-in-Err-clause-works g c z t told stands is read =
    let rests = sym is.standing ∙ c.if-standing.false in
    let m = stored_of c.in-Some.incoming in
    let coming = incoming_is t c.args.standing.now c.in-Some.incoming is c.in-Some.is in
    let unlinked = sym is.linked ∙ c.if-standing-2.false in
    let told_read = c.open_coming.ensures.reads.state ∙ told in
    let opens : Opens t c.args.standing.now.current c.in-Some.incoming z = record { stands = stands; rests = rests; current = is.current; incoming = coming; unlinked = unlinked } in
    let linking = c.in-Ok.ensures.linking z told t opens in
    let flags = flags_are t c.args.standing.now c.in-Some.incoming z stands read c.in-Some.is rests unlinked in
    let run = c.link_set.ensures.leaves z told_read t linking flags in
    weaker_read t link_frame z 771 771 (g.B.Board.view c.args.board.now) (g.B.Board.view c.open_coming.new.board) (g.B.Board.view c.link_set.new.board) told stands c.open_coming.ensures.reads (omega arith) (link_works t z (g.B.Board.view c.open_coming.new.board) (g.B.Board.view c.link_set.new.board) stands run)

pub returns-in-Ok-link_set-clause-does : goal.returns-in-Ok-link_set-clause-does
returns-in-Ok-link_set-clause-does g c z t told stands is read =
    let rests = sym is.standing ∙ c.if-standing.false in
    let m = stored_of c.in-Some.incoming in
    let coming = incoming_is t c.args.standing.now c.in-Some.incoming is c.in-Some.is in
    let unlinked = sym is.linked ∙ c.if-standing-2.false in
    let told_read = c.open_coming.ensures.reads.state ∙ told in
    let opens : Opens t c.args.standing.now.current c.in-Some.incoming z = record { stands = stands; rests = rests; current = is.current; incoming = coming; unlinked = unlinked } in
    let linking = c.in-Ok.ensures.linking z told t opens in
    let flags = flags_are t c.args.standing.now c.in-Some.incoming z stands read c.in-Some.is rests unlinked in
    let run = c.link_set.ensures.leaves z told_read t linking flags in
    link_does t c.in-Ok.set c.in-Ok-link_set.answer z (g.B.Board.view c.open_coming.new.board) (g.B.Board.view c.link_set.new.board) linking run (c.in-Ok-link_set.ensures.links z told_read t linking flags)

pub returns-then-standing-clause-wear : goal.returns-then-standing-clause-wear
returns-then-standing-clause-wear g c z t told stands is read = idle_wears t link_frame true z (g.B.Board.view c.args.board.now) (g.B.Board.view c.args.board.now) (idle_starts (g.B.Board.view c.args.board.now))

pub returns-then-standing-clause-formatted : goal.returns-then-standing-clause-formatted
returns-then-standing-clause-formatted g c z told = stays_here z (g.B.Board.view c.args.board.now) told

pub returns-in_default-clause-wear : goal.returns-in_default-clause-wear
returns-in_default-clause-wear g c z t told stands is read = idle_wears t link_frame true z (g.B.Board.view c.args.board.now) (g.B.Board.view c.args.board.now) (idle_starts (g.B.Board.view c.args.board.now))

pub returns-in_default-clause-formatted : goal.returns-in_default-clause-formatted
returns-in_default-clause-formatted g c z told = stays_here z (g.B.Board.view c.args.board.now) told

pub returns-then-standing-2-clause-wear : goal.returns-then-standing-2-clause-wear
returns-then-standing-2-clause-wear g c z t told stands is read = idle_wears t link_frame true z (g.B.Board.view c.args.board.now) (g.B.Board.view c.args.board.now) (idle_starts (g.B.Board.view c.args.board.now))

pub returns-then-standing-2-clause-formatted : goal.returns-then-standing-2-clause-formatted
returns-then-standing-2-clause-formatted g c z told = stays_here z (g.B.Board.view c.args.board.now) told

pub returns-in-Err-Missing-clause-wear : goal.returns-in-Err-Missing-clause-wear
returns-in-Err-Missing-clause-wear g c z t told stands is read = idle_wears t link_frame true z (g.B.Board.view c.args.board.now) (g.B.Board.view c.open_coming.new.board) (idle_reads (g.B.Board.view c.args.board.now) (g.B.Board.view c.open_coming.new.board) c.open_coming.ensures.reads)

pub returns-in-Err-Missing-clause-formatted : goal.returns-in-Err-Missing-clause-formatted
returns-in-Err-Missing-clause-formatted g c z told = stays_here z (g.B.Board.view c.open_coming.new.board) (c.open_coming.ensures.reads.state ∙ told)

pub returns-in-Err-BadPackage-clause-wear : goal.returns-in-Err-BadPackage-clause-wear
returns-in-Err-BadPackage-clause-wear g c z t told stands is read = idle_wears t link_frame true z (g.B.Board.view c.args.board.now) (g.B.Board.view c.open_coming.new.board) (idle_reads (g.B.Board.view c.args.board.now) (g.B.Board.view c.open_coming.new.board) c.open_coming.ensures.reads)

pub returns-in-Err-BadPackage-clause-formatted : goal.returns-in-Err-BadPackage-clause-formatted
returns-in-Err-BadPackage-clause-formatted g c z told = stays_here z (g.B.Board.view c.open_coming.new.board) (c.open_coming.ensures.reads.state ∙ told)

pub returns-in-Err-Fault-clause-wear : goal.returns-in-Err-Fault-clause-wear
returns-in-Err-Fault-clause-wear g c z t told stands is read = idle_wears t link_frame false z (g.B.Board.view c.args.board.now) (g.B.Board.view c.open_coming.new.board) (idle_reads (g.B.Board.view c.args.board.now) (g.B.Board.view c.open_coming.new.board) c.open_coming.ensures.reads)

pub returns-in-Ok-link_set-clause-wear : goal.returns-in-Ok-link_set-clause-wear
returns-in-Ok-link_set-clause-wear g c z t told stands is read =
    let rests = sym is.standing ∙ c.if-standing.false in
    let m = stored_of c.in-Some.incoming in
    let coming = incoming_is t c.args.standing.now c.in-Some.incoming is c.in-Some.is in
    let unlinked = sym is.linked ∙ c.if-standing-2.false in
    let told_read = c.open_coming.ensures.reads.state ∙ told in
    let opens : Opens t c.args.standing.now.current c.in-Some.incoming z = record { stands = stands; rests = rests; current = is.current; incoming = coming; unlinked = unlinked } in
    let linking = c.in-Ok.ensures.linking z told t opens in
    let flags = flags_are t c.args.standing.now c.in-Some.incoming z stands read c.in-Some.is rests unlinked in
    read_wears t link_frame true z (g.B.Board.view c.args.board.now) (g.B.Board.view c.open_coming.new.board) (g.B.Board.view c.link_set.new.board) c.open_coming.ensures.reads
    (link_wears t c.in-Ok.set true z (g.B.Board.view c.open_coming.new.board) (g.B.Board.view c.link_set.new.board) linking (c.in-Ok-link_set.ensures.wears z told_read) (c.in-Ok-link_set.ensures.list z told_read t linking flags) (c.in-Ok-link_set.ensures.staged z told_read t linking flags))

pub returns-in-Err-clause-wear : goal.returns-in-Err-clause-wear
returns-in-Err-clause-wear g c z t told stands is read =
    let rests = sym is.standing ∙ c.if-standing.false in
    let m = stored_of c.in-Some.incoming in
    let coming = incoming_is t c.args.standing.now c.in-Some.incoming is c.in-Some.is in
    let unlinked = sym is.linked ∙ c.if-standing-2.false in
    let told_read = c.open_coming.ensures.reads.state ∙ told in
    let opens : Opens t c.args.standing.now.current c.in-Some.incoming z = record { stands = stands; rests = rests; current = is.current; incoming = coming; unlinked = unlinked } in
    let linking = c.in-Ok.ensures.linking z told t opens in
    let flags = flags_are t c.args.standing.now c.in-Some.incoming z stands read c.in-Some.is rests unlinked in
    read_wears t link_frame false z (g.B.Board.view c.args.board.now) (g.B.Board.view c.open_coming.new.board) (g.B.Board.view c.link_set.new.board) c.open_coming.ensures.reads
    (link_wears t c.in-Ok.set false z (g.B.Board.view c.open_coming.new.board) (g.B.Board.view c.link_set.new.board) linking (c.in-Err.ensures.wears z told_read) (c.in-Err.ensures.list z told_read t linking flags) (c.in-Err.ensures.staged z told_read t linking flags))

pub returns-in-Ok-link_set-clause-formatted : goal.returns-in-Ok-link_set-clause-formatted
returns-in-Ok-link_set-clause-formatted g c z told =
    let work = c.in-Ok-link_set.ensures.wears z (c.open_coming.ensures.reads.state ∙ told) in
    stays_alike z work.end (g.B.Board.view c.link_set.new.board) work.told (work.boots refl)
