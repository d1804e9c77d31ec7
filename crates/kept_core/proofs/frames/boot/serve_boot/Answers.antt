use Rattle.std.proofs.Common.{true, false, subst, Err, refl, ap, ◌∙◌, arith}
use Rattle.kept_boot.specs.declared.BootFault.{BootFault}
use Rattle.kept_boot.specs.Boots.{BootAnswers, booted, boot_pages, boot_programs, is_unformatted}
use Rattle.kept_core.proofs.Boots.{boot_works, boot_does}
use Rattle.kept_laws.proofs.Standing.{sound_parts_tell}
use Rattle.kept_journal.specs.Steps.{parts, Step, any_mote, boots}
use Rattle.kept_definitions.specs.Sides.{is_pending}
use Rattle.kept_core.proofs.Wears.{boot_wears}
use Rattle.kept_core.proofs.Formats.{stays_here, stays_becomes, booted_unformatted}
use Rattle.kept_core.proofs.frames.boot.serve_boot.Goals as goal

pub returns-in-Ok-clause-works : goal.returns-in-Ok-clause-works
returns-in-Ok-clause-works g c z t told stands = boot_works z t _ _ stands (c.boot.ensures.each z told)

pub returns-in-Ok-clause-does : goal.returns-in-Ok-clause-does
returns-in-Ok-clause-does g c z t told stands = boot_does z t _ c.in-Ok.release stands (c.in-Ok.ensures.ok z told) (c.in-Ok.ensures.started z told t stands)

pub returns-in-Err-Unformatted-clause-works : goal.returns-in-Err-Unformatted-clause-works
returns-in-Err-Unformatted-clause-works g c z t told stands = boot_works z t _ _ stands (c.boot.ensures.each z told)

pub returns-in-Err-Unformatted-clause-does : goal.returns-in-Err-Unformatted-clause-does
returns-in-Err-Unformatted-clause-does g c z t told stands = absurd (sound_parts_tell.formatted (parts z) stands.sound (subst (λ (e : BootFault). BootAnswers (Err e) (parts z)) c.in-Err-Unformatted.field-0-is (c.in-Err-Unformatted.ensures.answer z told)))

pub returns-in-Err-Fault-clause-works : goal.returns-in-Err-Fault-clause-works
returns-in-Err-Fault-clause-works g c z t told stands = boot_works z t _ _ stands (c.boot.ensures.each z told)

pub returns-in-Ok-clause-formatted : goal.returns-in-Ok-clause-formatted
returns-in-Ok-clause-formatted g c z told = (λ same. absurd (let q : ⊥ = cc in q), λ none. absurd ((c.in-Ok.ensures.answer z told).0 none))

pub returns-in-Err-Unformatted-clause-formatted : goal.returns-in-Err-Unformatted-clause-formatted
returns-in-Err-Unformatted-clause-formatted g c z told =
    (λ same. subst (λ (e : BootFault). BootAnswers (Err e) (parts z)) c.in-Err-Unformatted.field-0-is (c.in-Err-Unformatted.ensures.answer z told), λ none. refl)

pub returns-in-Ok-clause-wear : goal.returns-in-Ok-clause-wear
returns-in-Ok-clause-wear g c z t told stands = boot_wears t true z (Step any_mote (boot_pages (parts z)) z) (boot_programs (is_pending (parts z))) (g.B.Board.view c.args.board.now) (g.B.Board.view c.boot.new.board) stands (c.boot.ensures.each z told) (c.boot.ensures.wear z told)

pub returns-in-Err-Unformatted-clause-wear : goal.returns-in-Err-Unformatted-clause-wear
returns-in-Err-Unformatted-clause-wear g c z t told stands = boot_wears t true z (Step any_mote (boot_pages (parts z)) z) (boot_programs (is_pending (parts z))) (g.B.Board.view c.args.board.now) (g.B.Board.view c.boot.new.board) stands (c.boot.ensures.each z told) (c.boot.ensures.wear z told)

pub returns-in-Err-Fault-clause-wear : goal.returns-in-Err-Fault-clause-wear
returns-in-Err-Fault-clause-wear g c z t told stands = boot_wears t false z (Step any_mote (boot_pages (parts z)) z) (boot_programs (is_pending (parts z))) (g.B.Board.view c.args.board.now) (g.B.Board.view c.boot.new.board) stands (c.boot.ensures.each z told) (c.boot.ensures.wear z told)

pub returns-in-Ok-clause-stays : goal.returns-in-Ok-clause-stays
returns-in-Ok-clause-stays g c z told =
    let long = ((g.B.Board.view c.args.board.now).sizes z told).ext in
    stays_becomes (booted z) any_mote boots z (g.B.Board.view c.boot.new.board) (c.in-Ok.ensures.ok z told) (booted_unformatted z (omega (arith, long)))

pub returns-in-Err-Unformatted-clause-stays : goal.returns-in-Err-Unformatted-clause-stays
returns-in-Err-Unformatted-clause-stays g c z told = stays_here z (g.B.Board.view c.boot.new.board) ((c.in-Err-Unformatted.ensures.refused (ap (λ (e : BootFault). is_unformatted (Err e)) c.in-Err-Unformatted.field-0-is)).state ∙ told)

pub returns-in-Err-Unformatted-clause-nothing : goal.returns-in-Err-Unformatted-clause-nothing
returns-in-Err-Unformatted-clause-nothing g c = λ is. (c.in-Err-Unformatted.ensures.refused (ap (λ (e : BootFault). is_unformatted (Err e)) c.in-Err-Unformatted.field-0-is)).state
