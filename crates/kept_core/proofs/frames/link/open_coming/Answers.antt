use Rattle.std.proofs.Common.{Err, refl, sym, ◌∙◌, subst}
use Rattle.component_store.specs.Sets.{SetFaultIs}
use Rattle.flash_pages.proofs.Runs.{reads_reads}
use Rattle.kept_definitions.specs.Kept.{tables_of}
use Rattle.kept_definitions.specs.Sides.{kept_set}
use Rattle.kept_manifests.specs.Slots.{stored_of}
use Rattle.kept_store.specs.declared.set.StoredSet.{StoredSet}
use Rattle.kept_core.proofs.Opening.{installed_is, slot_for_is, linking_is, fault_is}
use Rattle.kept_core.proofs.frames.link.open_coming.Goals as goal

pub returns-in-Ok-open_set-clause-answer : goal.returns-in-Ok-open_set-clause-answer
returns-in-Ok-open_set-clause-answer g c calm s told t opens =
    let m = c.args.current.now in
    let n = c.args.incoming.now in
    let sizes = (g.B.Board.view c.args.board.now).sizes s told in
    let here = installed_is s t m n sizes opens in
    let release = c.in-Ok.ensures.release s told here in
    fault_is s t m n sizes opens _ (c.in-Ok-open_set.ensures.answer refl c.in-Ok.ensures.rests (slot_for_is s t m n sizes opens c.in-Ok.set release) s (c.open_current.ensures.reads.state ∙ told))

pub returns-in-Ok-open_set-clause-linking : goal.returns-in-Ok-open_set-clause-linking
returns-in-Ok-open_set-clause-linking g c s told t opens =
    let m = c.args.current.now in
    let n = c.args.incoming.now in
    let sizes = (g.B.Board.view c.args.board.now).sizes s told in
    let here = installed_is s t m n sizes opens in
    let release = c.in-Ok.ensures.release s told here in
    let over = slot_for_is s t m n sizes opens c.in-Ok.set release in
    let told_read = c.open_current.ensures.reads.state ∙ told in
    linking_is s t m n sizes opens c.in-Ok.set release c.in-Ok-open_set.coming c.in-Ok-open_set.ensures.slots
    (c.in-Ok-open_set.ensures.answer refl c.in-Ok.ensures.rests over s told_read)
    (c.in-Ok-open_set.ensures.holds c.in-Ok.ensures.rests over s told_read (kept_set (tables_of s.ext) s.prog (stored_of m)) (c.in-Ok.ensures.holds s told here))

pub returns-in-Ok-open_set-clause-reads : goal.returns-in-Ok-open_set-clause-reads
returns-in-Ok-open_set-clause-reads g c = reads_reads _ _ _ c.open_current.ensures.reads c.open_set.ensures.reads

pub returns-in-Err-clause-answer : goal.returns-in-Err-clause-answer
returns-in-Err-clause-answer g c calm s told t opens =
    let m = c.args.current.now in
    let n = c.args.incoming.now in
    let sizes = (g.B.Board.view c.args.board.now).sizes s told in
    let here = installed_is s t m n sizes opens in
    let release = c.in-Ok.ensures.release s told here in
    let faulty = c.in-Err.ensures.answer calm c.in-Ok.ensures.rests (slot_for_is s t m n sizes opens c.in-Ok.set release) s (c.open_current.ensures.reads.state ∙ told) in
    subst (SetFaultIs {A = StoredSet} (Err c.in-Err.fault)) (sym (fault_is s t m n sizes opens _ refl)) faulty

pub returns-in-Err-clause-reads : goal.returns-in-Err-clause-reads
returns-in-Err-clause-reads g c = reads_reads _ _ _ c.open_current.ensures.reads c.open_set.ensures.reads
