use Rattle.std.proofs.Common.{◌≡◌, ℕ, ◌<◌, List, None, length, sym, ap, ap₂, ◌∙◌, set}
use Rattle.std.proofs.lemmas.Option.{same_Some}
use Rattle.flash_pages.specs.State.{State, always}
use Rattle.flash_pages.proofs.Runs.{programs_needed}
use Rattle.component_package.specs.mote.Store.{slots_of}
use Rattle.component_store.specs.Pieces.{piece_fault, IsPiece}
use Rattle.component_store.proofs.SlotBytes.{piece_put, page_below}
use Rattle.component_store.proofs.piece.put_piece.Goals as goal

pub returns-in_err-ext_program-clause-programs : goal.returns-in_err-ext_program-clause-programs
returns-in_err-ext_program-clause-programs g c =
    rw (← c.page_of.ensures.page) (programs_needed always (IsPiece c.args.size c.args.page (length c.args.bytes.now)) _ _ _ (λ s told. sym c.piece_fault.ensures ∙ c.in_default.is) c.ext_program.ensures.programs)

pub returns-clause-programs : goal.returns-clause-programs
returns-clause-programs g c =
    rw (← c.page_of.ensures.page) (programs_needed always (IsPiece c.args.size c.args.page (length c.args.bytes.now)) _ _ _ (λ s told. sym c.piece_fault.ensures ∙ c.in_default.is) c.ext_program.ensures.programs)

pub returns-clause-slots : goal.returns-clause-slots
returns-clause-slots g c = λ s x told after.
    let sizes = (g.B.Board.view c.args.board.now).sizes s told in
    let here = c.in_ok-ext_program.ensures.ok.state s told in
    let fine : piece_fault c.args.size c.args.page (length c.args.bytes.now) ≡ None = sym c.piece_fault.ensures ∙ c.in_default.is in
    let page : c.args.page < 39 = page_below c.args.size c.args.page (length c.args.bytes.now) c.requires.most fine in
    let is : x ≡ record s { ext = set s.ext c.page_of.result c.filled.result } = same_Some x _ (sym after ∙ here) in
    ap (λ (y : State). slots_of y.ext) is
    ∙ ap₂ (λ (k : ℕ) (l : List ℕ). slots_of (set s.ext k l)) c.page_of.ensures.page c.filled.ensures
    ∙ piece_put s sizes c.args.slot c.args.page c.args.bytes.now c.requires.slot page
