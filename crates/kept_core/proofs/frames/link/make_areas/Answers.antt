use Rattle.std.proofs.Common.{true, false, Option, refl, sym, ◌∙◌, subst, arith}
use Rattle.component_package.specs.declared.answer.Answer.{Answer}
use Rattle.component_package.specs.mote.Sides.{rel}
use Rattle.kept_journal.specs.Steps.{parts}
use Rattle.kept_core.specs.Serving.{link_pages}
use Rattle.kept_core.specs.Links.{comes_of, Goes}
use Rattle.kept_core.proofs.Links.{run_then, weaker_run}
use Rattle.kept_core.proofs.Chain.{goes_on, goes_refused}
use Rattle.kept_core.proofs.Wears.{works_wider, works_then, list_unmade, list_behind}
use Rattle.kept_core.proofs.frames.link.make_areas.Goals as goal

pub returns-in-Ok-Some-clause-goes : goal.returns-in-Ok-Some-clause-goes
returns-in-Ok-Some-clause-goes g c s told t linking early flags =
    goes_refused t c.args.set.now true ((parts s).gates rel) true true c.in-Ok-Some.answer s (g.B.Board.view c.make_symbols.new.board)
    (subst (λ (o : Option Answer). Goes t c.args.set.now true ((parts s).gates rel) o s (g.B.Board.view c.make_symbols.new.board)) c.in-Ok-Some.field-0-is (c.in-Ok-Some.ensures.goes s told t linking early flags.sym_is))

pub returns-in-Ok-Some-clause-leaves : goal.returns-in-Ok-Some-clause-leaves
returns-in-Ok-Some-clause-leaves g c s told t linking p =
    weaker_run s 33 290 (g.B.Board.view c.args.board.now) (g.B.Board.view c.make_symbols.new.board) (omega arith) (c.make_symbols.ensures.leaves s told t linking (p.0, p.1.sym_is))

pub returns-in-Err-clause-leaves : goal.returns-in-Err-clause-leaves
returns-in-Err-clause-leaves g c s told t linking p =
    weaker_run s 33 290 (g.B.Board.view c.args.board.now) (g.B.Board.view c.make_symbols.new.board) (omega arith) (c.make_symbols.ensures.leaves s told t linking (p.0, p.1.sym_is))

pub returns-in-Ok-clause-goes : goal.returns-in-Ok-clause-goes
returns-in-Ok-clause-goes g c s told t linking early flags =
    let first = subst (λ (o : Option Answer). Goes t c.args.set.now true ((parts s).gates rel) o s (g.B.Board.view c.make_symbols.new.board)) c.in-Ok-None.field-0-is (c.in-Ok-None.ensures.goes s told t linking early flags.sym_is) in
    let gates = first.gates refl in
    goes_on t c.args.set.now ((parts s).gates rel) c.in-Ok.answer s (g.B.Board.view c.make_symbols.new.board) (g.B.Board.view c.make_relocs.new.board) linking first (c.in-Ok.ensures.goes first.end first.told t first.linking gates.sym_is (flags.rel_is ∙ sym gates.rel_is))

pub returns-in-Ok-clause-leaves : goal.returns-in-Ok-clause-leaves
returns-in-Ok-clause-leaves g c s told t linking p =
    let first = subst (λ (o : Option Answer). Goes t c.args.set.now true ((parts s).gates rel) o s (g.B.Board.view c.make_symbols.new.board)) c.in-Ok-None.field-0-is (c.in-Ok-None.ensures.goes s told t linking p.0 p.1.sym_is) in
    let gates = first.gates refl in
    run_then link_pages s first.end 33 257 (g.B.Board.view c.args.board.now) (g.B.Board.view c.make_symbols.new.board) (g.B.Board.view c.make_relocs.new.board) first.told (c.make_symbols.ensures.leaves s told t linking (p.0, p.1.sym_is))
    (c.make_relocs.ensures.leaves first.end first.told t first.linking (gates.sym_is, p.1.rel_is ∙ sym gates.rel_is))

pub returns-in-Err-make_relocs-clause-leaves : goal.returns-in-Err-make_relocs-clause-leaves
returns-in-Err-make_relocs-clause-leaves g c s told t linking p =
    let first = subst (λ (o : Option Answer). Goes t c.args.set.now true ((parts s).gates rel) o s (g.B.Board.view c.make_symbols.new.board)) c.in-Ok-None.field-0-is (c.in-Ok-None.ensures.goes s told t linking p.0 p.1.sym_is) in
    let gates = first.gates refl in
    run_then link_pages s first.end 33 257 (g.B.Board.view c.args.board.now) (g.B.Board.view c.make_symbols.new.board) (g.B.Board.view c.make_relocs.new.board) first.told (c.make_symbols.ensures.leaves s told t linking (p.0, p.1.sym_is))
    (c.make_relocs.ensures.leaves first.end first.told t first.linking (gates.sym_is, p.1.rel_is ∙ sym gates.rel_is))

pub returns-in-Ok-Some-clause-wears : goal.returns-in-Ok-Some-clause-wears
returns-in-Ok-Some-clause-wears g c s told = works_wider 18 49 18 305 (omega arith) (omega arith) true s (g.B.Board.view c.args.board.now) (g.B.Board.view c.make_symbols.new.board) (c.in-Ok-Some.ensures.wears s told)

pub returns-in-Ok-Some-clause-spares : goal.returns-in-Ok-Some-clause-spares
returns-in-Ok-Some-clause-spares g c s told t linking early flags = list_unmade (comes_of t c.args.set.now) true s (g.B.Board.view c.args.board.now) (g.B.Board.view c.make_symbols.new.board) (c.in-Ok-Some.ensures.wears s told)

pub returns-in-Err-clause-wears : goal.returns-in-Err-clause-wears
returns-in-Err-clause-wears g c s told = works_wider 18 49 18 305 (omega arith) (omega arith) false s (g.B.Board.view c.args.board.now) (g.B.Board.view c.make_symbols.new.board) (c.in-Err.ensures.wears s told)

pub returns-in-Err-clause-spares : goal.returns-in-Err-clause-spares
returns-in-Err-clause-spares g c s told t linking early flags = list_unmade (comes_of t c.args.set.now) false s (g.B.Board.view c.args.board.now) (g.B.Board.view c.make_symbols.new.board) (c.in-Err.ensures.wears s told)

pub returns-in-Ok-clause-wears : goal.returns-in-Ok-clause-wears
returns-in-Ok-clause-wears g c s told =
    let one = c.in-Ok-None.ensures.wears s told in
    works_then 18 49 305 (omega arith) (omega arith) (omega arith) true true s (g.B.Board.view c.args.board.now) (g.B.Board.view c.make_symbols.new.board) (g.B.Board.view c.make_relocs.new.board) one (c.in-Ok.ensures.wears one.end one.told) (λ yes. refl)

pub returns-in-Ok-clause-spares : goal.returns-in-Ok-clause-spares
returns-in-Ok-clause-spares g c s told t linking early flags =
    let first = subst (λ (o : Option Answer). Goes t c.args.set.now true ((parts s).gates rel) o s (g.B.Board.view c.make_symbols.new.board)) c.in-Ok-None.field-0-is (c.in-Ok-None.ensures.goes s told t linking early flags.sym_is) in
    let gates = first.gates refl in
    let set = c.args.set.now in
    list_behind (comes_of t set) (comes_of t set) true s first.end (g.B.Board.view c.args.board.now) (g.B.Board.view c.make_symbols.new.board) (g.B.Board.view c.make_relocs.new.board) (c.in-Ok-None.ensures.wears s told) first.told refl (c.in-Ok.ensures.spares first.end first.told t first.linking gates.sym_is)

pub returns-in-Err-make_relocs-clause-wears : goal.returns-in-Err-make_relocs-clause-wears
returns-in-Err-make_relocs-clause-wears g c s told =
    let one = c.in-Ok-None.ensures.wears s told in
    works_then 18 49 305 (omega arith) (omega arith) (omega arith) true false s (g.B.Board.view c.args.board.now) (g.B.Board.view c.make_symbols.new.board) (g.B.Board.view c.make_relocs.new.board) one (c.in-Err-make_relocs.ensures.wears one.end one.told) (λ yes. refl)

pub returns-in-Err-make_relocs-clause-spares : goal.returns-in-Err-make_relocs-clause-spares
returns-in-Err-make_relocs-clause-spares g c s told t linking early flags =
    let first = subst (λ (o : Option Answer). Goes t c.args.set.now true ((parts s).gates rel) o s (g.B.Board.view c.make_symbols.new.board)) c.in-Ok-None.field-0-is (c.in-Ok-None.ensures.goes s told t linking early flags.sym_is) in
    let gates = first.gates refl in
    let set = c.args.set.now in
    list_behind (comes_of t set) (comes_of t set) true s first.end (g.B.Board.view c.args.board.now) (g.B.Board.view c.make_symbols.new.board) (g.B.Board.view c.make_relocs.new.board) (c.in-Ok-None.ensures.wears s told) first.told refl (c.in-Err-make_relocs.ensures.spares first.end first.told t first.linking gates.sym_is)
