use Rattle.std.proofs.Common.{◌≡◌, ℕ, true, false, Some, refl, sym, ap, ◌∙◌, subst, arith, Err}
use Rattle.component_package.specs.link.Link.{Duplicate, duplicate_cause}
use Rattle.kept_symbols.specs.declared.fault.MergeFault.{MergeFault}
use Rattle.kept_journal.specs.declared.gates.Stage.TheVariants as stages
use Rattle.kept_symbols.specs.Stored.{symbol_area}
use Rattle.kept_symbols.specs.Answers.{Merges, is_fault}
use Rattle.kept_core.specs.Serving.{link_pages}
use Rattle.kept_core.proofs.Causes.{duplicate_first}
use Rattle.kept_core.proofs.Links.{run_idle, run_then, weaker_run, stays_linking, symbols_run, symbols_found, symbols_linking, merged_vouched, merged_goes, marks_run}
use Rattle.kept_core.specs.Links.{comes_of}
use Rattle.kept_core.proofs.Wears.{not_ok, merge_works, works_mark, becomes_alike}
use Rattle.std.proofs.lemmas.Bool.{false≢true}
use Rattle.kept_journal.specs.Steps.{parts, Rests, Vouches, marks}
use Rattle.kept_core.proofs.frames.link.make_symbols.Goals as goal

pub returns-then-is_made-clause-goes : goal.returns-then-is_made-clause-goes
returns-then-is_made-clause-goes g c s told t linking early made = stays_linking t c.args.set.now true s _ told linking (sym made ∙ c.if-is_made.true)

pub returns-then-is_made-clause-leaves : goal.returns-then-is_made-clause-leaves
returns-then-is_made-clause-leaves g c s told t linking p = run_idle s t 33 _ told linking.stands

pub returns-in-Err-Duplicate-clause-goes : goal.returns-in-Err-Duplicate-clause-goes
returns-in-Err-Duplicate-clause-goes g c s told t linking early made =
    let run = c.merge.ensures.each s told in
    let closed = sym made ∙ c.if-is_made.false in
    let set = c.args.set.now in
    let dup : duplicate_cause (comes_of t set) ≡ Some (Duplicate c.in-Err-Duplicate.symbol c.in-Err-Duplicate.first c.in-Err-Duplicate.second) =
    subst (λ (e : MergeFault). Merges (comes_of t set) (symbol_area run.end) (Err e)) c.in-Err-Duplicate.field-0-is (c.in-Err-Duplicate.ensures.answer s told (comes_of t c.args.set.now) linking.held early.symbols run.end run.told) in
    symbols_found t set true _ s _ (g.B.Board.view c.args.board.now) (g.B.Board.view c.merge.new.board) linking closed run
    (record { cause = Duplicate c.in-Err-Duplicate.symbol c.in-Err-Duplicate.first c.in-Err-Duplicate.second; is = duplicate_first (comes_of t set) early.room early.symbols early.relocs _ dup; answer = refl })

pub returns-in-Err-Duplicate-clause-leaves : goal.returns-in-Err-Duplicate-clause-leaves
returns-in-Err-Duplicate-clause-leaves g c s told t linking p =
    let run = c.merge.ensures.each s told in
    weaker_run s 32 33 (g.B.Board.view c.args.board.now) (g.B.Board.view c.merge.new.board) (omega arith) (symbols_run t c.args.set.now s (g.B.Board.view c.args.board.now) (g.B.Board.view c.merge.new.board) linking (sym p.1 ∙ c.if-is_made.false) run)

pub returns-in-Err-Fault-clause-leaves : goal.returns-in-Err-Fault-clause-leaves
returns-in-Err-Fault-clause-leaves g c s told t linking p =
    let run = c.merge.ensures.each s told in
    weaker_run s 32 33 (g.B.Board.view c.args.board.now) (g.B.Board.view c.merge.new.board) (omega arith) (symbols_run t c.args.set.now s (g.B.Board.view c.args.board.now) (g.B.Board.view c.merge.new.board) linking (sym p.1 ∙ c.if-is_made.false) run)

pub returns-in_err-mark-clause-leaves : goal.returns-in_err-mark-clause-leaves
returns-in_err-mark-clause-leaves g c s told t linking p =
    let run = c.merge.ensures.each s told in
    let set = c.args.set.now in
    let closed = sym p.1 ∙ c.if-is_made.false in
    let vouched = merged_vouched t set s run.end linking closed run.ends _ p.0 (c.in-Ok.ensures.answer s told (comes_of t c.args.set.now) linking.held p.0.symbols run.end run.told) in
    run_then link_pages s run.end 32 1 (g.B.Board.view c.args.board.now) (g.B.Board.view c.merge.new.board) (g.B.Board.view c.mark.new.board) run.told (symbols_run t set s (g.B.Board.view c.args.board.now) (g.B.Board.view c.merge.new.board) linking closed run)
    (marks_run t set stages.Symbols run.end (g.B.Board.view c.merge.new.board) (g.B.Board.view c.mark.new.board) (symbols_linking t set s run.end linking closed run.ends) vouched (c.mark.ensures.each run.end run.told))

pub returns-clause-leaves : goal.returns-clause-leaves
returns-clause-leaves g c s told t linking p =
    let run = c.merge.ensures.each s told in
    let set = c.args.set.now in
    let closed = sym p.1 ∙ c.if-is_made.false in
    let vouched = merged_vouched t set s run.end linking closed run.ends _ p.0 (c.in-Ok.ensures.answer s told (comes_of t c.args.set.now) linking.held p.0.symbols run.end run.told) in
    run_then link_pages s run.end 32 1 (g.B.Board.view c.args.board.now) (g.B.Board.view c.merge.new.board) (g.B.Board.view c.mark.new.board) run.told (symbols_run t set s (g.B.Board.view c.args.board.now) (g.B.Board.view c.merge.new.board) linking closed run)
    (marks_run t set stages.Symbols run.end (g.B.Board.view c.merge.new.board) (g.B.Board.view c.mark.new.board) (symbols_linking t set s run.end linking closed run.ends) vouched (c.mark.ensures.each run.end run.told))

pub returns-clause-goes : goal.returns-clause-goes
returns-clause-goes g c s told t linking early made =
    let run = c.merge.ensures.each s told in
    let set = c.args.set.now in
    let closed = sym made ∙ c.if-is_made.false in
    let vouched = merged_vouched t set s run.end linking closed run.ends _ early (c.in-Ok.ensures.answer s told (comes_of t c.args.set.now) linking.held early.symbols run.end run.told) in
    merged_goes t set s run.end linking closed run.ends (g.B.Board.view c.mark.new.board) vouched (c.in_ok-mark.ensures.ok run.end run.told)

pub returns-in-Err-Duplicate-clause-wears : goal.returns-in-Err-Duplicate-clause-wears
returns-in-Err-Duplicate-clause-wears g c s told =
    merge_works _ true (λ yes. ap (λ (e : MergeFault). is_fault {A = ℕ} (Err e)) c.in-Err-Duplicate.field-0-is) s (g.B.Board.view c.args.board.now) (g.B.Board.view c.merge.new.board) told (c.merge.ensures.each s told) c.in-Err-Duplicate.ensures.wear

pub returns-in-Err-Fault-clause-wears : goal.returns-in-Err-Fault-clause-wears
returns-in-Err-Fault-clause-wears g c s told =
    merge_works _ false (λ yes. absurd (false≢true yes)) s (g.B.Board.view c.args.board.now) (g.B.Board.view c.merge.new.board) told (c.merge.ensures.each s told) c.in-Err-Fault.ensures.wear

pub returns-in_err-mark-clause-wears : goal.returns-in_err-mark-clause-wears
returns-in_err-mark-clause-wears g c s told =
    let first = merge_works false true (λ yes. refl) s (g.B.Board.view c.args.board.now) (g.B.Board.view c.merge.new.board) told (c.merge.ensures.each s told) c.in-Ok.ensures.wear in
    works_mark (λ u. Rests u × Vouches stages.Symbols (parts first.end)) stages.Symbols 18 49 true _ s (g.B.Board.view c.args.board.now) (g.B.Board.view c.merge.new.board) (g.B.Board.view c.mark.new.board) first (c.mark.ensures.each first.end first.told)
    (λ yes. absurd (not_ok _ c.from_residual.result c.from_residual.ensures.1 yes))

pub returns-clause-wears : goal.returns-clause-wears
returns-clause-wears g c s told =
    let first = merge_works false true (λ yes. refl) s (g.B.Board.view c.args.board.now) (g.B.Board.view c.merge.new.board) told (c.merge.ensures.each s told) c.in-Ok.ensures.wear in
    works_mark (λ u. Rests u × Vouches stages.Symbols (parts first.end)) stages.Symbols 18 49 true true s (g.B.Board.view c.args.board.now) (g.B.Board.view c.merge.new.board) (g.B.Board.view c.mark.new.board) first (c.mark.ensures.each first.end first.told)
    (λ yes. (refl, λ x is. becomes_alike (λ u. Rests u × Vouches stages.Symbols (parts first.end)) (marks stages.Symbols) stages.Symbols first.end x (g.B.Board.view c.mark.new.board) (c.in_ok-mark.ensures.ok first.end first.told) is))
