use Rattle.std.proofs.Common.{◌≡◌, ℕ, ◌+◌, ◌<◌, ◌≤◌, false, List, Some, Err, sym, subst, ap, ◌∙◌, arith}
use Rattle.std.proofs.lemmas.Option.{same_Some}
use Rattle.flash_pages.specs.State.{State, Ext, with_page}
use Rattle.flash_pages.specs.Board.{View, Reads, Programs}
use Rattle.flash_pages.specs.Moments.{LeavesOnly}
use Rattle.flash_pages.proofs.Runs.{starts, weaker, reads, programs, uses_uses}
use Rattle.component_package.specs.link.Link.{room_cause}
use Rattle.external_flash.specs.Areas.{Differs}
use Rattle.kept_symbols.specs.Stored.{symbol_area, stored_rooms}
use Rattle.kept_symbols.specs.Answers.{is_fault}
use Rattle.kept_symbols.specs.Changes.{OnlySymbols}
use Rattle.kept_symbols.specs.Records.{HasMerged}
use Rattle.kept_symbols.proofs.HeldSet.{held_set}
use Rattle.kept_symbols.proofs.Changed.{symbols_start, symbols_program, IsWornTo, WornTo, worn_none, worn_reads, worn_more, worn_so, worn_failed, holds_still}
use Rattle.kept_symbols.proofs.Merged.{plan_room, merged_none, merged_more, merged_all, merge_ends}
use Rattle.kept_symbols.proofs.merging.merge.Goals as goal

same_run : (s : State) (n : ℕ) (old new : View) → n ≤ 32 → LeavesOnly (OnlySymbols s) n old new → LeavesOnly (OnlySymbols s) 32 old new
same_run s n old new few run = weaker (OnlySymbols s) (OnlySymbols s) n 32 old new few (λ x p. p) run

first_run : (s : State) (old new : View) → old.state ≡ Some s → Reads old new → LeavesOnly (OnlySymbols s) 0 old new
first_run s old new told read = reads (OnlySymbols s) 0 old old new (starts (OnlySymbols s) old s told (symbols_start s)) read

-- the pages up to one, and then reads
worn_read : (p : ℕ) (old mid new : View) → ((s : State) → old.state ≡ Some s → LeavesOnly (OnlySymbols s) p old mid) → ((s x : State) → old.state ≡ Some s → mid.state ≡ Some x → IsWornTo p s x old mid) → Reads mid new
    → WornTo p old new
worn_read p old mid new run worn read s told =
    let r = run s told in
    (r.end, read.state ∙ r.told, worn_reads p s r.end old mid new (worn s r.end told r.told) read)

-- and then the page behind them
next_run : (p : ℕ) (s : State) (bytes : List ℕ) (old mid red new : View) → p < 32 → LeavesOnly (OnlySymbols s) p old mid → Reads mid red → Programs (Differs (Ext (18 + p)) bytes) (Ext (18 + p)) red new
    → LeavesOnly (OnlySymbols s) (p + 1) old new
next_run p s bytes old mid red new few run read program =
    let P : State → Type 0 = OnlySymbols s in
    let first : LeavesOnly P p old red = reads P p old mid red run read in
    programs P p (Differs (Ext (18 + p)) bytes) (Ext (18 + p)) old red new first.end first first.told program
    (λ y may. symbols_program (Differs (Ext (18 + p)) bytes) s first.end y (18 + p) first.ends (omega arith) (omega arith) may)

pub returns-in_default-clause-each : goal.returns-in_default-clause-each
returns-in_default-clause-each g c = λ s told. same_run s 0 _ _ (omega arith) (first_run s _ _ told c.start.ensures.reads)

pub loop-page-init : goal.loop-page-init
loop-page-init g c =
    let read = c.start.ensures.reads in
    let old : View = g.B.Board.view c.args.board.now in
    let new : View = g.B.Board.view c.start.new.board in
    record {
      of = c.in-Ok.ensures.of;
      few = omega arith;
      run = λ s told. first_run s old new told read;
      worn = λ s x told there. subst (λ (y : State). IsWornTo 0 s y old new) (same_Some s x (sym told ∙ sym read.state ∙ there)) (worn_none s old new read);
      merged = λ s x told components holds there.
          let own = held_set s c.args.set.now components c.requires.set c.rooms.ensures holds in
          merged_none _ c.in-Ok.walk x (record { count = c.in-Ok.ensures.of.count ∙ sym own.count; cursors = c.in-Ok.ensures.stand s told components holds });
      uses = read.uses;
      fault = c.in-Ok.ensures.faults;
    }

pub returns-in-Err-clause-answer : goal.returns-in-Err-clause-answer
returns-in-Err-clause-answer g c = λ s told components holds few x there.
    let run = c.loop-page.invariant.run s told in
    let m = c.loop-page.invariant.merged s run.end told components holds run.told in
    let own = held_set s c.args.set.now components c.requires.set c.rooms.ensures holds in
    let still = holds_still s run.end c.args.set.now components run.ends holds in
    merge_ends components m.low c.fill_page.new.page (symbol_area x) c.fill_page.new.walk c.in-Err.fault c.in-Err.ensures.kinds m.single
    (c.in-Err.ensures.fill run.end run.told components still own m.low m.at)

pub returns-in-Err-clause-each : goal.returns-in-Err-clause-each
returns-in-Err-clause-each g c = λ s told.
    let below : c.loop-page.page < 32 = c.loop-page-test.true in
    same_run s c.loop-page.page _ _ (omega arith) (reads (OnlySymbols s) c.loop-page.page _ _ _ (c.loop-page.invariant.run s told) c.fill_page.ensures.reads)

pub returns-in-Err-clause-wear : goal.returns-in-Err-clause-wear
returns-in-Err-clause-wear g c =
    let below : c.loop-page.page < 32 = c.loop-page-test.true in
    worn_so c.loop-page.page (is_fault {A = ℕ} (Err c.in-Err.fault)) (g.B.Board.view c.args.board.now) (g.B.Board.view c.fill_page.new.board) (omega arith)
    (worn_read c.loop-page.page (g.B.Board.view c.args.board.now) (g.B.Board.view c.loop-page.board) (g.B.Board.view c.fill_page.new.board) c.loop-page.invariant.run c.loop-page.invariant.worn c.fill_page.ensures.reads)

pub returns-in_default-program_if_different-clause-each : goal.returns-in_default-program_if_different-clause-each
returns-in_default-program_if_different-clause-each g c = λ s told.
    let below : c.loop-page.page < 32 = c.loop-page-test.true in
    same_run s (c.loop-page.page + 1) _ _ (omega arith)
    (next_run c.loop-page.page s c.fill_page.new.page (g.B.Board.view c.args.board.now) (g.B.Board.view c.loop-page.board) (g.B.Board.view c.fill_page.new.board) (g.B.Board.view c.program_if_different.new.board) below
    (c.loop-page.invariant.run s told) c.fill_page.ensures.reads c.program_if_different.ensures.programs)

pub returns-in_default-program_if_different-clause-wear : goal.returns-in_default-program_if_different-clause-wear
returns-in_default-program_if_different-clause-wear g c =
    let below : c.loop-page.page < 32 = c.loop-page-test.true in
    worn_failed c.loop-page.page (Differs (Ext (18 + c.loop-page.page)) c.fill_page.new.page) (g.B.Board.view c.args.board.now) (g.B.Board.view c.fill_page.new.board) (g.B.Board.view c.program_if_different.new.board) below
    (worn_read c.loop-page.page (g.B.Board.view c.args.board.now) (g.B.Board.view c.loop-page.board) (g.B.Board.view c.fill_page.new.board) c.loop-page.invariant.run c.loop-page.invariant.worn c.fill_page.ensures.reads)
    c.program_if_different.ensures.programs

pub loop-page-preserved : goal.loop-page-preserved
loop-page-preserved g c =
    let p : ℕ = c.loop-page.page in
    let bytes : List ℕ = c.fill_page.new.page in
    let below : p < 32 = c.loop-page-test.true in
    let made : c.in-Ok-fill_page.made ≤ 32 = c.in-Ok-fill_page.ensures.few in
    let old : View = g.B.Board.view c.args.board.now in
    let mid : View = g.B.Board.view c.loop-page.board in
    let red : View = g.B.Board.view c.fill_page.new.board in
    let new : View = g.B.Board.view c.program_if_different.new.board in
    let read = c.fill_page.ensures.reads in
    let program = c.program_if_different.ensures.programs in
    record {
      of = c.fill_page.ensures.of;
      few = omega (arith, c.loop-page.invariant.few, made);
      run = λ s told. next_run p s bytes old mid red new below (c.loop-page.invariant.run s told) read program;
      worn = λ s x told there.
          let was = worn_read p old mid red c.loop-page.invariant.run c.loop-page.invariant.worn read s told in
          let put = c.in-Ok-program_if_different.ensures.ok was.0 was.1 in
          subst (λ (y : State). IsWornTo (p + 1) s y old new) (same_Some (with_page was.0 (Ext (18 + p)) bytes) x (sym put ∙ there))
          (worn_more p s was.0 bytes c.in-Ok-program_if_different.field-0 old red new (red.sizes was.0 was.1) (omega arith) was.2 was.1 program (c.in-Ok-program_if_different.ensures.answer was.0 was.1));
      merged = λ s x told components holds there.
          let run = c.loop-page.invariant.run s told in
          let t : State = run.end in
          let seen : red.state ≡ Some t = read.state ∙ run.told in
          let m = c.loop-page.invariant.merged s t told components holds run.told in
          let own = held_set s c.args.set.now components c.requires.set c.rooms.ensures holds in
          let still = holds_still s t c.args.set.now components run.ends holds in
          let filled = c.in-Ok-fill_page.ensures.fill t run.told components still own m.low m.at in
          let put = c.in-Ok-program_if_different.ensures.ok t seen in
          subst (λ (y : State). HasMerged components (p + 1) (c.loop-page.count + c.in-Ok-fill_page.made) c.fill_page.new.walk y) (same_Some (with_page t (Ext (18 + p)) bytes) x (sym put ∙ there))
          (merged_more components p c.loop-page.count c.in-Ok-fill_page.made bytes c.loop-page.walk c.fill_page.new.walk t (red.sizes t seen) below made m filled);
      uses = uses_uses old red new (uses_uses old mid red c.loop-page.invariant.uses read.uses) program.uses;
      fault = c.in-Ok-program_if_different.ensures.faults ∙ c.in-Ok-fill_page.ensures.faults ∙ c.loop-page.invariant.fault;
    }

pub returns-clause-answer : goal.returns-clause-answer
returns-clause-answer g c = λ s told components holds few x there.
    let own = held_set s c.args.set.now components c.requires.set c.rooms.ensures holds in
    let last : c.loop-page.page ≡ 32 = omega (arith, c.loop-page-test.false, c.loop-page.auto.page-end) in
    let m = subst (λ (n : ℕ). HasMerged components n c.loop-page.count c.loop-page.walk x) last (c.loop-page.invariant.merged s x told components holds there) in
    merged_all components c.loop-page.count c.loop-page.walk x own.is
    (ap room_cause own.rooms ∙ plan_room (stored_rooms c.args.set.now) c.args.plan.now c.requires.plan.plan c.requires.plan.planned) few m

pub returns-clause-each : goal.returns-clause-each
returns-clause-each g c = λ s told.
    let few : c.loop-page.page ≤ 32 = c.loop-page.auto.page-end in
    same_run s c.loop-page.page _ _ few (c.loop-page.invariant.run s told)

pub returns-clause-wear : goal.returns-clause-wear
returns-clause-wear g c =
    worn_so c.loop-page.page false (g.B.Board.view c.args.board.now) (g.B.Board.view c.loop-page.board) c.loop-page.auto.page-end
    (λ s told. let run = c.loop-page.invariant.run s told in (run.end, run.told, c.loop-page.invariant.worn s run.end told run.told))
