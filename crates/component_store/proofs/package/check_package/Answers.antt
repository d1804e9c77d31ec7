use Rattle.std.proofs.Common.{◌≡◌, ℕ, true, false, List, refl, sym, ap, ap₂, ◌∙◌}
use Rattle.std.specs.Option.{option_map}
use Rattle.std.proofs.lemmas.Result.{err_from_is_err_and}
use Rattle.flash_pages.proofs.Runs.{reads_reads}
use Rattle.component_package.specs.declared.part.Header.{Header}
use Rattle.component_package.specs.packages.Reading.{header_of, header_fault, total_of}
use Rattle.component_store.specs.declared.set.StoreFault.{StoreFault}
use Rattle.component_store.specs.declared.set.StoreFault.TheVariants.{Package}
use Rattle.component_store.specs.Reader.{IsUnder, held_bytes, held_package}
use Rattle.component_store.specs.Packages.{records_fault}
use Rattle.component_store.proofs.HeldLemmas.{header_read, header_refused, records_refused, identified}
use Rattle.component_store.proofs.package.check_package.Goals as goal

pub returns-in_err-header-clause-answer : goal.returns-in_err-header-clause-answer
returns-in_err-header-clause-answer g c =
    let p = err_from_is_err_and c.from_residual.result c.from_residual.ensures.1 in
    let f : StoreFault = c.in_err-header.field-0.0 in
    rw (p.1, p.2) (λ e s told.
    let is = (g.B.Board.view c.args.board.now).sizes s told in
    let n : ℕ = c.args.e.now.length in
    let slot : ℕ = c.args.slot in
    let own = c.new-table.ensures.slot in
    let keeps = c.new-table.ensures.keeps s in
    let refused = ap (λ (k : ℕ). option_map Package (header_fault (held_bytes s k 32) n)) (sym own) ∙ c.in_err-header.ensures.answer e s told keeps in
    header_refused s is c.args.e.now slot c.requires.slot c.requires.least c.requires.most f refused)

pub returns-in_err-check_records-clause-answer : goal.returns-in_err-check_records-clause-answer
returns-in_err-check_records-clause-answer g c =
    let p = err_from_is_err_and c.from_residual-in_err-check_records.result c.from_residual-in_err-check_records.ensures.1 in
    let f : StoreFault = c.in_err-check_records.field-0.0 in
    rw (p.1, p.2) (λ e s told.
    let is = (g.B.Board.view c.args.board.now).sizes s told in
    let n : ℕ = c.args.e.now.length in
    let slot : ℕ = c.args.slot in
    let own = c.new-table.ensures.slot in
    let keeps = c.new-table.ensures.keeps s in
    let fine = ap (λ (k : ℕ). option_map Package (header_fault (held_bytes s k 32) n)) (sym own) ∙ c.in_ok-header.ensures.answer refl s told keeps in
    let h : Header = c.in_ok-header.header in
    let read : h ≡ header_of (held_bytes s slot 32) = c.in_ok-header.ensures.header s told keeps ∙ ap (λ (k : ℕ). header_of (held_bytes s k 32)) own in
    let header : h ≡ header_of (held_bytes s slot n) = header_read s is c.args.e.now slot c.requires.slot c.requires.least c.requires.most h read in
    let total : total_of h ≡ n = c.in_ok-header.ensures.total in
    let same_package : held_package s c.stored_header.new.table.slot h ≡ held_bytes s slot n = ap₂ (held_bytes s) (c.stored_header.ensures.slot ∙ own) total in
    let under : IsUnder s c.stored_header.new.table h = record { keeps = c.in_ok-header.ensures.keeps s told keeps; header = header ∙ ap header_of (sym same_package) } in
    let refused = ap (λ (l : List ℕ). option_map Package (records_fault l)) (sym same_package) ∙ c.in_err-check_records.ensures.answer e s (c.stored_header.ensures.reads.state ∙ told) under in
    records_refused s is c.args.e.now slot c.requires.slot c.requires.least c.requires.most f fine refused)

pub returns-in_err-check_records-clause-reads : goal.returns-in_err-check_records-clause-reads
returns-in_err-check_records-clause-reads g c = reads_reads _ _ _ c.stored_header.ensures.reads c.check_records.ensures.reads

pub returns-then-not-is_of-clause-answer : goal.returns-then-not-is_of-clause-answer
returns-then-not-is_of-clause-answer g c = λ e s told.
    let is = (g.B.Board.view c.args.board.now).sizes s told in
    let n : ℕ = c.args.e.now.length in
    let slot : ℕ = c.args.slot in
    let own = c.new-table.ensures.slot in
    let keeps = c.new-table.ensures.keeps s in
    let fine = ap (λ (k : ℕ). option_map Package (header_fault (held_bytes s k 32) n)) (sym own) ∙ c.in_ok-header.ensures.answer refl s told keeps in
    let h : Header = c.in_ok-header.header in
    let read : h ≡ header_of (held_bytes s slot 32) = c.in_ok-header.ensures.header s told keeps ∙ ap (λ (k : ℕ). header_of (held_bytes s k 32)) own in
    let header : h ≡ header_of (held_bytes s slot n) = header_read s is c.args.e.now slot c.requires.slot c.requires.least c.requires.most h read in
    let total : total_of h ≡ n = c.in_ok-header.ensures.total in
    let same_package : held_package s c.stored_header.new.table.slot h ≡ held_bytes s slot n = ap₂ (held_bytes s) (c.stored_header.ensures.slot ∙ own) total in
    let under : IsUnder s c.stored_header.new.table h = record { keeps = c.in_ok-header.ensures.keeps s told keeps; header = header ∙ ap header_of (sym same_package) } in
    let records = ap (λ (l : List ℕ). option_map Package (records_fault l)) (sym same_package) ∙ c.in_ok-check_records.ensures.answer refl s (c.stored_header.ensures.reads.state ∙ told) under in
    identified s is c.args.e.now slot c.requires.slot c.requires.least c.requires.most h false fine records header (sym c.is_of.ensures ∙ c.if-not-is_of.true)

pub returns-then-not-is_of-clause-reads : goal.returns-then-not-is_of-clause-reads
returns-then-not-is_of-clause-reads g c = reads_reads _ _ _ c.stored_header.ensures.reads c.check_records.ensures.reads

pub returns-clause-answer : goal.returns-clause-answer
returns-clause-answer g c = λ e s told.
    let is = (g.B.Board.view c.args.board.now).sizes s told in
    let n : ℕ = c.args.e.now.length in
    let slot : ℕ = c.args.slot in
    let own = c.new-table.ensures.slot in
    let keeps = c.new-table.ensures.keeps s in
    let fine = ap (λ (k : ℕ). option_map Package (header_fault (held_bytes s k 32) n)) (sym own) ∙ c.in_ok-header.ensures.answer refl s told keeps in
    let h : Header = c.in_ok-header.header in
    let read : h ≡ header_of (held_bytes s slot 32) = c.in_ok-header.ensures.header s told keeps ∙ ap (λ (k : ℕ). header_of (held_bytes s k 32)) own in
    let header : h ≡ header_of (held_bytes s slot n) = header_read s is c.args.e.now slot c.requires.slot c.requires.least c.requires.most h read in
    let total : total_of h ≡ n = c.in_ok-header.ensures.total in
    let same_package : held_package s c.stored_header.new.table.slot h ≡ held_bytes s slot n = ap₂ (held_bytes s) (c.stored_header.ensures.slot ∙ own) total in
    let under : IsUnder s c.stored_header.new.table h = record { keeps = c.in_ok-header.ensures.keeps s told keeps; header = header ∙ ap header_of (sym same_package) } in
    let records = ap (λ (l : List ℕ). option_map Package (records_fault l)) (sym same_package) ∙ c.in_ok-check_records.ensures.answer refl s (c.stored_header.ensures.reads.state ∙ told) under in
    identified s is c.args.e.now slot c.requires.slot c.requires.least c.requires.most h true fine records header (sym c.is_of.ensures ∙ c.if-not-is_of.false)

pub returns-clause-header : goal.returns-clause-header
returns-clause-header g c = λ s told.
    let is = (g.B.Board.view c.args.board.now).sizes s told in
    let n : ℕ = c.args.e.now.length in
    let slot : ℕ = c.args.slot in
    let own = c.new-table.ensures.slot in
    let keeps = c.new-table.ensures.keeps s in
    let h : Header = c.in_ok-header.header in
    let read : h ≡ header_of (held_bytes s slot 32) = c.in_ok-header.ensures.header s told keeps ∙ ap (λ (k : ℕ). header_of (held_bytes s k 32)) own in
    header_read s is c.args.e.now slot c.requires.slot c.requires.least c.requires.most h read

pub returns-clause-reads : goal.returns-clause-reads
returns-clause-reads g c = reads_reads _ _ _ c.stored_header.ensures.reads c.check_records.ensures.reads
