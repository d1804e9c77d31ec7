use Rattle.std.proofs.Common.{◌≡◌, ℕ, ◌+◌, ◌-◌, ◌*◌, ◌≤◌, ◌++◌, List, length, take, drop, min, sym, ap, ap₂, subst, ◌∙◌, arith, rules}
use Rattle.std.proofs.lemmas.List.{length-take-le}
use Rattle.external_flash.specs.Areas.{bytes_from}
use Rattle.component_package.specs.declared.part.Header.{Header}
use Rattle.component_package.specs.packages.Reading.{total_of}
use Rattle.kept_definitions.specs.Runs.{run_length, run_in_package}
use Rattle.kept_store.specs.Tables.{inbox_slot, FitsSlot}
use Rattle.kept_store.proofs.RunLemmas.{packed_there}
use Rattle.kept_store.proofs.TableLemmas.{length-here, page_filled}
use Rattle.kept_store.proofs.tables.put_run.Goals as goal

pub returns-clause-bytes : goal.returns-clause-bytes
returns-clause-bytes g c = λ s told header blank.
    let sizes = (g.B.Board.view c.args.board.now).sizes s told in
    let slot : ℕ = c.args.slot in
    let h : Header = c.args.h.now in
    let at : ℕ = 256 * c.args.page in
    let n : ℕ = c.min-count.result in
    let x : List ℕ = bytes_from (786 + 39 * slot) s in
    let run : List ℕ = run_in_package (inbox_slot slot s) in
    let a : List ℕ = c.run_pieces.new.into in
    let fits : FitsSlot slot s = subst (λ (k : Header). total_of k ≤ 9984) header c.requires.fits in
    let long : length run ≡ run_length h = length-here s sizes slot c.requires.slot fits ∙ sym (ap run_length header) in
    let count : n ≡ min (length run - at) 256 = omega (arith, long, c.min-count.ensures, c.run_length.ensures) in
    let room : length c.args.into.now ≡ 256 = search rules in
    let few : length (take n c.args.into.now) ≡ n = length-take-le n c.args.into.now (omega (arith, room, count)) in
    let read : a ≡ take n (drop at run) =
    c.in_ok-run_pieces.ensures.bytes s told
    ∙ ap₂ (λ (k records : ℕ). take k (drop at (take 32 x ++ drop records x))) few c.exports_at.ensures.at
    ∙ packed_there s sizes slot h c.requires.slot header c.requires.fits at n (omega (arith, long, count, c.requires.page)) in
    ap (λ (l : List ℕ). a ++ drop n l) blank ∙ page_filled run a c.args.page n count read
