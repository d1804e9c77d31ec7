use Rattle.std.proofs.Common.{◌≡◌, ℕ, ◌-◌, ◌<◌, ◌++◌, List, length, take, drop, min, ap, ap₂, ◌∙◌, arith, rules, length-append}
use Rattle.std.proofs.lemmas.List.{length-drop, length-take-le}
use Rattle.flash_pages.proofs.Runs.{reads_reads}
use Rattle.external_flash.specs.Areas.{bytes_from}
use Rattle.kept_store.proofs.RunLemmas.{both_filled, pieces_behind, pieces_both}
use Rattle.kept_store.proofs.runs.run_pieces.Goals as goal

pub returns-then-from-ge32-clause-bytes : goal.returns-then-from-ge32-clause-bytes
returns-then-from-ge32-clause-bytes g c = λ s told.
    let sizes = (g.B.Board.view c.args.board.now).sizes s told in
    c.in_ok-read.ensures.ok s told (c.new-reader.ensures.keeps s)
    ∙ pieces_behind s sizes c.args.first c.args.records c.requires.first c.args.from (length c.args.into.now) c.if-from-ge32.true

pub returns-in_err-read-3-clause-reads : goal.returns-in_err-read-3-clause-reads
returns-in_err-read-3-clause-reads g c = reads_reads _ _ _ c.read-2.ensures.reads c.read-3.ensures.reads

pub returns-clause-bytes : goal.returns-clause-bytes
returns-clause-bytes g c = λ s told.
    let sizes = (g.B.Board.view c.args.board.now).sizes s told in
    let n : ℕ = length c.args.into.now in
    let from : ℕ = c.args.from in
    let h : ℕ = c.min-front.result in
    let a : List ℕ = c.read-2.new.into in
    let b : List ℕ = c.read-3.new.into in
    let into : List ℕ = c.args.into.now in
    let x : List ℕ = bytes_from c.args.first s in
    let lt : from < 32 = omega (arith, c.if-from-ge32.false) in
    let is_h : h ≡ min (32 - from) n = search rules in
    let few : length (take h into) ≡ h = length-take-le h into (omega arith) in
    let long : length a ≡ h = search rules in
    let whole : length (a ++ drop h into) ≡ n = length-append a (drop h into) ∙ omega (arith, long, length-drop h into) in
    let rest : length (take (length (a ++ drop h into) - h) (drop h (a ++ drop h into))) ≡ n - h =
    length-take-le (length (a ++ drop h into) - h) (drop h (a ++ drop h into)) (omega (arith, length-drop h (a ++ drop h into))) ∙ ap (λ (k : ℕ). k - h) whole in
    let first : a ≡ take h (drop from x) = c.in_ok-read-2.ensures.ok s told (c.new-reader.ensures.keeps s) ∙ ap (λ (k : ℕ). take k (drop from x)) few in
    let kept = c.read-2.ensures.keeps s told (c.new-reader.ensures.keeps s) in
    let second : b ≡ take (n - h) (drop c.args.records x) =
    c.in_ok-read-3.ensures.ok s (c.read-2.ensures.reads.state ∙ told) kept ∙ ap (λ (k : ℕ). take k (drop c.args.records x)) rest in
    both_filled h a b into long ∙ ap₂ (λ (u v : List ℕ). u ++ v) first second ∙ pieces_both s sizes c.args.first c.args.records c.requires.first from n h lt is_h

pub returns-clause-reads : goal.returns-clause-reads
returns-clause-reads g c = reads_reads _ _ _ c.read-2.ensures.reads c.read-3.ensures.reads
