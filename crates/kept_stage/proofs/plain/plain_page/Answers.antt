use Rattle.std.proofs.Common.{rules, ◌≡◌, ℕ, ◌+◌, ◌++◌, List, take, refl, sym, ap, ◌∙◌, subst, arith, length-append, append_assoc}
use Rattle.std.specs.List.{flat_map}
use Rattle.std.proofs.lemmas.List.{take_all, append-nil}
use Rattle.flash_pages.proofs.Runs.{reads_reads}
use Rattle.component_package.specs.packages.Component.{Component}
use Rattle.component_store.proofs.Calls.{reads_none}
use Rattle.kept_relocs.proofs.Held.{component_at}
use Rattle.kept_stage.specs.Windows.{Shows}
use Rattle.kept_stage.proofs.Parts.{part_at, shows_more, blank_page}
use Rattle.kept_stage.proofs.Sets.{code_at, load_at}
use Rattle.kept_stage.proofs.plain.plain_page.Goals as goal

pub loop-k-init : goal.loop-k-init
loop-k-init g c = record {
  long = search rules;
  reads = reads_none (g.B.Board.view c.args.board.now);
  fault = refl;
  shows = λ s told components holds k lt. blank_page k lt;
}

pub returns-in_default-clause-reads : goal.returns-in_default-clause-reads
returns-in_default-clause-reads g c = reads_reads _ _ _ c.loop-k.invariant.reads c.copy_part.ensures.reads

pub loop-k-preserved : goal.loop-k-preserved
loop-k-preserved g c = record {
  long = c.copy_part.array_long;
  reads = reads_reads _ _ _ c.loop-k.invariant.reads c.copy_part.ensures.reads;
  fault = c.in-Ok.ensures.faults ∙ c.loop-k.invariant.fault;
  shows = λ s told components holds.
      let set = c.args.set.now in
      let k : ℕ = c.loop-k.k in
      let comp = component_at components k (omega (arith, holds.count, c.loop-k-test.true)) in
      let at = part_at (λ c. c.code) components k comp.it comp.here in
      subst (λ (b : List ℕ). Shows c.args.base b c.copy_part.new.into) (sym at.more)
      (shows_more (flat_map (λ c. c.code) (take k components)) comp.it.code c.loop-k.into c.copy_part.new.into c.args.base _
      (code_at set c.args.plan.now c.requires.set c.rooms.ensures c.requires.plan s components holds k c.loop-k-test.true)
      (c.loop-k.invariant.shows s told components holds) (c.in-Ok.ensures.bytes s (c.loop-k.invariant.reads.state ∙ told) comp.it (holds.each k comp.it comp.here)));
}

pub loop-k-2-init : goal.loop-k-2-init
loop-k-2-init g c = record {
  long = c.loop-k.invariant.long;
  reads = reads_none (g.B.Board.view c.loop-k.board);
  fault = refl;
  shows = λ s told components holds.
      let all : take c.loop-k.k components ≡ components = take_all c.loop-k.k components (omega (arith, holds.count, c.loop-k-test.false)) in
      subst (λ (b : List ℕ). Shows c.args.base b c.loop-k.into) (ap (flat_map (λ (c : Component). c.code)) all ∙ sym (append-nil (flat_map (λ (c : Component). c.code) components)))
      (c.loop-k.invariant.shows s (sym c.loop-k.invariant.reads.state ∙ told) components holds);
}

pub returns-in_default-copy_part-clause-reads : goal.returns-in_default-copy_part-clause-reads
returns-in_default-copy_part-clause-reads g c = reads_reads _ _ _ (reads_reads _ _ _ c.loop-k.invariant.reads c.loop-k-2.invariant.reads) c.copy_part-in-loop-k-2.ensures.reads

pub loop-k-2-preserved : goal.loop-k-2-preserved
loop-k-2-preserved g c = record {
  long = c.copy_part-in-loop-k-2.array_long;
  reads = reads_reads _ _ _ c.loop-k-2.invariant.reads c.copy_part-in-loop-k-2.ensures.reads;
  fault = c.in-Ok-copy_part.ensures.faults ∙ c.loop-k-2.invariant.fault;
  shows = λ s told components holds.
      let set = c.args.set.now in
      let k : ℕ = c.loop-k-2.k in
      let comp = component_at components k (omega (arith, holds.count, c.loop-k-2-test.true)) in
      let at = part_at (λ c. c.init) components k comp.it comp.here in
      let code : List ℕ = flat_map (λ c. c.code) components in
      let front : List ℕ = flat_map (λ c. c.init) (take k components) in
      let more : (code ++ front) ++ comp.it.init ≡ code ++ flat_map (λ c. c.init) (take (k + 1) components) = append_assoc code front comp.it.init ∙ ap (λ (r : List ℕ). code ++ r) (sym at.more) in
      subst (λ (b : List ℕ). Shows c.args.base b c.copy_part-in-loop-k-2.new.into) more
      (shows_more (code ++ front) comp.it.init c.loop-k-2.into c.copy_part-in-loop-k-2.new.into c.args.base _
      (load_at set c.args.plan.now c.requires.set c.rooms.ensures c.requires.plan s components holds k c.loop-k-2-test.true ∙ sym (length-append code front))
      (c.loop-k-2.invariant.shows s told components holds) (c.in-Ok-copy_part.ensures.bytes s (c.loop-k-2.invariant.reads.state ∙ told) comp.it (holds.each k comp.it comp.here)));
}

pub returns-clause-shows : goal.returns-clause-shows
returns-clause-shows g c = λ s told components holds.
    let all : take c.loop-k-2.k components ≡ components = take_all c.loop-k-2.k components (omega (arith, holds.count, c.loop-k-2-test.false)) in
    subst (λ (b : List Component). Shows c.args.base (flat_map (λ c. c.code) components ++ flat_map (λ c. c.init) b) c.loop-k-2.into) all
    (c.loop-k-2.invariant.shows s (c.loop-k.invariant.reads.state ∙ told) components holds)

pub returns-clause-reads : goal.returns-clause-reads
returns-clause-reads g c = reads_reads _ _ _ c.loop-k.invariant.reads c.loop-k-2.invariant.reads
