use Rattle.std.proofs.Common.{◌≡◌, List, [], ◌∷◌, length, take, refl, sym, ap, ◌∙◌, arith}
use Rattle.std.proofs.lemmas.List.{take_all}
use Rattle.flash_pages.proofs.Runs.{reads_reads}
use Rattle.component_package.specs.declared.part.Header.{Header}
use Rattle.component_package.specs.declared.part.Reloc.{Reloc}
use Rattle.kept_code.specs.Clear.{cleared_from}
use Rattle.kept_code.proofs.Cleared.{length-cleared}
use Rattle.kept_store.proofs.FieldLemmas.{starts_cleared, ends_cleared, more_cleared}
use Rattle.kept_store.proofs.fields.clear_window.Goals as goal

pub loop-i-init : goal.loop-i-init
loop-i-init g c = record {
  room = refl;
  keeps = λ s told. c.first_field.ensures.keeps s told (c.new-table.ensures.keeps s);
  cleared = λ s told comp own are. starts_cleared c.args.from c.args.in_init comp.relocs c.in_ok-first.first c.args.into.now are (c.in_ok-first.ensures.before s told (c.new-table.ensures.keeps s) comp own);
  reads = c.first_field.ensures.reads;
  fault = c.in_ok-first.ensures.faults;
}

pub returns-in_err-reloc-clause-reads : goal.returns-in_err-reloc-clause-reads
returns-in_err-reloc-clause-reads g c = reads_reads _ _ _ c.loop-i.invariant.reads c.read_reloc.ensures.reads

pub returns-then-is_past-clause-answer : goal.returns-then-is_past-clause-answer
returns-then-is_past-clause-answer g c = λ s told comp own are.
    let at = c.in_ok-reloc.ensures.answer s (c.loop-i.invariant.reads.state ∙ told) (c.loop-i.invariant.keeps s told) comp own in
    c.loop-i.invariant.cleared s told comp own are
    ∙ ends_cleared comp own.readable.entry.component c.args.from c.args.in_init c.loop-i.i c.in_ok-reloc.reloc c.args.into.now at (sym c.is_past.ensures ∙ c.if-is_past.true)

pub returns-then-is_past-clause-reads : goal.returns-then-is_past-clause-reads
returns-then-is_past-clause-reads g c = reads_reads _ _ _ c.loop-i.invariant.reads c.read_reloc.ensures.reads

pub loop-i-preserved : goal.loop-i-preserved
loop-i-preserved g c = record {
  room = ap length c.clear_field.ensures ∙ length-cleared c.args.from c.args.in_init (c.in_ok-reloc.reloc ∷ []) c.loop-i.into ∙ c.loop-i.invariant.room;
  keeps = λ s told. c.read_reloc.ensures.keeps s (c.loop-i.invariant.reads.state ∙ told) (c.loop-i.invariant.keeps s told);
  cleared = λ s told comp own are.
      let at = c.in_ok-reloc.ensures.answer s (c.loop-i.invariant.reads.state ∙ told) (c.loop-i.invariant.keeps s told) comp own in
      more_cleared comp own.readable.entry.component c.args.from c.args.in_init c.loop-i.i c.in_ok-reloc.reloc c.args.into.now c.loop-i.into c.clear_field.new.into are at
      (c.loop-i.invariant.cleared s told comp own are) c.clear_field.ensures;
  reads = reads_reads _ _ _ c.loop-i.invariant.reads c.read_reloc.ensures.reads;
  fault = c.in_ok-reloc.ensures.faults ∙ c.loop-i.invariant.fault;
}

pub returns-clause-answer : goal.returns-clause-answer
returns-clause-answer g c = λ s told comp own are.
    let count = ap (λ (h : Header). h.relocs) own.header in
    let all : take c.loop-i.i comp.relocs ≡ comp.relocs = take_all c.loop-i.i comp.relocs (omega (arith, count, c.loop-i-test.false)) in
    c.loop-i.invariant.cleared s told comp own are ∙ ap (λ (rs : List Reloc). cleared_from c.args.from c.args.in_init rs c.args.into.now) all
