use Rattle.std.proofs.Common.{inl, inr, ℕ, ◌+◌, ◌-◌, ◌/◌, ◌≤◌, Bool, sym, subst, ◌∙◌, arith}
use Rattle.std.proofs.lemmas.Bool.{cases_Bool}
use Rattle.flash_pages.proofs.Runs.{reads_reads}
use Rattle.kept_store.specs.declared.fields.Span.{Span}
use Rattle.kept_store.specs.Sets.{header_at}
use Rattle.kept_store.specs.Fields.{AreBefore, narrowed}
use Rattle.kept_store.proofs.FieldLemmas.{before_all}
use Rattle.kept_store.proofs.fields.first_field.Goals as goal

pub returns-in_err-reloc-clause-reads : goal.returns-in_err-reloc-clause-reads
returns-in_err-reloc-clause-reads g c = reads_reads _ _ _ c.loop-span.invariant.reads c.read_reloc.ensures.reads

pub loop-span-preserved : goal.loop-span-preserved
loop-span-preserved g c =
    let span : Span = c.loop-span.span in
    let middle : ℕ = span.low + (span.high - span.low) / 2 in
    let more : span.low + 1 ≤ span.high = omega (arith, c.loop-span-test.true) in
    let within : span.high ≤ (header_at c.args.set.now c.args.k).relocs = c.loop-span.invariant.within in
    let b : Bool = c.is_before.result in
    record {
      within = subst (λ (x : Span). x.high ≤ (header_at c.args.set.now c.args.k).relocs) (sym c.narrowed-span.ensures)
          (elim (cases_Bool b) [
            | inl yes_b ↦ subst (λ (t : Bool). (narrowed span middle t).high ≤ (header_at c.args.set.now c.args.k).relocs) (sym yes_b) within
            | inr no_b ↦ subst (λ (t : Bool). (narrowed span middle t).high ≤ (header_at c.args.set.now c.args.k).relocs) (sym no_b) (omega arith)
          ]);
      keeps = λ s told keeps. c.read_reloc.ensures.keeps s (c.loop-span.invariant.reads.state ∙ told) (c.loop-span.invariant.keeps s told keeps);
      before = λ s told keeps comp own.
          let at = c.in_ok-reloc.ensures.answer s (c.loop-span.invariant.reads.state ∙ told) (c.loop-span.invariant.keeps s told keeps) comp own in
          subst (λ (x : Span). AreBefore c.args.in_init c.args.from x.low comp.relocs) (sym c.narrowed-span.ensures)
          (elim (cases_Bool b) [
            | inl yes_b ↦
                subst (λ (t : Bool). AreBefore c.args.in_init c.args.from (narrowed span middle t).low comp.relocs) (sym yes_b)
                (before_all comp own.readable.entry.component c.args.in_init c.args.from middle c.in_ok-reloc.reloc at (sym c.is_before.ensures ∙ yes_b))
            | inr no_b ↦ subst (λ (t : Bool). AreBefore c.args.in_init c.args.from (narrowed span middle t).low comp.relocs) (sym no_b) (c.loop-span.invariant.before s told keeps comp own)
          ]);
      reads = reads_reads _ _ _ c.loop-span.invariant.reads c.read_reloc.ensures.reads;
      fault = c.in_ok-reloc.ensures.faults ∙ c.loop-span.invariant.fault;
    }
