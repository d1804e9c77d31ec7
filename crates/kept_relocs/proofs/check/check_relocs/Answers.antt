use Rattle.std.proofs.Common.{ℕ, suc, Option, Err, refl, sym, ap, ◌∙◌, subst, arith}
use Rattle.flash_pages.proofs.Runs.{reads_reads}
use Rattle.component_package.specs.declared.part.Site.{Site}
use Rattle.component_package.specs.link.Link.{Cause, first_cause, sites_in}
use Rattle.component_package.specs.link.Pages.{address_in}
use Rattle.component_store.proofs.Calls.{reads_none}
use Rattle.kept_relocs.specs.List.{CauseIs, cause_with}
use Rattle.kept_relocs.specs.Order.{sites_after}
use Rattle.kept_relocs.proofs.Held.{component_at}
use Rattle.kept_relocs.proofs.Coming.{nothing_behind}
use Rattle.kept_relocs.proofs.Causes.{component_free, component_found, found_first, own_cause}
use Rattle.kept_relocs.proofs.check.check_relocs.Goals as goal

pub loop-k-init : goal.loop-k-init
loop-k-init g c = record {
  reads = reads_none (g.B.Board.view c.args.board.now);
  fault = refl;
  symbols = λ s told. c.new-symbols.ensures s;
  free = λ s told components holds table tells. refl;
}

pub returns-in-Err-clause-reads : goal.returns-in-Err-clause-reads
returns-in-Err-clause-reads g c = reads_reads _ _ _ c.loop-k.invariant.reads c.check_component.ensures.reads

pub returns-in-Err-clause-answer : goal.returns-in-Err-clause-answer
returns-in-Err-clause-answer g c = λ fine s told components holds table tells.
    let k : ℕ = c.loop-k.k in
    let f : Site → Option Cause = cause_with (address_in table) components in
    let comp = component_at components k (omega (arith, holds.count, c.loop-k-test.true)) in
    let said = c.in-Err.ensures.answer fine s (c.loop-k.invariant.reads.state ∙ told) (c.loop-k.invariant.symbols s told) components holds table tells comp.it comp.here in
    subst (λ (o : Option Cause). CauseIs {A = Unit {0}} (Err c.in-Err.fault) o) (sym (c.loop-k.invariant.free s told components holds table tells ∙ component_found f components k comp.it comp.here))
    (found_first (Unit {0}) c.in-Err.fault (first_cause f (sites_in k comp.it)) (first_cause f (sites_after components (suc k) 0)) fine said)

pub returns-in-Err-clause-own : goal.returns-in-Err-clause-own
returns-in-Err-clause-own g c = λ fine s told components holds table own tells.
    subst (λ (o : Option Cause). CauseIs {A = Unit {0}} (Err c.in-Err.fault) o) (own_cause components table own) (returns-in-Err-clause-answer g c fine s told components holds table tells)

pub loop-k-preserved : goal.loop-k-preserved
loop-k-preserved g c = record {
  reads = reads_reads _ _ _ c.loop-k.invariant.reads c.check_component.ensures.reads;
  fault = c.in-Ok.ensures.faults ∙ c.loop-k.invariant.fault;
  symbols = λ s told. c.in-Ok.ensures.keeps s (c.loop-k.invariant.reads.state ∙ told) (c.loop-k.invariant.symbols s told);
  free = λ s told components holds table tells.
      let k : ℕ = c.loop-k.k in
      let f : Site → Option Cause = cause_with (address_in table) components in
      let comp = component_at components k (omega (arith, holds.count, c.loop-k-test.true)) in
      let said = c.in-Ok.ensures.answer refl s (c.loop-k.invariant.reads.state ∙ told) (c.loop-k.invariant.symbols s told) components holds table tells comp.it comp.here in
      c.loop-k.invariant.free s told components holds table tells ∙ component_free f components k comp.it comp.here said;
}

pub returns-clause-answer : goal.returns-clause-answer
returns-clause-answer g c = λ fine s told components holds table tells.
    let f : Site → Option Cause = cause_with (address_in table) components in
    c.loop-k.invariant.free s told components holds table tells ∙ ap (first_cause f) (nothing_behind components c.loop-k.k 0 (omega (arith, holds.count, c.loop-k-test.false)))

pub returns-clause-own : goal.returns-clause-own
returns-clause-own g c = λ fine s told components holds table own tells. sym (own_cause components table own) ∙ returns-clause-answer g c fine s told components holds table tells
