use Rattle.std.proofs.Common.{ℕ, suc, Option, Err, refl, sym, ap, ◌∙◌, subst, arith}
use Rattle.flash_pages.proofs.Runs.{reads_reads}
use Rattle.component_package.specs.declared.part.Site.{Site}
use Rattle.component_package.specs.link.Link.{Cause, first_cause, sites_in}
use Rattle.component_package.specs.link.Pages.{address_in}
use Rattle.component_store.proofs.Calls.{reads_none}
use Rattle.symbol_merge.specs.Stored.{set_in}
use Rattle.reloc_table.specs.List.{CauseIs, cause_with}
use Rattle.reloc_table.specs.Order.{sites_after}
use Rattle.reloc_table.proofs.Held.{component_at, set_length}
use Rattle.reloc_table.proofs.Coming.{nothing_behind}
use Rattle.reloc_table.proofs.Causes.{component_free, component_found, found_first, own_cause}
use Rattle.reloc_table.proofs.check.check_relocs.Goals as goal

pub loop-k-init : goal.loop-k-init
loop-k-init g c = record {
  reads = reads_none (g.B.Board.view c.args.board.now);
  fault = refl;
  symbols = λ s told. c.new-symbols.ensures s;
  free = λ s told holds table tells. refl;
}

pub returns-in-Err-clause-reads : goal.returns-in-Err-clause-reads
returns-in-Err-clause-reads g c = reads_reads _ _ _ c.loop-k.invariant.reads c.check_component.ensures.reads

pub returns-in-Err-clause-answer : goal.returns-in-Err-clause-answer
returns-in-Err-clause-answer g c = λ fine s told holds table tells.
    let set = set_in s c.args.set.now in
    let k : ℕ = c.loop-k.k in
    let f : Site → Option Cause = cause_with (address_in table) set in
    let comp = component_at s c.args.set.now k c.requires.set c.rooms.ensures c.loop-k-test.true in
    let said = c.in-Err.ensures.answer fine s (c.loop-k.invariant.reads.state ∙ told) (c.loop-k.invariant.symbols s told) holds table tells comp.it comp.here in
    subst (λ (o : Option Cause). CauseIs {A = Unit {0}} (Err c.in-Err.fault) o) (sym (c.loop-k.invariant.free s told holds table tells ∙ component_found f set k comp.it comp.here))
    (found_first (Unit {0}) c.in-Err.fault (first_cause f (sites_in k comp.it)) (first_cause f (sites_after set (suc k) 0)) fine said)

pub returns-in-Err-clause-own : goal.returns-in-Err-clause-own
returns-in-Err-clause-own g c = λ fine s told holds table own tells.
    subst (λ (o : Option Cause). CauseIs {A = Unit {0}} (Err c.in-Err.fault) o) (own_cause (set_in s c.args.set.now) table own) (returns-in-Err-clause-answer g c fine s told holds table tells)

pub loop-k-preserved : goal.loop-k-preserved
loop-k-preserved g c = record {
  reads = reads_reads _ _ _ c.loop-k.invariant.reads c.check_component.ensures.reads;
  fault = c.in-Ok.ensures.faults ∙ c.loop-k.invariant.fault;
  symbols = λ s told. c.in-Ok.ensures.keeps s (c.loop-k.invariant.reads.state ∙ told) (c.loop-k.invariant.symbols s told);
  free = λ s told holds table tells.
      let set = set_in s c.args.set.now in
      let k : ℕ = c.loop-k.k in
      let f : Site → Option Cause = cause_with (address_in table) set in
      let comp = component_at s c.args.set.now k c.requires.set c.rooms.ensures c.loop-k-test.true in
      let said = c.in-Ok.ensures.answer refl s (c.loop-k.invariant.reads.state ∙ told) (c.loop-k.invariant.symbols s told) holds table tells comp.it comp.here in
      c.loop-k.invariant.free s told holds table tells ∙ component_free f set k comp.it comp.here said;
}

pub returns-clause-answer : goal.returns-clause-answer
returns-clause-answer g c = λ fine s told holds table tells.
    let set = set_in s c.args.set.now in
    let f : Site → Option Cause = cause_with (address_in table) set in
    c.loop-k.invariant.free s told holds table tells ∙ ap (first_cause f) (nothing_behind set c.loop-k.k 0 (omega (arith, set_length s c.args.set.now c.requires.set c.rooms.ensures, c.loop-k-test.false)))

pub returns-clause-own : goal.returns-clause-own
returns-clause-own g c = λ fine s told holds table own tells. sym (own_cause (set_in s c.args.set.now) table own) ∙ returns-clause-answer g c fine s told holds table tells
