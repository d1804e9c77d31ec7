use Rattle.std.proofs.Common.{◌≡◌, ℕ, ◌+◌, [], ◌∷◌, Option, Err, drop, refl, sym, ap, ◌∙◌, subst, arith}
use Rattle.std.proofs.lemmas.List.{drop_all}
use Rattle.flash_pages.proofs.Runs.{reads_reads}
use Rattle.component_package.specs.declared.part.Site.{Site}
use Rattle.component_package.specs.link.Link.{Cause, first_cause, sites_in, rooms_of}
use Rattle.component_package.specs.link.Pages.{address_in}
use Rattle.layout_plan.specs.Plan.{IsPlan}
use Rattle.component_store.proofs.Calls.{reads_none}
use Rattle.kept_relocs.specs.List.{CauseIs, cause_with}
use Rattle.kept_relocs.proofs.Held.{plan_is, has_header}
use Rattle.kept_relocs.proofs.Coming.{length-sites}
use Rattle.kept_relocs.proofs.Causes.{site_at, passes_on, found_first}
use Rattle.kept_relocs.proofs.check.check_component.Goals as goal

pub loop-index-init : goal.loop-index-init
loop-index-init g c = record {
  reads = reads_none (g.B.Board.view c.args.board.now);
  fault = refl;
  keeps = λ s told. c.new-reader.ensures.keeps s;
  symbols = λ s told symbols. symbols;
  free = λ s told symbols components holds table tells comp here. refl;
}

pub returns-in_default-clause-reads : goal.returns-in_default-clause-reads
returns-in_default-clause-reads g c = reads_reads _ _ _ c.loop-index.invariant.reads c.read_reloc.ensures.reads

pub returns-in-Err-clause-reads : goal.returns-in-Err-clause-reads
returns-in-Err-clause-reads g c = reads_reads _ _ _ (reads_reads _ _ _ c.loop-index.invariant.reads c.read_reloc.ensures.reads) c.check_site.ensures.reads

pub returns-in-Err-clause-answer : goal.returns-in-Err-clause-answer
returns-in-Err-clause-answer g c = λ fine s told symbols components holds table tells comp here.
    let k : ℕ = c.args.k in
    let i : ℕ = c.loop-index.index in
    let f : Site → Option Cause = cause_with (address_in table) components in
    let now = c.loop-index.invariant.reads.state ∙ told in
    let plan : IsPlan (rooms_of components) c.args.plan.now = plan_is s c.args.set.now components c.requires.set c.rooms.ensures holds c.args.plan.now c.requires.plan in
    let reloc = c.in-Ok.ensures.answer s now (c.loop-index.invariant.keeps s told) comp (holds.each k comp here) in
    let split = site_at k comp i c.in-Ok.reloc reloc in
    let x : Site = record { component = k; index = i; reloc = c.in-Ok.reloc } in
    let said = c.in-Err.ensures.answer fine s (c.read_reloc.ensures.reads.state ∙ now) (c.loop-index.invariant.symbols s told symbols) components table plan tells in
    let first : first_cause f (sites_in k comp) ≡ first_cause f (x ∷ drop (i + 1) (sites_in k comp)) =
    c.loop-index.invariant.free s told symbols components holds table tells comp here ∙ ap (first_cause f) split in
    subst (λ (o : Option Cause). CauseIs {A = Unit {0}} (Err c.in-Err.fault) o) (sym first) (found_first (Unit {0}) c.in-Err.fault (f x) (first_cause f (drop (i + 1) (sites_in k comp))) fine said)

pub loop-index-preserved : goal.loop-index-preserved
loop-index-preserved g c = record {
  reads = reads_reads _ _ _ (reads_reads _ _ _ c.loop-index.invariant.reads c.read_reloc.ensures.reads) c.check_site.ensures.reads;
  fault = c.in-Ok-check_site.ensures.faults ∙ c.in-Ok.ensures.faults ∙ c.loop-index.invariant.fault;
  keeps = λ s told. c.read_reloc.ensures.keeps s (c.loop-index.invariant.reads.state ∙ told) (c.loop-index.invariant.keeps s told);
  symbols = λ s told symbols. c.in-Ok-check_site.ensures.keeps s (c.read_reloc.ensures.reads.state ∙ (c.loop-index.invariant.reads.state ∙ told)) (c.loop-index.invariant.symbols s told symbols);
  free = λ s told symbols components holds table tells comp here.
      let k : ℕ = c.args.k in
      let i : ℕ = c.loop-index.index in
      let f : Site → Option Cause = cause_with (address_in table) components in
      let now = c.loop-index.invariant.reads.state ∙ told in
      let plan : IsPlan (rooms_of components) c.args.plan.now = plan_is s c.args.set.now components c.requires.set c.rooms.ensures holds c.args.plan.now c.requires.plan in
      let reloc = c.in-Ok.ensures.answer s now (c.loop-index.invariant.keeps s told) comp (holds.each k comp here) in
      let x : Site = record { component = k; index = i; reloc = c.in-Ok.reloc } in
      let said = c.in-Ok-check_site.ensures.answer refl s (c.read_reloc.ensures.reads.state ∙ now) (c.loop-index.invariant.symbols s told symbols) components table plan tells in
      c.loop-index.invariant.free s told symbols components holds table tells comp here
      ∙ passes_on f x (drop i (sites_in k comp)) (drop (i + 1) (sites_in k comp)) (site_at k comp i c.in-Ok.reloc reloc) said;
}

pub returns-clause-answer : goal.returns-clause-answer
returns-clause-answer g c = λ fine s told symbols components holds table tells comp here.
    let k : ℕ = c.args.k in
    let f : Site → Option Cause = cause_with (address_in table) components in
    let h = has_header s c.args.set.now components k comp holds here in
    let none : drop c.loop-index.index (sites_in k comp) ≡ [] = drop_all c.loop-index.index (sites_in k comp) (omega (arith, length-sites k comp, h.relocs, c.loop-index-test.false)) in
    c.loop-index.invariant.free s told symbols components holds table tells comp here ∙ ap (first_cause f) none
