use Rattle.std.proofs.Common.{◌≡◌, ℕ, ◌<◌, ◌≤◌, List, [], ◌∷◌, ◌++◌, Option, length, take, drop, map, refl, sym, ap, ◌∙◌, subst, arith}
use Rattle.std.specs.Prelude.{IfSome}
use Rattle.std.proofs.lemmas.List.{take_all, drop_all, drop-map, length-drop, length-map, length-take-le}
use Rattle.flash_pages.proofs.Runs.{reads_reads}
use Rattle.avr_reloc.specs.declared.fixup.Fixup.{Fixup}
use Rattle.component_package.specs.declared.part.Site.{Site}
use Rattle.component_package.specs.link.Link.{rooms_of, fixup_with}
use Rattle.component_package.specs.link.Areas.{IsEntry, area_bytes, entry_bytes}
use Rattle.component_package.specs.link.Pages.{address_in}
use Rattle.component_package.proofs.Lists.{all_at}
use Rattle.component_store.proofs.Calls.{reads_none}
use Rattle.layout_plan.specs.Plan.{IsPlan}
use Rattle.kept_relocs.specs.Order.{rest_of, IsNext}
use Rattle.kept_relocs.proofs.Held.{plan_is, plan_count}
use Rattle.kept_relocs.proofs.Listing.{next_of}
use Rattle.kept_relocs.proofs.building.list_page.Goals as goal

pub loop-j-init : goal.loop-j-init
loop-j-init g c = record {
  inside = omega arith;
  within = c.requires.within;
  reads = reads_none (g.B.Board.view c.args.board.now);
  fault = refl;
  keeps = λ s told. c.new-reader.ensures.keeps s;
  symbols = λ s told symbols. symbols;
  rest = λ s told components holds. refl;
  few = λ s told components holds. omega arith;
  page = λ s told components holds symbols table tells all. refl;
}

pub returns-in_default-clause-reads : goal.returns-in_default-clause-reads
returns-in_default-clause-reads g c = reads_reads _ _ _ c.loop-j.invariant.reads c.next.ensures.reads

pub returns-in-None-clause-reads : goal.returns-in-None-clause-reads
returns-in-None-clause-reads g c = reads_reads _ _ _ c.loop-j.invariant.reads c.next.ensures.reads

pub returns-in-None-clause-page : goal.returns-in-None-clause-page
returns-in-None-clause-page g c = λ s told components holds symbols table tells all.
    let j : ℕ = c.loop-j.j in
    let r0 = rest_of components c.args.cursor.now in
    let xs : List Fixup = map (fixup_with (address_in table) components) r0 in
    let site = c.in-Ok.ensures.site s (c.loop-j.invariant.reads.state ∙ told) (c.loop-j.invariant.keeps s told) components holds in
    let gone = subst (λ (o : Option Site). IsNext o (rest_of components c.loop-j.cursor) (rest_of components c.next.new.self)) c.in-None.is site in
    let none : drop j r0 ≡ [] = sym (c.loop-j.invariant.rest s told components holds) ∙ gone.0 in
    let short : length xs ≤ j = omega (arith, length-drop j r0, ap length none, length-map r0 (fixup_with (address_in table) components)) in
    let same : take j xs ≡ take 32 xs = take_all j xs short ∙ sym (take_all 32 xs (omega (arith, short, c.loop-j.invariant.inside))) in
    c.loop-j.invariant.page s told components holds symbols table tells all ∙ ap (λ (l : List Fixup). area_bytes entry_bytes 256 l) same

pub returns-in-None-clause-rest : goal.returns-in-None-clause-rest
returns-in-None-clause-rest g c = λ s told components holds.
    let j : ℕ = c.loop-j.j in
    let r0 = rest_of components c.args.cursor.now in
    let site = c.in-Ok.ensures.site s (c.loop-j.invariant.reads.state ∙ told) (c.loop-j.invariant.keeps s told) components holds in
    let gone = subst (λ (o : Option Site). IsNext o (rest_of components c.loop-j.cursor) (rest_of components c.next.new.self)) c.in-None.is site in
    let none : drop j r0 ≡ [] = sym (c.loop-j.invariant.rest s told components holds) ∙ gone.0 in
    gone.1 ∙ sym (drop_all 32 r0 (omega (arith, length-drop j r0, ap length none, c.loop-j.invariant.inside)))

pub fixup_of-requires-clause-component : goal.fixup_of-requires-clause-component
fixup_of-requires-clause-component g c =
    let known = subst (λ (o : Option Site). IfSome o (λ x. x.component < c.args.set.now.slots.manifest.count)) c.in-Some.is c.in-Ok.ensures.known in
    omega (arith, known, plan_count c.args.set.now c.args.plan.now c.requires.set c.rooms.ensures c.requires.plan)

pub returns-in_default-fixup_of-clause-reads : goal.returns-in_default-fixup_of-clause-reads
returns-in_default-fixup_of-clause-reads g c = reads_reads _ _ _ (reads_reads _ _ _ c.loop-j.invariant.reads c.next.ensures.reads) c.fixup_of.ensures.reads

pub loop-j-preserved : goal.loop-j-preserved
loop-j-preserved g c = record {
  inside = omega (arith, c.loop-j-test.true);
  within = c.in-Ok.ensures.within;
  reads = reads_reads _ _ _ (reads_reads _ _ _ c.loop-j.invariant.reads c.next.ensures.reads) c.fixup_of.ensures.reads;
  fault = c.in-Ok-fixup_of.ensures.faults ∙ c.in-Ok.ensures.faults ∙ c.loop-j.invariant.fault;
  keeps = λ s told. c.next.ensures.keeps s (c.loop-j.invariant.reads.state ∙ told) (c.loop-j.invariant.keeps s told);
  symbols = λ s told symbols. c.in-Ok-fixup_of.ensures.keeps s (c.next.ensures.reads.state ∙ (c.loop-j.invariant.reads.state ∙ told)) (c.loop-j.invariant.symbols s told symbols);
  rest = λ s told components holds.
      let site = c.in-Ok.ensures.site s (c.loop-j.invariant.reads.state ∙ told) (c.loop-j.invariant.keeps s told) components holds in
      let next = subst (λ (o : Option Site). IsNext o (rest_of components c.loop-j.cursor) (rest_of components c.next.new.self)) c.in-Some.is site in
      sym (next_of (rest_of components c.args.cursor.now) c.loop-j.j c.in-Some.site (rest_of components c.next.new.self) (sym (c.loop-j.invariant.rest s told components holds) ∙ next)).left;
  few = λ s told components holds.
      let site = c.in-Ok.ensures.site s (c.loop-j.invariant.reads.state ∙ told) (c.loop-j.invariant.keeps s told) components holds in
      let next = subst (λ (o : Option Site). IsNext o (rest_of components c.loop-j.cursor) (rest_of components c.next.new.self)) c.in-Some.is site in
      let here = next_of (rest_of components c.args.cursor.now) c.loop-j.j c.in-Some.site (rest_of components c.next.new.self) (sym (c.loop-j.invariant.rest s told components holds) ∙ next) in
      omega (arith, here.below);
  page = λ s told components holds symbols table tells all.
      let j : ℕ = c.loop-j.j in
      let f : Site → Fixup = fixup_with (address_in table) components in
      let r0 = rest_of components c.args.cursor.now in
      let now = c.loop-j.invariant.reads.state ∙ told in
      let site = c.in-Ok.ensures.site s now (c.loop-j.invariant.keeps s told) components holds in
      let next = subst (λ (o : Option Site). IsNext o (rest_of components c.loop-j.cursor) (rest_of components c.next.new.self)) c.in-Some.is site in
      let e : drop j r0 ≡ c.in-Some.site ∷ rest_of components c.next.new.self = sym (c.loop-j.invariant.rest s told components holds) ∙ next in
      let m = next_of (map f r0) j (f c.in-Some.site) (map f (rest_of components c.next.new.self)) (drop-map f j r0 ∙ ap (map f) e) in
      let plan : IsPlan (rooms_of components) c.args.plan.now = plan_is s c.args.set.now components c.requires.set c.rooms.ensures holds c.args.plan.now c.requires.plan in
      let x_is : c.in-Ok-fixup_of.x ≡ f c.in-Some.site = c.in-Ok-fixup_of.ensures.fixup s (c.next.ensures.reads.state ∙ now) (c.loop-j.invariant.symbols s told symbols) components table plan tells in
      let entry : IsEntry c.in-Ok-fixup_of.x = subst IsEntry (sym x_is) (all_at IsEntry (map f r0) j (f c.in-Some.site) all m.here) in
      let long : length (take j (map f r0)) ≡ j = length-take-le j (map f r0) (omega (arith, m.below)) in
      let put = c.put_record.ensures entry (take j (map f r0)) long (c.loop-j.invariant.page s told components holds symbols table tells all) in
      put ∙ ap (λ (l : List Fixup). area_bytes entry_bytes 256 l) (ap (λ (z : Fixup). take j (map f r0) ++ z ∷ []) x_is ∙ sym m.taken);
}

pub returns-clause-page : goal.returns-clause-page
returns-clause-page g c = λ s told components holds symbols table tells all.
    let xs : List Fixup = map (fixup_with (address_in table) components) (rest_of components c.args.cursor.now) in
    let full : c.loop-j.j ≡ 32 = omega (arith, c.loop-j.invariant.inside, c.loop-j-test.false) in
    c.loop-j.invariant.page s told components holds symbols table tells all ∙ ap (λ (n : ℕ). area_bytes entry_bytes 256 (take n xs)) full
