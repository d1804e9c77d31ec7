use Rattle.std.proofs.Common.{◌≡◌, ◌<◌, ◌++◌, ℕ, List, length, Some, sym, ap, ◌∙◌, subst, arith, append_assoc}
use Rattle.std.specs.Prelude.{slice_get}
use Rattle.std.specs.List.{flat_map, range_with_len}
use Rattle.std.specs.Option.{option_to_list}
use Rattle.avr_elf.specs.declared.relocation.Rela.{Rela}
use Rattle.avr_elf.specs.Object.{Object, relas_at}
use Rattle.object_packer.specs.declared.layout.Home.{Home}
use Rattle.object_packer.specs.declared.kept.Kept.{Kept}
use Rattle.object_packer.specs.Parts.{home_of}
use Rattle.object_packer.specs.Relocations.{kept_at}
use Rattle.object_packer.specs.Faults.{entry_fault, entries_fault, relas_fault}
use Rattle.avr_elf.specs.First.{first_of}
use Rattle.object_packer.proofs.First.{first_of-at, first_of-more, says_it, flat_map_more}
use Rattle.object_packer.proofs.resolver.Resolver.push_section.Goals as goal

pub entry-requires-clause-symbol : goal.entry-requires-clause-symbol
entry-requires-clause-symbol c =
    let o = c.self.inside.layout in
    let here : slice_get (relas_at o c.args.s.now.index) c.loop-i.i ≡ Some c.get-x.result = ap (λ rs. slice_get rs c.loop-i.i) (sym c.relas-relas.ensures.relas) ∙ c.get-x.ensures in
    subst (λ (o : Object). c.get-x.result.symbol < length o.symbols) c.self.view_is ((c.relas-relas.ensures.well_formed).relas c.args.s.now.index c.loop-i.i c.get-x.result here).names

-- a section with a home
with_home : (o : Object) (k : ℕ) (home : Home) → home_of o k ≡ Some home → relas_fault o k ≡ first_of (entry_fault o k) (length (relas_at o k))
with_home o k home e = ap (entries_fault o k) e

count_is : (o p : Object) (k n : ℕ) (rs : List Rela) → p ≡ o → rs ≡ relas_at p k → n ≡ length rs → n ≡ length (relas_at o k)
count_is o p k n rs e same len = len ∙ ap length same ∙ ap (λ (o : Object). length (relas_at o k)) e

pub returns-in-Err-clause-fault : goal.returns-in-Err-clause-fault
returns-in-Err-clause-fault c =
    let o = c.args.self.now in
    let k = c.args.s.now.index in
    let count : c.len-i-end.result ≡ length (relas_at o k) = count_is o c.self.inside.layout k c.len-i-end.result c.relas-relas.result c.self.view_is c.relas-relas.ensures.relas c.len-i-end.ensures in
    says_it c.in-Err.fault (relas_fault o k) (with_home o k c.args.s.now.home c.requires.home
    ∙ first_of-at (entry_fault o k) (length (relas_at o k)) c.loop-i.i c.in-Err.fault (omega (arith, count)) c.loop-i.invariant.none (sym c.in-Err.ensures.fault))

pub loop-i-preserved : goal.loop-i-preserved
loop-i-preserved c =
    let o = c.args.self.now in
    let k = c.args.s.now.index in
    let f : ℕ → List Kept = λ i. option_to_list (kept_at o k c.args.s.now.home i) in
    record {
      none = first_of-more (entry_fault o k) c.loop-i.i c.loop-i.invariant.none (sym c.in-Ok.ensures.fault);
      kept = c.in_ok-push_some-in-Ok.ensures ∙ ap (λ r. c.loop-i.out.items ++ option_to_list r) c.in-Ok.ensures.kept ∙ ap (λ xs. xs ++ f c.loop-i.i) c.loop-i.invariant.kept
          ∙ append_assoc c.args.out.now.items (flat_map f (range_with_len 0 c.loop-i.i)) (f c.loop-i.i) ∙ ap (λ xs. c.args.out.now.items ++ xs) (sym (flat_map_more f c.loop-i.i));
    }
