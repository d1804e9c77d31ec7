use Rattle.std.proofs.Common.{◌≡◌, ◌+◌, ◌*◌, ◌<◌, ◌^◌, Some, [], ◌∷◌, ◌++◌, length, sym, ap, ◌∙◌, subst, arith, below_more}
use Rattle.avr_elf.specs.First.{list_of}
use Rattle.object_packer.specs.declared.layout.Home.{Home}
use Rattle.object_packer.specs.Sections.{section_at}
use Rattle.object_packer.specs.Parts.{home_of, place_of}
use Rattle.object_packer.specs.Layout.{lengths_before, AreBelow}
use Rattle.object_packer.proofs.Lists.{list_of_more}
use Rattle.object_packer.proofs.Rooms.{lengths_step, lengths_all, home_small, below_greater, home_made}
use Rattle.object_packer.proofs.layout.Layout.of.Goals as goal

pub loop-k-preserved : goal.loop-k-preserved
loop-k-preserved c =
    let o = c.args.object.now in
    let k = c.loop-k.k in
    let lt : k < length o.sections = omega (arith, c.section_count-k-end.ensures.count) in
    let few : k < 65536 = omega arith in
    let section = c.section_in-section.ensures in
    let place : c.place_of-place.result ≡ place_of (section_at o k) = c.place_of-place.ensures ∙ ap place_of section in
    let home : c.home_in.result ≡ home_of o k = home_made o k c.home_in.result c.place_of-place.result c.loop-k.lengths c.home_in.ensures place c.loop-k.invariant.lengths in
    record {
      homes = c.in_ok-push.ensures.items ∙ ap (λ hs. hs ++ c.home_in.result ∷ []) c.loop-k.invariant.homes ∙ ap (λ h. list_of (home_of o) k ++ h ∷ []) home ∙ sym (list_of_more (home_of o) k);
      lengths = lengths_step o k c.loop-k.lengths c.grown-lengths.result c.place_of-place.result c.section_in-section.result.size lt c.grown-lengths.ensures.grown c.loop-k.invariant.lengths place (ap (λ s. s.size) section);
      short = below_greater _ _ _ (omega arith) (c.grown-lengths.ensures.small (1 + k * 8589934592) c.loop-k.invariant.short);
      small = λ j h below e. below_more (λ j. (h : Home) → home_of o j ≡ Some h → h.start < 2 ^ 50) k (λ j below h e. c.loop-k.invariant.small j h below e)
          (λ h e. home_small o k (2 ^ 50) h (omega arith) (subst (λ t. AreBelow (2 ^ 50) t) c.loop-k.invariant.lengths (below_greater _ _ _ (omega arith) c.loop-k.invariant.short)) e) j below h e;
    }

pub invariant_of-result : goal.invariant_of-result
invariant_of-result c =
    let o = c.args.object.now in
    let all : c.loop-k.k ≡ length o.sections = omega (arith, c.section_count-k-end.ensures.count) in
    record {
      well_formed = c.section_count-k-end.ensures.well_formed;
      homes = c.loop-k.invariant.homes ∙ ap (λ n. list_of (home_of o) n) all;
      lengths = c.loop-k.invariant.lengths ∙ ap (λ n. lengths_before o n) all ∙ lengths_all o;
      small = λ k h lt e. c.loop-k.invariant.small k h (omega arith) e;
      short = below_greater _ _ _ (omega arith) c.loop-k.invariant.short;
    }
