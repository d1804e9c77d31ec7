-- Gates that are closed from Img upward.
use Rattle.std.proofs.Common.{◌≡◌, false, Some, refl, ap, ◌∙◌, arith}
use Rattle.std.proofs.lemmas.Bool.Decides.{nat_tests}
use Rattle.flash_pages.specs.State.{State, Place, Prog, Ext, ext_pages}
use Rattle.flash_pages.specs.Board.{View, Programs}
use Rattle.external_flash.specs.declared.Gate.TheVariants.{Man, Sym, Rel, Img}
use Rattle.external_flash.specs.Gates.{gate_place, IsOpen, closed}
use Rattle.kept_definitions.specs.Sides.{Parts}
use Rattle.component_package.specs.mote.Sides.{man, sym, rel, img}
use Rattle.kept_definitions.specs.Machine.{Mote}
use Rattle.kept_definitions.specs.Headline.{StandsFor}
use Rattle.kept_laws.specs.Steps.{with_gate}
use Rattle.kept_laws.proofs.Steps.{closing_keeps}
use Rattle.kept_laws.proofs.Stands.{resting_steps_stand}
use Rattle.kept_journal.specs.Steps.{parts, Step, Takes, Becomes, any_mote, unlinks, abandons, unlinked, abandoned}
use Rattle.kept_journal.proofs.Bridge.{parts_closed}
use Rattle.kept_journal.proofs.Takes.{takes_none, takes_gate, takes_weaker, becomes}

-- the gates that unlinking may change are among those of abandoning
pub unlink_less : (place : Place) → ext_pages 1 4 place ≡ false → ext_pages 2 4 place ≡ false
unlink_less (Prog page) barred = refl
unlink_less (Ext page) barred = grind (arith, nat_tests)

unlinked_stands : (p : Parts) (t : Mote) → StandsFor p t → StandsFor (unlinked p) (unlinks t)
unlinked_stands p t stands =
    resting_steps_stand.symbols (with_gate rel false (with_gate img false p)) (unlinks t) false
    (resting_steps_stand.relocs (with_gate img false p) (unlinks t) false (resting_steps_stand.unlinked p t stands))

pub abandoned_stands : (p : Parts) (t : Mote) → StandsFor p t → StandsFor (abandoned p) (abandons t)
abandoned_stands p t stands = resting_steps_stand.dropped (unlinked p) (unlinks t) (unlinked_stands p t stands)

module _ (a b : View) (s : State) (told : a.state ≡ Some s) (first : Programs (IsOpen Img) (gate_place Img) a b) where
  pub kept_img : Takes (Step any_mote (ext_pages 2 4) s) (ext_pages 2 4) 1 a b
  kept_img = takes_gate any_mote (ext_pages 2 4) 0 (IsOpen Img) Img a a b s s (takes_none any_mote (ext_pages 2 4) a s told) told refl first
      (λ on need u stands is sound. closing_keeps.image (parts s) on sound need)

  module _ (c : View) (told_b : b.state ≡ Some (closed Img s)) (second : Programs (IsOpen Rel) (gate_place Rel) b c) where
    shut_img : (parts (closed Img s)).gates img ≡ false
    shut_img = ap (λ (p : Parts). p.gates img) (parts_closed s Img (a.sizes s told))

    pub kept_rel : Takes (Step any_mote (ext_pages 2 4) s) (ext_pages 2 4) 2 a c
    kept_rel = takes_gate any_mote (ext_pages 2 4) 1 (IsOpen Rel) Rel a b c s (closed Img s) kept_img told_b refl second
        (λ on need u stands is sound. closing_keeps.relocs (parts (closed Img s)) on sound need shut_img)

    module _ (d : View) (told_c : c.state ≡ Some (closed Rel (closed Img s))) (third : Programs (IsOpen Sym) (gate_place Sym) c d) where
      two : parts (closed Rel (closed Img s)) ≡ with_gate rel false (with_gate img false (parts s))
      two = parts_closed (closed Img s) Rel (b.sizes (closed Img s) told_b) ∙ ap (λ (p : Parts). with_gate rel false p) (parts_closed s Img (a.sizes s told))

      pub kept_sym : Takes (Step any_mote (ext_pages 2 4) s) (ext_pages 2 4) 3 a d
      kept_sym = takes_gate any_mote (ext_pages 2 4) 2 (IsOpen Sym) Sym a c d s (closed Rel (closed Img s)) kept_rel told_c refl third
          (λ on need u stands is sound. closing_keeps.symbols (parts (closed Rel (closed Img s))) on sound need (ap (λ (p : Parts). p.gates rel) two) (ap (λ (p : Parts). p.gates img) two))

      pub unlinked_is : d.state ≡ Some (closed Sym (closed Rel (closed Img s))) → Becomes (unlinked (parts s)) any_mote unlinks s d
      unlinked_is told_d = becomes any_mote (ext_pages 2 4) 3 unlinks (unlinked (parts s)) s (closed Sym (closed Rel (closed Img s))) a d kept_sym told_d
          (parts_closed (closed Rel (closed Img s)) Sym (c.sizes (closed Rel (closed Img s)) told_c) ∙ ap (λ (p : Parts). with_gate sym false p) two)
          (λ u stands is sound. unlinked_stands (parts s) u stands.mote)

module _ (a b : View) (s : State) (unlinking : Takes (Step any_mote (ext_pages 2 4) s) (ext_pages 2 4) 3 a b) where
  pub kept_unlink : Takes (Step any_mote (ext_pages 1 4) s) (ext_pages 1 4) 3 a b
  kept_unlink = takes_weaker (Step any_mote (ext_pages 2 4) s) (Step any_mote (ext_pages 1 4) s) (ext_pages 2 4) (ext_pages 1 4) 3 3 a b (omega arith)
      (λ x step. record { pages = record { sent = step.pages.sent; page = λ place barred. step.pages.page place (unlink_less place barred) }; prog = λ none. step.prog (λ page. refl); keeps = step.keeps })
      unlink_less unlinking

  module _ (c : View) (before : Becomes (unlinked (parts s)) any_mote unlinks s b) (last : Programs (IsOpen Man) (gate_place Man) b c) where
    pub kept_man : Takes (Step any_mote (ext_pages 1 4) s) (ext_pages 1 4) 4 a c
    kept_man = takes_gate any_mote (ext_pages 1 4) 3 (IsOpen Man) Man a b c s before.end kept_unlink before.told refl last
        (λ on need u stands is sound. closing_keeps.manifest (parts before.end) on sound need
        (ap (λ (p : Parts). p.gates sym) before.parts_are) (ap (λ (p : Parts). p.gates rel) before.parts_are) (ap (λ (p : Parts). p.gates img) before.parts_are))

    pub abandoned_is : c.state ≡ Some (closed Man before.end) → Becomes (abandoned (parts s)) any_mote abandons s c
    abandoned_is told_c = becomes any_mote (ext_pages 1 4) 4 abandons (abandoned (parts s)) s (closed Man before.end) a c kept_man told_c
        (parts_closed before.end Man (b.sizes before.end before.told) ∙ ap (λ (p : Parts). with_gate man false p) before.parts_are)
        (λ u stands is sound. abandoned_stands (parts s) u stands.mote)
