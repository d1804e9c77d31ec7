-- The limits of a set.
use Rattle.std.proofs.Common.{◌≡◌, ℕ, Bool, true, false, cond, ltb, ◌+◌, List, Some, None, refl, ap, ◌∙◌}
use Rattle.std.specs.Option.{option_or, option_map}
use Rattle.component_package.specs.mote.Machine.{cause_answer}
use Rattle.flash_pages.specs.State.{State}
use Rattle.component_package.specs.declared.answer.Answer.{Answer}
use Rattle.component_package.specs.declared.answer.Answer.TheVariants as answers
use Rattle.component_package.specs.link.Link.{Cause, FlashFull, RamFull, Symbols, Relocations, rooms_of, room_cause, symbols_cause, relocations_cause}
use Rattle.component_package.specs.link.Layout.{code_total, init_total, bss_total}
use Rattle.component_package.specs.packages.Component.{Component}
use Rattle.kept_store.specs.declared.set.StoredSet.{StoredSet}
use Rattle.kept_store.specs.Sets.{IsSet, HoldsSet}
use Rattle.kept_store.specs.Open.{HasRooms}
use Rattle.layout_plan.specs.declared.plan.PlanFault.{PlanFault}
use Rattle.layout_plan.specs.declared.plan.PlanFault.TheVariants as plans
use Rattle.layout_plan.specs.Plan.{plan_fault}
use Rattle.kept_symbols.specs.Stored.{stored_rooms}
use Rattle.kept_core.specs.Links.{Refuses}
use Rattle.kept_core.proofs.Causes.{room_first, symbols_first, relocs_first}
use Rattle.kept_relocs.proofs.Held.{rooms_are}

-- the cause that a plan's fault names, and its line
abbrev pub cause_of : PlanFault → Cause
cause_of (plans.Flash t) = FlashFull t
cause_of (plans.Ram t) = RamFull t

by_tests : (b c : Bool) (x y : ℕ) (f : PlanFault) → cond b (Some (plans.Flash x)) (cond c (Some (plans.Ram y)) None) ≡ Some f → option_or (cond b (Some (FlashFull x)) None) (cond c (Some (RamFull y)) None) ≡ Some (cause_of f)
by_tests true c x y f is = ap (option_map cause_of) is
by_tests false true x y f is = ap (option_map cause_of) is
by_tests false false x y f is = absurd (let q : ⊥ = cc in q)

none_by_tests : (b c : Bool) (x y : ℕ) → cond b (Some (plans.Flash x)) (cond c (Some (plans.Ram y)) None) ≡ None → option_or (cond b (Some (FlashFull x)) None) (cond c (Some (RamFull y)) None) ≡ None
none_by_tests true c x y is = absurd (let q : ⊥ = cc in q)
none_by_tests false true x y is = absurd (let q : ⊥ = cc in q)
none_by_tests false false x y is = refl

module _ (set : StoredSet) (s : State) (components : List Component) (is : IsSet set) (rooms : HasRooms set) (holds : HoldsSet s set components) where
  same : room_cause (rooms_of components) ≡ room_cause (stored_rooms set)
  same = ap room_cause (rooms_are s set components is rooms holds)

  pub has_room : plan_fault (stored_rooms set) ≡ None → room_cause (rooms_of components) ≡ None
  has_room none = same ∙ none_by_tests (ltb 122880 (code_total (stored_rooms set) + init_total (stored_rooms set))) (ltb 3584 (init_total (stored_rooms set) + bss_total (stored_rooms set))) _ _ none

  pub no_room : (f : PlanFault) (a : Answer) → plan_fault (stored_rooms set) ≡ Some f → a ≡ cause_answer (cause_of f) → Refuses components a
  no_room f a faulty answer = record {
    cause = cause_of f;
    is = room_first components (cause_of f) (same ∙ by_tests (ltb 122880 (code_total (stored_rooms set) + init_total (stored_rooms set))) (ltb 3584 (init_total (stored_rooms set) + bss_total (stored_rooms set))) _ _ f faulty);
    answer = answer;
  }

-- too many symbols, or relocations
pub many_symbols : (components : List Component) (n : ℕ) → room_cause (rooms_of components) ≡ None → symbols_cause components ≡ Some (Symbols n) → Refuses components (answers.Symbols n)
many_symbols components n room many = record { cause = Symbols n; is = symbols_first components room (Symbols n) many; answer = refl }

pub many_relocs : (components : List Component) (n : ℕ) → room_cause (rooms_of components) ≡ None → symbols_cause components ≡ None → relocations_cause components ≡ Some (Relocations n) → Refuses components (answers.Relocations n)
many_relocs components n room symbols many = record { cause = Relocations n; is = relocs_first components room symbols (Relocations n) many; answer = refl }
