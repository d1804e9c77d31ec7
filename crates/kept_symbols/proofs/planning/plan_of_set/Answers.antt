use Rattle.std.proofs.Common.{◌≡◌, ℕ, ◌<◌, ◌≤◌, List, [], ◌∷◌, ◌++◌, length, take, map, get_or, Result, Ok, Err, ap, ap₂, sym, subst, ◌∙◌, arith, rules}
use Rattle.std.specs.Prelude.{IfOk}
use Rattle.std.proofs.lemmas.List.{take_more_set, take_more, map-append}
use Rattle.component_package.specs.declared.part.Header.{Header}
use Rattle.component_package.specs.link.Layout.{Room}
use Rattle.kept_store.specs.declared.set.StoredSet.{StoredSet}
use Rattle.layout_plan.specs.declared.plan.Sizes.{Sizes}
use Rattle.layout_plan.specs.declared.plan.Plan.{Plan}
use Rattle.layout_plan.specs.declared.plan.PlanFault.{PlanFault}
use Rattle.layout_plan.specs.Plan.{room, rooms, IsPlan, IsPlanned, plan_fault}
use Rattle.kept_symbols.specs.Stored.{header_room, stored_rooms, IsPlanOf}
use Rattle.kept_symbols.proofs.planning.plan_of_set.Goals as goal

planned : (stored : StoredSet) (rs : List Room) (r : Result Plan PlanFault) → rs ≡ stored_rooms stored → IfOk r (IsPlan rs) → IfOk r IsPlanned → IfOk r (IsPlanOf stored)
planned stored rs (Ok p) same is fits = record { plan = subst (λ (q : List Room). IsPlan q p) same is; planned = fits }
planned stored rs (Err f) same is fits = tt

pub loop-k-preserved : goal.loop-k-preserved
loop-k-preserved c =
    let none : Header = record { component = 0; version = 0; code = 0; init = 0; bss = 0; exports = 0; relocs = 0 } in
    let k : ℕ = c.loop-k.k in
    let sizes : List Sizes = c.loop-k.sizes in
    let headers : List Header = c.args.set.now.headers in
    let few : c.args.set.now.slots.manifest.count ≤ 16 = c.requires.set.manifest.count in
    let long : length sizes ≡ 16 = c.loop-k.invariant.long in
    let below : k < c.args.set.now.slots.manifest.count = c.loop-k-test.true in
    let room16 : length headers ≡ 16 = search rules in
    let size : Sizes = c.sizes_of.result in
    record {
      long = search rules;
      rooms = ap (map room) (take_more_set sizes k size (omega arith)) ∙ map-append room (take k sizes) (size ∷ [])
          ∙ ap₂ (λ (xs : List Room) (r : Room). xs ++ r ∷ []) c.loop-k.invariant.rooms c.sizes_of.ensures
          ∙ sym (ap (map header_room) (take_more headers k none (omega arith)) ∙ map-append header_room (take k headers) (get_or headers k none ∷ []));
    }

pub returns-clause-plan : goal.returns-clause-plan
returns-clause-plan c =
    let last : c.loop-k.k ≡ c.args.set.now.slots.manifest.count = search rules in
    let sizes : List Sizes = c.loop-k.sizes in
    let headers : List Header = c.args.set.now.headers in
    let same = ap (λ (n : ℕ). map room (take n sizes)) (sym last) ∙ c.loop-k.invariant.rooms ∙ ap (λ (n : ℕ). map header_room (take n headers)) last in
    planned c.args.set.now (rooms (take c.args.set.now.slots.manifest.count sizes)) c.plan_of.result same c.plan_of.ensures.plan c.plan_of.ensures.planned

pub returns-clause-fault : goal.returns-clause-fault
returns-clause-fault c =
    let last : c.loop-k.k ≡ c.args.set.now.slots.manifest.count = search rules in
    let sizes : List Sizes = c.loop-k.sizes in
    let headers : List Header = c.args.set.now.headers in
    let same = ap (λ (n : ℕ). map room (take n sizes)) (sym last) ∙ c.loop-k.invariant.rooms ∙ ap (λ (n : ℕ). map header_room (take n headers)) last in
    c.plan_of.ensures.fault ∙ ap plan_fault same
