use Rattle.std.proofs.Common.{ℕ, ◌+◌, ap, sym, ◌∙◌, take, arith}
use Rattle.std.specs.List.{sum_by}
use Rattle.std.proofs.lemmas.List.{length-map}
use Rattle.layout_plan.specs.Plan.{room, rooms}
use Rattle.layout_plan.proofs.Sums.{sum_by-map, bases_of_rooms}
use Rattle.layout_plan.proofs.planning.plan_of.Goals as goal

pub returns-clause-plan : goal.returns-clause-plan
returns-clause-plan c =
    let s = c.args.sizes.now in
    let code_sum = c.bases-code_total.ensures.total ∙ sym (sum_by-map (λ r. r.code) room s) in
    let init_sum = c.bases-init_total.ensures.total ∙ sym (sum_by-map (λ r. r.init) room s) in
    let bss_sum = c.bases-bss_total.ensures.total ∙ sym (sum_by-map (λ r. r.bss) room s) in
    record {
      count = sym (length-map s room);
      code = λ i h. bases_of_rooms (λ r. r.code) _ 0 s c.bases-code_total.ensures.bases i h ∙ omega arith;
      load = λ i h. bases_of_rooms (λ r. r.init) _ _ s c.bases-init_total.ensures.bases i h ∙ ap (λ (n : ℕ). n + sum_by (λ r. r.init) (take i (rooms s))) code_sum;
      ram = bases_of_rooms (λ r. r.init) _ _ s c.bases.ensures.bases;
      bss = λ i h. bases_of_rooms (λ r. r.bss) _ _ s c.bases-bss_total.ensures.bases i h ∙ omega (arith, init_sum);
      code_total = code_sum;
      init_total = init_sum;
      bss_total = bss_sum;
    }
