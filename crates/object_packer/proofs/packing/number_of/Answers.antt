use Rattle.std.proofs.Common.{rules, ℕ, ◌<◌, Option, length, unwrap_or, sym, ap, ◌∙◌, arith}
use Rattle.std.specs.Prelude.{slice_index}
use Rattle.std.specs.Option.{option_map}
use Rattle.object_packer.proofs.Places.{place_below, number_at}
use Rattle.object_packer.proofs.packing.number_of.Goals as goal

pub bounds-numbers-place : goal.bounds-numbers-place
bounds-numbers-place c = omega (arith, place_below c.args.names.now c.args.name.now c.in-Some.place (sym c.in-Some.ensures), c.requires)

pub returns-in-None : goal.returns-in-None
returns-in-None c =
    sym (number_at c.args.names.now c.args.numbers.now c.args.name.now c.requires ∙ ap (λ (o : Option ℕ). unwrap_or (option_map (λ i. slice_index c.args.numbers.now i) o) 0) (sym c.in-None.ensures))

pub returns-in-Some : goal.returns-in-Some
returns-in-Some c =
    sym (number_at c.args.names.now c.args.numbers.now c.args.name.now c.requires ∙ ap (λ (o : Option ℕ). unwrap_or (option_map (λ i. slice_index c.args.numbers.now i) o) 0) (sym c.in-Some.ensures))

pub offset_bounds-numbers-place : goal.offset_bounds-numbers-place
offset_bounds-numbers-place c =
    let lt : c.in-Some.place < length c.args.numbers.now = omega (arith, place_below c.args.names.now c.args.name.now c.in-Some.place (sym c.in-Some.ensures), c.requires) in
    search rules
