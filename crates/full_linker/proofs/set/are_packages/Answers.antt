use Rattle.std.proofs.Common.{◌≡◌, refl, List, ℕ, None, sym, subst, take, get_or}
use Rattle.std.specs.List.{All}
use Rattle.std.proofs.lemmas.List.{take_more, take_all}
use Rattle.std.proofs.lemmas.List.Elements.{All-push}
use Rattle.component_package.specs.packages.Reading.{package_fault}
use Rattle.full_linker.proofs.set.are_packages.Goals as goal

pub loop-bytes-preserved : goal.loop-bytes-preserved
loop-bytes-preserved c =
    let set = c.args.set.now in
    let i = c.loop-bytes.bytes-index in
    let x = c.bytes-item.result in
    let none = subst (λ (b : List ℕ). package_fault b ≡ None) c.bytes-item.is (c.is_package.ensures.0 c.if-not-is_package.false) in
    subst (λ (bs : List (List ℕ)). All (λ b. package_fault b ≡ None) bs) (sym (take_more set i x c.loop-bytes-test.true))
    (All-push (λ b. package_fault b ≡ None) (take i set) (get_or set i x) c.loop-bytes.invariant none)

pub returns : goal.returns
returns c =
    let set = c.args.set.now in
    let i = c.loop-bytes.bytes-index in
    (λ yes. subst (λ (bs : List (List ℕ)). All (λ b. package_fault b ≡ None) bs) (take_all i set c.loop-bytes-test.false) c.loop-bytes.invariant, λ all. refl)
