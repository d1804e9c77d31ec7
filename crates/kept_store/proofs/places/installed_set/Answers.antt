use Rattle.std.proofs.Common.{◌≡◌, ℕ, ◌+◌, ◌<◌, ◌≤◌, Bool, true, false, List, length, take, get_or, sym, subst, arith, rules}
use Rattle.std.specs.List.{sum_by}
use Rattle.component_package.specs.declared.part.Header.{Header}
use Rattle.component_store.specs.Sets.{AreHeaders, length_of_part}
use Rattle.kept_manifests.specs.declared.pages.SlotManifest.{SlotManifest}
use Rattle.kept_store.specs.declared.set.StoredSet.{StoredSet}
use Rattle.kept_store.specs.Sets.{IsSet, no_header, part_at}
use Rattle.kept_store.proofs.RestLemmas.{unmarked, unmarked_stored, sum_grows}
use Rattle.kept_store.proofs.places.installed_set.Goals as goal

pub returns-clause-set : goal.returns-clause-set
returns-clause-set c =
    let m = c.args.m.now in
    let hs : List Header = c.args.headers.now in
    let n : ℕ = m.manifest.count in
    let room : length hs ≡ 16 = search rules in
    let few : n ≤ 16 = c.requires.count in
    let code_at : List ℕ = c.code_places-end.result.at in
    let init_at : List ℕ = c.init_places-end.result.at in
    let code : ℕ = sum_by (λ (h : Header). h.code) (take n hs) in
    let end : c.init_places-end.result.end ≤ 122880 = c.if-end-gt-IMAGE_BYTES.false in
    let code_end : c.code_places-end.result.end ≡ code = c.code_places-end.ensures.end in
    let init_end = c.init_places-end.ensures.end in
    let made : SlotManifest → StoredSet = λ x. record { slots = x; headers = hs; code_at = code_at; init_at = init_at } in
    let fit : AreHeaders m.manifest n hs = c.fit_all.ensures.0 c.if-not-fit_all.false in
    let within : (k : ℕ) → k < n → (in_init : Bool) → part_at (made (unmarked m)) k in_init + length_of_part (get_or hs k no_header) in_init ≤ 122880 = λ k lt in_init.
    let code_grows = sum_grows (λ (h : Header). h.code) hs no_header k n lt (omega arith) in
    let init_grows = sum_grows (λ (h : Header). h.init) hs no_header k n lt (omega arith) in
    let at_code = c.code_places-end.ensures.at k lt in
    let at_init = c.init_places-end.ensures.at k lt in
    elim in_init as (λ b. part_at (made (unmarked m)) k b + length_of_part (get_or hs k no_header) b ≤ 122880) [
      | true ↦ omega (arith, at_init, init_grows, init_end, end, code_end)
      | false ↦ omega (arith, at_code, code_grows, init_end, end, code_end)
    ] in
    subst (λ (x : SlotManifest). IsSet (made x)) (sym c.unmarked.ensures) (record { manifest = unmarked_stored m c.requires; headers = fit; parts = λ k lt rests. within k lt })
