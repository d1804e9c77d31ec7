use Rattle.std.proofs.Common.{◌≡◌, ℕ, ◌<◌, ◌+◌, ◌-◌, ◌*◌, ◌++◌, ◌∷◌, Bool, false, List, [], length, get_or, take, drop, refl, sym, ap, ap₂, subst, ◌∙◌, arith, rules, slice_range}
use Rattle.std.specs.Prelude.{IsTrue}
use Rattle.std.specs.List.{concat}
use Rattle.std.proofs.lemmas.Bool.{false≢true}
use Rattle.std.proofs.lemmas.List.{take_more, take_all, append-nil}
use Rattle.std.proofs.lemmas.List.Folds.{concat-append}
use Rattle.kept_definitions.specs.Stored.{stored_bytes}
use Rattle.kept_manifests.specs.Slots.{stored_of}
use Rattle.component_package.proofs.StoredLemmas.{joined_slice, take_further}
use Rattle.kept_manifests.proofs.StoredLemmas.{length-stored}
use Rattle.kept_manifests.proofs.pages.has_pages.Goals as goal

pub returns-then-not-is_same : goal.returns-then-not-is_same
returns-then-not-is_same c =
    let ps : List (List ℕ) = c.args.pages.now in
    let b : List ℕ = stored_bytes (stored_of c.args.m.now) in
    let p : ℕ = c.loop-page.page in
    let five : length ps ≡ 5 = search rules in
    let lt : p < 5 = c.loop-page-test.true in
    let same = λ (e : concat ps ≡ b).
    let here : slice_range (concat ps) (256 * p + 0) (256 * p + 0 + 256) ≡ slice_range (get_or ps p []) 0 256 = joined_slice ps p 0 256 c.requires.sizes (omega arith) (omega arith) in
    let page_size : length (get_or ps p []) ≡ 256 = c.requires.sizes p [] (omega arith) in
    let at : 256 * p + 0 ≡ 256 * p = omega arith in
    let page : slice_range b (256 * p) (256 * p + 256) ≡ get_or ps p [] = ap (λ (l : List ℕ). slice_range l (256 * p) (256 * p + 256)) (sym e) ∙ ap (λ (k : ℕ). slice_range (concat ps) k (k + 256)) (sym at) ∙ here ∙ take_all 256 (get_or ps p []) (omega arith) in
    subst (λ (t : Bool). IsTrue t) c.if-not-is_same.true (c.is_same.ensures.1 (c.slot_page.ensures ∙ page)) in
    (λ (f : IsTrue false). absurd (false≢true f), same)

pub loop-page-preserved : goal.loop-page-preserved
loop-page-preserved c =
    let ps : List (List ℕ) = c.args.pages.now in
    let b : List ℕ = stored_bytes (stored_of c.args.m.now) in
    let p : ℕ = c.loop-page.page in
    let five : length ps ≡ 5 = search rules in
    let lt : p < 5 = c.loop-page-test.true in
    let is_it : IsTrue c.is_same.result = subst (λ (t : Bool). IsTrue t) (sym c.if-not-is_same.false) refl in
    let page : get_or ps p [] ≡ slice_range b (256 * p) (256 * p + 256) = sym (c.is_same.ensures.0 is_it) ∙ c.slot_page.ensures in
    let n : 256 * p + 256 - 256 * p ≡ 256 = omega arith in
    let more : 256 * (p + 1) ≡ 256 * p + 256 = omega arith in
    ap concat (take_more ps p [] (omega arith)) ∙ concat-append (take p ps) (get_or ps p [] ∷ [])
    ∙ ap₂ (λ (x y : List ℕ). x ++ y) c.loop-page.invariant (append-nil (get_or ps p []) ∙ page ∙ ap (λ (k : ℕ). take k (drop (256 * p) b)) n)
    ∙ sym (take_further b (256 * p) 256) ∙ ap (λ (k : ℕ). take k b) (sym more)

pub returns : goal.returns
returns c =
    let ps : List (List ℕ) = c.args.pages.now in
    let b : List ℕ = stored_bytes (stored_of c.args.m.now) in
    let five : length ps ≡ 5 = search rules in
    let end : c.loop-page.page ≡ 5 = omega arith in
    let size : length b ≡ 1280 = length-stored (stored_of c.args.m.now) c.requires.manifest.stored in
    let all : concat (take 5 ps) ≡ take 1280 b = subst (λ (k : ℕ). concat (take k ps) ≡ take (256 * k) b) end c.loop-page.invariant in
    (λ t. ap concat (sym (take_all 5 ps (omega arith))) ∙ all ∙ take_all 1280 b (omega arith), λ e. refl)
