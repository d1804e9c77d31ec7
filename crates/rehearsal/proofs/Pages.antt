-- Pages, one after another.
use Rattle.std.proofs.Common.{◌≡◌, ◌∙◌, ⊎_elim, refl, sym, ap, ℕ, ◌+◌, ◌<◌, ◌≤◌, arith, List, [], ◌∷◌, ◌++◌, length, take, map}
use Rattle.std.specs.Prelude.{slice_index_or}
use Rattle.std.specs.List.{concat, range_with_len}
use Rattle.std.proofs.lemmas.Bool.{cases_lt}
use Rattle.std.proofs.lemmas.List.{take_more, append-nil}
use Rattle.std.proofs.lemmas.List.Folds.{concat-append}
use Rattle.std.proofs.lemmas.List.FromFn.{fill_by_all}
use Rattle.component_package.specs.packages.Component.{Component}
use Rattle.component_package.specs.packages.Reading.{component_of}
use Rattle.update_laws.specs.Update.{Delivered, components_in}

-- pages that are those of some bytes, page by page
pub pages_are : (f : ℕ → List ℕ) (pages : List (List ℕ)) (n : ℕ) → length pages ≡ n → ((k : ℕ) → k < n → slice_index_or pages k [] ≡ f k)
    → pages ≡ map f (range_with_len 0 n)
pages_are f pages n long each = fill_by_all f pages n [] long each

-- one page more
pub one_more : (f : ℕ → List ℕ) (pages : List (List ℕ)) (n : ℕ) → ((k : ℕ) → k < n → slice_index_or pages k [] ≡ f k) → slice_index_or pages n [] ≡ f n
    → (k : ℕ) → k < n + 1 → slice_index_or pages k [] ≡ f k
one_more f pages n each here k lt = ⊎_elim (each k)
    (λ (above : n ≤ k). let is : k ≡ n = omega (arith, lt, above) in ap (λ (j : ℕ). slice_index_or pages j []) is ∙ here ∙ ap f (sym is))
    (cases_lt k n)

pub joined_more : (pages : List (List ℕ)) (n : ℕ) → n < length pages → concat (take (n + 1) pages) ≡ concat (take n pages) ++ slice_index_or pages n []
joined_more pages n within =
    let page = slice_index_or pages n [] in
    ap concat (take_more pages n [] within) ∙ concat-append (take n pages) (page ∷ []) ∙ ap (λ (b : List ℕ). concat (take n pages) ++ b) (append-nil page)

-- the components that packages spell
pub said : (ds : List Delivered) → map component_of (map (λ d. d.bytes) ds) ≡ components_in ds
said [] = refl
said (d ∷ ds) = ap (λ (cs : List Component). component_of d.bytes ∷ cs) (said ds)
