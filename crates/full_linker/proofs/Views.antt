-- Packages while they are read.
use Rattle.std.proofs.Common.{◌≡◌, ℕ, ◌+◌, List, [], ◌∷◌, ◌++◌, Some, ◌≤◌, length, map, take, sym, ap, subst, ◌∙◌, arith}
use Rattle.std.specs.Prelude.{slice_get}
use Rattle.std.proofs.lemmas.List.{take_more, map-append, length-map}
use Rattle.std.proofs.lemmas.List.Elements.{All-push, recursion_from_All}
use Rattle.std.proofs.lemmas.Option.{slice_get_within, get_or_from_slice_get}
use Rattle.std.specs.List.{All}
use Rattle.component_package.specs.packages.Component.{Component}
use Rattle.component_package.specs.packages.Reading.{component_of}
use Rattle.component_package.specs.packages.Grammar.{IsComponent}
use Rattle.component_package.specs.packages.Manifest.{AreDistinct}
use Rattle.component_package.specs.link.Sets.{IsSet}

-- the first n packages were read
pub record AreRead (set : List (List ℕ)) (n : ℕ) (views : List Component) : Type 0 where
  pub said : views ≡ map component_of (take n set)
  pub sound : All IsComponent views

-- the next package is read
pub read_more : (set : List (List ℕ)) (n : ℕ) (views next : List Component) (b : List ℕ) (c : Component) → AreRead set n views → slice_get set n ≡ Some b → c ≡ component_of b → IsComponent c
    → next ≡ views ++ c ∷ [] → AreRead set (n + 1) next
read_more set n views next b c are here says is e =
    let lt = slice_get_within set n b here in
    record {
      said = e ∙ ap (λ (xs : List Component). xs ++ c ∷ []) are.said ∙ ap (λ (d : Component). map component_of (take n set) ++ d ∷ []) says
          ∙ sym (ap (map component_of) (take_more set n b lt ∙ ap (λ d. take n set ++ d ∷ []) (get_or_from_slice_get set n b b here)) ∙ map-append component_of (take n set) (b ∷ []));
      sound = subst (λ (xs : List Component). All IsComponent xs) (sym e) (All-push IsComponent views c are.sound is);
    }

-- the components of packages that were read are a set, where they are at most 16 and different
pub is_set : (set : List (List ℕ)) (views : List Component) → views ≡ map component_of set → All IsComponent views → length set ≤ 16
    → AreDistinct (map (λ c. c.component) views) → IsSet (map component_of set)
is_set set views said sound few different = subst (λ (cs : List Component). IsSet cs) said (record {
  few = omega (arith, few, ap length said, length-map set component_of);
  components = recursion_from_All IsComponent views sound;
  different = different;
})
