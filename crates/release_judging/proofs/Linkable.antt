-- Packages of parts may be linked.
use Rattle.std.proofs.Common.{◌≡◌, ℕ, zero, suc, ◌+◌, ◌<◌, ◌≤◌, List, [], ◌∷◌, ◌++◌, length, map, None, get_or, take, refl, sym, ap, ap₂, subst, arith}
use Rattle.std.specs.List.{All, AllByRecursion}
use Rattle.std.proofs.lemmas.List.{take_more}
use Rattle.component_package.specs.packages.Reading.{package_fault, component_of}
use Rattle.component_package.specs.packages.Grammar.{IsComponent}
use Rattle.component_package.specs.packages.Manifest.{AreDistinct}
use Rattle.full_linker.specs.Linkable.{AreLinkable}
use Rattle.release_rows.specs.declared.part.Numbered.{Numbered}
use Rattle.release_rows.specs.Change.{IsPackageOf, IsPartList}
use Rattle.release_judging.specs.Packages.{ArePackagesOf}

all_cons : {X : Type 0} (P : X → Type 0) (x : X) (xs : List X) → P x → All P xs → All P (x ∷ xs)
all_cons P x xs here rest zero d lt = here
all_cons P x xs here rest (suc k) d lt = rest k d (omega (arith, lt))

faultless : (ps : List Numbered) (bs : List (List ℕ)) → ArePackagesOf ps bs → All (λ b. package_fault b ≡ None) bs
faultless [] [] h = λ k d lt. absurd (omega (arith, lt))
faultless [] (b ∷ bs) h = absurd h
faultless (p ∷ ps) [] h = absurd h
faultless (p ∷ ps) (b ∷ bs) h = all_cons (λ c. package_fault c ≡ None) b bs h.0.sound (faultless ps bs h.1)

components : (ps : List Numbered) (bs : List (List ℕ)) → ArePackagesOf ps bs → AllByRecursion IsComponent (map component_of bs)
components [] [] h = tt
components [] (b ∷ bs) h = absurd h
components (p ∷ ps) [] h = absurd h
components (p ∷ ps) (b ∷ bs) h = (h.0.spelled.component, components ps bs h.1)

numbers : (ps : List Numbered) (bs : List (List ℕ)) → ArePackagesOf ps bs → map (λ p. p.component) ps ≡ map (λ c. c.component) (map component_of bs)
numbers [] [] h = refl
numbers [] (b ∷ bs) h = absurd h
numbers (p ∷ ps) [] h = absurd h
numbers (p ∷ ps) (b ∷ bs) h = ap₂ (λ (n : ℕ) (ns : List ℕ). n ∷ ns) (sym h.0.component_is) (numbers ps bs h.1)

lengths : (ps : List Numbered) (bs : List (List ℕ)) → ArePackagesOf ps bs → length ps ≡ length (map component_of bs)
lengths [] [] h = refl
lengths [] (b ∷ bs) h = absurd h
lengths (p ∷ ps) [] h = absurd h
lengths (p ∷ ps) (b ∷ bs) h = ap (λ n. suc n) (lengths ps bs h.1)

-- packages of 1 to 16 different parts
pub linkable : (ps : List Numbered) (bs : List (List ℕ)) → ArePackagesOf ps bs → IsPartList ps → AreLinkable bs
linkable ps bs h l = record {
  packages = faultless ps bs h;
  components = record {
    few = subst (λ n. n ≤ 16) (lengths ps bs h) l.few;
    components = components ps bs h;
    different = subst AreDistinct (numbers ps bs h) l.distinct;
  };
}

pushed : (ps : List Numbered) (bs : List (List ℕ)) (p : Numbered) (b : List ℕ) → ArePackagesOf ps bs → IsPackageOf p.component p.version b → ArePackagesOf (ps ++ p ∷ []) (bs ++ b ∷ [])
pushed [] [] p b h new = (new, tt)
pushed [] (c ∷ bs) p b h new = absurd h
pushed (q ∷ ps) [] p b h new = absurd h
pushed (q ∷ ps) (c ∷ bs) p b h new = (h.0, pushed ps bs p b h.1 new)

-- one more
pub packages_more : (ps : List Numbered) (i : ℕ) (bs : List (List ℕ)) (d : Numbered) (b : List ℕ) → i < length ps → ArePackagesOf (take i ps) bs → IsPackageOf (get_or ps i d).component (get_or ps i d).version b → ArePackagesOf (take (i + 1) ps) (bs ++ b ∷ [])
packages_more ps i bs d b lt h new = subst (λ qs. ArePackagesOf qs (bs ++ b ∷ [])) (sym (take_more ps i d lt)) (pushed (take i ps) bs (get_or ps i d) b h new)
