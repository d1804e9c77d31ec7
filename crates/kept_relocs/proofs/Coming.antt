-- The relocations that are still to come.
use Rattle.std.proofs.Common.{◌≡◌, ℕ, zero, suc, ◌+◌, ◌≤◌, Bool, true, false, cond, Option, Some, None, List, [], ◌∷◌, ◌++◌, length, drop, map, refl, sym, ap, ◌∙◌, arith}
use Rattle.std.specs.Prelude.{slice_get, not, nat_le, ◌&&◌, is_some}
use Rattle.std.proofs.lemmas.Bool.{false≢true, le-leb, leb-true}
use mathlib.Core.Bool.{beq}
use Rattle.std.specs.List.{flat_map, enumerate_from}
use Rattle.std.proofs.lemmas.List.Concat.{flat_map-cons}
use Rattle.component_package.specs.declared.part.Reloc.{Reloc}
use Rattle.component_package.specs.declared.part.Site.{Site}
use Rattle.component_package.specs.packages.Component.{Component}
use Rattle.component_package.specs.link.Link.{sites_in, sites_of}
use Rattle.kept_relocs.specs.Order.{sites_after, in_code, in_data, rest_at, IsStep}

-- the relocations of component k and of those behind it
from : List Component → ℕ → List Site
from set k = sites_after set k 0

numbered_from : (n : ℕ) (cs : List Component) (k : ℕ) (c : Component) → slice_get cs k ≡ Some c → drop k (enumerate_from n cs) ≡ (n + k, c) ∷ drop (suc k) (enumerate_from n cs)
numbered_from n [] k c here = absurd cc
numbered_from n (d ∷ cs) zero c here = let e : d ≡ c = cc in let z : n ≡ n + 0 = omega arith in λ i. (z i, e i) ∷ enumerate_from (n + 1) cs
numbered_from n (d ∷ cs) (suc k) c here =
    let e : n + 1 + k ≡ n + suc k = omega arith in
    numbered_from (n + 1) cs k c here ∙ ap (λ (m : ℕ). (m, c) ∷ drop (suc k) (enumerate_from (n + 1) cs)) e

-- component k's relocations come before those of the next components
pub sites_split : (set : List Component) (k : ℕ) (c : Component) → slice_get set k ≡ Some c → sites_after set k 0 ≡ sites_in k c ++ sites_after set (suc k) 0
sites_split set k c here =
    let z : 0 + k ≡ k = omega arith in
    ap (flat_map (λ (p : ℕ × Component). sites_in p.0 p.1)) (numbered_from 0 set k c here) ∙ flat_map-cons {X = ℕ × Component} (λ p. sites_in p.0 p.1) (0 + k, c) (drop (suc k) (enumerate_from 0 set))
    ∙ ap (λ (n : ℕ). sites_in n c ++ sites_after set (suc k) 0) z

drop_apart : {X : Type 0} (xs ys : List X) → drop (length xs) (xs ++ ys) ≡ ys
drop_apart [] ys = refl
drop_apart (x ∷ xs) ys = drop_apart xs ys

length-numbered : {X : Type 0} (m : ℕ) (rs : List X) → length (enumerate_from m rs) ≡ length rs
length-numbered m [] = refl
length-numbered m (r ∷ rs) = ap suc (length-numbered (m + 1) rs)

pub length-sites : (k : ℕ) (c : Component) → length (sites_in k c) ≡ length c.relocs
length-sites k c = go 0 c.relocs
  where
    go : (m : ℕ) (rs : List Reloc) → length {A = Site} (map (λ r. record { component = k; index = r.0; reloc = r.1 }) (enumerate_from m rs)) ≡ length rs
    go m [] = refl
    go m (r ∷ rs) = ap suc (go (m + 1) rs)

-- behind the last relocation of a component come those of the next
pub next_component : (set : List Component) (k index : ℕ) (c : Component) → slice_get set k ≡ Some c → index ≡ length c.relocs → sites_after set k index ≡ sites_after set (suc k) 0
next_component set k index c here is =
    ap (λ (n : ℕ). sites_after set k n) (is ∙ sym (length-sites k c)) ∙ ap (drop (length (sites_in k c))) (sites_split set k c here) ∙ drop_apart (sites_in k c) (sites_after set (suc k) 0)

-- a relocation of component k, and those behind it
site_here : (k : ℕ) (m : ℕ) (rs : List Reloc) (back : List Site) (i : ℕ) (r : Reloc) → slice_get rs i ≡ Some r
    → drop i (map (λ r. record { component = k; index = r.0; reloc = r.1 }) (enumerate_from m rs) ++ back)
    ≡ record { component = k; index = m + i; reloc = r } ∷ drop (suc i) (map (λ r. record { component = k; index = r.0; reloc = r.1 }) (enumerate_from m rs) ++ back)
site_here k m [] back i r here = absurd cc
site_here k m (q ∷ rs) back zero r here =
    let e : q ≡ r = cc in
    let z : m ≡ m + 0 = omega arith in
    λ i. record { component = k; index = z i; reloc = e i } ∷ (map (λ r. record { component = k; index = r.0; reloc = r.1 }) (enumerate_from (m + 1) rs) ++ back)
site_here k m (q ∷ rs) back (suc i) r here =
    let e : m + 1 + i ≡ m + suc i = omega arith in
    site_here k (m + 1) rs back i r here
    ∙ ap (λ (n : ℕ). record { component = k; index = n; reloc = r } ∷ drop (suc i) (map (λ r. record { component = k; index = r.0; reloc = r.1 }) (enumerate_from (m + 1) rs) ++ back)) e

pub next_site : (set : List Component) (k index : ℕ) (c : Component) (r : Reloc) → slice_get set k ≡ Some c → slice_get c.relocs index ≡ Some r
    → sites_after set k index ≡ record { component = k; index = index; reloc = r } ∷ sites_after set k (suc index)
next_site set k index c r here there =
    let split = sites_split set k c here in
    let z : 0 + index ≡ index = omega arith in
    ap (drop index) split ∙ site_here k 0 c.relocs (sites_after set (suc k) 0) index r there
    ∙ ap (λ (n : ℕ). record { component = k; index = n; reloc = r } ∷ drop (suc index) (sites_in k c ++ sites_after set (suc k) 0)) z
    ∙ ap (λ (l : List Site). record { component = k; index = index; reloc = r } ∷ drop (suc index) l) (sym split)

-- behind the last component there is nothing
past_all : (n : ℕ) (cs : List Component) (k : ℕ) → length cs ≤ k → drop k (enumerate_from n cs) ≡ []
past_all n [] zero past = refl
past_all n [] (suc k) past = refl
past_all n (c ∷ cs) zero past = absurd (omega (arith, past))
past_all n (c ∷ cs) (suc k) past = past_all (n + 1) cs k (omega (arith, past))

drop_none : {X : Type 0} (n : ℕ) (xs : List X) → xs ≡ [] → drop n xs ≡ []
drop_none zero xs none = none
drop_none {X = X} (suc n) xs none = ap (λ (l : List X). drop (suc n) l) none

pub nothing_behind : (set : List Component) (k index : ℕ) → length set ≤ k → sites_after set k index ≡ []
nothing_behind set k index past =
    drop_none index (flat_map (λ c. sites_in c.0 c.1) (drop k (enumerate_from 0 set))) (ap (λ (l : List (ℕ × Component)). flat_map (λ c. sites_in c.0 c.1) l) (past_all 0 set k past))

-- before the first comes all
pub all_before : (set : List Component) → sites_after set 0 0 ≡ sites_of set
all_before set = refl

-- ---- the rest

-- behind all code comes the data
pub to_data : (set : List Component) (b : Bool) (k index : ℕ) → b ≡ false → length set ≤ k → rest_at set b k index ≡ rest_at set true 0 0
to_data set true k index b_is past = absurd cc
to_data set false k index b_is past = ap (λ (l : List Site). in_code l ++ in_data (sites_of set)) (nothing_behind set k index past)

-- behind all data there is nothing
pub all_gone : (set : List Component) (b : Bool) (k index : ℕ) → b ≡ true → length set ≤ k → rest_at set b k index ≡ []
all_gone set false k index b_is past = absurd cc
all_gone set true k index b_is past = ap in_data (nothing_behind set k index past)

-- behind a component comes the next
pub rest_next : (set : List Component) (b : Bool) (k index : ℕ) (c : Component) → slice_get set k ≡ Some c → index ≡ length c.relocs → rest_at set b k index ≡ rest_at set b (k + 1) 0
rest_next set b k index c here is =
    let one : suc k ≡ k + 1 = omega arith in
    let next : sites_after set k index ≡ sites_after set (k + 1) 0 = next_component set k index c here is ∙ ap (λ (n : ℕ). sites_after set n 0) one in
    by_part b next
  where
    by_part : (b : Bool) → sites_after set k index ≡ sites_after set (k + 1) 0 → rest_at set b k index ≡ rest_at set b (k + 1) 0
    by_part true e = ap in_data e
    by_part false e = ap (λ (l : List Site). in_code l ++ in_data (sites_of set)) e

-- a relocation of the part that is gone through is the next
pub rest_site : (set : List Component) (b : Bool) (k index : ℕ) (c : Component) (r : Reloc) → slice_get set k ≡ Some c → slice_get c.relocs index ≡ Some r → r.in_init ≡ b
    → rest_at set b k index ≡ record { component = k; index = index; reloc = r } ∷ rest_at set b k (index + 1)
rest_site set b k index c r here there part = by_part b part
  where
    one : suc index ≡ index + 1
    one = omega arith

    next : sites_after set k index ≡ record { component = k; index = index; reloc = r } ∷ sites_after set k (index + 1)
    next = next_site set k index c r here there ∙ ap (λ (n : ℕ). record { component = k; index = index; reloc = r } ∷ sites_after set k n) one

    by_part : (b : Bool) → r.in_init ≡ b → rest_at set b k index ≡ record { component = k; index = index; reloc = r } ∷ rest_at set b k (index + 1)
    by_part true e =
        ap in_data next
        ∙ ap (λ (t : Bool). cond t (record { component = k; index = index; reloc = r } ∷ in_data (sites_after set k (index + 1))) (in_data (sites_after set k (index + 1)))) e
    by_part false e =
        ap (λ (l : List Site). in_code l ++ in_data (sites_of set)) next
        ∙ ap (λ (t : Bool).
        cond (not t) (record { component = k; index = index; reloc = r } ∷ in_code (sites_after set k (index + 1))) (in_code (sites_after set k (index + 1))) ++ in_data (sites_of set)) e

-- one of the other part is passed over
pub rest_skip : (set : List Component) (b : Bool) (k index : ℕ) (c : Component) (r : Reloc) → slice_get set k ≡ Some c → slice_get c.relocs index ≡ Some r → r.in_init ≡ not b
    → rest_at set b k index ≡ rest_at set b k (index + 1)
rest_skip set b k index c r here there part = by_part b part
  where
    one : suc index ≡ index + 1
    one = omega arith

    next : sites_after set k index ≡ record { component = k; index = index; reloc = r } ∷ sites_after set k (index + 1)
    next = next_site set k index c r here there ∙ ap (λ (n : ℕ). record { component = k; index = index; reloc = r } ∷ sites_after set k n) one

    by_part : (b : Bool) → r.in_init ≡ not b → rest_at set b k index ≡ rest_at set b k (index + 1)
    by_part true e =
        ap in_data next
        ∙ ap (λ (t : Bool). cond t (record { component = k; index = index; reloc = r } ∷ in_data (sites_after set k (index + 1))) (in_data (sites_after set k (index + 1)))) e
    by_part false e =
        ap (λ (l : List Site). in_code l ++ in_data (sites_of set)) next
        ∙ ap (λ (t : Bool).
        cond (not t) (record { component = k; index = index; reloc = r } ∷ in_code (sites_after set k (index + 1))) (in_code (sites_after set k (index + 1))) ++ in_data (sites_of set)) e

-- ---- which part

-- behind the last component, and not at the end: in the code
pub in_code_part : (b : Bool) (count k : ℕ) → count ≤ k → (b && nat_le count k) ≡ false → b ≡ false
in_code_part false count k past more = refl
in_code_part true count k past more = absurd (false≢true (sym more ∙ le-leb count k past))

-- the other part, and the same
pub other_part : (a b : Bool) → not (beq a b) ≡ true → a ≡ not b
other_part true true other = absurd cc
other_part true false other = refl
other_part false true other = refl
other_part false false other = absurd cc

pub same_part : (a b : Bool) → not (beq a b) ≡ false → a ≡ b
same_part true true same = refl
same_part true false same = absurd cc
same_part false true same = absurd cc
same_part false false same = refl

-- at the end: in the data, behind the last component
pub at_end : (b : Bool) (count k : ℕ) → (b && nat_le count k) ≡ true → (b ≡ true) × (count ≤ k)
at_end false count k ended = absurd cc
at_end true count k ended = (refl, leb-true count k ended)

-- a step that found none
pub step_none : (o : Option Site) (old new : List Site) → is_some o ≡ false → IsStep o old new → old ≡ new
step_none None old new none step = step
step_none (Some x) old new none step = absurd cc
