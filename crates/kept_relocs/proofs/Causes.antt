-- The first cause at a relocation.
use Rattle.std.proofs.Common.{◌≡◌, ℕ, zero, suc, ◌+◌, Bool, true, false, Option, Some, None, Err, List, [], ◌∷◌, ◌++◌, drop, map, refl, ap, ◌∙◌, arith}
use Rattle.std.specs.Prelude.{slice_get, nat_lt}
use Rattle.std.specs.Option.{option_or}
use Rattle.std.specs.List.{enumerate_from}
use Rattle.component_package.specs.declared.part.Reloc.{Reloc}
use Rattle.component_package.specs.declared.part.Site.{Site}
use Rattle.component_package.specs.packages.Component.{Component}
use Rattle.component_package.specs.link.Link.{Cause, Relocations, above, first_cause, sites_in, sites_of, sites_cause}
use Rattle.component_package.specs.link.Areas.{MergedSymbol}
use Rattle.component_package.specs.link.Pages.{IsTableOf}
use Rattle.link_laws.proofs.Law.{same_address}
use Rattle.kept_relocs.specs.declared.fault.BuildFault.{BuildFault}
use Rattle.kept_relocs.specs.declared.fault.BuildFault.TheVariants as faults
use Rattle.kept_relocs.specs.List.{cause_with, cause_from, is_build_fault, CauseIs}
use Rattle.kept_relocs.specs.Order.{sites_after}
use Rattle.kept_relocs.proofs.Coming.{sites_split}

-- the relocation at a place of a component, and those behind it
site_drop : (k m : ℕ) (rs : List Reloc) (i : ℕ) (r : Reloc) → slice_get rs i ≡ Some r
    → drop {A = Site} i (map (λ r. record { component = k; index = r.0; reloc = r.1 }) (enumerate_from m rs))
    ≡ record { component = k; index = m + i; reloc = r } ∷ drop (suc i) (map (λ r. record { component = k; index = r.0; reloc = r.1 }) (enumerate_from m rs))
site_drop k m [] i r here = absurd cc
site_drop k m (q ∷ rs) zero r here =
    let e : q ≡ r = cc in
    let z : m ≡ m + 0 = omega arith in
    λ i. record { component = k; index = z i; reloc = e i } ∷ map (λ r. record { component = k; index = r.0; reloc = r.1 }) (enumerate_from (m + 1) rs)
site_drop k m (q ∷ rs) (suc i) r here =
    let e : m + 1 + i ≡ m + suc i = omega arith in
    site_drop k (m + 1) rs i r here
    ∙ ap (λ (n : ℕ). record { component = k; index = n; reloc = r } ∷ drop (suc i) (map (λ r. record { component = k; index = r.0; reloc = r.1 }) (enumerate_from (m + 1) rs))) e

pub site_at : (k : ℕ) (c : Component) (i : ℕ) (r : Reloc) → slice_get c.relocs i ≡ Some r → drop i (sites_in k c) ≡ record { component = k; index = i; reloc = r } ∷ drop (i + 1) (sites_in k c)
site_at k c i r here =
    let z : 0 + i ≡ i = omega arith in
    let one : suc i ≡ i + 1 = omega arith in
    site_drop k 0 c.relocs i r here ∙ ap (λ (n : ℕ). record { component = k; index = n; reloc = r } ∷ drop (suc i) (sites_in k c)) z
    ∙ ap (λ (n : ℕ). record { component = k; index = i; reloc = r } ∷ drop n (sites_in k c)) one

pub first_cause-append : (f : Site → Option Cause) (xs ys : List Site) → first_cause f (xs ++ ys) ≡ option_or (first_cause f xs) (first_cause f ys)
first_cause-append f [] ys = refl
first_cause-append f (x ∷ xs) ys = ap (option_or (f x)) (first_cause-append f xs ys) ∙ joins (f x) (first_cause f xs) (first_cause f ys)
  where
    joins : (a b c : Option Cause) → option_or a (option_or b c) ≡ option_or (option_or a b) c
    joins None b c = refl
    joins (Some x) b c = refl

-- where the first is free of a cause, the rest decides
pub passes_on : (f : Site → Option Cause) (x : Site) (xs ys : List Site) → xs ≡ x ∷ ys → f x ≡ None → first_cause f xs ≡ first_cause f ys
passes_on f x xs ys is none = ap (first_cause f) is ∙ ap (λ (o : Option Cause). option_or o (first_cause f ys)) none

-- a cause that is answered is the first, where the search came so far
pub found_first : (A : Type 0) (e : BuildFault) (o p : Option Cause) → is_build_fault {A = A} (Err e) ≡ false → CauseIs {A = A} (Err e) o → CauseIs {A = A} (Err e) (option_or o p)
found_first A faults.Fault o p other is = absurd cc
found_first A (faults.Relocations n) o p other is = ap (λ (q : Option Cause). option_or q p) is
found_first A (faults.Undefined k r s) o p other is = ap (λ (q : Option Cause). option_or q p) is
found_first A (faults.Range k r c) o p other is = ap (λ (q : Option Cause). option_or q p) is

-- component by component
pub component_free : (f : Site → Option Cause) (set : List Component) (k : ℕ) (c : Component) → slice_get set k ≡ Some c → first_cause f (sites_in k c) ≡ None
    → first_cause f (sites_after set k 0) ≡ first_cause f (sites_after set (k + 1) 0)
component_free f set k c here none =
    let one : suc k ≡ k + 1 = omega arith in
    ap (first_cause f) (sites_split set k c here) ∙ first_cause-append f (sites_in k c) (sites_after set (suc k) 0)
    ∙ ap (λ (o : Option Cause). option_or o (first_cause f (sites_after set (suc k) 0))) none ∙ ap (λ (n : ℕ). first_cause f (sites_after set n 0)) one

pub component_found : (f : Site → Option Cause) (set : List Component) (k : ℕ) (c : Component) → slice_get set k ≡ Some c
    → first_cause f (sites_after set k 0) ≡ option_or (first_cause f (sites_in k c)) (first_cause f (sites_after set (suc k) 0))
component_found f set k c here = ap (first_cause f) (sites_split set k c here) ∙ first_cause-append f (sites_in k c) (sites_after set (suc k) 0)

-- with a set's own table that is the linker's cause
pub own_cause : (set : List Component) (table : List MergedSymbol) → IsTableOf set table → cause_from table set ≡ sites_cause set
own_cause set table t = ap (λ (f : ℕ → Option ℕ). first_cause (cause_with f set) (sites_of set)) (λ i s. same_address set table t s i)

-- above a limit or not
pub above_is : (n : ℕ) (b : Bool) → nat_lt 8192 n ≡ b → b ≡ true → above 8192 Relocations n ≡ Some (Relocations n)
above_is n true e is = rw e refl
above_is n false e is = absurd cc

pub above_not : (n : ℕ) (b : Bool) → nat_lt 8192 n ≡ b → b ≡ false → above 8192 Relocations n ≡ None
above_not n true e other = absurd cc
above_not n false e other = rw e refl
