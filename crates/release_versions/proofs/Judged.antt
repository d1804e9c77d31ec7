-- What is judged of names, where it is known of each whether it has a number.
use Rattle.std.proofs.Common.{◌≡◌, ℕ, ◌+◌, ◌<◌, ◌≤◌, Bool, true, false, cond, Option, List, [], length, map, sym, ap, ap₂, ◌∙◌, refl, arith}
use Rattle.std.specs.Prelude.{nat_lt, not}
use Rattle.std.proofs.lemmas.Bool.Decides.{nat_tests}
use Rattle.std.proofs.lemmas.List.{length-map}
use Rattle.avr_elf.specs.Object.{Object}
use Rattle.component_package.specs.packages.Component.{spelling}
use Rattle.object_packer.specs.Names.{names, number_in}
use Rattle.object_packer.specs.Packed.{packed}
use Rattle.release_rows.specs.declared.row.SymbolRow.{SymbolRow}
use Rattle.release_rows.specs.declared.change.Effect.TheVariants as effects
use Rattle.release_rows.specs.Tables.{Tables, symbol_number, symbol_count}
use Rattle.release_judging.specs.declared.judged.Judged.{Judged}
use Rattle.release_judging.specs.declared.judged.Judged.TheVariants.{Does, Refused}
use Rattle.release_versions.specs.Numbers.{numbers_from, rows_from, new_count}
use Rattle.release_versions.specs.Versions.{are_symbols, numbers_of, new_symbols, judged_names}
use Rattle.release_versions.proofs.Named.{named_numbers, named_rows, count_rows}

-- how many symbols there are and what is known of each name, as tables say it
pub record IsKnown (t : Tables) (o : Object) (count : ℕ) (known : List (Option ℕ)) : Type 0 where
  pub count_is : count ≡ symbol_count t
  pub known_is : known ≡ map (symbol_number t) (names o)

pub numbers_are : (t : Tables) (o : Object) (count : ℕ) (known : List (Option ℕ)) → IsKnown t o count known → numbers_of t o ≡ numbers_from (16 + count) known
numbers_are t o count known is = named_numbers t (16 + symbol_count t) (names o) ∙ ap₂ (λ (n : ℕ) (ks : List (Option ℕ)). numbers_from (16 + n) ks) (sym is.count_is) (sym is.known_is)

pub rows_are : (t : Tables) (o : Object) (count : ℕ) (known : List (Option ℕ)) → IsKnown t o count known → new_symbols t o ≡ rows_from (16 + count) (names o) known
rows_are t o count known is = named_rows t (16 + symbol_count t) (names o) ∙ ap₂ (λ (n : ℕ) (ks : List (Option ℕ)). rows_from (16 + n) (names o) ks) (sym is.count_is) (sym is.known_is)

pub total_is : (t : Tables) (o : Object) (count : ℕ) (known : List (Option ℕ)) → IsKnown t o count known → symbol_count t + length (new_symbols t o) ≡ count + new_count known
total_is t o count known is =
    ap₂ (λ (a b : ℕ). a + b) (sym is.count_is)
    (ap length (rows_are t o count known is) ∙ count_rows (16 + count) (names o) known (ap length is.known_is ∙ length-map (names o) (symbol_number t)))

chosen : (b : Bool) (x y : Judged) → b ≡ true → x ≡ cond b x y
chosen true x y e = refl
chosen false x y e = absurd cc

passed : (b : Bool) (x y : Judged) → b ≡ false → y ≡ cond b x y
passed true x y e = absurd cc
passed false x y e = refl

pub too_many : (t : Tables) (name : List ℕ) (o : Object) (component version count : ℕ) (known : List (Option ℕ)) → IsKnown t o count known → 65520 < count + new_count known
    → Refused 51 [] ≡ judged_names t name o component version
too_many t name o component version count known is above =
    let total = total_is t o count known is in
    let e : nat_lt 65520 (symbol_count t + length (new_symbols t o)) ≡ true = grind (arith, nat_tests, total, above) in
    chosen (nat_lt 65520 (symbol_count t + length (new_symbols t o))) _ _ e

enough : (t : Tables) (o : Object) (count : ℕ) (known : List (Option ℕ)) → IsKnown t o count known → count + new_count known ≤ 65520 → nat_lt 65520 (symbol_count t + length (new_symbols t o)) ≡ false
enough t o count known is few = let total = total_is t o count known is in grind (arith, nat_tests, total, few)

pub not_symbols : (t : Tables) (name : List ℕ) (o : Object) (component version count : ℕ) (known : List (Option ℕ)) → IsKnown t o count known → count + new_count known ≤ 65520
    → are_symbols (numbers_from (16 + count) known) ≡ false → Refused 51 [] ≡ judged_names t name o component version
not_symbols t name o component version count known is few bad =
    chosen (not (are_symbols (numbers_of t o))) _ _ (ap not (ap are_symbols (numbers_are t o count known is) ∙ bad))
    ∙ passed (nat_lt 65520 (symbol_count t + length (new_symbols t o))) _ _ (enough t o count known is few)

pub kept : (t : Tables) (name : List ℕ) (o : Object) (component version count : ℕ) (known : List (Option ℕ)) → IsKnown t o count known → count + new_count known ≤ 65520
    → are_symbols (numbers_from (16 + count) known) ≡ true
    → Does (effects.Version name component version (rows_from (16 + count) (names o) known) (spelling (packed o component version (number_in (names o) (numbers_from (16 + count) known)))))
    ≡ judged_names t name o component version
kept t name o component version count known is few good =
    ap₂ (λ (rows : List SymbolRow) (numbers : List ℕ). Does (effects.Version name component version rows (spelling (packed o component version (number_in (names o) numbers)))))
    (sym (rows_are t o count known is)) (sym (numbers_are t o count known is))
    ∙ passed (not (are_symbols (numbers_of t o))) _ _ (ap not (ap are_symbols (numbers_are t o count known is) ∙ good))
    ∙ passed (nat_lt 65520 (symbol_count t + length (new_symbols t o))) _ _ (enough t o count known is few)
