-- Exported symbols and names.
use Rattle.std.proofs.Common.{◌≡◌, ℕ, ◌+◌, Bool, true, false, cond, Option, Some, None, List, [], ◌∷◌, ◌++◌, refl, sym, ap, subst, ◌∙◌, inl, inr, bytes_eq}
use Rattle.std.specs.Prelude.{not, ◌&&◌, ◌||◌, is_some}
use Rattle.std.specs.List.{list_any, filter, range_with_len}
use Rattle.std.specs.Option.{option_or}
use Rattle.std.specs.Cmp.Lexicographic.{bytes_decides, nat_list_eq_equiv}
use Rattle.std.proofs.lemmas.Bool.{cases_Bool}
use Rattle.std.proofs.lemmas.List.{map-append}
use Rattle.std.proofs.lemmas.List.Elements.{filter-append}
use Rattle.avr_elf.specs.Object.{SymbolParts, Object}
use Rattle.object_packer.specs.declared.fault.PackFault.{PackFault}
use Rattle.object_packer.specs.declared.fault.PackFault.TheVariants as faults
use Rattle.object_packer.specs.Sections.{symbol_at}
use Rattle.object_packer.specs.References.{linker_target}
use Rattle.object_packer.specs.Names.{is_exported, exported_before, needs_number, each_once, names_of_symbols, names_before}
use Rattle.object_packer.specs.NameTable.{with_name}
use Rattle.object_packer.specs.Faults.{value_fault, name_fault, symbol_fault, is_exported_before}
use Rattle.object_packer.proofs.Lists.{append_none}
use Rattle.object_packer.proofs.First.{filter_more}

-- ---- the names of numbered symbols

kept_names : (o : Object) (i : ℕ) (b : Bool) → names_of_symbols o (cond b (i ∷ []) []) ≡ cond b ((symbol_at o i).name ∷ []) []
kept_names o i true = refl
kept_names o i false = refl

names_more : (o : Object) (p : ℕ → Bool) (i : ℕ) (b : Bool) → p i ≡ b
    → names_of_symbols o (filter p (range_with_len 0 (i + 1))) ≡ names_of_symbols o (filter p (range_with_len 0 i)) ++ cond b ((symbol_at o i).name ∷ []) []
names_more o p i b e =
    ap (names_of_symbols o) (filter_more p i) ∙ map-append (λ i. (symbol_at o i).name) (filter p (range_with_len 0 i)) (cond (p i) (i ∷ []) [])
    ∙ ap (λ xs. names_of_symbols o (filter p (range_with_len 0 i)) ++ xs) (ap (λ b. names_of_symbols o (cond b (i ∷ []) [])) e ∙ kept_names o i b)

pub exported_yes : (o : Object) (i : ℕ) → is_exported o i ≡ true
    → names_of_symbols o (exported_before o (i + 1)) ≡ names_of_symbols o (exported_before o i) ++ (symbol_at o i).name ∷ []
exported_yes o i e = names_more o (is_exported o) i true e

pub exported_no : (o : Object) (i : ℕ) → is_exported o i ≡ false → names_of_symbols o (exported_before o (i + 1)) ≡ names_of_symbols o (exported_before o i)
exported_no o i e = names_more o (is_exported o) i false e ∙ append_none _

-- ---- each name once

-- names differ both ways
turned : (x y : List ℕ) (b : Bool) → bytes_eq x y ≡ b → bytes_eq y x ≡ b
turned x y b e = sym (nat_list_eq_equiv.symm x y) ∙ e

-- whether a name occurs does not change where another is left out
pub any_filter : (n x : List ℕ) (xs : List (List ℕ)) → bytes_eq n x ≡ false → list_any (λ m. bytes_eq m x) (filter (λ m. not (bytes_eq m n)) xs) ≡ list_any (λ m. bytes_eq m x) xs
any_filter n x [] e = refl
any_filter n x (y ∷ ys) e =
    elim (cases_Bool (bytes_eq y n)) [
      | inl hit ↦
          let same : y ≡ n = (bytes_decides y n).0 hit in
          let other : bytes_eq y x ≡ false = subst (λ m. bytes_eq m x ≡ false) (sym same) e in
          left hit other (any_filter n x ys e)
      | inr miss ↦ kept miss (any_filter n x ys e)
    ]
  where
    left : bytes_eq y n ≡ true → bytes_eq y x ≡ false → list_any (λ m. bytes_eq m x) (filter (λ m. not (bytes_eq m n)) ys) ≡ list_any (λ m. bytes_eq m x) ys
        → list_any (λ m. bytes_eq m x) (cond (not (bytes_eq y n)) (y ∷ filter (λ m. not (bytes_eq m n)) ys) (filter (λ m. not (bytes_eq m n)) ys)) ≡ (bytes_eq y x || list_any (λ m. bytes_eq m x) ys)
    left hit other rest = ap (λ b. list_any (λ m. bytes_eq m x) (cond (not b) (y ∷ filter (λ m. not (bytes_eq m n)) ys) (filter (λ m. not (bytes_eq m n)) ys))) hit ∙ rest
        ∙ ap (λ b. b || list_any (λ m. bytes_eq m x) ys) (sym other)

    kept : bytes_eq y n ≡ false → list_any (λ m. bytes_eq m x) (filter (λ m. not (bytes_eq m n)) ys) ≡ list_any (λ m. bytes_eq m x) ys
        → list_any (λ m. bytes_eq m x) (cond (not (bytes_eq y n)) (y ∷ filter (λ m. not (bytes_eq m n)) ys) (filter (λ m. not (bytes_eq m n)) ys)) ≡ (bytes_eq y x || list_any (λ m. bytes_eq m x) ys)
    kept miss rest = ap (λ b. list_any (λ m. bytes_eq m x) (cond (not b) (y ∷ filter (λ m. not (bytes_eq m n)) ys) (filter (λ m. not (bytes_eq m n)) ys))) miss
        ∙ ap (λ b. bytes_eq y x || b) rest

-- one of the others first
once_step : (y x : List ℕ) (es : List (List ℕ)) (b c : Bool) → list_any (λ m. bytes_eq m x) es ≡ b → bytes_eq y x ≡ c
    → y ∷ filter (λ m. not (bytes_eq m y)) (cond b es (es ++ x ∷ []))
    ≡ cond (c || list_any (λ m. bytes_eq m x) (filter (λ m. not (bytes_eq m y)) es)) (y ∷ filter (λ m. not (bytes_eq m y)) es) (y ∷ filter (λ m. not (bytes_eq m y)) es ++ x ∷ [])
once_step y x es true true is same = refl
once_step y x es true false is other = ap (λ b. cond b (y ∷ filter (λ m. not (bytes_eq m y)) es) (y ∷ filter (λ m. not (bytes_eq m y)) es ++ x ∷ [])) (sym (any_filter y x es other ∙ is))
once_step y x es false true is same =
    ap (λ xs. y ∷ xs) (filter-append (λ m. not (bytes_eq m y)) es (x ∷ []) ∙ ap (λ b. filter (λ m. not (bytes_eq m y)) es ++ cond (not b) (x ∷ []) []) (turned y x true same) ∙ append_none _)
once_step y x es false false is other =
    ap (λ xs. y ∷ xs) (filter-append (λ m. not (bytes_eq m y)) es (x ∷ []) ∙ ap (λ b. filter (λ m. not (bytes_eq m y)) es ++ cond (not b) (x ∷ []) []) (turned y x false other))
    ∙ ap (λ b. cond b (y ∷ filter (λ m. not (bytes_eq m y)) es) (y ∷ filter (λ m. not (bytes_eq m y)) es ++ x ∷ [])) (sym (any_filter y x es other ∙ is))

-- a name more
pub once_more : (xs : List (List ℕ)) (x : List ℕ) → each_once (xs ++ x ∷ []) ≡ with_name (each_once xs) x
once_more [] x = refl
once_more (y ∷ ys) x = ap (λ es. y ∷ filter (λ m. not (bytes_eq m y)) es) (once_more ys x) ∙ once_step y x (each_once ys) _ _ refl refl

pub names_yes : (o : Object) (i : ℕ) → needs_number o i ≡ true → names_before o (i + 1) ≡ with_name (names_before o i) (symbol_at o i).name
names_yes o i e = ap each_once (names_more o (needs_number o) i true e) ∙ once_more (names_of_symbols o (filter (needs_number o) (range_with_len 0 i))) (symbol_at o i).name

pub names_no : (o : Object) (i : ℕ) → needs_number o i ≡ false → names_before o (i + 1) ≡ names_before o i
names_no o i e = ap each_once (names_more o (needs_number o) i false e ∙ append_none _)

-- ---- faults of names

chosen : (f : PackFault) (e l b e' l' b' : Bool) → e ≡ e' → l ≡ l' → b ≡ b' → cond (e && (l || b)) (Some f) None ≡ cond (e' && (l' || b')) (Some f) None
chosen f e l b e' l' b' p q r = rw (p, q, r) refl

pub name_none : (o : Object) (i : ℕ) → is_exported o i ≡ false → name_fault o i ≡ None
name_none o i e = chosen (faults.NameTwice i) (is_exported o i) (is_some (linker_target (symbol_at o i).name)) (is_exported_before o i) false _ _ e refl refl

pub name_linker : (o : Object) (i : ℕ) → is_exported o i ≡ true → is_some (linker_target (symbol_at o i).name) ≡ true → name_fault o i ≡ Some (faults.NameTwice i)
name_linker o i e l = chosen (faults.NameTwice i) (is_exported o i) (is_some (linker_target (symbol_at o i).name)) (is_exported_before o i) true true _ e l refl

pub name_before : (o : Object) (i : ℕ) (b : Bool) → is_exported o i ≡ true → is_some (linker_target (symbol_at o i).name) ≡ false → is_exported_before o i ≡ b
    → name_fault o i ≡ cond b (Some (faults.NameTwice i)) None
name_before o i b e l f = chosen (faults.NameTwice i) (is_exported o i) (is_some (linker_target (symbol_at o i).name)) (is_exported_before o i) true false b e l f

-- the fault of a symbol whose value has none
pub symbol_named : (o : Object) (i : ℕ) (s : SymbolParts) (v : Option PackFault) → s ≡ symbol_at o i → v ≡ value_fault i s → v ≡ None → symbol_fault o i ≡ name_fault o i
symbol_named o i s v same is none = ap (λ f. option_or f (name_fault o i)) (sym (sym none ∙ is ∙ ap (value_fault i) same))
