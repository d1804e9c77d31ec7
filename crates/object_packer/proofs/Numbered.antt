-- Exports have numbers that rise.
use Rattle.std.proofs.Common.{◌≡◌, ℕ, zero, suc, ◌+◌, ◌<◌, ◌≤◌, Bool, true, false, cond, Option, Some, None, List, [], ◌∷◌, ◌++◌, length, map, refl, sym, ap, subst, ◌∙◌, arith, add-one, eqb, bytes_eq}
use Rattle.std.specs.Prelude.{not, ◌&&◌, ◌||◌, is_some}
use Rattle.std.specs.List.{filter, list_any, range_with_len, AllByRecursion}
use Rattle.std.specs.Cmp.Lexicographic.{bytes_decides}
use Rattle.std.proofs.lemmas.Bool.{eqb-true, or_parts}
use Rattle.std.proofs.lemmas.Bool.Decides.{nat_tests}
use Rattle.std.proofs.lemmas.List.{map-append, length-append}
use Rattle.std.proofs.lemmas.List.Elements.{filter-append}
use Rattle.std.proofs.lemmas.List.Folds.{list_any_at}
use Rattle.std.proofs.lemmas.List.FromFn.{length-range_with_len, get_or-range_with_len}
use Rattle.avr_elf.specs.Object.{Object}
use Rattle.component_package.specs.declared.part.Export.{Export}
use Rattle.component_package.specs.packages.Manifest.{AreDistinct}
use Rattle.component_package.specs.packages.Grammar.{ExportsRise}
use Rattle.object_packer.specs.declared.fault.PackFault.{PackFault}
use Rattle.object_packer.specs.declared.layout.Home.{Home}
use Rattle.object_packer.specs.Sections.{symbol_at}
use Rattle.object_packer.specs.References.{symbol_home, linker_target}
use Rattle.object_packer.specs.Names.{is_exported, exported_before, needs_number, each_once, names_of_symbols, names, number_in}
use Rattle.object_packer.specs.Faults.{value_fault, name_fault, is_exported_before}
use Rattle.object_packer.specs.Packed.{export_at, export_of}
use Rattle.object_packer.proofs.First.{none_or, filter_more}
use Rattle.object_packer.proofs.Exports.{any_filter}
use Rattle.object_packer.proofs.Sorting.{Rises, has}
use Rattle.object_packer.proofs.Sound.{IsFaultless, exported_are}
use Rattle.object_packer.proofs.Elements.{no_way, or_right, any_passing}

-- ---- the number of a name

abbrev pub occurs : List ℕ → List (List ℕ) → Bool
occurs name ns = list_any (λ m. bytes_eq m name) ns

-- what holds of each number holds of that of a name
pub number_all : (P : ℕ → Type 0) (ns : List (List ℕ)) (numbers name : List ℕ) → length numbers ≡ length ns → occurs name ns ≡ true → AllByRecursion P numbers → P (number_in ns numbers name)
number_all P [] numbers name len is all = absurd cc
number_all P (n ∷ ns) [] name len is all = absurd (omega (arith, len))
number_all P (n ∷ ns) (x ∷ xs) name len is all = from (bytes_eq n name) is (λ e. number_all P ns xs name (omega (arith, len)) e all.1)
  where
    from : (b : Bool) → (b || occurs name ns) ≡ true → (occurs name ns ≡ true → P (number_in ns xs name)) → P (cond b x (number_in ns xs name))
    from true e rest = all.0
    from false e rest = rest e

-- it is one of the numbers
number_among : (ns : List (List ℕ)) (numbers name : List ℕ) → length numbers ≡ length ns → occurs name ns ≡ true → list_any (λ y. eqb y (number_in ns numbers name)) numbers ≡ true
number_among [] numbers name len is = absurd cc
number_among (n ∷ ns) [] name len is = absurd (omega (arith, len))
number_among (n ∷ ns) (x ∷ xs) name len is = from (bytes_eq n name) is (number_among ns xs name (omega (arith, len)))
  where
    from : (b : Bool) → (b || occurs name ns) ≡ true → (occurs name ns ≡ true → list_any (λ y. eqb y (number_in ns xs name)) xs ≡ true) → list_any (λ y. eqb y (cond b x (number_in ns xs name))) (x ∷ xs) ≡ true
    from true e rest = let same : eqb x x ≡ true = grind (arith, nat_tests) in ap (λ b. b || list_any (λ y. eqb y x) xs) same
    from false e rest = or_right (eqb x (number_in ns xs name)) _ (rest e)

-- different names have different numbers
pub number_once : (ns : List (List ℕ)) (numbers a b : List ℕ) → length numbers ≡ length ns → AreDistinct numbers → occurs a ns ≡ true → occurs b ns ≡ true
    → number_in ns numbers a ≡ number_in ns numbers b → a ≡ b
number_once [] numbers a b len apart is_a is_b same = absurd cc
number_once (n ∷ ns) [] a b len apart is_a is_b same = absurd (omega (arith, len))
number_once (n ∷ ns) (x ∷ xs) a b len apart is_a is_b same = from (bytes_eq n a) (bytes_eq n b) refl refl is_a is_b same (number_once ns xs a b (omega (arith, len)) apart.1)
  where
    less : length xs ≡ length ns
    less = omega (arith, len)

    clash : (name : List ℕ) → occurs name ns ≡ true → number_in ns xs name ≡ x → a ≡ b
    clash name is e = no_way (list_any (λ y. eqb y x) xs) apart.0 (subst (λ (k : ℕ). list_any (λ y. eqb y k) xs ≡ true) e (number_among ns xs name less is))

    from : (p q : Bool) → bytes_eq n a ≡ p → bytes_eq n b ≡ q → (p || occurs a ns) ≡ true → (q || occurs b ns) ≡ true → cond p x (number_in ns xs a) ≡ cond q x (number_in ns xs b)
        → (occurs a ns ≡ true → occurs b ns ≡ true → number_in ns xs a ≡ number_in ns xs b → a ≡ b) → a ≡ b
    from true true e f h k s rest = sym ((bytes_decides n a).0 e) ∙ (bytes_decides n b).0 f
    from true false e f h k s rest = clash b k (sym s)
    from false true e f h k s rest = clash a h s
    from false false e f h k s rest = rest h k s

-- ---- names that are there

any_once : (x : List ℕ) (ns : List (List ℕ)) → occurs x ns ≡ true → occurs x (each_once ns) ≡ true
any_once x [] e = absurd cc
any_once x (n ∷ ns) e = from (bytes_eq n x) refl e (any_once x ns)
  where
    from : (b : Bool) → bytes_eq n x ≡ b → (b || occurs x ns) ≡ true → (occurs x ns ≡ true → occurs x (each_once ns) ≡ true) → (bytes_eq n x || occurs x (filter (λ m. not (bytes_eq m n)) (each_once ns))) ≡ true
    from true p e rest = ap (λ b. b || occurs x (filter (λ m. not (bytes_eq m n)) (each_once ns))) p
    from false p e rest = or_right (bytes_eq n x) _ (any_filter n x (each_once ns) p ∙ rest e)

bytes_same : (x : List ℕ) → bytes_eq x x ≡ true
bytes_same x = (bytes_decides x x).1 refl

any_named : (o : Object) (i : ℕ) (is : List ℕ) → list_any (λ j. eqb j i) is ≡ true → occurs (symbol_at o i).name (names_of_symbols o is) ≡ true
any_named o i [] e = absurd cc
any_named o i (j ∷ is) e = from (eqb j i) refl e (any_named o i is)
  where
    from : (b : Bool) → eqb j i ≡ b → (b || list_any (λ j. eqb j i) is) ≡ true → (list_any (λ j. eqb j i) is ≡ true → occurs (symbol_at o i).name (names_of_symbols o is) ≡ true)
        → (bytes_eq (symbol_at o j).name (symbol_at o i).name || occurs (symbol_at o i).name (names_of_symbols o is)) ≡ true
    from true p e rest = ap (λ b. b || occurs (symbol_at o i).name (names_of_symbols o is)) (ap (λ k. bytes_eq (symbol_at o k).name (symbol_at o i).name) (eqb-true j i p) ∙ bytes_same (symbol_at o i).name)
    from false p e rest = or_right _ _ (rest e)

in_range : (n i : ℕ) → i < n → list_any (λ j. eqb j i) (range_with_len 0 n) ≡ true
in_range n i lt =
    let same : eqb (0 + i) i ≡ true = grind (arith, nat_tests) in
    list_any_at (λ j. eqb j i) (range_with_len 0 n) i 0 (let long = length-range_with_len 0 n in omega (arith, long, lt)) (ap (λ k. eqb k i) (get_or-range_with_len 0 n i 0 lt) ∙ same)

-- a name that needs a number is one of the names
pub among_names : (o : Object) (i : ℕ) → i < length o.symbols → needs_number o i ≡ true → occurs (symbol_at o i).name (names o) ≡ true
among_names o i lt needs = any_once (symbol_at o i).name (names_of_symbols o (filter (needs_number o) (range_with_len 0 (length o.symbols))))
    (any_named o i (filter (needs_number o) (range_with_len 0 (length o.symbols))) (any_passing (needs_number o) i (range_with_len 0 (length o.symbols)) needs (in_range (length o.symbols) i lt)))

-- ---- exported names

not_twice : (f : PackFault) (e l b : Bool) → e ≡ true → cond (e && (l || b)) (Some f) None ≡ None → (l ≡ false) × (b ≡ false)
not_twice f false l b p none = absurd cc
not_twice f true true b p none = absurd cc
not_twice f true false true p none = absurd cc
not_twice f true false false p none = (refl, refl)

pub exported_once : (o : Object) → IsFaultless o → (i : ℕ) → i < length o.symbols → is_exported o i ≡ true → (is_some (linker_target (symbol_at o i).name) ≡ false) × (is_exported_before o i ≡ false)
exported_once o f i lt is = not_twice _ (is_exported o i) (is_some (linker_target (symbol_at o i).name)) (is_exported_before o i) is (none_or (value_fault i (symbol_at o i)) (name_fault o i) (f.symbols i lt)).1

needs_from : (l a k u : Bool) → (not l && a) ≡ true → k ≡ false → (not l && not k && ((not l && a) || u)) ≡ true
needs_from true a k u e z = absurd cc
needs_from false false k u e z = absurd cc
needs_from false true true u e z = absurd cc
needs_from false true false u e z = refl

pub exported_named : (o : Object) → IsFaultless o → (i : ℕ) → i < length o.symbols → is_exported o i ≡ true → occurs (symbol_at o i).name (names o) ≡ true
exported_named o f i lt is = among_names o i lt (needs_from _ _ _ _ is (exported_once o f i lt is).0)

-- ---- at most one export has each number

pub export_symbol : (o : Object) (g : List ℕ → ℕ) (i : ℕ) → (export_of o g i).symbol ≡ g (symbol_at o i).name
export_symbol o g i = from (symbol_home o (symbol_at o i))
  where
    from : (h : Option Home) → (export_at (g (symbol_at o i).name) (symbol_at o i) h).symbol ≡ g (symbol_at o i).name
    from None = refl
    from (Some home) = refl

abbrev pub symbol_of : Export → ℕ
symbol_of e = e.symbol

none_numbered : (o : Object) (g : List ℕ → ℕ) (name : List ℕ) (m : ℕ) (is : List ℕ) → AllByRecursion (λ i. g (symbol_at o i).name ≡ m → (symbol_at o i).name ≡ name) is
    → occurs name (names_of_symbols o is) ≡ false → filter (has symbol_of m) (map (export_of o g) is) ≡ []
none_numbered o g name m [] all none = refl
none_numbered o g name m (i ∷ is) all none = from (has symbol_of m (export_of o g i)) refl (none_numbered o g name m is all.1 parts.1)
  where
    parts : (bytes_eq (symbol_at o i).name name ≡ false) × (occurs name (names_of_symbols o is) ≡ false)
    parts = or_parts (bytes_eq (symbol_at o i).name name) (occurs name (names_of_symbols o is)) none

    from : (b : Bool) → has symbol_of m (export_of o g i) ≡ b → filter (has symbol_of m) (map (export_of o g) is) ≡ []
        → cond b (export_of o g i ∷ filter (has symbol_of m) (map (export_of o g) is)) (filter (has symbol_of m) (map (export_of o g) is)) ≡ []
    from true e rest = no_way (bytes_eq (symbol_at o i).name name) parts.0 (ap (λ x. bytes_eq x name) (all.0 (sym (export_symbol o g i) ∙ eqb-true (export_of o g i).symbol m e)) ∙ bytes_same name)
    from false e rest = rest

module _ (o : Object) (f : IsFaultless o) (g : List ℕ → ℕ) (once : (a b : List ℕ) → occurs a (names o) ≡ true → occurs b (names o) ≡ true → g a ≡ g b → a ≡ b) where
  -- no exported symbol before number n has its number
  none_before : (n m : ℕ) → n < length o.symbols → is_exported o n ≡ true → g (symbol_at o n).name ≡ m → filter (has symbol_of m) (map (export_of o g) (exported_before o n)) ≡ []
  none_before n m lt is e = none_numbered o g (symbol_at o n).name m (exported_before o n) (each (exported_before o n) (exported_are o n)) (exported_once o f n lt is).1
    where
      each : (js : List ℕ) → AllByRecursion (λ i. (i < n) × (is_exported o i ≡ true)) js → AllByRecursion (λ i. g (symbol_at o i).name ≡ m → (symbol_at o i).name ≡ (symbol_at o n).name) js
      each [] all = tt
      each (i ∷ js) all = (
        λ same. once (symbol_at o i).name (symbol_at o n).name (exported_named o f i (let low = all.0.0 in omega (arith, low, lt)) all.0.1) (exported_named o f n lt is) (same ∙ sym e),
        each js all.1,
      )

  -- of the exported symbols among the first n
  pub few : (n : ℕ) → n ≤ length o.symbols → (m : ℕ) → length (filter (has symbol_of m) (map (export_of o g) (exported_before o n))) ≤ 1
  few zero le m = omega arith
  few (suc n) le m = subst (λ (k : ℕ). length (filter (has symbol_of m) (map (export_of o g) (exported_before o k))) ≤ 1) (add-one n)
      (subst (λ (es : List Export). length es ≤ 1) (sym step) (from (is_exported o n) refl (has symbol_of m (export_of o g n)) refl (few n (omega (arith, le)) m)))
    where
      E : List Export
      E = filter (has symbol_of m) (map (export_of o g) (exported_before o n))

      last : Bool → List Export
      last b = filter (has symbol_of m) (map (export_of o g) (cond b (n ∷ []) []))

      step : filter (has symbol_of m) (map (export_of o g) (exported_before o (n + 1))) ≡ E ++ last (is_exported o n)
      step = ap (λ is. filter (has symbol_of m) (map (export_of o g) is)) (filter_more (is_exported o) n)
          ∙ ap (filter (has symbol_of m)) (map-append (export_of o g) (exported_before o n) (cond (is_exported o n) (n ∷ []) []))
          ∙ filter-append (has symbol_of m) (map (export_of o g) (exported_before o n)) (map (export_of o g) (cond (is_exported o n) (n ∷ []) []))

      from : (b : Bool) → is_exported o n ≡ b → (c : Bool) → has symbol_of m (export_of o g n) ≡ c → length E ≤ 1 → length (E ++ last b) ≤ 1
      from false p c q before = let long = length-append E (last false) in omega (arith, long, before)
      from true p false q before =
          let none : last true ≡ [] = ap (λ b. cond b (export_of o g n ∷ []) []) q in
          let long = length-append E (last true) in
          let short : length (last true) ≡ 0 = ap (λ (es : List Export). length es) none in
          omega (arith, long, short, before)
      from true p true q before =
          let one : last true ≡ export_of o g n ∷ [] = ap (λ b. cond b (export_of o g n ∷ []) []) q in
          let long = length-append E (last true) in
          let short : length (last true) ≡ 1 = ap (λ (es : List Export). length es) one in
          let none : length E ≡ 0 = ap (λ (es : List Export). length es) (none_before n m (omega (arith, le)) p (sym (export_symbol o g n) ∙ eqb-true (export_of o g n).symbol m q)) in
          omega (arith, long, short, none)

-- ---- and numbers that rise, each once, rise strictly

tail_few : (m : ℕ) (e : Export) (es : List Export) → length (filter (has symbol_of m) (e ∷ es)) ≤ 1 → length (filter (has symbol_of m) es) ≤ 1
tail_few m e es le = from (has symbol_of m e) le
  where
    from : (b : Bool) → length (cond b (e ∷ filter (has symbol_of m) es) (filter (has symbol_of m) es)) ≤ 1 → length (filter (has symbol_of m) es) ≤ 1
    from true le = omega (arith, le)
    from false le = le

pub rise_strictly : (low : ℕ) (es : List Export) → Rises symbol_of low es → ((m : ℕ) → length (filter (has symbol_of m) es) ≤ 1) → ExportsRise low es
rise_strictly low [] rise few = tt
rise_strictly low (e ∷ es) rise few = (rise.0, rise_strictly (e.symbol + 1) es (above es rise.1 (few e.symbol)) (λ m. tail_few m e es (few m)))
  where
    here : eqb e.symbol e.symbol ≡ true
    here = grind (arith, nat_tests)

    above : (xs : List Export) → Rises symbol_of e.symbol xs → length (filter (has symbol_of e.symbol) (e ∷ xs)) ≤ 1 → Rises symbol_of (e.symbol + 1) xs
    above [] r le = tt
    above (x ∷ xs) r le = (from (has symbol_of e.symbol x) refl, r.1)
      where
        first : filter (has symbol_of e.symbol) (e ∷ x ∷ xs) ≡ e ∷ filter (has symbol_of e.symbol) (x ∷ xs)
        first = ap (λ b. cond b (e ∷ filter (has symbol_of e.symbol) (x ∷ xs)) (filter (has symbol_of e.symbol) (x ∷ xs))) here

        from : (b : Bool) → has symbol_of e.symbol x ≡ b → e.symbol + 1 ≤ x.symbol
        from true p =
            let second : filter (has symbol_of e.symbol) (x ∷ xs) ≡ x ∷ filter (has symbol_of e.symbol) xs = ap (λ b. cond b (x ∷ filter (has symbol_of e.symbol) xs) (filter (has symbol_of e.symbol) xs)) p in
            let two : length (filter (has symbol_of e.symbol) (e ∷ x ∷ xs)) ≡ suc (suc (length (filter (has symbol_of e.symbol) xs))) = ap (λ (l : List Export). length l) first ∙ ap (λ (l : List Export). suc (length l)) second in
            absurd (omega (arith, le, two))
        from false p = let other : eqb x.symbol e.symbol ≡ false = p in let r0 = r.0 in grind (arith, nat_tests)

-- from a number on that each has
pub rises_above : (low : ℕ) (es : List Export) → AllByRecursion (λ e. low ≤ e.symbol) es → Rises symbol_of 0 es → Rises symbol_of low es
rises_above low [] all rise = tt
rises_above low (e ∷ es) all rise = (all.0, rise.1)
