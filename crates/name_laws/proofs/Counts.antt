-- How many different numbers and names a set has, and how many strong definitions.
use Rattle.std.proofs.Common.{◌≡◌, ℕ, ◌+◌, ◌≤◌, ◌⊎◌, Bool, true, false, min, None, List, [], ◌∷◌, ◌++◌, length, map, refl, sym, ap, subst, ◌∙◌, inl, inr, arith, eqb, leb, bytes_eq}
use Rattle.std.specs.Prelude.{not, ◌||◌}
use Rattle.std.specs.Option.{option_and_then}
use Rattle.std.specs.List.{filter, enumerate_from, list_any, fold, AllByRecursion}
use Rattle.std.specs.Cmp.Lexicographic.{bytes_decides}
use Rattle.std.proofs.lemmas.Bool.{cases_Bool, cases_lt, eqb-true, leb-false}
use Rattle.std.proofs.lemmas.Bool.Decides.{nat_tests}
use Rattle.std.proofs.lemmas.List.{length-map}
use Rattle.avr_elf.specs.Object.{Object}
use Rattle.component_package.specs.declared.part.Export.{Export}
use Rattle.component_package.specs.packages.Component.{Component}
use Rattle.component_package.specs.link.Link.{exports_of, is_strong_export_of, symbols_of, distinct, strong_exporters, least_of, first_two, duplicate_cause}
use Rattle.object_packer.specs.Names.{exported, each_once}
use Rattle.object_packer.specs.Packed.{export_of, packed_exports}
use Rattle.object_packer.proofs.Sorting.{all_sorted}
use Rattle.object_packer.proofs.Elements.{all_in, all_filter}
use Rattle.object_packer.proofs.Exports.{any_filter}
use Rattle.object_packer.proofs.Numbered.{occurs, symbol_of}
use Rattle.name_laws.specs.NameImage.{Definition, definition_in, definitions, defines_strongly}
use Rattle.name_laws.specs.Laws.{ArePackable, is_named, IsNumbering}
use Rattle.name_laws.proofs.Lists.{filter_map, filter_and, filter_alike, all_flat, flat_all, all_map, map_all, all_so, all_with, all_of, unsorted}
use Rattle.name_laws.proofs.Defined.{definitions_named, exports_packed, as_export, as_exports, has_number, of_number, number_is, same_name, all_define_strongly}

-- ---- numbers, each once

abbrev pub is_among : ℕ → List ℕ → Bool
is_among u ss = list_any (λ t. eqb t u) ss

-- the others
abbrev without : ℕ → List ℕ → List ℕ
without u ss = filter (λ t. not (eqb t u)) ss

without_none : (u : ℕ) (ss : List ℕ) → is_among u ss ≡ false → without u ss ≡ ss
without_none u [] e = refl
without_none u (s ∷ ss) e =
    elim (cases_Bool (eqb s u)) [
      | inl hit ↦ absurd (let f = rw hit at e in cc)
      | inr miss ↦ rw miss (ap (λ (ts : List ℕ). s ∷ ts) (without_none u ss (rw miss at e)))
    ]

differ_back : (m n : ℕ) → eqb m n ≡ false → eqb n m ≡ false
differ_back m n e = grind arith

without_other : (u s : ℕ) (ss : List ℕ) → eqb s u ≡ false → is_among s (without u ss) ≡ is_among s ss
without_other u s [] e = refl
without_other u s (t ∷ ts) e =
    elim (cases_Bool (eqb t u)) [
      | inl hit ↦
          let other : eqb t s ≡ false = subst (λ n. eqb n s ≡ false) (sym (eqb-true t u hit)) (differ_back s u e) in
          rw (hit, other) (without_other u s ts e)
      | inr miss ↦ rw miss (ap (λ b. eqb t s || b) (without_other u s ts e))
    ]

-- without a number that is there, there is one different number fewer
fewer : (u : ℕ) (ss : List ℕ) → is_among u ss ≡ true → length (distinct (without u ss)) + 1 ≡ length (distinct ss)
fewer u [] e = absurd cc
fewer u (s ∷ ss) e =
    elim (cases_Bool (eqb s u)) [
      | inl hit ↦ let same : s ≡ u = eqb-true s u hit in
          elim (cases_Bool (is_among u ss)) [
            | inl there ↦ let old : is_among s ss ≡ true = subst (λ n. is_among n ss ≡ true) (sym same) there in rw (hit, old) (fewer u ss there)
            | inr gone ↦ let new : is_among s ss ≡ false = subst (λ n. is_among n ss ≡ false) (sym same) gone in rw (hit, new, without_none u ss gone) (omega arith)
          ]
      | inr miss ↦
          let rest = fewer u ss (rw miss at e) in
          let kept = without_other u s ss miss in
          elim (cases_Bool (is_among s ss)) [
            | inl old ↦ rw (miss, kept, old) rest
            | inr new ↦ rw (miss, kept, new) (omega (arith, rest))
          ]
    ]

-- no number comes twice
abbrev Fresh : List ℕ → Type 0
Fresh [] = Unit {0}
Fresh (u ∷ us) = AllByRecursion (λ t. eqb t u ≡ false) us × Fresh us

-- different numbers of a list are no more than it has
no_more : (us ss : List ℕ) → Fresh us → AllByRecursion (λ u. is_among u ss ≡ true) us → length us ≤ length (distinct ss)
no_more [] ss fresh all = omega arith
no_more (u ∷ us) ss fresh all =
    let rest = no_more us (without u ss) fresh.1
    (all_with (λ t. eqb t u ≡ false) (λ t. is_among t ss ≡ true) (λ t. is_among t (without u ss) ≡ true) us (λ t other is. without_other u t ss other ∙ is) fresh.0 all.1) in
    omega (arith, rest, fewer u ss all.0)

all_distinct : (P : ℕ → Type 0) (ss : List ℕ) → AllByRecursion P ss → AllByRecursion P (distinct ss)
all_distinct P [] all = tt
all_distinct P (s ∷ ss) all = elim (cases_Bool (is_among s ss)) [ inl e ↦ rw e (all_distinct P ss all.1) | inr e ↦ rw e (all.0, all_distinct P ss all.1) ]

none_among : (s : ℕ) (ss : List ℕ) → is_among s ss ≡ false → AllByRecursion (λ t. eqb t s ≡ false) ss
none_among s [] e = tt
none_among s (t ∷ ss) e = elim (cases_Bool (eqb t s)) [ inl hit ↦ absurd (let f = rw hit at e in cc) | inr miss ↦ (miss, none_among s ss (rw miss at e)) ]

distinct_fresh : (ss : List ℕ) → Fresh (distinct ss)
distinct_fresh [] = tt
distinct_fresh (s ∷ ss) =
    elim (cases_Bool (is_among s ss)) [ inl e ↦ rw e (distinct_fresh ss) | inr e ↦ rw e (all_distinct (λ t. eqb t s ≡ false) ss (none_among s ss e), distinct_fresh ss) ]

distinct_short : (ss : List ℕ) → length (distinct ss) ≤ length ss
distinct_short [] = omega arith
distinct_short (s ∷ ss) = let rest = distinct_short ss in elim (cases_Bool (is_among s ss)) [ inl e ↦ rw e (omega (arith, rest)) | inr e ↦ rw e (omega (arith, rest)) ]

-- ---- names, each once

all_once : (P : List ℕ → Type 0) (ns : List (List ℕ)) → AllByRecursion P ns → AllByRecursion P (each_once ns)
all_once P [] all = tt
all_once P (n ∷ ns) all = (all.0, all_filter P (λ m. not (bytes_eq m n)) (each_once ns) (all_so P (λ m. not (bytes_eq m n) ≡ true → P m) (each_once ns) (λ m p e. p) (all_once P ns all.1)))

fresh_filter : (f : List ℕ → ℕ) (p : List ℕ → Bool) (ns : List (List ℕ)) → Fresh (map f ns) → Fresh (map f (filter p ns))
fresh_filter f p [] fresh = tt
fresh_filter f p (n ∷ ns) fresh =
    let rest = fresh_filter f p ns fresh.1 in
    let others = all_map (λ t. eqb t (f n) ≡ false) f (filter p ns)
    (all_filter (λ m. eqb (f m) (f n) ≡ false) p ns (all_so (λ m. eqb (f m) (f n) ≡ false) (λ m. p m ≡ true → eqb (f m) (f n) ≡ false) ns (λ m e t. e) (map_all (λ t. eqb t (f n) ≡ false) f ns fresh.0))) in
    elim (cases_Bool (p n)) [ inl e ↦ rw e (others, rest) | inr e ↦ rw e rest ]

off : (b : Bool) → not b ≡ true → b ≡ false
off true e = absurd cc
off false e = refl

or_back : (a b : Bool) → b ≡ true → (a || b) ≡ true
or_back true b e = refl
or_back false b e = e

any_once : (x : List ℕ) (ns : List (List ℕ)) → occurs x ns ≡ true → occurs x (each_once ns) ≡ true
any_once x [] e = absurd cc
any_once x (n ∷ ns) e =
    elim (cases_Bool (bytes_eq n x)) [
      | inl hit ↦ ap (λ b. b || occurs x (filter (λ m. not (bytes_eq m n)) (each_once ns))) hit
      | inr miss ↦ or_back (bytes_eq n x) _ (any_filter n x (each_once ns) miss ∙ any_once x ns (rw miss at e))
    ]

number_among : (f : List ℕ → ℕ) (x : List ℕ) (ns : List (List ℕ)) → occurs x ns ≡ true → is_among (f x) (map f ns) ≡ true
number_among f x [] e = absurd cc
number_among f x (n ∷ ns) e =
    elim (cases_Bool (bytes_eq n x)) [
      | inl hit ↦ let same : f n ≡ f x = ap f ((bytes_decides n x).0 hit) in let here : eqb (f n) (f x) ≡ true = grind (arith, nat_tests) in rw here refl
      | inr miss ↦ or_back (eqb (f n) (f x)) (is_among (f x) (map f ns)) (number_among f x ns (rw miss at e))
    ]

itself_after : (front ns : List (List ℕ)) (n : List ℕ) → occurs n (front ++ n ∷ ns) ≡ true
itself_after [] ns n = ap (λ b. b || occurs n ns) ((bytes_decides n n).1 refl)
itself_after (m ∷ front) ns n = or_back (bytes_eq m n) (occurs n (front ++ n ∷ ns)) (itself_after front ns n)

regroup : (front ns : List (List ℕ)) (n : List ℕ) → (front ++ n ∷ []) ++ ns ≡ front ++ n ∷ ns
regroup [] ns n = refl
regroup (m ∷ front) ns n = ap (λ xs. m ∷ xs) (regroup front ns n)

all_occur : (front ns : List (List ℕ)) → AllByRecursion (λ n. occurs n (front ++ ns) ≡ true) ns
all_occur front [] = tt
all_occur front (n ∷ ns) = (itself_after front ns n, subst (λ (xs : List (List ℕ)). AllByRecursion (λ m. occurs m xs ≡ true) ns) (regroup front ns n) (all_occur (front ++ n ∷ []) ns))

module _ (os : List Object) (f : List ℕ → ℕ) (packable : ArePackable os) (numbers : IsNumbering os f) where
  once_fresh : (ns : List (List ℕ)) → AllByRecursion (λ n. is_named os n ≡ true) ns → Fresh (map f (each_once ns))
  once_fresh [] named = tt
  once_fresh (n ∷ ns) named = (
    all_map (λ t. eqb t (f n) ≡ false) f (filter (λ m. not (bytes_eq m n)) (each_once ns))
        (all_filter (λ m. eqb (f m) (f n) ≡ false) (λ m. not (bytes_eq m n)) (each_once ns)
        (all_so (λ m. is_named os m ≡ true) (λ m. not (bytes_eq m n) ≡ true → eqb (f m) (f n) ≡ false) (each_once ns)
        (λ m is other. same_name os f packable numbers m n is named.0 ∙ off (bytes_eq m n) other) (all_once (λ m. is_named os m ≡ true) ns named.1))),
    fresh_filter f (λ m. not (bytes_eq m n)) (each_once ns) (once_fresh ns named.1),
  )

  -- as many different numbers as names
  pub same_count : (ns : List (List ℕ)) (ss : List ℕ) → AllByRecursion (λ n. is_named os n ≡ true) ns
      → ((P : ℕ → Type 0) → AllByRecursion P ss → AllByRecursion (λ n. P (f n)) ns) → ((P : ℕ → Type 0) → AllByRecursion (λ n. P (f n)) ns → AllByRecursion P ss)
      → length (distinct ss) ≡ length (each_once ns)
  same_count ns ss named forth back =
      let us = map f (each_once ns) in
      let long : length us ≡ length (each_once ns) = length-map (each_once ns) f in
      let a : length us ≤ length (distinct ss) = no_more us ss (once_fresh ns named)
      (all_map (λ u. is_among u ss ≡ true) f (each_once ns) (all_once (λ n. is_among (f n) ss ≡ true) ns (forth (λ u. is_among u ss ≡ true) (all_in (λ (n : ℕ). n) [] ss)))) in
      let b : length (distinct ss) ≤ length (distinct us) = no_more (distinct ss) us (distinct_fresh ss)
      (all_distinct (λ u. is_among u us ≡ true) ss (back (λ u. is_among u us ≡ true)
      (all_so (λ n. occurs n ns ≡ true) (λ n. is_among (f n) us ≡ true) ns (λ n is. number_among f n (each_once ns) (any_once n ns is)) (all_occur [] ns)))) in
      omega (arith, long, a, b, distinct_short us)

  module _ (set : List Component) (exports : exports_of set ≡ exports_packed f (enumerate_from 0 os)) where
    -- ---- what holds of all numbers of exports

    symbols_definitions : (P : ℕ → Type 0) → AllByRecursion P (symbols_of set) → AllByRecursion (λ d. P (f d.symbol.name)) (definitions os)
    symbols_definitions P all =
        let cs = enumerate_from 0 os in
        let each = map_all P (λ (x : ℕ × Export). x.1.symbol) (exports_of set) all in
        let packed = subst (λ (xs : List (ℕ × Export)). AllByRecursion (λ (x : ℕ × Export). P x.1.symbol) xs) exports each in
        all_flat (λ d. P (f d.symbol.name)) (λ (c : ℕ × Object). map (definition_in c.0 c.1) (exported c.1)) cs
        (all_so (λ (c : ℕ × Object). AllByRecursion (λ (x : ℕ × Export). P x.1.symbol) (map (λ (e : Export). (c.0, e)) (packed_exports c.1 f)))
        (λ (c : ℕ × Object). AllByRecursion (λ d. P (f d.symbol.name)) (map (definition_in c.0 c.1) (exported c.1))) cs
        (λ c here.
        let sorted = map_all (λ (x : ℕ × Export). P x.1.symbol) (λ (e : Export). (c.0, e)) (packed_exports c.1 f) here in
        let plain = unsorted symbol_of (λ e. P e.symbol) (map (export_of c.1 f) (exported c.1)) sorted in
        let paired = all_map (λ (x : ℕ × Export). P x.1.symbol) (λ (e : Export). (c.0, e)) (map (export_of c.1 f) (exported c.1)) plain in
        let defined = subst (λ (xs : List (ℕ × Export)). AllByRecursion (λ (x : ℕ × Export). P x.1.symbol) xs) (as_exports f c.0 c.1 (exported c.1)) paired in
        all_so (λ (d : Definition). P (as_export f d).1.symbol) (λ (d : Definition). P (f d.symbol.name)) (map (definition_in c.0 c.1) (exported c.1))
        (λ d p. subst P (number_is (f d.symbol.name) d.symbol d.start) p) (map_all (λ (x : ℕ × Export). P x.1.symbol) (as_export f) (map (definition_in c.0 c.1) (exported c.1)) defined))
        (flat_all (λ (x : ℕ × Export). P x.1.symbol) (λ (c : ℕ × Object). map (λ (e : Export). (c.0, e)) (packed_exports c.1 f)) cs packed))

    definitions_symbols : (P : ℕ → Type 0) → AllByRecursion (λ d. P (f d.symbol.name)) (definitions os) → AllByRecursion P (symbols_of set)
    definitions_symbols P all =
        let cs = enumerate_from 0 os in
        all_map P (λ (x : ℕ × Export). x.1.symbol) (exports_of set)
        (subst (λ (xs : List (ℕ × Export)). AllByRecursion (λ (x : ℕ × Export). P x.1.symbol) xs) (sym exports)
        (all_flat (λ (x : ℕ × Export). P x.1.symbol) (λ (c : ℕ × Object). map (λ (e : Export). (c.0, e)) (packed_exports c.1 f)) cs
        (all_so (λ (c : ℕ × Object). AllByRecursion (λ d. P (f d.symbol.name)) (map (definition_in c.0 c.1) (exported c.1)))
        (λ (c : ℕ × Object). AllByRecursion (λ (x : ℕ × Export). P x.1.symbol) (map (λ (e : Export). (c.0, e)) (packed_exports c.1 f))) cs
        (λ c here.
        let made = all_map (λ (x : ℕ × Export). P x.1.symbol) (as_export f) (map (definition_in c.0 c.1) (exported c.1))
        (all_so (λ (d : Definition). P (f d.symbol.name)) (λ (d : Definition). P (as_export f d).1.symbol) (map (definition_in c.0 c.1) (exported c.1)) (λ d p. subst P (sym (number_is (f d.symbol.name) d.symbol d.start)) p) here) in
        let paired = subst (λ (xs : List (ℕ × Export)). AllByRecursion (λ (x : ℕ × Export). P x.1.symbol) xs) (sym (as_exports f c.0 c.1 (exported c.1))) made in
        let plain = map_all (λ (x : ℕ × Export). P x.1.symbol) (λ (e : Export). (c.0, e)) (map (export_of c.1 f) (exported c.1)) paired in
        all_map (λ (x : ℕ × Export). P x.1.symbol) (λ (e : Export). (c.0, e)) (packed_exports c.1 f) (all_sorted symbol_of (λ e. P e.symbol) (map (export_of c.1 f) (exported c.1)) plain))
        (flat_all (λ d. P (f d.symbol.name)) (λ (c : ℕ × Object). map (definition_in c.0 c.1) (exported c.1)) cs all))))

    -- different numbers are as many as different names
    pub count_is : length (distinct (symbols_of set)) ≡ length (each_once (map (λ (d : Definition). d.symbol.name) (definitions os)))
    count_is =
        let name = λ (d : Definition). d.symbol.name in
        same_count (map name (definitions os)) (symbols_of set) (all_map (λ n. is_named os n ≡ true) name (definitions os) (definitions_named os packable))
        (λ P all. all_map (λ n. P (f n)) name (definitions os) (symbols_definitions P all))
        (λ P all. definitions_symbols P (map_all (λ n. P (f n)) name (definitions os) all))

    -- ---- strong definitions

    strong_count : (name : List ℕ) → is_named os name ≡ true → length (strong_exporters set (f name)) ≡ length (filter (defines_strongly name) (definitions os))
    strong_count name is =
        let strong = λ (x : ℕ × Export). not x.1.weak in
        length-map (filter (is_strong_export_of (f name)) (exports_of set)) (λ (x : ℕ × Export). x.0)
        ∙ ap (λ (xs : List (ℕ × Export)). length xs)
        (ap (filter (is_strong_export_of (f name))) exports ∙ filter_and (has_number (f name)) strong (exports_packed f (enumerate_from 0 os)) ∙ ap (filter strong) (of_number f os (f name))
        ∙ sym (filter_and (has_number (f name)) strong (map (as_export f) (definitions os))) ∙ filter_map (is_strong_export_of (f name)) (as_export f) (definitions os))
        ∙ length-map (filter (λ d. is_strong_export_of (f name) (as_export f d)) (definitions os)) (as_export f)
        ∙ ap (λ (xs : List Definition). length xs) (filter_alike (λ d. is_strong_export_of (f name) (as_export f d)) (defines_strongly name) (definitions os) (all_define_strongly os f packable numbers name is))

    -- a name with no definition has none, and another is some definition's
    some_name : (Q : List ℕ → Type 0) (name : List ℕ) (ds : List Definition) → AllByRecursion (λ d. Q d.symbol.name) ds → Q name ⊎ (filter (defines_strongly name) ds ≡ [])
    some_name Q name [] all = inr refl
    some_name Q name (d ∷ ds) all =
        elim (cases_Bool (bytes_eq d.symbol.name name)) [
          | inl hit ↦ inl (subst Q ((bytes_decides d.symbol.name name).0 hit) all.0)
          | inr miss ↦ elim (some_name Q name ds all.1) [ inl q ↦ inl q | inr none ↦ inr (rw miss none) ]
        ]

    few_strong : (n k : ℕ) → n ≡ k → leb 2 n ≡ false → k ≤ 1
    few_strong n k same e = omega (arith, same, leb-false 2 n e)

    not_two : (n k : ℕ) → n ≡ k → k ≤ 1 → leb 2 n ≡ false
    not_two n k same le = grind (arith, nat_tests)

    -- the least of numbers that pass a test passes it
    least : (P : ℕ → Type 0) (a : ℕ) (xs : List ℕ) → P a → AllByRecursion P xs → P (fold min a xs)
    least P a [] p all = p
    least P a (x ∷ xs) p all =
        least P (min a x) xs (elim (cases_lt a x) [
          | inl lt ↦ let same : a ≡ min a x = omega (arith, lt) in subst P same p
          | inr le ↦ let same : x ≡ min a x = omega (arith, le) in subst P same all.0
        ]) all.1

    all_pass : (p : ℕ → Bool) (xs : List ℕ) → AllByRecursion (λ x. p x ≡ true) (filter p xs)
    all_pass p xs = all_filter (λ x. p x ≡ true) p xs (all_of (λ x. p x ≡ true → p x ≡ true) xs (λ x e. e))

    two : (s : ℕ) (is : List ℕ) → leb 2 (length is) ≡ true → first_two s is ≡ None → ⊥
    two s [] e none = absurd cc
    two s (i ∷ []) e none = absurd cc
    two s (i ∷ j ∷ is) e none = absurd cc

    no_double : (fs : List ℕ) → AllByRecursion (λ s. leb 2 (length (strong_exporters set s)) ≡ true) fs → option_and_then (λ s. first_two s (strong_exporters set s)) (least_of fs) ≡ None → fs ≡ []
    no_double [] all none = refl
    no_double (s ∷ fs) all none =
        absurd (two (fold min s fs) (strong_exporters set (fold min s fs)) (least (λ s. leb 2 (length (strong_exporters set s)) ≡ true) s fs all.0 all.1) none)

    empty_none : (p : ℕ → Bool) (xs : List ℕ) → filter p xs ≡ [] → AllByRecursion (λ x. p x ≡ false) xs
    empty_none p [] e = tt
    empty_none p (x ∷ xs) e = elim (cases_Bool (p x)) [ inl hit ↦ absurd (let g = rw hit at e in cc) | inr miss ↦ (miss, empty_none p xs (rw miss at e)) ]

    none_empty : (p : ℕ → Bool) (xs : List ℕ) → AllByRecursion (λ x. p x ≡ false) xs → filter p xs ≡ []
    none_empty p [] all = refl
    none_empty p (x ∷ xs) all = rw all.0 (none_empty p xs all.1)

    -- no number has two strong exporters: no name has two strong definitions
    pub one_strong : duplicate_cause set ≡ None → (name : List ℕ) → length (filter (defines_strongly name) (definitions os)) ≤ 1
    one_strong none name =
        let test = λ (s : ℕ). leb 2 (length (strong_exporters set s)) in
        let numbers_few = empty_none test (symbols_of set) (no_double (filter test (symbols_of set)) (all_pass test (symbols_of set)) none) in
        let names_few = all_with (λ (d : Definition). leb 2 (length (strong_exporters set (f d.symbol.name))) ≡ false) (λ (d : Definition). is_named os d.symbol.name ≡ true)
        (λ (d : Definition). length (filter (defines_strongly d.symbol.name) (definitions os)) ≤ 1) (definitions os)
        (λ d e is. few_strong (length (strong_exporters set (f d.symbol.name))) (length (filter (defines_strongly d.symbol.name) (definitions os))) (strong_count d.symbol.name is) e)
        (symbols_definitions (λ s. leb 2 (length (strong_exporters set s)) ≡ false) numbers_few) (definitions_named os packable) in
        elim (some_name (λ n. length (filter (defines_strongly n) (definitions os)) ≤ 1) name (definitions os) names_few) [
          | inl le ↦ le
          | inr none ↦ let gone : length (filter (defines_strongly name) (definitions os)) ≡ 0 = ap (λ (ds : List Definition). length ds) none in omega (arith, gone)
        ]

    -- and back
    pub no_duplicate : ((name : List ℕ) → length (filter (defines_strongly name) (definitions os)) ≤ 1) → duplicate_cause set ≡ None
    no_duplicate one =
        let test = λ (s : ℕ). leb 2 (length (strong_exporters set s)) in
        let names_few = all_so (λ (d : Definition). is_named os d.symbol.name ≡ true) (λ (d : Definition). leb 2 (length (strong_exporters set (f d.symbol.name))) ≡ false) (definitions os)
        (λ d is. not_two (length (strong_exporters set (f d.symbol.name))) (length (filter (defines_strongly d.symbol.name) (definitions os))) (strong_count d.symbol.name is) (one d.symbol.name))
        (definitions_named os packable) in
        ap (λ fs. option_and_then (λ s. first_two s (strong_exporters set s)) (least_of fs))
        (none_empty test (symbols_of set) (definitions_symbols (λ s. leb 2 (length (strong_exporters set s)) ≡ false) names_few))
