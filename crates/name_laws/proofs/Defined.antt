-- The address of a number is the address of its name.
use Rattle.std.proofs.Common.{◌≡◌, ℕ, ◌+◌, ◌<◌, Bool, true, false, Option, Some, None, List, [], ◌∷◌, ◌++◌, length, map, refl, sym, ap, subst, ◌∙◌, inl, inr, arith, eqb, bytes_eq}
use Rattle.std.specs.Prelude.{not, ◌&&◌, ◌||◌}
use Rattle.std.specs.Option.{option_or, option_map}
use Rattle.std.specs.List.{filter, find, flat_map, enumerate_from, AllByRecursion}
use Rattle.std.specs.Cmp.Lexicographic.{bytes_decides}
use Rattle.std.proofs.lemmas.Bool.{cases_Bool, eqb-true}
use Rattle.std.proofs.lemmas.Bool.Decides.{nat_tests}
use Rattle.avr_elf.specs.Object.{SymbolParts, Object}
use Rattle.avr_elf.specs.WellFormed.{IsWellFormed}
use Rattle.component_package.specs.declared.part.Place.{Place}
use Rattle.component_package.specs.declared.part.Place.TheVariants as places
use Rattle.component_package.specs.declared.part.Export.{Export}
use Rattle.component_package.specs.packages.Component.{Component}
use Rattle.component_package.specs.link.Layout.{Room, code_base, ram_base, bss_base}
use Rattle.component_package.specs.link.Link.{rooms_of, exports_of, is_strong_export_of, base_of_place, address_of}
use Rattle.object_packer.specs.Sections.{symbol_at}
use Rattle.object_packer.specs.References.{is_weak, symbol_home}
use Rattle.object_packer.specs.Names.{is_exported, exported, names}
use Rattle.object_packer.specs.Faults.{pack_fault}
use Rattle.object_packer.specs.Packed.{export_at, export_of, packed_exports}
use Rattle.object_packer.proofs.Sorting.{sorted_keeps}
use Rattle.object_packer.proofs.Sound.{faultless, exported_are}
use Rattle.object_packer.proofs.Numbered.{occurs, exported_named, symbol_of}
use Rattle.name_laws.specs.NameImage.{Start, base_in, Definition, definition_in, definitions, address_at, address_of_definition, defines, defines_strongly, address_of_name, rooms_of_objects}
use Rattle.name_laws.specs.Laws.{ArePackable, is_named, IsNumbering}
use Rattle.name_laws.proofs.Types.{Home}
use Rattle.name_laws.proofs.Lists.{find_map, find_and, find_first, find_same, filter_map, filter_flat, map_flat, flat_same, all_flat, all_map, all_so, all_of, all_numbered, or_map, map_choice}

-- ---- objects of a set

-- an object of the set can be packed, and its names are the set's
pub record IsIn (os : List Object) (o : Object) : Type 0 where
  pub sound : IsWellFormed o
  pub faultless : pack_fault o ≡ None
  pub named : (name : List ℕ) → occurs name (names o) ≡ true → is_named os name ≡ true

or_after : (a b : Bool) → b ≡ true → (a || b) ≡ true
or_after true b e = refl
or_after false b e = e

in_joined : (front os : List Object) (o : Object) (name : List ℕ) → occurs name (names o) ≡ true → is_named (front ++ o ∷ os) name ≡ true
in_joined [] os o name is = ap (λ b. b || is_named os name) is
in_joined (x ∷ front) os o name is = or_after (occurs name (names x)) (is_named (front ++ o ∷ os) name) (in_joined front os o name is)

regroup : (front os : List Object) (o : Object) → (front ++ o ∷ []) ++ os ≡ front ++ o ∷ os
regroup [] os o = refl
regroup (x ∷ front) os o = ap (λ xs. x ∷ xs) (regroup front os o)

all_from : (front os : List Object) → ArePackable os → AllByRecursion (IsIn (front ++ os)) os
all_from front [] all = tt
all_from front (o ∷ os) all = (
  record { sound = all.0.0; faultless = all.0.1; named = in_joined front os o },
  subst (λ (xs : List Object). AllByRecursion (IsIn xs) os) (regroup front os o) (all_from (front ++ o ∷ []) os all.1),
)

pub all_in_set : (os : List Object) → ArePackable os → AllByRecursion (IsIn os) os
all_in_set os all = all_from [] os all

-- each definition has a name of the set's
pub definitions_named : (os : List Object) → ArePackable os → AllByRecursion (λ d. is_named os d.symbol.name ≡ true) (definitions os)
definitions_named os all =
    all_flat (λ d. is_named os d.symbol.name ≡ true) (λ (c : ℕ × Object). map (definition_in c.0 c.1) (exported c.1)) (enumerate_from 0 os)
    (all_so (λ (c : ℕ × Object). IsIn os c.1) (λ (c : ℕ × Object). AllByRecursion (λ d. is_named os d.symbol.name ≡ true) (map (definition_in c.0 c.1) (exported c.1))) (enumerate_from 0 os)
    (λ c is. all_map (λ d. is_named os d.symbol.name ≡ true) (definition_in c.0 c.1) (exported c.1)
    (all_so (λ i. (i < length c.1.symbols) × (is_exported c.1 i ≡ true)) (λ i. is_named os (symbol_at c.1 i).name ≡ true) (exported c.1)
    (λ i e. is.named (symbol_at c.1 i).name (exported_named c.1 (faultless c.1 is.faultless) i e.0 e.1)) (exported_are c.1 (length c.1.symbols))))
    (all_numbered (IsIn os) 0 os (all_in_set os all)))

-- ---- exports

-- the exports of packages
abbrev pub exports_packed : (List ℕ → ℕ) → List (ℕ × Object) → List (ℕ × Export)
exports_packed f cs = flat_map (λ c. map (λ e. (c.0, e)) (packed_exports c.1 f)) cs

-- an export of a symbol with a number
abbrev pub export_with : ℕ → SymbolParts → Option Start → Export
export_with n s None = record { symbol = n; place = places.Absolute; weak = is_weak s; value = s.value }
export_with n s (Some start) = record { symbol = n; place = start.part; weak = is_weak s; value = start.offset + s.value }

-- a definition as an export
abbrev pub as_export : (List ℕ → ℕ) → Definition → ℕ × Export
as_export f d = (d.object, export_with (f d.symbol.name) d.symbol d.start)

abbrev pub has_number : ℕ → (ℕ × Export) → Bool
has_number s x = eqb x.1.symbol s

unsorted_exports : (f : List ℕ → ℕ) → (c : ℕ × Object) → List (ℕ × Export)
unsorted_exports f c = map (λ e. (c.0, e)) (map (export_of c.1 f) (exported c.1))

-- one object's exports of a number, sorted or not
same_number : (f : List ℕ → ℕ) (s : ℕ) (c : ℕ × Object) → filter (has_number s) (map (λ e. (c.0, e)) (packed_exports c.1 f)) ≡ filter (has_number s) (unsorted_exports f c)
unfolding unsorted_exports
same_number f s c =
    filter_map (has_number s) (λ e. (c.0, e)) (packed_exports c.1 f) ∙ ap (λ es. map (λ (e : Export). (c.0, e)) es) (sorted_keeps symbol_of s (map (export_of c.1 f) (exported c.1)))
    ∙ sym (filter_map (has_number s) (λ e. (c.0, e)) (map (export_of c.1 f) (exported c.1)))

-- a packed export is that of the symbol's start
same_export : (n : ℕ) (s : SymbolParts) (h : Option Home) → export_at n s h ≡ export_with n s (option_map (λ home. record { part = home.place; offset = home.start }) h)
same_export n s None = refl
same_export n s (Some home) = refl

-- one object's definitions as exports
pub as_exports : (f : List ℕ → ℕ) (k : ℕ) (o : Object) (is : List ℕ) → map (λ e. (k, e)) (map (export_of o f) is) ≡ map (as_export f) (map (definition_in k o) is)
as_exports f k o [] = refl
as_exports f k o (i ∷ is) =
    ap (λ e. (k, e) ∷ map (λ e. (k, e)) (map (export_of o f) is)) (same_export (f (symbol_at o i).name) (symbol_at o i) (symbol_home o (symbol_at o i)))
    ∙ ap (λ es. as_export f (definition_in k o i) ∷ es) (as_exports f k o is)

-- those of a number are definitions
pub of_number : (f : List ℕ → ℕ) (os : List Object) (s : ℕ) → filter (has_number s) (exports_packed f (enumerate_from 0 os)) ≡ filter (has_number s) (map (as_export f) (definitions os))
unfolding unsorted_exports
of_number f os s =
    let cs = enumerate_from 0 os in
    let sorted = λ (c : ℕ × Object). map (λ (e : Export). (c.0, e)) (packed_exports c.1 f) in
    filter_flat (has_number s) sorted cs
    ∙ flat_same (λ c. filter (has_number s) (sorted c)) (λ c. filter (has_number s) (unsorted_exports f c)) cs
    (all_of (λ c. filter (has_number s) (sorted c) ≡ filter (has_number s) (unsorted_exports f c)) cs (same_number f s))
    ∙ sym (filter_flat (has_number s) (unsorted_exports f) cs)
    ∙ ap (filter (has_number s)) (flat_same (unsorted_exports f) (λ c. map (as_export f) (map (definition_in c.0 c.1) (exported c.1))) cs
    (all_of (λ c. unsorted_exports f c ≡ map (as_export f) (map (definition_in c.0 c.1) (exported c.1))) cs (λ c. as_exports f c.0 c.1 (exported c.1))))
    ∙ ap (filter (has_number s)) (sym (map_flat (as_export f) (λ (c : ℕ × Object). map (definition_in c.0 c.1) (exported c.1)) cs))

pub number_is : (n : ℕ) (s : SymbolParts) (h : Option Start) → (export_with n s h).symbol ≡ n
number_is n s None = refl
number_is n s (Some start) = refl

weak_is : (n : ℕ) (s : SymbolParts) (h : Option Start) → (export_with n s h).weak ≡ is_weak s
weak_is n s None = refl
weak_is n s (Some start) = refl

-- ---- numbers and names

module _ (os : List Object) (f : List ℕ → ℕ) (packable : ArePackable os) (numbers : IsNumbering os f) where
  -- two names are one exactly where their numbers are
  pub same_name : (a b : List ℕ) → is_named os a ≡ true → is_named os b ≡ true → eqb (f a) (f b) ≡ bytes_eq a b
  same_name a b is_a is_b =
      elim (cases_Bool (bytes_eq a b)) [
        | inl e ↦ let same : f a ≡ f b = ap f ((bytes_decides a b).0 e) in let hit : eqb (f a) (f b) ≡ true = grind (arith, nat_tests) in hit ∙ sym e
        | inr e ↦ elim (cases_Bool (eqb (f a) (f b))) [
          | inl hit ↦ absurd (let t = (bytes_decides a b).1 (numbers.once a b is_a is_b (eqb-true (f a) (f b) hit)) in cc)
          | inr miss ↦ miss ∙ sym e
        ]
      ]

  -- a definition's number is that of a name exactly where it defines the name
  number_defines : (name : List ℕ) → is_named os name ≡ true → (d : Definition) → is_named os d.symbol.name ≡ true → has_number (f name) (as_export f d) ≡ defines name d
  number_defines name is d is_d = ap (λ n. eqb n (f name)) (number_is (f d.symbol.name) d.symbol d.start) ∙ same_name d.symbol.name name is_d is

  pub all_define : (name : List ℕ) → is_named os name ≡ true → AllByRecursion (λ d. has_number (f name) (as_export f d) ≡ defines name d) (definitions os)
  all_define name is = all_so (λ d. is_named os d.symbol.name ≡ true) (λ d. has_number (f name) (as_export f d) ≡ defines name d) (definitions os) (number_defines name is) (definitions_named os packable)

  pub all_define_strongly : (name : List ℕ) → is_named os name ≡ true → AllByRecursion (λ d. is_strong_export_of (f name) (as_export f d) ≡ defines_strongly name d) (definitions os)
  all_define_strongly name is =
      all_so (λ d. is_named os d.symbol.name ≡ true) (λ d. is_strong_export_of (f name) (as_export f d) ≡ defines_strongly name d) (definitions os)
      (λ d e. ap (λ b. b && not (as_export f d).1.weak) (number_defines name is d e) ∙ ap (λ b. defines name d && not b) (weak_is (f d.symbol.name) d.symbol d.start)) (definitions_named os packable)

  module _ (set : List Component) (rooms : rooms_of set ≡ rooms_of_objects os) (exports : exports_of set ≡ exports_packed f (enumerate_from 0 os)) where
    -- what is found by a number is found by its name
    found_any : (name : List ℕ) → is_named os name ≡ true → find (has_number (f name)) (exports_of set) ≡ option_map (as_export f) (find (defines name) (definitions os))
    found_any name is =
        ap (find (has_number (f name))) exports ∙ find_first (has_number (f name)) (exports_packed f (enumerate_from 0 os)) ∙ ap (find (λ x. true)) (of_number f os (f name))
        ∙ sym (find_first (has_number (f name)) (map (as_export f) (definitions os))) ∙ find_map (has_number (f name)) (as_export f) (definitions os)
        ∙ ap (option_map (as_export f)) (find_same (λ d. has_number (f name) (as_export f d)) (defines name) (definitions os) (all_define name is))

    found_strong : (name : List ℕ) → is_named os name ≡ true → find (is_strong_export_of (f name)) (exports_of set) ≡ option_map (as_export f) (find (defines_strongly name) (definitions os))
    found_strong name is =
        let strong = λ (x : ℕ × Export). not x.1.weak in
        ap (find (is_strong_export_of (f name))) exports ∙ find_and (has_number (f name)) strong (exports_packed f (enumerate_from 0 os)) ∙ ap (find strong) (of_number f os (f name))
        ∙ sym (find_and (has_number (f name)) strong (map (as_export f) (definitions os))) ∙ find_map (is_strong_export_of (f name)) (as_export f) (definitions os)
        ∙ ap (option_map (as_export f)) (find_same (λ d. is_strong_export_of (f name) (as_export f d)) (defines_strongly name) (definitions os) (all_define_strongly name is))

    -- ---- addresses

    pub base_same : (k : ℕ) (p : Place) → base_of_place set k p ≡ base_in (rooms_of_objects os) k p
    base_same k places.Code = ap (λ (r : List Room). code_base r k) rooms
    base_same k places.Init = ap (λ (r : List Room). ram_base r k) rooms
    base_same k places.Bss = ap (λ (r : List Room). bss_base r k) rooms
    base_same k places.Absolute = refl

    export_address : (n k : ℕ) (s : SymbolParts) (h : Option Start) → base_of_place set k (export_with n s h).place + (export_with n s h).value ≡ address_at (rooms_of_objects os) k s.value h
    export_address n k s None = omega arith
    export_address n k s (Some start) = ap (λ b. b + (start.offset + s.value)) (base_same k start.part) ∙ regrouped (base_in (rooms_of_objects os) k start.part) start.offset s.value
      where
        regrouped : (a b c : ℕ) → a + (b + c) ≡ a + b + c
        regrouped a b c = omega arith

    -- the address of a name's number is the name's
    pub same_address : (name : List ℕ) → is_named os name ≡ true → address_of set (f name) ≡ address_of_name os name
    same_address name is =
        let address = λ (x : ℕ × Export). base_of_place set x.0 x.1.place + x.1.value in
        ap (λ o. option_map address (option_or o (find (has_number (f name)) (exports_of set)))) (found_strong name is)
        ∙ ap (λ o. option_map address (option_or (option_map (as_export f) (find (defines_strongly name) (definitions os))) o)) (found_any name is)
        ∙ ap (option_map address) (or_map (as_export f) (find (defines_strongly name) (definitions os)) (find (defines name) (definitions os)))
        ∙ map_choice address (as_export f) (address_of_definition (rooms_of_objects os)) (option_or (find (defines_strongly name) (definitions os)) (find (defines name) (definitions os)))
        (λ d. export_address (f d.symbol.name) d.object d.symbol d.start)
