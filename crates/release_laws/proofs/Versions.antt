-- Versions keep the tables in order.
use Rattle.std.proofs.Common.{◌≡◌, ℕ, ◌+◌, ◌<◌, ◌≤◌, ◌^◌, Bool, true, false, cond, Option, Some, None, List, [], ◌∷◌, ◌++◌, length, map, refl, sym, ap, subst, ◌∙◌, arith, bytes_eq, is_some, leb}
use Rattle.std.specs.Prelude.{◌==◌}
use Rattle.std.specs.Option.{option_or, option_map}
use Rattle.std.specs.List.{filter, find, range_with_len, AllByRecursion}
use Rattle.std.proofs.lemmas.Bool.{leb-false, eqb-true, eq-eqb, and_parts, or_left}
use Rattle.std.proofs.lemmas.List.{length-append, length-map, map-append}
use Rattle.std.proofs.lemmas.List.Elements.{All-push, All-from_recursion}
use Rattle.std.proofs.lemmas.List.Folds.{list_any-append}
use Rattle.avr_elf.specs.Object.{Object, object_of, AreBytes}
use Rattle.avr_elf.specs.WellFormed.{IsWellFormed}
use Rattle.avr_elf.proofs.ObjectLemmas.{is_object}
use Rattle.avr_elf.proofs.WellFormedLemmas.{means_well_formed}
use Rattle.component_package.specs.packages.Component.{spelling}
use Rattle.component_package.specs.packages.Grammar.{IsComponent}
use Rattle.object_packer.specs.Names.{names, names_of_symbols, needs_number, number_in}
use Rattle.object_packer.specs.Packed.{packed}
use Rattle.object_packer.proofs.Whole.{component_holds}
use Rattle.release_rows.specs.declared.row.SymbolRow.{SymbolRow}
use Rattle.release_rows.specs.declared.row.ComponentRow.{ComponentRow}
use Rattle.release_rows.specs.declared.row.VersionRow.{VersionRow}
use Rattle.release_rows.specs.declared.row.KeyRow.{KeyRow}
use Rattle.release_rows.specs.declared.change.Effect.{Effect}
use Rattle.release_rows.specs.Tables.{Tables, key_row, symbol_count, component_number, component_name, component_count, version_count, is_version}
use Rattle.release_rows.specs.Change.{with_component, changed}
use Rattle.release_rows.specs.Kept.{AreDifferent, AreNumberedFrom, IsSymbol, NamesSymbols, IsKeptVersion, AreKept}
use Rattle.release_judging.proofs.Distinct.{distinct_means}
use Rattle.release_judging.specs.Judging.{are_distinct}
use Rattle.release_versions.specs.Versions.{named, numbers_of, new_symbols, next_number}
use Rattle.release_laws.specs.Steps.{VersionsKeepTables}
use Rattle.release_laws.proofs.Lists.{none_found, found_all, found_too, any_found, some_from, some_back, some_still, any_still, found_still, any_behind, row_of, numbers_below, numbered_joined, numbered_more, numbered_if, few_if, different_joined, different_more, once_different, all_so, all_mapped}
use Rattle.release_laws.proofs.Kept.{Grows, versions_still, releases_still, acks_still, keys_more}
use Rattle.release_laws.proofs.Bytes.{code_is_bytes, init_is_bytes}
use Rattle.release_laws.proofs.Named.{high_all, fresh, named_length, fresh_numbered, fresh_new, fresh_different, named_below, IsAmong, named_among}
use Rattle.release_laws.proofs.Packages.{package_of, component_said, names_symbols}
use Rattle.release_laws.proofs.Taken.{version_effect, IsTaken, taken}

-- ---- the next number

-- there is a number behind so many where they are few enough
next_is : (count n : ℕ) → next_number count ≡ Some n → (count < 65535) × (count + 1 ≡ n)
next_is count n e = from (leb 65535 count) refl e
  where
    from : (b : Bool) → leb 65535 count ≡ b → cond b None (Some (count + 1)) ≡ Some n → (count < 65535) × (count + 1 ≡ n)
    from true is e = absurd cc
    from false is e = let same : count + 1 ≡ n = cc in (leb-false 65535 count is, same)

-- ---- components

-- components with one of this name and number are in order, and have all that were there
record AreComponents (t : Tables) (c : ℕ) (rows : List ComponentRow) : Type 0 where
  small : c < 2 ^ 16
  numbered : AreNumberedFrom 1 (map (λ r. r.number) rows)
  few : length rows ≤ 65535
  different : AreDifferent (map (λ r. r.name) rows)
  there : is_some (option_map (λ (r : ComponentRow). r.name) (find (λ r. r.number == c) rows)) ≡ true
  still : (d : ℕ) → is_some (component_name t d) ≡ true → is_some (option_map (λ (r : ComponentRow). r.name) (find (λ r. r.number == d) rows)) ≡ true

module _ (t : Tables) (k : AreKept t) (name : List ℕ) (c : ℕ) where
  is_named : ComponentRow → Bool
  is_named r = bytes_eq name r.name

  known : component_number t name ≡ Some c → AreComponents t c t.components
  known is =
      let r = row_of (λ (r : ComponentRow). r.number) (find (λ (r : ComponentRow). bytes_eq name r.name) t.components) c is in
      let few = k.few_components in
      let below = numbers_below (λ (r : ComponentRow). r.number) 1 65536 t.components k.components (omega (arith, few)) in
      record {
        small = subst (λ (n : ℕ). n < 2 ^ 16) r.2 (found_all (λ (r : ComponentRow). r.number < 2 ^ 16) (λ (r : ComponentRow). bytes_eq name r.name) t.components r.0 below r.1);
        numbered = k.components;
        few = k.few_components;
        different = k.component_names;
        there = some_from (λ (r : ComponentRow). r.name) (find (λ (r : ComponentRow). r.number == c) t.components)
            (any_found (λ (r : ComponentRow). r.number == c) t.components
            (found_too (λ (r : ComponentRow). bytes_eq name r.name) (λ (r : ComponentRow). r.number == c) t.components r.0 r.1 (eq-eqb r.0.number c r.2)));
        still = λ d is. is;
      }

  none_of : (o : Option ComponentRow) → option_map (λ (r : ComponentRow). r.number) o ≡ None → o ≡ None
  none_of None e = refl
  none_of (Some r) e = absurd cc

  added : component_number t name ≡ None → component_count t < 65535 → component_count t + 1 ≡ c → AreComponents t c (t.components ++ record { number = c; name = name } ∷ [])
  added is lt next =
      let row : ComponentRow = record { number = c; name = name } in
      let long = length-append t.components (row ∷ []) in
      let here : (c == c) ≡ true = eq-eqb c c refl in
      record {
        small = omega (arith, lt, next);
        numbered = numbered_more (λ (r : ComponentRow). r.number) 1 t.components row k.components (omega (arith, next));
        few = omega (arith, long, lt);
        different = different_more (λ (r : ComponentRow). r.name) t.components row k.component_names
            (none_found (λ (r : ComponentRow). bytes_eq name r.name) t.components (none_of (find (λ (r : ComponentRow). bytes_eq name r.name) t.components) is));
        there = some_from (λ (r : ComponentRow). r.name) (find (λ (r : ComponentRow). r.number == c) (t.components ++ row ∷ []))
            (any_found (λ (r : ComponentRow). r.number == c) (t.components ++ row ∷ []) (any_behind (λ (r : ComponentRow). r.number == c) t.components (row ∷ []) (or_left (c == c) false here)));
        still = λ d is.
            some_from (λ (r : ComponentRow). r.name) (find (λ (r : ComponentRow). r.number == d) (t.components ++ row ∷ []))
            (some_still (λ (r : ComponentRow). r.number == d) t.components (row ∷ []) (some_back (λ (r : ComponentRow). r.name) (find (λ (r : ComponentRow). r.number == d) t.components) is));
      }

  components_with : (o : Option ℕ) → component_number t name ≡ o → option_or o (next_number (component_count t)) ≡ Some c → AreComponents t c (with_component t.components o name c)
  components_with (Some j) is e =
      let same : j ≡ c = cc in
      known (is ∙ e)
  components_with None is e = let next = next_is (component_count t) c e in added is next.0 next.1

-- ---- the step

module _ (t : Tables) (k : AreKept t) (key : KeyRow) (new : key_row t key.key ≡ None) (name file : List ℕ) (bytes : AreBytes file) (e : Effect) (is : IsTaken t name file e) where
  abbrev pub o : Object
  o = object_of file

  abbrev pub rows : List SymbolRow
  rows = named t (16 + symbol_count t) (names o)

  abbrev pub row : VersionRow
  row = record { component = is.component; version = is.version; bytes = spelling (packed o is.component is.version (number_in (names o) (numbers_of t o))) }

  abbrev pub next : Tables
  next = changed t (record { effect = version_effect t name o is.component is.version; key = key })

  components : AreComponents t is.component (with_component t.components (component_number t name) name is.component)
  components = components_with t k name is.component (component_number t name) refl is.component_is

  version : (version_count t is.component < 65535) × (version_count t is.component + 1 ≡ is.version)
  version = next_is (version_count t is.component) is.version is.version_is

  pub well_formed : IsWellFormed o
  well_formed = means_well_formed file o (is_object file bytes is.elf)

  -- numbers of symbols

  symbols_below : AllByRecursion (λ r. r.number < 2 ^ 16) t.symbols
  symbols_below = let few = k.few_symbols in numbers_below (λ (r : SymbolRow). r.number) 16 65536 t.symbols k.symbols (omega (arith, few))

  numbers_small : AllByRecursion (λ n. n < 2 ^ 16) (numbers_of t o)
  numbers_small = let room = is.room in all_mapped (λ (n : ℕ). n < 2 ^ 16) (λ (r : SymbolRow). r.number) rows (named_below t 65536 symbols_below (16 + symbol_count t) (names o) (omega (arith, room)))

  numbers_symbols : AllByRecursion (IsSymbol next) (numbers_of t o)
  numbers_symbols = all_mapped (IsSymbol next) (λ (r : SymbolRow). r.number) rows
      (all_so (IsAmong t (fresh t (16 + symbol_count t) (names o))) (λ (r : SymbolRow). IsSymbol next r.number) rows
      (λ (r : SymbolRow) among. list_any-append (λ (s : SymbolRow). s.number == r.number) t.symbols (new_symbols t o) ∙ among) (named_among t (16 + symbol_count t) (names o)))

  numbers_length : length (numbers_of t o) ≡ length (names o)
  numbers_length = length-map rows (λ (r : SymbolRow). r.number) ∙ named_length t (16 + symbol_count t) (names o)

  -- the package

  pub is_component : IsComponent (packed o is.component is.version (number_in (names o) (numbers_of t o)))
  is_component =
      let tests = and_parts (are_distinct (numbers_of t o)) _ is.numbers in
      let v = version in
      component_holds o well_formed is.packs (numbers_of t o) numbers_length (distinct_means (numbers_of t o) tests.0) (All-from_recursion (λ (n : ℕ). 16 ≤ n) (numbers_of t o) (high_all (numbers_of t o) tests.1))
      (All-from_recursion (λ (n : ℕ). n < 2 ^ 16) (numbers_of t o) numbers_small) is.component is.version components.small (omega (arith, v.0, v.1))
      (packed o is.component is.version (number_in (names o) (numbers_of t o))) (code_is_bytes file bytes) (init_is_bytes file bytes) refl

  -- tables grow

  grows : Grows t next
  grows = record {
    components = components.still;
    symbols = λ s there. any_still (λ (r : SymbolRow). r.number == s) t.symbols (new_symbols t o) there;
    packages = λ c v b there. found_still (λ (r : VersionRow). r.bytes) (is_version c v) t.versions (row ∷ []) b there;
    releases = λ m n there. there;
  }

  symbols_numbered : AreNumberedFrom 16 (map (λ r. r.number) (t.symbols ++ new_symbols t o))
  symbols_numbered =
      let fresh_are : map (λ (r : SymbolRow). r.number) (new_symbols t o) ≡ range_with_len (16 + symbol_count t) (length (new_symbols t o)) = fresh_numbered t (16 + symbol_count t) (names o) in
      let count = length-map (new_symbols t o) (λ (r : SymbolRow). r.number) in
      let former = length-map t.symbols (λ (r : SymbolRow). r.number) in
      subst (AreNumberedFrom 16) (sym (map-append (λ (r : SymbolRow). r.number) t.symbols (new_symbols t o)))
      (numbered_joined 16 (map (λ (r : SymbolRow). r.number) t.symbols) (map (λ (r : SymbolRow). r.number) (new_symbols t o)) k.symbols
      (fresh_are ∙ ap (λ n. range_with_len (16 + symbol_count t) n) (sym count) ∙ ap (λ n. range_with_len (16 + n) (length (map (λ (r : SymbolRow). r.number) (new_symbols t o)))) (sym former)))

  symbols_different : AreDifferent (map (λ r. r.name) (t.symbols ++ new_symbols t o))
  symbols_different =
      subst AreDifferent (sym (map-append (λ (r : SymbolRow). r.name) t.symbols (new_symbols t o)))
      (different_joined (map (λ (r : SymbolRow). r.name) t.symbols) (map (λ (r : SymbolRow). r.name) (new_symbols t o)) k.symbol_names
      (fresh_different t (16 + symbol_count t) (names o) (once_different (names_of_symbols o (filter (needs_number o) (range_with_len 0 (length o.symbols)))))) (fresh_new t (16 + symbol_count t) (names o)))

  kept_version : IsKeptVersion next row
  kept_version = record {
    component = components.there;
    bytes = package_of (packed o is.component is.version (number_in (names o) (numbers_of t o))) is_component;
    names = subst (NamesSymbols next) (sym (component_said (packed o is.component is.version (number_in (names o) (numbers_of t o))) is_component))
        (names_symbols next o well_formed is.packs is.component is.version (numbers_of t o) numbers_symbols is_component);
  }

  numbered : (c : ℕ) → (is.component == c) ≡ true → is.version ≡ 1 + version_count t c
  numbered c same = let v = version in sym v.1 ∙ ap (λ d. version_count t d + 1) (eqb-true is.component c same) ∙ omega arith

  fits : (c : ℕ) → (is.component == c) ≡ true → version_count t c + 1 ≤ 65535
  fits c same = let v = version in subst (λ (d : ℕ). version_count t d + 1 ≤ 65535) (eqb-true is.component c same) (omega (arith, v.0))

  few_symbols : length (t.symbols ++ new_symbols t o) ≤ 65520
  few_symbols = let long = length-append t.symbols (new_symbols t o) in let room = is.room in omega (arith, long, room)

  pub version_kept : AreKept next
  version_kept = record {
    symbols = symbols_numbered;
    few_symbols = few_symbols;
    symbol_names = symbols_different;
    components = components.numbered;
    few_components = components.few;
    component_names = components.different;
    versions = λ c. numbered_if (λ (r : VersionRow). r.component == c) (λ (r : VersionRow). r.version) 1 t.versions row (k.versions c) (numbered c);
    few_versions = λ c. few_if (λ (r : VersionRow). r.component == c) 65535 t.versions row (k.few_versions c) (fits c);
    packages = All-push (IsKeptVersion next) t.versions row (versions_still t next grows t.versions k.packages) kept_version;
    releases = k.releases;
    few_releases = k.few_releases;
    sets = releases_still t next grows t.releases k.sets;
    acks = acks_still t next grows t.acks k.acks;
    acked_motes = k.acked_motes;
    keys = keys_more t k key new;
  }

  pub version_kept_by : AreKept (changed t (record { effect = e; key = key }))
  version_kept_by = subst (λ (x : Effect). AreKept (changed t (record { effect = x; key = key }))) is.effect version_kept

pub versions_keep_tables : VersionsKeepTables
versions_keep_tables t k name file bytes e key is new = version_kept_by t k key new name file bytes e (taken t name file e is)
