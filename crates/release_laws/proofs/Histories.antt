-- After any commands the tables are in order, and each version's package is that of its file.
use Rattle.std.proofs.Common.{◌≡◌, ℕ, Bool, true, false, cond, Option, Some, None, List, [], ◌∷◌, ◌++◌, map, refl, sym, ap, subst, ◌∙◌, arith, bytes_eq, is_some, unwrap_or, append-nil, length, ◌+◌}
use Rattle.std.specs.Option.{option_map}
use Rattle.std.specs.List.{filter, find, range_with_len, AllByRecursion, AllZip}
use Rattle.std.proofs.lemmas.List.Folds.{find-append}
use Rattle.avr_elf.specs.Object.{Object, object_of, AreBytes}
use Rattle.avr_elf.specs.WellFormed.{IsWellFormed}
use Rattle.avr_elf.proofs.ObjectLemmas.{is_object}
use Rattle.avr_elf.proofs.WellFormedLemmas.{means_well_formed}
use Rattle.component_package.specs.packages.Component.{Component}
use Rattle.component_package.specs.packages.Grammar.{Spells}
use Rattle.object_packer.specs.Faults.{pack_fault}
use Rattle.object_packer.specs.Names.{names, names_of_symbols, needs_number, number_in}
use Rattle.object_packer.specs.Packed.{packed}
use Rattle.name_laws.proofs.Lists.{map_same, map_twice, or_map}
use Rattle.name_laws.proofs.Asked.{with_numbers}
use Rattle.release_rows.specs.declared.row.SymbolRow.{SymbolRow}
use Rattle.release_rows.specs.declared.row.VersionRow.{VersionRow}
use Rattle.release_rows.specs.declared.row.KeyRow.{KeyRow}
use Rattle.release_rows.specs.declared.command.Command.{Command}
use Rattle.release_rows.specs.declared.command.Command.TheVariants.{AddVersion, AddRelease, Acknowledge}
use Rattle.release_rows.specs.declared.change.Effect.{Effect}
use Rattle.release_rows.specs.declared.change.Effect.TheVariants as effects
use Rattle.release_rows.specs.Tables.{Tables, empty_tables, key_row, symbol_number, symbol_count, release_count}
use Rattle.release_rows.specs.Change.{changed}
use Rattle.release_rows.specs.Kept.{AreKept}
use Rattle.release_judging.specs.declared.judged.Judged.{Judged}
use Rattle.release_judging.specs.declared.judged.Judged.TheVariants as judgements
use Rattle.release_rules.specs.declared.decision.Decision.{Decision}
use Rattle.release_rules.specs.declared.decision.Decision.TheVariants as decisions
use Rattle.release_rules.specs.Deciding.{IsAllowed, judged, body_of, settled, by_key}
use Rattle.release_rules.specs.Machine.{answered}
use Rattle.release_versions.specs.Versions.{named, numbers_of, new_symbols}
use Rattle.release_laws.specs.Posted.{Posted, HasBytes, MayCome}
use Rattle.release_laws.specs.History.{History, empty_history, files_behind, behind, after, number_for, IsFileOf, IsHistory, HistoriesAreKept}
use Rattle.release_laws.proofs.Lists.{once_different, all_so, all_mapped, found_still, zip_so, zip_more}
use Rattle.release_laws.proofs.Named.{number_found, named_found, named_names}
use Rattle.release_laws.proofs.Taken.{version_effect, IsTaken, taken}
use Rattle.release_laws.proofs.Acks.{ack_does}
use Rattle.release_laws.proofs.Releases.{release_does}
use Rattle.release_laws.proofs.Versions.{row, next, well_formed, is_component}
use Rattle.release_laws.proofs.Answers.{answers_keep_tables}

-- ---- numbers that names have stay

abbrev KnowsMore : Tables → Tables → Type 0
KnowsMore t u = (n : List ℕ) (k : ℕ) → symbol_number t n ≡ Some k → symbol_number u n ≡ Some k

-- packages ask for the numbers of the object's own names alone
packed_same : (o : Object) → IsWellFormed o → pack_fault o ≡ None → (c v : ℕ) (f g : List ℕ → ℕ) → AllByRecursion (λ n. f n ≡ g n) (names o) → packed o c v f ≡ packed o c v g
packed_same o w none c v f g same =
    sym (with_numbers o w none c v f) ∙ ap (λ (ns : List ℕ). packed o c v (number_in (names o) ns)) (map_same f g (names o) same) ∙ with_numbers o w none c v g

module _ (t u : Tables) (more : KnowsMore t u) where
  known_still : (n : List ℕ) → is_some (symbol_number t n) ≡ true → (is_some (symbol_number u n) ≡ true) × (number_for t n ≡ number_for u n)
  known_still n is = from (symbol_number t n) refl is
    where
      from : (o : Option ℕ) → symbol_number t n ≡ o → is_some o ≡ true → (is_some (symbol_number u n) ≡ true) × (number_for t n ≡ number_for u n)
      from None known is = absurd cc
      from (Some k) known is =
          let later = more n k known in
          (ap (λ (o : Option ℕ). is_some o) later, ap (λ (o : Option ℕ). unwrap_or o 0) (known ∙ sym later))

  file_still : (file : List ℕ) (r : VersionRow) → IsFileOf t file r → IsFileOf u file r
  file_still file r is = record {
    bytes = is.bytes;
    elf = is.elf;
    packs = is.packs;
    named = all_so (λ (n : List ℕ). is_some (symbol_number t n) ≡ true) (λ (n : List ℕ). is_some (symbol_number u n) ≡ true) (names (object_of file)) (λ n known. (known_still n known).0) is.named;
    spelled = subst (λ (c : Component). Spells r.bytes c)
        (packed_same (object_of file) (means_well_formed file (object_of file) (is_object file is.bytes is.elf)) is.packs r.component r.version (number_for t) (number_for u)
        (all_so (λ (n : List ℕ). is_some (symbol_number t n) ≡ true) (λ (n : List ℕ). number_for t n ≡ number_for u n) (names (object_of file)) (λ n known. (known_still n known).1) is.named)) is.spelled;
  }

  files_still : (fs : List (List ℕ)) (rs : List VersionRow) → AllZip (IsFileOf t) fs rs → AllZip (IsFileOf u) fs rs
  files_still = zip_so (IsFileOf t) (IsFileOf u) file_still

-- ---- a version that is taken

module _ (t : Tables) (k : AreKept t) (key : KeyRow) (new : key_row t key.key ≡ None) (name file : List ℕ) (bytes : AreBytes file) (e : Effect) (is : IsTaken t name file e) where
  abbrev o : Object
  o = object_of file

  abbrev u : Tables
  u = next t k key new name file bytes e is

  abbrev its_rows : List SymbolRow
  its_rows = named t (16 + symbol_count t) (names o)

  found_in : (n : List ℕ) → symbol_number u n ≡ number_found t (new_symbols t o) n
  found_in n =
      ap (λ (x : Option SymbolRow). option_map (λ (r : SymbolRow). r.number) x) (find-append (λ (r : SymbolRow). bytes_eq n r.name) t.symbols (new_symbols t o))
      ∙ sym (or_map (λ (r : SymbolRow). r.number) (find (λ (r : SymbolRow). bytes_eq n r.name) t.symbols) (find (λ (r : SymbolRow). bytes_eq n r.name) (new_symbols t o)))

  known : AllByRecursion (λ (r : SymbolRow). symbol_number u r.name ≡ Some r.number) its_rows
  known = all_so (λ (r : SymbolRow). number_found t (new_symbols t o) r.name ≡ Some r.number) (λ (r : SymbolRow). symbol_number u r.name ≡ Some r.number) its_rows (λ (r : SymbolRow) there. found_in r.name ∙ there)
      (named_found t (16 + symbol_count t) (names o) (once_different (names_of_symbols o (filter (needs_number o) (range_with_len 0 (length o.symbols))))))

  numbers_are : numbers_of t o ≡ map (number_for u) (names o)
  numbers_are = sym (
      ap (map (number_for u)) (sym (named_names t (16 + symbol_count t) (names o))) ∙ map_twice (number_for u) (λ (r : SymbolRow). r.name) its_rows
      ∙ map_same (λ (r : SymbolRow). number_for u r.name) (λ (r : SymbolRow). r.number) its_rows
      (all_so (λ (r : SymbolRow). symbol_number u r.name ≡ Some r.number) (λ (r : SymbolRow). number_for u r.name ≡ r.number) its_rows (λ (r : SymbolRow) there. ap (λ (x : Option ℕ). unwrap_or x 0) there) known)
      )

  pub new_file : IsFileOf u file (row t k key new name file bytes e is)
  new_file = record {
    bytes = bytes;
    elf = is.elf;
    packs = is.packs;
    named = subst (λ (ns : List (List ℕ)). AllByRecursion (λ (n : List ℕ). is_some (symbol_number u n) ≡ true) ns) (named_names t (16 + symbol_count t) (names o))
        (all_mapped (λ (n : List ℕ). is_some (symbol_number u n) ≡ true) (λ (r : SymbolRow). r.name) its_rows
        (all_so (λ (r : SymbolRow). symbol_number u r.name ≡ Some r.number) (λ (r : SymbolRow). is_some (symbol_number u r.name) ≡ true) its_rows (λ (r : SymbolRow) there. ap (λ (x : Option ℕ). is_some x) there) known));
    spelled = subst (λ (c : Component). Spells (row t k key new name file bytes e is).bytes c)
        (ap (λ (ns : List ℕ). packed o is.component is.version (number_in (names o) ns)) numbers_are
        ∙ with_numbers o (well_formed t k key new name file bytes e is) is.packs is.component is.version (number_for u))
        (record { component = is_component t k key new name file bytes e is; bytes = refl });
  }

  more : KnowsMore t u
  more n j there = found_still (λ (r : SymbolRow). r.number) (λ (r : SymbolRow). bytes_eq n r.name) t.symbols (new_symbols t o) j there

  pub version_files : (fs : List (List ℕ)) → AllZip (IsFileOf t) fs t.versions → AllZip (IsFileOf u) (fs ++ file ∷ []) u.versions
  version_files fs all = zip_more (IsFileOf u) fs t.versions file (row t k key new name file bytes e is) (files_still t u more fs t.versions all) new_file

-- ---- every step

module _ (t : Tables) (k : AreKept t) (fs : List (List ℕ)) (all : AllZip (IsFileOf t) fs t.versions) (key digest : List ℕ) where
  abbrev HasFiles : Decision → Command → Type 0
  HasFiles d c = AllZip (IsFileOf (answered d t).tables) (files_behind d c fs) (answered d t).tables.versions

  -- the change that an effect is
  abbrev key_of : Effect → KeyRow
  key_of e = record { key = key; digest = digest; body = body_of e }

  -- with no file more
  abbrev HasSame : Effect → Type 0
  HasSame e = AllZip (IsFileOf (changed t (record { effect = e; key = key_of e }))) (fs ++ []) (changed t (record { effect = e; key = key_of e })).versions

  same_files : (u : Tables) → KnowsMore t u → AllZip (IsFileOf u) (fs ++ []) t.versions
  same_files u more = subst (λ (gs : List (List ℕ)). AllZip (IsFileOf u) gs t.versions) (sym (append-nil fs)) (files_still t u more fs t.versions all)

  does_files : key_row t key ≡ None → (c : Command) → IsAllowed c → HasBytes c → (e : Effect) → judged t c ≡ judgements.Does e → HasFiles (settled key digest (judgements.Does e)) c
  does_files new (AddVersion name file) allowed bytes e is =
      let it = taken t name file e is in
      let e_is : Effect = version_effect t name (object_of file) it.component it.version in
      subst (λ (x : Effect). AllZip (IsFileOf (changed t (record { effect = x; key = key_of x }))) (fs ++ file ∷ []) (changed t (record { effect = x; key = key_of x })).versions) it.effect
      (version_files t k (key_of e_is) new name file bytes e it fs all)
  does_files new (AddRelease mote parts) allowed bytes e is =
      release_does t mote parts HasSame
      (λ ps it. same_files (changed t (record { effect = effects.Release mote (release_count t mote + 1) ps; key = key_of (effects.Release mote (release_count t mote + 1) ps) })) (λ n j there. there)) e is
  does_files new (Acknowledge mote release) allowed bytes e is =
      ack_does t mote release HasSame (λ there low. same_files (changed t (record { effect = effects.Ack mote release; key = key_of (effects.Ack mote release) })) (λ n j there. there)) e is

  settled_files : key_row t key ≡ None → (c : Command) → IsAllowed c → HasBytes c → (j : Judged) → judged t c ≡ j → HasFiles (settled key digest j) c
  settled_files new c allowed bytes (judgements.Does e) is = does_files new c allowed bytes e is
  settled_files new c allowed bytes judgements.NoRow is = all
  settled_files new c allowed bytes (judgements.Refused n vs) is = all

  pub decided_files : (c : Command) → IsAllowed c → HasBytes c → (o : Option KeyRow) → key_row t key ≡ o → HasFiles (by_key o digest (settled key digest (judged t c))) c
  decided_files c allowed bytes None is = settled_files is c allowed bytes (judged t c) refl
  decided_files c allowed bytes (Some r) is = from (bytes_eq digest r.digest)
    where
      from : (b : Bool) → HasFiles (cond b (decisions.Repeated r.body) (decisions.KeyTaken r.digest)) c
      from true = all
      from false = all

pub history_behind : (h : History) → IsHistory h → (p : Posted) → MayCome p → IsHistory (behind h p)
history_behind h is p may = record {
  kept = answers_keep_tables h.tables is.kept p may;
  files = decided_files h.tables is.kept h.files is.files p.key p.digest p.command may.allowed may.bytes (key_row h.tables p.key) refl;
}

-- ---- all of them

empty_kept : AreKept empty_tables
empty_kept = record {
  symbols = refl;
  few_symbols = omega arith;
  symbol_names = tt;
  components = refl;
  few_components = omega arith;
  component_names = tt;
  versions = λ c. refl;
  few_versions = λ c. omega arith;
  packages = λ k d lt. absurd (omega (arith, lt));
  releases = λ m. refl;
  few_releases = λ m. omega arith;
  sets = λ k d lt. absurd (omega (arith, lt));
  acks = λ k d lt. absurd (omega (arith, lt));
  acked_motes = tt;
  keys = tt;
}

pub history_after : (ps : List Posted) (h : History) → IsHistory h → AllByRecursion MayCome ps → IsHistory (after h ps)
history_after [] h is all = is
history_after (p ∷ ps) h is all = history_after ps (behind h p) (history_behind h is p all.0) all.1

pub histories_are_kept : HistoriesAreKept
histories_are_kept ps all = history_after ps empty_history (record { kept = empty_kept; files = tt }) all
