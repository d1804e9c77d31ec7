-- The image of a release is the image by names of the objects that were given for its parts.
use Rattle.std.proofs.Common.{◌≡◌, ℕ, ◌≤◌, true, Option, Some, None, List, [], ◌∷◌, map, refl, sym, ap, subst, ◌∙◌, bytes_eq, is_some, unwrap_or, inl, inr}
use Rattle.std.specs.Prelude.{◌↔◌}
use Rattle.std.specs.Option.{option_map, option_and_then}
use Rattle.std.specs.List.{find, list_any, AllZip}
use Rattle.std.proofs.lemmas.Bool.{or_cases}
use Rattle.std.proofs.lemmas.Option.{same_Some}
use Rattle.std.proofs.lemmas.List.Elements.{recursion_from_All}
use Rattle.avr_elf.specs.Object.{object_of}
use Rattle.avr_elf.proofs.ObjectLemmas.{is_object}
use Rattle.avr_elf.proofs.WellFormedLemmas.{means_well_formed}
use Rattle.component_package.specs.packages.Component.{Component}
use Rattle.component_package.specs.packages.Reading.{component_of}
use Rattle.component_package.specs.link.Link.{Cause, IsImage}
use Rattle.component_package.proofs.Laws.{faultless_bytes_spell}
use Rattle.object_packer.specs.Names.{names}
use Rattle.object_packer.specs.Packed.{packed}
use Rattle.name_laws.specs.NameImage.{IsNameImage}
use Rattle.name_laws.specs.Laws.{ArePackable, is_named, IsNumbering, ArePackages}
use Rattle.name_laws.proofs.Law.{from_names, from_packages}
use Rattle.release_rows.specs.declared.part.Numbered.{Numbered}
use Rattle.release_rows.specs.declared.row.SymbolRow.{SymbolRow}
use Rattle.release_rows.specs.declared.row.VersionRow.{VersionRow}
use Rattle.release_rows.specs.declared.row.ReleaseRow.{ReleaseRow}
use Rattle.release_rows.specs.Tables.{Tables, symbol_number, is_version, is_release, stored_package, stored_release}
use Rattle.release_rows.specs.Kept.{packages_of, IsKeptRelease}
use Rattle.http_replies.specs.declared.status.Status.TheVariants.{Success}
use Rattle.release_rules.specs.Machine.{Answer, IsImageOf, IsReleaseImage}
use Rattle.release_laws.specs.History.{History, empty_history, after, number_for, IsFileOf, IsHistory}
use Rattle.release_laws.specs.Served.{stored_file, files_of, ServesNameImages, ServedImagesAreNameImages}
use Rattle.release_laws.proofs.Lists.{bytes_are, found_passes, found_all, row_of, beside, numbers_from, same_row, any_all}
use Rattle.release_laws.proofs.Histories.{histories_are_kept}

-- the package is that of the file
record IsServed (t : Tables) (file b : List ℕ) : Type 0 where
  row : VersionRow
  of : IsFileOf t file row
  is : row.bytes ≡ b

-- ---- numbers of symbols

module _ (h : History) (is : IsHistory h) where
  abbrev t : Tables
  t = h.tables

  record IsKnown (n : List ℕ) : Type 0 where
    row : SymbolRow
    found : find (λ (r : SymbolRow). bytes_eq n r.name) t.symbols ≡ Some row
    number : number_for t n ≡ row.number

  known : (n : List ℕ) → is_some (symbol_number t n) ≡ true → IsKnown n
  known n e = from (find (λ (r : SymbolRow). bytes_eq n r.name) t.symbols) refl e
    where
      from : (o : Option SymbolRow) → find (λ (r : SymbolRow). bytes_eq n r.name) t.symbols ≡ o → is_some (option_map (λ (r : SymbolRow). r.number) o) ≡ true → IsKnown n
      from None found e = absurd cc
      from (Some r) found e = record { row = r; found = found; number = ap (λ (o : Option SymbolRow). unwrap_or (option_map (λ (r : SymbolRow). r.number) o) 0) found }

  high : (n : List ℕ) → is_some (symbol_number t n) ≡ true → 16 ≤ number_for t n
  high n e =
      let x = known n e in
      subst (λ (k : ℕ). 16 ≤ k) (sym x.number)
      (found_all (λ (r : SymbolRow). 16 ≤ r.number) (λ (r : SymbolRow). bytes_eq n r.name) t.symbols x.row (numbers_from (λ (r : SymbolRow). r.number) 16 t.symbols is.kept.symbols) x.found)

  once : (a b : List ℕ) → is_some (symbol_number t a) ≡ true → is_some (symbol_number t b) ≡ true → number_for t a ≡ number_for t b → a ≡ b
  once a b e f same =
      let x = known a e in
      let y = known b f in
      let row = same_row (λ (r : SymbolRow). r.number) 16 t.symbols is.kept.symbols (λ (r : SymbolRow). bytes_eq a r.name) (λ (r : SymbolRow). bytes_eq b r.name) x.row y.row x.found y.found (sym x.number ∙ same ∙ y.number) in
      bytes_are a x.row.name (found_passes (λ (r : SymbolRow). bytes_eq a r.name) t.symbols x.row x.found) ∙ ap (λ (r : SymbolRow). r.name) row
      ∙ sym (bytes_are b y.row.name (found_passes (λ (r : SymbolRow). bytes_eq b r.name) t.symbols y.row y.found))

  -- ---- objects and their packages

  packable : (fs bs : List (List ℕ)) → AllZip (IsServed t) fs bs → ArePackable (map object_of fs)
  packable [] [] all = tt
  packable [] (b ∷ bs) all = absurd all
  packable (f ∷ fs) [] all = absurd all
  packable (f ∷ fs) (b ∷ bs) all = ((means_well_formed f (object_of f) (is_object f all.0.of.bytes all.0.of.elf), all.0.of.packs), packable fs bs all.1)

  one_package : (f b : List ℕ) → IsServed t f b → component_of b ≡ packed (object_of f) (component_of b).component (component_of b).version (number_for t)
  one_package f b x =
      let said : component_of b ≡ packed (object_of f) x.row.component x.row.version (number_for t) =
      ap component_of (sym x.is) ∙ faultless_bytes_spell.said x.row.bytes (packed (object_of f) x.row.component x.row.version (number_for t)) x.of.spelled in
      subst (λ (c : Component). c ≡ packed (object_of f) c.component c.version (number_for t)) (sym said) refl

  packages : (fs bs : List (List ℕ)) → AllZip (IsServed t) fs bs → ArePackages (number_for t) (map object_of fs) (map component_of bs)
  packages [] [] all = tt
  packages [] (b ∷ bs) all = absurd all
  packages (f ∷ fs) [] all = absurd all
  packages (f ∷ fs) (b ∷ bs) all = (one_package f b all.0, packages fs bs all.1)

  named : (name : List ℕ) (fs bs : List (List ℕ)) → AllZip (IsServed t) fs bs → is_named (map object_of fs) name ≡ true → is_some (symbol_number t name) ≡ true
  named name [] [] all e = absurd cc
  named name [] (b ∷ bs) all e = absurd all
  named name (f ∷ fs) [] all e = absurd all
  named name (f ∷ fs) (b ∷ bs) all e =
      elim (or_cases (list_any (λ (n : List ℕ). bytes_eq n name) (names (object_of f))) (is_named (map object_of fs) name) e) [
        | inl here ↦ any_all (λ (n : List ℕ). is_some (symbol_number t n) ≡ true) name (names (object_of f)) here all.0.of.named
        | inr later ↦ named name fs bs all.1 later
      ]

  numbering : (fs bs : List (List ℕ)) → AllZip (IsServed t) fs bs → IsNumbering (map object_of fs) (number_for t)
  numbering fs bs all = record {
    high = λ n e. high n (named n fs bs all e);
    once = λ a b e f same. once a b (named a fs bs all e) (named b fs bs all f) same;
  }

  image_is : (fs bs : List (List ℕ)) → AllZip (IsServed t) fs bs → (b : List ℕ) → IsImage (map component_of bs) b ↔ IsNameImage (map object_of fs) b
  image_is fs bs all b = (
    from_packages (map object_of fs) (number_for t) (map component_of bs) b (packable fs bs all) (numbering fs bs all) (packages fs bs all),
    from_names (map object_of fs) (number_for t) (map component_of bs) b (packable fs bs all) (numbering fs bs all) (packages fs bs all),
  )

  -- ---- the files of parts

  one_file : (c v : ℕ) (b : List ℕ) → stored_package t c v ≡ Some b → (f : List ℕ) × (stored_file h c v ≡ Some f) × IsServed t f b
  one_file c v b e =
      let r = row_of (λ (r : VersionRow). r.bytes) (find (is_version c v) t.versions) b e in
      let x = beside (IsFileOf t) (is_version c v) h.files t.versions is.files r.0 r.1 in
      (x.0, ap (λ (o : Option (List ℕ × VersionRow)). option_map (λ z. z.0) o) x.1, record { row = r.0; of = x.2; is = r.2 })

  all_files : (ps : List Numbered) (bs : List (List ℕ)) → packages_of t ps ≡ Some bs → (fs : List (List ℕ)) × (files_of h ps ≡ Some fs) × AllZip (IsServed t) fs bs
  all_files [] bs e = let same : [] ≡ bs = same_Some [] bs e in ([], refl, subst (λ (cs : List (List ℕ)). AllZip (IsServed t) [] cs) same tt)
  all_files (p ∷ ps) bs e = from (stored_package t p.component p.version) (packages_of t ps) refl refl e (λ cs are. all_files ps cs are)
    where
      from : (o : Option (List ℕ)) (rest : Option (List (List ℕ))) → stored_package t p.component p.version ≡ o → packages_of t ps ≡ rest → option_and_then (λ a. option_map (λ as_. a ∷ as_) rest) o ≡ Some bs
          → ((cs : List (List ℕ)) → packages_of t ps ≡ Some cs → (fs : List (List ℕ)) × (files_of h ps ≡ Some fs) × AllZip (IsServed t) fs cs)
          → (fs : List (List ℕ)) × (files_of h (p ∷ ps) ≡ Some fs) × AllZip (IsServed t) fs bs
      from None rest there are e later = absurd cc
      from (Some b) None there are e later = absurd cc
      from (Some b) (Some cs) there are e later =
          let same : b ∷ cs ≡ bs = same_Some (b ∷ cs) bs e in
          let x = one_file p.component p.version b there in
          let y = later cs are in (
            x.0 ∷ y.0,
            ap (λ (o : Option (List ℕ)). option_and_then (λ a. option_map (λ as_. a ∷ as_) (files_of h ps)) o) x.1 ∙ ap (λ (o : Option (List (List ℕ))). option_map (λ as_. x.0 ∷ as_) o) y.1,
            subst (λ (ds : List (List ℕ)). AllZip (IsServed t) (x.0 ∷ y.0) ds) same (x.2, y.2),
          )

  -- ---- the files of a release

  whole : (m : List ℕ) (n : ℕ) (ps : List Numbered) → stored_release t m n ≡ Some ps → IsKeptRelease t ps
  whole m n ps e =
      let r = row_of (λ (r : ReleaseRow). r.parts) (find (is_release m n) t.releases) ps e in
      subst (IsKeptRelease t) r.2
      (found_all (λ (r : ReleaseRow). IsKeptRelease t r.parts) (is_release m n) t.releases r.0 (recursion_from_All (λ (r : ReleaseRow). IsKeptRelease t r.parts) t.releases is.kept.sets) r.1)

  -- an answer to a question for the image of a release
  answer_is : (ps : List Numbered) (kept : IsKeptRelease t ps) (fs : List (List ℕ)) (a : Answer) → files_of h ps ≡ Some fs → IsReleaseImage (packages_of t ps) t a
      → (a.status ≡ Success) × IsNameImage (map object_of fs) a.body
  answer_is ps kept fs a f answer =
      let set = kept.set in
      let x = all_files ps set kept.there in
      let same : x.0 ≡ fs = same_Some x.0 fs (sym x.1 ∙ f) in
      let linked : IsImageOf None (map component_of set) t a =
      subst (λ (o : Option Cause). IsImageOf o (map component_of set) t a) kept.linked (subst (λ (o : Option (List (List ℕ))). IsReleaseImage o t a) kept.there answer) in (
        ap (λ (b : Answer). b.status) linked.2,
        subst (λ (b : Answer). IsNameImage (map object_of fs) b.body) (sym linked.2)
            ((image_is fs set (subst (λ (gs : List (List ℕ)). AllZip (IsServed t) gs set) same x.2) linked.0).0 linked.1),
      )

  pub serves : (m : List ℕ) (n : ℕ) → ServesNameImages h m n
  serves m n = from (stored_release t m n) refl
    where
      packages_at : Option (List Numbered) → Option (List (List ℕ))
      packages_at o = option_and_then (packages_of t) o

      files_at : Option (List Numbered) → Option (List (List ℕ))
      files_at o = option_and_then (files_of h) o

      from : (o : Option (List Numbered)) → stored_release t m n ≡ o → ServesNameImages h m n
      from None there = record {
        packages_there = ap (λ o. is_some (packages_at o)) there ∙ sym (ap (λ (o : Option (List Numbered)). is_some o) there);
        files_there = ap (λ o. is_some (files_at o)) there ∙ sym (ap (λ (o : Option (List Numbered)). is_some o) there);
        images = λ bs fs e f b. let no : None ≡ Some bs = sym (ap packages_at there) ∙ e in absurd cc;
        answers = λ fs a f answer. let no : None ≡ Some fs = sym (ap files_at there) ∙ f in absurd cc;
      }
      from (Some ps) there =
          let kept = whole m n ps there in
          let x = all_files ps kept.set kept.there in
          record {
            packages_there = ap (λ o. is_some (packages_at o)) there ∙ ap (λ (o : Option (List (List ℕ))). is_some o) kept.there ∙ sym (ap (λ (o : Option (List Numbered)). is_some o) there);
            files_there = ap (λ o. is_some (files_at o)) there ∙ ap (λ (o : Option (List (List ℕ))). is_some o) x.1 ∙ sym (ap (λ (o : Option (List Numbered)). is_some o) there);
            images = λ bs fs e f b.
                let y = all_files ps bs (sym (ap packages_at there) ∙ e) in
                let same : y.0 ≡ fs = same_Some y.0 fs (sym y.1 ∙ sym (ap files_at there) ∙ f) in
                image_is fs bs (subst (λ (gs : List (List ℕ)). AllZip (IsServed t) gs bs) same y.2) b;
            answers = λ fs a f answer. answer_is ps kept fs a (sym (ap files_at there) ∙ f) (subst (λ o. IsReleaseImage (packages_at o) t a) there answer);
          }

pub served_images_are_name_images : ServedImagesAreNameImages
served_images_are_name_images ps all m n = serves (after empty_history ps) (histories_are_kept ps all) m n
