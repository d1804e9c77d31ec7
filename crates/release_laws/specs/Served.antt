-- Law: the image of a release is the image by names of the objects that were given for its parts.
use Rattle.std.specs.Prelude.{◌≡◌, ◌↔◌, ℕ, List, map, Option, Some, is_some}
use Rattle.std.specs.List.{find, zip, AllByRecursion}
use Rattle.std.specs.Option.{option_map, option_and_then}
use Rattle.avr_elf.specs.Object.{object_of}
use Rattle.component_package.specs.packages.Reading.{component_of}
use Rattle.component_package.specs.link.Link.{IsImage}
use Rattle.name_laws.specs.NameImage.{IsNameImage}
use Rattle.release_rows.specs.declared.part.Numbered.{Numbered}
use Rattle.release_rows.specs.Tables.{is_version, stored_release}
use Rattle.release_rows.specs.Kept.{all_of}
use Rattle.release_judging.specs.Images.{packages_of_release}
use Rattle.http_replies.specs.declared.status.Status.TheVariants.{Success}
use Rattle.release_rules.specs.Machine.{AsksImage, Answer, IsAnswer}
use Rattle.release_laws.specs.Posted.{Posted, MayCome}
use Rattle.release_laws.specs.History.{History, empty_history, after}

-- the file of a version of a component
abbrev pub stored_file : History → ℕ → ℕ → Option (List ℕ)
stored_file h component version = option_map (λ x. x.0) (find (λ x. is_version component version x.1) (zip h.files h.tables.versions))

-- the files of these parts in their order, where all are there
abbrev pub files_of : History → List Numbered → Option (List (List ℕ))
files_of h parts = all_of (map (λ p. stored_file h p.component p.version) parts)

-- the files of a release
abbrev pub files_of_release : History → List ℕ → ℕ → Option (List (List ℕ))
files_of_release h mote number = option_and_then (files_of h) (stored_release h.tables mote number)

-- Each stored release has its packages and its files. Bytes are the image of the packages exactly where they are the image by names of the
-- files' objects, in the order of the release, and whatever answers a question for the image is a success with such bytes.
pub record ServesNameImages (h : History) (mote : List ℕ) (number : ℕ) : Type 0 where
  pub packages_there : is_some (packages_of_release h.tables mote number) ≡ is_some (stored_release h.tables mote number)
  pub files_there : is_some (files_of_release h mote number) ≡ is_some (stored_release h.tables mote number)
  pub images : (packages files : List (List ℕ)) → packages_of_release h.tables mote number ≡ Some packages → files_of_release h mote number ≡ Some files
      → (b : List ℕ) → IsImage (map component_of packages) b ↔ IsNameImage (map object_of files) b
  pub answers : (files : List (List ℕ)) (a : Answer) → files_of_release h mote number ≡ Some files → IsAnswer h.tables (AsksImage mote number) a
      → (a.status ≡ Success) × IsNameImage (map object_of files) a.body

-- so it is for every mote and number after any commands that may come
abbrev pub ServedImagesAreNameImages : Type 0
ServedImagesAreNameImages = (ps : List Posted) → AllByRecursion MayCome ps → (mote : List ℕ) (number : ℕ) → ServesNameImages (after empty_history ps) mote number
