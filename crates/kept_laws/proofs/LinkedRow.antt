-- A mote of layout 2 with a linked release is sound.
use Rattle.std.proofs.Common.{◌≡◌, ℕ, ◌<◌, true, List, [], ◌∷◌, None, length, refl, sym, ◌∙◌, subst, inl, inr, arith}
use Rattle.std.specs.Prelude.{slice_index, nat_lt}
use Rattle.std.specs.List.{list_all}
use Rattle.std.proofs.lemmas.List.{get_or_past}
use Rattle.std.proofs.lemmas.Bool.{cases_lt, false≢true}
use Rattle.std.proofs.lemmas.List.Folds.{list_all_at}
use Rattle.std.proofs.lemmas.Bool.Decides.{nat_tests}
use Rattle.sha2.specs.Sha256.{sha256, digest_bytes, hash_after, compress, rounds, schedule, first_words}
use Rattle.avr_reloc.specs.Field.{AreBytes}
use Rattle.component_package.specs.packages.Component.{Component}
use Rattle.component_package.specs.packages.Reading.{component_of}
use Rattle.component_package.specs.packages.Grammar.{Spells}
use Rattle.component_package.specs.packages.Manifest.{IsManifestEntry}
use Rattle.component_package.specs.link.Areas.{table_bytes, list_bytes, Tells, Lists}
use Rattle.component_package.specs.link.Link.{link_cause, IsImage}
use Rattle.component_package.specs.link.Pages.{IsTableOf, IsPages, listed, cut, padded}
use Rattle.component_package.proofs.Laws.{faultless_bytes_spell}
use Rattle.kept_definitions.specs.Stored.{Stores, stored_bytes}
use Rattle.kept_definitions.specs.Kept.{Chosen, HasComing, coming_set, kept_packages}
use Rattle.kept_definitions.specs.Sides.{kept_set}
use Rattle.kept_definitions.specs.Sound.{IsInstalled, Comes, HoldsSet, HasNoCause, HasLateCause, HasTable, HasList, HasImage, IsNext, IsSound}
use Rattle.kept_laws.specs.LinkedRow.{return_package, return_digest, return_entry, release_0, release_1, return_inbox, linked_parts, installed_parts, LinkedIsSound}
use Rattle.kept_laws.specs.Laws.{AreAll, IsInTable, IsPackageOf}
use Rattle.kept_laws.proofs.Sets.{kept_is_the_set}

-- bytes, by trying each
bytes_by_test : (b : List ℕ) → list_all (λ x. nat_lt x 256) b ≡ true → AreBytes b
bytes_by_test b e i = elim (cases_lt i (length b)) [
  | inl within ↦ elim (cases_lt (slice_index b i) 256) [
    | inl small ↦ small
    | inr great ↦ absurd (false≢true (sym (list_all_at (λ x. nat_lt x 256) b i 0 within (let r = great in grind (arith, nat_tests))) ∙ e))
  ]
  | inr past ↦ subst (λ n. n < 256) (sym (get_or_past b i 0 past)) (omega arith)
]

-- ---- releases

abbrev side_0 : List ℕ
side_0 = stored_bytes release_0

abbrev side_1 : List ℕ
side_1 = stored_bytes release_1

stores_0 : Stores side_0 release_0
stores_0 = record { stored = record { number = omega arith; few = omega arith; entries = tt; distinct = tt; slots = tt; apart = tt }; bytes = refl }

entry_is : IsManifestEntry return_entry
entry_is = record { component = omega arith; version = omega arith; least = omega arith; most = omega arith; digest = refl; bytes = bytes_by_test return_digest refl }

stores_1 : Stores side_1 release_1
stores_1 = record {
  stored = record { number = omega arith; few = omega arith; entries = (entry_is, tt); distinct = (refl, tt); slots = (omega arith, tt); apart = (refl, tt) };
  bytes = refl;
}

-- ---- the sets

abbrev set : List Component
set = component_of return_package ∷ []

abbrev now : Chosen
now = record { release = release_0; set = [] }

spelled : Spells return_package (component_of return_package)
spelled = faultless_bytes_spell.spells return_package (bytes_by_test return_package refl) refl

-- the package is in the inbox
there : HasComing now return_inbox release_1
unfolding sha256 digest_bytes hash_after compress rounds schedule first_words
there = (
  record {
    came = λ fresh. record { size = refl; digest = refl; component = component_of return_package; spelled = spelled; number = refl; version = refl };
    held = λ no. absurd cc;
  },
  tt,
)

none_kept : kept_set linked_parts.tables linked_parts.prog release_0 ≡ []
unfolding kept_packages
none_kept = refl

abbrev comes : Comes linked_parts.tables linked_parts.prog return_inbox side_0 side_1
comes = record { now = now; is_now = stores_0; set = none_kept; next = release_1; is_next = stores_1; there = there }

no_cause : link_cause set ≡ None
unfolding link_cause
no_cause = refl

no_cause_0 : link_cause [] ≡ None
unfolding link_cause
no_cause_0 = refl

-- ---- images

-- the pages of an image
pages : (cs : List Component) (image : List ℕ) → IsImage cs image → IsPages cs (cut (padded image))
pages cs image is = record { image = image; is = is; are = refl }

image_0 : IsImage [] []
image_0 = record { possible = no_cause_0; bytes = bytes_by_test [] refl; put = record { size = refl; plain = λ at covered. refl; fields = tt } }

image_1 : IsImage set (8 ∷ 149 ∷ [])
image_1 = record { possible = no_cause; bytes = bytes_by_test (8 ∷ 149 ∷ []) refl; put = record { size = refl; plain = λ at covered. refl; fields = tt } }

-- ---- areas

own_table : IsTableOf set []
own_table = record { rise = tt; each = tt; whole = λ s some. absurd cc }

tells : Tells (table_bytes []) []
tells = record { few = omega arith; symbols = tt; rise = tt; spelled = refl }

lists : Lists (list_bytes []) (listed set [])
lists = record { few = omega arith; entries = tt; rise = tt; spelled = refl }

-- ---- the words

-- nothing is installed
installed : IsInstalled linked_parts.tables linked_parts.prog side_0
unfolding IsInstalled kept_packages
installed = (release_0, stores_0, tt, pages [] [] image_0)

next : IsNext side_0 side_1
unfolding IsNext
next = (
  release_0,
  record { number = 1; entries = return_entry ∷ [] },
  stores_0,
  record { number = omega arith; some = omega arith; few = omega arith; entries = (entry_is, tt); distinct = (refl, tt) },
  omega arith,
  stores_1,
)

holds : HoldsSet linked_parts.tables linked_parts.prog return_inbox side_0 side_1
unfolding HoldsSet
holds = comes

free : HasNoCause linked_parts.tables linked_parts.prog return_inbox side_0 side_1
unfolding HasNoCause coming_set
free = (comes, no_cause)

late : HasLateCause linked_parts.tables linked_parts.prog return_inbox side_0 side_1
unfolding HasLateCause link_cause coming_set
late = (comes, tt)

table : HasTable linked_parts.tables linked_parts.prog return_inbox side_0 side_1 (table_bytes [])
unfolding HasTable coming_set
table = (comes, [], own_table, tells)

list : HasList linked_parts.tables linked_parts.prog return_inbox side_0 side_1 (list_bytes [])
unfolding HasList coming_set
list = (comes, [], own_table, lists)

staged : HasImage linked_parts.tables linked_parts.prog return_inbox side_0 side_1 (cut (padded (8 ∷ 149 ∷ [])))
unfolding HasImage coming_set
staged = (comes, pages set (8 ∷ 149 ∷ []) image_1)

linked_sound : IsSound linked_parts
linked_sound = record {
  formatted = refl;
  one_go = λ opened. absurd cc;
  going = λ pends. absurd cc;
  rest = λ calm. record {
    installed = installed;
    man_open = λ opened. next;
    sym_open = λ opened. record { incoming = refl; set = holds; cause = late; table = table };
    rel_open = λ opened. record { merged = refl; cause = free; list = list };
    img_open = λ opened. record { listed = refl; image = staged };
  };
}

-- ---- after the installation

-- the component's package is the entry's
its_package : IsPackageOf return_entry (component_of return_package)
unfolding sha256 digest_bytes hash_after compress rounds schedule first_words
its_package = record { component = spelled.component; size = refl; digest = refl; number = refl; version = refl }

-- its run is in the table slot
in_table : AreAll (IsInTable installed_parts.tables) release_1.placed set
in_table = (record { entry = its_package; run = record { rest = 255 ∷ 1 ∷ 2 ∷ []; is = refl } }, tt)

image_pages : IsPages set installed_parts.prog
image_pages = pages set (8 ∷ 149 ∷ []) image_1

after : IsInstalled installed_parts.tables installed_parts.prog side_1
unfolding IsInstalled
after = (
  release_1,
  stores_1,
  kept_is_the_set.packages installed_parts.tables installed_parts.prog release_1 set image_pages in_table,
  subst (λ (cs : List Component). IsPages cs installed_parts.prog) (sym (kept_is_the_set.set installed_parts.tables installed_parts.prog release_1 set image_pages in_table)) image_pages,
)

installed_sound : IsSound installed_parts
installed_sound = record {
  formatted = refl;
  one_go = λ opened. absurd cc;
  going = λ pends. absurd cc;
  rest = λ calm. record {
    installed = after;
    man_open = λ opened. absurd cc;
    sym_open = λ opened. absurd cc;
    rel_open = λ opened. absurd cc;
    img_open = λ opened. absurd cc;
  };
}

pub linked_is_sound : LinkedIsSound
linked_is_sound = record { linked = linked_sound; installed = installed_sound }
