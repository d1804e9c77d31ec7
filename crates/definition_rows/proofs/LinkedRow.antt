-- A mote with a linked release is sound.
use Rattle.std.proofs.Common.{◌≡◌, ℕ, List, [], ◌∷◌, None, refl, arith}
use Rattle.sha2.specs.Sha256.{sha256, digest_bytes, hash_after, compress, rounds, schedule, first_words}
use Rattle.component_package.specs.packages.Component.{Component}
use Rattle.component_package.specs.packages.Reading.{component_of}
use Rattle.component_package.specs.packages.Grammar.{Spells}
use Rattle.component_package.specs.packages.Manifest.{IsManifestEntry, Stores, stored_bytes}
use Rattle.component_package.specs.link.Areas.{table_bytes, list_bytes, Tells, Lists}
use Rattle.component_package.specs.link.Link.{link_cause, IsImage}
use Rattle.component_package.specs.link.Pages.{IsTableOf, IsPages, listed, cut, padded}
use Rattle.component_package.specs.mote.Store.{HasSet}
use Rattle.component_package.specs.mote.Sound.{HoldsSet, HasNoCause, HasLateCause, HasTable, HasList, HasImage, IsNext}
use Rattle.component_package.proofs.Laws.{faultless_bytes_spell}
use Rattle.definition_rows.specs.LinkedRow.{return_package, return_digest, return_entry, release_0, release_1, return_slots, LinkedIsSound}
use Rattle.definition_rows.proofs.Examples.{bytes_by_test, by_trying}

-- ---- releases

abbrev side_0 : List ℕ
side_0 = stored_bytes release_0

abbrev side_1 : List ℕ
side_1 = stored_bytes release_1

stores_0 : Stores side_0 release_0
stores_0 = record { stored = record { number = omega arith; few = omega arith; entries = tt; distinct = tt; slots = tt; apart = tt }; bytes = refl }

entry_is : IsManifestEntry return_entry
entry_is = record { component = omega arith; version = omega arith; least = omega arith; most = omega arith; digest = refl; bytes = bytes_by_test return_digest refl }

stores_1 : Stores side_1 release_1
stores_1 = record {
  stored = record { number = omega arith; few = omega arith; entries = (entry_is, tt); distinct = (refl, tt); slots = (omega arith, tt); apart = (refl, tt) };
  bytes = refl;
}

-- ---- the set

abbrev set : List Component
set = component_of return_package ∷ []

spelled : Spells return_package (component_of return_package)
spelled = faultless_bytes_spell.spells return_package (bytes_by_test return_package refl) refl

has_set : HasSet return_slots release_1
unfolding sha256 digest_bytes hash_after compress rounds schedule first_words
has_set = (record { digest = refl; component = component_of return_package; spelled = spelled; number = refl; version = refl }, tt)

no_cause : link_cause set ≡ None
unfolding link_cause
no_cause = refl

no_cause_0 : link_cause [] ≡ None
unfolding link_cause
no_cause_0 = refl

-- ---- images

-- the pages of an image
pages : (cs : List Component) (image : List ℕ) → IsImage cs image → IsPages cs (cut (padded image))
pages cs image is = record { image = image; is = is; are = refl }

image_0 : IsImage [] []
image_0 = by_trying [] [] no_cause_0 refl refl refl tt

image_1 : IsImage set (8 ∷ 149 ∷ [])
image_1 = by_trying set (8 ∷ 149 ∷ []) no_cause refl refl refl tt

-- ---- areas

own_table : IsTableOf set []
own_table = record { rise = tt; each = tt; whole = λ s some. absurd cc }

tells : Tells (table_bytes []) []
tells = record { few = omega arith; symbols = tt; rise = tt; spelled = refl }

lists : Lists (list_bytes []) (listed set [])
lists = record { few = omega arith; entries = tt; rise = tt; spelled = refl }

-- ---- the words

next : IsNext side_0 side_1
unfolding IsNext
next = (
  release_0,
  record { number = 1; entries = return_entry ∷ [] },
  stores_0,
  record { number = omega arith; some = omega arith; few = omega arith; entries = (entry_is, tt); distinct = (refl, tt) },
  omega arith,
  stores_1,
)

chosen : HasNoCause return_slots side_0
unfolding HasNoCause
chosen = (release_0, stores_0, tt, no_cause_0)

holds : HoldsSet return_slots side_1
unfolding HoldsSet
holds = (release_1, stores_1, has_set)

other : HasNoCause return_slots side_1
unfolding HasNoCause
other = (release_1, stores_1, has_set, no_cause)

late : HasLateCause return_slots side_1
unfolding HasLateCause link_cause
late = (release_1, stores_1, has_set, tt)

table : HasTable return_slots side_1 (table_bytes [])
unfolding HasTable
table = (release_1, [], stores_1, own_table, tells)

list : HasList return_slots side_1 (list_bytes [])
unfolding HasList
list = (release_1, [], stores_1, own_table, lists)

prog : HasImage return_slots side_0 (cut (padded []))
unfolding HasImage
prog = (release_0, stores_0, pages [] [] image_0)

staged : HasImage return_slots side_1 (cut (padded (8 ∷ 149 ∷ [])))
unfolding HasImage
staged = (release_1, stores_1, pages set (8 ∷ 149 ∷ []) image_1)

pub linked_is_sound : LinkedIsSound
linked_is_sound = record {
  formatted = refl;
  one_go = λ opened. absurd cc;
  chosen = chosen;
  pending = λ pends. absurd cc;
  rest = λ calm. record {
    prog = prog;
    man_open = λ opened. next;
    sym_open = λ opened. record { incoming = refl; set = holds; cause = late; table = table };
    rel_open = λ opened. record { merged = refl; cause = other; list = list };
    img_open = λ opened. record { listed = refl; image = staged };
  };
}
