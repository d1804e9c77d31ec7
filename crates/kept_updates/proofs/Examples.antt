-- The worked updates, by computing.
use Rattle.std.proofs.Common.{◌≡◌, ℕ, ◌<◌, true, List, [], length, refl, sym, ◌∙◌, inl, inr, arith, subst}
use Rattle.std.specs.Prelude.{slice_index, nat_lt}
use Rattle.std.specs.List.{list_all}
use Rattle.std.proofs.lemmas.List.{get_or_past}
use Rattle.std.proofs.lemmas.Bool.{cases_lt, false≢true}
use Rattle.std.proofs.lemmas.List.Folds.{list_all_at}
use Rattle.std.proofs.lemmas.Bool.Decides.{nat_tests}
use Rattle.sha2.specs.Sha256.{sha256, digest_bytes, hash_after, compress, rounds, schedule, first_words}
use Rattle.avr_reloc.specs.Field.{AreBytes}
use Rattle.component_package.specs.link.Link.{link_cause}
use Rattle.component_package.specs.mote.Page.{filled_page}
use Rattle.component_package.proofs.Laws.{faultless_bytes_spell}
use Rattle.kept_definitions.specs.Kept.{coming_set}
use Rattle.kept_laws.specs.Formatted.{formatted_mote}
use Rattle.kept_updates.specs.Update.{IsDelivered, IsUpdate}
use Rattle.kept_updates.specs.Rows.{sender_bytes, radio_bytes, later_radio_bytes, sender, radio, both, replaced, FirstUpdate, NextUpdates, UpdatesExist}

pub first_update : FirstUpdate
unfolding sha256 digest_bytes hash_after compress rounds schedule first_words link_cause filled_page coming_set formatted_mote
first_update = record { bytes = refl; count = refl; none = refl; answers = refl; again = refl; again_linked = refl; slots = refl; marks = refl }

pub next_updates : NextUpdates
unfolding sha256 digest_bytes hash_after compress rounds schedule first_words link_cause filled_page coming_set formatted_mote
next_updates = record { replaced = refl; slots = refl; marks = refl; overwritten = refl; turned = refl; disagreeing = refl }

-- bytes, by trying each
bytes_by_test : (b : List ℕ) → list_all (λ x. nat_lt x 256) b ≡ true → AreBytes b
bytes_by_test b e i = elim (cases_lt i (length b)) [
  | inl within ↦ elim (cases_lt (slice_index b i) 256) [
    | inl small ↦ small
    | inr great ↦ absurd (false≢true (sym (list_all_at (λ x. nat_lt x 256) b i 0 within (let r = great in grind (arith, nat_tests))) ∙ e))
  ]
  | inr past ↦ subst (λ n. n < 256) (sym (get_or_past b i 0 past)) (omega arith)
]

sender_is : IsDelivered sender
sender_is = record { spelled = faultless_bytes_spell.spells sender_bytes (bytes_by_test sender_bytes refl) refl; component = refl; version = refl }

radio_is : IsDelivered radio
radio_is = record { spelled = faultless_bytes_spell.spells radio_bytes (bytes_by_test radio_bytes refl) refl; component = refl; version = refl }

later_radio_is : IsDelivered (record { component = 2; version = 2; bytes = later_radio_bytes })
later_radio_is = record { spelled = faultless_bytes_spell.spells later_radio_bytes (bytes_by_test later_radio_bytes refl) refl; component = refl; version = refl }

first : IsUpdate 0 [] 1 both
unfolding link_cause
first = record {
  later = omega arith;
  small = omega arith;
  some = omega arith;
  few = omega arith;
  distinct = (refl, (refl, tt));
  delivered = (sender_is, (radio_is, tt));
  agree = (tt, (tt, tt));
  free = refl;
}

second : IsUpdate 1 both 2 replaced
unfolding link_cause
second = record {
  later = omega arith;
  small = omega arith;
  some = omega arith;
  few = omega arith;
  distinct = (refl, (refl, tt));
  delivered = (later_radio_is, (sender_is, tt));
  agree = (((λ c v. absurd cc), ((λ c v. absurd cc), tt)), (((λ c v. refl), ((λ c v. absurd cc), tt)), tt));
  free = refl;
}

pub updates_exist : UpdatesExist
updates_exist = record { first = first; second = second }
