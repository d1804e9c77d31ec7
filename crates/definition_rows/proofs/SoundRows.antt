-- Each field of soundness counts.
use Rattle.std.proofs.Common.{◌≡◌, ℕ, ◌<◌, true, false, List, [], Bool, refl, sym, ap, subst, ◌∙◌, arith}
use Rattle.component_package.specs.packages.Component.{Component}
use Rattle.component_package.specs.link.Areas.{MergedSymbol, table_bytes, list_bytes}
use Rattle.component_package.specs.link.Pages.{IsPages, listed, cut, padded}
use Rattle.component_package.specs.packages.Manifest.{StoredRelease, Stores}
use Rattle.component_package.specs.mote.Store.{components_of}
use Rattle.component_package.specs.mote.Sides.{Parts, chosen_side, other_side, is_on_b}
use Rattle.component_package.specs.mote.Sound.{HasTable, HasList, HasImage, IsNext}
use Rattle.component_package.proofs.ManifestLaws.{stored_release_is_one}
use Rattle.link_laws.proofs.Table.{table_one}
use Rattle.link_laws.proofs.Own.{image_one}
use Rattle.mote_laws.specs.Steps.{with_other_side}
use Rattle.mote_laws.proofs.Words.{words_say_what_they_mean}
use Rattle.definition_rows.specs.SoundRows.{EachFieldCounts, EachImageCounts, EachGateCounts}

-- ---- what a side says is one

-- the pages of a set are one list of pages
one_image : (set : List Component) (a b : List (List ℕ)) → IsPages set a → IsPages set b → a ≡ b
one_image set a b x y = x.are ∙ ap (λ (bytes : List ℕ). cut (padded bytes)) (image_one set x.image y.image x.is y.is) ∙ sym y.are

-- a side has one image
same_image : (slots : List (List ℕ)) (side : List ℕ) (a b : List (List ℕ)) → HasImage slots side a → HasImage slots side b → a ≡ b
unfolding HasImage
same_image slots side a b (m, stores, is) other = one_image (components_of slots m) a b is (((words_say_what_they_mean slots side m stores).image b).0 other)

-- one symbol table
same_table : (slots : List (List ℕ)) (side a b : List ℕ) → HasTable slots side a → HasTable slots side b → a ≡ b
unfolding HasTable
same_table slots side a b (m, t, stores, is, tells) other =
    let y = ((words_say_what_they_mean slots side m stores).table b).0 other in
    tells.spelled ∙ ap table_bytes (table_one (components_of slots m) t y.0 is y.1) ∙ sym y.2.spelled

-- one relocation list
same_list : (slots : List (List ℕ)) (side a b : List ℕ) → HasList slots side a → HasList slots side b → a ≡ b
unfolding HasList
same_list slots side a b (m, t, stores, is, lists) other =
    let y = ((words_say_what_they_mean slots side m stores).list b).0 other in
    lists.spelled ∙ ap (λ (table : List MergedSymbol). list_bytes (listed (components_of slots m) table)) (table_one (components_of slots m) t y.0 is y.1) ∙ sym y.2.spelled

-- ---- the words at a side that stores m

-- the other side becomes these bytes
other_is : (p : Parts) (bytes : List ℕ) → other_side (with_other_side bytes p) ≡ bytes
other_is p bytes = by_side (is_on_b p) refl
  where
    by_side : (b : Bool) → is_on_b p ≡ b → other_side (with_other_side bytes p) ≡ bytes
    by_side true e = rw e refl
    by_side false e = rw e refl

-- and the chosen one stays
chosen_is : (p : Parts) (bytes : List ℕ) → chosen_side (with_other_side bytes p) ≡ chosen_side p
chosen_is p bytes = by_side (is_on_b p) refl
  where
    by_side : (b : Bool) → is_on_b p ≡ b → chosen_side (with_other_side bytes p) ≡ chosen_side p
    by_side true e = rw e refl
    by_side false e = rw e refl

-- what is next is above
next_above : (current bytes : List ℕ) (m n : StoredRelease) → Stores current m → Stores bytes n → IsNext current bytes → m.number < n.number
next_above current bytes m n stores other next =
    let x = ((words_say_what_they_mean [] current m stores).next bytes).0 next in
    subst (λ (k : StoredRelease). m.number < k.number) (stored_release_is_one.release bytes _ n x.3 other) x.2

-- what is next is stored
next_stored : (current bytes : List ℕ) → ((n : StoredRelease) → Stores bytes n → ⊥) → IsNext current bytes → ⊥
unfolding IsNext
next_stored current bytes none (m, r, stores, is, above, other) = none _ other

-- ---- the laws

pub each_field_counts : EachFieldCounts
each_field_counts = record {
  formatted = λ p sound. (let no = sound.formatted in cc);
  one_go = λ p opened sound. (let no = sound.one_go opened in cc);
  chosen_set = λ p slots m stores none sound. none ((words_say_what_they_mean slots (chosen_side p) m stores).no_cause.0 sound.chosen).0;
  chosen_cause = λ p slots m stores some sound. some ((words_say_what_they_mean slots (chosen_side p) m stores).no_cause.0 sound.chosen).1;
}

pub each_image_counts : EachImageCounts
each_image_counts = record {
  staged = λ p pages pends sound other changed. other (same_image p.slots (chosen_side p) pages p.staged (changed.pending pends) (sound.pending pends));
  prog = λ p pages calm sound other changed. other (same_image p.slots (chosen_side p) pages p.prog (changed.rest calm).prog (sound.rest calm).prog);
}

pub each_gate_counts : EachGateCounts
each_gate_counts = record {
  man_release = λ p bytes calm opened none sound. next_stored (chosen_side p) bytes none (next p bytes ((sound.rest calm).man_open opened));
  man_above = λ p bytes m n calm opened stores other low sound.
      (let above = next_above (chosen_side p) bytes m n stores other (next p bytes ((sound.rest calm).man_open opened)) in omega (arith, above, low));
  sym_man = λ p calm opened sound. (let no = ((sound.rest calm).sym_open opened).incoming in cc);
  sym_set = λ p slots m calm opened stores none sound. none ((words_say_what_they_mean slots (other_side p) m stores).set.0 ((sound.rest calm).sym_open opened).set);
  sym_cause = λ p slots m calm opened stores none sound. none ((words_say_what_they_mean slots (other_side p) m stores).late_cause.0 ((sound.rest calm).sym_open opened).cause).1;
  sym_table = λ p area calm opened sound other changed. other (same_table p.slots (other_side p) area p.symbols ((changed.rest calm).sym_open opened).table ((sound.rest calm).sym_open opened).table);
  rel_sym = λ p calm opened sound. (let no = ((sound.rest calm).rel_open opened).merged in cc);
  rel_cause = λ p slots m calm opened stores some sound. some ((words_say_what_they_mean slots (other_side p) m stores).no_cause.0 ((sound.rest calm).rel_open opened).cause).1;
  rel_list = λ p area calm opened sound other changed. other (same_list p.slots (other_side p) area p.relocs ((changed.rest calm).rel_open opened).list ((sound.rest calm).rel_open opened).list);
  img_rel = λ p calm opened sound. (let no = ((sound.rest calm).img_open opened).listed in cc);
  img_image = λ p pages calm opened sound other changed. other (same_image p.slots (other_side p) pages p.staged ((changed.rest calm).img_open opened).image ((sound.rest calm).img_open opened).image);
}
  where
    next : (p : Parts) (bytes : List ℕ) → IsNext (chosen_side (with_other_side bytes p)) (other_side (with_other_side bytes p)) → IsNext (chosen_side p) bytes
    next p bytes is = subst (λ (side : List ℕ). IsNext side bytes) (chosen_is p bytes) (subst (λ (side : List ℕ). IsNext (chosen_side (with_other_side bytes p)) side) (other_is p bytes) is)
