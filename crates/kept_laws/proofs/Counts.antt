-- Each field of soundness counts.
use Rattle.std.proofs.Common.{◌≡◌, ◌≢◌, ℕ, ◌<◌, true, false, List, None, refl, sym as flip, ap, subst, ◌∙◌, arith}
use Rattle.component_package.specs.packages.Component.{Component}
use Rattle.component_package.specs.link.Areas.{MergedSymbol, table_bytes, list_bytes}
use Rattle.component_package.specs.link.Link.{link_cause}
use Rattle.component_package.specs.link.Pages.{IsPages, listed, cut, padded}
use Rattle.link_laws.proofs.Table.{table_one}
use Rattle.link_laws.proofs.Own.{image_one}
use Rattle.kept_definitions.specs.Stored.{StoredRelease, Stores}
use Rattle.kept_definitions.specs.Kept.{Chosen, coming_set}
use Rattle.kept_definitions.specs.Sides.{Parts, chosen_side, other_side, is_pending, kept_set, going_set, set_of}
use Rattle.kept_definitions.specs.Sound.{IsSound, Comes, HasTable, HasList, HasImage, IsNext}
use Rattle.kept_definitions.specs.Headline.{Chooses}
use Rattle.kept_laws.specs.Steps.{with_other_side}
use Rattle.kept_laws.specs.Words.{WordsSay}
use Rattle.kept_laws.specs.Counts.{IsUnsound, EachFieldCounts, EachImageCounts, EachGateCounts}
use Rattle.kept_laws.proofs.Stored.{release_one}
use Rattle.kept_laws.proofs.Steps.{at_rest, standing}
use Rattle.kept_laws.proofs.Stands.{parts_stand_for_one}
use Rattle.kept_laws.proofs.Says.{words_say_what_they_mean, image_is_the_chosens}

-- ---- what is known

-- where no commit stands, of the chosen set and the release that comes in
known : (p : Parts) (now : Chosen) (m : StoredRelease) → is_pending p ≡ false → Chooses p now → Stores (other_side p) m → WordsSay p.tables p.prog p.inbox (chosen_side p) (other_side p) now m
known p now m calm chooses stores =
    words_say_what_they_mean.coming p.tables p.prog p.inbox (chosen_side p) (other_side p) now m
    (record { is_now = chooses.release; set = flip (at_rest p now.release calm) ∙ chooses.set; is_next = stores })

-- of what comes in
by_coming : (tables prog inbox : List (List ℕ)) (current side : List ℕ) (c : Comes tables prog inbox current side) → WordsSay tables prog inbox current side c.now c.next
by_coming tables prog inbox current side c =
    words_say_what_they_mean.coming tables prog inbox current side c.now c.next (record { is_now = c.is_now; set = c.set; is_next = c.is_next })

-- ---- areas are one

-- the pages of a set are one list of pages
one_image : (set : List Component) (a b : List (List ℕ)) → IsPages set a → IsPages set b → a ≡ b
one_image set a b x y = x.are ∙ ap (λ (bytes : List ℕ). cut (padded bytes)) (image_one set x.image y.image x.is y.is) ∙ flip y.are

-- a set that comes in has one image
same_image : (tables prog inbox : List (List ℕ)) (current side : List ℕ) (a b : List (List ℕ)) → HasImage tables prog inbox current side a → HasImage tables prog inbox current side b → a ≡ b
unfolding HasImage
same_image tables prog inbox current side a b (c, is) other =
    one_image (coming_set c.now inbox c.next) a b is (((by_coming tables prog inbox current side c).image b).0 other).1

-- one symbol table
same_table : (tables prog inbox : List (List ℕ)) (current side a b : List ℕ) → HasTable tables prog inbox current side a → HasTable tables prog inbox current side b → a ≡ b
unfolding HasTable
same_table tables prog inbox current side a b (c, t, is, tells) other =
    let y = (((by_coming tables prog inbox current side c).table b).0 other).1 in
    tells.spelled ∙ ap table_bytes (table_one (coming_set c.now inbox c.next) t y.0 is y.1) ∙ flip y.2.spelled

-- one relocation list
same_list : (tables prog inbox : List (List ℕ)) (current side a b : List ℕ) → HasList tables prog inbox current side a → HasList tables prog inbox current side b → a ≡ b
unfolding HasList
same_list tables prog inbox current side a b (c, t, is, lists) other =
    let y = (((by_coming tables prog inbox current side c).list b).0 other).1 in
    lists.spelled ∙ ap (λ (table : List MergedSymbol). list_bytes (listed (coming_set c.now inbox c.next) table)) (table_one (coming_set c.now inbox c.next) t y.0 is y.1) ∙ flip y.2.spelled

-- ---- the other side

-- it becomes these bytes
other_is : (p : Parts) (bytes : List ℕ) → other_side (with_other_side bytes p) ≡ bytes
other_is p bytes = grind arith

-- and the chosen one stays
chosen_is : (p : Parts) (bytes : List ℕ) → chosen_side (with_other_side bytes p) ≡ chosen_side p
chosen_is p bytes = grind arith

-- what is next is above
next_above : (current bytes : List ℕ) (m n : StoredRelease) → Stores current m → Stores bytes n → IsNext current bytes → m.number < n.number
next_above current bytes m n stores other next =
    let x = ((words_say_what_they_mean.side current m stores).next bytes).0 next in
    subst (λ (k : StoredRelease). m.number < k.number) (release_one bytes _ n x.3 other) x.2

-- what is next is stored
next_stored : (current bytes : List ℕ) → ((n : StoredRelease) → Stores bytes n → ⊥) → IsNext current bytes → ⊥
unfolding IsNext
next_stored current bytes none (m, r, stores, release, above, other) = none _ other

-- ---- the laws

-- some release is chosen
chosen_stored : (p : Parts) → ((m : StoredRelease) → Stores (chosen_side p) m → ⊥) → IsUnsound p
chosen_stored p none sound = (let mote = parts_stand_for_one.some p sound in none mote.0.current.release mote.1.current.release)

-- nothing refuses it
chosen_free : (p : Parts) (m : StoredRelease) → Stores (chosen_side p) m → link_cause (set_of p m) ≢ None → IsUnsound p
chosen_free p m stores some sound = some (image_is_the_chosens.whole p (record { release = m; set = set_of p m }) sound (record { release = stores; set = refl })).1

pub each_field_counts : EachFieldCounts
each_field_counts = record {
  formatted = λ p sound. (let no = sound.formatted in cc);
  one_go = λ p opened sound. (let no = sound.one_go opened in cc);
  chosen_release = chosen_stored;
  chosen_cause = chosen_free;
  kept_there = λ p m calm stores none sound. none (((words_say_what_they_mean.side (chosen_side p) m stores).installed p.tables p.prog).0 (sound.rest calm).installed).0;
  kept_image = λ p m calm stores none sound. none (((words_say_what_they_mean.side (chosen_side p) m stores).installed p.tables p.prog).0 (sound.rest calm).installed).1;
  going_there = λ p m pends stores none sound. none (((words_say_what_they_mean.side (chosen_side p) m stores).going p.tables p.inbox p.staged).0 (sound.going pends)).0;
  going_image = λ p m pends stores none sound. none (((words_say_what_they_mean.side (chosen_side p) m stores).going p.tables p.inbox p.staged).0 (sound.going pends)).1;
}

-- another image in program flash, and another one that is staged
prog_one : (p : Parts) (pages : List (List ℕ)) (c : Chosen) → is_pending p ≡ false → IsSound p → Chooses p c → kept_set p.tables pages c.release ≡ c.set → pages ≢ p.prog
    → IsUnsound (record p { prog = pages })
prog_one p pages c calm sound chooses same other changed =
    let q : Parts = record p { prog = pages } in
    let here : Chooses q c = record { release = chooses.release; set = at_rest q c.release calm ∙ same } in
    other (one_image c.set pages p.prog (image_is_the_chosens.boots q c changed calm here) (image_is_the_chosens.boots p c sound calm chooses))

staged_one : (p : Parts) (pages : List (List ℕ)) (c : Chosen) → is_pending p ≡ true → IsSound p → Chooses p c → going_set p.tables p.inbox pages c.release ≡ c.set
    → pages ≢ p.staged → IsUnsound (record p { staged = pages })
staged_one p pages c pends sound chooses same other changed =
    let q : Parts = record p { staged = pages } in
    let here : Chooses q c = record { release = chooses.release; set = standing q c.release pends ∙ same } in
    other (one_image c.set pages p.staged (image_is_the_chosens.stands q c changed pends here) (image_is_the_chosens.stands p c sound pends chooses))

pub each_image_counts : EachImageCounts
each_image_counts = record { prog = prog_one; staged = staged_one }

pub each_gate_counts : EachGateCounts
each_gate_counts = record {
  man_release = λ p bytes calm opened none sound. next_stored (chosen_side p) bytes none (next p bytes ((sound.rest calm).man_open opened));
  man_above = λ p bytes m n calm opened stores other low sound.
      (let above = next_above (chosen_side p) bytes m n stores other (next p bytes ((sound.rest calm).man_open opened)) in omega (arith, above, low));
  sym_man = λ p calm opened sound. (let no = ((sound.rest calm).sym_open opened).incoming in cc);
  sym_set = λ p now m calm opened chooses stores none sound. none ((known p now m calm chooses stores).set.0 ((sound.rest calm).sym_open opened).set);
  sym_cause = λ p now m calm opened chooses stores none sound. none ((known p now m calm chooses stores).late_cause.0 ((sound.rest calm).sym_open opened).cause).1;
  sym_table = λ p area calm opened sound other changed.
      other (same_table p.tables p.prog p.inbox (chosen_side p) (other_side p) area p.symbols ((changed.rest calm).sym_open opened).table ((sound.rest calm).sym_open opened).table);
  rel_sym = λ p calm opened sound. (let no = ((sound.rest calm).rel_open opened).merged in cc);
  rel_cause = λ p now m calm opened chooses stores some sound. some ((known p now m calm chooses stores).no_cause.0 ((sound.rest calm).rel_open opened).cause).1;
  rel_list = λ p area calm opened sound other changed.
      other (same_list p.tables p.prog p.inbox (chosen_side p) (other_side p) area p.relocs ((changed.rest calm).rel_open opened).list ((sound.rest calm).rel_open opened).list);
  img_rel = λ p calm opened sound. (let no = ((sound.rest calm).img_open opened).listed in cc);
  img_image = λ p pages calm opened sound other changed.
      other (same_image p.tables p.prog p.inbox (chosen_side p) (other_side p) pages p.staged ((changed.rest calm).img_open opened).image ((sound.rest calm).img_open opened).image);
}
  where
    next : (p : Parts) (bytes : List ℕ) → IsNext (chosen_side (with_other_side bytes p)) (other_side (with_other_side bytes p)) → IsNext (chosen_side p) bytes
    next p bytes is = subst (λ (side : List ℕ). IsNext side bytes) (chosen_is p bytes) (subst (λ (side : List ℕ). IsNext (chosen_side (with_other_side bytes p)) side) (other_is p bytes) is)
