-- What holds of each mote that frames of bytes lead to.
use Rattle.std.proofs.Common.{◌≡◌, ⊎_elim, ℕ, zero, suc, ◌+◌, ◌*◌, ◌<◌, ◌&&◌, Bool, true, false, not, List, [], ◌∷◌, ◌++◌, length, take, drop, get_or, set, replicate, Option, Some, None, is_some, slice_get, refl, sym, ap, ◌∙◌, subst, arith, get_or-set_same, get_or-set_other, length-set}
use Rattle.std.proofs.lemmas.Bool.{false≢true, both_ways, and_from, not_from_false, cases_lt, cases_eq}
use Rattle.std.proofs.lemmas.Option.{same_Some}
use Rattle.std.proofs.lemmas.List.{get_or-take, get_or-drop, get_or_past, get_or-replicate, length-take, length-replicate}
use Rattle.avr_reloc.specs.Field.{AreBytes}
use Rattle.component_package.specs.packages.Component.{Component}
use Rattle.component_package.specs.link.Link.{link_cause}
use Rattle.component_package.specs.packages.Manifest.{StoredRelease, Placed, IsStored, release_in}
use Rattle.component_package.specs.mote.Store.{HasSet, components_of, held_slot, slots_for}
use Rattle.component_package.specs.mote.Page.{filled_page}
use Rattle.component_package.specs.mote.Sides.{Parts, img, chosen_side, other_side, is_pending}
use Rattle.component_package.specs.mote.Sound.{IsSound, HasNoCause}
use Rattle.component_package.specs.mote.Headline.{StandsFor, StandsForIncoming}
use Rattle.component_package.specs.mote.Frames.{Frame, OnlyLastEnds}
use Rattle.component_package.specs.mote.Machine.{Mote, Chosen, chosen_of, with_page_of, step, boot_frame, mote_from}
use Rattle.component_package.proofs.ManifestLaws.{faultless_manifests_spell, stored_release_is_one}
use Rattle.mote_laws.specs.Steps.{IsUnused}
use Rattle.mote_laws.specs.Runs.{IsWhole, IsLinkedWhole}
use Rattle.mote_laws.specs.Sets.{AreByteSlots}
use Rattle.mote_laws.specs.Formatted.{formatted_mote}
use Rattle.mote_laws.specs.Invariant.{ComesNext, IsMote, AreByteFrames, FramesAreByteFrames, MotesStayMotes, SoundIsAMote}
use Rattle.mote_laws.proofs.Kept.{set_kept, components_kept}
use Rattle.mote_laws.proofs.Slots.{slots_are_found}
use Rattle.mote_laws.proofs.Sets.{sets_are_faultless}
use Rattle.mote_laws.proofs.Rows.{each_row}
use Rattle.mote_laws.proofs.Runs.{keeps_whole, free_incoming}
use Rattle.mote_laws.proofs.Stands.{not_held, calm_where_linked, some_comes, coming_where_linked}
use Rattle.mote_laws.proofs.Motes.{comes_next}
use Rattle.mote_laws.proofs.Words.{words_say_what_they_mean}

-- ---- bytes

-- bytes behind bytes
bytes_append : (a b : List ℕ) → AreBytes a → AreBytes b → AreBytes (a ++ b)
bytes_append [] b one more i = more i
bytes_append (x ∷ a) b one more zero = one 0
bytes_append (x ∷ a) b one more (suc i) = bytes_append a b (λ k. one (suc k)) more i

-- some of the first bytes
pub bytes_take : (n : ℕ) (a : List ℕ) → AreBytes a → AreBytes (take n a)
bytes_take n a bytes i = ⊎_elim (λ low. rw (get_or-take n a i 0 low) (bytes i)) (λ high. rw (get_or_past (take n a) i 0 (omega (arith, length-take n a))) (omega arith)) (cases_lt i n)

-- the bytes behind some
pub bytes_drop : (n : ℕ) (a : List ℕ) → AreBytes a → AreBytes (drop n a)
bytes_drop n a bytes i = rw (get_or-drop n a i 0) (bytes (n + i))

-- one byte again and again
bytes_replicate : (n x : ℕ) → x < 256 → AreBytes (replicate n x)
bytes_replicate n x small i = ⊎_elim (λ low. rw (get_or-replicate n i x 0 low) small) (λ high. rw (get_or_past (replicate n x) i 0 (omega (arith, length-replicate n x))) (omega arith)) (cases_lt i n)

-- a slot with a page of bytes in it
pub bytes_page : (page : ℕ) (bytes slot : List ℕ) → AreBytes bytes → AreBytes slot → AreBytes (with_page_of page bytes slot)
unfolding filled_page
bytes_page page bytes slot new old =
    bytes_append (take (256 * page) slot) (take 256 (bytes ++ replicate 256 255) ++ drop (256 * page + 256) slot) (bytes_take (256 * page) slot old)
    (bytes_append (take 256 (bytes ++ replicate 256 255)) (drop (256 * page + 256) slot)
    (bytes_take 256 (bytes ++ replicate 256 255) (bytes_append bytes (replicate 256 255) new (bytes_replicate 256 255 (omega arith))))
    (bytes_drop (256 * page + 256) slot old))

-- no bytes
bytes_none : AreBytes []
bytes_none i = omega arith

-- slots with one of them set
pub slots_set : (store : List (List ℕ)) (s : ℕ) (slot : List ℕ) → AreByteSlots store → AreBytes slot → AreByteSlots (set store s slot)
slots_set store s slot all one t = ⊎_elim
    (λ same. ⊎_elim
    (λ within. subst AreBytes (sym (ap (λ k. get_or (set store s slot) k []) same ∙ get_or-set_same store s slot [] within)) one)
    (λ past. subst AreBytes (sym (get_or_past (set store s slot) t [] (omega (arith, length-set store s slot)))) bytes_none)
    (cases_lt s (length store)))
    (λ apart. subst AreBytes (sym (get_or-set_other store s t slot [] apart)) (all t))
    (cases_eq t s)

-- ---- what comes in

-- the slot of an entry that isn't held is no slot of the current release
pub next_unused : (current m : StoredRelease) (k : ℕ) (p : Placed) → IsStored current → ComesNext current (Some m) → slice_get m.placed k ≡ Some p → is_some (held_slot current p.entry) ≡ false → IsUnused current p.slot
next_unused current m k p stored (r, release, above, is) at new =
    slots_are_found.new current r k p stored release (ap (λ (n : StoredRelease). slice_get n.placed k) (sym is) ∙ at) (not_held (held_slot current p.entry) new)

-- what comes next is a stored release
next_stored : (current m : StoredRelease) → IsStored current → ComesNext current (Some m) → IsStored m
next_stored current m stored (r, release, above, is) = subst IsStored (sym is) (slots_are_found.stored current r stored release)

-- what comes in where the option is known
pub comes_some : (s : Mote) (m : StoredRelease) → IsMote s → s.incoming ≡ Some m → ComesNext s.current (Some m)
comes_some s m mote is = subst (ComesNext s.current) is mote.incoming

-- the set of what is whole
whole_set : (s : Mote) (m : StoredRelease) → AreByteSlots s.store → s.incoming ≡ Some m → IsWhole s → HasSet s.store m
whole_set s m bytes is whole =
    let same : whole.release ≡ m = same_Some whole.release m (sym whole.incoming ∙ is) in
    subst (HasSet s.store) same (sets_are_faultless.whole s.store whole.release bytes whole.faultless)

-- ---- the step

-- all of it but that what is linked is whole, which each step keeps by itself
record Stays (s : Mote) : Type 0 where
  bytes : AreByteSlots s.store
  current : IsStored s.current
  set : HasSet s.store s.current
  free : link_cause (components_of s.store s.current) ≡ None
  incoming : ComesNext s.current s.incoming

-- a mote with the same release and slots, and another release that comes in
stays_with : (s : Mote) (next : Option StoredRelease) (linked standing : Bool) → IsMote s → ComesNext s.current next
    → Stays (record { current = s.current; incoming = next; store = s.store; linked = linked; standing = standing })
stays_with s next linked standing mote comes = record { bytes = mote.bytes; current = mote.current; set = mote.set; free = mote.free; incoming = comes }

-- frames that only the last one ends have bytes as payloads
only_bytes : (fs : List Frame) → OnlyLastEnds fs → AreByteFrames fs
only_bytes [] each = tt
only_bytes (f ∷ fs) each = (each.0.bytes, only_bytes fs each.2)

-- so have those that a line gives
pub byte_frames : FramesAreByteFrames
byte_frames bytes fs rest are = only_bytes fs are.each

-- each step, by its row
step_stays : (s : Mote) (f : Frame) → AreBytes f.payload → IsMote s → Stays (step s f).mote
step_stays s f payload mote = each_row s f (λ x. Stays x.mote) (record {
  refused = λ a served said. stays_with s s.incoming s.linked s.standing mote mote.incoming;
  repeated = λ stands. stays_with s s.incoming s.linked s.standing mote mote.incoming;
  booted = stays_with s s.incoming s.linked false mote mote.incoming;
  manifest = λ calm faultless above.
      stays_with s (Some (slots_for s.current (release_in f.payload))) false s.standing mote (release_in f.payload, (faultless_manifests_spell.spells f.payload payload faultless).release, above, refl);
  piece = λ m p k page bytes calm is at new fits said.
      let unused = next_unused s.current m k p mote.current (comes_some s m mote is) at new in
      let slot = with_page_of page bytes (get_or s.store p.slot []) in
      record {
        bytes = slots_set s.store p.slot slot mote.bytes (bytes_page page bytes (get_or s.store p.slot []) (subst AreBytes (sym said) (bytes_drop 2 f.payload payload)) (mote.bytes p.slot));
        current = mote.current;
        set = set_kept s.store p.slot slot s.current unused mote.set;
        free = ap link_cause (components_kept s.store p.slot slot s.current unused) ∙ mote.free;
        incoming = mote.incoming;
      };
  linked = λ m calm is unlinked faultless free. stays_with s s.incoming true s.standing mote mote.incoming;
  committed = λ m calm is linked. record {
    bytes = mote.bytes;
    current = next_stored s.current m mote.current (comes_some s m mote is);
    set = whole_set s m mote.bytes is (mote.linked linked);
    free = free_incoming s m is (mote.linked linked);
    incoming = tt;
  };
  aborted = λ calm. stays_with s None false s.standing mote tt;
})

-- each step keeps a mote one
step_mote : (s : Mote) (f : Frame) → AreBytes f.payload → IsMote s → IsMote (step s f).mote
step_mote s f payload mote =
    let stays = step_stays s f payload mote in
    record { bytes = stays.bytes; current = stays.current; set = stays.set; free = stays.free; incoming = stays.incoming; linked = keeps_whole s f mote.linked }

-- and so does a run
run_mote : (s : Mote) (fs : List Frame) → AreByteFrames fs → IsMote s → IsMote (mote_from s fs)
run_mote s [] bytes mote = mote
run_mote s (f ∷ fs) bytes mote = run_mote (step s f).mote fs bytes.1 (step_mote s f bytes.0 mote)

-- what boots changes where a commit comes to stand, and nowhere else
choice_stays : (s : Mote) (f : Frame) → IsMote s → (not s.standing && (step s f).mote.standing) ≡ false → chosen_of (step s f).mote ≡ chosen_of s
choice_stays s f mote = each_row s f (λ x. (not s.standing && x.mote.standing) ≡ false → chosen_of x.mote ≡ chosen_of s) (record {
  refused = λ a served said other. refl;
  repeated = λ stands other. refl;
  booted = λ other. refl;
  manifest = λ calm whole above other. refl;
  piece = λ m p k page bytes calm is at new fits said other.
      ap (λ (set : List Component). let c : Chosen = record { release = s.current; set = set } in c)
      (components_kept s.store p.slot _ s.current (next_unused s.current m k p mote.current (comes_some s m mote is) at new));
  linked = λ m calm is unlinked whole free other. refl;
  committed = λ m calm is linked other. absurd (both_ways (not s.standing && true) other (and_from (not s.standing) true (not_from_false s.standing calm) refl));
  aborted = λ calm other. refl;
})

-- slots of zeros
zero_slots : (n m : ℕ) → AreByteSlots (replicate n (replicate m 0))
zero_slots n m s = ⊎_elim
    (λ within. subst AreBytes (sym (get_or-replicate n s (replicate m 0) [] within)) (bytes_replicate m 0 (omega arith)))
    (λ past. subst AreBytes (sym (get_or_past (replicate n (replicate m 0)) s [] (omega (arith, length-replicate n (replicate {A = ℕ} m 0))))) bytes_none)
    (cases_lt s n)

-- a formatted mote is one
formatted_is : IsMote formatted_mote
unfolding formatted_mote link_cause
formatted_is = record {
  bytes = zero_slots 32 9984;
  current = record { number = omega arith; few = omega arith; entries = tt; distinct = tt; slots = tt; apart = tt };
  set = tt;
  free = refl;
  incoming = tt;
  linked = λ linked. absurd (false≢true linked);
}

pub motes_stay_motes : MotesStayMotes
motes_stay_motes = record {
  formatted = formatted_is;
  each = step_mote;
  run = λ s fs bytes mote. run_mote s (boot_frame ∷ fs) (bytes_none, bytes) mote;
  choice = choice_stays;
}

-- ---- what sound parts stand for

-- the chosen set is whole, and nothing refuses it
chosen_whole : (p : Parts) (s : Mote) → IsSound p → StandsFor p s → HasSet s.store s.current × (link_cause (components_of s.store s.current) ≡ None)
chosen_whole p s sound stands =
    subst (λ (store : List (List ℕ)). HasSet store s.current × (link_cause (components_of store s.current) ≡ None)) (sym stands.store)
    ((words_say_what_they_mean p.slots (chosen_side p) s.current stands.current).no_cause.0 sound.chosen)

-- what comes in is next
comes_of : (p : Parts) (s : Mote) → IsSound p → StandsFor p s → (o : Option StoredRelease) → StandsForIncoming p o → ComesNext s.current o
comes_of p s sound stands None none = tt
comes_of p s sound stands (Some m) (has, stores) =
    let next = (words_say_what_they_mean p.slots (chosen_side p) s.current stands.current).next (other_side p) in
    let found = next.0 (comes_next p sound has) in
    (found.0, found.1, found.2, stored_release_is_one.release (other_side p) m (slots_for s.current found.0) stores found.3)

-- where Img is open, nothing refuses the other side's set
listed_free : (p : Parts) → IsSound p → is_pending p ≡ false → p.gates img ≡ true → HasNoCause p.slots (other_side p)
listed_free p sound calm image = grind arith

-- what is linked is whole
linked_whole : (p : Parts) (s : Mote) → IsSound p → StandsFor p s → IsLinkedWhole s
linked_whole p s sound stands linked =
    let gates = calm_where_linked p (sym stands.linked ∙ linked) in
    let comes = some_comes p s.incoming (coming_where_linked p sound gates.0 gates.1) stands.incoming in
    let says = (words_say_what_they_mean p.slots (other_side p) comes.0 comes.2).no_cause.0 (listed_free p sound gates.0 gates.1) in
    record {
      release = comes.0;
      incoming = comes.1;
      faultless = sets_are_faultless.faultless s.store comes.0 (subst (λ (store : List (List ℕ)). HasSet store comes.0) (sym stands.store) says.0);
      free = subst (λ (store : List (List ℕ)). link_cause (components_of store comes.0) ≡ None) (sym stands.store) says.1;
    }

pub sound_is_a_mote : SoundIsAMote
sound_is_a_mote p s sound stands bytes =
    let chosen = chosen_whole p s sound stands in
    record {
      bytes = subst AreByteSlots (sym stands.store) bytes;
      current = stands.current.stored;
      set = chosen.0;
      free = chosen.1;
      incoming = comes_of p s sound stands s.incoming stands.incoming;
      linked = linked_whole p s sound stands;
    }
