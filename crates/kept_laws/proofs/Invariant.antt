-- What holds of each mote of layout 2 that frames of bytes lead to.
use Rattle.std.proofs.Common.{◌≡◌, ◌⊎◌, inl, inr, ⊎_elim, ℕ, zero, suc, ◌+◌, ◌*◌, ◌<◌, ◌≤◌, Bool, true, false, cond, List, [], ◌∷◌, ◌++◌, length, take, drop, get_or, map, set, replicate, Option, Some, None, is_some, refl, sym, ap, ◌∙◌, subst, arith, get_or-set_same, get_or-set_other, length-set, length-append, length-drop}
use Rattle.std.specs.Prelude.{find, unwrap_or}
use Rattle.std.specs.List.{zip, AllByRecursion}
use Rattle.std.specs.Option.{option_map}
use Rattle.std.proofs.lemmas.Bool.{false≢true, cases_Bool, cases_lt, cases_eq, and_parts, ltb-true}
use Rattle.std.proofs.lemmas.Option.{same_Some}
use Rattle.std.proofs.lemmas.List.{get_or-take, get_or-drop, get_or_past, get_or-replicate, length-take, length-replicate}
use Rattle.avr_reloc.specs.Field.{AreBytes}
use Rattle.component_package.specs.declared.manifest.Entry.{Entry}
use Rattle.component_package.specs.packages.Component.{Component}
use Rattle.component_package.specs.packages.Reading.{component_of}
use Rattle.component_package.specs.link.Link.{link_cause}
use Rattle.component_package.specs.packages.Manifest.{IsManifestEntry, release_in}
use Rattle.component_package.specs.mote.Store.{is_same_entry}
use Rattle.kept_definitions.specs.Stored.{StoredRelease, Placed, IsStored, Stores}
use Rattle.kept_definitions.specs.Kept.{Chosen, HoldPackages, components_in, package_in, held_component, coming_component, coming_set, IsComing, set_fault, slots_for}
use Rattle.component_package.specs.mote.Page.{filled_page}
use Rattle.kept_definitions.specs.Sides.{Parts, chosen_side, other_side, is_pending, set_of}
use Rattle.component_package.specs.mote.Sides.{img}
use Rattle.kept_definitions.specs.Sound.{IsSound, IsInstalled, IsGoing, HasNoCause, IsNext}
use Rattle.kept_definitions.specs.Headline.{StandsFor, StandsForIncoming}
use Rattle.component_package.specs.mote.Frames.{Frame}
use Rattle.component_package.specs.mote.Machine.{is_piece_of, with_page_of, boot_frame}
use Rattle.kept_definitions.specs.Machine.{Mote, step, mote_from}
use Rattle.component_package.proofs.Lists.{all_at}
use Rattle.component_package.proofs.ManifestLaws.{faultless_manifests_spell}
use Rattle.mote_laws.specs.Sets.{AreByteSlots}
use Rattle.mote_laws.specs.Invariant.{AreByteFrames}
use Rattle.kept_laws.specs.Laws.{AreAll, IsPackageOf, IsOver}
use Rattle.kept_laws.specs.Runs.{IsWhole, IsLinkedWhole}
use Rattle.kept_laws.specs.Formatted.{formatted_mote}
use Rattle.kept_laws.specs.Invariant.{AreSlots, AreEntries, ComesNext, IsMote, MotesStayMotes, SoundIsAMote}
use Rattle.kept_laws.proofs.Slots.{slots_are_found}
use Rattle.kept_laws.proofs.Sets.{is_package, said, package_same}
use Rattle.kept_laws.proofs.Words.{all_over}
use Rattle.kept_laws.proofs.Store.{coming_is_faultless}
use Rattle.kept_laws.proofs.Stored.{release_one}
use Rattle.kept_laws.proofs.Steps.{at_rest, standing}
use Rattle.kept_laws.proofs.Stands.{is_next, calm_where_linked, some_comes, coming_where_linked}
use Rattle.kept_laws.proofs.Rows.{each_row}
use Rattle.kept_laws.proofs.MachineRuns.{keeps_whole, free_incoming}

-- ---- bytes

-- bytes behind bytes
bytes_append : (a b : List ℕ) → AreBytes a → AreBytes b → AreBytes (a ++ b)
bytes_append [] b one more i = more i
bytes_append (x ∷ a) b one more zero = one 0
bytes_append (x ∷ a) b one more (suc i) = bytes_append a b (λ k. one (suc k)) more i

-- some of the first bytes
bytes_take : (n : ℕ) (a : List ℕ) → AreBytes a → AreBytes (take n a)
bytes_take n a bytes i = ⊎_elim (λ low. rw (get_or-take n a i 0 low) (bytes i)) (λ high. rw (get_or_past (take n a) i 0 (omega (arith, length-take n a))) (omega arith)) (cases_lt i n)

-- the bytes behind some
bytes_drop : (n : ℕ) (a : List ℕ) → AreBytes a → AreBytes (drop n a)
bytes_drop n a bytes i = rw (get_or-drop n a i 0) (bytes (n + i))

-- one byte again and again
bytes_replicate : (n x : ℕ) → x < 256 → AreBytes (replicate n x)
bytes_replicate n x small i = ⊎_elim (λ low. rw (get_or-replicate n i x 0 low) small) (λ high. rw (get_or_past (replicate n x) i 0 (omega (arith, length-replicate n x))) (omega arith)) (cases_lt i n)

-- a slot with a page of bytes in it
bytes_page : (page : ℕ) (bytes slot : List ℕ) → AreBytes bytes → AreBytes slot → AreBytes (with_page_of page bytes slot)
unfolding filled_page
bytes_page page bytes slot new old =
    bytes_append (take (256 * page) slot) (take 256 (bytes ++ replicate 256 255) ++ drop (256 * page + 256) slot) (bytes_take (256 * page) slot old)
    (bytes_append (take 256 (bytes ++ replicate 256 255)) (drop (256 * page + 256) slot)
    (bytes_take 256 (bytes ++ replicate 256 255) (bytes_append bytes (replicate 256 255) new (bytes_replicate 256 255 (omega arith))))
    (bytes_drop (256 * page + 256) slot old))

-- no bytes
bytes_none : AreBytes []
bytes_none i = omega arith

-- slots with one of them set
slots_set : (store : List (List ℕ)) (s : ℕ) (slot : List ℕ) → AreByteSlots store → AreBytes slot → AreByteSlots (set store s slot)
slots_set store s slot all one t = ⊎_elim
    (λ same. ⊎_elim
    (λ within. subst AreBytes (sym (ap (λ k. get_or (set store s slot) k []) same ∙ get_or-set_same store s slot [] within)) one)
    (λ past. subst AreBytes (sym (get_or_past (set store s slot) t [] (omega (arith, length-set store s slot)))) bytes_none)
    (cases_lt s (length store)))
    (λ apart. subst AreBytes (sym (get_or-set_other store s t slot [] apart)) (all t))
    (cases_eq t s)

-- how long a slot with a page in it is
page_long : (page : ℕ) (bytes slot : List ℕ) → 256 * page + 256 ≤ 9984 → length slot ≡ 9984 → length (with_page_of page bytes slot) ≡ 9984
unfolding filled_page
page_long page bytes slot low size =
    let whole = bytes ++ replicate {A = ℕ} 256 255 in
    let a = length-take (256 * page) slot in
    let b = length-take 256 whole in
    let c = length-append bytes (replicate {A = ℕ} 256 255) in
    let d = length-replicate {A = ℕ} 256 255 in
    let e = length-drop (256 * page + 256) slot in
    let f = length-append (take 256 whole) (drop (256 * page + 256) slot) in
    let g = length-append (take (256 * page) slot) (take 256 whole ++ drop (256 * page + 256) slot) in
    omega (arith, a, b, c, d, e, f, g, low, size)

-- slots with one of them set
sizes_set : (slots : List (List ℕ)) (s : ℕ) (slot : List ℕ) → AreSlots slots → length slot ≡ 9984 → AreSlots (set slots s slot)
sizes_set slots s slot all one t low = ⊎_elim
    (λ same. ⊎_elim
    (λ within. ap length (ap (λ k. get_or (set slots s slot) k []) same ∙ get_or-set_same slots s slot [] within) ∙ one)
    (λ past. absurd (let gone : get_or slots t [] ≡ [] = get_or_past slots t [] (omega (arith, same, past))
    in let size = all t low in let none : length (get_or slots t []) ≡ 0 = ap length gone in omega (arith, size, none)))
    (cases_lt s (length slots)))
    (λ apart. ap length (get_or-set_other slots s t slot [] apart) ∙ all t low)
    (cases_eq t s)

-- ---- what comes in

-- what comes next is a stored release
next_stored : (current m : StoredRelease) → IsStored current → ComesNext current (Some m) → IsStored m
next_stored current m stored (r, release, above, is) = subst IsStored (sym is) (slots_are_found.stored current r stored release)

-- over the current one
next_over : (current m : StoredRelease) → ComesNext current (Some m) → AllByRecursion (IsOver current) m.placed
next_over current m (r, release, above, is) = subst (λ (n : StoredRelease). AllByRecursion (IsOver current) n.placed) (sym is) (all_over current r)

comes_some : (s : Mote) (m : StoredRelease) → IsMote s → s.incoming ≡ Some m → ComesNext s.current.release (Some m)
comes_some s m mote is = subst (ComesNext s.current.release) is mote.incoming

-- an entry that the current release has is in its set
held_entry : (e : Entry) (s : ℕ) (d : Component) (ps : List Placed) (cs : List Component) → AreAll (λ p x. IsPackageOf p.entry x) ps cs
    → option_map (λ (p : Placed). p.slot) (find (λ p. is_same_entry p.entry e) ps) ≡ Some s
    → (is_some (option_map (λ (x : Placed × Component). x.1) (find (λ x. is_same_entry x.0.entry e) (zip ps cs))) ≡ true)
    × IsPackageOf e (unwrap_or (option_map (λ (x : Placed × Component). x.1) (find (λ x. is_same_entry x.0.entry e) (zip ps cs))) d)
held_entry e s d [] [] all here = absurd cc
held_entry e s d [] (c ∷ cs) all here = absurd all
held_entry e s d (p ∷ ps) [] all here = absurd all
held_entry e s d (p ∷ ps) (c ∷ cs) all here =
    elim (cases_Bool (is_same_entry p.entry e)) [
      | inl same ↦ rw same (refl, package_same p.entry e c same all.0)
      | inr other ↦ rw other (held_entry e s d ps cs all.1 (rw other at here))
    ]

-- the inbox has room for what comes
rooms : (s : Mote) → IsMote s → (ps : List Placed) → AllByRecursion (λ p. IsManifestEntry p.entry) ps → AllByRecursion (λ p. p.slot < 16) ps
    → AllByRecursion (λ p. (p.entry.length ≤ length (get_or s.inbox p.slot [])) × AreBytes (get_or s.inbox p.slot [])) ps
rooms s mote [] entries low = tt
rooms s mote (p ∷ ps) entries low = (((let size = mote.sizes p.slot low.0 in omega (arith, size, entries.0.most)), mote.bytes p.slot), rooms s mote ps entries.1 low.1)

-- and the current set has what is held
helds : (now : Chosen) → AreEntries now → (ps : List Placed) → AllByRecursion (IsOver now.release) ps → AllByRecursion (λ p. p.fresh ≡ false → is_some (held_component now p.entry) ≡ true) ps
helds now all [] over = tt
helds now all (p ∷ ps) over = ((λ held. (held_entry p.entry p.slot (component_of []) now.release.placed now.set all (over.0 held)).0), helds now all ps over.1)

-- the entries of what comes
coming_entries : (now : Chosen) (inbox : List (List ℕ)) → AreEntries now → (ps : List Placed) → AllByRecursion (IsComing now inbox) ps → AllByRecursion (IsOver now.release) ps
    → AreAll (λ p x. IsPackageOf p.entry x) ps (map (coming_component now inbox) ps)
coming_entries now inbox all [] comes over = tt
coming_entries now inbox all (p ∷ ps) comes over = (one (cases_Bool p.fresh), coming_entries now inbox all ps comes.1 over.1)
  where
    one : (p.fresh ≡ true) ⊎ (p.fresh ≡ false) → IsPackageOf p.entry (coming_component now inbox p)
    one (inl e) =
        let h = comes.0.came e in
        let same : coming_component now inbox p ≡ h.component =
        ap (λ (b : Bool). cond b (component_of (package_in inbox p)) (unwrap_or (held_component now p.entry) (component_of []))) e ∙ said p.entry (package_in inbox p) h in
        subst (IsPackageOf p.entry) (sym same) (is_package p.entry (package_in inbox p) h)
    one (inr e) =
        let same : coming_component now inbox p ≡ unwrap_or (held_component now p.entry) (component_of []) =
        ap (λ (b : Bool). cond b (component_of (package_in inbox p)) (unwrap_or (held_component now p.entry) (component_of []))) e in
        subst (IsPackageOf p.entry) (sym same) (held_entry p.entry p.slot (component_of []) now.release.placed now.set all (over.0 e)).1

-- the set of a commit
whole_entries : (s : Mote) (m : StoredRelease) → IsMote s → s.incoming ≡ Some m → IsWhole s → AreEntries (record { release = m; set = coming_set s.current s.inbox m })
unfolding coming_set
whole_entries s m mote is whole =
    let same : whole.release ≡ m = same_Some whole.release m (sym whole.incoming ∙ is) in
    let next = comes_some s m mote is in
    let stored = next_stored s.current.release m mote.current next in
    let over = next_over s.current.release m next in
    let faultless = subst (λ (n : StoredRelease). set_fault s.inbox n ≡ None) same whole.faultless in
    let has = coming_is_faultless.whole s.current s.inbox m (rooms s mote m.placed stored.entries stored.slots) (helds s.current mote.set m.placed over) faultless in
    coming_entries s.current s.inbox mote.set m.placed has over

-- ---- the step

-- all of it but that what is linked is whole, which each step keeps by itself
record Stays (s : Mote) : Type 0 where
  bytes : AreByteSlots s.inbox
  sizes : AreSlots s.inbox
  current : IsStored s.current.release
  set : AreEntries s.current
  free : link_cause s.current.set ≡ None
  incoming : ComesNext s.current.release s.incoming

stays_with : (s : Mote) (next : Option StoredRelease) (linked standing : Bool) → IsMote s → ComesNext s.current.release next
    → Stays (record { current = s.current; incoming = next; inbox = s.inbox; linked = linked; standing = standing })
stays_with s next linked standing mote comes = record { bytes = mote.bytes; sizes = mote.sizes; current = mote.current; set = mote.set; free = mote.free; incoming = comes }

-- a piece's page lies in its slot
page_low : (total page : ℕ) (bytes : List ℕ) → total ≤ 9984 → is_piece_of total page bytes ≡ true → 256 * page + 256 ≤ 9984
page_low total page bytes small fits = let lt = ltb-true (256 * page) total (and_parts _ _ fits).0 in omega (arith, lt, small)

step_stays : (s : Mote) (f : Frame) → AreBytes f.payload → IsMote s → Stays (step s f).mote
step_stays s f payload mote = each_row s f (λ x. Stays x.mote) (record {
  refused = λ a served said_it. stays_with s s.incoming s.linked s.standing mote mote.incoming;
  repeated = λ stands. stays_with s s.incoming s.linked s.standing mote mote.incoming;
  booted = stays_with s s.incoming s.linked false mote mote.incoming;
  manifest = λ calm faultless above.
      stays_with s (Some (slots_for s.current.release (release_in f.payload))) false s.standing mote
      (release_in f.payload, (faultless_manifests_spell.spells f.payload payload faultless).release, above, refl);
  piece = λ m p k page bytes calm is at new fits said_it.
      let stored = next_stored s.current.release m mote.current (comes_some s m mote is) in
      let entry = all_at (λ (q : Placed). IsManifestEntry q.entry) m.placed k p stored.entries at in
      let low = all_at (λ (q : Placed). q.slot < 16) m.placed k p stored.slots at in
      let slot = with_page_of page bytes (get_or s.inbox p.slot []) in
      record {
        bytes = slots_set s.inbox p.slot slot mote.bytes (bytes_page page bytes (get_or s.inbox p.slot []) (subst AreBytes (sym said_it) (bytes_drop 2 f.payload payload)) (mote.bytes p.slot));
        sizes = sizes_set s.inbox p.slot slot mote.sizes (page_long page bytes (get_or s.inbox p.slot []) (page_low p.entry.length page bytes entry.most fits) (mote.sizes p.slot low));
        current = mote.current;
        set = mote.set;
        free = mote.free;
        incoming = mote.incoming;
      };
  linked = λ m calm is unlinked faultless free. stays_with s s.incoming true s.standing mote mote.incoming;
  committed = λ m calm is linked. record {
    bytes = mote.bytes;
    sizes = mote.sizes;
    current = next_stored s.current.release m mote.current (comes_some s m mote is);
    set = whole_entries s m mote is (mote.linked linked);
    free = free_incoming s m is (mote.linked linked);
    incoming = tt;
  };
  aborted = λ calm. stays_with s None false s.standing mote tt;
})

step_mote : (s : Mote) (f : Frame) → AreBytes f.payload → IsMote s → IsMote (step s f).mote
step_mote s f payload mote =
    let stays = step_stays s f payload mote in
    record { bytes = stays.bytes; sizes = stays.sizes; current = stays.current; set = stays.set; free = stays.free; incoming = stays.incoming; linked = keeps_whole s f mote.linked }

run_mote : (s : Mote) (fs : List Frame) → AreByteFrames fs → IsMote s → IsMote (mote_from s fs)
run_mote s [] bytes mote = mote
run_mote s (f ∷ fs) bytes mote = run_mote (step s f).mote fs bytes.1 (step_mote s f bytes.0 mote)

-- slots of zeros
zero_slots : (n m : ℕ) → AreByteSlots (replicate n (replicate m 0))
zero_slots n m s = ⊎_elim
    (λ within. subst AreBytes (sym (get_or-replicate n s (replicate m 0) [] within)) (bytes_replicate m 0 (omega arith)))
    (λ past. subst AreBytes (sym (get_or_past (replicate n (replicate m 0)) s [] (omega (arith, length-replicate n (replicate {A = ℕ} m 0))))) bytes_none)
    (cases_lt s n)

-- and of their size
zero_sizes : AreSlots (replicate 16 (replicate 9984 0))
zero_sizes i low = ap length (get_or-replicate 16 i (replicate {A = ℕ} 9984 0) [] low) ∙ length-replicate {A = ℕ} 9984 0

-- a formatted mote is one
formatted_is : IsMote formatted_mote
unfolding formatted_mote link_cause
formatted_is = record {
  bytes = zero_slots 16 9984;
  sizes = zero_sizes;
  current = record { number = omega arith; few = omega arith; entries = tt; distinct = tt; slots = tt; apart = tt };
  set = tt;
  free = refl;
  incoming = tt;
  linked = λ linked. absurd (false≢true linked);
}

pub motes_stay_motes : MotesStayMotes
motes_stay_motes = record {
  formatted = formatted_is;
  each = step_mote;
  run = λ s fs bytes mote. run_mote s (boot_frame ∷ fs) (bytes_none, bytes) mote;
}

-- ---- what sound parts stand for

-- packages that hold are their entries'
held_entries : (ps : List Placed) (bs : List (List ℕ)) → HoldPackages ps bs → AreAll (λ p x. IsPackageOf p.entry x) ps (components_in bs)
held_entries [] [] holds = tt
held_entries [] (b ∷ bs) holds = absurd holds
held_entries (p ∷ ps) [] holds = absurd holds
held_entries (p ∷ ps) (b ∷ bs) holds = (subst (IsPackageOf p.entry) (sym (said p.entry b holds.0)) (is_package p.entry b holds.0), held_entries ps bs holds.1)

-- the chosen set is its release's, and nothing refuses it
pub chosen_whole : (p : Parts) → IsSound p → (b : Bool) → is_pending p ≡ b
    → (m : StoredRelease) × Stores (chosen_side p) m × AreEntries (record { release = m; set = set_of p m }) × (link_cause (set_of p m) ≡ None)
unfolding IsInstalled IsGoing
chosen_whole p sound true is =
    let g = sound.going is in
    let same = sym (standing p g.0 is) in
    (g.0, g.1, subst (λ (cs : List Component). AreAll (λ q x. IsPackageOf q.entry x) g.0.placed cs) same (held_entries g.0.placed _ g.2), ap link_cause (sym same) ∙ g.3.is.possible)
chosen_whole p sound false is =
    let g = (sound.rest is).installed in
    let same = sym (at_rest p g.0 is) in
    (g.0, g.1, subst (λ (cs : List Component). AreAll (λ q x. IsPackageOf q.entry x) g.0.placed cs) same (held_entries g.0.placed _ g.2), ap link_cause (sym same) ∙ g.3.is.possible)

-- what comes in is next
next_of : (current side : List ℕ) (n m : StoredRelease) → Stores current n → Stores side m → IsNext current side → ComesNext n (Some m)
unfolding IsNext
next_of current side n m stores_n stores_m (k, r, stores, release, above, next) =
    let same : k ≡ n = release_one current k n stores stores_n in
    (r, release, subst (λ (x : StoredRelease). x.number < r.number) same above, release_one side m (slots_for k r) stores_m next ∙ ap (λ (x : StoredRelease). slots_for x r) same)

comes_of : (p : Parts) (s : Mote) → IsSound p → StandsFor p s → (o : Option StoredRelease) → StandsForIncoming p o → ComesNext s.current.release o
comes_of p s sound stands None none = tt
comes_of p s sound stands (Some m) (has, stores) = next_of (chosen_side p) (other_side p) s.current.release m stands.current.release stores (is_next p sound has)

-- where Img is open, nothing refuses what comes in
listed_free : (p : Parts) → IsSound p → is_pending p ≡ false → p.gates img ≡ true → HasNoCause p.tables p.prog p.inbox (chosen_side p) (other_side p)
listed_free p sound calm image = grind arith

-- it is whole
free_whole : (p : Parts) (s : Mote) (m : StoredRelease) → StandsFor p s → is_pending p ≡ false → s.incoming ≡ Some m → Stores (other_side p) m
    → HasNoCause p.tables p.prog p.inbox (chosen_side p) (other_side p) → IsWhole s
unfolding HasNoCause
free_whole p s m stands calm is stores (c, none) =
    let release : c.now.release ≡ s.current.release = release_one (chosen_side p) c.now.release s.current.release c.is_now stands.current.release in
    let sets : c.now.set ≡ s.current.set = sym c.set ∙ sym (at_rest p c.now.release calm) ∙ ap (set_of p) release ∙ stands.current.set in
    let now : c.now ≡ s.current = λ i. record { release = release i; set = sets i } in
    let next : c.next ≡ m = release_one (other_side p) c.next m c.is_next stores in
    record {
      release = m;
      incoming = is;
      faultless = ap (λ (i : List (List ℕ)). set_fault i m) stands.inbox ∙ ap (set_fault p.inbox) (sym next) ∙ coming_is_faultless.faultless c.now p.inbox c.next c.there;
      free = ap (λ (i : List (List ℕ)). link_cause (coming_set s.current i m)) stands.inbox
          ∙ sym (ap (λ (x : Chosen). link_cause (coming_set x p.inbox m)) now) ∙ sym (ap (λ (x : StoredRelease). link_cause (coming_set c.now p.inbox x)) next) ∙ none;
    }

linked_whole : (p : Parts) (s : Mote) → IsSound p → StandsFor p s → IsLinkedWhole s
linked_whole p s sound stands linked =
    let gates = calm_where_linked p (sym stands.linked ∙ linked) in
    let comes = some_comes p s.incoming (coming_where_linked p sound gates.0 gates.1) stands.incoming in
    free_whole p s comes.0 stands gates.0 comes.1 comes.2 (listed_free p sound gates.0 gates.1)

pub sound_is_a_mote : SoundIsAMote
sound_is_a_mote p s sound stands bytes sizes =
    let chosen = chosen_whole p sound (is_pending p) refl in
    let release : chosen.0 ≡ s.current.release = release_one (chosen_side p) chosen.0 s.current.release chosen.1 stands.current.release in
    let sets : set_of p chosen.0 ≡ s.current.set = ap (set_of p) release ∙ stands.current.set in
    let same : record { release = chosen.0; set = set_of p chosen.0 } ≡ s.current = λ i. record { release = release i; set = sets i } in
    record {
      bytes = subst AreByteSlots (sym stands.inbox) bytes;
      sizes = subst AreSlots (sym stands.inbox) sizes;
      current = stands.current.release.stored;
      set = subst AreEntries same chosen.2;
      free = ap link_cause (sym sets) ∙ chosen.3;
      incoming = comes_of p s sound stands s.incoming stands.incoming;
      linked = linked_whole p s sound stands;
    }
