-- What a run tells, parts in program flash, and table slots that are filled.
use Rattle.std.proofs.Common.{◌≡◌, ◌≢◌, ⊎_elim, ℕ, zero, suc, ◌+◌, ◌-◌, ◌*◌, ◌<◌, ◌≤◌, Bool, true, false, cond, eqb, Option, Some, None, List, [], ◌∷◌, ◌++◌, length, take, drop, get_or, map, replicate, set, refl, sym, ap, subst, ◌∙◌, arith, slice_range, length-append, append_assoc, get_or-set_same, get_or-set_other}
use Rattle.std.specs.Prelude.{slice_get, not, is_some, bit_and, ◌&&◌}
use Rattle.std.specs.List.{concat, flat_map, list_any, AllByRecursion}
use Rattle.std.specs.Option.{option_or, option_map, option_and_then}
use Rattle.std.proofs.lemmas.Bool.{cases_lt, both_ways, eqb-true, eq-eqb, and_parts, and_from, not-false, not_from_true, or_parts, or_left, or_right}
use Rattle.std.proofs.lemmas.List.{get_or-take, get_or_past, length-take}
use Rattle.std.proofs.lemmas.List.FromFn.{get_or-map-range_with_len}
use Rattle.avr_reloc.specs.Field.{AreBytes}
use Rattle.avr_reloc.proofs.Fixups.{length-field, get_or-slice}
use Rattle.sha2.specs.Sha256.{sha256}
use Rattle.component_package.specs.declared.fault.PackageFault.{PackageFault}
use Rattle.component_package.specs.declared.manifest.Entry.{Entry}
use Rattle.component_package.specs.declared.part.Export.{Export}
use Rattle.component_package.specs.declared.part.Reloc.{Reloc}
use Rattle.component_package.specs.packages.Component.{Component, header_bytes, export_bytes, reloc_bytes}
use Rattle.component_package.specs.packages.Reading.{header_of, first_fault, package_fault, number_of_fault, component_of}
use Rattle.component_package.specs.packages.Grammar.{IsComponent}
use Rattle.component_package.specs.link.Link.{rooms_of}
use Rattle.component_package.specs.link.Pages.{padded, IsPages}
use Rattle.component_package.specs.mote.Store.{Missing, BadPackage, is_same, identity_fault, stored_fault}
use Rattle.component_package.specs.packages.Manifest.{AreDistinct}
use Rattle.kept_definitions.specs.Runs.{run_of, run_in_package, bits_kept}
use Rattle.kept_definitions.specs.Stored.{Placed, StoredRelease}
use Rattle.kept_definitions.specs.Kept.{Chosen, HoldsPackage, table_run, going_run, package_in, held_component, IsComing, HasComing, is_missing, missing_at, bad_package_at, set_fault}
use Rattle.component_package.proofs.First.{none_or, no_fault, none_first}
use Rattle.component_package.proofs.Lists.{entry_in, length-entries, all_at}
use Rattle.component_package.proofs.Laws.{faultless_bytes_spell}
use Rattle.link_laws.proofs.Apart.{IsAt}
use Rattle.link_laws.proofs.Own.{no_cause}
use Rattle.link_laws.proofs.Room.{room_from_cause, plain_length}
use Rattle.mote_laws.proofs.Sets.{same_lists_are, is_same_itself}
use Rattle.kept_laws.specs.Laws.{Begins}
use Rattle.kept_laws.specs.Store.{RunTells, part_of, base_of, PartsAreCleared, TablesAreFilled, ComingIsFaultless, SlotsAreInOneRow}
use Rattle.kept_laws.proofs.Reading.{header_of_run}
use Rattle.kept_laws.proofs.Image.{part_within, part_taken}
use Rattle.kept_laws.proofs.Whole.{joined_from, slice_joined}

-- ---- runs

-- the bytes of an export behind the header
export_there : (slot : List ℕ) (c : Component) (i : ℕ) (e : Export) → Begins slot (run_of c) → slice_get c.exports i ≡ Some e → slice_range slot (32 + 6 * i) (32 + 6 * i + 6) ≡ export_bytes e
export_there slot c i e begins here =
    let exports = flat_map export_bytes c.exports in
    let relocs = flat_map reloc_bytes c.relocs in
    let grouped : slot ≡ header_bytes c ++ (exports ++ (relocs ++ begins.rest)) =
    begins.is ∙ append_assoc (header_bytes c) (exports ++ relocs) begins.rest ∙ ap (λ (x : List ℕ). header_bytes c ++ x) (append_assoc exports relocs begins.rest) in
    ap (λ (x : List ℕ). slice_range x (32 + 6 * i) (32 + 6 * i + 6)) grouped ∙ entry_in export_bytes 6 (λ x. refl) c.exports (header_bytes c) (relocs ++ begins.rest) i e here

-- and of a relocation behind the exports
reloc_there : (slot : List ℕ) (c : Component) (i : ℕ) (r : Reloc) → Begins slot (run_of c) → slice_get c.relocs i ≡ Some r
    → slice_range slot (32 + 6 * length c.exports + 8 * i) (32 + 6 * length c.exports + 8 * i + 8) ≡ reloc_bytes r
reloc_there slot c i r begins here =
    let exports = flat_map export_bytes c.exports in
    let relocs = flat_map reloc_bytes c.relocs in
    let front = header_bytes c ++ exports in
    let grouped : slot ≡ front ++ (relocs ++ begins.rest) =
    begins.is ∙ ap (λ (x : List ℕ). x ++ begins.rest) (sym (append_assoc (header_bytes c) exports relocs)) ∙ append_assoc front relocs begins.rest in
    let n : length front ≡ 32 + 6 * length c.exports = omega (arith, length-append (header_bytes c) exports, length-entries export_bytes 6 (λ e. refl) c.exports) in
    ap (λ (x : List ℕ). slice_range x (32 + 6 * length c.exports + 8 * i) (32 + 6 * length c.exports + 8 * i + 8)) grouped
    ∙ ap (λ (k : ℕ). slice_range (front ++ (relocs ++ begins.rest)) (k + 8 * i) (k + 8 * i + 8)) (sym n)
    ∙ entry_in reloc_bytes 8 (λ x. refl) c.relocs front begins.rest i r here

pub run_tells : RunTells
run_tells = record {
  header = λ slot c begins. ap header_of begins.is ∙ header_of_run c begins.rest;
  export = export_there;
  reloc = reloc_there;
}

-- ---- parts

-- a component of the set, of the grammar
component_at : (set : List Component) (k : ℕ) (c : Component) → AllByRecursion IsComponent set → slice_get set k ≡ Some c → IsComponent c
component_at set k c all here = all_at IsComponent set k c all here

-- a byte of the pages is the image's
byte_joined : (set : List Component) (pages : List (List ℕ)) (is : IsPages set pages) (at : ℕ) → at < length is.image → get_or (concat pages) at 0 ≡ get_or is.image at 0
byte_joined set pages is at lt =
    let b = is.image in
    let back = replicate {A = ℕ} (122880 - length b) 255 in
    let room = (room_from_cause (rooms_of set) (no_cause set is.is.possible).room).flash in
    let few : length b ≤ 122880 = omega (arith, is.is.put.size, plain_length set, room) in
    let joined : concat pages ≡ take (256 * 480) (padded b) = ap concat is.are ∙ joined_from (padded b) 0 480 in
    let one = slice_joined 480 b back at (at + 1) (omega arith) (omega (arith, lt)) few in
    let here : at + 0 ≡ at = omega arith in
    let left = get_or-slice (take (256 * 480) (padded b)) at (at + 1) 0 (omega arith) in
    let right = get_or-slice b at (at + 1) 0 (omega arith) in
    ap (λ (l : List ℕ). get_or l at 0) joined ∙ ap (λ (k : ℕ). get_or (take (256 * 480) (padded b)) k 0) (sym here) ∙ sym left ∙ ap (λ (l : List ℕ). get_or l 0 0) one ∙ right
    ∙ ap (λ (k : ℕ). get_or b k 0) here

-- a byte of a part
part_byte : (set : List Component) (pages : List (List ℕ)) (k : ℕ) (c : Component) (init : Bool) (o : ℕ)
    → AllByRecursion IsComponent set → IsPages set pages → slice_get set k ≡ Some c → o < length (part_of c init)
    → bit_and (get_or (concat pages) (base_of set k init + o) 0) (bits_kept init c.relocs o) ≡ get_or (part_of c init) o 0
part_byte set pages k c init o components is here lt =
    let b = is.image in
    let base = base_of set k init in
    let len = length (part_of c init) in
    let at : IsAt set k c = record { here = here } in
    let room : base + len ≤ length b = omega (arith, part_within set k c init at, is.is.put.size) in
    let part = slice_range b base (base + len) in
    let size : length part ≡ len = length-field b base len room in
    let whole = part_taken set components b is.is.bytes is.is.put k c at (component_at set k c components here) init in
    let f : ℕ → ℕ = λ i. bit_and (get_or part i 0) (bits_kept init c.relocs i) in
    ap (λ (x : ℕ). bit_and x (bits_kept init c.relocs o)) (byte_joined set pages is (base + o) (omega (arith, room, lt)) ∙ sym (get_or-slice b base (base + len) o (omega (arith, lt))))
    ∙ sym (get_or-map-range_with_len f 0 (length part) o o 0 (omega (arith, size, lt)) (omega arith))
    ∙ ap (λ (l : List ℕ). get_or l o 0) whole

pub parts_are_cleared : PartsAreCleared
parts_are_cleared = record {
  byte = part_byte;
  within = λ set pages k c init is here.
      let room = (room_from_cause (rooms_of set) (no_cause set is.is.possible).room).flash in
      let w = part_within set k c init (record { here = here }) in
      let p = plain_length set in
      omega (arith, w, p, room);
}

-- ---- tables

-- no entry of another slot
others_apart : (s : ℕ) (ps : List Placed) → list_any (λ y. eqb y s) (map (λ p. p.slot) ps) ≡ false → AllByRecursion (λ q. q.fresh ≡ false → q.slot ≢ s) ps
others_apart s [] none = tt
others_apart s (q ∷ ps) none =
    let both = or_parts (eqb q.slot s) (list_any (λ y. eqb y s) (map (λ p. p.slot) ps)) none in
    (λ held same. both_ways (eqb q.slot s) both.0 (eq-eqb q.slot s same), others_apart s ps both.1)

-- an entry's slot is among them
slot_among : (ps : List Placed) (k : ℕ) (p : Placed) → slice_get ps k ≡ Some p → list_any (λ y. eqb y p.slot) (map (λ q. q.slot) ps) ≡ true
slot_among [] k p here = absurd cc
slot_among (q ∷ ps) zero p here = let same : q ≡ p = cc in or_left (eqb q.slot p.slot) (list_any (λ y. eqb y p.slot) (map (λ q. q.slot) ps)) (eq-eqb q.slot p.slot (ap (λ (x : Placed). x.slot) same))
slot_among (q ∷ ps) (suc k) p here = or_right (eqb q.slot p.slot) (list_any (λ y. eqb y p.slot) (map (λ q. q.slot) ps)) (slot_among ps k p here)

-- no run is read from a fresh entry's slot
no_run : (ps : List Placed) (k : ℕ) (p : Placed) → AreDistinct (map (λ q. q.slot) ps) → slice_get ps k ≡ Some p → p.fresh ≡ true → AllByRecursion (λ q. q.fresh ≡ false → q.slot ≢ p.slot) ps
no_run [] k p apart here fresh = absurd cc
no_run (q ∷ ps) zero p apart here fresh =
    let same : q ≡ p = cc in (
      λ held at. both_ways q.fresh held (ap (λ (x : Placed). x.fresh) same ∙ fresh),
      others_apart p.slot ps (subst (λ (x : Placed). list_any (λ y. eqb y x.slot) (map (λ q. q.slot) ps) ≡ false) same apart.0),
    )
no_run (q ∷ ps) (suc k) p apart here fresh = (
  λ held at. both_ways (list_any (λ y. eqb y q.slot) (map (λ q. q.slot) ps)) apart.0 (subst (λ (n : ℕ). list_any (λ y. eqb y n) (map (λ q. q.slot) ps) ≡ true) (sym at) (slot_among ps k p here)),
  no_run ps k p apart.1 here fresh,
)

-- the run that goes, where other tables change
run_filled : (tables inbox : List (List ℕ)) (p : Placed) (slot : List ℕ) → p.fresh ≡ true → going_run (set tables p.slot slot) inbox p ≡ going_run tables inbox p
run_filled tables inbox p slot fresh =
    ap (λ (f : Bool). cond f (run_in_package (get_or inbox p.slot [])) (table_run (set tables p.slot slot) p)) fresh
    ∙ sym (ap (λ (f : Bool). cond f (run_in_package (get_or inbox p.slot [])) (table_run tables p)) fresh)

run_other : (tables inbox : List (List ℕ)) (p : Placed) (s : ℕ) (slot : List ℕ) → p.fresh ≡ true → going_run (set tables s slot) inbox p ≡ going_run tables inbox p
run_other tables inbox p s slot fresh =
    ap (λ (f : Bool). cond f (run_in_package (get_or inbox p.slot [])) (table_run (set tables s slot) p)) fresh
    ∙ sym (ap (λ (f : Bool). cond f (run_in_package (get_or inbox p.slot [])) (table_run tables p)) fresh)

pub tables_are_filled : TablesAreFilled
tables_are_filled = record {
  none = λ m k p stored here fresh. no_run m.placed k p stored.apart here fresh;
  filled = λ tables inbox p rest lt fresh. record {
    rest = rest;
    is = get_or-set_same tables p.slot (going_run tables inbox p ++ rest) [] lt ∙ ap (λ (x : List ℕ). x ++ rest) (sym (run_filled tables inbox p (going_run tables inbox p ++ rest) fresh));
  };
  others = λ tables inbox p s bytes apart keeps fresh. let b = keeps fresh in record {
    rest = b.rest;
    is = get_or-set_other tables s p.slot bytes [] apart ∙ b.is ∙ ap (λ (x : List ℕ). x ++ b.rest) (sym (run_other tables inbox p s bytes fresh));
  };
}

-- ---- the incoming set

-- a package of the entry's has no fault
package_faultless : (e : Entry) (b : List ℕ) → HoldsPackage e b → stored_fault e b ≡ None
package_faultless e b holds = faultless (package_fault b) (faultless_bytes_spell.faultless b holds.component holds.spelled)
  where
    said : component_of b ≡ holds.component
    said = faultless_bytes_spell.said b holds.component holds.spelled

    number : eqb (header_of b).component e.component ≡ true
    number = eq-eqb _ _ (ap (λ (c : Component). c.component) said ∙ holds.number)

    version : eqb (header_of b).version e.version ≡ true
    version = eq-eqb _ _ (ap (λ (c : Component). c.version) said ∙ holds.version)

    faultless : (fault : Option PackageFault) → fault ≡ None → option_or (option_map number_of_fault fault) (identity_fault e b) ≡ None
    faultless None none = ap (λ (b : Bool). cond b None (Some 13)) (and_from _ _ number version)
    faultless (Some x) none = absurd cc

-- and what has no fault is one
faultless_package : (inbox : List (List ℕ)) (p : Placed) → p.fresh ≡ true → p.entry.length ≤ length (get_or inbox p.slot []) → AreBytes (get_or inbox p.slot [])
    → is_missing inbox p ≡ false → stored_fault p.entry (package_in inbox p) ≡ None → HoldsPackage p.entry (package_in inbox p)
faultless_package inbox p fresh room bytes there whole = record {
  size = omega (arith, room, length-take p.entry.length (get_or inbox p.slot []));
  digest = same_lists_are _ _ (not-false _ (same_digest p.fresh fresh there));
  component = component_of (package_in inbox p);
  spelled = faultless_bytes_spell.spells (package_in inbox p) front (parts (package_fault (package_in inbox p)) whole).0;
  number = eqb-true _ _ (and_parts _ _ identity).0;
  version = eqb-true _ _ (and_parts _ _ identity).1;
}
  where
    same_digest : (f : Bool) → f ≡ true → (f && not (is_same (sha256 (package_in inbox p)) p.entry.digest)) ≡ false → not (is_same (sha256 (package_in inbox p)) p.entry.digest) ≡ false
    same_digest true is none = none
    same_digest false is none = absurd cc

    front : AreBytes (package_in inbox p)
    front i = ⊎_elim (λ low. rw (get_or-take p.entry.length (get_or inbox p.slot []) i 0 low) (bytes i))
        (λ high. rw (get_or_past (take p.entry.length (get_or inbox p.slot [])) i 0 (omega (arith, length-take p.entry.length (get_or inbox p.slot [])))) (omega arith)) (cases_lt i p.entry.length)

    parts : (fault : Option PackageFault) → option_or (option_map number_of_fault fault) (identity_fault p.entry (package_in inbox p)) ≡ None
        → (fault ≡ None) × (identity_fault p.entry (package_in inbox p) ≡ None)
    parts None none = (refl, none)
    parts (Some x) none = absurd cc

    passes : (b : Bool) → cond {A = Option ℕ} b None (Some 13) ≡ None → b ≡ true
    passes true none = refl
    passes false none = absurd cc

    identity : (eqb (header_of (package_in inbox p)).component p.entry.component && eqb (header_of (package_in inbox p)).version p.entry.version) ≡ true
    identity = passes _ (parts (package_fault (package_in inbox p)) whole).1

-- what holds at each place holds of all
all_by_places : {X : Type 0} (P : X → Type 0) (xs : List X) → ((k : ℕ) (x : X) → k < length xs → slice_get xs k ≡ Some x → P x) → AllByRecursion P xs
all_by_places P [] each = tt
all_by_places P (x ∷ xs) each = (each 0 x (omega arith) refl, all_by_places P xs (λ k y within at. each (suc k) y (omega arith) at))

module _ (now : Chosen) (inbox : List (List ℕ)) (m : StoredRelease) where
  no_missing : HasComing now inbox m → (k : ℕ) → missing_at inbox m k ≡ None
  no_missing has k = at (slice_get m.placed k) refl
    where
      there : (p : Placed) → IsComing now inbox p → (f : Bool) → p.fresh ≡ f → (f && not (is_same (sha256 (package_in inbox p)) p.entry.digest)) ≡ false
      there p comes true is = not_from_true _ (subst (λ (d : List ℕ). is_same d p.entry.digest ≡ true) (sym (comes.came is).digest) (is_same_itself p.entry.digest))
      there p comes false is = refl

      at : (o : Option Placed) → slice_get m.placed k ≡ o → option_and_then (λ p. cond (is_missing inbox p) (Some (Missing k)) None) o ≡ None
      at None is = refl
      at (Some p) is = ap (λ (b : Bool). cond b (Some (Missing k)) None) (there p (all_at (IsComing now inbox) m.placed k p has is) p.fresh refl)

  no_bad : HasComing now inbox m → (k : ℕ) → bad_package_at inbox m k ≡ None
  no_bad has k = at (slice_get m.placed k) refl
    where
      good : (p : Placed) → IsComing now inbox p → (f : Bool) → p.fresh ≡ f → cond f (option_map (BadPackage k) (stored_fault p.entry (package_in inbox p))) None ≡ None
      good p comes true is = ap (option_map (BadPackage k)) (package_faultless p.entry (package_in inbox p) (comes.came is))
      good p comes false is = refl

      at : (o : Option Placed) → slice_get m.placed k ≡ o → option_and_then (λ p. cond p.fresh (option_map (BadPackage k) (stored_fault p.entry (package_in inbox p))) None) o ≡ None
      at None is = refl
      at (Some p) is = good p (all_at (IsComing now inbox) m.placed k p has is) p.fresh refl

  coming_faultless : HasComing now inbox m → set_fault inbox m ≡ None
  coming_faultless has = rw (none_first (missing_at inbox m) (length m.placed) (λ k within. no_missing has k)) (none_first (bad_package_at inbox m) (length m.placed) (λ k within. no_bad has k))

  faultless_coming : AllByRecursion (λ p. (p.entry.length ≤ length (get_or inbox p.slot [])) × AreBytes (get_or inbox p.slot [])) m.placed
      → AllByRecursion (λ p. p.fresh ≡ false → is_some (held_component now p.entry) ≡ true) m.placed → set_fault inbox m ≡ None → HasComing now inbox m
  faultless_coming rooms held none = all_by_places (IsComing now inbox) m.placed one
    where
      faults : (first_fault (missing_at inbox m) (length m.placed) ≡ None) × (first_fault (bad_package_at inbox m) (length m.placed) ≡ None)
      faults = none_or (first_fault (missing_at inbox m) (length m.placed)) (first_fault (bad_package_at inbox m) (length m.placed)) none

      one : (k : ℕ) (p : Placed) → k < length m.placed → slice_get m.placed k ≡ Some p → IsComing now inbox p
      one k p within is = record { came = came; held = all_at (λ q. q.fresh ≡ false → is_some (held_component now q.entry) ≡ true) m.placed k p held is }
        where
          passes : (b : Bool) → cond b (Some (Missing k)) None ≡ None → b ≡ false
          passes true h = absurd cc
          passes false h = refl

          there : is_missing inbox p ≡ false
          there = passes (is_missing inbox p) (sym (ap (option_and_then (λ p. cond (is_missing inbox p) (Some (Missing k)) None)) is)
              ∙ no_fault (missing_at inbox m) (length m.placed) k faults.0 within)

          free : (f : Bool) (o : Option ℕ) → f ≡ true → cond f (option_map (BadPackage k) o) None ≡ None → o ≡ None
          free true None fresh h = refl
          free true (Some x) fresh h = absurd cc
          free false o fresh h = absurd cc

          came : p.fresh ≡ true → HoldsPackage p.entry (package_in inbox p)
          came fresh =
              let room = all_at (λ q. (q.entry.length ≤ length (get_or inbox q.slot [])) × AreBytes (get_or inbox q.slot [])) m.placed k p rooms is in
              let bad = sym (ap (option_and_then (λ p. cond p.fresh (option_map (BadPackage k) (stored_fault p.entry (package_in inbox p))) None)) is)
              ∙ no_fault (bad_package_at inbox m) (length m.placed) k faults.1 within in
              faultless_package inbox p fresh room.0 room.1 there (free p.fresh (stored_fault p.entry (package_in inbox p)) fresh bad)

pub coming_is_faultless : ComingIsFaultless
coming_is_faultless = record { faultless = coming_faultless; whole = faultless_coming }

-- ---- places

pub slots_are_in_one_row : SlotsAreInOneRow
slots_are_in_one_row = record {
  inbox = λ ext s. refl;
  table = λ ext s. let at : 1410 + 39 * s ≡ 786 + 39 * (16 + s) = omega arith in ap (λ (n : ℕ). concat (take 39 (drop n ext))) at;
}
