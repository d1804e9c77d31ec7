-- What the parts of a mote of layout 2 become when one page is programmed.
use Rattle.std.proofs.Common.{Bool, true, false, cond, ◌≡◌, ◌≢◌, ◌&&◌, inl, inr, ◌⊎◌, ⊎_elim, ℕ, ◌+◌, ◌-◌, ◌*◌, ◌<◌, ◌≤◌, List, [], length, map, set, get_or, eqb, ltb, refl, sym, ap, ◌∙◌, arith, get_or-set_same, get_or-set_other, length-set}
use Rattle.std.proofs.lemmas.Bool.Decides.{nat_tests}
use Rattle.std.proofs.lemmas.List.{same_lists}
use Rattle.std.proofs.lemmas.Bool.{cases_lt, cases_eq, cases_order}
use Rattle.std.proofs.lemmas.List.FromFn.{length-map-range_with_len, get_or-map-range_with_len}
use Rattle.std.specs.List.{concat, range_with_len}
use Rattle.kept_definitions.specs.Kept.{slot_from, inbox_of, tables_of}
use Rattle.component_package.specs.mote.Sides.{is_open, pages_from}
use Rattle.kept_definitions.specs.Sides.{is_on_b, parts_of}
use Rattle.kept_laws.specs.Programs.{EachPageIsInOnePart}
use Rattle.mote_laws.proofs.Programs.{pages_before, pages_behind, pages_within}

-- a gate is open as its own page says
gate_is : (ext : List (List ℕ)) (page : ℕ) (bytes : List ℕ) (g : ℕ) → page < 8 → 8 ≤ length ext
    → (ltb g 8 && is_open (set ext page bytes) g) ≡ cond (eqb g page) (eqb (get_or bytes 0 0) 165) (ltb g 8 && is_open ext g)
gate_is ext page bytes g low long = ⊎_elim same other (cases_eq g page)
  where
    same : g ≡ page → (ltb g 8 && is_open (set ext page bytes) g) ≡ cond (eqb g page) (eqb (get_or bytes 0 0) 165) (ltb g 8 && is_open ext g)
    same is =
        let held : get_or (set ext page bytes) g [] ≡ bytes = ap (λ k. get_or (set ext page bytes) k []) is ∙ get_or-set_same ext page bytes [] (omega arith) in
        let open_as : is_open (set ext page bytes) g ≡ eqb (get_or bytes 0 0) 165 = ap (λ (l : List ℕ). eqb (get_or l 0 0) 165) held in
        let small : g < 8 = omega arith in
        grind (arith, nat_tests)

    other : (g ≡ page → ⊥) → (ltb g 8 && is_open (set ext page bytes) g) ≡ cond (eqb g page) (eqb (get_or bytes 0 0) 165) (ltb g 8 && is_open ext g)
    other apart =
        let held : get_or (set ext page bytes) g [] ≡ get_or ext g [] = get_or-set_other ext page g bytes [] apart in
        let open_as : is_open (set ext page bytes) g ≡ is_open ext g = ap (λ (l : List ℕ). eqb (get_or l 0 0) 165) held in
        grind (arith, nat_tests)

-- a page from 8 on changes no gate
gate_kept : (ext : List (List ℕ)) (page : ℕ) (bytes : List ℕ) (g : ℕ) → 8 ≤ page → (ltb g 8 && is_open (set ext page bytes) g) ≡ (ltb g 8 && is_open ext g)
gate_kept ext page bytes g high = ⊎_elim low past (cases_lt g 8)
  where
    low : g < 8 → (ltb g 8 && is_open (set ext page bytes) g) ≡ (ltb g 8 && is_open ext g)
    low small =
        let apart : g ≢ page = omega arith in
        ap (λ (l : List ℕ). ltb g 8 && eqb (get_or l 0 0) 165) (get_or-set_other ext page g bytes [] apart)

    past : 8 ≤ g → (ltb g 8 && is_open (set ext page bytes) g) ≡ (ltb g 8 && is_open ext g)
    past large = grind (arith, nat_tests)

-- two numbers that differ
less_or_more : (k s : ℕ) → (k ≡ s → ⊥) → (k < s) ⊎ (s < k)
less_or_more k s apart = ⊎_elim (λ same. absurd (apart same)) (λ h. h) (cases_order k s)

-- 16 slots from a page on
abbrev slots_from : ℕ → List (List ℕ) → List (List ℕ)
slots_from first ext = map (slot_from first ext) (range_with_len 0 16)

-- the slots that a page outside one of them leaves
slot_apart : (first : ℕ) (ext : List (List ℕ)) (page : ℕ) (bytes : List ℕ) (k : ℕ)
    → (page < first + 39 * k) ⊎ (first + 39 * k + 39 ≤ page) → slot_from first (set ext page bytes) k ≡ slot_from first ext k
slot_apart first ext page bytes k (inl before) = ap concat (pages_before (first + 39 * k) 39 ext page bytes before)
slot_apart first ext page bytes k (inr behind) = ap concat (pages_behind (first + 39 * k) 39 ext page bytes behind)

-- a page of none of them
slots_kept : (first : ℕ) (ext : List (List ℕ)) (page : ℕ) (bytes : List ℕ) → (page < first) ⊎ (first + 624 ≤ page) → slots_from first (set ext page bytes) ≡ slots_from first ext
slots_kept first ext page bytes where_it_is = same_lists _ _ lengths each
  where
    lengths : length (slots_from first (set ext page bytes)) ≡ length (slots_from first ext)
    lengths = length-map-range_with_len (slot_from first (set ext page bytes)) 0 16 ∙ sym (length-map-range_with_len (slot_from first ext) 0 16)

    each : (k : ℕ) (d : List ℕ) → k < length (slots_from first (set ext page bytes)) → get_or (slots_from first (set ext page bytes)) k d ≡ get_or (slots_from first ext) k d
    each k d within =
        let small : k < 16 = omega (arith, length-map-range_with_len (slot_from first (set ext page bytes)) 0 16) in
        get_or-map-range_with_len (slot_from first (set ext page bytes)) 0 16 k k d small (omega arith)
        ∙ slot_apart first ext page bytes k (⊎_elim (λ before. inl (omega arith)) (λ behind. inr (omega arith)) where_it_is)
        ∙ sym (get_or-map-range_with_len (slot_from first ext) 0 16 k k d small (omega arith))

-- page i of slot s
slots_set : (first : ℕ) (ext : List (List ℕ)) (s i : ℕ) (bytes : List ℕ) → s < 16 → i < 39
    → slots_from first (set ext (first + 39 * s + i) bytes) ≡ set (slots_from first ext) s (concat (set (pages_from (first + 39 * s) 39 ext) i bytes))
slots_set first ext s i bytes slot_low page_low = same_lists _ _ lengths each
  where
    lengths : length (slots_from first (set ext (first + 39 * s + i) bytes)) ≡ length (set (slots_from first ext) s (concat (set (pages_from (first + 39 * s) 39 ext) i bytes)))
    lengths = length-map-range_with_len (slot_from first (set ext (first + 39 * s + i) bytes)) 0 16
        ∙ sym (length-set (slots_from first ext) s (concat (set (pages_from (first + 39 * s) 39 ext) i bytes)) ∙ length-map-range_with_len (slot_from first ext) 0 16)

    here : slot_from first (set ext (first + 39 * s + i) bytes) s ≡ concat (set (pages_from (first + 39 * s) 39 ext) i bytes)
    here = ap concat (pages_within (first + 39 * s) 39 ext (first + 39 * s + i) bytes (omega arith) (omega arith)
        ∙ ap (λ j. set (pages_from (first + 39 * s) 39 ext) j bytes) (let e : (first + 39 * s + i) - (first + 39 * s) ≡ i = omega arith in e))

    each : (k : ℕ) (d : List ℕ) → k < length (slots_from first (set ext (first + 39 * s + i) bytes))
        → get_or (slots_from first (set ext (first + 39 * s + i) bytes)) k d ≡ get_or (set (slots_from first ext) s (concat (set (pages_from (first + 39 * s) 39 ext) i bytes))) k d
    each k d within =
        let small : k < 16 = omega (arith, length-map-range_with_len (slot_from first (set ext (first + 39 * s + i) bytes)) 0 16) in
        get_or-map-range_with_len (slot_from first (set ext (first + 39 * s + i) bytes)) 0 16 k k d small (omega arith)
        ∙ ⊎_elim
        (λ same. ap (λ j. slot_from first (set ext (first + 39 * s + i) bytes) j) same ∙ here
        ∙ sym (ap (λ j. get_or (set (slots_from first ext) s (concat (set (pages_from (first + 39 * s) 39 ext) i bytes))) j d) same
        ∙ get_or-set_same (slots_from first ext) s (concat (set (pages_from (first + 39 * s) 39 ext) i bytes)) d (omega (arith, length-map-range_with_len (slot_from first ext) 0 16))))
        (λ apart. slot_apart first ext (first + 39 * s + i) bytes k (⊎_elim (λ below. inr (omega arith)) (λ above. inl (omega arith)) (less_or_more k s apart))
        ∙ sym (get_or-set_other (slots_from first ext) s k (concat (set (pages_from (first + 39 * s) 39 ext) i bytes)) d apart
        ∙ get_or-map-range_with_len (slot_from first ext) 0 16 k k d small (omega arith)))
        (cases_eq k s)

-- a page of neither
inbox_kept : (ext : List (List ℕ)) (page : ℕ) (bytes : List ℕ) → (page < 786) ⊎ (1410 ≤ page) → inbox_of (set ext page bytes) ≡ inbox_of ext
unfolding inbox_of
inbox_kept ext page bytes where_it_is = slots_kept 786 ext page bytes where_it_is

tables_kept : (ext : List (List ℕ)) (page : ℕ) (bytes : List ℕ) → (page < 1410) ⊎ (2034 ≤ page) → tables_of (set ext page bytes) ≡ tables_of ext
unfolding tables_of
tables_kept ext page bytes where_it_is = slots_kept 1410 ext page bytes where_it_is

-- a page of one
inbox_set : (ext : List (List ℕ)) (s i : ℕ) (bytes : List ℕ) → s < 16 → i < 39
    → inbox_of (set ext (786 + 39 * s + i) bytes) ≡ set (inbox_of ext) s (concat (set (pages_from (786 + 39 * s) 39 ext) i bytes))
unfolding inbox_of
inbox_set ext s i bytes slot_low page_low = slots_set 786 ext s i bytes slot_low page_low

tables_set : (ext : List (List ℕ)) (s i : ℕ) (bytes : List ℕ) → s < 16 → i < 39
    → tables_of (set ext (1410 + 39 * s + i) bytes) ≡ set (tables_of ext) s (concat (set (pages_from (1410 + 39 * s) 39 ext) i bytes))
unfolding tables_of
tables_set ext s i bytes slot_low page_low = slots_set 1410 ext s i bytes slot_low page_low

-- a page of either side
in_side_a : (prog ext : List (List ℕ)) (page : ℕ) (bytes : List ℕ) → 8 ≤ page → page < 13
    → parts_of prog (set ext page bytes) ≡ record (parts_of prog ext) { side_a = concat (set (pages_from 8 5 ext) (page - 8) bytes) }
in_side_a prog ext page bytes from to = λ x. record {
  gates = λ g. gate_kept ext page bytes g from x;
  prog = prog;
  side_a = concat (pages_within 8 5 ext page bytes from to x);
  side_b = concat (pages_before 13 5 ext page bytes to x);
  symbols = concat (pages_before 18 32 ext page bytes (omega arith) x);
  relocs = concat (pages_before 50 256 ext page bytes (omega arith) x);
  staged = pages_before 306 480 ext page bytes (omega arith) x;
  inbox = inbox_kept ext page bytes (inl (omega arith)) x;
  tables = tables_kept ext page bytes (inl (omega arith)) x;
}

-- the same for side B
in_side_b : (prog ext : List (List ℕ)) (page : ℕ) (bytes : List ℕ) → 13 ≤ page → page < 18
    → parts_of prog (set ext page bytes) ≡ record (parts_of prog ext) { side_b = concat (set (pages_from 13 5 ext) (page - 13) bytes) }
in_side_b prog ext page bytes from to = λ x. record {
  gates = λ g. gate_kept ext page bytes g (omega arith) x;
  prog = prog;
  side_a = concat (pages_behind 8 5 ext page bytes from x);
  side_b = concat (pages_within 13 5 ext page bytes from to x);
  symbols = concat (pages_before 18 32 ext page bytes to x);
  relocs = concat (pages_before 50 256 ext page bytes (omega arith) x);
  staged = pages_before 306 480 ext page bytes (omega arith) x;
  inbox = inbox_kept ext page bytes (inl (omega arith)) x;
  tables = tables_kept ext page bytes (inl (omega arith)) x;
}

-- and of the one that isn't chosen
in_either : (prog ext : List (List ℕ)) (b : Bool) (i : ℕ) (bytes : List ℕ) → i < 5
    → parts_of prog (set ext (cond b 8 13 + i) bytes) ≡ record (parts_of prog ext) {
      side_a = cond b (concat (set (pages_from (cond b 8 13) 5 ext) i bytes)) (concat (pages_from 8 5 ext));
      side_b = cond b (concat (pages_from 13 5 ext)) (concat (set (pages_from (cond b 8 13) 5 ext) i bytes));
    }
in_either prog ext true i bytes low =
    let place : (8 + i) - 8 ≡ i = omega arith in
    in_side_a prog ext (8 + i) bytes (omega arith) (omega arith) ∙ ap (λ k. record (parts_of prog ext) { side_a = concat (set (pages_from 8 5 ext) k bytes) }) place
in_either prog ext false i bytes low =
    let place : (13 + i) - 13 ≡ i = omega arith in
    in_side_b prog ext (13 + i) bytes (omega arith) (omega arith) ∙ ap (λ k. record (parts_of prog ext) { side_b = concat (set (pages_from 13 5 ext) k bytes) }) place

pub each_page_is_in_one_part : EachPageIsInOnePart
each_page_is_in_one_part = record {
  gate = λ prog ext page bytes low long. λ x. record {
    gates = λ g. gate_is ext page bytes g low long x;
    prog = prog;
    side_a = concat (pages_before 8 5 ext page bytes low x);
    side_b = concat (pages_before 13 5 ext page bytes (omega arith) x);
    symbols = concat (pages_before 18 32 ext page bytes (omega arith) x);
    relocs = concat (pages_before 50 256 ext page bytes (omega arith) x);
    staged = pages_before 306 480 ext page bytes (omega arith) x;
    inbox = inbox_kept ext page bytes (inl (omega arith)) x;
    tables = tables_kept ext page bytes (inl (omega arith)) x;
  };
  side_a = in_side_a;
  side_b = in_side_b;
  other = λ prog ext i bytes low. in_either prog ext (is_on_b (parts_of prog ext)) i bytes low;
  symbols = λ prog ext page bytes from to. λ x. record {
    gates = λ g. gate_kept ext page bytes g (omega arith) x;
    prog = prog;
    side_a = concat (pages_behind 8 5 ext page bytes (omega arith) x);
    side_b = concat (pages_behind 13 5 ext page bytes from x);
    symbols = concat (pages_within 18 32 ext page bytes from to x);
    relocs = concat (pages_before 50 256 ext page bytes to x);
    staged = pages_before 306 480 ext page bytes (omega arith) x;
    inbox = inbox_kept ext page bytes (inl (omega arith)) x;
    tables = tables_kept ext page bytes (inl (omega arith)) x;
  };
  relocs = λ prog ext page bytes from to. λ x. record {
    gates = λ g. gate_kept ext page bytes g (omega arith) x;
    prog = prog;
    side_a = concat (pages_behind 8 5 ext page bytes (omega arith) x);
    side_b = concat (pages_behind 13 5 ext page bytes (omega arith) x);
    symbols = concat (pages_behind 18 32 ext page bytes from x);
    relocs = concat (pages_within 50 256 ext page bytes from to x);
    staged = pages_before 306 480 ext page bytes to x;
    inbox = inbox_kept ext page bytes (inl (omega arith)) x;
    tables = tables_kept ext page bytes (inl (omega arith)) x;
  };
  staged = λ prog ext page bytes from to. λ x. record {
    gates = λ g. gate_kept ext page bytes g (omega arith) x;
    prog = prog;
    side_a = concat (pages_behind 8 5 ext page bytes (omega arith) x);
    side_b = concat (pages_behind 13 5 ext page bytes (omega arith) x);
    symbols = concat (pages_behind 18 32 ext page bytes (omega arith) x);
    relocs = concat (pages_behind 50 256 ext page bytes from x);
    staged = pages_within 306 480 ext page bytes from to x;
    inbox = inbox_kept ext page bytes (inl to) x;
    tables = tables_kept ext page bytes (inl (omega arith)) x;
  };
  inbox = λ prog ext s i bytes slot_low page_low. λ x. record {
    gates = λ g. gate_kept ext (786 + 39 * s + i) bytes g (omega arith) x;
    prog = prog;
    side_a = concat (pages_behind 8 5 ext (786 + 39 * s + i) bytes (omega arith) x);
    side_b = concat (pages_behind 13 5 ext (786 + 39 * s + i) bytes (omega arith) x);
    symbols = concat (pages_behind 18 32 ext (786 + 39 * s + i) bytes (omega arith) x);
    relocs = concat (pages_behind 50 256 ext (786 + 39 * s + i) bytes (omega arith) x);
    staged = pages_behind 306 480 ext (786 + 39 * s + i) bytes (omega arith) x;
    inbox = inbox_set ext s i bytes slot_low page_low x;
    tables = tables_kept ext (786 + 39 * s + i) bytes (inl (omega arith)) x;
  };
  table = λ prog ext s i bytes slot_low page_low. λ x. record {
    gates = λ g. gate_kept ext (1410 + 39 * s + i) bytes g (omega arith) x;
    prog = prog;
    side_a = concat (pages_behind 8 5 ext (1410 + 39 * s + i) bytes (omega arith) x);
    side_b = concat (pages_behind 13 5 ext (1410 + 39 * s + i) bytes (omega arith) x);
    symbols = concat (pages_behind 18 32 ext (1410 + 39 * s + i) bytes (omega arith) x);
    relocs = concat (pages_behind 50 256 ext (1410 + 39 * s + i) bytes (omega arith) x);
    staged = pages_behind 306 480 ext (1410 + 39 * s + i) bytes (omega arith) x;
    inbox = inbox_kept ext (1410 + 39 * s + i) bytes (inr (omega arith)) x;
    tables = tables_set ext s i bytes slot_low page_low x;
  };
  unused = λ prog ext page bytes past. λ x. record {
    gates = λ g. gate_kept ext page bytes g (omega arith) x;
    prog = prog;
    side_a = concat (pages_behind 8 5 ext page bytes (omega arith) x);
    side_b = concat (pages_behind 13 5 ext page bytes (omega arith) x);
    symbols = concat (pages_behind 18 32 ext page bytes (omega arith) x);
    relocs = concat (pages_behind 50 256 ext page bytes (omega arith) x);
    staged = pages_behind 306 480 ext page bytes (omega arith) x;
    inbox = inbox_kept ext page bytes (inr (omega arith)) x;
    tables = tables_kept ext page bytes (inr past) x;
  };
  prog = λ prog ext page bytes. refl;
}
