-- What the parts of a mote become when one page is programmed.
use Rattle.std.proofs.Common.{Bool, true, false, cond, ◌≡◌, ◌≢◌, ◌&&◌, inl, inr, ◌⊎◌, ⊎_elim, ℕ, zero, suc, ◌+◌, ◌-◌, ◌*◌, ◌<◌, ◌≤◌, List, [], ◌∷◌, ◌++◌, length, take, drop, map, set, get_or, eqb, ltb, refl, sym, ap, ◌∙◌, arith, append_assoc, get_or-set_same, get_or-set_other, length-set}
use Rattle.std.proofs.lemmas.Bool.Decides.{nat_tests}
use Rattle.std.proofs.lemmas.List.{drop-set-lt, drop-set-add, take-set-le, same_lists, drop_at}
use Rattle.std.proofs.lemmas.Bool.{cases_lt, cases_eq, cases_order}
use Rattle.std.proofs.lemmas.List.FromFn.{length-map-range_with_len, get_or-map-range_with_len}
use Rattle.std.specs.List.{concat, range_with_len}
use Rattle.component_package.specs.mote.Store.{slot_at, slots_of}
use Rattle.component_package.specs.mote.Sides.{is_open, is_on_b, parts_of, pages_from}
use Rattle.mote_laws.specs.Programs.{EachPageIsInOnePart, JoinedPageIsPut}

-- what is behind some pages after one of those is set
drop_set : (n : ℕ) (l : List (List ℕ)) (page i : ℕ) (bytes : List ℕ) → page ≡ n + i → drop n (set l page bytes) ≡ set (drop n l) i bytes
drop_set n l page i bytes is = ap (λ p. drop n (set l p bytes)) is ∙ drop-set-add n l i bytes

-- the first pages after one of them is set
take_set : (n : ℕ) (l : List (List ℕ)) (i : ℕ) (bytes : List ℕ) → i < n → take n (set l i bytes) ≡ set (take n l) i bytes
take_set zero l i bytes within = absurd (omega arith)
take_set (suc n) [] i bytes within = refl
take_set (suc n) (x ∷ l) zero bytes within = refl
take_set (suc n) (x ∷ l) (suc i) bytes within = ap (λ (k : List (List ℕ)). x ∷ k) (take_set n l i bytes (omega arith))

-- a page before some pages, behind them and among them
pub pages_before : (first count : ℕ) (ext : List (List ℕ)) (page : ℕ) (bytes : List ℕ) → page < first → pages_from first count (set ext page bytes) ≡ pages_from first count ext
pages_before first count ext page bytes before = ap (λ (l : List (List ℕ)). take count l) (drop-set-lt first ext page bytes before)

-- behind them
pub pages_behind : (first count : ℕ) (ext : List (List ℕ)) (page : ℕ) (bytes : List ℕ) → first + count ≤ page → pages_from first count (set ext page bytes) ≡ pages_from first count ext
pages_behind first count ext page bytes behind =
    ap (λ (l : List (List ℕ)). take count l) (drop_set first ext page (page - first) bytes (omega arith))
    ∙ take-set-le count (drop first ext) (page - first) bytes (omega arith)

-- among them
pub pages_within : (first count : ℕ) (ext : List (List ℕ)) (page : ℕ) (bytes : List ℕ) → first ≤ page → page < first + count
    → pages_from first count (set ext page bytes) ≡ set (pages_from first count ext) (page - first) bytes
pages_within first count ext page bytes from to =
    ap (λ (l : List (List ℕ)). take count l) (drop_set first ext page (page - first) bytes (omega arith))
    ∙ take_set count (drop first ext) (page - first) bytes (omega arith)

-- a gate is open as its own page says
gate_is : (ext : List (List ℕ)) (page : ℕ) (bytes : List ℕ) (g : ℕ) → page < 8 → 8 ≤ length ext
    → (ltb g 8 && is_open (set ext page bytes) g) ≡ cond (eqb g page) (eqb (get_or bytes 0 0) 165) (ltb g 8 && is_open ext g)
gate_is ext page bytes g low long = ⊎_elim same other (cases_eq g page)
  where
    same : g ≡ page → (ltb g 8 && is_open (set ext page bytes) g) ≡ cond (eqb g page) (eqb (get_or bytes 0 0) 165) (ltb g 8 && is_open ext g)
    same is =
        let held : get_or (set ext page bytes) g [] ≡ bytes = ap (λ k. get_or (set ext page bytes) k []) is ∙ get_or-set_same ext page bytes [] (omega arith) in
        let open_as : is_open (set ext page bytes) g ≡ eqb (get_or bytes 0 0) 165 = ap (λ (l : List ℕ). eqb (get_or l 0 0) 165) held in
        let small : g < 8 = omega arith in
        grind (arith, nat_tests)

    other : (g ≡ page → ⊥) → (ltb g 8 && is_open (set ext page bytes) g) ≡ cond (eqb g page) (eqb (get_or bytes 0 0) 165) (ltb g 8 && is_open ext g)
    other apart =
        let held : get_or (set ext page bytes) g [] ≡ get_or ext g [] = get_or-set_other ext page g bytes [] apart in
        let open_as : is_open (set ext page bytes) g ≡ is_open ext g = ap (λ (l : List ℕ). eqb (get_or l 0 0) 165) held in
        grind (arith, nat_tests)

-- a page from 8 on changes no gate
gate_kept : (ext : List (List ℕ)) (page : ℕ) (bytes : List ℕ) (g : ℕ) → 8 ≤ page → (ltb g 8 && is_open (set ext page bytes) g) ≡ (ltb g 8 && is_open ext g)
gate_kept ext page bytes g high = ⊎_elim low past (cases_lt g 8)
  where
    low : g < 8 → (ltb g 8 && is_open (set ext page bytes) g) ≡ (ltb g 8 && is_open ext g)
    low small =
        let apart : g ≢ page = omega arith in
        ap (λ (l : List ℕ). ltb g 8 && eqb (get_or l 0 0) 165) (get_or-set_other ext page g bytes [] apart)

    past : 8 ≤ g → (ltb g 8 && is_open (set ext page bytes) g) ≡ (ltb g 8 && is_open ext g)
    past large = grind (arith, nat_tests)

-- two numbers that differ
less_or_more : (k s : ℕ) → (k ≡ s → ⊥) → (k < s) ⊎ (s < k)
less_or_more k s apart = ⊎_elim (λ same. absurd (apart same)) (λ h. h) (cases_order k s)

-- the slots that a page outside one of them leaves
slot_apart : (ext : List (List ℕ)) (page : ℕ) (bytes : List ℕ) (k : ℕ) → (page < 786 + 39 * k) ⊎ (786 + 39 * k + 39 ≤ page) → slot_at (set ext page bytes) k ≡ slot_at ext k
slot_apart ext page bytes k (inl before) = ap concat (pages_before (786 + 39 * k) 39 ext page bytes before)
slot_apart ext page bytes k (inr behind) = ap concat (pages_behind (786 + 39 * k) 39 ext page bytes behind)

-- a page of no slot
slots_kept : (ext : List (List ℕ)) (page : ℕ) (bytes : List ℕ) → (page < 786) ⊎ (2034 ≤ page) → slots_of (set ext page bytes) ≡ slots_of ext
unfolding slots_of
slots_kept ext page bytes where_it_is = same_lists _ _ lengths each
  where
    lengths : length (map (slot_at (set ext page bytes)) (range_with_len 0 32)) ≡ length (map (slot_at ext) (range_with_len 0 32))
    lengths = length-map-range_with_len (slot_at (set ext page bytes)) 0 32 ∙ sym (length-map-range_with_len (slot_at ext) 0 32)

    each : (k : ℕ) (d : List ℕ) → k < length (map (slot_at (set ext page bytes)) (range_with_len 0 32)) → get_or (map (slot_at (set ext page bytes)) (range_with_len 0 32)) k d ≡ get_or (map (slot_at ext) (range_with_len 0 32)) k d
    each k d within =
        let small : k < 32 = omega (arith, length-map-range_with_len (slot_at (set ext page bytes)) 0 32) in
        get_or-map-range_with_len (slot_at (set ext page bytes)) 0 32 k k d small (omega arith)
        ∙ slot_apart ext page bytes k (⊎_elim (λ before. inl (omega arith)) (λ behind. inr (omega arith)) where_it_is)
        ∙ sym (get_or-map-range_with_len (slot_at ext) 0 32 k k d small (omega arith))

-- page i of slot s
slots_set : (ext : List (List ℕ)) (s i : ℕ) (bytes : List ℕ) → s < 32 → i < 39
    → slots_of (set ext (786 + 39 * s + i) bytes) ≡ set (slots_of ext) s (concat (set (pages_from (786 + 39 * s) 39 ext) i bytes))
unfolding slots_of
slots_set ext s i bytes slot_low page_low = same_lists _ _ lengths each
  where
    lengths : length (map (slot_at (set ext (786 + 39 * s + i) bytes)) (range_with_len 0 32)) ≡ length (set (map (slot_at ext) (range_with_len 0 32)) s (concat (set (pages_from (786 + 39 * s) 39 ext) i bytes)))
    lengths = length-map-range_with_len (slot_at (set ext (786 + 39 * s + i) bytes)) 0 32 ∙ sym (length-set (map (slot_at ext) (range_with_len 0 32)) s (concat (set (pages_from (786 + 39 * s) 39 ext) i bytes)) ∙ length-map-range_with_len (slot_at ext) 0 32)

    here : slot_at (set ext (786 + 39 * s + i) bytes) s ≡ concat (set (pages_from (786 + 39 * s) 39 ext) i bytes)
    here = ap concat (pages_within (786 + 39 * s) 39 ext (786 + 39 * s + i) bytes (omega arith) (omega arith) ∙ ap (λ j. set (pages_from (786 + 39 * s) 39 ext) j bytes) (let e : (786 + 39 * s + i) - (786 + 39 * s) ≡ i = omega arith in e))

    each : (k : ℕ) (d : List ℕ) → k < length (map (slot_at (set ext (786 + 39 * s + i) bytes)) (range_with_len 0 32))
        → get_or (map (slot_at (set ext (786 + 39 * s + i) bytes)) (range_with_len 0 32)) k d ≡ get_or (set (map (slot_at ext) (range_with_len 0 32)) s (concat (set (pages_from (786 + 39 * s) 39 ext) i bytes))) k d
    each k d within =
        let small : k < 32 = omega (arith, length-map-range_with_len (slot_at (set ext (786 + 39 * s + i) bytes)) 0 32) in
        get_or-map-range_with_len (slot_at (set ext (786 + 39 * s + i) bytes)) 0 32 k k d small (omega arith)
        ∙ ⊎_elim
        (λ same. ap (λ j. slot_at (set ext (786 + 39 * s + i) bytes) j) same ∙ here ∙ sym (ap (λ j. get_or (set (map (slot_at ext) (range_with_len 0 32)) s (concat (set (pages_from (786 + 39 * s) 39 ext) i bytes))) j d) same
        ∙ get_or-set_same (map (slot_at ext) (range_with_len 0 32)) s (concat (set (pages_from (786 + 39 * s) 39 ext) i bytes)) d (omega (arith, length-map-range_with_len (slot_at ext) 0 32))))
        (λ apart. slot_apart ext (786 + 39 * s + i) bytes k (⊎_elim (λ below. inr (omega arith)) (λ above. inl (omega arith)) (less_or_more k s apart))
        ∙ sym (get_or-set_other (map (slot_at ext) (range_with_len 0 32)) s k (concat (set (pages_from (786 + 39 * s) 39 ext) i bytes)) d apart ∙ get_or-map-range_with_len (slot_at ext) 0 32 k k d small (omega arith)))
        (cases_eq k s)

-- a page of either side
in_side_a : (prog ext : List (List ℕ)) (page : ℕ) (bytes : List ℕ) → 8 ≤ page → page < 13
    → parts_of prog (set ext page bytes) ≡ record (parts_of prog ext) { side_a = concat (set (pages_from 8 5 ext) (page - 8) bytes) }
in_side_a prog ext page bytes from to = λ x. record {
  gates = λ g. gate_kept ext page bytes g from x;
  prog = prog;
  side_a = concat (pages_within 8 5 ext page bytes from to x);
  side_b = concat (pages_before 13 5 ext page bytes to x);
  symbols = concat (pages_before 18 32 ext page bytes (omega arith) x);
  relocs = concat (pages_before 50 256 ext page bytes (omega arith) x);
  staged = pages_before 306 480 ext page bytes (omega arith) x;
  slots = slots_kept ext page bytes (inl (omega arith)) x;
}

-- the same for side B
in_side_b : (prog ext : List (List ℕ)) (page : ℕ) (bytes : List ℕ) → 13 ≤ page → page < 18
    → parts_of prog (set ext page bytes) ≡ record (parts_of prog ext) { side_b = concat (set (pages_from 13 5 ext) (page - 13) bytes) }
in_side_b prog ext page bytes from to = λ x. record {
  gates = λ g. gate_kept ext page bytes g (omega arith) x;
  prog = prog;
  side_a = concat (pages_behind 8 5 ext page bytes from x);
  side_b = concat (pages_within 13 5 ext page bytes from to x);
  symbols = concat (pages_before 18 32 ext page bytes to x);
  relocs = concat (pages_before 50 256 ext page bytes (omega arith) x);
  staged = pages_before 306 480 ext page bytes (omega arith) x;
  slots = slots_kept ext page bytes (inl (omega arith)) x;
}

-- and of the one that isn't chosen
in_either : (prog ext : List (List ℕ)) (b : Bool) (i : ℕ) (bytes : List ℕ) → i < 5
    → parts_of prog (set ext (cond b 8 13 + i) bytes) ≡ record (parts_of prog ext) {
      side_a = cond b (concat (set (pages_from (cond b 8 13) 5 ext) i bytes)) (concat (pages_from 8 5 ext));
      side_b = cond b (concat (pages_from 13 5 ext)) (concat (set (pages_from (cond b 8 13) 5 ext) i bytes));
    }
in_either prog ext true i bytes low =
    let place : (8 + i) - 8 ≡ i = omega arith in
    in_side_a prog ext (8 + i) bytes (omega arith) (omega arith) ∙ ap (λ k. record (parts_of prog ext) { side_a = concat (set (pages_from 8 5 ext) k bytes) }) place
in_either prog ext false i bytes low =
    let place : (13 + i) - 13 ≡ i = omega arith in
    in_side_b prog ext (13 + i) bytes (omega arith) (omega arith) ∙ ap (λ k. record (parts_of prog ext) { side_b = concat (set (pages_from 13 5 ext) k bytes) }) place

pub each_page_is_in_one_part : EachPageIsInOnePart
each_page_is_in_one_part = record {
  gate = λ prog ext page bytes low long. λ x. record {
    gates = λ g. gate_is ext page bytes g low long x;
    prog = prog;
    side_a = concat (pages_before 8 5 ext page bytes low x);
    side_b = concat (pages_before 13 5 ext page bytes (omega arith) x);
    symbols = concat (pages_before 18 32 ext page bytes (omega arith) x);
    relocs = concat (pages_before 50 256 ext page bytes (omega arith) x);
    staged = pages_before 306 480 ext page bytes (omega arith) x;
    slots = slots_kept ext page bytes (inl (omega arith)) x;
  };
  side_a = in_side_a;
  side_b = in_side_b;
  other = λ prog ext i bytes low. in_either prog ext (is_on_b (parts_of prog ext)) i bytes low;
  symbols = λ prog ext page bytes from to. λ x. record {
    gates = λ g. gate_kept ext page bytes g (omega arith) x;
    prog = prog;
    side_a = concat (pages_behind 8 5 ext page bytes (omega arith) x);
    side_b = concat (pages_behind 13 5 ext page bytes from x);
    symbols = concat (pages_within 18 32 ext page bytes from to x);
    relocs = concat (pages_before 50 256 ext page bytes to x);
    staged = pages_before 306 480 ext page bytes (omega arith) x;
    slots = slots_kept ext page bytes (inl (omega arith)) x;
  };
  relocs = λ prog ext page bytes from to. λ x. record {
    gates = λ g. gate_kept ext page bytes g (omega arith) x;
    prog = prog;
    side_a = concat (pages_behind 8 5 ext page bytes (omega arith) x);
    side_b = concat (pages_behind 13 5 ext page bytes (omega arith) x);
    symbols = concat (pages_behind 18 32 ext page bytes from x);
    relocs = concat (pages_within 50 256 ext page bytes from to x);
    staged = pages_before 306 480 ext page bytes to x;
    slots = slots_kept ext page bytes (inl (omega arith)) x;
  };
  staged = λ prog ext page bytes from to. λ x. record {
    gates = λ g. gate_kept ext page bytes g (omega arith) x;
    prog = prog;
    side_a = concat (pages_behind 8 5 ext page bytes (omega arith) x);
    side_b = concat (pages_behind 13 5 ext page bytes (omega arith) x);
    symbols = concat (pages_behind 18 32 ext page bytes (omega arith) x);
    relocs = concat (pages_behind 50 256 ext page bytes from x);
    staged = pages_within 306 480 ext page bytes from to x;
    slots = slots_kept ext page bytes (inl to) x;
  };
  slot = λ prog ext s i bytes slot_low page_low. λ x. record {
    gates = λ g. gate_kept ext (786 + 39 * s + i) bytes g (omega arith) x;
    prog = prog;
    side_a = concat (pages_behind 8 5 ext (786 + 39 * s + i) bytes (omega arith) x);
    side_b = concat (pages_behind 13 5 ext (786 + 39 * s + i) bytes (omega arith) x);
    symbols = concat (pages_behind 18 32 ext (786 + 39 * s + i) bytes (omega arith) x);
    relocs = concat (pages_behind 50 256 ext (786 + 39 * s + i) bytes (omega arith) x);
    staged = pages_behind 306 480 ext (786 + 39 * s + i) bytes (omega arith) x;
    slots = slots_set ext s i bytes slot_low page_low x;
  };
  unused = λ prog ext page bytes past. λ x. record {
    gates = λ g. gate_kept ext page bytes g (omega arith) x;
    prog = prog;
    side_a = concat (pages_behind 8 5 ext page bytes (omega arith) x);
    side_b = concat (pages_behind 13 5 ext page bytes (omega arith) x);
    symbols = concat (pages_behind 18 32 ext page bytes (omega arith) x);
    relocs = concat (pages_behind 50 256 ext page bytes (omega arith) x);
    staged = pages_behind 306 480 ext page bytes (omega arith) x;
    slots = slots_kept ext page bytes (inr past) x;
  };
  prog = λ prog ext page bytes. refl;
}

pub joined_page_is_put : JoinedPageIsPut
joined_page_is_put [] i bytes whole within = absurd (omega arith)
joined_page_is_put (p ∷ pages) zero bytes whole within = ap (λ (l : List ℕ). bytes ++ l) (sym (drop_at p (concat pages) 256 whole.0))
joined_page_is_put (p ∷ pages) (suc i) bytes whole within =
    let long : length p ≡ 256 = whole.0 in
    let rest = joined_page_is_put pages i bytes whole.1 (omega arith) in
    let from : take (256 * suc i) (p ++ concat pages) ≡ p ++ take (256 * i) (concat pages) = take_past p (concat pages) (256 * suc i) (256 * i) (omega arith) in
    let to : drop (256 * suc i + 256) (p ++ concat pages) ≡ drop (256 * i + 256) (concat pages) = drop_past p (concat pages) (256 * suc i + 256) (256 * i + 256) (omega arith) in
    rw (from, to, rest) (sym (append_assoc p (take (256 * i) (concat pages)) (bytes ++ drop (256 * i + 256) (concat pages))))
  where
    take_past : (p q : List ℕ) (n m : ℕ) → n ≡ length p + m → take n (p ++ q) ≡ p ++ take m q
    take_past [] q n m is = ap (λ k. take k q) (let e : n ≡ m = omega arith in e)
    take_past (x ∷ p) q zero m is = absurd (omega arith)
    take_past (x ∷ p) q (suc n) m is = ap (λ (l : List ℕ). x ∷ l) (take_past p q n m (omega arith))

    drop_past : (p q : List ℕ) (n m : ℕ) → n ≡ length p + m → drop n (p ++ q) ≡ drop m q
    drop_past [] q n m is = ap (λ k. drop k q) (let e : n ≡ m = omega arith in e)
    drop_past (x ∷ p) q zero m is = absurd (omega arith)
    drop_past (x ∷ p) q (suc n) m is = drop_past p q n m (omega arith)
