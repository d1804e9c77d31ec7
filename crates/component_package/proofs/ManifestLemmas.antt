-- What manifests say, and that faultless ones are the spelling of it.
use Rattle.std.proofs.Common.{◌≡◌, ℕ, zero, suc, ◌+◌, ◌-◌, ◌*◌, ◌/◌, ◌%◌, ◌<◌, ◌≤◌, Bool, true, false, cond, eqb, Option, Some, None, List, [], ◌∷◌, ◌++◌, length, take, drop, get_or, map, refl, sym, ap, ap₂, subst, ◌∙◌, arith, slice_range, length-append, append_assoc}
use Rattle.std.specs.Prelude.{slice_get, not, ◌||◌, nat_lt}
use Rattle.std.specs.List.{flat_map, list_any, AllByRecursion}
use Rattle.std.specs.Option.{option_or}
use Rattle.std.proofs.lemmas.Bool.{eqb-true, ltb-false, le-ltb, not-false, or_parts}
use Rattle.std.proofs.lemmas.Bool.Decides.{nat_tests}
use Rattle.std.proofs.lemmas.List.{append-nil, take_at, drop_at, take-take, drop-take, drop-drop, drop_more, drop_all, length-take-le, get_or-take, map-append}
use Rattle.std.proofs.lemmas.List.Folds.{list_any-append}
use Rattle.std.proofs.lemmas.List.FromFn.{fill_by_all}
use Rattle.std.proofs.lemmas.Option.{slice_get-get_or}
use Rattle.avr_reloc.specs.Field.{AreBytes}
use Rattle.avr_reloc.proofs.Fixups.{AreBytes-slice, length-field, get_or-slice}
use Rattle.component_package.specs.declared.manifest.Entry.{Entry}
use Rattle.component_package.specs.declared.manifest.ManifestFault.{ManifestFault}
use Rattle.component_package.specs.declared.manifest.ManifestFault.TheVariants.{Short, Count, Repeated, Length}
use Rattle.component_package.specs.packages.Numbers.{u32_at, u32_bytes}
use Rattle.component_package.specs.packages.Reading.{first_fault, list_of}
use Rattle.component_package.specs.packages.Manifest.{Release, AreDistinct, IsManifestEntry, IsRelease, SpellsRelease, manifest_entry_bytes, manifest_bytes, manifest_entry_at, manifest_entry, manifest_count, release_in, is_repeated, entry_fault, manifest_fault}
use Rattle.component_package.specs.packages.ManifestSteps.{size_fault, fault_of_entry}
use Rattle.component_package.proofs.First.{none_or, no_fault, none_first, passed}
use Rattle.component_package.proofs.Lists.{entries, list_of_more, length-list_of, all_of_list, all_at, list_of_entries}

-- ---- the tests in their order

or_row : {F : Type 0} (a p q : Bool) (x y z : F) (r : Option F) → option_or (cond a (Some x) (cond p (Some y) (cond q (Some z) None))) r ≡ cond a (Some x) (cond p (Some y) (cond q (Some z) r))
or_row true p q x y z r = refl
or_row false true q x y z r = refl
or_row false false true x y z r = refl
or_row false false false x y z r = refl

-- a manifest's first fault is its size's, or else its first entry's that has one
pub fault_parts : (b : List ℕ) → manifest_fault b ≡ option_or (size_fault b) (first_fault (entry_fault b) (manifest_count b))
fault_parts b =
    sym (or_row (nat_lt (length b) 5) (eqb (manifest_count b) 0 || nat_lt 16 (manifest_count b)) (not (eqb (length b) (5 + 38 * manifest_count b)))
    (Short (length b)) (Count (manifest_count b)) (Short (length b)) (first_fault (entry_fault b) (manifest_count b)))

-- a manifest whose size is right
pub record IsSized (b : List ℕ) : Type 0 where
  pub some : 1 ≤ manifest_count b
  pub few : manifest_count b ≤ 16
  pub whole : length b ≡ 5 + 38 * manifest_count b

-- no fault says so
pub sized : (b : List ℕ) → size_fault b ≡ None → IsSized b
sized b none =
    let short = passed (nat_lt (length b) 5) (Short (length b)) _ none in
    let count = passed (eqb (manifest_count b) 0 || nat_lt 16 (manifest_count b)) (Count (manifest_count b)) _ short.1 in
    let whole = passed (not (eqb (length b) (5 + 38 * manifest_count b))) (Short (length b)) _ count.1 in
    let both = or_parts _ _ count.0 in
    let not_zero : eqb (manifest_count b) 0 ≡ false = both.0 in
    record {
      some = grind (arith, nat_tests, not_zero);
      few = ltb-false _ _ both.1;
      whole = eqb-true _ _ (not-false _ whole.0);
    }

-- and the other way round
pub size_passes : (b : List ℕ) → 1 ≤ manifest_count b → manifest_count b ≤ 16 → length b ≡ 5 + 38 * manifest_count b → size_fault b ≡ None
size_passes b some few whole =
    let long : nat_lt (length b) 5 ≡ false = le-ltb (length b) 5 (omega arith) in
    let nonzero : eqb (manifest_count b) 0 ≡ false = grind (arith, nat_tests) in
    let small : nat_lt 16 (manifest_count b) ≡ false = le-ltb 16 (manifest_count b) few in
    let same : eqb (length b) (5 + 38 * manifest_count b) ≡ true = grind (arith, nat_tests) in
    rw (long, nonzero, small, same) refl

-- ---- one entry

low_byte : (x y : ℕ) → x < 256 → (x + 256 * y) % 256 ≡ x
low_byte x y p = omega arith

high_byte : (x y : ℕ) → x < 256 → (x + 256 * y) / 256 ≡ y
high_byte x y p = omega arith

two : (n : ℕ) → n % 256 + 256 * (n / 256) ≡ n
two n = omega arith

next : (b : List ℕ) (at n : ℕ) → at + n < length b → drop (at + n) b ≡ get_or b (at + n) 0 ∷ drop (at + (n + 1)) b
next b at n lt = drop_more b (at + n) 0 lt ∙ ap (λ k. get_or b (at + n) 0 ∷ drop k b) (omega arith)

six : (b : List ℕ) (at : ℕ) → at + 6 ≤ length b
    → drop at b ≡ get_or b at 0 ∷ get_or b (at + 1) 0 ∷ get_or b (at + 2) 0 ∷ get_or b (at + 3) 0 ∷ get_or b (at + 4) 0 ∷ get_or b (at + 5) 0 ∷ drop (at + 6) b
six b at long =
    drop_more b at 0 (omega arith)
    ∙ ap (λ (l : List ℕ). get_or b at 0 ∷ l) (next b at 1 (omega arith)
    ∙ ap (λ (l : List ℕ). get_or b (at + 1) 0 ∷ l) (next b at 2 (omega arith)
    ∙ ap (λ (l : List ℕ). get_or b (at + 2) 0 ∷ l) (next b at 3 (omega arith)
    ∙ ap (λ (l : List ℕ). get_or b (at + 3) 0 ∷ l) (next b at 4 (omega arith)
    ∙ ap (λ (l : List ℕ). get_or b (at + 4) 0 ∷ l) (next b at 5 (omega arith))))))

-- an entry's bytes are those where it was read
pub entry_there : (b : List ℕ) (at : ℕ) → AreBytes b → at + 38 ≤ length b → manifest_entry_bytes (manifest_entry_at b at) ≡ slice_range b at (at + 38)
entry_there b at bytes long =
    let e3 : at + 2 + 1 ≡ at + 3 = omega arith in
    let e5 : at + 4 + 1 ≡ at + 5 = omega arith in
    let n : at + 38 - at ≡ 38 = omega arith in
    let m : at + 38 - (at + 6) ≡ 32 = omega arith in
    let front = six b at (omega arith) in
    rw (
      e3,
      e5,
      low_byte (get_or b at 0) (get_or b (at + 1) 0) (bytes at),
      high_byte (get_or b at 0) (get_or b (at + 1) 0) (bytes at),
      low_byte (get_or b (at + 2) 0) (get_or b (at + 3) 0) (bytes (at + 2)),
      high_byte (get_or b (at + 2) 0) (get_or b (at + 3) 0) (bytes (at + 2)),
      low_byte (get_or b (at + 4) 0) (get_or b (at + 5) 0) (bytes (at + 4)),
      high_byte (get_or b (at + 4) 0) (get_or b (at + 5) 0) (bytes (at + 4)),
      n,
      m,
      front,
    ) refl

-- an entry is read again where its bytes begin
pub entry_again : (e : Entry) (rest : List ℕ) → IsManifestEntry e → manifest_entry_at (manifest_entry_bytes e ++ rest) 0 ≡ e
entry_again e rest is = rw (two e.component, two e.version, two e.length, take_at e.digest rest 32 is.digest) refl

-- and behind other bytes
pub entry_from_slice : (b : List ℕ) (at w : ℕ) → 38 ≤ w → manifest_entry_at (slice_range b at (at + w)) 0 ≡ manifest_entry_at b at
entry_from_slice b at w wide =
    let s = slice_range b at (at + w) in
    let e3 : at + 2 + 1 ≡ at + 3 = omega arith in
    let e5 : at + 4 + 1 ≡ at + 5 = omega arith in
    let e0 : at + 0 ≡ at = omega arith in
    let g0 : get_or s 0 0 ≡ get_or b at 0 = get_or-slice b at (at + w) 0 (omega arith) ∙ ap (λ k. get_or b k 0) e0 in
    let g1 = get_or-slice b at (at + w) 1 (omega arith) in
    let g2 = get_or-slice b at (at + w) 2 (omega arith) in
    let g3 = get_or-slice b at (at + w) 3 (omega arith) in
    let g4 = get_or-slice b at (at + w) 4 (omega arith) in
    let g5 = get_or-slice b at (at + w) 5 (omega arith) in
    let n : at + w - at ≡ 6 + (w - 6) = omega arith in
    let m : at + 38 - (at + 6) ≡ 32 = omega arith in
    let digest : slice_range s 6 38 ≡ slice_range b (at + 6) (at + 38) =
    ap (λ k. take 32 (drop 6 (take k (drop at b)))) n ∙ ap (take 32) (drop-take 6 (w - 6) (drop at b)) ∙ take-take 32 (w - 6) (drop 6 (drop at b)) (omega arith)
    ∙ ap (take 32) (drop-drop 6 at b) ∙ ap (λ k. take k (drop (at + 6) b)) (sym m) in
    rw (e3, e5, ← g0, ← g1, ← g2, ← g3, ← g4, ← g5, ← digest) refl

-- the four bytes of a number
pub four_bytes : (a b c d : ℕ) → a < 256 → b < 256 → c < 256 → u32_bytes (a + 256 * b + 65536 * (c + 256 * d)) ≡ a ∷ b ∷ c ∷ d ∷ []
four_bytes a b c d p q r =
    let e0 : (a + 256 * b + 65536 * (c + 256 * d)) % 256 ≡ a = omega arith in
    let e1 : (a + 256 * b + 65536 * (c + 256 * d)) / 256 % 256 ≡ b = omega arith in
    let e2 : (a + 256 * b + 65536 * (c + 256 * d)) / 65536 % 256 ≡ c = omega arith in
    let e3 : (a + 256 * b + 65536 * (c + 256 * d)) / 16777216 ≡ d = omega arith in
    rw (e0, e1, e2, e3) refl

-- a number is read again from its bytes
pub number_again : (n : ℕ) (rest : List ℕ) → u32_at (u32_bytes n ++ rest) 0 ≡ n
number_again n rest = omega arith

-- the first five bytes
pub front_five : (b : List ℕ) → 5 ≤ length b → b ≡ get_or b 0 0 ∷ get_or b 1 0 ∷ get_or b 2 0 ∷ get_or b 3 0 ∷ get_or b 4 0 ∷ drop 5 b
front_five b long =
    drop_more b 0 0 (omega arith)
    ∙ ap (λ (l : List ℕ). get_or b 0 0 ∷ l) (drop_more b 1 0 (omega arith)
    ∙ ap (λ (l : List ℕ). get_or b 1 0 ∷ l) (drop_more b 2 0 (omega arith)
    ∙ ap (λ (l : List ℕ). get_or b 2 0 ∷ l) (drop_more b 3 0 (omega arith)
    ∙ ap (λ (l : List ℕ). get_or b 3 0 ∷ l) (drop_more b 4 0 (omega arith)))))

-- ---- entries of one width, where each is one

-- the bytes of an entry among them
pub entry_among : {X : Type 0} (P : X → Type 0) (write : X → List ℕ) (w : ℕ) → ((x : X) → P x → length (write x) ≡ w) → (xs : List X) (front back : List ℕ) (i : ℕ) (x : X) → AllByRecursion P xs → slice_get xs i ≡ Some x
    → slice_range (front ++ (flat_map write xs ++ back)) (length front + w * i) (length front + w * i + w) ≡ write x
entry_among P write w wide [] front back i x all here = absurd cc
entry_among P write w wide (y ∷ ys) front back zero x all here =
    let same : y ≡ x = cc in
    let at : length front + w * 0 ≡ length front = omega arith in
    let grouped : flat_map write (y ∷ ys) ++ back ≡ write y ++ (flat_map write ys ++ back) = append_assoc (write y) (flat_map write ys) back in
    let n : length front + w - length front ≡ w = omega arith in
    rw (at, n, grouped, drop_at front (write y ++ (flat_map write ys ++ back)) (length front) refl, take_at (write y) (flat_map write ys ++ back) w (wide y all.0)) (ap write same)
entry_among P write w wide (y ∷ ys) front back (suc i) x all here =
    let rest = entry_among P write w wide ys (front ++ write y) back i x all.1 here in
    let at : length (front ++ write y) + w * i ≡ length front + w * suc i = omega (arith, length-append front (write y), wide y all.0) in
    let grouped : front ++ (flat_map write (y ∷ ys) ++ back) ≡ (front ++ write y) ++ (flat_map write ys ++ back) =
    ap (λ (r : List ℕ). front ++ r) (append_assoc (write y) (flat_map write ys) back) ∙ sym (append_assoc front (write y) (flat_map write ys ++ back)) in
    rw (grouped, ← at) rest

-- how long they are together
pub length-among : {X : Type 0} (P : X → Type 0) (write : X → List ℕ) (w : ℕ) → ((x : X) → P x → length (write x) ≡ w) → (xs : List X) → AllByRecursion P xs → length (flat_map write xs) ≡ w * length xs
length-among P write w wide [] all = omega arith
length-among P write w wide (x ∷ xs) all = omega (arith, length-append (write x) (flat_map write xs), wide x all.0, length-among P write w wide xs all.1)

-- ---- numbers that differ

list_any-map : {X : Type 0} (f : X → ℕ) (c : ℕ) (xs : List X) → list_any (λ y. eqb y c) (map f xs) ≡ list_any (λ x. eqb (f x) c) xs
list_any-map f c [] = refl
list_any-map f c (x ∷ xs) = ap (λ (b : Bool). eqb (f x) c || b) (list_any-map f c xs)

eqb_turned : (x y : ℕ) → eqb x y ≡ false → eqb y x ≡ false
eqb_turned x y e = grind (arith, nat_tests)

-- one more number
pub distinct_more : (xs : List ℕ) (x : ℕ) → AreDistinct xs → list_any (λ y. eqb y x) xs ≡ false → AreDistinct (xs ++ x ∷ [])
distinct_more [] x apart new = (refl, tt)
distinct_more (y ∷ ys) x apart new =
    let parts = or_parts (eqb y x) (list_any (λ z. eqb z x) ys) new in
    let turned = eqb_turned y x parts.0 in
    (list_any-append (λ z. eqb z y) ys (x ∷ []) ∙ rw (apart.0, turned) refl, distinct_more ys x apart.1 parts.1)

-- a test that no element passes
pub none_passes : {X : Type 0} (p : X → Bool) (xs : List X) (i : ℕ) (x : X) → list_any p xs ≡ false → slice_get xs i ≡ Some x → p x ≡ false
none_passes p [] i x none here = absurd cc
none_passes {X} p (y ∷ ys) zero x none here = let same : y ≡ x = cc in subst (λ (z : X). p z ≡ false) same (or_parts (p y) (list_any p ys) none).0
none_passes p (y ∷ ys) (suc i) x none here = none_passes p ys i x (or_parts (p y) (list_any p ys) none).1 here

-- the element at a place within a list
pub element_at : {X : Type 0} (xs : List X) (i : ℕ) → i < length xs → (x : X) × (slice_get xs i ≡ Some x)
element_at [] i lt = absurd (omega arith)
element_at (y ∷ ys) zero lt = (y, refl)
element_at (y ∷ ys) (suc i) lt = element_at ys i (omega arith)

-- none before an element has its number
pub apart_before : {X : Type 0} (f : X → ℕ) (xs : List X) (i : ℕ) (x : X) → AreDistinct (map f xs) → slice_get xs i ≡ Some x → list_any (λ y. eqb (f y) (f x)) (take i xs) ≡ false
apart_before f [] i x apart here = absurd cc
apart_before f (y ∷ ys) zero x apart here = refl
apart_before f (y ∷ ys) (suc i) x apart here =
    let other : eqb (f x) (f y) ≡ false = none_passes (λ z. eqb (f z) (f y)) ys i x (sym (list_any-map f (f y) ys) ∙ apart.0) here in
    rw (eqb_turned (f x) (f y) other) (apart_before f ys i x apart.1 here)

-- numbers of a list that a function numbers, each other than those before it
pub distinct_list : {X : Type 0} (g : X → ℕ) (f : ℕ → X) (n : ℕ) → ((i : ℕ) → i < n → list_any (λ x. eqb (g x) (g (f i))) (list_of f i) ≡ false) → AreDistinct (map g (list_of f n))
distinct_list g f zero new = tt
distinct_list g f (suc n) new =
    let front = distinct_list g f n (λ i lt. new i (omega arith)) in
    let here : list_any (λ y. eqb y (g (f n))) (map g (list_of f n)) ≡ false = list_any-map g (g (f n)) (list_of f n) ∙ new n (omega arith) in
    subst (λ (l : List ℕ). AreDistinct l) (sym (ap (map g) (list_of_more f n) ∙ map-append g (list_of f n) (f n ∷ []))) (distinct_more (map g (list_of f n)) (g (f n)) front here)

-- the first elements of a list that a function numbers
pub list_of-front : {X : Type 0} (f : ℕ → X) (xs : List X) (i : ℕ) → ((k : ℕ) (x : X) → slice_get xs k ≡ Some x → f k ≡ x) → i < length xs → list_of f i ≡ take i xs
list_of-front f [] i each lt = absurd (omega arith)
list_of-front f (y ∷ ys) i each lt =
    let xs = y ∷ ys in
    sym (fill_by_all f (take i xs) i y (length-take-le i xs (omega arith)) (λ k small. get_or-take i xs k y small ∙ sym (each k (get_or xs k y) (slice_get-get_or xs k y (omega arith)))))

-- ---- pieces put behind one another

-- a piece put behind what was put before it
pub put_next : (a old xs piece : List ℕ) (n : ℕ) → xs ≡ a ++ drop n old → length a ≡ n → take n xs ++ (piece ++ drop (n + length piece) xs) ≡ (a ++ piece) ++ drop (n + length piece) old
put_next a old xs piece n is len =
    let front : take n xs ≡ a = ap (take n) is ∙ take_at a (drop n old) n len in
    let behind : drop n xs ≡ drop n old = ap (drop n) is ∙ drop_at a (drop n old) n len in
    let rest : drop (n + length piece) xs ≡ drop (n + length piece) old = sym (drop-drop (length piece) n xs) ∙ ap (drop (length piece)) behind ∙ drop-drop (length piece) n old in
    ap₂ (λ (x y : List ℕ). x ++ (piece ++ y)) front rest ∙ sym (append_assoc a piece (drop (n + length piece) old))

-- ---- the release that faultless bytes spell

-- what an entry is that has no fault
entry_good : (b : List ℕ) (i : ℕ) → AreBytes b → 5 + 38 * i + 38 ≤ length b → entry_fault b i ≡ None → IsManifestEntry (manifest_entry b i)
entry_good b i bytes long none =
    let at = 5 + 38 * i in
    let e = manifest_entry b i in
    let first = passed (is_repeated b i) (Repeated e.component) _ none in
    let then_length = passed (nat_lt e.length 32 || nat_lt 9984 e.length) (Length e.length) _ first.1 in
    let both = or_parts (nat_lt e.length 32) (nat_lt 9984 e.length) then_length.0 in
    let w : at + 6 + 32 ≡ at + 38 = omega arith in
    record {
      component = omega (arith, bytes at, bytes (at + 1));
      version = omega (arith, bytes (at + 2), bytes (at + 2 + 1));
      least = ltb-false _ _ both.0;
      most = ltb-false _ _ both.1;
      digest = subst (λ (k : ℕ). length (slice_range b (at + 6) k) ≡ 32) w (length-field b (at + 6) 32 (omega arith));
      bytes = AreBytes-slice b (at + 6) (at + 38) bytes;
    }

pub spelled_release : (b : List ℕ) → AreBytes b → manifest_fault b ≡ None → SpellsRelease b (release_in b)
spelled_release b bytes none =
    let n = manifest_count b in
    let parts = none_or (size_fault b) (first_fault (entry_fault b) n) (sym (fault_parts b) ∙ none) in
    let size = sized b parts.0 in
    let each : (i : ℕ) → i < n → entry_fault b i ≡ None = λ i lt. no_fault (entry_fault b) n i parts.1 lt in
    let there = entries manifest_entry_bytes (manifest_entry b) b 5 38 n (λ i lt. entry_there b (5 + 38 * i) bytes (omega (arith, size.whole))) in
    let behind : drop (5 + 38 * n) b ≡ [] = drop_all (5 + 38 * n) b (omega (arith, size.whole)) in
    let count : length (list_of (manifest_entry b) n) ≡ n = length-list_of (manifest_entry b) n in
    record {
      release = record {
        number = omega (arith, bytes 0, bytes 1, bytes 2, bytes 3);
        some = omega (arith, count, size.some);
        few = omega (arith, count, size.few);
        entries = all_of_list IsManifestEntry (manifest_entry b) n (λ i lt. entry_good b i bytes (omega (arith, size.whole)) (each i lt));
        distinct = distinct_list (λ (e : Entry). e.component) (manifest_entry b) n (λ i lt. (passed (is_repeated b i) (Repeated (manifest_entry b i).component) _ (each i lt)).0);
      };
      bytes =
          front_five b (omega (arith, size.whole))
          ∙ ap (λ (l : List ℕ). get_or b 0 0 ∷ get_or b 1 0 ∷ get_or b 2 0 ∷ get_or b 3 0 ∷ n ∷ l) (there ∙ ap (λ (l : List ℕ). flat_map manifest_entry_bytes (list_of (manifest_entry b) n) ++ l) behind ∙ append-nil (flat_map manifest_entry_bytes (list_of (manifest_entry b) n)))
          ∙ ap₂ (λ (x : List ℕ) (k : ℕ). x ++ k ∷ flat_map manifest_entry_bytes (list_of (manifest_entry b) n)) (sym (four_bytes (get_or b 0 0) (get_or b 1 0) (get_or b 2 0) (get_or b 3 0) (bytes 0) (bytes 1) (bytes 2))) (sym count);
    }

-- ---- and back

pub entry_wide : (e : Entry) → IsManifestEntry e → length (manifest_entry_bytes e) ≡ 38
entry_wide e is = omega (arith, is.digest)

-- what stands at entry i of a manifest that a release spells
entry_read : (r : Release) → IsRelease r → (i : ℕ) (e : Entry) → slice_get r.entries i ≡ Some e → manifest_entry (manifest_bytes r) i ≡ e
entry_read r is i e here =
    let b = manifest_bytes r in
    let front : List ℕ = u32_bytes r.number ++ length r.entries ∷ [] in
    let at : 5 + 38 * i + 38 ≡ 5 + 38 * i + 38 = refl in
    let there : slice_range b (5 + 38 * i) (5 + 38 * i + 38) ≡ manifest_entry_bytes e =
    ap (λ (l : List ℕ). slice_range (front ++ l) (5 + 38 * i) (5 + 38 * i + 38)) (sym (append-nil (flat_map manifest_entry_bytes r.entries)))
    ∙ entry_among IsManifestEntry manifest_entry_bytes 38 entry_wide r.entries front [] i e is.entries here in
    sym (entry_from_slice b (5 + 38 * i) 38 (omega arith))
    ∙ ap (λ (l : List ℕ). manifest_entry_at l 0) (there ∙ sym (append-nil (manifest_entry_bytes e)))
    ∙ entry_again e [] (all_at IsManifestEntry r.entries i e is.entries here)

-- bytes that spell a release say it
pub release_again : (b : List ℕ) (r : Release) → SpellsRelease b r → release_in b ≡ r
release_again b r spells =
    let is = spells.release in
    let entries_are : list_of (manifest_entry (manifest_bytes r)) (length r.entries) ≡ r.entries = list_of_entries (manifest_entry (manifest_bytes r)) r.entries (entry_read r is) in
    ap release_in spells.bytes ∙ ap₂ (λ (n : ℕ) (es : List Entry). the_release n es) (number_again r.number (length r.entries ∷ flat_map manifest_entry_bytes r.entries)) entries_are
  where
    the_release : ℕ → List Entry → Release
    the_release n es = record { number = n; entries = es }

-- a good entry with a new component
pub entry_passes : (before : List Entry) (e : Entry) → IsManifestEntry e → list_any (λ f. eqb f.component e.component) before ≡ false → fault_of_entry before e ≡ None
entry_passes before e is new =
    let least : nat_lt e.length 32 ≡ false = le-ltb e.length 32 is.least in
    let most : nat_lt 9984 e.length ≡ false = le-ltb 9984 e.length is.most in
    rw (new, least, most) refl

-- and have no fault
pub faultless_release : (b : List ℕ) (r : Release) → SpellsRelease b r → manifest_fault b ≡ None
faultless_release b r spells =
    let is = spells.release in
    let d = manifest_bytes r in
    let size : length d ≡ 5 + 38 * length r.entries = omega (arith, length-among IsManifestEntry manifest_entry_bytes 38 entry_wide r.entries is.entries) in
    let fits : size_fault d ≡ None = size_passes d is.some is.few size in
    let each : (i : ℕ) → i < length r.entries → entry_fault d i ≡ None = λ i lt. at i lt (element_at r.entries i lt) in
    ap manifest_fault spells.bytes ∙ fault_parts d ∙ ap₂ (λ (x y : Option ManifestFault). option_or x y) fits (none_first (entry_fault d) (length r.entries) each)
  where
    at : (i : ℕ) → i < length r.entries → (e : Entry) × (slice_get r.entries i ≡ Some e) → entry_fault (manifest_bytes r) i ≡ None
    at i lt x =
        let is = spells.release in
        let read : manifest_entry (manifest_bytes r) i ≡ x.0 = entry_read r is i x.0 x.1 in
        let front : list_of (manifest_entry (manifest_bytes r)) i ≡ take i r.entries = list_of-front (manifest_entry (manifest_bytes r)) r.entries i (entry_read r is) lt in
        ap₂ fault_of_entry front read ∙ entry_passes (take i r.entries) x.0 (all_at IsManifestEntry r.entries i x.0 is.entries x.1) (apart_before (λ (e : Entry). e.component) r.entries i x.0 is.distinct x.1)

-- what holds of each element holds of each of the first
pub all_front : {X : Type 0} (P : X → Type 0) (n : ℕ) (xs : List X) → AllByRecursion P xs → AllByRecursion P (take n xs)
all_front P zero xs all = tt
all_front P (suc n) [] all = tt
all_front P (suc n) (x ∷ xs) all = (all.0, all_front P n xs all.1)

-- an element among the first
pub front_at : {X : Type 0} (P : X → Type 0) (n : ℕ) (xs : List X) (i : ℕ) (d : X) → AllByRecursion P (take n xs) → i < n → n ≤ length xs → P (get_or xs i d)
front_at {X} P n xs i d all lt fits =
    let within : i < length (take n xs) = omega (arith, length-take-le n xs fits) in
    all_at P (take n xs) i (get_or xs i d) all (slice_get-get_or (take n xs) i d within ∙ ap (λ (x : X). Some x) (get_or-take n xs i d lt))
