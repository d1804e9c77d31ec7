-- Over kept tables the names of an object have different numbers.
use Rattle.std.proofs.Common.{◌≡◌, ℕ, ◌+◌, ◌<◌, ◌≤◌, Bool, true, false, cond, Option, Some, None, List, [], ◌∷◌, length, map, refl, sym, ap, ap₂, subst, ◌∙◌, arith}
use Rattle.std.specs.Prelude.{◌==◌, ◌&&◌, ◌||◌, not, nat_le, bytes_eq}
use Rattle.std.specs.List.{find, filter, list_any, list_all, range_with_len, AllByRecursion}
use Rattle.std.specs.Option.{option_map}
use Rattle.std.specs.Cmp.Lexicographic.{bytes_decides}
use Rattle.std.proofs.lemmas.Bool.Decides.{nat_tests}
use Rattle.avr_elf.specs.Object.{Object}
use Rattle.object_packer.specs.Names.{each_once, names}
use Rattle.object_packer.proofs.Elements.{no_way}
use Rattle.release_rows.specs.declared.row.SymbolRow.{SymbolRow}
use Rattle.release_rows.specs.Tables.{Tables, symbol_number, symbol_count}
use Rattle.release_rows.specs.Kept.{AreDifferent, AreKept}
use Rattle.release_judging.specs.Judging.{are_distinct}
use Rattle.release_versions.specs.Numbers.{numbers_from}
use Rattle.release_versions.specs.Versions.{are_symbols, numbers_of}
use Rattle.release_versions.proofs.Named.{named_numbers}

-- ---- rows with numbers from `first` on, without a gap

abbrev AreFrom : ℕ → List SymbolRow → Type 0
AreFrom first rows = map (λ r. r.number) rows ≡ range_with_len first (length (map (λ r. r.number) rows))

head_is : (first : ℕ) (r : SymbolRow) (rows : List SymbolRow) → AreFrom first (r ∷ rows) → r.number ≡ first
head_is first r rows are = cc

rest_are : (first : ℕ) (r : SymbolRow) (rows : List SymbolRow) → AreFrom first (r ∷ rows) → AreFrom (first + 1) rows
rest_are first r rows are = cc

pub passes : {X : Type 0} (p : X → Bool) (xs : List X) (x : X) → find p xs ≡ Some x → p x ≡ true
passes p [] x e = absurd cc
passes {X} p (y ∷ ys) x e = from (p y) refl e (passes p ys x)
  where
    from : (b : Bool) → p y ≡ b → cond b (Some y) (find p ys) ≡ Some x → (find p ys ≡ Some x → p x ≡ true) → p x ≡ true
    from true q e rest = let same : y ≡ x = cc in subst (λ (z : X). p z ≡ true) same q
    from false q e rest = rest e

-- the number of one that is found
inside : (first : ℕ) (rows : List SymbolRow) (p : SymbolRow → Bool) (r : SymbolRow) → AreFrom first rows → find p rows ≡ Some r → (first ≤ r.number) × (r.number < first + length rows)
inside first [] p r are e = absurd cc
inside first (x ∷ rows) p r are e = from (p x) e (inside (first + 1) rows p r (rest_are first x rows are))
  where
    from : (b : Bool) → cond b (Some x) (find p rows) ≡ Some r → (find p rows ≡ Some r → (first + 1 ≤ r.number) × (r.number < first + 1 + length rows)) → (first ≤ r.number) × (r.number < first + length (x ∷ rows))
    from true e rest =
        let same : x ≡ r = cc in
        let number : r.number ≡ first = subst (λ (z : SymbolRow). z.number ≡ first) same (head_is first x rows are) in
        (omega (arith, number), omega (arith, number))
    from false e rest = let h = rest e in (omega (arith, h.0), omega (arith, h.1))

-- and two that are found have one number only if they are one
one_row : (first : ℕ) (rows : List SymbolRow) (p q : SymbolRow → Bool) (r s : SymbolRow) → AreFrom first rows → find p rows ≡ Some r → find q rows ≡ Some s → r.number ≡ s.number → r ≡ s
one_row first [] p q r s are e f same = absurd cc
one_row first (x ∷ rows) p q r s are e f same = from (p x) (q x) e f (λ g h. one_row (first + 1) rows p q r s (rest_are first x rows are) g h same)
  where
    are2 : AreFrom (first + 1) rows
    are2 = rest_are first x rows are

    from : (b c : Bool) → cond b (Some x) (find p rows) ≡ Some r → cond c (Some x) (find q rows) ≡ Some s → (find p rows ≡ Some r → find q rows ≡ Some s → r ≡ s) → r ≡ s
    from true true e f rest = cc
    from true false e f rest =
        let here : x ≡ r = cc in
        let number : r.number ≡ first = subst (λ (z : SymbolRow). z.number ≡ first) here (head_is first x rows are) in
        absurd (omega (arith, number, same, (inside (first + 1) rows q s are2 f).0))
    from false true e f rest =
        let here : x ≡ s = cc in
        let number : s.number ≡ first = subst (λ (z : SymbolRow). z.number ≡ first) here (head_is first x rows are) in
        absurd (omega (arith, number, same, (inside (first + 1) rows p r are2 e).0))
    from false false e f rest = rest e f

-- ---- what is known of names

-- known numbers are 16 or above and below a bound, and each is one name's
pub record IsNumbering (known : List ℕ → Option ℕ) (bound : ℕ) : Type 0 where
  pub low : (n : List ℕ) (k : ℕ) → known n ≡ Some k → 16 ≤ k
  pub high : (n : List ℕ) (k : ℕ) → known n ≡ Some k → k < bound
  pub once : (m n : List ℕ) (k : ℕ) → known m ≡ Some k → known n ≡ Some k → m ≡ n

-- the row that gave a number
record Found (t : Tables) (n : List ℕ) (k : ℕ) : Type 0 where
  row : SymbolRow
  is : find (λ r. bytes_eq n r.name) t.symbols ≡ Some row
  number : row.number ≡ k

found : (t : Tables) (n : List ℕ) (k : ℕ) → symbol_number t n ≡ Some k → Found t n k
found t n k e = from (find (λ r. bytes_eq n r.name) t.symbols) refl e
  where
    from : (o : Option SymbolRow) → find (λ r. bytes_eq n r.name) t.symbols ≡ o → option_map (λ r. r.number) o ≡ Some k → Found t n k
    from None is e = absurd cc
    from (Some r) is e = record { row = r; is = is; number = cc }

pub kept_numbering : (t : Tables) → AreKept t → IsNumbering (symbol_number t) (16 + symbol_count t)
kept_numbering t kept = record {
  low = λ n k e. let f = found t n k e in subst (λ i. 16 ≤ i) f.number (inside 16 t.symbols (λ r. bytes_eq n r.name) f.row kept.symbols f.is).0;
  high = λ n k e. let f = found t n k e in subst (λ i. i < 16 + symbol_count t) f.number (inside 16 t.symbols (λ r. bytes_eq n r.name) f.row kept.symbols f.is).1;
  once = λ m n k e h.
      let f = found t m k e in
      let g = found t n k h in
      let same : f.row ≡ g.row = one_row 16 t.symbols (λ r. bytes_eq m r.name) (λ r. bytes_eq n r.name) f.row g.row kept.symbols f.is g.is (f.number ∙ sym g.number) in
      let left : m ≡ f.row.name = (bytes_decides m f.row.name).0 (passes (λ r. bytes_eq m r.name) t.symbols f.row f.is) in
      let right : n ≡ g.row.name = (bytes_decides n g.row.name).0 (passes (λ r. bytes_eq n r.name) t.symbols g.row g.is) in
      left ∙ ap (λ (r : SymbolRow). r.name) same ∙ sym right;
}

-- ---- numbers that differ

differs : (k x : ℕ) → (k ≡ x → ⊥) → (k == x) ≡ false
differs k x apart = from (k == x) refl
  where
    from : (b : Bool) → (k == x) ≡ b → (k == x) ≡ false
    from true e = absurd (apart (grind (arith, nat_tests, e)))
    from false e = e

-- a number below the next free one, which no name has
absent : (known : List ℕ → Option ℕ) (x free : ℕ) (ns : List (List ℕ)) → x < free → AllByRecursion (λ n. known n ≡ Some x → ⊥) ns → list_any (λ m. m == x) (numbers_from free (map known ns)) ≡ false
absent known x free [] lt all = refl
absent known x free (n ∷ ns) lt all = from (known n) refl (λ next below. absent known x next ns below all.1)
  where
    from : (k : Option ℕ) → known n ≡ k → ((next : ℕ) → x < next → list_any (λ m. m == x) (numbers_from next (map known ns)) ≡ false) → list_any (λ m. m == x) (numbers_from free (k ∷ map known ns)) ≡ false
    from (Some k) e rest = ap₂ (λ a b. a || b) (differs k x (λ same. all.0 (e ∙ ap (λ i. Some i) same))) (rest free lt)
    from None e rest = ap₂ (λ a b. a || b) (differs free x (λ same. omega (arith, lt, same))) (rest (free + 1) (omega (arith, lt)))

others : (known : List ℕ → Option ℕ) (bound k : ℕ) (n : List ℕ) (ns : List (List ℕ)) → IsNumbering known bound → known n ≡ Some k → list_any (bytes_eq n) ns ≡ false → AllByRecursion (λ m. known m ≡ Some k → ⊥) ns
others known bound k n [] is e no_one = tt
others known bound k n (m ∷ ns) is e no_one = from (bytes_eq n m) refl no_one (others known bound k n ns is e)
  where
    from : (b : Bool) → bytes_eq n m ≡ b → (b || list_any (bytes_eq n) ns) ≡ false → (list_any (bytes_eq n) ns ≡ false → AllByRecursion (λ m. known m ≡ Some k → ⊥) ns) → (known m ≡ Some k → ⊥) × AllByRecursion (λ m. known m ≡ Some k → ⊥) ns
    from true p q rest = absurd cc
    from false p q rest = ((λ f. no_way (bytes_eq n m) p ((bytes_decides n m).1 (is.once n m k e f))), rest q)

none_free : (known : List ℕ → Option ℕ) (bound free : ℕ) (ns : List (List ℕ)) → IsNumbering known bound → bound ≤ free → AllByRecursion (λ m. known m ≡ Some free → ⊥) ns
none_free known bound free [] is le = tt
none_free known bound free (n ∷ ns) is le = ((λ e. let lt = is.high n free e in omega (arith, lt, le)), none_free known bound free ns is le)

pub differ : (known : List ℕ → Option ℕ) (bound free : ℕ) (ns : List (List ℕ)) → IsNumbering known bound → bound ≤ free → AreDifferent ns → are_distinct (numbers_from free (map known ns)) ≡ true
differ known bound free [] is le apart = refl
differ known bound free (n ∷ ns) is le apart = from (known n) refl (λ next above. differ known bound next ns is above apart.1)
  where
    from : (k : Option ℕ) → known n ≡ k → ((next : ℕ) → bound ≤ next → are_distinct (numbers_from next (map known ns)) ≡ true) → are_distinct (numbers_from free (k ∷ map known ns)) ≡ true
    from (Some k) e rest = let lt = is.high n k e in ap₂ (λ a b. not a && b) (absent known k free ns (omega (arith, lt, le)) (others known bound k n ns is e apart.0)) (rest free le)
    from None e rest = ap₂ (λ a b. not a && b) (absent known free (free + 1) ns (omega arith) (none_free known bound free ns is le)) (rest (free + 1) (omega (arith, le)))

pub all_high : (known : List ℕ → Option ℕ) (bound free : ℕ) (ns : List (List ℕ)) → IsNumbering known bound → 16 ≤ free → list_all (λ n. nat_le 16 n) (numbers_from free (map known ns)) ≡ true
all_high known bound free [] is le = refl
all_high known bound free (n ∷ ns) is le = from (known n) refl (λ next above. all_high known bound next ns is above)
  where
    test : (k : ℕ) → 16 ≤ k → nat_le 16 k ≡ true
    test k le = grind (arith, nat_tests)

    from : (k : Option ℕ) → known n ≡ k → ((next : ℕ) → 16 ≤ next → list_all (λ n. nat_le 16 n) (numbers_from next (map known ns)) ≡ true) → list_all (λ n. nat_le 16 n) (numbers_from free (k ∷ map known ns)) ≡ true
    from (Some k) e rest = ap₂ (λ a b. a && b) (test k (is.low n k e)) (rest free le)
    from None e rest = ap₂ (λ a b. a && b) (test free le) (rest (free + 1) (omega (arith, le)))

-- ---- names that differ

less : {X : Type 0} (p q : X → Bool) (xs : List X) → list_any q xs ≡ false → list_any q (filter p xs) ≡ false
less p q [] e = refl
less p q (x ∷ xs) e = from (p x) (q x) refl e (less p q xs)
  where
    from : (a b : Bool) → q x ≡ b → (b || list_any q xs) ≡ false → (list_any q xs ≡ false → list_any q (filter p xs) ≡ false) → list_any q (cond a (x ∷ filter p xs) (filter p xs)) ≡ false
    from a true here e rest = absurd cc
    from true false here e rest = ap₂ (λ c d. c || d) here (rest e)
    from false false here e rest = rest e

pub filter_differ : (p : List ℕ → Bool) (ns : List (List ℕ)) → AreDifferent ns → AreDifferent (filter p ns)
filter_differ p [] apart = tt
filter_differ p (n ∷ ns) apart = from (p n) (filter_differ p ns apart.1)
  where
    from : (b : Bool) → AreDifferent (filter p ns) → AreDifferent (cond b (n ∷ filter p ns) (filter p ns))
    from true rest = (less p (bytes_eq n) ns apart.0, rest)
    from false rest = rest

pub turned : (n m : List ℕ) → bytes_eq m n ≡ false → bytes_eq n m ≡ false
turned n m e = from (bytes_eq n m) refl
  where
    from : (c : Bool) → bytes_eq n m ≡ c → bytes_eq n m ≡ false
    from true f = no_way (bytes_eq m n) e ((bytes_decides m n).1 (sym ((bytes_decides n m).0 f)))
    from false f = f

left_out : (n : List ℕ) (ns : List (List ℕ)) → list_any (bytes_eq n) (filter (λ m. not (bytes_eq m n)) ns) ≡ false
left_out n [] = refl
left_out n (m ∷ ns) = from (bytes_eq m n) refl (left_out n ns)
  where
    from : (b : Bool) → bytes_eq m n ≡ b → list_any (bytes_eq n) (filter (λ m. not (bytes_eq m n)) ns) ≡ false → list_any (bytes_eq n) (cond (not b) (m ∷ filter (λ m. not (bytes_eq m n)) ns) (filter (λ m. not (bytes_eq m n)) ns)) ≡ false
    from true e rest = rest
    from false e rest = ap₂ (λ a b. a || b) (turned n m e) rest

pub once_differ : (ns : List (List ℕ)) → AreDifferent (each_once ns)
once_differ [] = tt
once_differ (n ∷ ns) = (left_out n (each_once ns), filter_differ (λ m. not (bytes_eq m n)) (each_once ns) (once_differ ns))

-- ---- the law

pub kept_numbers_differ : (t : Tables) (o : Object) → AreKept t → are_symbols (numbers_of t o) ≡ true
kept_numbers_differ t o kept =
    let is = kept_numbering t kept in
    ap are_symbols (named_numbers t (16 + symbol_count t) (names o))
    ∙ ap₂ (λ a b. a && b) (differ (symbol_number t) (16 + symbol_count t) (16 + symbol_count t) (names o) is (omega arith) (once_differ _))
    (all_high (symbol_number t) (16 + symbol_count t) (16 + symbol_count t) (names o) is (omega arith))
