-- Tables of names.
use Rattle.std.proofs.Common.{◌≡◌, ℕ, suc, ◌+◌, ◌<◌, Bool, true, false, cond, Option, Some, None, List, [], ◌∷◌, ◌++◌, length, refl, sym, ap, subst, ◌∙◌, arith, add-one, bytes_eq, unwrap_or}
use Rattle.std.specs.Prelude.{◌||◌, is_some, slice_index}
use Rattle.std.specs.Borrow.{Bor}
use Rattle.std.specs.Option.{option_or, option_map}
use Rattle.std.specs.List.{list_any}
use Rattle.std.specs.Ordering.{nat_cmp}
use Rattle.std.specs.Cmp.Lexicographic.{slice_cmp, bytes_decides}
use Rattle.std.specs.BTreeMap as tree
use Rattle.std.proofs.lemmas.Map.Text.{btree_map_updates_str}
use Rattle.object_packer.specs.Names.{number_in}
use Rattle.object_packer.specs.NameTable.{place_of_name, Finds}

-- a name more, behind the others
pub place_push : (ns : List (List ℕ)) (n q : List ℕ) → place_of_name (ns ++ n ∷ []) q ≡ option_or (place_of_name ns q) (cond (bytes_eq n q) (Some (length ns)) None)
place_push [] n q = refl
place_push (m ∷ ns) n q = from (bytes_eq m q) (place_of_name ns q) (place_push ns n q)
  where
    from : (b : Bool) (o : Option ℕ) → place_of_name (ns ++ n ∷ []) q ≡ option_or o (cond (bytes_eq n q) (Some (length ns)) None)
        → cond b (Some 0) (option_map (λ i. i + 1) (place_of_name (ns ++ n ∷ []) q)) ≡ option_or (cond b (Some 0) (option_map (λ i. i + 1) o)) (cond (bytes_eq n q) (Some (suc (length ns))) None)
    from true o e = refl
    from false None e = ap (option_map (λ i. i + 1)) e ∙ last (bytes_eq n q)
      where
        last : (b : Bool) → option_map (λ i. i + 1) (cond b (Some (length ns)) None) ≡ cond b (Some (suc (length ns))) None
        last true = ap (λ k. Some k) (add-one (length ns))
        last false = refl
    from false (Some i) e = ap (option_map (λ i. i + 1)) e

-- a name has a place where it is there
pub has_place : (ns : List (List ℕ)) (q : List ℕ) → is_some (place_of_name ns q) ≡ list_any (λ n. bytes_eq n q) ns
has_place [] q = refl
has_place (n ∷ ns) q = from (bytes_eq n q) (place_of_name ns q) (has_place ns q)
  where
    from : (b : Bool) (o : Option ℕ) → is_some o ≡ list_any (λ n. bytes_eq n q) ns → is_some (cond b (Some 0) (option_map (λ i. i + 1) o)) ≡ (b || list_any (λ n. bytes_eq n q) ns)
    from true o e = refl
    from false None e = e
    from false (Some i) e = e

-- a map with the place of one name more
pub finds_more : (m n : tree.BTreeMap (Bor (List ℕ)) ℕ) (ns : List (List ℕ)) (name : List ℕ) → Finds m ns → place_of_name ns name ≡ None
    → tree.UpdatesBy (λ x y. slice_cmp nat_cmp x.now y.now) (λ k. slice_cmp nat_cmp name k.now) m n (Some (length ns)) → Finds n (ns ++ name ∷ [])
finds_more m n ns name f absent u = record { finds = λ q. btree_map_updates_str name m n (Some (length ns)) u q ∙ from q (bytes_eq name q) refl }
  where
    from : (q : List ℕ) (b : Bool) → bytes_eq name q ≡ b → cond b (Some (length ns)) (tree.get_by (λ k. slice_cmp nat_cmp q k.now) m) ≡ place_of_name (ns ++ name ∷ []) q
    from q true e =
        let same : name ≡ q = (bytes_decides name q).0 e in
        let gone : place_of_name ns q ≡ None = subst (λ p. place_of_name ns p ≡ None) same absent in
        sym (place_push ns name q ∙ ap (λ o. option_or o (cond (bytes_eq name q) (Some (length ns)) None)) gone ∙ ap (λ b. cond b (Some (length ns)) None) e)
    from q false e =
        f.finds q ∙ sym (place_push ns name q ∙ ap (λ b. option_or (place_of_name ns q) (cond b (Some (length ns)) None)) e ∙ none (place_of_name ns q))
      where
        none : (o : Option ℕ) → option_or o None ≡ o
        none None = refl
        none (Some i) = refl

-- the number at a name's place
pub number_at : (ns : List (List ℕ)) (numbers : List ℕ) (name : List ℕ) → length numbers ≡ length ns
    → number_in ns numbers name ≡ unwrap_or (option_map (λ i. slice_index numbers i) (place_of_name ns name)) 0
number_at [] numbers name e = refl
number_at (n ∷ ns) [] name e = absurd cc
number_at (n ∷ ns) (k ∷ ks) name e = from (bytes_eq n name) (place_of_name ns name) (number_at ns ks name (omega (arith, e)))
  where
    from : (b : Bool) (o : Option ℕ) → number_in ns ks name ≡ unwrap_or (option_map (λ i. slice_index ks i) o) 0
        → cond b k (number_in ns ks name) ≡ unwrap_or (option_map (λ i. slice_index (k ∷ ks) i) (cond b (Some 0) (option_map (λ i. i + 1) o))) 0
    from true o e = refl
    from false None e = e
    from false (Some i) e = e ∙ ap (λ j. slice_index (k ∷ ks) j) (sym (add-one i))

-- the same where the place is known to be the number of names
pub finds_next : (m n : tree.BTreeMap (Bor (List ℕ)) ℕ) (ns : List (List ℕ)) (name : List ℕ) (place : ℕ) → Finds m ns → place_of_name ns name ≡ None → place ≡ length ns
    → tree.UpdatesBy (λ x y. slice_cmp nat_cmp x.now y.now) (λ k. slice_cmp nat_cmp name k.now) m n (Some place) → Finds n (ns ++ name ∷ [])
finds_next m n ns name place f absent same u =
    finds_more m n ns name f absent (subst (λ (k : ℕ). tree.UpdatesBy (λ x y. slice_cmp nat_cmp x.now y.now) (λ k. slice_cmp nat_cmp name k.now) m n (Some k)) same u)

-- a place is below the number of names
pub place_below : (ns : List (List ℕ)) (q : List ℕ) (i : ℕ) → place_of_name ns q ≡ Some i → i < length ns
place_below [] q i e = absurd cc
place_below (n ∷ ns) q i e = from (bytes_eq n q) (place_of_name ns q) (λ j f. place_below ns q j f) refl e
  where
    from : (b : Bool) (o : Option ℕ) → ((j : ℕ) → place_of_name ns q ≡ Some j → j < length ns) → place_of_name ns q ≡ o
        → cond b (Some 0) (option_map (λ i. i + 1) o) ≡ Some i → i < suc (length ns)
    from true o below is e = let zero : 0 ≡ i = cc in omega (arith, zero)
    from false None below is e = absurd cc
    from false (Some j) below is e = let next : j + 1 ≡ i = cc in omega (arith, next, below j is)
