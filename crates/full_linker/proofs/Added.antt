-- Slots while exports are put in.
use Rattle.std.proofs.Common.{◌≡◌, ℕ, ◌+◌, ◌≤◌, inl, inr, Bool, true, false, cond, eqb, List, [], ◌∷◌, ◌++◌, length, take, map, Option, Some, None, refl, sym, ap, subst, ◌∙◌, arith, append_assoc}
use Rattle.std.specs.Prelude.{slice_get, is_some, ◌||◌}
use Rattle.std.specs.List.{list_any, find}
use Rattle.std.specs.Option.{option_map, option_or}
use Rattle.std.specs.Ordering.{nat_cmp}
use Rattle.std.specs.Map.{lookup}
use Rattle.std.specs.BTreeMap.{BTreeMap, get, btree_map_len, is_at, IsEmpty, Updates}
use Rattle.std.proofs.lemmas.Bool.{cases_Bool, eqb-true}
use Rattle.std.proofs.lemmas.List.{append-nil, map-append, take_all, length-map, take-map, take_more}
use Rattle.std.proofs.lemmas.Option.{slice_get_within, get_or_from_slice_get}
use Rattle.component_package.specs.declared.part.Export.{Export}
use Rattle.component_package.specs.link.Link.{distinct}
use Rattle.full_linker.specs.declared.symbols.Slot.{Slot}
use Rattle.full_linker.specs.Slots.{slot_of, kept_slot, AreSlots, different_symbols}
use Rattle.full_linker.proofs.Slots.{is_export_of, slot_other, find_hit, find_miss}
use Rattle.full_linker.proofs.Basics.{self_equal, other_at}
use Rattle.full_linker.proofs.Distinct.{occurs, distinct_push}

-- ---- One export

-- a symbol occurs where an export of it does
any_symbol : (s : ℕ) (xs : List (ℕ × Export)) → occurs s (map (λ x. x.1.symbol) xs) ≡ list_any (is_export_of s) xs
any_symbol s [] = refl
any_symbol s (x ∷ xs) = ap (λ b. eqb x.1.symbol s || b) (any_symbol s xs)

-- and where one is found
found_any : (s : ℕ) (xs : List (ℕ × Export)) → is_some (find (is_export_of s) xs) ≡ list_any (is_export_of s) xs
found_any s [] = refl
found_any s (x ∷ xs) = elim (cases_Bool (eqb x.1.symbol s)) [ inl hit ↦ rw hit refl | inr miss ↦ rw miss (found_any s xs) ]

-- something is made of something
made_where : {X Y : Type 0} (o : Option X) (y : Y) → is_some (option_map (λ _. y) o) ≡ is_some o
made_where None y = refl
made_where (Some x) y = refl

-- something is made where something is behind
made_behind : {X Y : Type 0} (o : Option X) (x : X) (y : Y) → option_map (λ _. y) (option_or o (Some x)) ≡ Some y
made_behind None x y = refl
made_behind (Some z) x y = refl

-- one export more counts where its symbol is new
count_after : (xs : List (ℕ × Export)) (x : ℕ × Export) (slots : BTreeMap ℕ Slot) → AreSlots xs slots
    → different_symbols (xs ++ x ∷ []) ≡ different_symbols xs + cond (is_some (get nat_cmp slots x.1.symbol)) 0 1
count_after xs x slots are =
    let there : occurs x.1.symbol (map (λ y. y.1.symbol) xs) ≡ is_some (get nat_cmp slots x.1.symbol) =
    any_symbol x.1.symbol xs ∙ sym (found_any x.1.symbol xs) ∙ sym (made_where (find (is_export_of x.1.symbol) xs) (slot_of xs x.1.symbol)) ∙ sym (ap is_some (are.each x.1.symbol)) in
    ap (λ ss. length (distinct ss)) (map-append (λ (y : ℕ × Export). y.1.symbol) xs (x ∷ [])) ∙ distinct_push (map (λ y. y.1.symbol) xs) x.1.symbol
    ∙ ap (λ b. different_symbols xs + cond b 0 1) there

-- the slots with one export more
pub slots_after : (xs : List (ℕ × Export)) (x : ℕ × Export) (slots next : BTreeMap ℕ Slot) (new : Slot) → AreSlots xs slots → new ≡ slot_of (xs ++ x ∷ []) x.1.symbol
    → Updates nat_cmp slots next x.1.symbol (Some new) → btree_map_len next ≡ btree_map_len slots + cond (is_some (get nat_cmp slots x.1.symbol)) 0 1 → AreSlots (xs ++ x ∷ []) next
slots_after xs x slots next new are e updates grows = record {
  each = λ s. elim (cases_Bool (eqb x.1.symbol s)) [
    | inl hit ↦ let same : x.1.symbol ≡ s = eqb-true x.1.symbol s hit in
        subst (λ t. get nat_cmp next t ≡ kept_slot (xs ++ x ∷ []) t) same
        (updates.1 ∙ ap Some e ∙ sym (ap (option_map (λ _. slot_of (xs ++ x ∷ []) x.1.symbol)) (find_hit (is_export_of x.1.symbol) xs x (self_equal x.1.symbol))
        ∙ made_behind (find (is_export_of x.1.symbol) xs) x (slot_of (xs ++ x ∷ []) x.1.symbol)))
    | inr miss ↦ updates.2 s (other_at x.1.symbol s miss) ∙ are.each s
        ∙ sym (ap (λ z. option_map (λ _. z) (find (is_export_of s) (xs ++ x ∷ []))) (slot_other xs x s miss) ∙ ap (option_map (λ _. slot_of xs s)) (find_miss (is_export_of s) xs x miss))
  ];
  count = grows ∙ ap (λ n. n + cond (is_some (get nat_cmp slots x.1.symbol)) 0 1) are.count ∙ sym (count_after xs x slots are);
}

-- at most one symbol more
pub one_more : (b : Bool) (m n : ℕ) → n ≡ m + cond b 0 1 → n ≤ m + 1
one_more true m n e = omega (arith, e)
one_more false m n e = omega (arith, e)

-- ---- All exports of a component

-- exports with their component
abbrev pub paired : ℕ → List Export → List (ℕ × Export)
paired k es = map (λ e. (k, e)) es

-- the first i exports are in the slots
pub record AreAdded (k : ℕ) (es : List Export) (old now : BTreeMap ℕ Slot) (i : ℕ) : Type 0 where
  pub slots : (xs : List (ℕ × Export)) → AreSlots xs old → AreSlots (xs ++ take i (paired k es)) now
  pub small : btree_map_len now ≤ btree_map_len old + i

-- before the first export
pub added_none : (k : ℕ) (es : List Export) (old : BTreeMap ℕ Slot) → AreAdded k es old old 0
added_none k es old = record {
  slots = λ xs are. subst (λ ys. AreSlots ys old) (sym (append-nil xs)) are;
  small = omega arith;
}

-- one export more, with its component
paired_more : (k : ℕ) (es : List Export) (i : ℕ) (e : Export) → slice_get es i ≡ Some e → take (i + 1) (paired k es) ≡ take i (paired k es) ++ (k, e) ∷ []
paired_more k es i e here =
    let lt = slice_get_within es i e here in
    take-map (λ (f : Export). (k, f)) (i + 1) es ∙ ap (map (λ (f : Export). (k, f))) (take_more es i e lt ∙ ap (λ f. take i es ++ f ∷ []) (get_or_from_slice_get es i e e here))
    ∙ map-append (λ (f : Export). (k, f)) (take i es) (e ∷ []) ∙ ap (λ (ys : List (ℕ × Export)). ys ++ (k, e) ∷ []) (sym (take-map (λ (f : Export). (k, f)) i es))

-- the next export is put in
pub added_more : (k : ℕ) (es : List Export) (old slots next : BTreeMap ℕ Slot) (i : ℕ) (e : Export) → AreAdded k es old slots i → slice_get es i ≡ Some e
    → ((xs : List (ℕ × Export)) → AreSlots xs slots → AreSlots (xs ++ (k, e) ∷ []) next) → btree_map_len next ≤ btree_map_len slots + 1 → AreAdded k es old next (i + 1)
added_more k es old slots next i e are here after small =
    let more = paired_more k es i e here in
    let longer : (xs : List (ℕ × Export)) → (xs ++ take i (paired k es)) ++ (k, e) ∷ [] ≡ xs ++ take (i + 1) (paired k es) =
    λ xs. append_assoc xs (take i (paired k es)) ((k, e) ∷ []) ∙ ap (λ ys. xs ++ ys) (sym more) in
    record {
      slots = λ xs in_old. subst (λ ys. AreSlots ys next) (longer xs) (after (xs ++ take i (paired k es)) (are.slots xs in_old));
      small = omega (arith, are.small, small);
    }

-- all exports of a component
pub added_all : (k : ℕ) (es : List Export) (i : ℕ) → length es ≤ i → take i (paired k es) ≡ paired k es
added_all k es i past = take_all i (paired k es) (omega (arith, length-map {B = ℕ × Export} es (λ e. (k, e))))

-- ---- No export

-- an empty map has the slots of no exports
pub empty_slots : (slots : BTreeMap ℕ Slot) → IsEmpty slots → AreSlots [] slots
empty_slots slots empty = record {
  each = λ s. ap (λ es. lookup (is_at (nat_cmp s)) es) empty;
  count = ap length empty;
}
