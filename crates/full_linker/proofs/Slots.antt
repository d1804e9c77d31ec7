-- One export more in its slot.
use Rattle.std.proofs.Common.{◌≡◌, ℕ, inl, inr, Bool, true, false, eqb, List, [], ◌∷◌, ◌++◌, map, Option, Some, None, refl, sym, ap, ◌∙◌}
use Rattle.std.specs.Option.{option_or, option_map}
use Rattle.std.specs.List.{find, filter}
use Rattle.std.proofs.lemmas.Bool.{cases_Bool}
use Rattle.std.proofs.lemmas.List.{append-nil, map-append}
use Rattle.std.proofs.lemmas.List.Folds.{find-append}
use Rattle.std.proofs.lemmas.List.Elements.{filter-append}
use Rattle.component_package.specs.declared.part.Export.{Export}
use Rattle.component_package.specs.link.Link.{is_strong_export_of}
use Rattle.full_linker.proofs.Basics.{self_equal}
use Rattle.std.specs.Ordering.{nat_cmp}
use Rattle.std.specs.BTreeMap.{BTreeMap, get}
use Rattle.full_linker.specs.declared.symbols.Slot.{Slot}
use Rattle.full_linker.specs.Slots.{second_of, slot_of, AreSlots}

-- an export of this symbol
abbrev pub is_export_of : ℕ → (ℕ × Export) → Bool
is_export_of s x = eqb x.1.symbol s

-- what one element more changes of what is found
pub find_hit : {X : Type 0} (p : X → Bool) (xs : List X) (x : X) → p x ≡ true → find p (xs ++ x ∷ []) ≡ option_or (find p xs) (Some x)
find_hit p xs x e = find-append p xs (x ∷ []) ∙ rw e refl

-- something or nothing
option_or_none : {X : Type 0} (o : Option X) → option_or o None ≡ o
option_or_none None = refl
option_or_none (Some x) = refl

-- an element that fails the test changes nothing
pub find_miss : {X : Type 0} (p : X → Bool) (xs : List X) (x : X) → p x ≡ false → find p (xs ++ x ∷ []) ≡ find p xs
find_miss p xs x e = find-append p xs (x ∷ []) ∙ rw e (option_or_none (find p xs))

-- an element that fails the test is not kept
filter_miss : {X : Type 0} (p : X → Bool) (xs : List X) (x : X) → p x ≡ false → filter p (xs ++ x ∷ []) ≡ filter p xs
filter_miss p xs x e = filter-append p xs (x ∷ []) ∙ rw e (append-nil (filter p xs))

-- one that passes is kept at the end
filter_hit : {X : Type 0} (p : X → Bool) (xs : List X) (x : X) → p x ≡ true → filter p (xs ++ x ∷ []) ≡ filter p xs ++ x ∷ []
filter_hit p xs x e = filter-append p xs (x ∷ []) ∙ rw e refl

-- what is found first is the first of all
pub none_found : {X : Type 0} (p : X → Bool) (xs : List X) → find p xs ≡ None → filter p xs ≡ []
none_found p [] e = refl
none_found p (x ∷ xs) e = elim (cases_Bool (p x)) [ inl hit ↦ absurd (let f = rw hit at e in cc) | inr miss ↦ rw miss (none_found p xs (rw miss at e)) ]

-- the elements that pass begin with x
pub record Starts {X : Type 0} (p : X → Bool) (xs : List X) (x : X) : Type 0 where
  pub rest : List X
  pub is : filter p xs ≡ x ∷ rest

-- what is found first begins what is kept
pub find_some_filter : {X : Type 0} (p : X → Bool) (xs : List X) (x : X) → find p xs ≡ Some x → Starts p xs x
find_some_filter p [] x e = absurd cc
find_some_filter p (y ∷ ys) x e =
    elim (cases_Bool (p y)) [
      | inl hit ↦ let same : y ≡ x = (let f = rw hit at e in cc) in record { rest = filter p ys; is = rw hit (ap (λ z. z ∷ filter p ys) same) }
      | inr miss ↦ let s = find_some_filter p ys x (rw miss at e) in record { rest = s.rest; is = rw miss s.is }
    ]

-- one more is the second where there was one
second_push : (i k : ℕ) (rest : List ℕ) → second_of ((i ∷ rest) ++ k ∷ []) ≡ option_or (second_of (i ∷ rest)) (Some k)
second_push i k [] = refl
second_push i k (j ∷ rest) = refl

-- an export of another symbol changes nothing
pub slot_other : (xs : List (ℕ × Export)) (x : ℕ × Export) (s : ℕ) → eqb x.1.symbol s ≡ false → slot_of (xs ++ x ∷ []) s ≡ slot_of xs s
slot_other xs x s e =
    let strong : is_strong_export_of s x ≡ false = rw e refl in
    rw (find_miss (is_export_of s) xs x e, find_miss (is_strong_export_of s) xs x strong, filter_miss (is_strong_export_of s) xs x strong) refl

-- a weak export can only be the first
pub slot_weak : (xs : List (ℕ × Export)) (x : ℕ × Export) (s : ℕ) → x.1.symbol ≡ s → x.1.weak ≡ true
    → slot_of (xs ++ x ∷ []) s ≡ record (slot_of xs s) { first = option_or (slot_of xs s).first (Some x) }
slot_weak xs x s e w =
    let here : is_export_of s x ≡ true = rw e (self_equal s) in
    let strong : is_strong_export_of s x ≡ false = rw (here, w) refl in
    rw (find_hit (is_export_of s) xs x here, find_miss (is_strong_export_of s) xs x strong, filter_miss (is_strong_export_of s) xs x strong) refl

-- the first that is not weak
pub slot_strong : (xs : List (ℕ × Export)) (x : ℕ × Export) (s : ℕ) → x.1.symbol ≡ s → x.1.weak ≡ false → (slot_of xs s).strong ≡ None
    → slot_of (xs ++ x ∷ []) s ≡ record { first = option_or (slot_of xs s).first (Some x); strong = Some x; second = (slot_of xs s).second }
slot_strong xs x s e w none =
    let here : is_export_of s x ≡ true = rw e (self_equal s) in
    let strong : is_strong_export_of s x ≡ true = rw (here, w) refl in
    let gone = none_found (is_strong_export_of s) xs none in
    rw (find_hit (is_export_of s) xs x here, find_hit (is_strong_export_of s) xs x strong, filter_hit (is_strong_export_of s) xs x strong, none, gone) refl

-- a further one that is not weak can only be the second
pub slot_second : (xs : List (ℕ × Export)) (x y : ℕ × Export) (s : ℕ) → x.1.symbol ≡ s → x.1.weak ≡ false → (slot_of xs s).strong ≡ Some y
    → slot_of (xs ++ x ∷ []) s ≡ record { first = option_or (slot_of xs s).first (Some x); strong = (slot_of xs s).strong; second = option_or (slot_of xs s).second (Some x.0) }
slot_second xs x y s e w some =
    let here : is_export_of s x ≡ true = rw e (self_equal s) in
    let strong : is_strong_export_of s x ≡ true = rw (here, w) refl in
    let starts = find_some_filter (is_strong_export_of s) xs y some in
    let second : second_of (map (λ z. z.0) (filter (is_strong_export_of s) (xs ++ x ∷ []))) ≡ option_or (slot_of xs s).second (Some x.0) =
    ap (λ zs. second_of (map (λ z. z.0) zs)) (filter_hit (is_strong_export_of s) xs x strong ∙ ap (λ zs. zs ++ x ∷ []) starts.is)
    ∙ ap second_of (map-append (λ (z : ℕ × Export). z.0) (y ∷ starts.rest) (x ∷ [])) ∙ second_push y.0 x.0 (map (λ z. z.0) starts.rest)
    ∙ ap (λ zs. option_or (second_of (map (λ z. z.0) zs)) (Some x.0)) (sym starts.is) in
    rw (find_hit (is_export_of s) xs x here, find_hit (is_strong_export_of s) xs x strong, second, some) refl

-- where no export of a symbol is found, its slot is empty
pub no_slot : (s : ℕ) (xs : List (ℕ × Export)) → find (is_export_of s) xs ≡ None → slot_of xs s ≡ record { first = None; strong = None; second = None }
no_slot s [] e = refl
no_slot s (x ∷ xs) e = elim (cases_Bool (eqb x.1.symbol s)) [ inl hit ↦ absurd (let f = rw hit at e in cc) | inr miss ↦ rw miss (no_slot s xs (rw miss at e)) ]

-- what is made of something
made_of : {X Y : Type 0} (o : Option X) (y z : Y) → option_map (λ _. y) o ≡ Some z → z ≡ y
made_of None y z e = absurd cc
made_of (Some x) y z e = let same : y ≡ z = cc in sym same

-- nothing is made of nothing alone
made_of_none : {X Y : Type 0} (o : Option X) (y : Y) → option_map (λ _. y) o ≡ None → o ≡ None
made_of_none None y e = refl
made_of_none (Some x) y e = absurd cc

-- a slot that is kept is that of its symbol
pub kept_is : (xs : List (ℕ × Export)) (slots : BTreeMap ℕ Slot) (s : ℕ) (slot : Slot) → AreSlots xs slots → get nat_cmp slots s ≡ Some slot → slot ≡ slot_of xs s
kept_is xs slots s slot are e = made_of (find (is_export_of s) xs) (slot_of xs s) slot (sym (are.each s) ∙ e)

-- where none is kept, the slot is empty
pub none_kept : (xs : List (ℕ × Export)) (slots : BTreeMap ℕ Slot) (s : ℕ) → AreSlots xs slots → get nat_cmp slots s ≡ None
    → record { first = None; strong = None; second = None } ≡ slot_of xs s
none_kept xs slots s are e = sym (no_slot s xs (made_of_none (find (is_export_of s) xs) (slot_of xs s) (sym (are.each s) ∙ e)))
