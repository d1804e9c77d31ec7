-- What a packed relocation's target says is what its symbol says.
use Rattle.std.proofs.Common.{◌≡◌, ℕ, ◌+◌, ◌<◌, ◌≤◌, Bool, true, false, cond, Option, Some, None, List, length, refl, sym, ap, subst, ◌∙◌, arith, eqb, ltb, ℤ, pos, ◌+ℤ◌, unwrap_or, if◌then◌else◌}
use Rattle.std.specs.Prelude.{not, ◌&&◌, ◌||◌, is_some}
use Rattle.std.specs.Option.{option_or, option_map}
use Rattle.std.proofs.Math.IntN.{+ℤ_assoc}
use Rattle.std.proofs.lemmas.Bool.Decides.{nat_tests}
use Rattle.avr_elf.specs.declared.constants.TheConstants.{UNDEF, ABS, COMMON}
use Rattle.avr_elf.specs.Object.{SymbolParts, Object}
use Rattle.avr_elf.specs.WellFormed.{IsWellFormed}
use Rattle.component_package.specs.declared.part.Place.{Place}
use Rattle.component_package.specs.declared.part.Place.TheVariants as places
use Rattle.component_package.specs.packages.Component.{Component}
use Rattle.component_package.specs.link.Layout.{Room, code_base, ram_base, bss_base, linker_symbol}
use Rattle.component_package.specs.link.Link.{rooms_of, address_of, fixed_target}
use Rattle.object_packer.specs.Sections.{symbol_at}
use Rattle.object_packer.specs.References.{is_local, is_weak, symbol_home, outside_at, outside_of, linker_target, own_target, fixed, local_reference, global_reference, reference_of}
use Rattle.object_packer.specs.Names.{is_used, names}
use Rattle.object_packer.specs.Faults.{value_fault, name_fault}
use Rattle.object_packer.specs.Packed.{target_number}
use Rattle.object_packer.proofs.First.{none_or}
use Rattle.object_packer.proofs.Sound.{IsFaultless, symbol_is}
use Rattle.object_packer.proofs.Numbered.{occurs, among_names}
use Rattle.name_laws.specs.NameImage.{Start, rooms_of_objects, base_in, address_of_name, local_value, global_value, value_of_symbol}
use Rattle.name_laws.proofs.Types.{Home}

-- a target's value, with a number added to it, is what a symbol says; where there is no value the number is 0
pub record Means (target value : Option ℕ) (more : ℕ) : Type 0 where
  pub sum : option_map (λ n. n + more) target ≡ value
  pub none : target ≡ None → more ≡ 0

-- ---- targets below 16

-- the value of a target of component k, where a is its number's address
abbrev pub target_value : List Component → ℕ → ℕ → Option ℕ → Bool → Option ℕ
target_value set k t a weak = option_or (fixed_target set k t) (option_or a (if weak then Some 0 else None))

module _ (os : List Object) (set : List Component) (rooms : rooms_of set ≡ rooms_of_objects os) where
  regrouped : (a b c : ℕ) → a + (b + c) ≡ a + b + c
  regrouped a b c = omega arith

  -- a part of the component's own
  own : (k : ℕ) (p : Place) (a : Option ℕ) (start v : ℕ) → Means (target_value set k (own_target p) a false) (Some (base_in (rooms_of_objects os) k p + start + v)) (start + v)
  own k places.Code a start v = record { sum = ap (λ n. Some n) (ap (λ (r : List Room). code_base r k + (start + v)) rooms ∙ regrouped (code_base (rooms_of_objects os) k) start v); none = λ e. absurd cc }
  own k places.Init a start v = record { sum = ap (λ n. Some n) (ap (λ (r : List Room). ram_base r k + (start + v)) rooms ∙ regrouped (ram_base (rooms_of_objects os) k) start v); none = λ e. absurd cc }
  own k places.Bss a start v = record { sum = ap (λ n. Some n) (ap (λ (r : List Room). bss_base r k + (start + v)) rooms ∙ regrouped (bss_base (rooms_of_objects os) k) start v); none = λ e. absurd cc }
  own k places.Absolute a start v = record { sum = ap (λ n. Some n) (regrouped 0 start v); none = λ e. absurd cc }

  -- a number
  number : (k : ℕ) (a : Option ℕ) (v : ℕ) → Means (target_value set k 10 a false) (Some v) v
  number k a v = let same : 0 + v ≡ v = omega arith in record { sum = ap (λ n. Some n) same; none = λ e. absurd cc }

  -- a symbol of the linker
  plus_zero : (o : Option ℕ) → option_map (λ n. n + 0) o ≡ o
  plus_zero None = refl
  plus_zero (Some n) = ap (λ m. Some m) (omega arith)

  linker : (k : ℕ) (a : Option ℕ) (name : List ℕ) (t : ℕ) → linker_target name ≡ Some t → Means (target_value set k t a false) (linker_symbol (rooms_of_objects os) t) 0
  linker k a name t e = from _ _ _ _ _ _ _ e
    where
      plain : (n : ℕ) → Some n ≡ Some t → target_value set k n a false ≡ linker_symbol (rooms_of_objects os) n → Means (target_value set k t a false) (linker_symbol (rooms_of_objects os) t) 0
      plain n e same =
          let is : n ≡ t = cc in
          subst (λ (m : ℕ). Means (target_value set k m a false) (linker_symbol (rooms_of_objects os) m) 0) is
          (record { sum = plus_zero (target_value set k n a false) ∙ same; none = λ e. refl })

      here : (n : ℕ) → linker_symbol (rooms_of set) n ≡ linker_symbol (rooms_of_objects os) n
      here n = ap (λ (r : List Room). linker_symbol r n) rooms

      from : (p q r s u v w : Bool) → cond p (Some 3) (cond q (Some 4) (cond r (Some 5) (cond s (Some 6) (cond u (Some 7) (cond v (Some 8) (cond w (Some 9) None)))))) ≡ Some t
          → Means (target_value set k t a false) (linker_symbol (rooms_of_objects os) t) 0
      from true q r s u v w h = plain 3 h (here 3)
      from false true r s u v w h = plain 4 h (here 4)
      from false false true s u v w h = plain 5 h (here 5)
      from false false false true u v w h = plain 6 h (here 6)
      from false false false false true v w h = plain 7 h (here 7)
      from false false false false false true w h = plain 8 h (here 8)
      from false false false false false false true h = plain 9 h (here 9)
      from false false false false false false false h = absurd cc

  -- ---- targets from 16 on

  miss : (n m : ℕ) → m < n → eqb n m ≡ false
  miss n m lt = grind (arith, nat_tests)

  no_fixed : (k n : ℕ) → 16 ≤ n → fixed_target set k n ≡ None
  no_fixed k n le =
      rw (
        miss n 0 (omega (arith, le)),
        miss n 1 (omega (arith, le)),
        miss n 2 (omega (arith, le)),
        miss n 3 (omega (arith, le)),
        miss n 4 (omega (arith, le)),
        miss n 5 (omega (arith, le)),
        miss n 6 (omega (arith, le)),
        miss n 7 (omega (arith, le)),
        miss n 8 (omega (arith, le)),
        miss n 9 (omega (arith, le)),
        miss n 10 (omega (arith, le)),
      ) refl

  named : (k n : ℕ) (a b : Option ℕ) (weak : Bool) → 16 ≤ n → a ≡ b → Means (target_value set k n a weak) (option_or b (if weak then Some 0 else None)) 0
  named k n a b weak high same = record {
    sum = plus_zero (target_value set k n a weak) ∙ ap (λ o. option_or o (option_or a (if weak then Some 0 else None))) (no_fixed k n high) ∙ ap (λ o. option_or o (if weak then Some 0 else None)) same;
    none = λ e. refl;
  }

  -- ---- every reference

  -- what is known of the number n of a symbol that goes by its name
  pub record IsKnown (s : SymbolParts) (n : ℕ) : Type 0 where
    pub high : 16 ≤ n
    pub address : address_of set n ≡ address_of_name os s.name

  pub means : (k : ℕ) (o : Object) (i n : ℕ) → (is_local (symbol_at o i) ≡ false → linker_target (symbol_at o i).name ≡ None → IsKnown (symbol_at o i) n)
      → Means (target_value set k (target_number (reference_of o i).target n) (address_of set (target_number (reference_of o i).target n)) (reference_of o i).weak)
      (value_of_symbol os k o i) (reference_of o i).value
  means k o i n known = from (is_local s) (eqb i 0) (symbol_home o s) (linker_target s.name) refl refl known
    where
      s : SymbolParts
      s = symbol_at o i

      stands : Option Home → Option Start
      stands h = option_map (λ home. record { part = home.place; offset = home.start }) h

      from : (l z : Bool) (h : Option Home) (t : Option ℕ) → is_local s ≡ l → linker_target s.name ≡ t → (l ≡ false → t ≡ None → IsKnown s n)
          → Means (target_value set k
          (target_number (cond l (local_reference i s h (outside_of o s)) (cond z (fixed 10 s.value (outside_of o s)) (global_reference s t (outside_of o s)))).target n)
          (address_of set (target_number (cond l (local_reference i s h (outside_of o s)) (cond z (fixed 10 s.value (outside_of o s)) (global_reference s t (outside_of o s)))).target n))
          (cond l (local_reference i s h (outside_of o s)) (cond z (fixed 10 s.value (outside_of o s)) (global_reference s t (outside_of o s)))).weak)
          (cond l (Some (local_value (rooms_of_objects os) k i s (stands h))) (cond z (Some s.value) (global_value os s t)))
          (cond l (local_reference i s h (outside_of o s)) (cond z (fixed 10 s.value (outside_of o s)) (global_reference s t (outside_of o s)))).value
      from true z (Some home) t p q known = own k home.place (address_of set (own_target home.place)) home.start s.value
      from true z None t p q known = number k (address_of set 10) (if eqb i 0 || eqb s.section ABS then s.value else 0)
      from false true h t p q known = number k (address_of set 10) s.value
      from false false h (Some target) p q known = linker k (address_of set target) s.name target q
      from false false h None p q known = let is = known refl refl in named k n (address_of set n) (address_of_name os s.name) (is_weak s && eqb s.section UNDEF) is.high is.address

-- ---- sums

add_three : (a b : ℕ) (c : ℤ) → pos a +ℤ (pos b +ℤ c) ≡ pos (a + b) +ℤ c
add_three a b c = sym (+ℤ_assoc (pos a) (pos b) c)

-- the sum for a field is the same
pub same_sum : (target value : Option ℕ) (more : ℕ) (addend : ℤ) → Means target value more → pos (unwrap_or target 0) +ℤ (pos more +ℤ addend) ≡ pos (unwrap_or value 0) +ℤ addend
same_sum None value more addend m =
    ap (λ k. pos 0 +ℤ (pos k +ℤ addend)) (m.none refl) ∙ add_three 0 0 addend ∙ ap (λ v. pos (unwrap_or v 0) +ℤ addend) m.sum
same_sum (Some n) value more addend m = add_three n more addend ∙ ap (λ v. pos (unwrap_or v 0) +ℤ addend) m.sum

-- and there is a value on both sides or on none
pub same_some : (target value : Option ℕ) (more : ℕ) → Means target value more → is_some target ≡ is_some value
same_some None value more m = ap (λ (v : Option ℕ). is_some v) m.sum
same_some (Some n) value more m = ap (λ (v : Option ℕ). is_some v) m.sum

-- ---- names that are used

-- a symbol that a relocation names is exported or undefined, unless it is local or its section is not in memory
there : (o : Object) (u a c d used : Bool) (n : ℕ) (h : Option Home) → c ≡ false → (d || a || c) ≡ true → outside_at o (cond (u || a || c || not d) None (Some n)) h ≡ None → used ≡ true
    → ((a || is_some h) || (u && used)) ≡ true
there o u a true d used n h e index outside f = absurd cc
there o u true false d used n h e index outside f = refl
there o true false false d false n h e index outside f = absurd cc
there o true false false d true n None e index outside f = refl
there o true false false d true n (Some home) e index outside f = refl
there o false false false false used n h e index outside f = absurd cc
there o false false false true used n None e index outside f = absurd cc
there o false false false true used n (Some home) e index outside f = refl

needs_when : (l k a u : Bool) → l ≡ false → k ≡ false → (a || u) ≡ true → (not l && not k && ((not l && a) || u)) ≡ true
needs_when true k a u p q e = absurd cc
needs_when false true a u p q e = absurd cc
needs_when false false a u p q e = e

not_common : {X : Type 0} (b : Bool) (f : X) (rest : Option X) → cond b (Some f) rest ≡ None → b ≡ false
not_common true f rest e = absurd cc
not_common false f rest e = refl

-- so its name needs a number
pub used_named : (o : Object) → IsWellFormed o → IsFaultless o → (i : ℕ) → i < length o.symbols → is_local (symbol_at o i) ≡ false → linker_target (symbol_at o i).name ≡ None
    → (reference_of o i).outside ≡ None → is_used o i ≡ true → occurs (symbol_at o i).name (names o) ≡ true
used_named o w f i lt global other outside used =
    let s = symbol_at o i in
    let common : eqb s.section COMMON ≡ false = not_common _ _ _ (none_or (value_fault i s) (name_fault o i) (f.symbols i lt)).0 in
    among_names o i lt (needs_when (is_local s) (is_some (linker_target s.name)) (eqb s.section ABS || is_some (symbol_home o s)) (eqb s.section UNDEF && is_used o i) global (ap (λ (t : Option ℕ). is_some t) other)
    (there o (eqb s.section UNDEF) (eqb s.section ABS) (eqb s.section COMMON) (ltb s.section (length o.sections)) (is_used o i) s.section (symbol_home o s) common
    (w.symbols i s (symbol_is o i lt)).index (out (is_local s) (eqb i 0) (symbol_home o s) (linker_target s.name) outside) used))
  where
    out : (l z : Bool) (h : Option Home) (t : Option ℕ)
        → (cond l (local_reference i (symbol_at o i) h (outside_of o (symbol_at o i))) (cond z (fixed 10 (symbol_at o i).value (outside_of o (symbol_at o i))) (global_reference (symbol_at o i) t (outside_of o (symbol_at o i))))).outside ≡ None
        → outside_of o (symbol_at o i) ≡ None
    out true z (Some home) t e = e
    out true z None t e = e
    out false true h t e = e
    out false false h (Some target) e = e
    out false false h None e = e
