-- The fields of a set's list rise.
use Rattle.std.proofs.Common.{◌≡◌, ℕ, ◌+◌, ◌≤◌, inl, inr, Bool, List, [], ◌∷◌, ◌++◌, length, take, map, max, Option, sym, ap, subst, ◌∙◌, arith}
use Rattle.std.specs.Prelude.{not}
use Rattle.std.specs.List.{AllByRecursion, filter, flat_map, enumerate_from}
use Rattle.std.proofs.lemmas.Bool.{cases_Bool}
use Rattle.std.proofs.lemmas.List.{map-append, length-map, take_all}
use Rattle.std.proofs.lemmas.List.Elements.{filter-append}
use Rattle.std.proofs.lemmas.List.Concat.{flat_map-cons}
use Rattle.avr_reloc.specs.declared.fixup.Fixup.{Fixup}
use Rattle.avr_reloc.specs.Fixups.{end_of}
use Rattle.component_package.specs.declared.part.Reloc.{Reloc}
use Rattle.component_package.specs.declared.part.Site.{Site}
use Rattle.component_package.specs.packages.Component.{Component}
use Rattle.component_package.specs.link.Layout.{room_of, code_base, load_base, code_total}
use Rattle.component_package.specs.link.Link.{rooms_of, fixup_with, sites_in, sites_of}
use Rattle.component_package.specs.link.Areas.{FieldsRise}
use Rattle.component_package.specs.link.Pages.{in_image_order}
use Rattle.component_package.specs.packages.Reading.{reloc_width}
use Rattle.component_package.specs.packages.Grammar.{position_in, RelocsRise}
use Rattle.link_laws.proofs.Apart.{Fits, IsAt, AreAt, HasFieldsInOrder, stands, wide, rooms_length}

-- fields rise from low on, and end by high
abbrev pub RisesTo : ℕ → List Fixup → ℕ → Type 0
RisesTo low [] high = low ≤ high
RisesTo low (x ∷ xs) high = (low ≤ x.place) × RisesTo (end_of x) xs high

-- no field begins before the former one ends
rises_fields : (low high : ℕ) (xs : List Fixup) → RisesTo low xs high → FieldsRise low xs
rises_fields low high [] rise = tt
rises_fields low high (x ∷ xs) rise = (rise.0, rises_fields (end_of x) high xs rise.1)

-- one list of fields behind another
rises_append : (low mid high : ℕ) (xs ys : List Fixup) → RisesTo low xs mid → RisesTo mid ys high → RisesTo low (xs ++ ys) high
rises_append low mid high [] [] a b = omega (arith, a, b)
rises_append low mid high [] (y ∷ ys) a b = (omega (arith, a, b.0), b.1)
rises_append low mid high (x ∷ xs) ys a b = (a.0, rises_append (end_of x) mid high xs ys a.1 b)

-- a relocation of code
abbrev in_code : Site → Bool
in_code x = not x.reloc.in_init

-- a relocation of data
abbrev in_data : Site → Bool
in_data x = x.reloc.in_init

-- the relocations of a component, counted from n on
abbrev sites_from : ℕ → ℕ → List Reloc → List Site
sites_from k n rs = map (λ r. record { component = k; index = r.0; reloc = r.1 }) (enumerate_from n rs)

module _ (f : ℕ → Option ℕ) (set : List Component) where
  -- l is where the fields so far end
  code_rises : (k : ℕ) (c : Component) (n l low : ℕ) (rs : List Reloc) → l ≤ code_base (rooms_of set) k + low → l ≤ code_base (rooms_of set) k + length c.code → RelocsRise c low rs → AllByRecursion (Fits c) rs
      → RisesTo l (map (fixup_with f set) (filter in_code (sites_from k n rs))) (code_base (rooms_of set) k + length c.code)
  code_rises k c n l low [] a b rise fits = b
  code_rises k c n l low (r ∷ rs) a b rise fits =
      elim (cases_Bool r.in_init) [
        | inl there ↦
            let pos = rw there at rise.0 in
            rw there (code_rises k c (n + 1) l (position_in c r + reloc_width r) rs (rw there (omega (arith, a, b, pos))) b rise.1 fits.1)
        | inr code ↦
            let pos = rw code at rise.0 in
            let fit = rw code at fits.0 in
            let rest = code_rises k c (n + 1) (code_base (rooms_of set) k + r.offset + reloc_width r) (position_in c r + reloc_width r) rs (rw code (omega arith)) (omega (arith, fit)) rise.1 fits.1 in
            rw code (omega (arith, a, pos), rest)
      ]

  -- the same of data
  data_rises : (k : ℕ) (c : Component) (n l low : ℕ) (rs : List Reloc) → l + length c.code ≤ load_base (rooms_of set) k + max low (length c.code) → l ≤ load_base (rooms_of set) k + length c.init → RelocsRise c low rs → AllByRecursion (Fits c) rs
      → RisesTo l (map (fixup_with f set) (filter in_data (sites_from k n rs))) (load_base (rooms_of set) k + length c.init)
  data_rises k c n l low [] a b rise fits = b
  data_rises k c n l low (r ∷ rs) a b rise fits =
      elim (cases_Bool r.in_init) [
        | inl there ↦
            let pos = rw there at rise.0 in
            let fit = rw there at fits.0 in
            let rest = data_rises k c (n + 1) (load_base (rooms_of set) k + r.offset + reloc_width r) (position_in c r + reloc_width r) rs (rw there (omega arith)) (omega (arith, fit)) rise.1 fits.1 in
            rw there (omega (arith, a, pos), rest)
        | inr code ↦
            let pos = rw code at rise.0 in
            let fit = rw code at fits.0 in
            rw code (data_rises k c (n + 1) l (position_in c r + reloc_width r) rs (rw code (omega (arith, a, pos, fit, wide r))) b rise.1 fits.1)
      ]

  -- all components, one after the other
  all_rise : (q : Site → Bool) (base : ℕ → ℕ) → ((k : ℕ) (c : Component) → IsAt set k c → HasFieldsInOrder c → RisesTo (base k) (map (fixup_with f set) (filter q (sites_in k c))) (base (k + 1)))
      → (n : ℕ) (cs : List Component) → AreAt set n cs → AllByRecursion HasFieldsInOrder cs → RisesTo (base n) (map (fixup_with f set) (filter q (flat_map (λ p. sites_in p.0 p.1) (enumerate_from n cs)))) (base (n + length cs))
  all_rise q base each n [] are sound = let e : n ≡ n + 0 = omega arith in subst (λ (m : ℕ). base n ≤ base m) e (omega arith)
  all_rise q base each n (c ∷ cs) are sound =
      let here = each n c are.0 sound.0 in
      let rest = all_rise q base each (n + 1) cs are.1 sound.1 in
      let end : n + 1 + length cs ≡ n + length (c ∷ cs) = omega arith in
      let front = map (fixup_with f set) (filter q (sites_in n c)) in
      let back = map (fixup_with f set) (filter q (flat_map (λ p. sites_in p.0 p.1) (enumerate_from (n + 1) cs))) in
      subst (λ (xs : List Fixup). RisesTo (base n) xs (base (n + length (c ∷ cs))))
      (sym (ap (λ (xs : List Site). map (fixup_with f set) (filter q xs)) (flat_map-cons (λ p. sites_in p.0 p.1) (n, c) (enumerate_from (n + 1) cs))
      ∙ ap (map (fixup_with f set)) (filter-append q (sites_in n c) (flat_map (λ p. sites_in p.0 p.1) (enumerate_from (n + 1) cs))) ∙ map-append (fixup_with f set) (filter q (sites_in n c)) (filter q (flat_map (λ p. sites_in p.0 p.1) (enumerate_from (n + 1) cs)))))
      (subst (λ (m : ℕ). RisesTo (base n) (front ++ back) (base m)) end (rises_append (base n) (base (n + 1)) (base (n + 1 + length cs)) front back here rest))

  -- an end that comes later
  raised : (low mid high : ℕ) (xs : List Fixup) → mid ≤ high → RisesTo low xs mid → RisesTo low xs high
  raised low mid high [] le rise = omega (arith, le, rise)
  raised low mid high (x ∷ xs) le rise = (rise.0, raised (end_of x) mid high xs le rise.1)

  -- a component's fields in code rise to the next component's code
  one_code : (k : ℕ) (c : Component) → IsAt set k c → HasFieldsInOrder c → RisesTo (code_base (rooms_of set) k) (map (fixup_with f set) (filter in_code (sites_in k c))) (code_base (rooms_of set) (k + 1))
  one_code k c at sound =
      let s = stands set k c at in
      raised (code_base (rooms_of set) k) (code_base (rooms_of set) k + length c.code) (code_base (rooms_of set) (k + 1)) _ (s.code_before (k + 1) (omega arith) (omega (arith, rooms_length set k c at)))
      (code_rises k c 0 (code_base (rooms_of set) k) 0 c.relocs (omega arith) (omega arith) sound.rise sound.fits)

  -- its fields in data rise to the next component's data
  one_data : (k : ℕ) (c : Component) → IsAt set k c → HasFieldsInOrder c → RisesTo (load_base (rooms_of set) k) (map (fixup_with f set) (filter in_data (sites_in k c))) (load_base (rooms_of set) (k + 1))
  one_data k c at sound =
      let s = stands set k c at in
      raised (load_base (rooms_of set) k) (load_base (rooms_of set) k + length c.init) (load_base (rooms_of set) (k + 1)) _ (s.init_before (k + 1) (omega arith) (omega (arith, rooms_length set k c at)))
      (data_rises k c 0 (load_base (rooms_of set) k) 0 c.relocs (omega arith) (omega arith) sound.rise sound.fits)

  -- nothing more
  plus_none : (n : ℕ) → n ≡ n + 0
  plus_none n = omega arith

  -- the whole list
  pub listed_rises : AreAt set 0 set → AllByRecursion HasFieldsInOrder set → FieldsRise 0 (map (fixup_with f set) (in_image_order (sites_of set)))
  listed_rises are sound =
      let rooms = rooms_of set in
      let n = length rooms in
      let here : 0 + length set ≡ n = omega (arith, length-map set (λ (c : Component). room_of c)) in
      let all : take n rooms ≡ rooms = take_all n rooms (omega arith) in
      let code = all_rise in_code (code_base rooms) one_code 0 set are sound in
      let own = all_rise in_data (load_base rooms) one_data 0 set are sound in
      let end : code_base rooms (0 + length set) ≡ load_base rooms 0 = ap (code_base rooms) here ∙ ap code_total all ∙ plus_none (code_total rooms) in
      let front = subst (λ (m : ℕ). RisesTo 0 (map (fixup_with f set) (filter in_code (sites_of set))) m) end code in
      rises_fields 0 (load_base rooms (0 + length set)) (map (fixup_with f set) (in_image_order (sites_of set)))
      (subst (λ (xs : List Fixup). RisesTo 0 xs (load_base rooms (0 + length set))) (sym (map-append (fixup_with f set) (filter in_code (sites_of set)) (filter in_data (sites_of set))))
      (rises_append 0 (load_base rooms 0) (load_base rooms (0 + length set)) (map (fixup_with f set) (filter in_code (sites_of set))) (map (fixup_with f set) (filter in_data (sites_of set))) front own))
