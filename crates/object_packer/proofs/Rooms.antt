-- How much of each part sections take.
use Rattle.std.proofs.Common.{◌≡◌, ℕ, ◌+◌, ◌<◌, ◌≤◌, Bool, true, false, cond, Option, Some, None, List, [], ◌∷◌, ◌++◌, length, take, refl, sym, ap, subst, ◌∙◌, arith, add-zero}
use Rattle.std.specs.List.{filter, flat_map}
use Rattle.std.proofs.lemmas.Grind.{flat_map-append}
use Rattle.std.specs.Option.{option_map}
use Rattle.std.proofs.lemmas.List.{take_more, take_all}
use Rattle.std.proofs.lemmas.List.Elements.{filter-append}
use Rattle.std.proofs.lemmas.List.Sums.{sum_by-append}
use Rattle.avr_elf.specs.Object.{SectionParts, Object}
use Rattle.component_package.specs.declared.part.Place.{Place}
use Rattle.component_package.specs.declared.part.Place.TheVariants as places
use Rattle.object_packer.specs.declared.layout.Home.{Home}
use Rattle.object_packer.specs.declared.layout.Lengths.{Lengths}
use Rattle.object_packer.specs.Sections.{section_at}
use Rattle.object_packer.specs.Parts.{is_place, is_in, bytes_in, place_of, even_up, room_of, length_before, home_in, home_of}
use Rattle.object_packer.specs.Layout.{lengths_before, lengths_of, length_in, grown, AreBelow}
use Rattle.object_packer.proofs.Lists.{unwrap_get, append_none}

-- one section more
single : (x : SectionParts) (b : Bool) → room_of (cond b (x ∷ []) []) ≡ cond b (even_up x.size) 0
single x true = omega arith
single x false = refl

room_more : (p : Place) (xs : List SectionParts) (x : SectionParts) (q : Option Place) → place_of x ≡ q
    → room_of (filter (is_in p) (xs ++ x ∷ [])) ≡ room_of (filter (is_in p) xs) + cond (is_place p q) (even_up x.size) 0
room_more p xs x q e =
    ap room_of (filter-append (is_in p) xs (x ∷ [])) ∙ sum_by-append (λ s. even_up s.size) (filter (is_in p) xs) (filter (is_in p) (x ∷ []))
    ∙ ap (λ n. room_of (filter (is_in p) xs) + n) (single x (is_in p x) ∙ ap (λ r. cond (is_place p r) (even_up x.size) 0) e)

-- the sections before the next one
take_section : (o : Object) (k : ℕ) → k < length o.sections → take (k + 1) o.sections ≡ take k o.sections ++ section_at o k ∷ []
take_section o k lt = let d : SectionParts = record { name = []; kind = 0; flags = 0; size = 0; align = 0; bytes = [] } in
    take_more o.sections k d lt ∙ ap (λ x. take k o.sections ++ x ∷ []) (sym (unwrap_get o.sections k d lt))

pub length_more : (o : Object) (p : Place) (k : ℕ) (q : Option Place) → k < length o.sections → place_of (section_at o k) ≡ q
    → length_before o p (k + 1) ≡ length_before o p k + cond (is_place p q) (even_up (section_at o k).size) 0
length_more o p k q lt e = ap (λ xs. room_of (filter (is_in p) xs)) (take_section o k lt) ∙ room_more p (take k o.sections) (section_at o k) q e

-- the lengths before the next section
pub lengths_more : (o : Object) (k : ℕ) → k < length o.sections → grown (lengths_before o k) (place_of (section_at o k)) (section_at o k).size ≡ lengths_before o (k + 1)
lengths_more o k lt = from (place_of (section_at o k)) refl
  where
    from : (q : Option Place) → place_of (section_at o k) ≡ q → grown (lengths_before o k) q (section_at o k).size ≡ lengths_before o (k + 1)
    from None e = rw (length_more o places.Code k None lt e, length_more o places.Init k None lt e, length_more o places.Bss k None lt e) (rw (add-zero, add-zero, add-zero) refl)
    from (Some places.Code) e = rw (length_more o places.Code k _ lt e, length_more o places.Init k _ lt e, length_more o places.Bss k _ lt e) (rw (add-zero, add-zero) refl)
    from (Some places.Init) e = rw (length_more o places.Code k _ lt e, length_more o places.Init k _ lt e, length_more o places.Bss k _ lt e) (rw (add-zero, add-zero) refl)
    from (Some places.Bss) e = rw (length_more o places.Code k _ lt e, length_more o places.Init k _ lt e, length_more o places.Bss k _ lt e) (rw (add-zero, add-zero) refl)
    from (Some places.Absolute) e = rw (length_more o places.Code k _ lt e, length_more o places.Init k _ lt e, length_more o places.Bss k _ lt e) (rw (add-zero, add-zero, add-zero) refl)

-- before no section, and behind all
pub lengths_all : (o : Object) → lengths_before o (length o.sections) ≡ lengths_of o
lengths_all o = ap (λ xs. record { code = room_of (filter (is_in places.Code) xs); init = room_of (filter (is_in places.Init) xs); bss = room_of (filter (is_in places.Bss) xs) }) (take_all (length o.sections) o.sections (omega arith))

-- no section belongs to no part
pub never_absolute : (q : Option Place) → is_place places.Absolute q ≡ false
never_absolute None = refl
never_absolute (Some places.Code) = refl
never_absolute (Some places.Init) = refl
never_absolute (Some places.Bss) = refl
never_absolute (Some places.Absolute) = refl

pub no_absolute : (xs : List SectionParts) → room_of (filter (is_in places.Absolute) xs) ≡ 0
no_absolute [] = refl
no_absolute (x ∷ xs) = skip (is_in places.Absolute x) (never_absolute (place_of x)) ∙ no_absolute xs
  where
    skip : (b : Bool) → b ≡ false → room_of (cond b (x ∷ filter (is_in places.Absolute) xs) (filter (is_in places.Absolute) xs)) ≡ room_of (filter (is_in places.Absolute) xs)
    skip true e = absurd cc
    skip false e = refl

pub length_in_before : (o : Object) (k : ℕ) (p : Place) → length_in (lengths_before o k) p ≡ length_before o p k
length_in_before o k places.Code = refl
length_in_before o k places.Init = refl
length_in_before o k places.Bss = refl
length_in_before o k places.Absolute = sym (no_absolute (take k o.sections))

-- where a part's length so far is below a bound, so is the place of a section behind it
pub in_bound : (bound : ℕ) (t : Lengths) (p : Place) → 0 < bound → AreBelow bound t → length_in t p < bound
in_bound bound t places.Code lt b = b.code
in_bound bound t places.Init lt b = b.init
in_bound bound t places.Bss lt b = b.bss
in_bound bound t places.Absolute lt b = lt

pub home_small : (o : Object) (k bound : ℕ) (home : Home) → 0 < bound → AreBelow bound (lengths_before o k) → home_of o k ≡ Some home → home.start < bound
home_small o k bound home lt b e = from (place_of (section_at o k)) e
  where
    from : (q : Option Place) → home_in o k q ≡ Some home → home.start < bound
    from None e = absurd cc
    from (Some p) e =
        let same : record { place = p; start = length_before o p k } ≡ home = cc in
        let small : length_before o p k < bound = subst (λ n. n < bound) (length_in_before o k p) (in_bound bound (lengths_before o k) p lt b) in
        subst (λ (h : Home). h.start < bound) same small

-- a greater bound
pub below_greater : (m n : ℕ) (t : Lengths) → m ≤ n → AreBelow m t → AreBelow n t
below_greater m n t le b = record { code = omega (arith, le, b.code); init = omega (arith, le, b.init); bss = omega (arith, le, b.bss) }

-- the home of a section, made from its part and the lengths before it
pub home_made : (o : Object) (k : ℕ) (h : Option Home) (q : Option Place) (t : Lengths) → h ≡ option_map (λ p. record { place = p; start = length_in t p }) q
    → q ≡ place_of (section_at o k) → t ≡ lengths_before o k → h ≡ home_of o k
home_made o k h q t made place before =
    made ∙ ap (λ (t : Lengths). option_map (λ p. record { place = p; start = length_in t p }) q) before ∙ from q ∙ ap (home_in o k) place
  where
    from : (q : Option Place) → option_map (λ p. record { place = p; start = length_in (lengths_before o k) p }) q ≡ home_in o k q
    from None = refl
    from (Some p) = ap (λ n. Some (record { place = p; start = n })) (length_in_before o k p)

-- the lengths with the next section
pub lengths_step : (o : Object) (k : ℕ) (t u : Lengths) (q : Option Place) (size : ℕ) → k < length o.sections → u ≡ grown t q size → t ≡ lengths_before o k
    → q ≡ place_of (section_at o k) → size ≡ (section_at o k).size → u ≡ lengths_before o (k + 1)
lengths_step o k t u q size lt made before place same =
    made ∙ ap (λ (t : Lengths). grown t q size) before ∙ ap (λ (q : Option Place). grown (lengths_before o k) q size) place
    ∙ ap (λ (n : ℕ). grown (lengths_before o k) (place_of (section_at o k)) n) same ∙ lengths_more o k lt

-- the bytes of a part with the next section
pub bytes_more : (o : Object) (p : Place) (k : ℕ) → k < length o.sections
    → flat_map (bytes_in p) (take (k + 1) o.sections) ≡ flat_map (bytes_in p) (take k o.sections) ++ bytes_in p (section_at o k)
bytes_more o p k lt =
    ap (flat_map (bytes_in p)) (take_section o k lt) ∙ flat_map-append (bytes_in p) (take k o.sections) (section_at o k ∷ [])
    ∙ ap (λ xs. flat_map (bytes_in p) (take k o.sections) ++ xs) (append_none (bytes_in p (section_at o k)))
