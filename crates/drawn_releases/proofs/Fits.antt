-- Drawn releases fit the frames of an update.
use Rattle.std.proofs.Common.{◌≡◌, refl, ◌∙◌, ℕ, zero, suc, ◌+◌, ◌≤◌, arith, List, [], ◌∷◌, length, Option, Some, None, true, false, Bool, take, drop, length-append, length-drop, rules}
use Rattle.std.specs.Prelude.{◌==◌, All, if◌then◌else◌, slice_index_or}
use Rattle.std.specs.List.{position}
use Rattle.std.proofs.lemmas.List.{length-set, length-take}
use Rattle.std.proofs.lemmas.List.Elements.{All-append, All-set, All-take, All-drop}
use Rattle.std.proofs.lemmas.Bool.Decides.{nat_tests}
use Rattle.update_laws.specs.Update.{Delivered}
use Rattle.drawn_releases.specs.Generator.{Drawn, made, package_of, drawn, next, with_one, with_more, remade_at, remade_one, changed, turned, later, next_version, no_package, release_drawn}
use Rattle.drawn_releases.specs.Fit.{ReleasesFit}
use Rattle.drawn_releases.proofs.Made.{made_short}

-- ---- how many

more_count : (n c : ℕ) (d : Drawn) → length (with_more n c d).packages ≡ length d.packages + n
more_count zero c d = omega arith
more_count (suc n) c d = omega (arith, more_count n (c + 1) (with_one c d), length-append d.packages (package_of (made c 1 d.state) ∷ []))

remade_count : (c : ℕ) (d : Drawn) (at : Option ℕ) → length (remade_at c d at).packages ≡ length d.packages
remade_count c d None = refl
remade_count c d (Some i) = length-set d.packages i _

changed_count : (n : ℕ) (d : Drawn) → length (changed n d).packages ≡ length d.packages
changed_count zero d = refl
changed_count (suc n) d = changed_count n (remade_one d) ∙ remade_count (1 + drawn 12 d.state) (record d { state = next d.state }) (position (λ o. o.component == 1 + drawn 12 d.state) d.packages)

turned_count : (d : Drawn) → length (turned d).packages ≡ length d.packages
turned_count d =
    let n = drawn 12 d.state in
    omega (arith, length-append (drop n d.packages) (take n d.packages), length-drop n d.packages, length-take n d.packages)

packages_count : (b : Bool) (d : Drawn) → (length d.packages == 0) ≡ b → length d.packages ≤ 12
    → length (if b then with_more 12 1 d else later d).packages ≤ 12
packages_count true d is few = let none : length d.packages ≡ 0 = (let r = is in grind (arith, nat_tests)) in omega (arith, more_count 12 1 d, none)
packages_count false d is few =
    let start = record d { state = next d.state } in
    omega (arith, turned_count (changed (1 + drawn 3 d.state) start), changed_count (1 + drawn 3 d.state) start, few)

count : (number r : ℕ) → length (release_drawn number r).packages ≤ 12
count number zero = omega arith
count number (suc r) = let d = release_drawn number r in packages_count (length d.packages == 0) d refl (count number r)

-- ---- how long

abbrev IsShort : Delivered → Type 0
IsShort d = length d.bytes ≤ 9984

abbrev AreShort : List Delivered → Type 0
AreShort ds = All (λ d. length d.bytes ≤ 9984) ds

one_short : (d : Delivered) → length d.bytes ≤ 9984 → AreShort (d ∷ [])
one_short d short = search rules

more_short : (n c : ℕ) (d : Drawn) → AreShort d.packages → AreShort (with_more n c d).packages
more_short zero c d short = short
more_short (suc n) c d short = more_short n (c + 1) (with_one c d) (All-append IsShort d.packages (package_of (made c 1 d.state) ∷ []) short (one_short (package_of (made c 1 d.state)) (made_short c 1 d.state)))

remade_short : (c : ℕ) (d : Drawn) (at : Option ℕ) → AreShort d.packages → AreShort (remade_at c d at).packages
remade_short c d None short = short
remade_short c d (Some i) short =
    let v = next_version (slice_index_or d.packages i no_package).version in
    All-set IsShort d.packages i (package_of (made c v d.state)) (made_short c v d.state) short

changed_short : (n : ℕ) (d : Drawn) → AreShort d.packages → AreShort (changed n d).packages
changed_short zero d short = short
changed_short (suc n) d short = changed_short n (remade_one d) (remade_short (1 + drawn 12 d.state) (record d { state = next d.state }) (position (λ o. o.component == 1 + drawn 12 d.state) d.packages) short)

turned_short : (d : Drawn) → AreShort d.packages → AreShort (turned d).packages
turned_short d short = let n = drawn 12 d.state in All-append IsShort (drop n d.packages) (take n d.packages) (All-drop IsShort n d.packages short) (All-take IsShort n d.packages short)

packages_short : (b : Bool) (d : Drawn) → AreShort d.packages → AreShort (if b then with_more 12 1 d else later d).packages
packages_short true d short = more_short 12 1 d short
packages_short false d short =
    let start = record d { state = next d.state } in
    turned_short (changed (1 + drawn 3 d.state) start) (changed_short (1 + drawn 3 d.state) start short)

short : (number r : ℕ) → AreShort (release_drawn number r).packages
short number zero = search rules
short number (suc r) = let d = release_drawn number r in packages_short (length d.packages == 0) d (short number r)

pub releases_fit : ReleasesFit
releases_fit = record { few = λ number r. omega (arith, count number r); short = short }
