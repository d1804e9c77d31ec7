-- The packages of a set are taken back from its pages.
use Rattle.std.proofs.Common.{◌≡◌, ℕ, zero, suc, ◌+◌, ◌-◌, ◌*◌, ◌≤◌, true, false, List, [], ◌∷◌, ◌++◌, length, take, drop, map, replicate, refl, sym, ap, ap₂, ◌∙◌, arith, slice_range, take-add, drop-drop, length-drop}
use Rattle.std.specs.List.{concat, flat_map, enumerate_from, range_with_len, AllByRecursion}
use Rattle.std.proofs.lemmas.List.{take_at, drop_at, drop-take, take-take, drop-append-le, take-append-le}
use Rattle.avr_reloc.specs.Field.{AreBytes}
use Rattle.avr_reloc.specs.Fixups.{ArePut}
use Rattle.component_package.specs.declared.part.Header.{Header}
use Rattle.component_package.specs.declared.part.Reloc.{Reloc}
use Rattle.component_package.specs.packages.Component.{Component, header_bytes, export_bytes, reloc_bytes, spelling}
use Rattle.component_package.specs.packages.Grammar.{IsComponent}
use Rattle.component_package.specs.link.Layout.{Room, code_base, load_base}
use Rattle.component_package.specs.link.Link.{rooms_of, fixups_of, plain_of}
use Rattle.component_package.specs.link.Pages.{padded, page_in}
use Rattle.kept_definitions.specs.Runs.{run_of, relocs_in_run, room_of_run, cleared, part_from, package_from, taken_back}
use Rattle.link_laws.proofs.Apart.{IsAt, AreAt, all_at_place}
use Rattle.link_laws.proofs.Own.{no_cause}
use Rattle.link_laws.proofs.Room.{room_from_cause, plain_length}
use Rattle.kept_laws.specs.Laws.{TakenBack}
use Rattle.kept_laws.proofs.Reading.{header_alone, relocs_there, room_there}
use Rattle.kept_laws.proofs.Image.{part_within, part_taken}

-- ---- pages joined

-- the pages from a on, joined
pub joined_from : (w : List ℕ) (a n : ℕ) → concat (map (page_in w) (range_with_len a n)) ≡ take (256 * n) (drop (256 * a) w)
joined_from w a zero = refl
joined_from w a (suc n) =
    let one : 256 * a + 256 - 256 * a ≡ 256 = omega arith in
    let more : 256 + 256 * n ≡ 256 * suc n = omega arith in
    let next : 256 * a + 256 ≡ 256 * (a + 1) = omega arith in
    ap₂ (λ (x y : List ℕ). x ++ y) (ap (λ (m : ℕ). take m (drop (256 * a) w)) one) (joined_from w (a + 1) n)
    ∙ ap (λ (m : ℕ). take 256 (drop (256 * a) w) ++ take (256 * n) (drop m w)) (sym next)
    ∙ ap (λ (l : List ℕ). take 256 (drop (256 * a) w) ++ take (256 * n) l) (sym (drop-drop 256 (256 * a) w))
    ∙ sym (take-add 256 (256 * n) (drop (256 * a) w))
    ∙ ap (λ (m : ℕ). take m (drop (256 * a) w)) more

-- a slice of n pages of bytes with more behind
pub slice_joined : (n : ℕ) (b back : List ℕ) (low high : ℕ) → low ≤ high → high ≤ length b → length b ≤ 256 * n → slice_range (take (256 * n) (b ++ back)) low high ≡ slice_range b low high
slice_joined n b back low high le inside room =
    let rest = 256 * n - low in
    let whole : low + rest ≡ 256 * n = omega (arith, le, inside, room) in
    ap (λ (m : ℕ). take (high - low) (drop low (take m (b ++ back)))) (sym whole)
    ∙ ap (take (high - low)) (drop-take low rest (b ++ back))
    ∙ take-take (high - low) rest (drop low (b ++ back)) (omega (arith, le, inside, room))
    ∙ ap (take (high - low)) (drop-append-le low b back (omega (arith, le, inside)))
    ∙ take-append-le (high - low) (drop low b) back (omega (arith, le, inside, length-drop low b))

-- ---- packages

-- a run, with the two parts put in behind its header, is the package
put_together : (c : Component) → take 32 (run_of c) ++ (c.code ++ (c.init ++ drop 32 (run_of c))) ≡ spelling c
put_together c =
    let tail = flat_map export_bytes c.exports ++ flat_map reloc_bytes c.relocs in
    ap₂ (λ (x y : List ℕ). x ++ (c.code ++ (c.init ++ y))) (take_at (header_bytes c) tail 32 refl) (drop_at (header_bytes c) tail 32 refl)

-- component k's package is taken back from what has the set's image in front
package_back : (set : List Component) → AllByRecursion IsComponent set → (b image : List ℕ) → AreBytes b → ArePut (fixups_of set) (plain_of set) b
    → ((low high : ℕ) → low ≤ high → high ≤ length b → slice_range image low high ≡ slice_range b low high)
    → (k : ℕ) (c : Component) → IsAt set k c → IsComponent c → package_from image (rooms_of set) k (run_of c) ≡ spelling c
package_back set components b image bytes put front k c h w =
    let rooms = rooms_of set in
    let code_low = code_base rooms k in
    let init_low = load_base rooms k in
    let code : part_from image code_low (length c.code) false c.relocs ≡ c.code =
    ap (cleared false c.relocs) (front code_low (code_low + length c.code) (omega arith) (omega (arith, part_within set k c false h, put.size)))
    ∙ part_taken set components b bytes put k c h w false in
    let init : part_from image init_low (length c.init) true c.relocs ≡ c.init =
    ap (cleared true c.relocs) (front init_low (init_low + length c.init) (omega arith) (omega (arith, part_within set k c true h, put.size))) ∙ part_taken set components b bytes put k c h w true in
    ap (λ (x : Header). take 32 (run_of c) ++ (part_from image code_low x.code false (relocs_in_run (run_of c)) ++
    (part_from image init_low x.init true (relocs_in_run (run_of c)) ++ drop 32 (run_of c)))) (header_alone c)
    ∙ ap (λ (rs : List Reloc). take 32 (run_of c) ++ (part_from image code_low (length c.code) false rs ++ (part_from image init_low (length c.init) true rs ++ drop 32 (run_of c))))
    (relocs_there c w)
    ∙ ap₂ (λ (x y : List ℕ). take 32 (run_of c) ++ (x ++ (y ++ drop 32 (run_of c)))) code init
    ∙ put_together c

-- so are those of the components from n on
packages_back : (set : List Component) → AllByRecursion IsComponent set → (b image : List ℕ) → AreBytes b → ArePut (fixups_of set) (plain_of set) b
    → ((low high : ℕ) → low ≤ high → high ≤ length b → slice_range image low high ≡ slice_range b low high)
    → (n : ℕ) (ds : List Component) → AreAt set n ds → AllByRecursion IsComponent ds
    → map (λ x. package_from image (rooms_of set) x.0 x.1) (enumerate_from n (map run_of ds)) ≡ map spelling ds
packages_back set components b image bytes put front n [] are all = refl
packages_back set components b image bytes put front n (d ∷ ds) are all =
    ap₂ (λ (x : List ℕ) (xs : List (List ℕ)). x ∷ xs) (package_back set components b image bytes put front n d are.0 all.0)
    (packages_back set components b image bytes put front (n + 1) ds are.1 all.1)

-- the runs say the rooms
rooms_there : (cs : List Component) → map room_of_run (map run_of cs) ≡ rooms_of cs
rooms_there [] = refl
rooms_there (c ∷ cs) = ap₂ (λ (x : Room) (xs : List Room). x ∷ xs) (room_there c) (rooms_there cs)

-- from bytes that have the image in front
pub image_back : (set : List Component) → AllByRecursion IsComponent set → (b image : List ℕ) → AreBytes b → ArePut (fixups_of set) (plain_of set) b
    → ((low high : ℕ) → low ≤ high → high ≤ length b → slice_range image low high ≡ slice_range b low high)
    → taken_back image (map run_of set) ≡ map spelling set
image_back set components b image bytes put front =
    ap (λ (rooms : List Room). map (λ x. package_from image rooms x.0 x.1) (enumerate_from 0 (map run_of set))) (rooms_there set)
    ∙ packages_back set components b image bytes put front 0 set (all_at_place set) components

-- from the set's pages
pub pages_back : TakenBack
pages_back set pages components are =
    let b = are.image in
    let back = replicate {A = ℕ} (122880 - length b) 255 in
    let room = (room_from_cause (rooms_of set) (no_cause set are.is.possible).room).flash in
    let few : length b ≤ 122880 = omega (arith, are.is.put.size, plain_length set, room) in
    let joined : concat pages ≡ take (256 * 480) (padded b) = ap concat are.are ∙ joined_from (padded b) 0 480 in
    image_back set components b (concat pages) are.is.bytes are.is.put
    (λ low high le inside. ap (λ (l : List ℕ). slice_range l low high) joined ∙ slice_joined 480 b back low high le inside few)
