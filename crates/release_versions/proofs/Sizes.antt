-- The bytes that a packing fault of size counts are fewer than 2 ^ 63.
use Rattle.std.proofs.Common.{◌≡◌, ℕ, zero, suc, ◌+◌, ◌*◌, ◌<◌, ◌≤◌, Bool, true, false, cond, Option, Some, None, List, [], ◌∷◌, ◌++◌, length, map, sym, ap, subst, arith, length-append}
use Rattle.std.specs.Prelude.{◌/◌, not, nat_lt}
use Rattle.std.specs.Option.{option_or, option_to_list}
use Rattle.std.specs.List.{filter, flat_map, range_with_len}
use Rattle.std.proofs.lemmas.List.FromFn.{length-range_with_len}
use Rattle.std.proofs.lemmas.List.Sums.{sum_by-cons}
use Rattle.avr_elf.specs.Number.{u16_at, u32_at}
use Rattle.avr_elf.specs.First.{first_of}
use Rattle.avr_elf.specs.Header.{section_count, header_at, header_of}
use Rattle.avr_elf.specs.Section.{is_allocated, symtab_of, table_of}
use Rattle.avr_elf.specs.Object.{SectionParts, Object, AreBytes, relas_at, section_of, symbol_of, symbols_of, relas_in, object_of}
use Rattle.avr_elf.specs.Entry.{rela_entry}
use Rattle.avr_elf.specs.Faults.{rela_at as rela_place}
use Rattle.avr_elf.proofs.ObjectLemmas.{relas_at-object_of}
use Rattle.object_packer.proofs.Lists.{length-list_of}
use Rattle.avr_reloc.specs.declared.kind.RelocType.{RelocType}
use Rattle.avr_reloc.specs.Kind.{kind_of}
use Rattle.component_package.specs.declared.part.Place.{Place}
use Rattle.component_package.specs.declared.part.Place.TheVariants as places
use Rattle.object_packer.specs.declared.fault.PackFault.{PackFault}
use Rattle.object_packer.specs.declared.fault.PackFault.TheVariants as faults
use Rattle.object_packer.specs.Sections.{section_at, symbol_at, rela_at}
use Rattle.object_packer.specs.Parts.{is_refused, is_in, even_up, room_of, part_length, home_of}
use Rattle.object_packer.specs.References.{reference_of}
use Rattle.object_packer.specs.Relocations.{kept_at, kept_with, kept_in, kept, kept_width, ordered}
use Rattle.object_packer.specs.Names.{is_exported, exported}
use Rattle.object_packer.specs.Faults.{section_fault, is_named_twice, value_fault, name_fault, symbol_fault, has_field, addend_fault, kept_fault, entry_fault, entries_fault, relas_fault, overlap_fault, package_length, size_fault, sections_fault, symbols_fault, relocs_fault, pack_fault, Says}
use Rattle.name_laws.proofs.Types.{Kept, Home}
use Rattle.release_versions.specs.Faults.{IsFewBytes}

-- ---- numbers of the file

u16_small : (file : List ℕ) (at : ℕ) → AreBytes file → u16_at file at < 65536
unfolding u16_at
u16_small file at are = let a = are at in let b = are (at + 1) in omega (arith, a, b)

u32_small : (file : List ℕ) (at : ℕ) → AreBytes file → u32_at file at < 4294967296
unfolding u32_at
u32_small file at are = let a = are at in let b = are (at + 1) in let c = are (at + 2) in let d = are (at + 3) in omega (arith, a, b, c, d)

size_small : (file : List ℕ) (i : ℕ) → AreBytes file → (header_of file i).size < 4294967296
unfolding header_of
size_small file i are = u32_small file (header_at file i + 20) are

-- ---- how long things are

sections_small : (file : List ℕ) (p : Place) (is : List ℕ) → AreBytes file → room_of (filter (is_in p) (map (section_of file) is)) ≤ 4294967296 * length is
sections_small file p [] are = omega arith
sections_small file p (i ∷ is) are = from (is_in p (section_of file i)) (sections_small file p is are)
  where
    from : (b : Bool) → room_of (filter (is_in p) (map (section_of file) is)) ≤ 4294967296 * length is
        → room_of (cond b (section_of file i ∷ filter (is_in p) (map (section_of file) is)) (filter (is_in p) (map (section_of file) is))) ≤ 4294967296 * length (i ∷ is)
    from true le =
        let small = size_small file i are in
        let sum = sum_by-cons (λ (s : SectionParts). even_up s.size) (section_of file i) (filter (is_in p) (map (section_of file) is)) in
        omega (arith, le, small, sum)
    from false le = omega (arith, le)

part_small : (file : List ℕ) (p : Place) → AreBytes file → part_length (object_of file) p < 562949953421312
part_small file p are =
    let le = sections_small file p (range_with_len 0 (section_count file)) are in
    let long = length-range_with_len 0 (section_count file) in
    let few = u16_small file 48 are in
    omega (arith, le, long, few)

filter_small : (p : ℕ → Bool) (is : List ℕ) → length (filter p is) ≤ length is
filter_small p [] = omega arith
filter_small p (i ∷ is) = from (p i) (filter_small p is)
  where
    from : (b : Bool) → length (filter p is) ≤ length is → length (cond b (i ∷ filter p is) (filter p is)) ≤ length (i ∷ is)
    from true le = omega (arith, le)
    from false le = omega (arith, le)

symbols_small : (file : List ℕ) (t : Option ℕ) → AreBytes file → length (symbols_of file t) < 4294967296
symbols_small file None are = omega arith
symbols_small file (Some t) are =
    let long = length-list_of (symbol_of file (header_of file t)) ((header_of file t).size / 16) in
    let small = size_small file t are in
    omega (arith, long, small)

exported_small : (file : List ℕ) → AreBytes file → length (exported (object_of file)) < 4294967296
exported_small file are =
    let le = filter_small (is_exported (object_of file)) (range_with_len 0 (length (object_of file).symbols)) in
    let long = length-range_with_len 0 (length (object_of file).symbols) in
    let few = symbols_small file (symtab_of file) are in
    omega (arith, le, long, few)

relas_in_small : (file : List ℕ) (r : Option ℕ) → AreBytes file → length (relas_in file r) ≤ 4294967296
relas_in_small file None are = omega arith
relas_in_small file (Some r) are =
    let long = length-list_of (λ i. rela_entry file (rela_place (header_of file r) i)) ((header_of file r).size / 12) in
    let small = size_small file r are in
    omega (arith, long, small)

relas_small : (file : List ℕ) (k : ℕ) → AreBytes file → k < section_count file → length (relas_at (object_of file) k) ≤ 4294967296
relas_small file k are lt = subst (λ (n : ℕ). n ≤ 4294967296) (ap length (sym (relas_at-object_of file k lt))) (from (is_allocated (header_of file k)))
  where
    from : (b : Bool) → length (cond b (relas_in file (table_of file k)) []) ≤ 4294967296
    from true = relas_in_small file (table_of file k) are
    from false = omega arith

options_small : {X : Type 0} (f : ℕ → Option X) (is : List ℕ) → length (flat_map (λ i. option_to_list (f i)) is) ≤ length is
options_small f [] = omega arith
options_small {X} f (i ∷ is) = from (f i) (options_small f is)
  where
    from : (o : Option X) → length (flat_map (λ i. option_to_list (f i)) is) ≤ length is → length (option_to_list o ++ flat_map (λ i. option_to_list (f i)) is) ≤ length (i ∷ is)
    from None le = omega (arith, le)
    from (Some x) le = omega (arith, le)

kept_in_small : (file : List ℕ) (k : ℕ) → AreBytes file → k < section_count file → length (kept_in (object_of file) k) ≤ 4294967296
kept_in_small file k are lt = from (home_of (object_of file) k)
  where
    from : (h : Option Home) → length (kept_with (object_of file) k h) ≤ 4294967296
    from None = omega arith
    from (Some home) =
        let le = options_small (kept_at (object_of file) k home) (range_with_len 0 (length (relas_at (object_of file) k))) in
        let long = length-range_with_len 0 (length (relas_at (object_of file) k)) in
        let few = relas_small file k are lt in
        omega (arith, le, long, few)

flat_small : {X : Type 0} (f : ℕ → List X) (a n : ℕ) → ((k : ℕ) → k < a + n → length (f k) ≤ 4294967296) → length (flat_map f (range_with_len a n)) ≤ 4294967296 * n
flat_small f a zero each = omega arith
flat_small f a (suc n) each =
    let here = each a (omega arith) in
    let rest = flat_small f (a + 1) n (λ k lt. each k (omega (arith, lt))) in
    let long = length-append (f a) (flat_map f (range_with_len (a + 1) n)) in
    omega (arith, here, rest, long)

kept_small : (file : List ℕ) → AreBytes file → length (kept (object_of file)) < 281474976710657
kept_small file are =
    let sections = length-list_of (section_of file) (section_count file) in
    let few = u16_small file 48 are in
    let le = flat_small (kept_in (object_of file)) 0 (length (object_of file).sections) (λ k lt. kept_in_small file k are (omega (arith, lt, sections))) in
    omega (arith, le, sections, few)

-- ---- faults that aren't of size, or count few bytes

few_or : (a b : Option PackFault) → IsFewBytes a → IsFewBytes b → IsFewBytes (option_or a b)
few_or None b fa fb = fb
few_or (Some f) b fa fb = fa

few_first : (f : ℕ → Option PackFault) (n : ℕ) → ((i : ℕ) → IsFewBytes (f i)) → IsFewBytes (first_of f n)
few_first f zero each = λ n e. absurd cc
few_first f (suc n) each = few_or (first_of f n) (f n) (few_first f n each) (each n)

few_if : (b : Bool) (x y : Option PackFault) → IsFewBytes x → IsFewBytes y → IsFewBytes (cond b x y)
few_if true x y fx fy = fx
few_if false x y fx fy = fy

none_few : IsFewBytes None
none_few = λ n e. absurd cc

size_few : (m : ℕ) → m < 9223372036854775808 → IsFewBytes (Some (faults.Size m))
size_few m lt = λ n e. let same : m ≡ n = cc in subst (λ (k : ℕ). k < 9223372036854775808) same lt

section_few : (k : ℕ) → IsFewBytes (Some (faults.Section k))
section_few k = λ n e. absurd cc

kind_few : (k i kind : ℕ) → IsFewBytes (Some (faults.Kind k i kind))
kind_few k i kind = λ n e. absurd cc

field_few : (k i : ℕ) → IsFewBytes (Some (faults.Field k i))
field_few k i = λ n e. absurd cc

addend_few : (k i : ℕ) (small : Bool) (outside : Option ℕ) → IsFewBytes (addend_fault k i small outside)
addend_few k i small (Some j) = section_few j
addend_few k i true None = none_few
addend_few k i false None = λ n e. absurd cc

common_few : (i : ℕ) → IsFewBytes (Some (faults.Common i))
common_few i = λ n e. absurd cc

absolute_few : (i : ℕ) → IsFewBytes (Some (faults.Absolute i))
absolute_few i = λ n e. absurd cc

twice_few : (i : ℕ) → IsFewBytes (Some (faults.NameTwice i))
twice_few i = λ n e. absurd cc

symbol_few : (o : Object) (i : ℕ) → IsFewBytes (symbol_fault o i)
symbol_few o i = few_or (value_fault i (symbol_at o i)) (name_fault o i) (few_if _ _ _ (common_few i) (few_if _ _ _ (absolute_few i) none_few)) (few_if (is_named_twice o i) _ _ (twice_few i) none_few)

entry_few : (o : Object) (k i : ℕ) → IsFewBytes (entry_fault o k i)
entry_few o k i = few_if (nat_lt 32 (rela_at o k i).kind) _ _ (kind_few k i (rela_at o k i).kind) (from (kind_of (rela_at o k i).kind))
  where
    from : (kind : Option RelocType) → IsFewBytes (kept_fault o k i kind)
    from None = none_few
    from (Some kind) = few_if (not (has_field (section_at o k).size (rela_at o k i).offset kind)) _ _ (field_few k i) (addend_few k i _ (reference_of o (rela_at o k i).symbol).outside)

relas_few : (o : Object) (k : ℕ) → IsFewBytes (relas_fault o k)
relas_few o k = from (home_of o k)
  where
    from : (h : Option Home) → IsFewBytes (entries_fault o k h)
    from None = none_few
    from (Some home) = few_first (entry_fault o k) (length (relas_at o k)) (entry_few o k)

overlap_few : (low : ℕ) (xs : List Kept) → IsFewBytes (overlap_fault low xs)
overlap_few low [] = none_few
overlap_few low (x ∷ xs) = few_if (nat_lt x.position low) _ _ (field_few x.section x.entry) (overlap_few (x.position + kept_width x) xs)

size_fault_few : (file : List ℕ) → AreBytes file → IsFewBytes (size_fault (object_of file))
size_fault_few file are =
    let code = part_small file places.Code are in
    let init = part_small file places.Init are in
    let bss = part_small file places.Bss are in
    let es = exported_small file are in
    let ks = kept_small file are in
    few_if (nat_lt 65534 (part_length (object_of file) places.Code)) _ _ (size_few _ (omega (arith, code)))
    (few_if (nat_lt 65534 (part_length (object_of file) places.Init)) _ _ (size_few _ (omega (arith, init)))
    (few_if (nat_lt 65534 (part_length (object_of file) places.Bss)) _ _ (size_few _ (omega (arith, bss)))
    (few_if (nat_lt 9984 (package_length (object_of file))) _ _ (size_few _ (omega (arith, code, init, es, ks))) none_few)))

-- of the object that a file means
pub few_bytes : (file : List ℕ) → AreBytes file → IsFewBytes (pack_fault (object_of file))
few_bytes file are =
    let o = object_of file in
    few_or (sections_fault o) _ (few_first (section_fault o) (length o.sections) (λ k. few_if (is_refused (section_at o k)) _ _ (section_few k) none_few))
    (few_or (symbols_fault o) _ (few_first (symbol_fault o) (length o.symbols) (symbol_few o))
    (few_or (relocs_fault o) _ (few_or (first_of (relas_fault o) (length o.sections)) _ (few_first (relas_fault o) (length o.sections) (relas_few o)) (overlap_few 0 (ordered o))) (size_fault_few file are)))

-- and so of each fault that is said of it
pub said_few : (fault : PackFault) (f : Option PackFault) → Says fault f → IsFewBytes f → IsFewBytes (Some fault)
said_few fault f says few = λ n e. let same : fault ≡ faults.Size n = cc in few n (subst (λ (x : PackFault). Says x f) same says)
