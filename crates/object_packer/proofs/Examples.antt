-- Worked examples of the definitions, checked by computing.
use Rattle.std.proofs.Common.{◌≡◌, ℕ, ◌+◌, true, false, pos, negsuc, Some, None, List, [], ◌∷◌, ◌++◌, length, replicate, refl, codes, ℤ}
use Rattle.avr_reloc.specs.declared.kind.RelocType.TheVariants as kinds
use Rattle.avr_elf.specs.declared.relocation.Rela.{Rela}
use Rattle.avr_elf.specs.Object.{SectionParts, SymbolParts, Object}
use Rattle.component_package.specs.declared.part.Place.TheVariants as places
use Rattle.component_package.specs.packages.Component.{spelling}
use Rattle.object_packer.specs.declared.fault.PackFault.TheVariants as faults
use Rattle.object_packer.specs.Names.{names, number_in}
use Rattle.object_packer.specs.Faults.{pack_fault}
use Rattle.object_packer.specs.Packed.{packed}

-- ---- an object that sends what it counts

-- a section in memory: its name, type, flags beside that it is in memory, and bytes
abbrev loaded : List ℕ → ℕ → ℕ → List ℕ → SectionParts
loaded name kind flags bytes = record { name = name; kind = kind; flags = 2 + flags; size = length bytes; align = 1; bytes = bytes }

abbrev other : List ℕ → ℕ → SectionParts
other name kind = record { name = name; kind = kind; flags = 0; size = 0; align = 1; bytes = [] }

abbrev send : List ℕ
send = 0x80 ∷ 0xE0 ∷ 0x90 ∷ 0xE0 ∷ 0x0E ∷ 0x94 ∷ 0 ∷ 0 ∷ 0 ∷ 0xC0 ∷ 0x08 ∷ 0x95 ∷ []

abbrev sections : List SectionParts
sections =
    record { name = []; kind = 0; flags = 0; size = 0; align = 0; bytes = [] }
    ∷ loaded (codes ".text") 1 4 []
    ∷ loaded (codes ".data") 1 1 (0x0A ∷ 0x0B ∷ 0x0C ∷ [])
    ∷ record { name = codes ".bss"; kind = 8; flags = 3; size = 2; align = 1; bytes = [] }
    ∷ loaded (codes ".text.send") 1 4 send
    ∷ other (codes ".rela.text.send") 4
    ∷ loaded (codes ".progmem.data") 1 0 (1 ∷ 2 ∷ 3 ∷ 4 ∷ 5 ∷ [])
    ∷ loaded (codes ".rodata") 1 0 (0x61 ∷ 0x62 ∷ 0x63 ∷ 0 ∷ [])
    ∷ other (codes ".debug_info") 1
    ∷ []

abbrev symbol : List ℕ → ℕ → ℕ → ℕ → SymbolParts
symbol name value binding section = record { name = name; value = value; size = 0; binding = binding; kind = 0; section = section }

abbrev symbols : List SymbolParts
symbols =
    symbol [] 0 0 0
    ∷ symbol [] 0 0 7
    ∷ symbol [] 0 0 4
    ∷ symbol (codes "send") 0 1 4
    ∷ symbol (codes "count") 0 1 3
    ∷ symbol (codes "radio_put") 0 1 0
    ∷ symbol (codes "__do_copy_data") 0 1 0
    ∷ symbol (codes "__do_clear_bss") 0 1 0
    ∷ []

abbrev rela : ℕ → ℕ → ℕ → ℤ → Rela
rela offset symbol kind addend = record { offset = offset; symbol = symbol; kind = kind; addend = addend }

abbrev relas : List Rela
relas = rela 0 1 6 (pos 1) ∷ rela 2 1 7 (pos 1) ∷ rela 4 5 18 (pos 0) ∷ rela 8 2 3 (pos 0) ∷ []

-- with other symbols and relocations of its code
abbrev with : List SymbolParts → List Rela → Object
with symbols relas = record { sections = sections; symbols = symbols; relas = [] ∷ [] ∷ [] ∷ [] ∷ relas ∷ [] ∷ [] ∷ [] ∷ [] ∷ [] }

abbrev sender : Object
sender = with symbols relas

sender_sound : pack_fault sender ≡ None
sender_sound = refl

sender_names : names sender ≡ codes "send" ∷ codes "count" ∷ codes "radio_put" ∷ []
sender_names = refl

abbrev sender_package : List ℕ
sender_package =
    0x46 ∷ 0x43 ∷ 0x50 ∷ 0x31 ∷ 1 ∷ 0 ∷ 1 ∷ 0 ∷ 0x12 ∷ 0 ∷ 8 ∷ 0 ∷ 2 ∷ 0 ∷ 2 ∷ 0 ∷ 4 ∷ 0 ∷ (replicate {A = ℕ} 14 0
    ++ 0x80 ∷ 0xE0 ∷ 0x90 ∷ 0xE0 ∷ 0x0E ∷ 0x94 ∷ 0 ∷ 0 ∷ 0 ∷ 0xC0 ∷ 0x08 ∷ 0x95 ∷ 1 ∷ 2 ∷ 3 ∷ 4 ∷ 5 ∷ 0
    ∷ 0x0A ∷ 0x0B ∷ 0x0C ∷ 0 ∷ 0x61 ∷ 0x62 ∷ 0x63 ∷ 0
    ∷ 0x10 ∷ 0 ∷ 0 ∷ 0 ∷ 0 ∷ 0 ∷ 0x11 ∷ 0 ∷ 2 ∷ 0 ∷ 0 ∷ 0
    ∷ 0 ∷ 0 ∷ 0 ∷ 6 ∷ 1 ∷ 0 ∷ 5 ∷ 0 ∷ 2 ∷ 0 ∷ 0 ∷ 7 ∷ 1 ∷ 0 ∷ 5 ∷ 0 ∷ 4 ∷ 0 ∷ 0 ∷ 0x12 ∷ 0x12 ∷ 0 ∷ 0 ∷ 0 ∷ 8 ∷ 0 ∷ 0 ∷ 3 ∷ 0 ∷ 0 ∷ 0 ∷ 0 ∷ [])

sender_packed : spelling (packed sender 1 1 (number_in (names sender) (16 ∷ 17 ∷ 18 ∷ []))) ≡ sender_package
sender_packed = refl

-- ---- the linker's symbols, weak references, and entries out of order

-- after the sender's symbols
abbrev more : List SymbolParts → List SymbolParts
more others = symbols ++ others

-- a weak reference has no strong one beside it, the linker's symbols no number, entries of type 0 and 30 are left out
abbrev weak_sender : Object
weak_sender =
    with (more (symbol (codes "maybe") 0 2 0 ∷ symbol (codes "__bss_end") 0 1 0 ∷ symbol (codes "limit") 9 1 0xFFF1 ∷ symbol (codes "near") 6 0 0xFFF1 ∷ []))
    (rela 8 8 3 (pos 0) ∷ rela 4 8 18 (pos 2) ∷ rela 0 9 6 (negsuc 0) ∷ rela 2 11 7 (pos 1) ∷ rela 0 6 0 (pos 0) ∷ rela 1 7 30 (pos 0) ∷ [])

weak_names : names weak_sender ≡ codes "send" ∷ codes "count" ∷ codes "maybe" ∷ codes "limit" ∷ []
weak_names = refl

weak_sound : pack_fault weak_sender ≡ None
weak_sound = refl

weak_relocs : (packed weak_sender 1 1 (number_in (names weak_sender) (40 ∷ 39 ∷ 38 ∷ 37 ∷ []))).relocs
    ≡ record { offset = 0; in_init = false; weak = false; kind = kinds.Lo8; target = 7; addend = negsuc 0 }
    ∷ record { offset = 2; in_init = false; weak = false; kind = kinds.Hi8; target = 10; addend = pos 7 }
    ∷ record { offset = 4; in_init = false; weak = true; kind = kinds.Call; target = 38; addend = pos 2 }
    ∷ record { offset = 8; in_init = false; weak = true; kind = kinds.Rel13; target = 38; addend = pos 0 }
    ∷ []
weak_relocs = refl

-- exports go by number, an absolute one among them
weak_exports : (packed weak_sender 1 1 (number_in (names weak_sender) (40 ∷ 39 ∷ 38 ∷ 37 ∷ []))).exports
    ≡ record { symbol = 37; place = places.Absolute; weak = false; value = 9 }
    ∷ record { symbol = 39; place = places.Bss; weak = false; value = 0 }
    ∷ record { symbol = 40; place = places.Code; weak = false; value = 0 }
    ∷ []
weak_exports = refl

-- ---- faults

fault_common : pack_fault (with (more (symbol (codes "c") 1 1 0xFFF2 ∷ [])) relas) ≡ Some (faults.Common 8)
fault_common = refl

fault_absolute : pack_fault (with (more (symbol (codes "a") 65536 2 0xFFF1 ∷ [])) relas) ≡ Some (faults.Absolute 8)
fault_absolute = refl

-- a local symbol may have any value
sound_absolute : pack_fault (with (more (symbol (codes "a") 65536 0 0xFFF1 ∷ [])) relas) ≡ None
sound_absolute = refl

fault_taken : pack_fault (with (more (symbol (codes "__stack") 0 1 4 ∷ [])) relas) ≡ Some (faults.NameTwice 8)
fault_taken = refl

fault_twice : pack_fault (with (more (symbol (codes "send") 2 2 4 ∷ [])) relas) ≡ Some (faults.NameTwice 8)
fault_twice = refl

fault_kind : pack_fault (with symbols (rela 0 1 6 (pos 1) ∷ rela 2 1 33 (pos 1) ∷ [])) ≡ Some (faults.Kind 4 1 33)
fault_kind = refl

fault_field : pack_fault (with symbols (rela 11 1 6 (pos 1) ∷ [])) ≡ Some (faults.Field 4 0)
fault_field = refl

fault_outside : pack_fault (with (more (symbol [] 0 0 8 ∷ [])) (rela 0 8 6 (pos 1) ∷ [])) ≡ Some (faults.Section 8)
fault_outside = refl

-- the section of strings begins at byte 4 of data
fault_addend : pack_fault (with symbols (rela 0 1 6 (pos 32763) ∷ rela 2 1 6 (pos 32764) ∷ [])) ≡ Some (faults.Addend 4 1)
fault_addend = refl

fault_addend_low : pack_fault (with symbols (rela 0 1 6 (negsuc 32771) ∷ rela 2 1 6 (negsuc 32772) ∷ [])) ≡ Some (faults.Addend 4 1)
fault_addend_low = refl

-- of two fields at one place the later entry is named, and else the one at the greater offset
fault_same_place : pack_fault (with symbols (rela 2 1 6 (pos 0) ∷ rela 2 1 7 (pos 0) ∷ [])) ≡ Some (faults.Field 4 1)
fault_same_place = refl

fault_overlap : pack_fault (with symbols (rela 6 1 6 (pos 0) ∷ rela 4 5 18 (pos 0) ∷ [])) ≡ Some (faults.Field 4 0)
fault_overlap = refl
