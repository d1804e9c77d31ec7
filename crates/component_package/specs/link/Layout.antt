-- Where the parts of a set's components stand.
use Rattle.std.specs.Prelude.{ℕ, ◌+◌, ◌==◌, List, length, take, Option, Some, None, if◌then◌else◌}
use Rattle.std.specs.List.{sum_by}
use Rattle.component_package.specs.packages.Component.{Component}

-- how much room a component takes
pub record Room : Type 0 where
  pub code : ℕ
  pub init : ℕ
  pub bss : ℕ

abbrev pub room_of : Component → Room
room_of c = record { code = length c.code; init = length c.init; bss = c.bss }

abbrev pub code_total : List Room → ℕ
code_total rooms = sum_by (λ r. r.code) rooms

abbrev pub init_total : List Room → ℕ
init_total rooms = sum_by (λ r. r.init) rooms

abbrev pub bss_total : List Room → ℕ
bss_total rooms = sum_by (λ r. r.bss) rooms

-- the first data address
abbrev pub data_start : ℕ
data_start = 0x800100

-- where component i's code stands, where its data stands behind all code until it is copied, where its data stands in RAM, and its bss
abbrev pub code_base : List Room → ℕ → ℕ
code_base rooms i = code_total (take i rooms)

abbrev pub load_base : List Room → ℕ → ℕ
load_base rooms i = code_total rooms + init_total (take i rooms)

abbrev pub ram_base : List Room → ℕ → ℕ
ram_base rooms i = data_start + init_total (take i rooms)

abbrev pub bss_base : List Room → ℕ → ℕ
bss_base rooms i = data_start + init_total rooms + bss_total (take i rooms)

-- where all data ends in RAM, and all bss
abbrev pub data_end : List Room → ℕ
data_end rooms = data_start + init_total rooms

abbrev pub bss_end : List Room → ℕ
bss_end rooms = data_end rooms + bss_total rooms

-- the linker's symbols, targets 3 to 10: data_start, data_end, data_load_start, bss_start, bss_end, heap_start, stack, and the number 0
abbrev pub linker_symbol : List Room → ℕ → Option ℕ
linker_symbol rooms target =
    if target == 3 then Some data_start
    else if target == 4 then Some (data_end rooms)
    else if target == 5 then Some (code_total rooms)
    else if target == 6 then Some (data_end rooms)
    else if target == 7 then Some (bss_end rooms)
    else if target == 8 then Some (bss_end rooms)
    else if target == 9 then Some 0x8010FF
    else if target == 10 then Some 0
    else None
