-- Places among the exports of components.
use Rattle.std.specs.Prelude.{◌≡◌, ℕ, ◌+◌, ◌/◌, ◌%◌, ◌<◌, ◌≤◌, ◌==◌, ◌&&◌, not, nat_lt, Bool, false, List, length, Option, Some, None, slice_get, if◌then◌else◌}
use Rattle.std.specs.List.{prefix_len}
use Rattle.component_package.specs.declared.part.Export.{Export}
use Rattle.kept_store.specs.declared.set.StoredSet.{StoredSet}
use Rattle.kept_store.specs.Sets.{header_at}
use Rattle.kept_symbols.specs.declared.cursor.Cursor.{Cursor}

-- a cursor goes over as many exports as component k has by its header
pub record IsOf (set : StoredSet) (k : ℕ) (c : Cursor) : Type 0 where
  pub count : c.count ≡ (header_at set k).exports
  pub next : c.next ≤ c.count

-- a cursor goes over these exports: its window holds those from the next one on, up to an index that
-- 8 divides
pub record IsCursor (es : List Export) (c : Cursor) : Type 0 where
  pub count : c.count ≡ length es
  pub window : (j : ℕ) → c.next ≤ j → j < length es → j / 8 ≡ c.next / 8
      → slice_get c.window (j % 8) ≡ slice_get es j

-- the next export
abbrev pub head_of : Cursor → Option Export
head_of c = if nat_lt c.next c.count then slice_get c.window (c.next % 8) else None

-- an export is of this symbol
abbrev pub has_symbol : ℕ → Option Export → Bool
has_symbol s None = false
has_symbol s (Some e) = e.symbol == s

-- and not weak
abbrev pub is_strong_of : ℕ → Option Export → Bool
is_strong_of s None = false
is_strong_of s (Some e) = e.symbol == s && not e.weak

-- the index behind an export of this symbol
abbrev pub behind : ℕ → Cursor → ℕ
behind s c = c.next + (if has_symbol s (head_of c) then 1 else 0)

-- how many exports have a symbol below `low`: where a cursor stands
abbrev pub cursor_at : ℕ → List Export → ℕ
cursor_at low es = prefix_len (λ e. nat_lt e.symbol low) es
