-- A walk over the exports of a set by rising symbol, and the records that it makes.
use Rattle.std.specs.Prelude.{◌≡◌, ℕ, zero, suc, ◌<◌, ◌≤◌, ◌==◌, ◌&&◌, ◌||◌, not, nat_lt, Bool, List, [], ◌++◌, length, Option, Some, None, slice_get, slice_index_or, option_to_list, if◌then◌else◌}
use Rattle.std.specs.Option.{option_map}
use Rattle.component_package.specs.declared.part.Export.{Export}
use Rattle.component_package.specs.packages.Component.{Component}
use Rattle.component_package.specs.link.Link.{definition_of}
use Rattle.component_package.specs.link.Areas.{MergedSymbol}
use Rattle.component_package.specs.link.Pages.{merged}
use Rattle.kept_store.specs.declared.set.StoredSet.{StoredSet}
use Rattle.kept_symbols.specs.declared.cursor.Cursor.{Cursor}
use Rattle.kept_symbols.specs.declared.walk.Walk.{Walk}
use Rattle.kept_symbols.specs.Cursors.{IsOf, IsCursor, cursor_at}

-- ---- cursors

abbrev pub cursor_in : List Cursor → ℕ → Cursor
cursor_in cursors k = slice_index_or cursors k (record { next = 0; count = 0; window = [] })

-- the first n of these are cursors of the set's components
abbrev pub AreOf : StoredSet → List Cursor → ℕ → Type 0
AreOf set cursors n = (k : ℕ) → k < n → IsOf set k (cursor_in cursors k)

-- a cursor stands behind these exports' symbols below `low`
pub record StandsAt (low : ℕ) (es : List Export) (c : Cursor) : Type 0 where
  pub cursor : IsCursor es c
  pub at : c.next ≡ cursor_at low es

-- the first n cursors stand behind the symbols below `low`
abbrev pub Stand : List Component → ℕ → List Cursor → ℕ → Type 0
Stand set low cursors n = (k : ℕ) (c : Component) → k < n → slice_get set k ≡ Some c
    → StandsAt low c.exports (cursor_in cursors k)

-- a walk has a cursor of each component of a set, on every board
pub record IsWalkOf (set : StoredSet) (w : Walk) : Type 0 where
  pub count : w.count ≡ set.slots.manifest.count
  pub room : length w.cursors ≡ 16
  pub cursors : AreOf set w.cursors w.count

-- it stands behind the symbols below `low`
pub record IsAt (set : List Component) (low : ℕ) (w : Walk) : Type 0 where
  pub count : w.count ≡ length set
  pub cursors : Stand set low w.cursors w.count

-- ---- what comes next

-- the first of the symbols from `low` on that f gives something for
abbrev pub IsFirst : (ℕ → Option (ℕ × Export)) → ℕ → Option (ℕ × Export) → Type 0
IsFirst f low None = (s : ℕ) → low ≤ s → f s ≡ None
IsFirst f low (Some x) = (low ≤ x.1.symbol) × (f x.1.symbol ≡ Some x)
    × ((s : ℕ) → low ≤ s → s < x.1.symbol → f s ≡ None)

-- a later component's export comes before the one chosen so far: it is of a lesser symbol, or of the
-- same one, and the chosen one alone is weak
abbrev pub is_before : Export → Export → Bool
is_before e chosen = nat_lt e.symbol chosen.symbol
    || (e.symbol == chosen.symbol && (chosen.weak && not e.weak))

abbrev pub better_of : Option (ℕ × Export) → ℕ → Option Export → Option (ℕ × Export)
better_of chosen k None = chosen
better_of None k (Some e) = Some (k, e)
better_of (Some x) k (Some e) = if is_before e x.1 then Some (k, e) else Some x

-- ---- records

-- the records of all symbols below `low`, by rising symbol
unfoldable pub table_to : List Component → ℕ → List MergedSymbol
table_to set zero = []
table_to set (suc s) =
    table_to set s ++ option_to_list (option_map (merged set) (definition_of set s))
