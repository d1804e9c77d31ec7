-- What the tables of a keeper in memory are.
use Rattle.std.specs.Prelude.{◌≡◌, length, take}
use Rattle.release_rows.specs.Tables.{Tables}
use Rattle.release_keeper.specs.declared.tables.MemoryTables.{MemoryTables}

abbrev pub memory_tables : MemoryTables → Tables
memory_tables m = record { symbols = m.symbols; components = m.components; versions = m.versions; releases = m.releases; acks = m.acks; keys = m.keys }

-- a change has begun: rows of symbols, components and keys may have come behind the others
pub record HasBegun (old new : Tables) : Type 0 where
  pub symbols : take (length old.symbols) new.symbols ≡ old.symbols
  pub components : take (length old.components) new.components ≡ old.components
  pub versions : new.versions ≡ old.versions
  pub releases : new.releases ≡ old.releases
  pub acks : new.acks ≡ old.acks
  pub keys : take (length old.keys) new.keys ≡ old.keys
