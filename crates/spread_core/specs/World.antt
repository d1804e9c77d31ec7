-- Nodes that hear each other over a radio that may lose, repeat and reorder messages, but doesn't alter them.
use Rattle.std.specs.Prelude.{◌≡◌, ℕ, ◌+◌, ◌*◌, ◌-◌, ◌<◌, ◌==◌, ◌&&◌, nat_lt, Bool, List, [], ◌∷◌, ◌++◌, length, take, drop, replicate, slice_get, slice_index_or, slice_set, Option, Some, None, if◌then◌else◌}
use Rattle.std.specs.List.{concat}
use Rattle.sha2.specs.Sha256.{sha256}
use Rattle.component_package.specs.declared.manifest.Manifest.{Manifest}
use Rattle.component_package.specs.packages.Manifest.{IsManifest}
use Rattle.component_package.specs.packages.Reading.{list_of}
use Rattle.component_package.specs.mote.Store.{is_same}
use Rattle.spread_core.specs.declared.message.Message.{Message}
use Rattle.spread_core.specs.declared.message.Message.TheVariants.{Tick}
use Rattle.spread_core.specs.declared.node.Node.{Node}
use Rattle.spread_core.specs.declared.node.Step.{Step}
use Rattle.spread_core.specs.declared.node.Step.TheVariants.{Nothing, Send, Take, Store, Fetch}
use Rattle.spread_core.specs.Hearing.{entry_at, length_at, pages_at, is_full, heard, taken_node, holding_node, stored_node, checked_node, fetched_message}

-- ---- what is published

-- a release with its packages
pub record Published : Type 0 where
  pub manifest : Manifest
  pub packages : List (List ℕ)

-- the package of component k
abbrev pub package_of : Published → ℕ → List ℕ
package_of e k = slice_index_or e.packages k []

-- page p of a package
abbrev pub page_of : List ℕ → ℕ → List ℕ
page_of b p = take 256 (drop (256 * p) b)

-- each entry of the manifest is a package with its length and its digest
pub record IsPublished (e : Published) : Type 0 where
  pub manifest : IsManifest e.manifest
  pub lengths : (k : ℕ) → k < e.manifest.count → length (package_of e k) ≡ length_at e.manifest k
  pub digests : (k : ℕ) → k < e.manifest.count → sha256 (package_of e k) ≡ (entry_at e.manifest k).digest

-- nothing
abbrev pub no_release : Published
no_release = record { manifest = record { release = 0; count = 0; entries = [] }; packages = [] }

-- release i of a catalogue
abbrev pub release_at : List Published → ℕ → Published
release_at c i = slice_index_or c i no_release

-- releases whose numbers rise
pub record IsCatalogue (c : List Published) : Type 0 where
  pub each : (i : ℕ) → i < length c → IsPublished (release_at c i)
  pub rise : (i j : ℕ) → i < j → j < length c → (release_at c i).manifest.release < (release_at c j).manifest.release

-- ---- the world

-- a node, and what it stored as page p of component k
pub record Peer : Type 0 where
  pub node : Node
  pub pages : ℕ → ℕ → List ℕ

-- which release node 0 published last, the nodes, and each message that was ever sent, in order
pub record World : Type 0 where
  pub published : ℕ
  pub peers : List Peer
  pub sent : List Message

-- what may happen: node 0 publishes the next release; a node's clock ticks; a node hears one of the messages that were ever sent, and where it
-- takes a manifest for that, these components are held
pub data Event : Type 0 where
  Publishes : Event
  Ticks : (node : ℕ) → Event
  Hears : (node message held : ℕ) → Event

-- a node that has a release whole
abbrev pub holder : Published → Peer
holder e = record { node = holding_node e.manifest; pages = λ k p. page_of (package_of e k) p }

-- a node that knows of no release
abbrev pub newcomer : Peer
newcomer = record { node = taken_node no_release.manifest 0; pages = λ k p. [] }

-- the bytes that a node stored of component k
abbrev pub stored_bytes : Peer → ℕ → List ℕ
stored_bytes x k = concat (list_of (x.pages k) (pages_at x.node.manifest k))

-- its digest is the manifest's
abbrev pub has_digest : Peer → ℕ → Bool
has_digest x k = is_same (sha256 (stored_bytes x k)) (entry_at x.node.manifest k).digest

-- one page is put in its place
abbrev pub with_page : Peer → ℕ → ℕ → List ℕ → Peer
with_page x k p bytes = record { node = stored_node x.node k p; pages = λ i j. if (i == k) && (j == p) then bytes else x.pages i j }

-- a component of which all pages are there is checked
abbrev pub checked_peer : Peer → ℕ → Peer
checked_peer x k = if is_full x.node k then record x { node = checked_node x.node k (has_digest x k) } else x

-- a page with 0xFF behind it, as the store reads it
abbrev pub filled : List ℕ → List ℕ
filled b = b ++ replicate (256 - length b) 255

-- the page that the node stored, as a message
abbrev pub fetched_page : Peer → ℕ → ℕ → Message
fetched_page x k p = let b = x.pages k p in fetched_message x.node k p (length b) (filled b)

-- a message is sent
abbrev pub sends : World → Message → World
sends w m = record w { sent = w.sent ++ m ∷ [] }

-- node i becomes another
abbrev pub becomes : World → ℕ → Peer → World
becomes w i x = record w { peers = slice_set w.peers i x }

-- node i does a step
abbrev pub does : World → ℕ → ℕ → Peer → Step → World
does w i held x Nothing = w
does w i held x (Send m) = sends w m
does w i held x (Take m) = becomes w i (record x { node = taken_node m held })
does w i held x (Store k p length bytes) = becomes w i (checked_peer (with_page x k p (take length bytes)) k)
does w i held x (Fetch k p) = sends w (fetched_page x k p)

-- node i hears a message
abbrev pub hears : World → ℕ → ℕ → Option Peer → Option Message → World
hears w i held None m = w
hears w i held (Some x) None = w
hears w i held (Some x) (Some m) = does w i held x (heard x.node m)

-- what an event makes of the world; an event of no node, no message or no next release changes nothing
abbrev pub after : List Published → World → Event → World
after c w Publishes =
    let next = w.published + 1 in
    if nat_lt next (length c) then record w { published = next; peers = slice_set w.peers 0 (holder (release_at c next)) } else w
after c w (Ticks i) = hears w i 0 (slice_get w.peers i) (Some Tick)
after c w (Hears i k held) = hears w i held (slice_get w.peers i) (slice_get w.sent k)

-- node 0 has release i whole, and so many others know of none; nothing was sent
abbrev pub beginning : List Published → ℕ → ℕ → World
beginning c i others = record { published = i; peers = holder (release_at c i) ∷ replicate others newcomer; sent = [] }

-- the world after all these events
abbrev pub world_after : List Published → World → List Event → World
world_after c w [] = w
world_after c w (e ∷ es) = world_after c (after c w e) es
