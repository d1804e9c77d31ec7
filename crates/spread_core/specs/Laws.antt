-- What holds of every world that events lead to.
use Rattle.std.specs.Prelude.{◌≡◌, ℕ, ◌<◌, ◌≤◌, true, List, length, take, slice_get, Some}
use Rattle.sha2.specs.Sha256.{sha256}
use Rattle.component_package.specs.declared.manifest.Manifest.{Manifest}
use Rattle.spread_core.specs.declared.message.Message.{Message}
use Rattle.spread_core.specs.declared.message.Message.TheVariants.{Offer}
use Rattle.spread_core.specs.declared.node.Step.TheVariants.{Store, Fetch}
use Rattle.spread_core.specs.Sets.{has}
use Rattle.spread_core.specs.Hearing.{IsNodeManifest, OffersRelease, entry_at, is_page, heard}
use Rattle.spread_core.specs.MessageFrames.{IsMessage, HasRoom}
use Rattle.spread_core.specs.World.{Published, Peer, World, Event, IsCatalogue, package_of, page_of, release_at, stored_bytes, after, beginning, world_after}

-- the release of the catalogue that a node takes part in
pub record TakesPart (c : List Published) (m : Manifest) : Type 0 where
  pub place : ℕ
  pub within : place < length c
  pub manifest : m ≡ (release_at c place).manifest

-- these bytes are that page of that package of the release with this manifest
pub record IsPageOf (c : List Published) (m : Manifest) (k p : ℕ) (b : List ℕ) : Type 0 where
  pub place : ℕ
  pub within : place < length c
  pub manifest : m ≡ (release_at c place).manifest
  pub component : k < m.count
  pub page : is_page m k p ≡ true
  pub bytes : b ≡ page_of (package_of (release_at c place) k) p

-- this component is that package of the release with this manifest, and has its digest
pub record IsComponentOf (c : List Published) (x : Peer) (k : ℕ) : Type 0 where
  pub component : k < x.node.manifest.count
  pub digest : sha256 (stored_bytes x k) ≡ (entry_at x.node.manifest k).digest
  pub place : ℕ
  pub within : place < length c
  pub manifest : x.node.manifest ≡ (release_at c place).manifest
  pub bytes : stored_bytes x k ≡ package_of (release_at c place) k

-- what a world does right
pub record IsRight (c : List Published) (w : World) : Type 0 where
  -- a page that a node stores when it hears a message that was ever sent is that page of that package of its release
  pub stores : (i j : ℕ) (x : Peer) (m : Message) (k p n : ℕ) (bytes : List ℕ) → slice_get w.peers i ≡ Some x → slice_get w.sent j ≡ Some m
      → heard x.node m ≡ Store k p n bytes → IsPageOf c x.node.manifest k p (take n bytes)
  -- a page that it fetches is so too
  pub fetches : (i j : ℕ) (x : Peer) (m : Message) (k p : ℕ) → slice_get w.peers i ≡ Some x → slice_get w.sent j ≡ Some m
      → heard x.node m ≡ Fetch k p → IsPageOf c x.node.manifest k p (x.pages k p)
  -- each manifest that was ever offered is one of the catalogue
  pub offers : (j : ℕ) (m : Manifest) → slice_get w.sent j ≡ Some (Offer m) → TakesPart c m
  -- a component that counts as whole has its digest, and is the catalogue's
  pub whole : (i : ℕ) (x : Peer) (k : ℕ) → slice_get w.peers i ≡ Some x → has x.node.whole k ≡ true → IsComponentOf c x k
  -- what `hear` asks for holds: each node's manifest is none or a release's, and each that was offered is a release's
  pub manifests : (i : ℕ) (x : Peer) → slice_get w.peers i ≡ Some x → IsNodeManifest x.node.manifest
  pub offered : (j : ℕ) (m : Message) → slice_get w.sent j ≡ Some m → OffersRelease m
  -- each message that was ever sent has a frame
  pub messages : (j : ℕ) (m : Message) → slice_get w.sent j ≡ Some m → IsMessage m × HasRoom m

-- Whatever is lost, repeated and reordered: each world that events lead to is right.
abbrev pub SpreadingIsRight : Type 0
SpreadingIsRight = (c : List Published) → IsCatalogue c → (i others : ℕ) → i < length c → (es : List Event) → IsRight c (world_after c (beginning c i others) es)

-- No event takes a node back to an earlier release.
abbrev pub NodesNeverGoBack : Type 0
NodesNeverGoBack =
    (c : List Published) → IsCatalogue c → (i others : ℕ) → i < length c → (es : List Event) (e : Event) (j : ℕ) (x y : Peer)
    → slice_get (world_after c (beginning c i others) es).peers j ≡ Some x
    → slice_get (after c (world_after c (beginning c i others) es) e).peers j ≡ Some y
    → x.node.manifest.release ≤ y.node.manifest.release
