-- Why a node does a step: what each step says of the node and of the message that it heard.
use Rattle.std.specs.Prelude.{◌≡◌, ℕ, ◌<◌, ◌&&◌, ◌⊎◌, not, nat_lt, true, false, List}
use Rattle.component_package.specs.declared.manifest.Manifest.{Manifest}
use Rattle.component_package.specs.packages.Manifest.{IsManifest}
use Rattle.spread_core.specs.declared.message.Message.{Message}
use Rattle.spread_core.specs.declared.message.Message.TheVariants.{Advert, Ask, Offer, Data, Tick}
use Rattle.spread_core.specs.declared.node.Node.{Node}
use Rattle.spread_core.specs.declared.node.Step.{Step}
use Rattle.spread_core.specs.declared.node.Step.TheVariants.{Nothing, Send, Take, Store, Fetch}
use Rattle.spread_core.specs.Sets.{has}
use Rattle.spread_core.specs.Hearing.{pages_at, is_page, page_length, is_wanted, is_had}
use Rattle.spread_core.specs.MessageFrames.{IsMessage}

-- ---- messages that a node sends

-- another node said that it is behind
abbrev pub HeardEarlier : Node → Message → Type 0
HeardEarlier n (Advert r w) = r < n.manifest.release
HeardEarlier n _ = ⊥

-- It says what it has, at its clock's tick or to a node that is behind.
pub record SaysWhatItHas (n : Node) (m : Message) (r w : ℕ) : Type 0 where
  pub release : r ≡ n.manifest.release
  pub whole : w ≡ n.whole
  pub cause : (m ≡ Tick) ⊎ HeardEarlier n m

-- It asks for the manifest of a later release,
pub record AsksForManifest (n : Node) (r k s : ℕ) : Type 0 where
  pub later : n.manifest.release < r
  pub ordinal : k ≡ 255
  pub pages : s ≡ 0

-- or for exactly the pages that it hasn't of the first component that it wants and that is among these.
pub record AsksForPages (n : Node) (w r k s : ℕ) : Type 0 where
  pub release : r ≡ n.manifest.release
  pub listed : k < n.manifest.count
  pub sender : has w k ≡ true
  pub wanted : is_wanted n k ≡ true
  pub first : (j : ℕ) → j < k → (has w j && is_wanted n j) ≡ false
  pub pages : (p : ℕ) → has s p ≡ (nat_lt p (pages_at n.manifest k) && not (is_had n k p))

-- It asks in the release of a node that it heard of, and only for what that node has.
pub record AsksForMore (n : Node) (m : Message) (r k s : ℕ) : Type 0 where
  pub whole : ℕ
  pub message : m ≡ Advert r whole
  pub cause : AsksForManifest n r k s ⊎ AsksForPages n whole r k s

-- It offers its own manifest, to who asked for that release's.
pub record OffersItsOwn (n : Node) (m : Message) (t : Manifest) : Type 0 where
  pub manifest : t ≡ n.manifest
  pub some : 0 < n.manifest.release
  pub pages : ℕ
  pub message : m ≡ Ask n.manifest.release 255 pages

-- A page it sends only as the answer to a Fetch.
abbrev pub SendsFor : Node → Message → Message → Type 0
SendsFor n m (Advert r w) = SaysWhatItHas n m r w
SendsFor n m (Ask r k s) = AsksForMore n m r k s
SendsFor n m (Offer t) = OffersItsOwn n m t
SendsFor n m (Data r k p l b) = ⊥
SendsFor n m Tick = ⊥

-- ---- the other steps

-- A manifest that it takes was offered, and is of a later release.
pub record TakesFor (n : Node) (m : Message) (t : Manifest) : Type 0 where
  pub message : m ≡ Offer t
  pub later : n.manifest.release < t.release

-- A page that it stores came in its release; it is a whole page of a component that it wants, and it hadn't it.
pub record StoresFor (n : Node) (m : Message) (k p l : ℕ) (b : List ℕ) : Type 0 where
  pub message : m ≡ Data n.manifest.release k p l b
  pub listed : k < n.manifest.count
  pub wanted : is_wanted n k ≡ true
  pub page : is_page n.manifest k p ≡ true
  pub new : is_had n k p ≡ false
  pub whole : l ≡ page_length n.manifest k p

-- A page that it fetches is the first that was asked for, of a component of its release that it has whole.
pub record FetchesFor (n : Node) (m : Message) (k p : ℕ) : Type 0 where
  pub asked : ℕ
  pub message : m ≡ Ask n.manifest.release k asked
  pub listed : k < n.manifest.count
  pub whole : has n.whole k ≡ true
  pub page : is_page n.manifest k p ≡ true
  pub wanted : has asked p ≡ true
  pub first : (q : ℕ) → q < p → has asked q ≡ false

-- this node may do this step at this message
abbrev pub IsCalledFor : Node → Message → Step → Type 0
IsCalledFor n m Nothing = Unit {0}
IsCalledFor n m (Send s) = SendsFor n m s
IsCalledFor n m (Take t) = TakesFor n m t
IsCalledFor n m (Store k p l b) = StoresFor n m k p l b
IsCalledFor n m (Fetch k p) = FetchesFor n m k p

-- ---- what is done with a step next

-- a page of a manifest's component
pub record IsListedPage (m : Manifest) (k p : ℕ) : Type 0 where
  pub listed : k < m.count
  pub page : is_page m k p ≡ true

-- the calls that carry out a step may be made: what is sent has a frame, what is taken is a release's manifest, and what is stored or fetched
-- is a page of this manifest
abbrev pub MayBeDone : Manifest → Step → Type 0
MayBeDone m Nothing = Unit {0}
MayBeDone m (Send s) = IsMessage s
MayBeDone m (Take t) = IsManifest t
MayBeDone m (Store k p l b) = IsListedPage m k p
MayBeDone m (Fetch k p) = IsListedPage m k p
