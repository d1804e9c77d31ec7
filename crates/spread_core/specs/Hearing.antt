-- What a node does with a message.
use Rattle.std.specs.Prelude.{◌≡◌, ℕ, ◌+◌, ◌-◌, ◌*◌, ◌/◌, ◌==◌, ◌&&◌, ◌⊎◌, not, nat_lt, Bool, true, List, [], Option, min, replicate, slice_index, slice_index_or, slice_set, if◌then◌else◌}
use Rattle.std.specs.Option.{option_map_or}
use Rattle.component_package.specs.declared.manifest.Entry.{Entry}
use Rattle.component_package.specs.declared.manifest.Manifest.{Manifest}
use Rattle.component_package.specs.packages.Manifest.{IsManifest}
use Rattle.spread_core.specs.declared.message.Message.{Message}
use Rattle.spread_core.specs.declared.message.Message.TheVariants.{Advert, Ask, Offer, Data, Tick}
use Rattle.spread_core.specs.declared.node.Node.{Node}
use Rattle.spread_core.specs.declared.node.Step.{Step}
use Rattle.spread_core.specs.declared.node.Step.TheVariants.{Nothing, Send, Take, Store, Fetch}
use Rattle.spread_core.specs.Sets.{has, with_bit, set_of, least}

-- ---- manifests and pages

-- no manifest: no release and no components
abbrev pub IsNoManifest : Manifest → Type 0
IsNoManifest m = (m.release ≡ 0) × (m.count ≡ 0)

-- a node's manifest: none, or a release's
abbrev pub IsNodeManifest : Manifest → Type 0
IsNodeManifest m = IsNoManifest m ⊎ IsManifest m

-- a manifest that a message offers is a release's
abbrev pub OffersRelease : Message → Type 0
OffersRelease (Offer m) = IsManifest m
OffersRelease _ = Unit {0}

abbrev pub no_entry : Entry
no_entry = record { component = 0; version = 0; length = 0; digest = [] }

-- the entry of component k
abbrev pub entry_at : Manifest → ℕ → Entry
entry_at m k = slice_index_or m.entries k no_entry

-- how long its package is
abbrev pub length_at : Manifest → ℕ → ℕ
length_at m k = (entry_at m k).length

-- how many pages that has
abbrev pub pages_at : Manifest → ℕ → ℕ
pages_at m k = (length_at m k + 255) / 256

-- page p is one of them
abbrev pub is_page : Manifest → ℕ → ℕ → Bool
is_page m k p = nat_lt (256 * p) (length_at m k)

-- how long page p is: 256 bytes, or the rest
abbrev pub page_length : Manifest → ℕ → ℕ → ℕ
page_length m k p = min 256 (length_at m k - 256 * p)

-- ---- what a node wants and has

-- component k has still to be sent
abbrev pub is_wanted : Node → ℕ → Bool
is_wanted n k = not (has n.whole k) && not (has n.held k)

-- page p of component k was stored
abbrev pub is_had : Node → ℕ → ℕ → Bool
is_had n k p = has (slice_index n.have k) p

-- the pages of component k that weren't
abbrev pub missing_pages : Node → ℕ → ℕ
missing_pages n k = set_of (λ p. not (is_had n k p)) (pages_at n.manifest k)

-- ---- the answers to messages

-- what a node says of itself
abbrev pub advert_of : Node → Message
advert_of n = Advert n.manifest.release n.whole

-- it asks for the missing pages of a component
abbrev pub ask_for : Node → ℕ → Message
ask_for n k = Ask n.manifest.release k (missing_pages n k)

-- the first component that it wants and that is among these
abbrev pub first_wanted : Node → ℕ → Option ℕ
first_wanted n whole = least (λ k. has whole k && is_wanted n k) n.manifest.count

-- a node of this release has these components whole
abbrev pub hears_advert : Node → ℕ → ℕ → Step
hears_advert n release whole =
    if nat_lt n.manifest.release release then Send (Ask release 255 0)
    else if nat_lt release n.manifest.release then Send (advert_of n)
    else option_map_or (λ k. Send (ask_for n k)) (first_wanted n whole) Nothing

-- the first page of component k that is among these
abbrev pub first_page : Node → ℕ → ℕ → Option ℕ
first_page n k pages = least (has pages) (pages_at n.manifest k)

-- these pages of component k are asked for
abbrev pub hears_ask_for : Node → ℕ → ℕ → Step
hears_ask_for n k pages =
    if nat_lt k n.manifest.count && has n.whole k then option_map_or (λ p. Fetch k p) (first_page n k pages) Nothing
    else Nothing

-- these pages of a release's component are asked for, or its manifest
abbrev pub hears_ask : Node → ℕ → ℕ → ℕ → Step
hears_ask n release k pages =
    if not (release == n.manifest.release) then Nothing
    else if nat_lt 0 release && k == 255 then Send (Offer n.manifest)
    else hears_ask_for n k pages

-- a manifest is offered
abbrev pub hears_offer : Node → Manifest → Step
hears_offer n m = if nat_lt n.manifest.release m.release then Take m else Nothing

-- a page of the node's release that it wants and hasn't, whole
abbrev pub is_new : Node → ℕ → ℕ → ℕ → ℕ → Bool
is_new n release k p length =
    release == n.manifest.release && nat_lt k n.manifest.count && is_wanted n k && is_page n.manifest k p && not (is_had n k p)
    && length == page_length n.manifest k p

-- a page of a release's component
abbrev pub hears_data : Node → ℕ → ℕ → ℕ → ℕ → List ℕ → Step
hears_data n release k p length bytes = if is_new n release k p length then Store k p length bytes else Nothing

-- what a node does with a message
abbrev pub heard : Node → Message → Step
heard n Tick = Send (advert_of n)
heard n (Advert release whole) = hears_advert n release whole
heard n (Ask release k pages) = hears_ask n release k pages
heard n (Offer m) = hears_offer n m
heard n (Data release k p length bytes) = hears_data n release k p length bytes

-- ---- what becomes of a node

-- it takes a manifest, of which these components needn't be sent
abbrev pub taken_node : Manifest → ℕ → Node
taken_node m held = record { manifest = m; held = held; whole = 0; have = replicate 16 0 }

-- it has a release whole
abbrev pub holding_node : Manifest → Node
holding_node m = record { manifest = m; held = 0; whole = set_of (λ k. true) m.count; have = replicate 16 0 }

-- it stored page p of component k
abbrev pub stored_node : Node → ℕ → ℕ → Node
stored_node n k p = record n { have = slice_set n.have k (with_bit (slice_index n.have k) p) }

-- it has all pages of component k
abbrev pub is_full : Node → ℕ → Bool
is_full n k = missing_pages n k == 0

-- it looked whether component k has its digest
abbrev pub checked_node : Node → ℕ → Bool → Node
checked_node n k good = if good then record n { whole = with_bit n.whole k } else record n { have = slice_set n.have k 0 }

-- a page that it fetched, as a message
abbrev pub fetched_message : Node → ℕ → ℕ → ℕ → List ℕ → Message
fetched_message n k p length bytes = Data n.manifest.release k p length bytes
