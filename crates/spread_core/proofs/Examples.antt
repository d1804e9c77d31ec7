-- Each row of the table, and a release that travels over three nodes, checked by computing. The digests are those that `sha256sum` prints.
use Rattle.std.proofs.Common.{◌≡◌, ℕ, zero, suc, ◌<◌, ◌&&◌, Bool, List, [], ◌∷◌, ◌++◌, length, true, false, refl, replicate, arith}
use Rattle.std.specs.Prelude.{nat_lt}
use Rattle.std.proofs.lemmas.Bool.{ltb-true, and_parts}
use Rattle.sha2.specs.Sha256.{sha256, digest_bytes, hash_after, compress, rounds, schedule, first_words}
use Rattle.component_package.specs.declared.manifest.Manifest.{Manifest}
use Rattle.component_package.specs.mote.Frames.{frame_bytes}
use Rattle.component_package.specs.packages.Manifest.{IsManifest, IsManifestEntry}
use Rattle.spread_core.specs.declared.message.Message.{Message}
use Rattle.spread_core.specs.declared.message.Message.TheVariants.{Advert, Ask, Offer, Data, Tick}
use Rattle.spread_core.specs.declared.node.Node.{Node}
use Rattle.spread_core.specs.declared.node.Step.TheVariants.{Nothing, Send, Take, Store, Fetch}
use Rattle.spread_core.specs.Hearing.{heard, taken_node, holding_node, stored_node, checked_node, is_full, fetched_message, no_entry, entry_at, length_at}
use Rattle.spread_core.specs.MessageFrames.{frame_of, payload_of}
use Rattle.spread_core.proofs.FrameLemmas.{HasBytes}
use Rattle.spread_core.specs.World.{Published, IsPublished, IsCatalogue, Event, Publishes, Ticks, Hears, package_of, release_at, beginning, world_after, newcomer, filled, has_digest, with_page}

abbrev p : List ℕ
p = 70 ∷ 67 ∷ 80 ∷ 49 ∷ 1 ∷ 0 ∷ 1 ∷ 0 ∷ 6 ∷ 0 ∷ 0 ∷ 0 ∷ 0 ∷ 0 ∷ 0 ∷ 0 ∷ 1 ∷ 0 ∷ 0 ∷ 0 ∷ 0 ∷ 0 ∷ 0 ∷ 0 ∷ 0 ∷ 0 ∷ 0 ∷ 0 ∷ 0 ∷ 0 ∷ 0 ∷ 0 ∷ 14 ∷ 148 ∷ 0 ∷ 0 ∷ 255 ∷ 207 ∷ 0 ∷ 0 ∷ 0 ∷ 18 ∷ 16 ∷ 0 ∷ 0 ∷ 0 ∷ []

abbrev q : List ℕ
q = 70 ∷ 67 ∷ 80 ∷ 49 ∷ 2 ∷ 0 ∷ 1 ∷ 0 ∷ 2 ∷ 0 ∷ 0 ∷ 0 ∷ 0 ∷ 0 ∷ 1 ∷ 0 ∷ 0 ∷ 0 ∷ 0 ∷ 0 ∷ 0 ∷ 0 ∷ 0 ∷ 0 ∷ 0 ∷ 0 ∷ 0 ∷ 0 ∷ 0 ∷ 0 ∷ 0 ∷ 0 ∷ 8 ∷ 149 ∷ 16 ∷ 0 ∷ 0 ∷ 0 ∷ 0 ∷ 0 ∷ []

abbrev digest_p : List ℕ
digest_p = 50 ∷ 49 ∷ 219 ∷ 254 ∷ 133 ∷ 156 ∷ 37 ∷ 153 ∷ 76 ∷ 0 ∷ 32 ∷ 191 ∷ 133 ∷ 128 ∷ 242 ∷ 246 ∷ 18 ∷ 183 ∷ 230 ∷ 40 ∷ 148 ∷ 226 ∷ 153 ∷ 162 ∷ 201 ∷ 198 ∷ 110 ∷ 155 ∷ 239 ∷ 162 ∷ 35 ∷ 255 ∷ []

abbrev digest_q : List ℕ
digest_q = 214 ∷ 196 ∷ 228 ∷ 139 ∷ 127 ∷ 232 ∷ 110 ∷ 121 ∷ 33 ∷ 213 ∷ 187 ∷ 221 ∷ 66 ∷ 240 ∷ 115 ∷ 58 ∷ 2 ∷ 121 ∷ 23 ∷ 225 ∷ 61 ∷ 236 ∷ 235 ∷ 139 ∷ 72 ∷ 70 ∷ 176 ∷ 174 ∷ 143 ∷ 21 ∷ 62 ∷ 195 ∷ []

-- release 1 of both
abbrev manifest : Manifest
manifest = record {
  release = 1;
  count = 2;
  entries = record { component = 1; version = 1; length = 46; digest = digest_p } ∷ record { component = 2; version = 1; length = 40; digest = digest_q } ∷ replicate 14 no_entry;
}

-- release 2 of the second alone
abbrev later : Manifest
later = record { release = 2; count = 1; entries = record { component = 2; version = 1; length = 40; digest = digest_q } ∷ replicate 15 no_entry }

-- release 3 of one component with two whole pages and a short one, and release 4 of one with two whole pages
abbrev of_length : ℕ → ℕ → Manifest
of_length release n = record { release = release; count = 1; entries = record { component = 1; version = 1; length = n; digest = digest_p } ∷ replicate 15 no_entry }

abbrev page_p : List ℕ
page_p = filled p

-- ---- a node that knows of no release

abbrev new : Node
new = newcomer.node

knows_of_none : (heard new Tick ≡ Send (Advert 0 0)) × (heard new (Advert 0 0) ≡ Nothing) × (heard new (Advert 1 0) ≡ Send (Ask 1 255 0))
knows_of_none = (refl, refl, refl)

has_nothing : (heard new (Ask 0 255 0) ≡ Nothing) × (heard new (Ask 0 0 1) ≡ Nothing) × (heard new (Data 0 0 0 0 page_p) ≡ Nothing)
has_nothing = (refl, refl, refl)

-- ---- it takes a release of two components, and gets the first

abbrev taken : Node
taken = taken_node manifest 0

offers : (heard new (Offer manifest) ≡ Take manifest) × (heard taken (Offer manifest) ≡ Nothing) × (heard taken (Offer later) ≡ Take later)
offers = (refl, refl, refl)

-- an earlier release isn't taken back
earlier : heard (taken_node later 0) (Offer manifest) ≡ Nothing
earlier = refl

-- the first that the sender has is asked for, and none that the manifest doesn't list
asks_for_first : (heard taken (Advert 1 3) ≡ Send (Ask 1 0 1)) × (heard taken (Advert 1 2) ≡ Send (Ask 1 1 1)) × (heard taken (Advert 1 4) ≡ Nothing)
asks_for_first = (refl, refl, refl)

stores : heard taken (Data 1 0 0 46 page_p) ≡ Store 0 0 46 page_p
stores = refl

-- a short page, a page past the end, an empty one there, a component that isn't listed, another release
refused : (heard taken (Data 1 0 0 45 page_p) ≡ Nothing) × (heard taken (Data 1 0 1 1 page_p) ≡ Nothing) × (heard taken (Data 1 0 1 0 page_p) ≡ Nothing)
refused = (refl, refl, refl)

refused_too : (heard taken (Data 1 2 0 46 page_p) ≡ Nothing) × (heard taken (Data 2 0 0 46 page_p) ≡ Nothing) × (heard taken (Data 0 0 0 46 page_p) ≡ Nothing)
refused_too = (refl, refl, refl)

abbrev got : Node
got = checked_node (stored_node taken 0 0) 0 true

full : (is_full taken 0 ≡ false) × (is_full (stored_node taken 0 0) 0 ≡ true)
full = (refl, refl)

digest_is_right : has_digest (with_page (record newcomer { node = taken }) 0 0 p) 0 ≡ true
unfolding sha256 digest_bytes hash_after compress rounds schedule first_words
digest_is_right = refl

-- it asks for the second and passes the first on; the page again makes it do nothing
next_steps : (heard got (Advert 1 3) ≡ Send (Ask 1 1 1)) × (heard got (Ask 1 0 1) ≡ Fetch 0 0) × (heard got (Data 1 0 0 46 page_p) ≡ Nothing)
next_steps = (refl, refl, refl)

-- equal adverts are silent, older ones are answered, newer ones asked about
adverts : (heard got (Advert 1 1) ≡ Nothing) × (heard got (Advert 0 3) ≡ Send (Advert 1 1)) × (heard got (Advert 2 0) ≡ Send (Ask 2 255 0)) × (heard got Tick ≡ Send (Advert 1 1))
adverts = (refl, refl, refl, refl)

-- the manifest is offered to who asks for it, whatever pages the ask names; a page of what isn't whole isn't sent, nor one that isn't there
asks : (heard got (Ask 1 255 7) ≡ Send (Offer manifest)) × (heard got (Ask 2 255 0) ≡ Nothing) × (heard got (Ask 1 1 1) ≡ Nothing) × (heard got (Ask 1 0 2) ≡ Nothing)
asks = (refl, refl, refl, refl)

-- what is held is neither asked for, nor stored, nor passed on
abbrev holds_first : Node
holds_first = taken_node manifest 1

held : (heard holds_first (Advert 1 3) ≡ Send (Ask 1 1 1)) × (heard holds_first (Advert 1 1) ≡ Nothing) × (heard holds_first (Data 1 0 0 46 page_p) ≡ Nothing) × (heard holds_first (Ask 1 0 1) ≡ Nothing)
held = (refl, refl, refl, refl)

-- ---- a component of three pages

abbrev wide : Node
wide = taken_node (of_length 3 600) 0

-- the first and the last page came
abbrev gap : Node
gap = stored_node (stored_node wide 0 0) 0 2

missing : (heard wide (Advert 3 1) ≡ Send (Ask 3 0 7)) × (heard gap (Advert 3 1) ≡ Send (Ask 3 0 2)) × (is_full gap 0 ≡ false) × (is_full (stored_node gap 0 1) 0 ≡ true)
missing = (refl, refl, refl, refl)

-- all but the last are 256 bytes
sizes : (heard wide (Data 3 0 1 256 page_p) ≡ Store 0 1 256 page_p) × (heard wide (Data 3 0 1 255 page_p) ≡ Nothing) × (heard wide (Data 3 0 2 88 page_p) ≡ Store 0 2 88 page_p) × (heard wide (Data 3 0 2 256 page_p) ≡ Nothing)
sizes = (refl, refl, refl, refl)

-- a package that ends with a page has no page behind it
ends : (heard (taken_node (of_length 4 512) 0) (Advert 4 1) ≡ Send (Ask 4 0 3)) × (heard (taken_node (of_length 4 512) 0) (Data 4 0 2 0 page_p) ≡ Nothing)
ends = (refl, refl)

-- a component without its digest is asked for from the start
abbrev bad : Node
bad = checked_node (stored_node gap 0 1) 0 false

starts_again : (heard bad (Advert 3 1) ≡ Send (Ask 3 0 7)) × (heard bad (Ask 3 0 1) ≡ Nothing)
starts_again = (refl, refl)

-- the first page that is asked for is fetched, and no other
abbrev whole : Node
whole = holding_node (of_length 3 600)

fetches : (heard whole (Ask 3 0 6) ≡ Fetch 0 1) × (heard whole (Ask 3 0 8) ≡ Nothing) × (heard whole (Ask 3 0 0) ≡ Nothing) × (heard whole (Ask 3 1 1) ≡ Nothing) × (heard whole (Data 3 0 1 256 page_p) ≡ Nothing)
fetches = (refl, refl, refl, refl, refl)

-- ---- three nodes

abbrev catalogue : List Published
catalogue = record { manifest = manifest; packages = p ∷ q ∷ [] } ∷ record { manifest = later; packages = q ∷ [] } ∷ []

-- Node 1 gets both components from node 0, and node 2 from node 1. Some messages are never heard by a node, some twice, some late. Then node 0
-- publishes, and node 2 takes the later release, of which it holds the component; what it hears of the earlier one changes nothing more.
abbrev events : List Event
events =
    Ticks 0 ∷ Hears 1 0 0 ∷ Hears 0 1 0 ∷ Hears 1 2 0 ∷ Ticks 0 ∷ Hears 1 3 0 ∷ Hears 0 4 0 ∷ Hears 1 5 0 ∷ Ticks 1 ∷ Hears 2 6 0 ∷ Hears 1 7 0
    ∷ Hears 2 8 0 ∷ Hears 2 6 0 ∷ Hears 1 9 0 ∷ Hears 2 10 0 ∷ Hears 2 10 0 ∷ Hears 1 3 0 ∷ Hears 0 11 0 ∷ Hears 1 12 0 ∷ Hears 1 5 0 ∷ Ticks 1
    ∷ Hears 2 13 0 ∷ Hears 1 14 0 ∷ Hears 2 15 0 ∷ Ticks 2 ∷ Publishes ∷ Ticks 0 ∷ Hears 2 17 0 ∷ Hears 0 18 0 ∷ Hears 2 19 1 ∷ Hears 2 10 0
    ∷ Hears 2 2 0 ∷ Hears 2 17 0 ∷ Ticks 2 ∷ []

abbrev first_sent : List Message
first_sent =
    Advert 1 3 ∷ Ask 1 255 0 ∷ Offer manifest ∷ Advert 1 3 ∷ Ask 1 0 1 ∷ Data 1 0 0 46 page_p ∷ Advert 1 1 ∷ Ask 1 255 0 ∷ Offer manifest
    ∷ Ask 1 0 1 ∷ Data 1 0 0 46 page_p ∷ []

abbrev then_sent : List Message
then_sent =
    Ask 1 1 1 ∷ Data 1 1 0 40 (filled q) ∷ Advert 1 3 ∷ Ask 1 1 1 ∷ Data 1 1 0 40 (filled q) ∷ Advert 1 3 ∷ Advert 2 1 ∷ Ask 2 255 0 ∷ Offer later
    ∷ Advert 2 0 ∷ []

travels : (world_after catalogue (beginning catalogue 0 2) events).sent ≡ first_sent ++ then_sent
unfolding sha256 digest_bytes hash_after compress rounds schedule first_words
travels = refl

-- ---- the premise can be met

small : List ℕ → Bool
small [] = true
small (x ∷ xs) = nat_lt x 256 && small xs

have_bytes : (b : List ℕ) → small b ≡ true → HasBytes b
unfolding small
have_bytes [] e i = omega arith
have_bytes (x ∷ xs) e zero = ltb-true x 256 (and_parts (nat_lt x 256) (small xs) e).0
have_bytes (x ∷ xs) e (suc i) = have_bytes xs (and_parts (nat_lt x 256) (small xs) e).1 i

entry_p : IsManifestEntry (entry_at manifest 0)
unfolding small
entry_p = record { component = omega arith; version = omega arith; least = omega arith; most = omega arith; digest = refl; bytes = have_bytes digest_p refl }

entry_q : IsManifestEntry (entry_at manifest 1)
unfolding small
entry_q = record { component = omega arith; version = omega arith; least = omega arith; most = omega arith; digest = refl; bytes = have_bytes digest_q refl }

manifest_is : IsManifest manifest
manifest_is = record {
  count = omega arith;
  release = record { number = omega arith; some = omega arith; few = omega arith; entries = (entry_p, (entry_q, tt)); distinct = (refl, (refl, tt)) };
}

later_is : IsManifest later
later_is = record {
  count = omega arith;
  release = record { number = omega arith; some = omega arith; few = omega arith; entries = (entry_q, tt); distinct = (refl, tt) };
}

lengths : (k : ℕ) → k < 2 → length (package_of (release_at catalogue 0) k) ≡ length_at manifest k
lengths zero lt = refl
lengths (suc zero) lt = refl
lengths (suc (suc k)) lt = absurd (omega arith)

digests : (k : ℕ) → k < 2 → sha256 (package_of (release_at catalogue 0) k) ≡ (entry_at manifest k).digest
unfolding sha256 digest_bytes hash_after compress rounds schedule first_words
digests zero lt = refl
digests (suc zero) lt = refl
digests (suc (suc k)) lt = absurd (omega arith)

later_lengths : (k : ℕ) → k < 1 → length (package_of (release_at catalogue 1) k) ≡ length_at later k
later_lengths zero lt = refl
later_lengths (suc k) lt = absurd (omega arith)

later_digests : (k : ℕ) → k < 1 → sha256 (package_of (release_at catalogue 1) k) ≡ (entry_at later k).digest
unfolding sha256 digest_bytes hash_after compress rounds schedule first_words
later_digests zero lt = refl
later_digests (suc k) lt = absurd (omega arith)

each : (i : ℕ) → i < 2 → IsPublished (release_at catalogue i)
each zero lt = record { manifest = manifest_is; lengths = lengths; digests = digests }
each (suc zero) lt = record { manifest = later_is; lengths = later_lengths; digests = later_digests }
each (suc (suc i)) lt = absurd (omega arith)

rise : (i j : ℕ) → i < j → j < 2 → (release_at catalogue i).manifest.release < (release_at catalogue j).manifest.release
rise zero zero lt within = absurd (omega arith)
rise zero (suc zero) lt within = omega arith
rise zero (suc (suc j)) lt within = absurd (omega arith)
rise (suc i) j lt within = absurd (omega arith)

catalogue_is : IsCatalogue catalogue
catalogue_is = record { each = each; rise = rise }

-- ---- messages on the line

ask_bytes : frame_bytes (frame_of (Ask 1 0 1)) ≡ 0x11 ∷ 0x0D ∷ 0 ∷ 1 ∷ 0 ∷ 0 ∷ 0 ∷ 0 ∷ 1 ∷ 0 ∷ 0 ∷ 0 ∷ 0 ∷ 0 ∷ 0 ∷ 0 ∷ []
ask_bytes = refl

data_bytes : frame_bytes (frame_of (fetched_message got 0 0 46 page_p)) ≡ 0x13 ∷ 0x34 ∷ 0 ∷ 1 ∷ 0 ∷ 0 ∷ 0 ∷ 0 ∷ 0 ∷ p
data_bytes = refl

-- bytes of numbers stand in order, the low one first
orders : (payload_of (Advert 0x04030201 0x0605) ≡ 1 ∷ 2 ∷ 3 ∷ 4 ∷ 5 ∷ 6 ∷ []) × (payload_of (Ask 0x04030201 5 0x0D0C0B0A09080706) ≡ 1 ∷ 2 ∷ 3 ∷ 4 ∷ 5 ∷ 6 ∷ 7 ∷ 8 ∷ 9 ∷ 10 ∷ 11 ∷ 12 ∷ 13 ∷ [])
orders = (refl, refl)

page_bytes : (payload_of (Data 0x04030201 5 6 2 (7 ∷ 8 ∷ 9 ∷ [])) ≡ 1 ∷ 2 ∷ 3 ∷ 4 ∷ 5 ∷ 6 ∷ 7 ∷ 8 ∷ []) × (frame_bytes (frame_of Tick) ≡ 20 ∷ 0 ∷ 0 ∷ [])
page_bytes = (refl, refl)
