-- Entries behind a manifest's count, and bytes behind a page, mean nothing.
use Rattle.std.specs.Prelude.{◌≡◌, length, take}
use Rattle.component_package.specs.declared.manifest.Manifest.{Manifest}
use Rattle.spread_core.specs.declared.message.Message.{Message}
use Rattle.spread_core.specs.declared.message.Message.TheVariants.{Advert, Ask, Offer, Data, Tick}
use Rattle.spread_core.specs.declared.node.Node.{Node}
use Rattle.spread_core.specs.declared.node.Step.{Step}
use Rattle.spread_core.specs.declared.node.Step.TheVariants.{Nothing, Send, Take, Store, Fetch}
use Rattle.spread_core.specs.Hearing.{heard}
use Rattle.spread_core.specs.MessageFrames.{frame_of, IsMessage}

-- a manifest with its entries alone
abbrev pub plain_manifest : Manifest → Manifest
plain_manifest m = record m { entries = take m.count m.entries }

abbrev pub plain_node : Node → Node
plain_node n = record n { manifest = plain_manifest n.manifest }

-- a message with the bytes of its page alone
abbrev pub plain_message : Message → Message
plain_message (Advert release whole) = Advert release whole
plain_message (Ask release ordinal pages) = Ask release ordinal pages
plain_message (Offer m) = Offer (plain_manifest m)
plain_message (Data release ordinal page n bytes) = Data release ordinal page n (take n bytes)
plain_message Tick = Tick

abbrev pub plain_step : Step → Step
plain_step Nothing = Nothing
plain_step (Send m) = Send (plain_message m)
plain_step (Take m) = Take (plain_manifest m)
plain_step (Store ordinal page n bytes) = Store ordinal page n (take n bytes)
plain_step (Fetch ordinal page) = Fetch ordinal page

-- a message as the code has it: a manifest has room for 16 entries, and a page for 256 bytes
abbrev pub HasArrays : Message → Type 0
HasArrays (Advert release whole) = Unit {0}
HasArrays (Ask release ordinal pages) = Unit {0}
HasArrays (Offer m) = length m.entries ≡ 16
HasArrays (Data release ordinal page n bytes) = length bytes ≡ 256
HasArrays Tick = Unit {0}

-- A node's step is the same without them, so it is the same for a message that was sent as a frame and read again.
pub record TailsMeanNothing : Type 0 where
  pub step : (n : Node) (m : Message) → plain_step (heard n m) ≡ plain_step (heard (plain_node n) (plain_message m))
  pub frame : (n : Node) (m s : Message) → IsMessage m → IsMessage s → HasArrays m → HasArrays s → frame_of m ≡ frame_of s → plain_step (heard n m) ≡ plain_step (heard n s)
