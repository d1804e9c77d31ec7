-- The bodies of replies, as JSON values; their text is compact, with the keys in order of their bytes.
use Rattle.std.specs.Prelude.{ℕ, ℤ, List, [], ◌∷◌, map, codes}
use Rattle.hex.specs.Hex.{encode_lower}
use Rattle.serde_json.specs.Data.{Data, number, unsigned, string, array, object, member, no_members, item, no_items}
use Rattle.serde_json.specs.Find.{of_integer}
use Rattle.serde_json.specs.View.{items_of}
use Rattle.serde_json.specs.Written.{compact_text}
use Rattle.http_bodies.specs.declared.part.Part.{Part}

-- a whole number
abbrev pub count : ℕ → Data
count n = number (unsigned n)

-- `{"component":C,"length":L,"sha256":"hex","version":V}`, of a version that was added
abbrev pub version_reply : ℕ → ℕ → List ℕ → ℕ → Data
version_reply component length digest version =
    object
    (member (codes "component") (count component)
    (member (codes "length") (count length)
    (member (codes "sha256") (string (encode_lower digest))
    (member (codes "version") (count version) no_members))))

-- `{"mote":"m","release":N}`, of a release that was added
abbrev pub release_reply : List ℕ → ℕ → Data
release_reply mote release = object (member (codes "mote") (string mote) (member (codes "release") (count release) no_members))

-- `{"acknowledged":N,"mote":"m"}`, of an acknowledgement
abbrev pub acknowledgement_reply : ℕ → List ℕ → Data
acknowledgement_reply release mote = object (member (codes "acknowledged") (count release) (member (codes "mote") (string mote) no_members))

-- `["name",V]`
abbrev pub part_data : Part → Data
part_data p = array (item (string p.component) (item (count p.version) no_items))

-- `{"acknowledged":A,"components":[["name",V],..],"mote":"m","release":N}`, of a mote's last release
abbrev pub mote_reply : ℕ → List Part → List ℕ → ℕ → Data
mote_reply acknowledged parts mote release =
    object
    (member (codes "acknowledged") (count acknowledged)
    (member (codes "components") (array (items_of (map part_data parts)))
    (member (codes "mote") (string mote)
    (member (codes "release") (count release) no_members))))

-- `{"refusal":4,"sha256":"hex"}`, the digest that the key has
abbrev pub key_taken_reply : List ℕ → Data
key_taken_reply digest = object (member (codes "refusal") (count 4) (member (codes "sha256") (string (encode_lower digest)) no_members))

-- a whole number that may be negative
abbrev pub integer : ℤ → Data
integer z = number (of_integer z)

-- `{"refusal":n,"values":[..]}`
abbrev pub refusal_reply : ℕ → List ℤ → Data
refusal_reply refusal values =
    object (member (codes "refusal") (count refusal) (member (codes "values") (array (items_of (map integer values))) no_members))

-- the text of a reply
abbrev pub reply_text : Data → List ℕ
reply_text d = compact_text d
