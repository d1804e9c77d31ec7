-- What lies behind a count changes no step.
use Rattle.std.proofs.Common.{◌≡◌, ℕ, ◌<◌, ◌+◌, ◌-◌, ◌*◌, ◌/◌, min, ◌==◌, ◌&&◌, Bool, true, false, cond, Option, Some, None, List, length, take, refl, sym, ap, ap₂, ◌∙◌, arith}
use Rattle.std.specs.Prelude.{not, nat_lt}
use Rattle.std.specs.Option.{option_map_or}
use Rattle.std.proofs.lemmas.Bool.{ltb-true, and_parts}
use Rattle.std.proofs.lemmas.List.{get_or-take, take-take, length-take-le}
use Rattle.component_package.specs.declared.manifest.Entry.{Entry}
use Rattle.component_package.specs.declared.manifest.Manifest.{Manifest}
use Rattle.component_package.specs.packages.Manifest.{Release, IsManifest, release_of}
use Rattle.spread_core.specs.declared.message.Message.{Message}
use Rattle.spread_core.specs.declared.message.Message.TheVariants.{Advert, Ask, Offer, Data, Tick}
use Rattle.spread_core.specs.declared.node.Node.{Node}
use Rattle.spread_core.specs.declared.node.Step.{Step}
use Rattle.spread_core.specs.declared.node.Step.TheVariants.{Nothing, Send, Take, Store, Fetch}
use Rattle.spread_core.specs.Sets.{has, set_of, least}
use Rattle.spread_core.specs.Hearing.{no_entry, length_at, is_page, page_length, is_wanted, is_had, missing_pages, advert_of, ask_for, first_wanted, first_page, hears_advert, hears_ask_for, hears_ask, hears_offer, is_new, hears_data, heard}
use Rattle.spread_core.specs.MessageFrames.{IsMessage, HasRoom, SaysSame, frame_of}
use Rattle.spread_core.specs.Tails.{plain_manifest, plain_node, plain_message, plain_step, HasArrays, TailsMeanNothing}
use Rattle.spread_core.proofs.FrameLemmas.{frames_say_messages}
use Rattle.spread_core.proofs.SetLemmas.{least_found}

-- the entries are the same
same_length : (m : Manifest) (k : ℕ) → k < m.count → length_at m k ≡ length_at (plain_manifest m) k
same_length m k lt = sym (ap (λ (e : Entry). e.length) (get_or-take m.count m.entries k no_entry lt))

plain_twice : (m : Manifest) → plain_manifest m ≡ plain_manifest (plain_manifest m)
plain_twice m = ap (λ (es : List Entry). record m { entries = es }) (sym (take-take m.count m.count m.entries (omega arith)))

option_same : (o : Option ℕ) (f g : ℕ → Step) → ((k : ℕ) → o ≡ Some k → f k ≡ g k) → option_map_or f o Nothing ≡ option_map_or g o Nothing
option_same None f g same = refl
option_same (Some k) f g same = same k refl

cond_same : (b : Bool) (x y z w : Step) → (b ≡ true → plain_step x ≡ plain_step z) → (b ≡ false → plain_step y ≡ plain_step w) → plain_step (cond b x y) ≡ plain_step (cond b z w)
cond_same true x y z w yes_case no_case = yes_case refl
cond_same false x y z w yes_case no_case = no_case refl

same_missing : (n : Node) (k : ℕ) → k < n.manifest.count → missing_pages n k ≡ missing_pages (plain_node n) k
same_missing n k lt = ap (λ (l : ℕ). set_of (λ p. not (is_had n k p)) ((l + 255) / 256)) (same_length n.manifest k lt)

tails_advert : (n : Node) (r w : ℕ) → plain_step (hears_advert n r w) ≡ plain_step (hears_advert (plain_node n) r w)
tails_advert n r w =
    let asks : Node → Step = λ x. option_map_or (λ (k : ℕ). Send (ask_for x k)) (first_wanted n w) Nothing in
    let inner : Node → Step = λ x. cond (nat_lt r n.manifest.release) (Send (advert_of n)) (asks x) in
    cond_same (nat_lt n.manifest.release r) (Send (Ask r 255 0)) (inner n) (Send (Ask r 255 0)) (inner (plain_node n)) (λ e. refl)
    (λ e. cond_same (nat_lt r n.manifest.release) (Send (advert_of n)) (asks n) (Send (advert_of n)) (asks (plain_node n)) (λ e. refl)
    (λ e. ap plain_step (option_same (first_wanted n w) (λ (k : ℕ). Send (ask_for n k)) (λ (k : ℕ). Send (ask_for (plain_node n) k))
    (λ k found. ap (λ (s : ℕ). Send (Ask n.manifest.release k s)) (same_missing n k (least_found (λ k. has w k && is_wanted n k) n.manifest.count k found).below)))))

tails_ask_for : (n : Node) (k pages : ℕ) → plain_step (hears_ask_for n k pages) ≡ plain_step (hears_ask_for (plain_node n) k pages)
tails_ask_for n k pages =
    let fetch : Node → Step = λ x. option_map_or (λ (p : ℕ). Fetch k p) (first_page x k pages) Nothing in
    cond_same (nat_lt k n.manifest.count && has n.whole k) (fetch n) Nothing (fetch (plain_node n)) Nothing
    (λ e.
    let lt = ltb-true k n.manifest.count (and_parts (nat_lt k n.manifest.count) (has n.whole k) e).0 in
    ap (λ (l : ℕ). plain_step (option_map_or (λ (p : ℕ). Fetch k p) (least (has pages) ((l + 255) / 256)) Nothing)) (same_length n.manifest k lt))
    (λ e. refl)

tails_ask : (n : Node) (r k pages : ℕ) → plain_step (hears_ask n r k pages) ≡ plain_step (hears_ask (plain_node n) r k pages)
tails_ask n r k pages =
    let inner : Node → Step = λ x. cond (nat_lt 0 r && k == 255) (Send (Offer x.manifest)) (hears_ask_for x k pages) in
    cond_same (not (r == n.manifest.release)) Nothing (inner n) Nothing (inner (plain_node n)) (λ e. refl)
    (λ e. cond_same (nat_lt 0 r && k == 255) (Send (Offer n.manifest)) (hears_ask_for n k pages) (Send (Offer (plain_manifest n.manifest))) (hears_ask_for (plain_node n) k pages)
    (λ e. ap (λ (m : Manifest). Send (Offer m)) (plain_twice n.manifest))
    (λ e. tails_ask_for n k pages))

tails_offer : (n : Node) (m : Manifest) → plain_step (hears_offer n m) ≡ plain_step (hears_offer (plain_node n) (plain_manifest m))
tails_offer n m = cond_same (nat_lt n.manifest.release m.release) (Take m) Nothing (Take (plain_manifest m)) Nothing (λ e. ap Take (plain_twice m)) (λ e. refl)

-- the tests behind a test that fails don't matter
unlisted : (a b c d e f g h : Bool) → b ≡ false → (((((a && b) && c) && d) && e) && f) ≡ (((((a && b) && c) && g) && e) && h)
unlisted false b c d e f g h none = refl
unlisted true b c d e f g h none = rw none refl

same_new : (n : Node) (r k p l : ℕ) → is_new n r k p l ≡ is_new (plain_node n) r k p l
same_new n r k p l = by_listed (nat_lt k n.manifest.count) refl
  where
    by_listed : (b : Bool) → nat_lt k n.manifest.count ≡ b → is_new n r k p l ≡ is_new (plain_node n) r k p l
    by_listed true e =
        ap (λ (s : ℕ). ((((((r == n.manifest.release) && nat_lt k n.manifest.count) && is_wanted n k) && nat_lt (256 * p) s) && not (is_had n k p)) && (l == min 256 (s - 256 * p))))
        (same_length n.manifest k (ltb-true k n.manifest.count e))
    by_listed false e =
        unlisted (r == n.manifest.release) (nat_lt k n.manifest.count) (is_wanted n k) (is_page n.manifest k p) (not (is_had n k p)) (l == page_length n.manifest k p)
        (is_page (plain_manifest n.manifest) k p) (l == page_length (plain_manifest n.manifest) k p) e

tails_data : (n : Node) (r k p l : ℕ) (b : List ℕ) → plain_step (hears_data n r k p l b) ≡ plain_step (hears_data (plain_node n) r k p l (take l b))
tails_data n r k p l b =
    cond_same (is_new n r k p l) (Store k p l b) Nothing (Store k p l (take l b)) Nothing (λ e. ap (Store k p l) (sym (take-take l l b (omega arith)))) (λ e. refl)
    ∙ ap (λ (t : Bool). plain_step (cond t (Store k p l (take l b)) Nothing)) (same_new n r k p l)

tails : (n : Node) (m : Message) → plain_step (heard n m) ≡ plain_step (heard (plain_node n) (plain_message m))
tails n Tick = refl
tails n (Advert r w) = tails_advert n r w
tails n (Ask r k pages) = tails_ask n r k pages
tails n (Offer m) = tails_offer n m
tails n (Data r k p l b) = tails_data n r k p l b

-- ---- messages with one frame

has_room : (m : Message) → HasArrays m → HasRoom m
has_room (Advert r w) h = tt
has_room (Ask r k pages) h = tt
has_room (Offer m) h = tt
has_room (Data r k p l b) h = h
has_room Tick h = tt

-- a manifest has as many entries as it counts
counted : (m : Manifest) → IsManifest m → length m.entries ≡ 16 → length (release_of m).entries ≡ m.count
counted m is room = length-take-le m.count m.entries (omega (arith, room, is.count))

same_manifest : (m s : Manifest) → IsManifest m → IsManifest s → length m.entries ≡ 16 → length s.entries ≡ 16 → release_of m ≡ release_of s → plain_manifest m ≡ plain_manifest s
same_manifest m s im il rm rl e =
    let count : m.count ≡ s.count = sym (counted m im rm) ∙ ap (λ (r : Release). length r.entries) e ∙ counted s il rl in
    ap (λ (r : Release). record { release = r.number; count = m.count; entries = r.entries }) e
    ∙ ap (λ (n : ℕ). record { release = s.release; count = n; entries = (release_of s).entries }) count

same_plain : (m s : Message) → IsMessage m → IsMessage s → HasArrays m → HasArrays s → SaysSame m s → plain_message m ≡ plain_message s
same_plain (Advert r w) (Advert t v) im il rm rl e = ap₂ (λ (x y : ℕ). Advert x y) e.0 e.1
same_plain (Ask r k a) (Ask t l b) im il rm rl e = ap₂ (λ (x y : ℕ). Ask x y a) e.0 e.1 ∙ ap (λ (y : ℕ). Ask t l y) e.2
same_plain (Offer m) (Offer s) im il rm rl e = ap (λ (x : Manifest). Offer x) (same_manifest m s im il rm rl e)
same_plain (Data r k p n b) (Data t l q o d) im il rm rl e =
    ap₂ (λ (x y : ℕ). Data x y p n (take n b)) e.0 e.1 ∙ ap₂ (λ (x y : ℕ). Data t l x y (take n b)) e.2 e.3 ∙ ap (λ (y : List ℕ). Data t l q o y) e.4
same_plain Tick Tick im il rm rl e = refl
same_plain m s im il rm rl e = absurd e

frame : (n : Node) (m s : Message) → IsMessage m → IsMessage s → HasArrays m → HasArrays s → frame_of m ≡ frame_of s → plain_step (heard n m) ≡ plain_step (heard n s)
frame n m s im il rm rl e =
    let same = frames_say_messages.one m s im il (has_room m rm) (has_room s rl) e in
    tails n m ∙ ap (λ (x : Message). plain_step (heard (plain_node n) x)) (same_plain m s im il rm rl same) ∙ sym (tails n s)

pub tails_mean_nothing : TailsMeanNothing
tails_mean_nothing = record { step = tails; frame = frame }
