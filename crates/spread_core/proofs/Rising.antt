-- No node goes back to an earlier release.
use Rattle.std.proofs.Common.{◌≡◌, ℕ, zero, suc, ◌+◌, ◌<◌, ◌≤◌, true, false, take, Option, Some, None, List, [], ◌∷◌, length, refl, sym, ap, subst, ◌∙◌, inl, inr, arith}
use Rattle.std.specs.Prelude.{nat_lt, ◌⊎◌, slice_get, slice_set, unwrap_or}
use Rattle.std.specs.List.{AllByRecursion}
use Rattle.std.proofs.lemmas.Bool.{cond_both, ltb-true}
use Rattle.component_package.specs.declared.manifest.Manifest.{Manifest}
use Rattle.component_package.proofs.Lists.{all_more, all_at}
use Rattle.spread_core.specs.declared.message.Message.{Message}
use Rattle.spread_core.specs.declared.message.Message.TheVariants.{Advert, Ask, Offer, Data, Tick}
use Rattle.spread_core.specs.declared.node.Node.{Node}
use Rattle.spread_core.specs.declared.node.Step.{Step}
use Rattle.spread_core.specs.declared.node.Step.TheVariants.{Nothing, Send, Take, Store, Fetch}
use Rattle.spread_core.specs.Hearing.{is_full, heard, taken_node, checked_node}
use Rattle.spread_core.specs.Causes.{SendsFor, IsCalledFor}
use Rattle.spread_core.specs.World.{Published, IsCatalogue, Peer, World, Event, Publishes, Ticks, Hears, release_at, holder, newcomer, has_digest, with_page, checked_peer, fetched_page, does, hears, after, beginning, world_after}
use Rattle.spread_core.specs.Laws.{NodesNeverGoBack}
use Rattle.spread_core.proofs.Steps.{called_for}
use Rattle.spread_core.proofs.Worlds.{all_set, all_replicate}

-- ---- lists

all_weaker : {X : Type 0} (P Q : X → Type 0) (xs : List X) → ((x : X) → P x → Q x) → AllByRecursion P xs → AllByRecursion Q xs
all_weaker P Q [] weaker all = tt
all_weaker P Q (x ∷ xs) weaker all = (weaker x all.0, all_weaker P Q xs weaker all.1)

some_is : (x y : Peer) → Some x ≡ Some y → x ≡ y
some_is x y e = ap (λ (o : Option Peer). unwrap_or o x) e

-- after one element was set, each is as before or is that one
one_set : (xs : List Peer) (i j : ℕ) (z x y : Peer) → slice_get xs j ≡ Some x → slice_get (slice_set xs i z) j ≡ Some y → (x ≡ y) ⊎ ((z ≡ y) × (slice_get xs i ≡ Some x))
one_set [] i j z x y was now = absurd cc
one_set (v ∷ vs) zero zero z x y was now = inr (some_is z y now, was)
one_set (v ∷ vs) zero (suc j) z x y was now = inl (some_is x y (sym was ∙ now))
one_set (v ∷ vs) (suc i) zero z x y was now = inl (some_is x y (sym was ∙ now))
one_set (v ∷ vs) (suc i) (suc j) z x y was now = one_set vs i j z x y was now

-- ---- nothing is later than what was published last

abbrev release_of_peer : Peer → ℕ
release_of_peer x = x.node.manifest.release

abbrev IsUpTo : ℕ → Message → Type 0
IsUpTo r (Offer m) = m.release ≤ r
IsUpTo r (Advert s w) = Unit {0}
IsUpTo r (Ask s k pages) = Unit {0}
IsUpTo r (Data s k p l b) = Unit {0}
IsUpTo r Tick = Unit {0}

abbrev IsPeerUpTo : ℕ → Peer → Type 0
IsPeerUpTo r x = release_of_peer x ≤ r

record IsWorldUpTo (r : ℕ) (w : World) : Type 0 where
  pub sent : AllByRecursion (IsUpTo r) w.sent
  pub peers : AllByRecursion (IsPeerUpTo r) w.peers

message_weaker : (r s : ℕ) → r ≤ s → (m : Message) → IsUpTo r m → IsUpTo s m
message_weaker r s le (Offer m) is = omega (arith, le, is)
message_weaker r s le (Advert t w) is = tt
message_weaker r s le (Ask t k pages) is = tt
message_weaker r s le (Data t k p l b) is = tt
message_weaker r s le Tick is = tt

sent_up_to : (r : ℕ) (n : Node) (m s : Message) → n.manifest.release ≤ r → SendsFor n m s → IsUpTo r s
sent_up_to r n m (Offer t) le c = subst (λ (x : Manifest). x.release ≤ r) (sym c.manifest) le
sent_up_to r n m (Advert t w) le c = tt
sent_up_to r n m (Ask t k pages) le c = tt
sent_up_to r n m (Data t k p l b) le c = tt
sent_up_to r n m Tick le c = tt

-- a component that is checked changes no release
checked_release : (x : Peer) (k : ℕ) → release_of_peer (checked_peer x k) ≡ release_of_peer x
checked_release x k =
    let P : Peer → Type 0 = λ y. release_of_peer y ≡ release_of_peer x in
    cond_both (is_full x.node k) (record x { node = checked_node x.node k (has_digest x k) }) x P
    (λ e. cond_both (has_digest x k) (checked_node x.node k true) (checked_node x.node k false) (λ (n : Node). n.manifest.release ≡ x.node.manifest.release) (λ d. refl) (λ d. refl))
    (λ e. refl)

does_up_to : (r : ℕ) (w : World) (i held : ℕ) (x : Peer) (m : Message) (s : Step) → IsWorldUpTo r w → IsPeerUpTo r x → IsUpTo r m → IsCalledFor x.node m s → IsWorldUpTo r (does w i held x s)
does_up_to r w i held x m Nothing is le up c = is
does_up_to r w i held x m (Send s) is le up c = record { sent = all_more (IsUpTo r) w.sent s is.sent (sent_up_to r x.node m s le c); peers = is.peers }
does_up_to r w i held x m (Take t) is le up c =
    record { sent = is.sent; peers = all_set (IsPeerUpTo r) w.peers i (record x { node = taken_node t held }) is.peers (subst (IsUpTo r) c.message up) }
does_up_to r w i held x m (Store k p l b) is le up c =
    let y : Peer = with_page x k p (take l b) in
    record { sent = is.sent; peers = all_set (IsPeerUpTo r) w.peers i (checked_peer y k) is.peers (omega (arith, checked_release y k, le)) }
does_up_to r w i held x m (Fetch k p) is le up c = record { sent = all_more (IsUpTo r) w.sent (fetched_page x k p) is.sent tt; peers = is.peers }

hears_up_to : (r : ℕ) (w : World) (i held : ℕ) (o : Option Peer) (u : Option Message) → IsWorldUpTo r w
    → ((x : Peer) → o ≡ Some x → IsPeerUpTo r x) → ((m : Message) → u ≡ Some m → IsUpTo r m) → IsWorldUpTo r (hears w i held o u)
hears_up_to r w i held None u is f h = is
hears_up_to r w i held (Some x) None is f h = is
hears_up_to r w i held (Some x) (Some m) is f h = does_up_to r w i held x m (heard x.node m) is (f x refl) (h m refl) (called_for x.node m)

-- what a node hears publishes nothing
does_published : (w : World) (i held : ℕ) (x : Peer) (s : Step) → (does w i held x s).published ≡ w.published
does_published w i held x Nothing = refl
does_published w i held x (Send s) = refl
does_published w i held x (Take t) = refl
does_published w i held x (Store k p l b) = refl
does_published w i held x (Fetch k p) = refl

hears_published : (w : World) (i held : ℕ) (o : Option Peer) (u : Option Message) → (hears w i held o u).published ≡ w.published
hears_published w i held None u = refl
hears_published w i held (Some x) None = refl
hears_published w i held (Some x) (Some m) = does_published w i held x (heard x.node m)

abbrev last_number : List Published → World → ℕ
last_number c w = (release_at c w.published).manifest.release

record IsLatest (c : List Published) (w : World) : Type 0 where
  pub within : w.published < length c
  pub up_to : IsWorldUpTo (last_number c w) w

hears_latest : (c : List Published) (w : World) (i held : ℕ) (u : Option Message) → IsLatest c w → ((m : Message) → u ≡ Some m → IsUpTo (last_number c w) m) → IsLatest c (hears w i held (slice_get w.peers i) u)
hears_latest c w i held u is h =
    let same = hears_published w i held (slice_get w.peers i) u in
    let r : ℕ = last_number c w in
    let t : World = hears w i held (slice_get w.peers i) u in
    let up : IsWorldUpTo r t = hears_up_to r w i held (slice_get w.peers i) u is.up_to (λ x e. all_at (IsPeerUpTo r) w.peers i x is.up_to.peers e) h in
    record {
      within = subst (λ (n : ℕ). n < length c) (sym same) is.within;
      up_to = subst (λ (n : ℕ). IsWorldUpTo (release_at c n).manifest.release t) (sym same) up;
    }

tick_up_to : (r : ℕ) (m : Message) → Some Tick ≡ Some m → IsUpTo r m
tick_up_to r m e = subst (IsUpTo r) (ap (λ (o : Option Message). unwrap_or o Tick) e) tt

published_latest : (c : List Published) (w : World) → IsCatalogue c → IsLatest c w → w.published + 1 < length c
    → IsLatest c (record w { published = w.published + 1; peers = slice_set w.peers 0 (holder (release_at c (w.published + 1))) })
published_latest c w is latest lt =
    let next : ℕ = w.published + 1 in
    let r : ℕ = last_number c w in
    let s : ℕ = (release_at c next).manifest.release in
    let rises : r < s = is.rise w.published next (omega arith) lt in
    let le : r ≤ s = omega (arith, rises) in
    record {
      within = lt;
      up_to = record {
        sent = all_weaker (IsUpTo r) (IsUpTo s) w.sent (message_weaker r s le) latest.up_to.sent;
        peers = all_set (IsPeerUpTo s) w.peers 0 (holder (release_at c next)) (all_weaker (IsPeerUpTo r) (IsPeerUpTo s) w.peers (λ x up. omega (arith, le, up)) latest.up_to.peers) (omega arith);
      };
    }

after_latest : (c : List Published) (w : World) (e : Event) → IsCatalogue c → IsLatest c w → IsLatest c (after c w e)
after_latest c w Publishes is latest =
    let next : ℕ = w.published + 1 in
    cond_both (nat_lt next (length c)) (record w { published = next; peers = slice_set w.peers 0 (holder (release_at c next)) }) w (IsLatest c)
    (λ lt. published_latest c w is latest (ltb-true next (length c) lt)) (λ e. latest)
after_latest c w (Ticks i) is latest = hears_latest c w i 0 (Some Tick) latest (tick_up_to (last_number c w))
after_latest c w (Hears i k held) is latest = hears_latest c w i held (slice_get w.sent k) latest (λ m e. all_at (IsUpTo (last_number c w)) w.sent k m latest.up_to.sent e)

world_latest : (c : List Published) (w : World) (es : List Event) → IsCatalogue c → IsLatest c w → IsLatest c (world_after c w es)
world_latest c w [] is latest = latest
world_latest c w (e ∷ es) is latest = world_latest c (after c w e) es is (after_latest c w e is latest)

beginning_latest : (c : List Published) (i others : ℕ) → i < length c → IsLatest c (beginning c i others)
beginning_latest c i others lt =
    let r : ℕ = (release_at c i).manifest.release in
    record { within = lt; up_to = record { sent = tt; peers = (omega arith, all_replicate (IsPeerUpTo r) others newcomer (omega arith)) } }

-- ---- one event

rises_by : (w : World) (i j : ℕ) (z v x y : Peer) → slice_get w.peers i ≡ Some v → release_of_peer v ≤ release_of_peer z → slice_get w.peers j ≡ Some x → slice_get (slice_set w.peers i z) j ≡ Some y → release_of_peer x ≤ release_of_peer y
rises_by w i j z v x y at le was now =
    elim (one_set w.peers i j z x y was now) [
      | inl same ↦ omega (arith, ap release_of_peer same)
      | inr set ↦ omega (arith, le, ap release_of_peer set.0, ap release_of_peer (some_is v x (sym at ∙ set.1)))
    ]

same_peer : (w : World) (j : ℕ) (x y : Peer) → slice_get w.peers j ≡ Some x → slice_get w.peers j ≡ Some y → release_of_peer x ≤ release_of_peer y
same_peer w j x y was now = omega (arith, ap release_of_peer (some_is x y (sym was ∙ now)))

does_rises : (w : World) (i held j : ℕ) (v x y : Peer) (m : Message) (s : Step) → slice_get w.peers i ≡ Some v → IsCalledFor v.node m s
    → slice_get w.peers j ≡ Some x → slice_get (does w i held v s).peers j ≡ Some y → release_of_peer x ≤ release_of_peer y
does_rises w i held j v x y m Nothing at c was now = same_peer w j x y was now
does_rises w i held j v x y m (Send s) at c was now = same_peer w j x y was now
does_rises w i held j v x y m (Fetch k p) at c was now = same_peer w j x y was now
does_rises w i held j v x y m (Take t) at c was now = rises_by w i j (record v { node = taken_node t held }) v x y at (omega (arith, c.later)) was now
does_rises w i held j v x y m (Store k p l b) at c was now =
    let z : Peer = with_page v k p (take l b) in
    rises_by w i j (checked_peer z k) v x y at (omega (arith, checked_release z k)) was now

hears_rises : (w : World) (i held j : ℕ) (o : Option Peer) (u : Option Message) (x y : Peer) → slice_get w.peers i ≡ o
    → slice_get w.peers j ≡ Some x → slice_get (hears w i held o u).peers j ≡ Some y → release_of_peer x ≤ release_of_peer y
hears_rises w i held j None u x y at was now = same_peer w j x y was now
hears_rises w i held j (Some v) None x y at was now = same_peer w j x y was now
hears_rises w i held j (Some v) (Some m) x y at was now = does_rises w i held j v x y m (heard v.node m) at (called_for v.node m) was now

published_rises : (c : List Published) (w : World) (j : ℕ) (x y : Peer) → IsCatalogue c → IsLatest c w → w.published + 1 < length c
    → slice_get w.peers j ≡ Some x → slice_get (slice_set w.peers 0 (holder (release_at c (w.published + 1)))) j ≡ Some y → release_of_peer x ≤ release_of_peer y
published_rises c w j x y is latest lt was now =
    let rises = is.rise w.published (w.published + 1) (omega arith) lt in
    let up = all_at (IsPeerUpTo (last_number c w)) w.peers j x latest.up_to.peers was in
    elim (one_set w.peers 0 j (holder (release_at c (w.published + 1))) x y was now) [
      | inl same ↦ omega (arith, ap release_of_peer same)
      | inr set ↦ omega (arith, rises, up, ap release_of_peer set.0)
    ]

after_rises : (c : List Published) (w : World) (e : Event) (j : ℕ) (x y : Peer) → IsCatalogue c → IsLatest c w → slice_get w.peers j ≡ Some x → slice_get (after c w e).peers j ≡ Some y → release_of_peer x ≤ release_of_peer y
after_rises c w Publishes j x y is latest was =
    let next : ℕ = w.published + 1 in
    cond_both (nat_lt next (length c)) (record w { published = next; peers = slice_set w.peers 0 (holder (release_at c next)) }) w
    (λ (t : World). slice_get t.peers j ≡ Some y → release_of_peer x ≤ release_of_peer y)
    (λ lt now. published_rises c w j x y is latest (ltb-true next (length c) lt) was now)
    (λ e now. same_peer w j x y was now)
after_rises c w (Ticks i) j x y is latest was = λ now. hears_rises w i 0 j (slice_get w.peers i) (Some Tick) x y refl was now
after_rises c w (Hears i k held) j x y is latest was = λ now. hears_rises w i held j (slice_get w.peers i) (slice_get w.sent k) x y refl was now

pub nodes_never_go_back : NodesNeverGoBack
nodes_never_go_back c is i others lt es e j x y was now =
    let w : World = world_after c (beginning c i others) es in
    after_rises c w e j x y is (world_latest c (beginning c i others) es is (beginning_latest c i others lt)) was now
