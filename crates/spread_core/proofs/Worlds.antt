-- Each world that events lead to is honest: its messages and what its nodes stored are the catalogue's.
use Rattle.std.proofs.Common.{◌≡◌, ◌≢◌, ℕ, zero, suc, ◌+◌, ◌-◌, ◌*◌, ◌<◌, ◌≤◌, ◌==◌, ◌&&◌, Bool, true, false, Option, Some, None, List, [], ◌∷◌, ◌++◌, length, take, drop, min, replicate, refl, sym, ap, ap₂, subst, ◌∙◌, inl, inr, arith, append_assoc, length-append}
use Rattle.std.specs.Prelude.{not, nat_lt, ◌⊎◌, slice_get, slice_index, slice_set}
use Rattle.std.specs.List.{concat, AllByRecursion}
use Rattle.std.proofs.Math.Seq.{take-add}
use Rattle.std.proofs.lemmas.Bool.{cond_both, ltb-true, eqb-true, and_parts, not-false, lt-ltb, eq-eqb, and_from, both_ways, cases_order, cases_eq}
use Rattle.std.proofs.lemmas.List.{take_all, take-append-le, append-nil, get_or-set_same, get_or-set_other, length-set, length-take, length-drop, length-replicate}
use Rattle.sha2.specs.Sha256.{sha256}
use Rattle.component_package.specs.declared.manifest.Manifest.{Manifest}
use Rattle.component_package.specs.packages.Manifest.{IsManifest}
use Rattle.component_package.specs.packages.Reading.{list_of}
use Rattle.component_package.proofs.Lists.{list_of_more, all_more, all_at}
use Rattle.spread_core.specs.declared.message.Message.{Message}
use Rattle.spread_core.specs.declared.message.Message.TheVariants.{Advert, Ask, Offer, Data, Tick}
use Rattle.spread_core.specs.declared.node.Node.{Node}
use Rattle.spread_core.specs.declared.node.Step.{Step}
use Rattle.spread_core.specs.declared.node.Step.TheVariants.{Nothing, Send, Take, Store, Fetch}
use Rattle.spread_core.specs.Sets.{has, with_bit}
use Rattle.spread_core.specs.Hearing.{IsNoManifest, OffersRelease, entry_at, length_at, pages_at, is_page, is_had, is_full, missing_pages, heard, taken_node, checked_node}
use Rattle.spread_core.specs.MessageFrames.{IsMessage, HasRoom}
use Rattle.spread_core.specs.World.{Published, IsCatalogue, Peer, World, Event, Publishes, Ticks, Hears, package_of, page_of, no_release, release_at, holder, newcomer, stored_bytes, has_digest, with_page, checked_peer, fetched_page, does, hears, after, beginning, world_after}
use Rattle.spread_core.specs.Laws.{TakesPart, IsPageOf, IsComponentOf, IsRight, SpreadingIsRight}
use Rattle.spread_core.specs.Causes.{SendsFor, StoresFor, FetchesFor, IsCalledFor}
use Rattle.spread_core.proofs.SetLemmas.{has-with_other, none_has, has-set_of, empty-set_of}
use Rattle.spread_core.proofs.Steps.{called_for}

-- ---- lists

pub all_set : {X : Type 0} (P : X → Type 0) (xs : List X) (i : ℕ) (x : X) → AllByRecursion P xs → P x → AllByRecursion P (slice_set xs i x)
all_set P [] i x all here = tt
all_set P (y ∷ ys) zero x all here = (here, all.1)
all_set P (y ∷ ys) (suc i) x all here = (all.0, all_set P ys i x all.1 here)

pub all_replicate : {X : Type 0} (P : X → Type 0) (n : ℕ) (x : X) → P x → AllByRecursion P (replicate n x)
all_replicate P zero x here = tt
all_replicate P (suc n) x here = (here, all_replicate P n x here)

concat_last : (xss : List (List ℕ)) (ys : List ℕ) → concat (xss ++ ys ∷ []) ≡ concat xss ++ ys
concat_last [] ys = append-nil ys
concat_last (xs ∷ xss) ys = ap (λ (z : List ℕ). xs ++ z) (concat_last xss ys) ∙ sym (append_assoc xs (concat xss) ys)

-- lists of equal cells
list_of_same : {X : Type 0} (f g : ℕ → X) (n : ℕ) → ((i : ℕ) → i < n → f i ≡ g i) → list_of f n ≡ list_of g n
list_of_same f g zero same = refl
list_of_same {X} f g (suc n) same =
    list_of_more f n ∙ ap₂ (λ (xs : List X) (x : X). xs ++ x ∷ []) (list_of_same f g n (λ i lt. same i (omega arith))) (same n (omega arith)) ∙ sym (list_of_more g n)

-- the pages of a package, joined
joined : (b : List ℕ) (n : ℕ) → concat (list_of (page_of b) n) ≡ take (256 * n) b
joined b zero = refl
joined b (suc n) =
    let next : 256 * suc n ≡ 256 * n + 256 = omega arith in
    ap concat (list_of_more (page_of b) n) ∙ concat_last (list_of (page_of b) n) (page_of b n) ∙ ap (λ (x : List ℕ). x ++ page_of b n) (joined b n)
    ∙ sym (ap (λ (k : ℕ). take k b) next ∙ take-add (256 * n) 256 b)

-- ---- the catalogue

-- a number is one release's at most
same_place : (c : List Published) (i j : ℕ) → IsCatalogue c → i < length c → j < length c → (release_at c i).manifest.release ≡ (release_at c j).manifest.release → i ≡ j
same_place c i j is li lj e =
    elim (cases_order i j) [
      | inl same ↦ same
      | inr (inl lt) ↦ absurd (omega (arith, is.rise i j lt lj, e))
      | inr (inr gt) ↦ absurd (omega (arith, is.rise j i gt li, e))
    ]

-- ---- what is honest

record IsHonestPage (c : List Published) (r k p n : ℕ) (b : List ℕ) : Type 0 where
  pub place : ℕ
  pub within : place < length c
  pub release : r ≡ (release_at c place).manifest.release
  pub bytes : take n b ≡ page_of (package_of (release_at c place) k) p
  pub some : 1 ≤ n
  pub most : n ≤ 256
  pub room : length b ≡ 256

abbrev IsHonest : List Published → Message → Type 0
IsHonest c (Offer m) = TakesPart c m
IsHonest c (Data r k p n b) = IsHonestPage c r k p n b
IsHonest c (Advert r w) = Unit {0}
IsHonest c (Ask r k pages) = Unit {0}
IsHonest c Tick = Unit {0}

-- what a node stored of page p of component k is the catalogue's where it was stored, or the component is whole
abbrev ArePages : List Published → Peer → Type 0
ArePages c x = (j : ℕ) → j < length c → x.node.manifest ≡ (release_at c j).manifest → (k p : ℕ) → k < x.node.manifest.count → is_page x.node.manifest k p ≡ true
    → (has x.node.whole k ≡ true) ⊎ (is_had x.node k p ≡ true) → x.pages k p ≡ page_of (package_of (release_at c j) k) p

record IsFaithful (c : List Published) (x : Peer) : Type 0 where
  pub room : length x.node.have ≡ 16
  pub manifest : IsNoManifest x.node.manifest ⊎ TakesPart c x.node.manifest
  pub pages : ArePages c x
  pub listed : (k : ℕ) → has x.node.whole k ≡ true → k < x.node.manifest.count

record IsHonestWorld (c : List Published) (w : World) : Type 0 where
  pub sent : AllByRecursion (IsHonest c) w.sent
  pub peers : AllByRecursion (IsFaithful c) w.peers

-- a node with a component takes part in a release
takes_part : (c : List Published) (x : Peer) (k : ℕ) → IsFaithful c x → k < x.node.manifest.count → TakesPart c x.node.manifest
takes_part c x k is lt = elim is.manifest [ inl e ↦ absurd (omega (arith, e.1, lt)) | inr t ↦ t ]

-- a page that a node stores is that of its own release
stored_page : (c : List Published) (x : Peer) (m : Message) (k p n : ℕ) (b : List ℕ) → IsCatalogue c → IsFaithful c x → IsHonest c m → StoresFor x.node m k p n b → IsPageOf c x.node.manifest k p (take n b)
stored_page c x m k p n b is faithful honest s =
    let t = takes_part c x k faithful s.listed in
    let h : IsHonestPage c x.node.manifest.release k p n b = subst (IsHonest c) s.message honest in
    let same : h.place ≡ t.place = same_place c h.place t.place is h.within t.within (sym h.release ∙ ap (λ (q : Manifest). q.release) t.manifest) in
    record {
      place = t.place;
      within = t.within;
      manifest = t.manifest;
      component = s.listed;
      page = s.page;
      bytes = h.bytes ∙ ap (λ (i : ℕ). page_of (package_of (release_at c i) k) p) same;
    }

-- ---- what becomes of a node stays faithful

-- the catalogue's manifests have 16 entries at most
few : (c : List Published) (x : Peer) (k : ℕ) → IsCatalogue c → IsFaithful c x → k < x.node.manifest.count → k < 16
few c x k is faithful lt =
    let t = takes_part c x k faithful lt in
    let most = (is.each t.place t.within).manifest.count in
    omega (arith, most, lt, ap (λ (q : Manifest). q.count) t.manifest)

zeros : (n k : ℕ) → slice_index (replicate n 0) k ≡ zero
zeros zero k = refl
zeros (suc n) zero = refl
zeros (suc n) (suc k) = zeros n k

-- where nothing is whole and nothing stored, nothing is claimed
no_pages : (c : List Published) (m : Manifest) (held : ℕ) (pages : ℕ → ℕ → List ℕ) → ArePages c (record { node = taken_node m held; pages = pages })
no_pages c m held pages j lj e k p lt page had =
    elim had [
      | inl w ↦ absurd (none_has k w)
      | inr h ↦ absurd (none_has p (subst (λ (s : ℕ). has s p ≡ true) (zeros 16 k) h))
    ]

taken_faithful : (c : List Published) (x : Peer) (m : Manifest) (held : ℕ) → TakesPart c m → IsFaithful c (record x { node = taken_node m held })
taken_faithful c x m held t = record { room = refl; manifest = inr t; pages = no_pages c m held x.pages; listed = λ k h. absurd (none_has k h) }

newcomer_faithful : (c : List Published) → IsFaithful c newcomer
newcomer_faithful c = record { room = refl; manifest = inl (refl, refl); pages = no_pages c no_release.manifest 0 (λ k p. []); listed = λ k h. absurd (none_has k h) }

holder_faithful : (c : List Published) (i : ℕ) → IsCatalogue c → i < length c → IsFaithful c (holder (release_at c i))
holder_faithful c i is lt = record {
  room = refl;
  manifest = inr (record { place = i; within = lt; manifest = refl });
  pages = λ j lj e k p l page had. ap (λ (n : ℕ). page_of (package_of (release_at c n) k) p) (same_place c i j is lt lj (ap (λ (q : Manifest). q.release) e));
  listed = λ k h.
      let n : ℕ = (release_at c i).manifest.count in
      ltb-true k n (and_parts (nat_lt k n) true (sym (has-set_of (λ k. true) n k) ∙ h)).0;
}

-- the cells of a list of sets with one cell set
had_here : (have : List ℕ) (k s p : ℕ) → k < length have → has (slice_index (slice_set have k s) k) p ≡ has s p
had_here have k s p lt = ap (λ (n : ℕ). has n p) (get_or-set_same have k s 0 lt)

had_there : (have : List ℕ) (k s i p : ℕ) → i ≢ k → has (slice_index (slice_set have k s) i) p ≡ has (slice_index have i) p
had_there have k s i p ne = ap (λ (n : ℕ). has n p) (get_or-set_other have k i s 0 ne)

-- a page more
page_faithful : (c : List Published) (x : Peer) (k p : ℕ) (b : List ℕ) → IsCatalogue c → IsFaithful c x → IsPageOf c x.node.manifest k p b → IsFaithful c (with_page x k p b)
page_faithful c x k p b is faithful page = record {
  room = length-set x.node.have k (with_bit (slice_index x.node.have k) p) ∙ faithful.room;
  manifest = faithful.manifest;
  pages = λ j lj e i q lt isp had.
      let small : k < 16 = few c x k is faithful page.component in
      let in_room : k < length x.node.have = omega (arith, faithful.room, small) in
      let target : List ℕ = page_of (package_of (release_at c j) i) q in
      cond_both ((i == k) && (q == p)) b (x.pages i q) (λ (y : List ℕ). y ≡ target)
      (λ same.
      let parts = and_parts (i == k) (q == p) same in
      let ik = eqb-true i k parts.0 in
      let qp = eqb-true q p parts.1 in
      let place = same_place c page.place j is page.within lj (ap (λ (m : Manifest). m.release) (sym page.manifest ∙ e)) in
      page.bytes ∙ ap (λ (n : ℕ). page_of (package_of (release_at c n) k) p) place ∙ ap₂ (λ (n l : ℕ). page_of (package_of (release_at c j) n) l) (sym ik) (sym qp))
      (λ other.
      let old : (has x.node.whole i ≡ true) ⊎ (is_had x.node i q ≡ true) =
      elim had [
        | inl w ↦ inl w
        | inr h ↦ inr (was_had x.node.have i q in_room other h)
      ] in
      faithful.pages j lj e i q lt isp old);
  listed = faithful.listed;
}
  where
    was_had : (have : List ℕ) (i q : ℕ) → k < length have → ((i == k) && (q == p)) ≡ false → has (slice_index (slice_set have k (with_bit (slice_index have k) p)) i) q ≡ true → has (slice_index have i) q ≡ true
    was_had have i q room other h =
        elim (cases_eq i k) [
          | inl same ↦
              let ne : q ≢ p = λ qp. both_ways ((i == k) && (q == p)) other (and_from (i == k) (q == p) (eq-eqb i k same) (eq-eqb q p qp)) in
              let at_k = subst (λ (n : ℕ). has (slice_index (slice_set have k (with_bit (slice_index have k) p)) n) q ≡ true) same h in
              subst (λ (n : ℕ). has (slice_index have n) q ≡ true) (sym same)
              (sym (has-with_other (slice_index have k) p q ne) ∙ sym (had_here have k (with_bit (slice_index have k) p) q room) ∙ at_k)
          | inr ne ↦ sym (had_there have k (with_bit (slice_index have k) p) i q ne) ∙ h
        ]

-- a component that is whole now had all its pages
whole_faithful : (c : List Published) (x : Peer) (k : ℕ) → IsFaithful c x → k < x.node.manifest.count → is_full x.node k ≡ true → IsFaithful c (record x { node = record (x.node) { whole = with_bit x.node.whole k } })
whole_faithful c x k faithful in_list full = record {
  room = faithful.room;
  manifest = faithful.manifest;
  pages = λ j lj e i q lt isp had.
      let none : missing_pages x.node k ≡ 0 = eqb-true (missing_pages x.node k) 0 full in
      let old : (has x.node.whole i ≡ true) ⊎ (is_had x.node i q ≡ true) =
      elim had [
        | inr h ↦ inr h
        | inl w ↦ elim (cases_eq i k) [
          | inr ne ↦ inl (sym (has-with_other x.node.whole k i ne) ∙ w)
          | inl same ↦
              let below : 256 * q < length_at x.node.manifest i = ltb-true (256 * q) (length_at x.node.manifest i) isp in
              let here : 256 * q < length_at x.node.manifest k = subst (λ (n : ℕ). 256 * q < length_at x.node.manifest n) same below in
              let counted : q < pages_at x.node.manifest k = omega (arith, here) in
              inr (subst (λ (n : ℕ). is_had x.node n q ≡ true) (sym same) (not-false (is_had x.node k q) (empty-set_of (λ p. not (is_had x.node k p)) (pages_at x.node.manifest k) q none counted)))
        ]
      ] in
      faithful.pages j lj e i q lt isp old;
  listed = λ i h. elim (cases_eq i k) [ inl same ↦ omega (arith, in_list, same) | inr ne ↦ faithful.listed i (sym (has-with_other x.node.whole k i ne) ∙ h) ];
}

-- of a component that isn't good nothing is claimed
cleared_faithful : (c : List Published) (x : Peer) (k : ℕ) → IsFaithful c x → k < 16 → IsFaithful c (record x { node = record (x.node) { have = slice_set x.node.have k 0 } })
cleared_faithful c x k faithful small = record {
  room = length-set x.node.have k 0 ∙ faithful.room;
  manifest = faithful.manifest;
  pages = λ j lj e i q lt isp had.
      let in_room : k < length x.node.have = omega (arith, faithful.room, small) in
      let old : (has x.node.whole i ≡ true) ⊎ (is_had x.node i q ≡ true) =
      elim had [
        | inl w ↦ inl w
        | inr h ↦ elim (cases_eq i k) [
          | inr ne ↦ inr (sym (had_there x.node.have k 0 i q ne) ∙ h)
          | inl same ↦
              let at_k = subst (λ (n : ℕ). has (slice_index (slice_set x.node.have k 0) n) q ≡ true) same h in
              absurd (none_has q (sym (had_here x.node.have k 0 q in_room) ∙ at_k))
        ]
      ] in
      faithful.pages j lj e i q lt isp old;
  listed = faithful.listed;
}

checked_faithful : (c : List Published) (x : Peer) (k : ℕ) → IsFaithful c x → k < x.node.manifest.count → k < 16 → IsFaithful c (checked_peer x k)
checked_faithful c x k faithful in_list small =
    let good : Bool = has_digest x k in
    cond_both (is_full x.node k) (record x { node = checked_node x.node k good }) x (IsFaithful c)
    (λ full. cond_both good (record (x.node) { whole = with_bit x.node.whole k }) (record (x.node) { have = slice_set x.node.have k 0 }) (λ (n : Node). IsFaithful c (record x { node = n }))
    (λ e. whole_faithful c x k faithful in_list full)
    (λ e. cleared_faithful c x k faithful small))
    (λ e. faithful)

-- ---- each step keeps a world honest

sent_honest : (c : List Published) (x : Peer) (m s : Message) → IsFaithful c x → SendsFor x.node m s → IsHonest c s
sent_honest c x m (Offer t) is e = elim is.manifest [ inl none ↦ absurd (omega (arith, none.0, e.some)) | inr part ↦ subst (TakesPart c) (sym e.manifest) part ]
sent_honest c x m (Data r k p l b) is e = absurd e
sent_honest c x m (Advert r w) is e = tt
sent_honest c x m (Ask r k pages) is e = tt
sent_honest c x m Tick is e = tt

fetched_right : (c : List Published) (x : Peer) (m : Message) (k p : ℕ) → IsFaithful c x → FetchesFor x.node m k p → IsPageOf c x.node.manifest k p (x.pages k p)
fetched_right c x m k p is f =
    let t = takes_part c x k is f.listed in
    record { place = t.place; within = t.within; manifest = t.manifest; component = f.listed; page = f.page; bytes = is.pages t.place t.within t.manifest k p f.listed f.page (inl f.whole) }

-- a page of a package has 1 to 256 bytes
page_size : (c : List Published) (m : Manifest) (k p : ℕ) (b : List ℕ) → IsCatalogue c → IsPageOf c m k p b → (1 ≤ length b) × (length b ≤ 256)
page_size c m k p b is t =
    let e : Published = release_at c t.place in
    let whole : List ℕ = package_of e k in
    let listed : k < e.manifest.count = omega (arith, t.component, ap (λ (q : Manifest). q.count) t.manifest) in
    let long : length whole ≡ length_at m k = (is.each t.place t.within).lengths k listed ∙ sym (ap (λ (q : Manifest). length_at q k) t.manifest) in
    let inside : 256 * p < length_at m k = ltb-true (256 * p) (length_at m k) t.page in
    let size : length b ≡ min 256 (length whole - 256 * p) = ap length t.bytes ∙ length-take 256 (drop (256 * p) whole) ∙ ap (min 256) (length-drop (256 * p) whole) in
    (omega (arith, size, long, inside), omega (arith, size))

fetched_honest : (c : List Published) (x : Peer) (m : Message) (k p : ℕ) → IsCatalogue c → IsFaithful c x → FetchesFor x.node m k p → IsHonest c (fetched_page x k p)
fetched_honest c x m k p is faithful f =
    let t = fetched_right c x m k p faithful f in
    let b : List ℕ = x.pages k p in
    let rest : List ℕ = replicate (256 - length b) 255 in
    let size = page_size c x.node.manifest k p b is t in
    record {
      place = t.place;
      within = t.within;
      release = ap (λ (q : Manifest). q.release) t.manifest;
      bytes = take-append-le (length b) b rest (omega arith) ∙ take_all (length b) b (omega arith) ∙ t.bytes;
      some = size.0;
      most = size.1;
      room = length-append b rest ∙ omega (arith, size.1, length-replicate {A = ℕ} (256 - length b) 255);
    }

does_keeps : (c : List Published) (w : World) (i held : ℕ) (x : Peer) (m : Message) (s : Step) → IsCatalogue c → IsHonestWorld c w → IsFaithful c x → IsHonest c m → IsCalledFor x.node m s → IsHonestWorld c (does w i held x s)
does_keeps c w i held x m Nothing is honest faithful hm says = honest
does_keeps c w i held x m (Send s) is honest faithful hm says = record { sent = all_more (IsHonest c) w.sent s honest.sent (sent_honest c x m s faithful says); peers = honest.peers }
does_keeps c w i held x m (Take t) is honest faithful hm says =
    let y : Peer = record x { node = taken_node t held } in
    record { sent = honest.sent; peers = all_set (IsFaithful c) w.peers i y honest.peers (taken_faithful c x t held (subst (IsHonest c) says.message hm)) }
does_keeps c w i held x m (Store k p n b) is honest faithful hm says =
    let page = stored_page c x m k p n b is faithful hm says in
    let y : Peer = with_page x k p (take n b) in
    let step = checked_faithful c y k (page_faithful c x k p (take n b) is faithful page) says.listed (few c x k is faithful says.listed) in
    record { sent = honest.sent; peers = all_set (IsFaithful c) w.peers i (checked_peer y k) honest.peers step }
does_keeps c w i held x m (Fetch k p) is honest faithful hm says =
    record { sent = all_more (IsHonest c) w.sent (fetched_page x k p) honest.sent (fetched_honest c x m k p is faithful says); peers = honest.peers }

hears_keeps : (c : List Published) (w : World) (i held : ℕ) (o : Option Peer) (r : Option Message) → IsCatalogue c → IsHonestWorld c w
    → ((x : Peer) → o ≡ Some x → IsFaithful c x) → ((m : Message) → r ≡ Some m → IsHonest c m) → IsHonestWorld c (hears w i held o r)
hears_keeps c w i held None r is honest f h = honest
hears_keeps c w i held (Some x) None is honest f h = honest
hears_keeps c w i held (Some x) (Some m) is honest f h = does_keeps c w i held x m (heard x.node m) is honest (f x refl) (h m refl) (called_for x.node m)

after_keeps : (c : List Published) (w : World) (e : Event) → IsCatalogue c → IsHonestWorld c w → IsHonestWorld c (after c w e)
after_keeps c w Publishes is honest =
    let next : ℕ = w.published + 1 in
    cond_both (nat_lt next (length c)) (record w { published = next; peers = slice_set w.peers 0 (holder (release_at c next)) }) w (IsHonestWorld c)
    (λ lt. record { sent = honest.sent; peers = all_set (IsFaithful c) w.peers 0 (holder (release_at c next)) honest.peers (holder_faithful c next is (ltb-true next (length c) lt)) })
    (λ e. honest)
after_keeps c w (Ticks i) is honest = hears_keeps c w i 0 (slice_get w.peers i) (Some Tick) is honest (λ x e. all_at (IsFaithful c) w.peers i x honest.peers e) (λ m e. subst (IsHonest c) (tick_is m e) tt)
  where
    tick_is : (m : Message) → Some Tick ≡ Some m → Tick ≡ m
    tick_is m e = cc
after_keeps c w (Hears i k held) is honest =
    hears_keeps c w i held (slice_get w.peers i) (slice_get w.sent k) is honest (λ x e. all_at (IsFaithful c) w.peers i x honest.peers e) (λ m e. all_at (IsHonest c) w.sent k m honest.sent e)

world_honest : (c : List Published) (w : World) (es : List Event) → IsCatalogue c → IsHonestWorld c w → IsHonestWorld c (world_after c w es)
world_honest c w [] is honest = honest
world_honest c w (e ∷ es) is honest = world_honest c (after c w e) es is (after_keeps c w e is honest)

beginning_honest : (c : List Published) (i others : ℕ) → IsCatalogue c → i < length c → IsHonestWorld c (beginning c i others)
beginning_honest c i others is lt = record { sent = tt; peers = (holder_faithful c i is lt, all_replicate (IsFaithful c) others newcomer (newcomer_faithful c)) }

-- ---- an honest world is right

honest_offered : (c : List Published) (m : Message) → IsCatalogue c → IsHonest c m → OffersRelease m
honest_offered c (Offer m) is t = subst IsManifest (sym t.manifest) (is.each t.place t.within).manifest
honest_offered c (Data r k p n b) is h = tt
honest_offered c (Advert r w) is h = tt
honest_offered c (Ask r k pages) is h = tt
honest_offered c Tick is h = tt

honest_message : (c : List Published) (m : Message) → IsCatalogue c → IsHonest c m → IsMessage m × HasRoom m
honest_message c (Offer m) is t = (honest_offered c (Offer m) is t, tt)
honest_message c (Data r k p n b) is h = ((h.some, h.most), h.room)
honest_message c (Advert r w) is h = (tt, tt)
honest_message c (Ask r k pages) is h = (tt, tt)
honest_message c Tick is h = (tt, tt)

component_right : (c : List Published) (x : Peer) (k : ℕ) → IsCatalogue c → IsFaithful c x → has x.node.whole k ≡ true → IsComponentOf c x k
component_right c x k is faithful whole =
    let lt : k < x.node.manifest.count = faithful.listed k whole in
    let t = takes_part c x k faithful lt in
    let e : Published = release_at c t.place in
    let published = is.each t.place t.within in
    let listed : k < e.manifest.count = omega (arith, lt, ap (λ (q : Manifest). q.count) t.manifest) in
    let b : List ℕ = package_of e k in
    let n : ℕ = pages_at x.node.manifest k in
    let long : length b ≡ length_at x.node.manifest k = published.lengths k listed ∙ sym (ap (λ (q : Manifest). length_at q k) t.manifest) in
    let cells = list_of_same (x.pages k) (page_of b) n (λ q l. faithful.pages t.place t.within t.manifest k q lt (lt-ltb (256 * q) (length_at x.node.manifest k) (omega (arith, l))) (inl whole)) in
    let bytes : stored_bytes x k ≡ b = ap concat cells ∙ joined b n ∙ take_all (256 * n) b (omega (arith, long)) in
    record {
      component = lt;
      digest = ap sha256 bytes ∙ published.digests k listed ∙ sym (ap (λ (q : Manifest). (entry_at q k).digest) t.manifest);
      place = t.place;
      within = t.within;
      manifest = t.manifest;
      bytes = bytes;
    }

honest_right : (c : List Published) (w : World) → IsCatalogue c → IsHonestWorld c w → IsRight c w
honest_right c w is honest = record {
  stores = λ i j x m k p n b ex em e.
      stored_page c x m k p n b is (all_at (IsFaithful c) w.peers i x honest.peers ex) (all_at (IsHonest c) w.sent j m honest.sent em) (subst (IsCalledFor x.node m) e (called_for x.node m));
  fetches = λ i j x m k p ex em e. fetched_right c x m k p (all_at (IsFaithful c) w.peers i x honest.peers ex) (subst (IsCalledFor x.node m) e (called_for x.node m));
  offers = λ j m em. all_at (IsHonest c) w.sent j (Offer m) honest.sent em;
  whole = λ i x k ex whole. component_right c x k is (all_at (IsFaithful c) w.peers i x honest.peers ex) whole;
  manifests = λ i x ex.
      elim (all_at (IsFaithful c) w.peers i x honest.peers ex).manifest [
        | inl none ↦ inl none
        | inr t ↦ inr (subst IsManifest (sym t.manifest) (is.each t.place t.within).manifest)
      ];
  messages = λ j m em. honest_message c m is (all_at (IsHonest c) w.sent j m honest.sent em);
  offered = λ j m em. honest_offered c m is (all_at (IsHonest c) w.sent j m honest.sent em);
}

pub spreading_is_right : SpreadingIsRight
spreading_is_right c is i others lt es =
    let w : World = beginning c i others in
    honest_right c (world_after c w es) is (world_honest c w es is (beginning_honest c i others is lt))
