-- What a node's step says of the node and the message.
use Rattle.std.proofs.Common.{◌≡◌, ℕ, ◌*◌, ◌<◌, ◌==◌, ◌&&◌, ◌∙◌, Bool, true, false, cond, Some, List, refl, sym, ap, ap₂, subst, inl, inr, arith}
use Rattle.std.specs.Prelude.{not, nat_lt, ◌↔◌, IsTrue}
use Rattle.std.specs.Option.{option_map_or}
use Rattle.std.proofs.lemmas.Bool.{cond_both, and_parts, ltb-true, eqb-true, lt-ltb, eq-eqb, not-false, not-true, not_from_true, false≢true, cases_order}
use Rattle.component_package.specs.declared.manifest.Manifest.{Manifest}
use Rattle.component_package.specs.packages.Manifest.{IsManifest}
use Rattle.spread_core.specs.declared.message.Message.{Message}
use Rattle.spread_core.specs.declared.message.Message.TheVariants.{Advert, Ask, Offer, Data, Tick}
use Rattle.spread_core.specs.declared.node.Node.{Node}
use Rattle.spread_core.specs.declared.node.Step.{Step}
use Rattle.spread_core.specs.declared.node.Step.TheVariants.{Nothing, Send, Take, Store, Fetch}
use Rattle.spread_core.specs.Sets.{has}
use Rattle.spread_core.specs.Hearing.{IsNodeManifest, OffersRelease, length_at, pages_at, is_page, page_length, is_wanted, is_had, missing_pages, is_full, advert_of, ask_for, first_wanted, first_page, hears_advert, hears_ask_for, hears_ask, hears_offer, is_new, hears_data, heard}
use Rattle.spread_core.specs.MessageFrames.{IsMessage}
use Rattle.spread_core.specs.Causes.{AsksForMore, SendsFor, IsCalledFor, MayBeDone}
use Rattle.spread_core.proofs.SetLemmas.{has-set_of, empty-set_of, set_of-empty, least_found, option_both}

-- a component is full exactly where each of its pages is had
pub full_where : (n : Node) (k : ℕ) → IsTrue (is_full n k) ↔ ((p : ℕ) → p < pages_at n.manifest k → IsTrue (is_had n k p))
full_where n k = (each, full)
  where
    each : is_full n k ≡ true → (p : ℕ) → p < pages_at n.manifest k → is_had n k p ≡ true
    each e p lt = not-false (is_had n k p) (empty-set_of (λ p. not (is_had n k p)) (pages_at n.manifest k) p (eqb-true (missing_pages n k) 0 e) lt)

    full : ((p : ℕ) → p < pages_at n.manifest k → is_had n k p ≡ true) → is_full n k ≡ true
    full had = eq-eqb (missing_pages n k) 0 (set_of-empty (λ p. not (is_had n k p)) (pages_at n.manifest k) (λ p lt. not_from_true (is_had n k p) (had p lt)))

-- neither above nor below is equal
neither : (a b : ℕ) → nat_lt a b ≡ false → nat_lt b a ≡ false → b ≡ a
neither a b p q =
    elim (cases_order a b) [
      | inl e ↦ sym e
      | inr (inl l) ↦ absurd (false≢true (sym p ∙ lt-ltb a b l))
      | inr (inr g) ↦ absurd (false≢true (sym q ∙ lt-ltb b a g))
    ]

asks_for : (n : Node) (r w k : ℕ) → r ≡ n.manifest.release → first_wanted n w ≡ Some k → AsksForMore n (Advert r w) n.manifest.release k (missing_pages n k)
asks_for n r w k same found =
    let f = least_found (λ k. has w k && is_wanted n k) n.manifest.count k found in
    let parts = and_parts (has w k) (is_wanted n k) f.here in
    record {
      whole = w;
      message = ap (λ (x : ℕ). Advert x w) same;
      cause = inr (record {
        release = refl;
        listed = f.below;
        sender = parts.0;
        wanted = parts.1;
        first = f.first;
        pages = λ p. has-set_of (λ p. not (is_had n k p)) (pages_at n.manifest k) p;
      });
    }

says_advert : (n : Node) (r w : ℕ) → IsCalledFor n (Advert r w) (hears_advert n r w)
says_advert n r w =
    let P : Step → Type 0 = IsCalledFor n (Advert r w) in
    let asks : Step = option_map_or (λ (k : ℕ). Send (ask_for n k)) (first_wanted n w) Nothing in
    let own : Step = cond (nat_lt r n.manifest.release) (Send (advert_of n)) asks in
    cond_both (nat_lt n.manifest.release r) (Send (Ask r 255 0)) own P
    (λ e. record { whole = w; message = refl; cause = inl (record { later = ltb-true n.manifest.release r e; ordinal = refl; pages = refl }) })
    (λ e. cond_both (nat_lt r n.manifest.release) (Send (advert_of n)) asks P
    (λ d. record { release = refl; whole = refl; cause = inr (ltb-true r n.manifest.release d) })
    (λ d. option_both (first_wanted n w) (λ (k : ℕ). Send (ask_for n k)) Nothing P tt
    (λ k found. asks_for n r w k (neither n.manifest.release r e d) found)))

says_ask_for : (n : Node) (k pages : ℕ) → IsCalledFor n (Ask n.manifest.release k pages) (hears_ask_for n k pages)
says_ask_for n k pages =
    let P : Step → Type 0 = IsCalledFor n (Ask n.manifest.release k pages) in
    let fetch : Step = option_map_or (λ (p : ℕ). Fetch k p) (first_page n k pages) Nothing in
    cond_both (nat_lt k n.manifest.count && has n.whole k) fetch Nothing P
    (λ e.
    let parts = and_parts (nat_lt k n.manifest.count) (has n.whole k) e in
    option_both (first_page n k pages) (λ (p : ℕ). Fetch k p) Nothing P tt
    (λ p found.
    let f = least_found (has pages) (pages_at n.manifest k) p found in
    record {
      asked = pages;
      message = refl;
      listed = ltb-true k n.manifest.count parts.0;
      whole = parts.1;
      page = lt-ltb (256 * p) (length_at n.manifest k) (omega (arith, f.below));
      wanted = f.here;
      first = f.first;
    }))
    (λ e. tt)

says_ask : (n : Node) (r k pages : ℕ) → IsCalledFor n (Ask r k pages) (hears_ask n r k pages)
says_ask n r k pages =
    let P : Step → Type 0 = IsCalledFor n (Ask r k pages) in
    let offer : Step = Send (Offer n.manifest) in
    let inner : Step = cond (nat_lt 0 r && k == 255) offer (hears_ask_for n k pages) in
    cond_both (not (r == n.manifest.release)) Nothing inner P (λ e. tt)
    (λ differs.
    let same : r ≡ n.manifest.release = eqb-true r n.manifest.release (not-false (r == n.manifest.release) differs) in
    cond_both (nat_lt 0 r && k == 255) offer (hears_ask_for n k pages) P
    (λ e.
    let parts = and_parts (nat_lt 0 r) (k == 255) e in
    record {
      manifest = refl;
      some = omega (arith, same, ltb-true 0 r parts.0);
      pages = pages;
      message = ap₂ (λ (x y : ℕ). Ask x y pages) same (eqb-true k 255 parts.1);
    })
    (λ e. subst (λ (x : ℕ). IsCalledFor n (Ask x k pages) (hears_ask_for n k pages)) (sym same) (says_ask_for n k pages)))

says_offer : (n : Node) (m : Manifest) → IsCalledFor n (Offer m) (hears_offer n m)
says_offer n m =
    cond_both (nat_lt n.manifest.release m.release) (Take m) Nothing (IsCalledFor n (Offer m))
    (λ e. record { message = refl; later = ltb-true n.manifest.release m.release e })
    (λ e. tt)

says_data : (n : Node) (r k p l : ℕ) (b : List ℕ) → IsCalledFor n (Data r k p l b) (hears_data n r k p l b)
says_data n r k p l b =
    let same : Bool = r == n.manifest.release in
    let listed : Bool = nat_lt k n.manifest.count in
    let page : Bool = is_page n.manifest k p in
    let new : Bool = not (is_had n k p) in
    let whole : Bool = l == page_length n.manifest k p in
    cond_both (is_new n r k p l) (Store k p l b) Nothing (IsCalledFor n (Data r k p l b))
    (λ e.
    let e1 = and_parts ((((same && listed) && is_wanted n k) && page) && new) whole e in
    let e2 = and_parts (((same && listed) && is_wanted n k) && page) new e1.0 in
    let e3 = and_parts ((same && listed) && is_wanted n k) page e2.0 in
    let e4 = and_parts (same && listed) (is_wanted n k) e3.0 in
    let e5 = and_parts same listed e4.0 in
    record {
      message = ap (λ (x : ℕ). Data x k p l b) (eqb-true r n.manifest.release e5.0);
      listed = ltb-true k n.manifest.count e5.1;
      wanted = e4.1;
      page = e3.1;
      new = not-true (is_had n k p) e2.1;
      whole = eqb-true l (page_length n.manifest k p) e1.1;
    })
    (λ e. tt)

-- each step is called for
pub called_for : (n : Node) (m : Message) → IsCalledFor n m (heard n m)
called_for n Tick = record { release = refl; whole = refl; cause = inl refl }
called_for n (Advert r w) = says_advert n r w
called_for n (Ask r k pages) = says_ask n r k pages
called_for n (Offer m) = says_offer n m
called_for n (Data r k p l b) = says_data n r k p l b

-- what is called for may be done
sent_may_be_done : (n : Node) (m s : Message) → IsNodeManifest n.manifest → SendsFor n m s → IsMessage s
sent_may_be_done n m (Advert r w) is c = tt
sent_may_be_done n m (Ask r k s) is c = tt
sent_may_be_done n m (Offer t) is c = elim is [ inl none ↦ absurd (omega (arith, none.0, c.some)) | inr r ↦ subst IsManifest (sym c.manifest) r ]
sent_may_be_done n m (Data r k p l b) is c = absurd c
sent_may_be_done n m Tick is c = tt

step_may_be_done : (n : Node) (m : Message) (s : Step) → IsNodeManifest n.manifest → OffersRelease m → IsCalledFor n m s → MayBeDone n.manifest s
step_may_be_done n m Nothing is offers c = tt
step_may_be_done n m (Send s) is offers c = sent_may_be_done n m s is c
step_may_be_done n m (Take t) is offers c = subst OffersRelease c.message offers
step_may_be_done n m (Store k p l b) is offers c = record { listed = c.listed; page = c.page }
step_may_be_done n m (Fetch k p) is offers c = record { listed = c.listed; page = c.page }

pub may_be_done : (n : Node) (m : Message) → IsNodeManifest n.manifest → OffersRelease m → MayBeDone n.manifest (heard n m)
may_be_done n m is offers = step_may_be_done n m (heard n m) is offers (called_for n m)
