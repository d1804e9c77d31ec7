-- What pages hold after a page is changed.
use Rattle.std.proofs.Common.{set, false, ◌≡◌, zero, suc, ◌+◌, ◌-◌, ◌≤◌, ◌∷◌, take, drop, ◌≢◌, inl, inr, Bool, true, sym, ◌∙◌, ap, subst, ℕ, ◌<◌, List, [], refl, replicate, All, slice_index, arith, length-set, get_or-set_same, get_or-set_other}
use Rattle.std.proofs.lemmas.List.Elements.{All-set}
use Rattle.std.proofs.lemmas.Bool.{false≢true, cases_lt}
use Rattle.std.proofs.lemmas.List.{set-get_or, drop-set-lt, drop-set-add, take-set-le, get_or-replicate, length-replicate, get_or_past}
use Rattle.flash_pages.specs.State.{State, Place, Prog, Ext, IsPage, IsState, MayHold, OnlyPages, page_at, with_page, area}

-- a page that is set to what it holds changes nothing
pub with_page-same : (s : State) (place : Place) → with_page s place (page_at s place) ≡ s
with_page-same s (Prog page) = λ i. record s { prog = set-get_or s.prog page [] i }
with_page-same s (Ext page) = λ i. record s { ext = set-get_or s.ext page [] i }

-- a page of the external flash holds what it was set to
pub page_at-with_page : (s : State) (page : ℕ) (bytes : List ℕ) → IsState s → page < 2048 → page_at (with_page s (Ext page) bytes) (Ext page) ≡ bytes
page_at-with_page s page bytes sizes within = get_or-set_same s.ext page bytes [] (omega (arith, sizes.ext))

-- another page of the external flash holds what it held
pub page_at-other : (s : State) (page other : ℕ) (bytes : List ℕ) → other ≢ page → page_at (with_page s (Ext page) bytes) (Ext other) ≡ page_at s (Ext other)
page_at-other s page other bytes apart = get_or-set_other s.ext page other bytes [] apart

-- a state with a page set to a page is a state
pub sizes_kept : (s : State) (place : Place) (bytes : List ℕ) → IsPage bytes → IsState s → IsState (with_page s place bytes)
sizes_kept s (Prog page) bytes whole sizes = record { prog = omega (arith, length-set s.prog page bytes, sizes.prog); ext = sizes.ext; prog_pages = All-set IsPage s.prog page bytes whole sizes.prog_pages; ext_pages = sizes.ext_pages; sent = sizes.sent }
sizes_kept s (Ext page) bytes whole sizes = record { prog = sizes.prog; ext = omega (arith, length-set s.ext page bytes, sizes.ext); prog_pages = sizes.prog_pages; ext_pages = All-set IsPage s.ext page bytes whole sizes.ext_pages; sent = sizes.sent }

-- another page of either flash holds what it held
pub page_at-apart : (s : State) (place other : Place) (bytes : List ℕ) → other ≢ place → page_at (with_page s place bytes) other ≡ page_at s other
page_at-apart s (Prog page) (Prog p) bytes apart = get_or-set_other s.prog page p bytes [] (λ e. apart (ap Prog e))
page_at-apart s (Ext page) (Ext p) bytes apart = get_or-set_other s.ext page p bytes [] (λ e. apart (ap Ext e))
page_at-apart s (Prog page) (Ext p) bytes apart = refl
page_at-apart s (Ext page) (Prog p) bytes apart = refl

-- a page that is set changes nothing that was sent
pub sent_kept : (s : State) (place : Place) (bytes : List ℕ) → (with_page s place bytes).sent ≡ s.sent
sent_kept s (Prog page) bytes = refl
sent_kept s (Ext page) bytes = refl

-- at first no page has changed
pub only_starts : (may : Place → Bool) (s : State) → OnlyPages may s s
only_starts may s = record { sent = refl; page = λ place no. refl }

-- a program of a page that may change, after a run that changed only such pages
pub only_programs : (may : Place → Bool) (needed : State → Type 0) (place : Place) (s t y : State) → OnlyPages may s t → may place ≡ true → MayHold needed place t y → OnlyPages may s y
only_programs may needed place s t y only allowed (inl same) = subst (OnlyPages may s) (sym same) only
only_programs may needed place s t y only allowed (inr spoilt) = subst (OnlyPages may s) (sym spoilt.1.is) (record {
  sent = sent_kept t place spoilt.1.bytes ∙ only.sent;
  page = λ other no. page_at-apart t place other spoilt.1.bytes (λ same. false≢true (sym no ∙ ap may same ∙ allowed)) ∙ only.page other no;
})

-- a page before an area is set, and the area stays as it is
pub area-before : (first count : ℕ) (s : State) (page : ℕ) (bytes : List ℕ) → page < first → area first count (with_page s (Ext page) bytes) ≡ area first count s
area-before first count s page bytes before = ap (λ (l : List (List ℕ)). take count l) (drop-set-lt first s.ext page bytes before)

-- the list from n on, after a place behind n is set
drop_set : (n : ℕ) (l : List (List ℕ)) (page i : ℕ) (bytes : List ℕ) → page ≡ n + i → drop n (set l page bytes) ≡ set (drop n l) i bytes
drop_set n l page i bytes is = ap (λ p. drop n (set l p bytes)) is ∙ drop-set-add n l i bytes

-- the first n of a list, after one of them is set
take_set : (n : ℕ) (l : List (List ℕ)) (i : ℕ) (bytes : List ℕ) → i < n → take n (set l i bytes) ≡ set (take n l) i bytes
take_set zero l i bytes within = absurd (omega arith)
take_set (suc n) [] i bytes within = refl
take_set (suc n) (x ∷ l) zero bytes within = refl
take_set (suc n) (x ∷ l) (suc i) bytes within = ap (λ (k : List (List ℕ)). x ∷ k) (take_set n l i bytes (omega arith))

-- a page behind an area is set, and the area stays as it is
pub area-behind : (first count : ℕ) (s : State) (page : ℕ) (bytes : List ℕ) → first + count ≤ page → area first count (with_page s (Ext page) bytes) ≡ area first count s
area-behind first count s page bytes behind =
    ap (λ (l : List (List ℕ)). take count l) (drop_set first s.ext page (page - first) bytes (omega arith))
    ∙ take-set-le count (drop first s.ext) (page - first) bytes (omega arith)

-- a page of an area is set, and so is that page of the area
pub area-within : (first count : ℕ) (s : State) (page : ℕ) (bytes : List ℕ) → first ≤ page → page < first + count → area first count (with_page s (Ext page) bytes) ≡ set (area first count s) (page - first) bytes
area-within first count s page bytes from to =
    ap (λ (l : List (List ℕ)). take count l) (drop_set first s.ext page (page - first) bytes (omega arith))
    ∙ take_set count (drop first s.ext) (page - first) bytes (omega arith)

-- only some pages changed, and then only more of them: only the more changed
pub only_only : (may more : Place → Bool) (s t x : State) → ((place : Place) → more place ≡ false → may place ≡ false) → OnlyPages may s t → OnlyPages more t x → OnlyPages more s x
only_only may more s t x wider first second = record {
  sent = second.sent ∙ first.sent;
  page = λ place no. second.page place no ∙ first.page place (wider place no);
}

-- each of so many zeros is a byte
zeros_below : (n i : ℕ) → slice_index (replicate n 0) i < 256
zeros_below n i = elim (cases_lt i n) [
  | inl within ↦ subst (λ m. m < 256) (sym (get_or-replicate n i 0 0 within)) (omega arith)
  | inr past ↦ subst (λ m. m < 256) (sym (get_or_past (replicate n 0) i 0 (subst (λ m. m ≤ i) (sym (length-replicate n 0)) past))) (omega arith)
]

-- a page of zeros is a page
zeros_are_page : IsPage (replicate 256 0)
zeros_are_page = (refl, λ i. zeros_below 256 i)

-- so many pages of zeros are pages
pub zeros_are_pages : (n : ℕ) → All IsPage (replicate n (replicate 256 0))
zeros_are_pages n k d lt = subst IsPage (sym (get_or-replicate n k (replicate 256 0) d (subst (λ m. k < m) (length-replicate n (replicate 256 0)) lt))) zeros_are_page
