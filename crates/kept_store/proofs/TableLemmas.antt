-- Runs that are written into table slots.
use Rattle.std.proofs.Common.{◌≡◌, inl, inr, ℕ, zero, suc, ◌+◌, ◌-◌, ◌*◌, ◌<◌, ◌≤◌, Bool, true, cond, List, [], ◌∷◌, ◌++◌, length, take, drop, get_or, set, replicate, min, refl, sym, ap}
use Rattle.std.proofs.Common.{ap₂, subst, ◌∙◌, arith, length-append, append_assoc, Some}
use Rattle.std.specs.Prelude.{nat_le}
use Rattle.std.specs.List.{concat}
use Rattle.std.proofs.lemmas.Bool.{cases_Bool, cases_lt, le-leb, leb-true}
use Rattle.std.proofs.lemmas.Bool.Decides.{nat_tests}
use Rattle.std.proofs.lemmas.List.{take_all, drop_at, take_more, drop_more, set_at, length-take-le, length-take, length-drop, take-append-drop, get_or-append_right, get_or-drop, set-set}
use Rattle.std.proofs.lemmas.List.{set-get_or, get_or-set_same, append-nil}
use Rattle.std.proofs.lemmas.List.Folds.{concat-append}
use Rattle.std.proofs.lemmas.List.FromFn.{get_or-map-range_with_len, length-map-range_with_len}
use Rattle.std.proofs.lemmas.List.Elements.{All-take, All-drop}
use Rattle.std.proofs.Math.Seq.{take-append-add}
use Rattle.flash_pages.specs.State.{State, IsState, Place, Ext, MayHold, page_at, with_page}
use Rattle.flash_pages.specs.Board.{View}
use Rattle.flash_pages.proofs.Pages.{only_starts, only_programs, sizes_kept}
use Rattle.component_package.specs.declared.part.Header.{Header}
use Rattle.component_package.specs.packages.Reading.{header_of, total_of, exports_at, list_of}
use Rattle.component_package.proofs.Lists.{length-list_of, list_of_more}
use Rattle.component_package.proofs.StoredLemmas.{length-joined, take_further}
use Rattle.kept_definitions.specs.Runs.{run_length, run_in_package}
use Rattle.kept_definitions.specs.Kept.{slot_from, tables_of}
use Rattle.kept_definitions.specs.Sides.{Parts, parts_of}
use Rattle.kept_laws.proofs.Programs.{each_page_is_in_one_part}
use Rattle.kept_store.specs.Tables.{table_first, table_pages, inbox_slot, FitsSlot, run_page, pages_for, run_pages, with_pages, with_run, KeepsRun, OnlyTable, run_page_count}
use Rattle.kept_store.proofs.SlotBytes.{inbox_is, table_is}

-- ---- how long runs are

abbrev run_here : ℕ → State → List ℕ
run_here slot s = run_in_package (inbox_slot slot s)

-- an inbox slot has 39 pages
pub length-inbox : (s : State) → IsState s → (slot : ℕ) → slot < 16 → length (inbox_slot slot s) ≡ 9984
length-inbox s is slot low =
    let behind : List (List ℕ) = drop (786 + 39 * slot) s.ext in
    let pages : List (List ℕ) = take 39 behind in
    let all = All-take (λ (p : List ℕ). length p ≡ 256) 39 behind (All-drop (λ (p : List ℕ). length p ≡ 256) (786 + 39 * slot) s.ext (λ k d lt. (is.ext_pages k d lt).0)) in
    let count : length pages ≡ 39 = length-take-le 39 behind (omega (arith, length-drop (786 + 39 * slot) s.ext, is.ext)) in
    ap length (inbox_is s.ext slot low) ∙ length-joined pages all ∙ ap (λ (n : ℕ). 256 * n) count

-- so a package that fits it has a run as long as its header says
pub length-here : (s : State) → IsState s → (slot : ℕ) → slot < 16 → FitsSlot slot s → length (run_here slot s) ≡ run_length (header_of (inbox_slot slot s))
length-here s is slot low fits =
    let b : List ℕ = inbox_slot slot s in
    let h : Header = header_of b in
    let back : ℕ = total_of h - exports_at h in
    let size = length-inbox s is slot low in
    length-append (take 32 b) (take back (drop (exports_at h) b))
    ∙ omega (arith, length-take-le 32 b (omega (arith, size)), length-take-le back (drop (exports_at h) b) (omega (arith, length-drop (exports_at h) b, size, fits)), fits)

-- the pages that it takes
pub length-pages : (s : State) → IsState s → (slot : ℕ) → slot < 16 → FitsSlot slot s → length (run_pages slot s) ≡ pages_for (run_length (header_of (inbox_slot slot s)))
length-pages s is slot low fits = length-list_of (run_page (run_here slot s)) (pages_for (length (run_here slot s))) ∙ ap pages_for (length-here s is slot low fits)

pub few_pages : (s : State) → IsState s → (slot : ℕ) → slot < 16 → FitsSlot slot s → length (run_pages slot s) ≤ 39
few_pages s is slot low fits = omega (arith, length-pages s is slot low fits, fits)

pub page_here : (slot n : ℕ) (s : State) → n < length (run_pages slot s) → get_or (run_pages slot s) n [] ≡ run_page (run_here slot s) n
page_here slot n s lt =
    let count : ℕ = pages_for (length (run_here slot s)) in
    get_or-map-range_with_len (run_page (run_here slot s)) 0 count n n [] (omega (arith, lt, length-list_of (run_page (run_here slot s)) count)) (omega arith)

-- the rest of one number again and again
drop_same : (n m x : ℕ) → drop n (replicate m x) ≡ replicate (m - n) x
drop_same zero m x = let none : m ≡ m - 0 = omega arith in ap (λ (k : ℕ). replicate k x) none
drop_same (suc n) zero x = let none : 0 ≡ 0 - suc n = omega arith in ap (λ (k : ℕ). replicate k x) none
drop_same (suc n) (suc m) x = let less : m - n ≡ suc m - suc n = omega arith in drop_same n m x ∙ ap (λ (k : ℕ). replicate k x) less

-- a page of a run is its bytes and what is behind them
pub page_filled : (run a : List ℕ) (j n : ℕ) → n ≡ min (length run - 256 * j) 256 → a ≡ take n (drop (256 * j) run) → a ++ drop n (replicate 256 255) ≡ run_page run j
page_filled run a j n is_n is =
    let back : List ℕ = drop (256 * j) run in
    let part : List ℕ = take 256 back in
    let left : length back ≡ length run - 256 * j = length-drop (256 * j) run in
    let long : length part ≡ n = length-take 256 back ∙ omega (arith, left, is_n) in
    let same : take n back ≡ part =
    elim (cases_lt n 256) [
      | inl less ↦ take_all n back (omega (arith, left, is_n, less)) ∙ sym (take_all 256 back (omega (arith, left, is_n, less)))
      | inr not_less ↦ let all : n ≡ 256 = omega arith in ap (λ (k : ℕ). take k back) all
    ] in
    ap₂ (λ (u v : List ℕ). u ++ v) (is ∙ same) (drop_same n 256 255 ∙ ap (λ (k : ℕ). replicate (256 - k) 255) (sym long))

-- ---- a run in pages, joined

module _ (run : List ℕ) where
  -- one page more
  joined_more : (n : ℕ) → concat (list_of (run_page run) (suc n)) ≡ concat (list_of (run_page run) n) ++ run_page run n
  joined_more n =
      ap concat (list_of_more (run_page run) n) ∙ concat-append (list_of (run_page run) n) (run_page run n ∷ [])
      ∙ ap (λ (l : List ℕ). concat (list_of (run_page run) n) ++ l) (append-nil (run_page run n))

  -- pages that are full
  full : (n : ℕ) → 256 * n ≤ length run → concat (list_of (run_page run) n) ≡ take (256 * n) run
  full zero le = refl
  full (suc n) le =
      let part : List ℕ = take 256 (drop (256 * n) run) in
      let long : length part ≡ 256 = length-take-le 256 (drop (256 * n) run) (omega (arith, length-drop (256 * n) run)) in
      let none : 256 - length part ≡ 0 = omega (arith, long) in
      let page : run_page run n ≡ part = ap (λ (k : ℕ). part ++ replicate k 255) none ∙ append-nil part in
      let next : 256 * n + 256 ≡ 256 * suc n = omega arith in
      joined_more n ∙ ap₂ (λ (u v : List ℕ). u ++ v) (full n (omega arith)) page ∙ sym (take_further run (256 * n) 256) ∙ ap (λ (k : ℕ). take k run) next

  -- the last one isn't
  ends_in : (n : ℕ) → 256 * n ≤ length run → length run < 256 * suc n → concat (list_of (run_page run) (suc n)) ≡ run ++ replicate (256 - length (take 256 (drop (256 * n) run))) 255
  ends_in n le lt =
      let back : List ℕ = drop (256 * n) run in
      let fill : List ℕ = replicate (256 - length (take 256 back)) 255 in
      let all : take 256 back ≡ back = take_all 256 back (omega (arith, length-drop (256 * n) run)) in
      joined_more n ∙ ap₂ (λ (u v : List ℕ). u ++ (v ++ fill)) (full n le) all ∙ sym (append_assoc (take (256 * n) run) back fill) ∙ ap (λ (l : List ℕ). l ++ fill) (take-append-drop (256 * n) run)

  -- all of them
  pub joined : (m : ℕ) → m ≡ pages_for (length run) → (rest : List ℕ) × (concat (list_of (run_page run) m) ≡ run ++ rest)
  joined m is =
      elim (cases_lt (length run) (256 * m)) [
        | inl short ↦
            let one : m ≡ suc (m - 1) = omega arith in (
              replicate (256 - length (take 256 (drop (256 * (m - 1)) run))) 255,
              ap (λ (k : ℕ). concat (list_of (run_page run) k)) one ∙ ends_in (m - 1) (omega (arith, is, short)) (omega (arith, short)),
            )
        | inr whole ↦ ([], full m whole ∙ take_all (256 * m) run (omega (arith, is)) ∙ sym (append-nil run))
      ]

-- ---- states on the way

-- the first n pages of the run are written
abbrev pub wrote : ℕ → ℕ → State → State
wrote n slot s = record s { ext = (take (table_first slot) s.ext ++ take n (run_pages slot s)) ++ drop (table_first slot + n) s.ext }

pub wrote_none : (slot : ℕ) (s : State) → wrote 0 slot s ≡ s
wrote_none slot s = λ i. record s { ext = whole i }
  where
    whole : (take (table_first slot) s.ext ++ []) ++ drop (table_first slot + 0) s.ext ≡ s.ext
    whole =
        let at : table_first slot + 0 ≡ table_first slot = omega arith in
        ap₂ (λ (l : List (List ℕ)) (k : ℕ). l ++ drop k s.ext) (append-nil (take (table_first slot) s.ext)) at ∙ take-append-drop (table_first slot) s.ext

pub wrote_more : (n slot : ℕ) (s : State) → IsState s → slot < 16 → n < length (run_pages slot s) → n < 39
    → with_page (wrote n slot s) (Ext (table_first slot + n)) (get_or (run_pages slot s) n []) ≡ wrote (n + 1) slot s
wrote_more n slot s is low lt few = λ i. record s { ext = pages i }
  where
    pages : set ((take (table_first slot) s.ext ++ take n (run_pages slot s)) ++ drop (table_first slot + n) s.ext) (table_first slot + n) (get_or (run_pages slot s) n [])
        ≡ (take (table_first slot) s.ext ++ take (n + 1) (run_pages slot s)) ++ drop (table_first slot + (n + 1)) s.ext
    pages =
        let first : ℕ = table_first slot in
        let front : List (List ℕ) = take first s.ext in
        let runs : List (List ℕ) = run_pages slot s in
        let page : List ℕ = get_or runs n [] in
        let long : length (front ++ take n runs) ≡ first + n =
        length-append front (take n runs) ∙ omega (arith, length-take-le first s.ext (omega (arith, is.ext)), length-take-le n runs (omega (arith, lt))) in
        let next : first + n + 1 ≡ first + (n + 1) = omega arith in
        ap (λ (l : List (List ℕ)). set ((front ++ take n runs) ++ l) (first + n) page) (drop_more s.ext (first + n) [] (omega (arith, is.ext)))
        ∙ set_at (front ++ take n runs) (get_or s.ext (first + n) []) (drop (first + n + 1) s.ext) page (first + n) long
        ∙ sym (append_assoc (front ++ take n runs) (page ∷ []) (drop (first + n + 1) s.ext))
        ∙ ap₂ (λ (l : List (List ℕ)) (k : ℕ). l ++ drop k s.ext) (append_assoc front (take n runs) (page ∷ []) ∙ ap (λ (l : List (List ℕ)). front ++ l) (sym (take_more runs n [] lt))) next

-- all of them
pub wrote_all : (n slot : ℕ) (s : State) → n ≡ length (run_pages slot s) → wrote n slot s ≡ with_pages (table_first slot) (run_pages slot s) s
wrote_all n slot s all = λ i. record s { ext = (take (table_first slot) s.ext ++ take_all n (run_pages slot s) (omega (arith, all)) i) ++ drop (table_first slot + all i) s.ext }

-- a page that isn't written yet is as it was
pub page_still : (n slot : ℕ) (s : State) → IsState s → slot < 16 → n ≤ length (run_pages slot s) → page_at (wrote n slot s) (Ext (table_first slot + n)) ≡ page_at s (Ext (table_first slot + n))
page_still n slot s is low le =
    let first : ℕ = table_first slot in
    let front : List (List ℕ) = take first s.ext ++ take n (run_pages slot s) in
    let long : length front ≡ first + n =
    length-append (take first s.ext) (take n (run_pages slot s))
    ∙ omega (arith, length-take-le first s.ext (omega (arith, is.ext)), length-take-le n (run_pages slot s) (omega (arith, le))) in
    let same : first + n + (first + n - (first + n)) ≡ first + n = omega arith in
    get_or-append_right front (drop (first + n) s.ext) (first + n) (first + n) [] long (omega arith) ∙ get_or-drop (first + n) s.ext (first + n - (first + n)) []
    ∙ ap (λ (k : ℕ). get_or s.ext k []) same

-- ---- what may be left

pub only_none : (slot : ℕ) (s : State) → IsState s → slot < 16 → OnlyTable slot s s
only_none slot s is low = record {
  pages = only_starts (table_pages slot) s;
  prog = refl;
  bytes = get_or (tables_of s.ext) slot [];
  parts_are = λ i. record (parts_of s.prog s.ext) { tables = sym (set-get_or (tables_of s.ext) slot []) i };
  whole = is;
}

-- a page of the slot
pub in_slot : (slot j : ℕ) → j < 39 → table_pages slot (Ext (table_first slot + j)) ≡ true
in_slot slot j few = grind (arith, nat_tests)

pub only_more : (needed : State → Type 0) (slot j : ℕ) (s t y : State) → slot < 16 → j < 39 → OnlyTable slot s t → MayHold needed (Ext (table_first slot + j)) t y → OnlyTable slot s y
only_more needed slot j s t y low few only (inl same) = subst (OnlyTable slot s) (sym same) only
only_more needed slot j s t y low few only (inr spoilt) =
    let page : Place = Ext (table_first slot + j) in
    let bytes : List ℕ = spoilt.1.bytes in
    let new : List ℕ = concat (set (take 39 (drop (1410 + 39 * slot) t.ext)) j bytes) in
    let old : List (List ℕ) = tables_of s.ext in
    let before : tables_of t.ext ≡ set old slot only.bytes = ap (λ (p : Parts). p.tables) only.parts_are in
    let there : parts_of t.prog (set t.ext (1410 + 39 * slot + j) bytes) ≡ record (parts_of t.prog t.ext) { tables = set (tables_of t.ext) slot new } =
    each_page_is_in_one_part.table t.prog t.ext slot j bytes low few in
    let now : set (tables_of t.ext) slot new ≡ set old slot new = ap (λ (l : List (List ℕ)). set l slot new) before ∙ set-set old slot only.bytes new in
    let parts : parts_of t.prog (set t.ext (1410 + 39 * slot + j) bytes) ≡ record (parts_of s.prog s.ext) { tables = set old slot new } =
    there ∙ ap₂ (λ (p : Parts) (l : List (List ℕ)). record p { tables = l }) only.parts_are now in
    let programmed =
    only_programs (table_pages slot) needed page s t (with_page t page bytes) only.pages (in_slot slot j few) (inr (spoilt.0, record { bytes = bytes; whole = spoilt.1.whole; is = refl })) in
    subst (OnlyTable slot s) (sym spoilt.1.is) (record {
      pages = programmed;
      prog = only.prog;
      bytes = new;
      parts_are = parts;
      whole = sizes_kept t page bytes spoilt.1.whole only.whole;
    })

-- the inbox stays
pub inbox_stays : (slot : ℕ) (s t : State) → OnlyTable slot s t → inbox_slot slot t ≡ inbox_slot slot s
inbox_stays slot s t only = ap (λ (p : Parts). get_or p.inbox slot []) only.parts_are

-- ---- the end

pub length-tables : (ext : List (List ℕ)) → length (tables_of ext) ≡ 16
unfolding tables_of
length-tables ext = length-map-range_with_len (slot_from 1410 ext) 0 16

-- a table slot that was written begins with the run
module _ (slot : ℕ) (s : State) (is : IsState s) (low : slot < 16) (fits : FitsSlot slot s) where
  abbrev end : State
  end = with_pages (table_first slot) (run_pages slot s) s

  slot_written : (rest : List ℕ) × (get_or (tables_of end.ext) slot [] ≡ run_here slot s ++ rest)
  slot_written =
      let first : ℕ = table_first slot in
      let pages : List (List ℕ) = run_pages slot s in
      let run : List ℕ = run_here slot s in
      let front : List (List ℕ) = take first s.ext in
      let tail : List (List ℕ) = drop (first + length pages) s.ext in
      let left : ℕ = 39 - length pages in
      let long : length front ≡ first = length-take-le first s.ext (omega (arith, is.ext)) in
      let sum : length pages + left ≡ 39 = omega (arith, few_pages s is slot low fits) in
      let behind : drop first ((front ++ pages) ++ tail) ≡ pages ++ tail = ap (drop first) (append_assoc front pages tail) ∙ drop_at front (pages ++ tail) first long in
      let all : take 39 (pages ++ tail) ≡ pages ++ take left tail = ap (λ (k : ℕ). take k (pages ++ tail)) (sym sum) ∙ take-append-add pages tail left in
      let own = joined run (pages_for (length run)) refl in (
        own.0 ++ concat (take left tail),
        table_is end.ext slot low ∙ ap (λ (l : List (List ℕ)). concat (take 39 l)) behind ∙ ap concat all ∙ concat-append pages (take left tail)
            ∙ ap (λ (l : List ℕ). l ++ concat (take left tail)) own.1 ∙ append_assoc run own.0 (concat (take left tail)),
      )

  pub keeps : (v : View) → OnlyTable slot s (with_pages (table_first slot) (run_pages slot s) s) → v.state ≡ Some (with_pages (table_first slot) (run_pages slot s) s) → KeepsRun slot s v
  keeps v only told =
      let tables : List (List ℕ) = tables_of s.ext in
      let bytes : only.bytes ≡ run_here slot s ++ slot_written.0 =
      sym (get_or-set_same tables slot only.bytes [] (omega (arith, length-tables s.ext))) ∙ sym (ap (λ (p : Parts). get_or p.tables slot []) only.parts_are) ∙ slot_written.1 in
      record {
        end = end;
        told = told;
        rest = slot_written.0;
        parts_are = only.parts_are ∙ ap (λ (l : List ℕ). record (parts_of s.prog s.ext) { tables = set tables slot l }) bytes;
      }

-- what the header says of the pages that are put
pub count_says : (h : Header) (n : ℕ) → n < run_page_count h → (total_of h ≤ 9984) × (256 * n < run_length h)
count_says h n lt =
    elim (cases_Bool (nat_le (total_of h) 9984)) [
      | inl fits ↦ let below : n < pages_for (run_length h) = subst (λ (b : Bool). n < cond b (pages_for (run_length h)) 0) fits lt in (leb-true (total_of h) 9984 fits, omega (arith, below))
      | inr not_fits ↦ let none : n < 0 = subst (λ (b : Bool). n < cond b (pages_for (run_length h)) 0) not_fits lt in absurd (omega (arith, none))
    ]

-- and the whole of it is written behind them
pub wrote_run : (n slot : ℕ) (h : Header) (s : State) → IsState s → slot < 16 → h ≡ header_of (inbox_slot slot s) → n ≡ run_page_count h → wrote n slot s ≡ with_run slot s
wrote_run n slot h s is low header all =
    let here : Header = header_of (inbox_slot slot s) in
    let count : n ≡ run_page_count here = all ∙ ap run_page_count header in
    let whole : State = with_pages (table_first slot) (run_pages slot s) s in
    elim (cases_Bool (nat_le (total_of here) 9984)) [
      | inl fits ↦
          let le : FitsSlot slot s = leb-true (total_of here) 9984 fits in
          let pages : n ≡ length (run_pages slot s) = count ∙ ap (λ (b : Bool). cond b (pages_for (run_length here)) 0) fits ∙ sym (length-pages s is slot low le) in
          wrote_all n slot s pages ∙ ap (λ (b : Bool). cond b whole s) (sym fits)
      | inr not_fits ↦
          let none : n ≡ 0 = count ∙ ap (λ (b : Bool). cond b (pages_for (run_length here)) 0) not_fits in
          ap (λ (k : ℕ). wrote k slot s) none ∙ wrote_none slot s ∙ ap (λ (b : Bool). cond b whole s) (sym not_fits)
    ]

-- where the package fits
pub fits_run : (slot : ℕ) (s : State) → FitsSlot slot s → with_run slot s ≡ with_pages (table_first slot) (run_pages slot s) s
fits_run slot s fits = ap (λ (b : Bool). cond b (with_pages (table_first slot) (run_pages slot s) s) s) (le-leb (total_of (header_of (inbox_slot slot s))) 9984 fits)

-- so the page is one of the run's
pub page_within : (n slot : ℕ) (h : Header) (s : State) → IsState s → slot < 16 → h ≡ header_of (inbox_slot slot s) → n < run_page_count h → FitsSlot slot s × (n < length (run_pages slot s))
page_within n slot h s is low header lt =
    let here : Header = header_of (inbox_slot slot s) in
    let says = count_says here n (subst (λ (x : Header). n < run_page_count x) header lt) in
    (says.0, omega (arith, length-pages s is slot low says.0, says.1))
