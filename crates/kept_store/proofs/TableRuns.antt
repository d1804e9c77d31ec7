-- What the loop over the pages of a run has done.
use Rattle.std.proofs.Common.{◌≡◌, inl, inr, ⊎_elim, ℕ, ◌+◌, ◌<◌, ◌≤◌, List, length, Option, Some, refl, sym, ap, subst, ◌∙◌, arith}
use Rattle.std.specs.Prelude.{IsTrue}
use Rattle.std.proofs.lemmas.Option.{same_Some}
use Rattle.flash_pages.specs.State.{State, IsState, Place, Ext, MayHold, with_page}
use Rattle.flash_pages.specs.Board.{View, Told, Reads, Programs, WearsOnce}
use Rattle.flash_pages.specs.Moments.{LeavesOnly}
use Rattle.flash_pages.proofs.Runs.{starts, reads, programs, weaker, at_end, uses_uses}
use Rattle.flash_pages.proofs.Wear.{WearsSoFar, wear_starts, wear_reads, so_far_more, ext_apart}
use Rattle.component_package.specs.declared.part.Header.{Header}
use Rattle.component_package.specs.packages.Reading.{header_of}
use Rattle.kept_definitions.specs.Runs.{run_in_package}
use Rattle.kept_store.specs.Tables.{table_first, table_pages, inbox_slot, FitsSlot, run_page, run_pages, OnlyTable, IsDue, run_page_count, IsAnother}
use Rattle.kept_store.proofs.TableLemmas.{few_pages, page_here, page_within, wrote, wrote_more, page_still, only_none, only_more, in_slot, inbox_stays}

-- the first n pages of the run were written where they differed, and no other page
pub record Fills (slot n : ℕ) (s : State) (old new : View) : Type 0 where
  pub leaves : LeavesOnly (OnlyTable slot s) n old new
  pub worn : WearsSoFar (λ i. Ext (table_first slot + i)) n (IsDue slot) old new

-- behind a read none were
pub fills_none : (slot : ℕ) (s : State) (old new : View) → slot < 16 → old.state ≡ Some s → Reads old new → Fills slot 0 s old new
fills_none slot s old new low told read = record {
  leaves = reads (OnlyTable slot s) 0 old old new (starts (OnlyTable slot s) old s told (only_none slot s (old.sizes s told) low)) read;
  worn = record { wears = wear_reads (IsDue slot) old old new (wear_starts (IsDue slot) old) read; fresh = λ x is k from. read.programs (Ext (table_first slot + k)) };
}

-- only the slot changed
pub only_wrote : (slot n : ℕ) (s : State) (old mid : View) → Fills slot n s old mid → mid.state ≡ Some (wrote n slot s) → OnlyTable slot s (wrote n slot s)
only_wrote slot n s old mid fills told = at_end (OnlyTable slot s) n old mid (wrote n slot s) fills.leaves told

-- a page that isn't the run's yet is due
due_here : (slot n : ℕ) (h : Header) (s : State) → IsState s → slot < 16 → FitsSlot slot s → h ≡ header_of (inbox_slot slot s) → n < length (run_pages slot s) → OnlyTable slot s (wrote n slot s)
    → IsAnother slot h n (wrote n slot s) → IsDue slot s (Ext (table_first slot + n))
due_here slot n h s is low fits header lt only another =
    let stays = inbox_stays slot s (wrote n slot s) only in
    record {
      fits = fits;
      page = n;
      within = lt;
      is = refl;
      differs = λ same.
          another (header ∙ sym (ap header_of stays))
          (page_still n slot s is low (omega (arith, lt)) ∙ same ∙ page_here slot n s lt ∙ ap (λ (b : List ℕ). run_page (run_in_package b) n) (sym stays));
    }

-- one page more
fills_more : (slot n : ℕ) (h : Header) (s : State) (old mid new : View) → slot < 16 → FitsSlot slot s → h ≡ header_of (inbox_slot slot s) → n < length (run_pages slot s) → old.state ≡ Some s
    → Fills slot n s old mid → mid.state ≡ Some (wrote n slot s) → Programs (IsAnother slot h n) (Ext (table_first slot + n)) mid new → Fills slot (n + 1) s old new
fills_more slot n h s old mid new low fits header lt told fills now program =
    let is = old.sizes s told in
    let few : n < 39 = omega (arith, lt, few_pages s is slot low fits) in
    let only = only_wrote slot n s old mid fills now in
    record {
      leaves = programs (OnlyTable slot s) n (IsAnother slot h n) (Ext (table_first slot + n)) old mid new (wrote n slot s) fills.leaves now program
          (λ y may. only_more (IsAnother slot h n) slot n s (wrote n slot s) y low few only may);
      worn = so_far_more (λ i. Ext (table_first slot + i)) (ext_apart (table_first slot)) n (IsAnother slot h n) (IsDue slot) old mid new fills.worn program (λ x is_x. (
        wrote n slot s,
        now,
        λ need. subst (λ (y : State). IsDue slot y (Ext (table_first slot + n))) (same_Some s x (sym told ∙ is_x)) (due_here slot n h s is low fits header lt only need),
      ));
    }

-- the same, where the header says that there is one
pub fills_next : (slot n : ℕ) (h : Header) (s : State) (old mid new : View) → slot < 16 → h ≡ header_of (inbox_slot slot s) → n < run_page_count h → old.state ≡ Some s
    → Fills slot n s old mid → mid.state ≡ Some (wrote n slot s) → Programs (IsAnother slot h n) (Ext (table_first slot + n)) mid new → Fills slot (n + 1) s old new
fills_next slot n h s old mid new low header count told fills now program =
    let within = page_within n slot h s (old.sizes s told) low header count in
    fills_more slot n h s old mid new low within.0 header within.1 told fills now program

-- and so is the state
pub page_written : (slot n : ℕ) (h : Header) (s : State) (now : Option State) → IsState s → slot < 16 → h ≡ header_of (inbox_slot slot s) → n < run_page_count h
    → OnlyTable slot s (wrote n slot s)
    → (h ≡ header_of (inbox_slot slot (wrote n slot s))
    → now ≡ Some (with_page (wrote n slot s) (Ext (table_first slot + n)) (run_page (run_in_package (inbox_slot slot (wrote n slot s))) n)))
    → now ≡ Some (wrote (n + 1) slot s)
page_written slot n h s now is low header count only ok =
    let within = page_within n slot h s is low header count in
    let stays = inbox_stays slot s (wrote n slot s) only in
    let few : n < 39 = omega (arith, within.1, few_pages s is slot low within.0) in
    ok (header ∙ sym (ap header_of stays))
    ∙ ap (λ (b : List ℕ). Some (with_page (wrote n slot s) (Ext (table_first slot + n)) (run_page (run_in_package b) n))) stays
    ∙ ap (λ (b : List ℕ). Some (with_page (wrote n slot s) (Ext (table_first slot + n)) b)) (sym (page_here slot n s within.1))
    ∙ ap Some (wrote_more n slot s is low within.1 few)

-- what is said of the whole

pub leaves_all : (slot n : ℕ) (s : State) (old new : View) → n ≤ 39 → Fills slot n s old new → LeavesOnly (OnlyTable slot s) 39 old new
leaves_all slot n s old new le fills = weaker (OnlyTable slot s) (OnlyTable slot s) n 39 old new le (λ x p. p) fills.leaves

-- of the same slot
pub leaves_same : (slot other : ℕ) (s : State) (old new : View) → slot ≡ other → LeavesOnly (OnlyTable slot s) 39 old new → LeavesOnly (OnlyTable other s) 39 old new
leaves_same slot other s old new same leaves = subst (λ (k : ℕ). LeavesOnly (OnlyTable k s) 39 old new) same leaves

pub dues : (slot : ℕ) (n : ℕ) (old new : View) → Told old (λ s. Fills slot n s old new) → WearsOnce (IsDue slot) old new
dues slot n old new fills = record { once = λ s told. (fills s told).worn.wears.once s told; none = λ s told. (fills s told).worn.wears.none s told }

pub wears : (slot : ℕ) (n : ℕ) (old new : View) → slot < 16 → Told old (λ s. Fills slot n s old new) → WearsOnce (λ s place. IsTrue (table_pages slot place)) old new
wears slot n old new low fills = record {
  once = λ s told. (fills s told).worn.wears.once s told;
  none = λ s told place free. (fills s told).worn.wears.none s told place (λ due.
      let few : due.page < 39 = omega (arith, due.within, few_pages s (old.sizes s told) slot low due.fits) in
      free (subst (λ (p : Place). IsTrue (table_pages slot p)) (sym due.is) (in_slot slot due.page few)));
}

-- ---- one page

-- a read, and then a program that is needed where the read says so
pub read_then : (known needed : State → Type 0) (place : Place) (old mid new : View) → Reads old mid → Told old (λ s. known s → needed s)
    → Programs known place mid new → Programs needed place old new
read_then known needed place old mid new read implies after = record {
  state = λ s told. let to = after.state s (read.state ∙ told) in (to.0, to.1, holds s to.0 told to.2);
  cut = record {
    later = omega (arith, read.cut.later, after.cut.later);
    nothing_else = λ s x t told le left.
        ⊎_elim
        (λ was. ⊎_elim (λ w. inl w) (λ same. inr (inl same)) (read.cut.nothing_else s x t told le was))
        (λ now. inr (holds s x told now))
        (after.cut.nothing_else s x t (read.state ∙ told) (omega (arith, le, read.cut.later)) left);
    keeps = λ x t le left. after.cut.keeps x t (omega (arith, le, read.cut.later)) (read.cut.keeps x t le left);
  };
  others = λ s other told apart. after.others s other (read.state ∙ told) apart ∙ read.programs other;
  none = λ s told free. let none = after.none s (read.state ∙ told) (λ known. free (implies s told known)) in (none.0 ∙ read.programs place, none.1 ∙ read.all_programs);
  at_most = λ s told. let most = after.at_most s (read.state ∙ told) in (omega (arith, most.0, read.programs place), omega (arith, most.1, read.all_programs));
  no_less = λ s told. let least = after.no_less s (read.state ∙ told) in (omega (arith, least.0, read.programs place), omega (arith, least.1, read.all_programs));
  spoils = λ s x t told le counted spoilt. after.spoils s x t (read.state ∙ told) (omega (arith, le, read.cut.later)) (omega (arith, counted, read.programs place)) spoilt;
  uses = uses_uses old mid new read.uses after.uses;
}
  where
    holds : (s x : State) → old.state ≡ Some s → MayHold known place s x → MayHold needed place s x
    holds s x told may = ⊎_elim (λ same. inl same) (λ spoilt. inr (implies s told spoilt.0, spoilt.1)) may
