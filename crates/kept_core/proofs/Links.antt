-- The steps of LINK.
use Rattle.std.proofs.Common.{◌≡◌, ◌↔◌, cond, ℕ, ◌+◌, ◌≤◌, Bool, true, false, List, Option, Some, None, Err, refl, sym, ap, ◌∙◌, subst, arith}
use Rattle.std.proofs.lemmas.Bool.Decides.{nat_tests}
use Rattle.std.proofs.lemmas.Option.{same_Some}
use Rattle.flash_pages.specs.State.{State, Place, Prog, Ext, ext_pages}
use Rattle.flash_pages.specs.Board.{View, Reads}
use Rattle.flash_pages.specs.Moments.{LeavesOnly}
use Rattle.flash_pages.proofs.Runs.{starts, follows, weaker, at_end, reads}
use Rattle.flash_pages.proofs.Pages.{only_starts, only_only}
use Rattle.component_package.specs.declared.answer.Answer.{Answer}
use Rattle.component_package.specs.declared.answer.Answer.TheVariants as answers
use Rattle.kept_definitions.specs.Stored.{StoredRelease, Stores}
use Rattle.kept_manifests.specs.Slots.{stored_of}
use Rattle.component_package.specs.link.Link.{Undefined, Range, IsLate, link_cause, sites_cause}
use Rattle.component_package.specs.packages.Component.{Component}
use Rattle.component_package.specs.link.Areas.{MergedSymbol, Tells, Lists}
use Rattle.component_package.specs.link.Pages.{IsTableOf, listed, IsPages}
use Rattle.kept_definitions.specs.Kept.{Chosen, coming_set, HasComing}
use Rattle.kept_definitions.specs.Sides.{Parts, chosen_side, other_side, is_pending, kept_set, going_set}
use Rattle.kept_definitions.specs.Sound as sound
use Rattle.component_package.specs.mote.Sides.{man, sym as sym_gate, rel, img}
use Rattle.kept_definitions.specs.Headline.{StandsFor, StandsForIncoming, has_incoming}
use Rattle.kept_definitions.specs.Machine.{Mote}
use Rattle.component_package.specs.mote.Machine.{range_number}
use Rattle.kept_store.specs.declared.set.StoredSet.{StoredSet}
use Rattle.kept_store.specs.Sets.{IsSet, HoldsSet}
use Rattle.kept_laws.specs.Steps.{Keeps, with_gate}
use Rattle.kept_laws.specs.Words.{AreKnown}
use Rattle.kept_laws.proofs.Steps.{writing_keeps}
use Rattle.kept_laws.proofs.Stands.{resting_steps_stand}
use Rattle.kept_laws.proofs.Says.{words_say_what_they_mean}
use Rattle.kept_journal.specs.declared.gates.Stage.{Stage}
use Rattle.kept_journal.specs.declared.gates.Stage.TheVariants as stages
use Rattle.kept_journal.specs.Steps.{parts, Stands, Step, Takes, Becomes, Rests, Vouches, marks, stage_gate, one_page}
use Rattle.kept_symbols.specs.Stored.{symbol_area}
use Rattle.kept_symbols.specs.Changes.{OnlySymbols, symbol_pages}
use Rattle.kept_symbols.specs.Answers.{IsMerged as IsTable}
use Rattle.link_laws.proofs.Own.{own_list_fits, pages_exist, patched_are_pages}
use Rattle.kept_relocs.specs.declared.fault.BuildFault.{BuildFault}
use Rattle.kept_relocs.specs.declared.fault.BuildFault.TheVariants as builds
use Rattle.kept_relocs.specs.List.{list_area, CauseIs, is_build_fault}
use Rattle.kept_relocs.specs.Written.{OnlyList}
use Rattle.kept_stage.specs.Staged.{ArePagesOf, OnlyStaged, staged_pages}
use Rattle.kept_core.specs.Serving.{link_pages, Kept}
use Rattle.kept_core.specs.Links.{comes_of, site_answer, IsStagedFor, IsLinking, Refuses, IsEarlyFree, Goes}
use Rattle.kept_core.proofs.Works.{Within, step_keeps}
use Rattle.kept_core.proofs.Causes.{IsLateOnly, late_only, sites_last, sites_late}
use Rattle.kept_symbols.proofs.Changed.{holds_still}
use Rattle.kept_relocs.proofs.Only.{same_parts_hold, set_stays as list_keeps}
use Rattle.kept_relocs.proofs.Linkable.{linkable}
use Rattle.kept_stage.proofs.Sets.{set_stays as staged_keeps}

-- ---- what is kept

pub kept_starts : (may : Place → Bool) (s : State) (t : Mote) → Stands s t → Kept may s s
kept_starts may s t stands = record { pages = only_starts may s; prog = λ none. refl; keeps = record { sound = stands.sound; chosen = λ c chooses. chooses } }

pub kept_then : (may : Place → Bool) (s w x : State) → Kept may s w → Kept may w x → Kept may s x
kept_then may s w x first second = record {
  pages = only_only may may s w x (λ place out. out) first.pages second.pages;
  prog = λ none. second.prog none ∙ first.prog none;
  keeps = record { sound = second.keeps.sound; chosen = λ c chooses. second.keeps.chosen c (first.keeps.chosen c chooses) };
}

pub kept_wider : (may all : Place → Bool) (s x : State) → Within may all → ((page : ℕ) → may (Prog page) ≡ false) → Kept may s x → Kept all s x
kept_wider may all s x within no_prog kept = record {
  pages = record { sent = kept.pages.sent; page = λ place out. kept.pages.page place (within place out) };
  prog = λ none. kept.prog no_prog;
  keeps = kept.keeps;
}

-- a run, and then a run from where it ended
pub run_then : (may : Place → Bool) (s w : State) (m n : ℕ) (old mid new : View) → mid.state ≡ Some w → LeavesOnly (Kept may s) m old mid → LeavesOnly (Kept may w) n mid new → LeavesOnly (Kept may s) (m + n) old new
run_then may s w m n old mid new told first second =
    let here = at_end (Kept may s) m old mid w first told in
    follows (Kept may s) m n old mid new first (weaker (Kept may w) (Kept may s) n n mid new (omega arith) (λ x kept. kept_then may s w x here kept) second)

pub run_idle : (s : State) (t : Mote) (n : ℕ) (old : View) → old.state ≡ Some s → Stands s t → LeavesOnly (Kept link_pages s) n old old
run_idle s t n old told stands = weaker (Kept link_pages s) (Kept link_pages s) 0 n old old (omega arith) (λ x here. here) (starts (Kept link_pages s) old s told (kept_starts link_pages s t stands))

-- pages within those of LINK
area_within : (first last : ℕ) → 18 ≤ first → last ≤ 785 → Within (ext_pages first last) link_pages
area_within first last low high (Prog q) out = refl
area_within first last low high (Ext q) out = grind (arith, nat_tests)

gate_within : (gate : ℕ) → 2 ≤ gate → gate ≤ 4 → Within (one_page gate) link_pages
gate_within gate low high (Prog q) out = refl
gate_within gate low high (Ext q) out = grind (arith, nat_tests)

-- ---- what goes on

pub linking_on : (t : Mote) (set : StoredSet) (s x : State) → IsLinking t set s → Stands x t → HoldsSet x set (comes_of t set) → IsLinking t set x
linking_on t set s x was stands held = record {
  stands = stands;
  rests = was.rests;
  incoming = was.incoming;
  unlinked = was.unlinked;
  there = was.there;
  held = held;
}

-- what comes in is on the other side
pub other_stores : (t : Mote) (set : StoredSet) (s : State) → IsLinking t set s → (has_incoming (parts s) ≡ true) × Stores (other_side (parts s)) (stored_of set.slots)
other_stores t set s linking = subst (StandsForIncoming (parts s)) linking.incoming linking.stands.mote.incoming

pub at_rest : (t : Mote) (set : StoredSet) (s : State) → IsLinking t set s → is_pending (parts s) ≡ false
at_rest t set s linking = sym linking.stands.mote.standing ∙ linking.rests

pub man_open : (t : Mote) (set : StoredSet) (s : State) → IsLinking t set s → (parts s).gates man ≡ true
man_open t set s linking = sym (ap (λ (b : Bool). cond b false ((parts s).gates man)) (at_rest t set s linking)) ∙ (other_stores t set s linking).0

-- what the words of soundness say of a set that comes in
pub record Says (tables prog inbox : List (List ℕ)) (current side : List ℕ) (c : List Component) : Type 0 where
  pub set : sound.HoldsSet tables prog inbox current side
  pub no_cause : sound.HasNoCause tables prog inbox current side ↔ (link_cause c ≡ None)
  pub late_cause : sound.HasLateCause tables prog inbox current side ↔ IsLate (link_cause c)
  pub table : (area : List ℕ) → sound.HasTable tables prog inbox current side area ↔ ((x : List MergedSymbol) × IsTableOf c x × Tells area x)
  pub list : (area : List ℕ) → sound.HasList tables prog inbox current side area ↔ ((x : List MergedSymbol) × IsTableOf c x × Lists area (listed c x))
  pub image : (pages : List (List ℕ)) → sound.HasImage tables prog inbox current side pages ↔ IsPages c pages

says_there : (tables prog inbox : List (List ℕ)) (current side : List ℕ) (now : Chosen) (next : StoredRelease) → AreKnown tables prog current side now next → HasComing now inbox next
    → Says tables prog inbox current side (coming_set now inbox next)
says_there tables prog inbox current side now next known there =
    let w = words_say_what_they_mean.coming tables prog inbox current side now next known in
    record {
      set = w.set.1 there;
      no_cause = (λ has. (w.no_cause.0 has).1, λ free. w.no_cause.1 (there, free));
      late_cause = (λ has. (w.late_cause.0 has).1, λ late. w.late_cause.1 (there, late));
      table = λ area. (λ has. ((w.table area).0 has).1, λ table. (w.table area).1 (there, table));
      list = λ area. (λ has. ((w.list area).0 has).1, λ list. (w.list area).1 (there, list));
      image = λ pages. (λ has. ((w.image pages).0 has).1, λ is. (w.image pages).1 (there, is));
    }

pub words : (t : Mote) (set : StoredSet) (s : State) → IsLinking t set s
    → Says (parts s).tables (parts s).prog (parts s).inbox (chosen_side (parts s)) (other_side (parts s)) (comes_of t set)
words t set s linking =
    let p = parts s in
    let mote = linking.stands.mote in
    subst (λ (inbox : List (List ℕ)). Says p.tables p.prog inbox (chosen_side p) (other_side p) (comes_of t set)) mote.inbox
    (says_there p.tables p.prog t.inbox (chosen_side p) (other_side p) t.current (stored_of set.slots)
    (record {
      is_now = mote.current.release;
      set = sym (ap (λ (b : Bool). cond b (going_set p.tables p.inbox p.staged t.current.release) (kept_set p.tables p.prog t.current.release)) (at_rest t set s linking)) ∙ mote.current.set;
      is_next = (other_stores t set s linking).1;
    })
    linking.there)

-- ---- symbols

pub symbols_kept : (t : Mote) (set : StoredSet) (s x : State) → IsLinking t set s → (parts s).gates sym_gate ≡ false → OnlySymbols s x → Kept link_pages s x
symbols_kept t set s x linking closed only = kept_wider symbol_pages link_pages s x (area_within 18 49 (omega arith) (omega arith)) (λ page. refl) (record {
  pages = only.pages;
  prog = λ none. ap (λ (q : Parts). q.prog) only.parts;
  keeps = subst (Keeps (parts s)) (sym only.parts) (writing_keeps.symbols (parts s) (symbol_area x) linking.stands.sound closed);
})

pub symbols_linking : (t : Mote) (set : StoredSet) (s x : State) → IsLinking t set s → (parts s).gates sym_gate ≡ false → OnlySymbols s x → IsLinking t set x
symbols_linking t set s x linking closed only = linking_on t set s x linking
    (record {
      sound = (symbols_kept t set s x linking closed only).keeps.sound;
      mote = subst (λ (q : Parts). StandsFor q t) (sym only.parts) (resting_steps_stand.symbol_area (parts s) t (symbol_area x) linking.stands.mote);
    })
    (holds_still s x set (comes_of t set) only linking.held)

-- the merged symbols are there
pub symbols_vouched : (t : Mote) (set : StoredSet) (x : State) (n : ℕ) → IsLinking t set x → IsEarlyFree (comes_of t set) → IsTable (comes_of t set) (symbol_area x) n → Vouches stages.Symbols (parts x)
symbols_vouched t set x n linking early table =
    let w = words t set x linking in
    let late : IsLate (link_cause (comes_of t set)) = subst IsLate (sym (sites_last (comes_of t set) early.room early.symbols early.relocs table.single)) (sites_late (comes_of t set)) in
    record {
      incoming = man_open t set x linking;
      set = w.set;
      cause = w.late_cause.1 late;
      table = (w.table (symbol_area x)).1 (table.table, table.is, table.tells);
    }

-- ---- gates

-- a gate that vouches is opened
pub marks_kept : (t : Mote) (set : StoredSet) (stage : Stage) (s x : State) → IsLinking t set s → Vouches stage (parts s) → Step (λ u. Rests u × Vouches stage (parts s)) (one_page (stage_gate stage)) s x → Kept link_pages s x
marks_kept t set stage s x linking vouched took =
    kept_wider (one_page (stage_gate stage)) link_pages s x (within stage) (λ page. refl) (step_keeps (λ u. Rests u × Vouches stage (parts s)) (one_page (stage_gate stage)) t s x took linking.stands (linking.rests, vouched))
  where
    within : (stage : Stage) → Within (one_page (stage_gate stage)) link_pages
    within stages.Symbols = gate_within 2 (omega arith) (omega arith)
    within stages.Relocs = gate_within 3 (omega arith) (omega arith)
    within stages.Image = gate_within 4 (omega arith) (omega arith)

pub marks_run : (t : Mote) (set : StoredSet) (stage : Stage) (s : State) (old new : View) → IsLinking t set s → Vouches stage (parts s)
    → Takes (Step (λ u. Rests u × Vouches stage (parts s)) (one_page (stage_gate stage)) s) (one_page (stage_gate stage)) 1 old new → LeavesOnly (Kept link_pages s) 1 old new
marks_run t set stage s old new linking vouched takes =
    weaker (Step (λ u. Rests u × Vouches stage (parts s)) (one_page (stage_gate stage)) s) (Kept link_pages s) 1 1 old new (omega arith) (λ x took. marks_kept t set stage s x linking vouched took) takes.leaves

-- ---- answers

-- nothing was to be done
pub stays_linking : (t : Mote) (set : StoredSet) (symbols : Bool) (s : State) (v : View) → v.state ≡ Some s → IsLinking t set s → (parts s).gates sym_gate ≡ symbols
    → Goes t set symbols ((parts s).gates rel) None s v
stays_linking t set symbols s v told linking is = record {
  end = s;
  told = told;
  linking = linking;
  gates = λ none. record { sym_is = is; rel_is = refl; img_is = refl };
  refuses = λ b some. absurd (let q : ⊥ = cc in q);
}

-- the run of a merge
pub symbols_run : (t : Mote) (set : StoredSet) (s : State) (old new : View) → IsLinking t set s → (parts s).gates sym_gate ≡ false → LeavesOnly (OnlySymbols s) 32 old new → LeavesOnly (Kept link_pages s) 32 old new
symbols_run t set s old new linking closed run = weaker (OnlySymbols s) (Kept link_pages s) 32 32 old new (omega arith) (λ x only. symbols_kept t set s x linking closed only) run

pub weaker_run : (s : State) (m n : ℕ) (old new : View) → m ≤ n → LeavesOnly (Kept link_pages s) m old new → LeavesOnly (Kept link_pages s) n old new
weaker_run s m n old new few run = weaker (Kept link_pages s) (Kept link_pages s) m n old new few (λ x here. here) run

-- it found a cause
pub symbols_found : (t : Mote) (set : StoredSet) (symbols relocs : Bool) (s : State) (a : Answer) (old new : View) → IsLinking t set s → (parts s).gates sym_gate ≡ false → LeavesOnly (OnlySymbols s) 32 old new
    → Refuses (comes_of t set) a → Goes t set symbols relocs (Some a) s new
symbols_found t set symbols relocs s a old new linking closed run refuses = record {
  end = run.end;
  told = run.told;
  linking = symbols_linking t set s run.end linking closed run.ends;
  gates = λ none. absurd (let q : ⊥ = cc in q);
  refuses = λ b some. subst (Refuses (comes_of t set)) (same_Some a b some) refuses;
}

-- its gate was opened
pub marked : (t : Mote) (set : StoredSet) (stage : Stage) (s : State) (v : View) → IsLinking t set s → Vouches stage (parts s) → marks stage t ≡ t
    → (b : Becomes (with_gate (stage_gate stage) true (parts s)) (λ u. Rests u × Vouches stage (parts s)) (marks stage) s v) → IsLinking t set b.end
marked t set stage s v linking vouched same b = linking_on t set s b.end linking (subst (Stands b.end) same (b.stands t linking.stands (linking.rests, vouched))) (same_parts_hold s b.end set (comes_of t set) (ap (λ (q : Parts). q.prog) b.parts_are) (ap (λ (q : Parts). q.tables) b.parts_are) (ap (λ (q : Parts). q.inbox) b.parts_are) linking.held)

-- behind a merge
module _ (t : Mote) (set : StoredSet) (s x : State) (linking : IsLinking t set s) (closed : (parts s).gates sym_gate ≡ false) (only : OnlySymbols s x) where
  pub merged_vouched : (n : ℕ) → IsEarlyFree (comes_of t set) → IsTable (comes_of t set) (symbol_area x) n → Vouches stages.Symbols (parts x)
  merged_vouched n early table = symbols_vouched t set x n (symbols_linking t set s x linking closed only) early table

  pub merged_goes : (v : View) → Vouches stages.Symbols (parts x) → Becomes (with_gate (stage_gate stages.Symbols) true (parts x)) (λ u. Rests u × Vouches stages.Symbols (parts x)) (marks stages.Symbols) x v
      → Goes t set true ((parts s).gates rel) None s v
  merged_goes v vouched b = record {
    end = b.end;
    told = b.told;
    linking = marked t set stages.Symbols x v (symbols_linking t set s x linking closed only) vouched refl b;
    gates = λ none. record {
      sym_is = ap (λ (q : Parts). q.gates sym_gate) b.parts_are;
      rel_is = ap (λ (q : Parts). q.gates rel) b.parts_are ∙ ap (λ (q : Parts). q.gates rel) only.parts;
      img_is = ap (λ (q : Parts). q.gates img) b.parts_are ∙ ap (λ (q : Parts). q.gates img) only.parts;
    };
    refuses = λ c some. absurd (let q : ⊥ = cc in q);
  }

-- ---- relocations

-- what the gate Sym vouches for, of a state that is sound
pub record HasMerged (components : List Component) (s : State) : Type 0 where
  pub table : List MergedSymbol
  pub is : IsTableOf components table
  pub tells : Tells (symbol_area s) table
  pub late : IsLateOnly components

pub has_merged : (t : Mote) (set : StoredSet) (s : State) → IsLinking t set s → (parts s).gates sym_gate ≡ true → HasMerged (comes_of t set) s
has_merged t set s linking is_open =
    let w = words t set s linking in
    let merged = (linking.stands.sound.rest (at_rest t set s linking)).sym_open is_open in
    let table = (w.table (symbol_area s)).0 merged.table in
    record { table = table.0; is = table.1; tells = table.2; late = late_only (comes_of t set) (w.late_cause.0 merged.cause) }

pub relocs_kept : (t : Mote) (set : StoredSet) (s x : State) → IsLinking t set s → (parts s).gates rel ≡ false → OnlyList s x → Kept link_pages s x
relocs_kept t set s x linking closed only = kept_wider (ext_pages 50 305) link_pages s x (area_within 50 305 (omega arith) (omega arith)) (λ page. refl) (record {
  pages = only.pages;
  prog = λ none. ap (λ (q : Parts). q.prog) only.parts;
  keeps = subst (Keeps (parts s)) (sym only.parts) (writing_keeps.relocs (parts s) (list_area x) linking.stands.sound closed);
})

pub relocs_run : (t : Mote) (set : StoredSet) (s : State) (old new : View) → IsLinking t set s → (parts s).gates rel ≡ false → LeavesOnly (OnlyList s) 256 old new → LeavesOnly (Kept link_pages s) 256 old new
relocs_run t set s old new linking closed run = weaker (OnlyList s) (Kept link_pages s) 256 256 old new (omega arith) (λ x only. relocs_kept t set s x linking closed only) run

pub relocs_linking : (t : Mote) (set : StoredSet) (s x : State) → IsLinking t set s → (parts s).gates rel ≡ false → OnlyList s x → IsLinking t set x
relocs_linking t set s x linking closed only = linking_on t set s x linking
    (record {
      sound = (relocs_kept t set s x linking closed only).keeps.sound;
      mote = subst (λ (q : Parts). StandsFor q t) (sym only.parts) (resting_steps_stand.reloc_area (parts s) t (list_area x) linking.stands.mote);
    })
    (list_keeps s x set (comes_of t set) only linking.held)

-- a read before a run
pub read_then : (s : State) (t : Mote) (n : ℕ) (old mid new : View) → old.state ≡ Some s → Stands s t → Reads old mid → LeavesOnly (Kept link_pages s) n mid new → LeavesOnly (Kept link_pages s) n old new
read_then s t n old mid new told stands read run =
    weaker (Kept link_pages s) (Kept link_pages s) (0 + n) n old new (omega arith) (λ x here. here)
    (follows (Kept link_pages s) 0 n old mid new (reads (Kept link_pages s) 0 old old mid (run_idle s t 0 old told stands) read) run)

pub read_only : (s : State) (t : Mote) (n : ℕ) (old new : View) → old.state ≡ Some s → Stands s t → Reads old new → LeavesOnly (Kept link_pages s) n old new
read_only s t n old new told stands read = reads (Kept link_pages s) n old old new (run_idle s t n old told stands) read

-- no call of the board failed where there is such a line
pub site_calm : (A : Type 0) (f : BuildFault) (a : Answer) → site_answer f ≡ Some a → is_build_fault {A = A} (Err f) ≡ false
site_calm A builds.Fault a some = absurd (let q : ⊥ = cc in q)
site_calm A (builds.Relocations n) a some = refl
site_calm A (builds.Undefined k r s) a some = refl
site_calm A (builds.Range k r f) a some = refl

-- the cause that a relocation has
pub site_refuses : (A : Type 0) (components : List Component) (s : State) (f : BuildFault) (a : Answer) → HasMerged components s → CauseIs {A = A} (Err f) (sites_cause components) → site_answer f ≡ Some a → Refuses components a
site_refuses A components s builds.Fault a merged cause some = absurd (let q : ⊥ = cc in q)
site_refuses A components s (builds.Relocations n) a merged cause some = absurd (let q : ⊥ = cc in q)
site_refuses A components s (builds.Undefined k r x) a merged cause some = record { cause = Undefined k r x; is = merged.late.sites ∙ cause; answer = sym (same_Some (answers.Undefined k r x) a some) }
site_refuses A components s (builds.Range k r f) a merged cause some = record { cause = Range k r f; is = merged.late.sites ∙ cause; answer = sym (same_Some (answers.Range k r (range_number f)) a some) }

-- behind the writing of the list
module _ (t : Mote) (set : StoredSet) (s x : State) (linking : IsLinking t set s) (is_open : (parts s).gates sym_gate ≡ true) (closed : (parts s).gates rel ≡ false) (only : OnlyList s x) where
  pub listed_vouched : (merged : HasMerged (comes_of t set) s) → sites_cause (comes_of t set) ≡ None → Lists (list_area x) (listed (comes_of t set) merged.table) → Vouches stages.Relocs (parts x)
  listed_vouched merged none lists =
      let w = words t set x (relocs_linking t set s x linking closed only) in
      record {
        merged = ap (λ (q : Parts). q.gates sym_gate) only.parts ∙ is_open;
        cause = w.no_cause.1 (merged.late.sites ∙ none);
        list = (w.list (list_area x)).1 (merged.table, merged.is, lists);
      }

  pub listed_goes : (v : View) → Vouches stages.Relocs (parts x) → Becomes (with_gate (stage_gate stages.Relocs) true (parts x)) (λ u. Rests u × Vouches stages.Relocs (parts x)) (marks stages.Relocs) x v
      → Goes t set true true None s v
  listed_goes v vouched b = record {
    end = b.end;
    told = b.told;
    linking = marked t set stages.Relocs x v (relocs_linking t set s x linking closed only) vouched refl b;
    gates = λ none. record {
      sym_is = ap (λ (q : Parts). q.gates sym_gate) b.parts_are ∙ ap (λ (q : Parts). q.gates sym_gate) only.parts ∙ is_open;
      rel_is = ap (λ (q : Parts). q.gates rel) b.parts_are;
      img_is = ap (λ (q : Parts). q.gates img) b.parts_are ∙ ap (λ (q : Parts). q.gates img) only.parts;
    };
    refuses = λ c some. absurd (let q : ⊥ = cc in q);
  }

-- ---- the image

-- what the gate Rel vouches for, of a state that is sound
pub record HasListed (components : List Component) (s : State) : Type 0 where
  pub table : List MergedSymbol
  pub is : IsTableOf components table
  pub lists : Lists (list_area s) (listed components table)
  pub free : link_cause components ≡ None

pub has_listed : (t : Mote) (set : StoredSet) (s : State) → IsLinking t set s → (parts s).gates rel ≡ true → HasListed (comes_of t set) s
has_listed t set s linking is_open =
    let w = words t set s linking in
    let listing = (linking.stands.sound.rest (at_rest t set s linking)).rel_open is_open in
    let list = (w.list (list_area s)).0 listing.list in
    record { table = list.0; is = list.1; lists = list.2; free = w.no_cause.0 listing.cause }

-- the pages that are to be staged
pub record HasPages (set : StoredSet) (components : List Component) (s : State) : Type 0 where
  pub pages : List (List ℕ)
  pub are : ArePagesOf s set pages
  pub image : IsPages components pages

pub has_pages : (t : Mote) (set : StoredSet) (s : State) → IsSet set → IsLinking t set s → (listing : HasListed (comes_of t set) s) → HasPages set (comes_of t set) s
has_pages t set s is linking listing =
    let c = comes_of t set in
    let can = linkable s set c is linking.held in
    let fits = own_list_fits c listing.table can listing.free listing.is in
    let some = pages_exist c (list_area s) (listed c listing.table) can listing.lists fits in
    record {
      pages = some.pages;
      are = record { components = c; list = listed c listing.table; held = linking.held; lists = listing.lists; fits = fits; patched = some.are };
      image = patched_are_pages c listing.table some.pages can listing.free listing.is some.are;
    }

pub staged_kept : (t : Mote) (set : StoredSet) (s x : State) → IsLinking t set s → (parts s).gates img ≡ false → OnlyStaged s x → Kept link_pages s x
staged_kept t set s x linking closed only = kept_wider (ext_pages 306 785) link_pages s x (area_within 306 785 (omega arith) (omega arith)) (λ page. refl) (record {
  pages = only.pages;
  prog = λ none. ap (λ (q : Parts). q.prog) only.parts;
  keeps = subst (Keeps (parts s)) (sym only.parts) (writing_keeps.staged (parts s) (staged_pages x) linking.stands.sound (at_rest t set s linking) closed);
})

pub staged_run : (t : Mote) (set : StoredSet) (s : State) (old new : View) → IsLinking t set s → (parts s).gates img ≡ false → LeavesOnly (OnlyStaged s) 480 old new → LeavesOnly (Kept link_pages s) 480 old new
staged_run t set s old new linking closed run = weaker (OnlyStaged s) (Kept link_pages s) 480 480 old new (omega arith) (λ x only. staged_kept t set s x linking closed only) run

pub staged_linking : (t : Mote) (set : StoredSet) (s x : State) → IsLinking t set s → (parts s).gates img ≡ false → OnlyStaged s x → IsLinking t set x
staged_linking t set s x linking closed only = linking_on t set s x linking
    (record {
      sound = (staged_kept t set s x linking closed only).keeps.sound;
      mote = subst (λ (q : Parts). StandsFor q t) (sym only.parts) (resting_steps_stand.staged (parts s) t (staged_pages x) linking.stands.mote (at_rest t set s linking));
    })
    (staged_keeps s x set (comes_of t set) only linking.held)

-- the image is there
pub staged_vouched : (t : Mote) (set : StoredSet) (s x : State) → IsLinking t set s → (parts s).gates rel ≡ true → (parts s).gates img ≡ false → OnlyStaged s x → (p : HasPages set (comes_of t set) s) → staged_pages x ≡ p.pages → Vouches stages.Image (parts x)
staged_vouched t set s x linking is_open closed only p are =
    let now = staged_linking t set s x linking closed only in
    let w = words t set x now in
    record {
      listed = ap (λ (q : Parts). q.gates rel) only.parts ∙ is_open;
      image = (w.image (staged_pages x)).1 (subst (IsPages (comes_of t set)) (sym are) p.image);
    }

-- nothing was to be done for the relocations
pub done_linking : (t : Mote) (set : StoredSet) (symbols relocs : Bool) (s : State) (v : View) → v.state ≡ Some s → IsLinking t set s → (parts s).gates sym_gate ≡ symbols → (parts s).gates rel ≡ relocs
    → Goes t set symbols relocs None s v
done_linking t set symbols relocs s v told linking sym_is rel_is = record {
  end = s;
  told = told;
  linking = linking;
  gates = λ none. record { sym_is = sym_is; rel_is = rel_is; img_is = refl };
  refuses = λ b some. absurd (let q : ⊥ = cc in q);
}

-- a relocation has a cause
pub site_found : (t : Mote) (set : StoredSet) (symbols relocs : Bool) (o : Option Answer) (s : State) (v : View) → v.state ≡ Some s → IsLinking t set s → (o ≡ None → ⊥) → ((b : Answer) → o ≡ Some b → Refuses (comes_of t set) b)
    → Goes t set symbols relocs o s v
site_found t set symbols relocs o s v told linking some refuses = record { end = s; told = told; linking = linking; gates = λ none. absurd (some none); refuses = refuses }

-- the image is staged and its gate open
pub staged_done : (t : Mote) (set : StoredSet) (s x : State) (v : View) → IsLinking t set x → Vouches stages.Image (parts x) → link_cause (comes_of t set) ≡ None
    → Becomes (with_gate (stage_gate stages.Image) true (parts x)) (λ u. Rests u × Vouches stages.Image (parts x)) (marks stages.Image) x v → IsStagedFor t set v
staged_done t set s x v linking vouched free b = record { end = b.end; told = b.told; stands = b.stands t linking.stands (linking.rests, vouched); free = free }
