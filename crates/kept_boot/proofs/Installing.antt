-- A copy, the runs of new components, and the end of their installation.
use Rattle.std.proofs.Common.{◌≡◌, ℕ, Bool, true, false, cond, List, [], ◌∷◌, Some, Ok, refl, sym as flip, ◌∙◌, ap, subst, arith}
use Rattle.std.specs.Prelude.{◌&&◌, ◌||◌}
use Rattle.std.specs.List.{AllByRecursion}
use Rattle.std.proofs.lemmas.Bool.{false≢true, or_parts}
use Rattle.flash_pages.specs.State.{State, Place, Prog, Ext, ext_pages}
use Rattle.flash_pages.specs.Board.{View, Reads}
use Rattle.component_package.proofs.Lists.{all_of_list}
use Rattle.kept_definitions.specs.Stored.{Placed, StoredRelease, Stores}
use Rattle.kept_definitions.specs.Sides.{chosen_side, is_pending}
use Rattle.kept_definitions.specs.Machine.{Mote}
use Rattle.kept_laws.specs.Laws.{KeepsItsRun}
use Rattle.kept_laws.proofs.Says.{image_is_the_chosens}
use Rattle.kept_laws.proofs.Stored.{release_one, stored_again}
use Rattle.kept_manifests.specs.declared.pages.SlotManifest.{SlotManifest}
use Rattle.kept_manifests.specs.Slots.{place_of, stored_of}
use Rattle.kept_journal.specs.Steps.{parts, Stands, Step, Takes, Becomes, Pends, IsCopied, any_mote, boots, finished}
use Rattle.kept_journal.specs.declared.standing.Standing.{Standing}
use Rattle.kept_journal.specs.Standing.{IsStanding}
use Rattle.kept_journal.proofs.Side.{standing_formatted}
use Rattle.kept_journal.proofs.Takes.{takes_none, takes_read, takes_more, takes_weaker, takes_takes, step_wider}
use Rattle.kept_boot.specs.Boots.{
  copied,
  with_runs,
  chosen_entries,
  booted,
  Installs,
  fresh_tables,
  installed_pages,
  boot_pages,
  boot_programs,
  program_pages,
  IsBehind,
  Lags,
  HasStarted,
  WearsProgram,
  BootAnswers,
}
use Rattle.kept_boot.specs.Bringing.{Brings}

-- program pages, table slots and gates are among the pages of an installation
copy_less : (es : List Placed) (place : Place) → installed_pages es place ≡ false → program_pages place ≡ false
copy_less es (Prog page) barred = absurd (false≢true (flip barred))
copy_less es (Ext page) barred = refl

-- a table slot has no program page
no_prog : (es : List Placed) (page : ℕ) → fresh_tables es (Prog page) ≡ false
no_prog [] page = refl
no_prog (p ∷ es) page = let rest = no_prog es page in at p.fresh rest
  where
    at : (b : Bool) → fresh_tables es (Prog page) ≡ false → ((b && false) || fresh_tables es (Prog page)) ≡ false
    at true rest = rest
    at false rest = rest

tables_less : (es : List Placed) (place : Place) → installed_pages es place ≡ false → fresh_tables es place ≡ false
tables_less es (Prog page) barred = absurd (false≢true (flip barred))
tables_less es (Ext page) barred = (or_parts _ _ barred).1

finish_less : (es : List Placed) (place : Place) → installed_pages es place ≡ false → ext_pages 1 7 place ≡ false
finish_less es (Prog page) barred = refl
finish_less es (Ext page) barred = (or_parts _ _ barred).0

module _ (m : SlotManifest) (a b : View) (s : State) (copying : Takes (Step Pends program_pages s) program_pages 480 a b) where
  abbrev M : StoredRelease
  M = stored_of m

  abbrev may : Place → Bool
  may = installed_pages M.placed

  pub copies : Takes (Step (Installs M) may s) may 480 a b
  copies = takes_weaker (Step Pends program_pages s) (Step (Installs M) may s) program_pages may 480 480 a b (omega arith)
      (λ x step. step_wider Pends (Installs M) program_pages may s x (copy_less M.placed) (λ t stands installs. installs.0) step) (copy_less M.placed) copying

  module _ (c : View) (told : b.state ≡ Some (copied s)) (stands : (t : Mote) → Stands s t → Pends t → Stands (copied s) t)
      (bringing : Takes (Step (Installs M) (fresh_tables M.placed) (copied s)) (fresh_tables M.placed) 624 b c) where
    pub brings : Takes (Step (Installs M) may s) may 1104 a c
    brings = takes_takes (Installs M) (Installs M) may (fresh_tables M.placed) 480 624 a b c s (copied s) copies told bringing (tables_less M.placed)
        (λ u here installs. (u, stands u here installs.0, installs))

    pub wears_tables : WearsProgram (IsBehind (parts s)) a b → WearsProgram (IsBehind (parts s)) a c
    wears_tables worn = record {
      once = λ page. omega (arith, worn.once page, bringing.wears (Prog page) (no_prog M.placed page));
      none = λ page free. bringing.wears (Prog page) (no_prog M.placed page) ∙ worn.none page free;
    }

    module _ (d : View) (there : c.state ≡ Some (with_runs M.placed (copied s)))
        (kept : (t : Mote) → Stands (copied s) t → Installs M t → Brings m m.manifest.count t (copied s) (with_runs M.placed (copied s)))
        (finishing : Takes (Step (λ t. Pends t × IsCopied (parts (with_runs M.placed (copied s)))) (ext_pages 1 7) (with_runs M.placed (copied s))) (ext_pages 1 7) 6 c d) where
      is_copied : (t : Mote) → Stands s t → Installs M t → IsCopied (parts (with_runs M.placed (copied s)))
      is_copied t here installs =
          let b = kept t (stands t here installs.0) installs in
          let stores = subst (λ (n : StoredRelease). Stores (chosen_side (parts s)) n) installs.1 here.mote.current.release in
          subst IsCopied (flip b.parts_are) (record {
            prog = refl;
            runs = λ n other. subst (λ (x : StoredRelease). AllByRecursion (KeepsItsRun b.tables (parts (copied s)).inbox) x.placed) (release_one (chosen_side (parts s)) M n stores other)
                (all_of_list (KeepsItsRun b.tables (parts (copied s)).inbox) (place_of m) m.manifest.count b.runs);
          })

      pub installs : Takes (Step (Installs M) may s) may 1110 a d
      installs = takes_takes (Installs M) (λ t. Pends t × IsCopied (parts (with_runs M.placed (copied s)))) may (ext_pages 1 7) 1104 6 a c d s (with_runs M.placed (copied s)) brings there finishing (finish_less M.placed)
          (λ u here is. (u, (kept u (stands u here is.0) is).stands, (is.0, is_copied u here is)))

      pub is_installed : Becomes (finished (parts (with_runs M.placed (copied s)))) (λ t. Pends t × IsCopied (parts (with_runs M.placed (copied s)))) boots (with_runs M.placed (copied s)) d
          → Becomes (finished (parts (with_runs M.placed (copied s)))) (Installs M) boots s d
      is_installed done = record {
        end = done.end;
        told = done.told;
        parts_are = done.parts_are;
        stands = λ u here is. done.stands u (kept u (stands u here is.0) is).stands (is.0, is_copied u here is);
      }

      pub wears_all : WearsProgram (IsBehind (parts s)) a b → WearsProgram (IsBehind (parts s)) a d
      wears_all worn = let before = wears_tables worn in record {
        once = λ page. omega (arith, before.once page, finishing.wears (Prog page) refl);
        none = λ page free. finishing.wears (Prog page) refl ∙ before.none page free;
      }

-- ---- a boot

-- a mote with no commit that stands is as after a boot
boots_same : (t : Mote) → t.standing ≡ false → t ≡ boots t
boots_same t rests = λ i. record t { standing = rests i }

-- where no commit stands nothing is to be done
pub rests_booted : (v : View) (s : State) → v.state ≡ Some s → is_pending (parts s) ≡ false → Becomes (booted s) any_mote boots s v
rests_booted v s told calm = record {
  end = s;
  told = told;
  parts_are = flip (ap (λ (b : Bool). cond b (finished (parts (with_runs (chosen_entries (parts s)) (copied s)))) (parts s)) calm);
  stands = λ t stands any. subst (λ (u : Mote). Stands s u) (boots_same t (stands.mote.standing ∙ calm)) stands;
}

-- the entries that the chosen side says are the release's
entries_are : (s : State) (m : StoredRelease) → Stores (chosen_side (parts s)) m → chosen_entries (parts s) ≡ m.placed
entries_are s m stores = ap (λ (x : StoredRelease). x.placed) (stored_again (chosen_side (parts s)) m stores)

-- the pages of the boot are those of the installation
pages_are : (s : State) (m : StoredRelease) → is_pending (parts s) ≡ true → Stores (chosen_side (parts s)) m → installed_pages m.placed ≡ boot_pages (parts s)
pages_are s m pending stores = λ i place. flip pending i && installed_pages (flip (entries_are s m stores) i) place

-- the mote is the one that the installation is meant for
installs_here : (s : State) (m : StoredRelease) (t : Mote) → is_pending (parts s) ≡ true → Stores (chosen_side (parts s)) m → Stands s t → Installs m t
installs_here s m t pending stores stands = (stands.mote.standing ∙ pending, release_one (chosen_side (parts s)) t.current.release m stands.mote.current.release stores)

-- where one stands, the installation is
pub pends_booted : (v : View) (s : State) (m : StoredRelease) → is_pending (parts s) ≡ true → Stores (chosen_side (parts s)) m
    → Becomes (finished (parts (with_runs m.placed (copied s)))) (Installs m) boots s v → Becomes (booted s) any_mote boots s v
pends_booted v s m pending stores done = record {
  end = done.end;
  told = done.told;
  parts_are = done.parts_are ∙ ap (λ (es : List Placed). finished (parts (with_runs es (copied s)))) (flip (entries_are s m stores))
      ∙ flip (ap (λ (b : Bool). cond b (finished (parts (with_runs (chosen_entries (parts s)) (copied s)))) (parts s)) pending);
  stands = λ t stands any. done.stands t stands (installs_here s m t pending stores stands);
}

pub pends_wear : (a b : View) (s : State) → is_pending (parts s) ≡ true → WearsProgram (IsBehind (parts s)) a b → WearsProgram (Lags (parts s)) a b
pends_wear a b s pending worn = record { once = worn.once; none = λ page free. worn.none page (λ behind. free (pending, behind)) }

-- what was started
pub has_started : (t : Mote) (n : ℕ) (s : State) (v : View) → Stands s t → n ≡ t.current.release.number → Becomes (booted s) any_mote boots s v → HasStarted t n v
has_started t n s v stands number done =
    let here = done.stands t stands tt in
    let calm = flip here.mote.standing in
    record {
      end = done.end;
      told = done.told;
      number = number;
      prog = image_is_the_chosens.boots (parts done.end) t.current here.sound calm here.mote.current;
      rests = calm;
      chosen = here.mote.current;
    }

-- a read alone
pub reads_each : (a b : View) (s : State) → a.state ≡ Some s → Reads a b → Takes (Step any_mote (boot_pages (parts s)) s) (boot_pages (parts s)) (boot_programs (is_pending (parts s))) a b
reads_each a b s told read =
    let may : Place → Bool = boot_pages (parts s) in
    takes_more (Step any_mote may s) may 0 (boot_programs (is_pending (parts s))) a b (omega arith) (takes_read (Step any_mote may s) may 0 a a b (takes_none any_mote may a s told) read)

-- a read, and then an installation
pub read_first : (a b c : View) (s : State) (m : StoredRelease) → Reads a b → a.state ≡ Some s → is_pending (parts s) ≡ true → Stores (chosen_side (parts s)) m
    → Takes (Step (Installs m) (installed_pages m.placed) s) (installed_pages m.placed) 1110 b c
    → Takes (Step any_mote (boot_pages (parts s)) s) (boot_pages (parts s)) (boot_programs (is_pending (parts s))) a c
read_first a b c s m read told pending stores run =
    subst (λ (n : ℕ). Takes (Step any_mote (boot_pages (parts s)) s) (boot_pages (parts s)) n a c) (flip (ap (λ (x : Bool). boot_programs x) pending))
    (subst (λ (may : Place → Bool). Takes (Step any_mote may s) may 1110 a c) (pages_are s m pending stores)
    (takes_takes any_mote (Installs m) (installed_pages m.placed) (installed_pages m.placed) 0 1110 a b c s s
    (takes_read (Step any_mote (installed_pages m.placed) s) (installed_pages m.placed) 0 a a b (takes_none any_mote (installed_pages m.placed) a s told) read) (read.state ∙ told) run
    (λ place barred. barred) (λ u stands any. (u, stands, installs_here s m u pending stores stands))))

-- the number of the chosen side's release
pub answers : (s : State) (t : Standing) → IsStanding (parts s) t → BootAnswers (Ok t.current.manifest.release) (parts s)
answers s t is = (standing_formatted (parts s) t is, (stored_of t.current, is.current, refl))
