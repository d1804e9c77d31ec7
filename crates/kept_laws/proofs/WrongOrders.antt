-- What wrong orders would leave: each of these is refused.
use Rattle.std.proofs.Common.{◌≡◌, ℕ, true, false, List, [], ◌∷◌, ◌++◌, length, cond, Bool, ap, sym as flip, subst, ◌∙◌, arith, length-append}
use Rattle.std.proofs.lemmas.List.{append-nil}
use Rattle.component_package.specs.packages.Component.{Component}
use Rattle.component_package.specs.mote.Sides.{go_a, go_b, sel}
use Rattle.kept_definitions.specs.Stored.{Placed, StoredRelease, Stores}
use Rattle.kept_definitions.specs.Sides.{Parts, is_on_b, chosen_side, is_pending, kept_set, going_set}
use Rattle.kept_definitions.specs.Sound.{IsSound, IsInstalled, IsGoing}
use Rattle.kept_definitions.specs.Runs.{run_of, run_in_package}
use Rattle.kept_definitions.specs.Kept.{table_run, going_run}
use Rattle.kept_laws.specs.Laws.{AreAll, IsInTable, HasGoingRun}
use Rattle.kept_laws.specs.Steps.{with_gate, chosen_go}
use Rattle.kept_laws.proofs.Reading.{length-run}
use Rattle.kept_laws.proofs.Sets.{kept_is_the_set, going_is_the_set}
use Rattle.kept_laws.proofs.Stored.{release_one}
use Rattle.kept_laws.proofs.Steps.{finished}

-- a run has bytes
no_run : (c : Component) (rest : List ℕ) → [] ≡ run_of c ++ rest → ⊥
no_run c rest e = let size : 0 ≡ length (run_of c ++ rest) = ap length e in omega (arith, size, length-append (run_of c) rest, length-run c)

-- no table slot, no component
no_table : (p : Placed) (ps : List Placed) (cs : List Component) → AreAll (IsInTable []) (p ∷ ps) cs → ⊥
no_table p ps [] all = all
no_table p ps (c ∷ cs) all = no_run c all.0.run.rest all.0.run.is

-- without tables no release with a component is installed
none_installed : (prog : List (List ℕ)) (side : List ℕ) (m : StoredRelease) (p : Placed) (ps : List Placed) → Stores side m → m.placed ≡ p ∷ ps → IsInstalled [] prog side → ⊥
unfolding IsInstalled
none_installed prog side m p ps stores is (n, stores_n, hold, pages) =
    let same : n ≡ m = release_one side n m stores_n stores in
    let entries : n.placed ≡ p ∷ ps = ap (λ (x : StoredRelease). x.placed) same ∙ is in
    no_table p ps (kept_set [] prog n) (subst (λ (xs : List Placed). AreAll (IsInTable []) xs (kept_set [] prog n)) entries (kept_is_the_set.found [] prog n hold))

-- so the Go gate closed before the runs are in the tables leaves an unsound mote, whatever program flash holds
pub early_finish : (p : Parts) (m : StoredRelease) (q : Placed) (qs : List Placed) → IsSound p → is_pending p ≡ true → p.gates sel ≡ is_on_b p → Stores (chosen_side p) m → m.placed ≡ q ∷ qs
    → p.tables ≡ [] → IsSound (with_gate (chosen_go p) false p) → ⊥
early_finish p m q qs sound pending at stores is none after =
    let shows = finished p false sound pending at in
    let installed = (after.rest shows.1).installed in
    none_installed p.prog (chosen_side p) m q qs stores is
    (subst (λ (t : List (List ℕ)). IsInstalled t p.prog (chosen_side p)) none (subst (λ (side : List ℕ). IsInstalled p.tables p.prog side) shows.0 installed))

-- ---- what is being installed

-- an empty slot has no run
no_inbox : (p : Placed) (ps : List Placed) (cs : List Component) → p.fresh ≡ true → AreAll (HasGoingRun [] []) (p ∷ ps) cs → ⊥
no_inbox p ps [] fresh all = all
no_inbox p ps (c ∷ cs) fresh all =
    let none : going_run [] [] p ≡ [] = ap (λ (b : Bool). cond b (run_in_package []) (table_run [] p)) fresh in
    no_run c [] (flip none ∙ all.0.run ∙ flip (append-nil (run_of c)))

-- without inbox and tables no release whose first component comes in can be installed
none_goes : (staged : List (List ℕ)) (side : List ℕ) (m : StoredRelease) (p : Placed) (ps : List Placed) → Stores side m → m.placed ≡ p ∷ ps → p.fresh ≡ true
    → IsGoing [] [] staged side → ⊥
unfolding IsGoing
none_goes staged side m p ps stores is fresh (n, stores_n, hold, pages) =
    let same : n ≡ m = release_one side n m stores_n stores in
    let entries : n.placed ≡ p ∷ ps = ap (λ (x : StoredRelease). x.placed) same ∙ is in
    no_inbox p ps (going_set [] [] staged n) fresh
    (subst (λ (xs : List Placed). AreAll (HasGoingRun [] []) xs (going_set [] [] staged n)) entries (going_is_the_set.found [] [] staged n hold))

-- so the inbox cleared while a commit stands leaves an unsound mote, where the tables don't have its runs yet
early_clearing : (p : Parts) (m : StoredRelease) (q : Placed) (qs : List Placed) → is_pending p ≡ true → Stores (chosen_side p) m → m.placed ≡ q ∷ qs → q.fresh ≡ true
    → p.tables ≡ [] → IsSound (record p { inbox = [] }) → ⊥
early_clearing p m q qs pending stores is fresh none after =
    none_goes p.staged (chosen_side p) m q qs stores is fresh (subst (λ (t : List (List ℕ)). IsGoing t [] p.staged (chosen_side p)) none (after.going pending))

-- ---- which side is chosen

-- the Go gate closed before Sel is brought over: the former side is chosen again, over the new one's program flash
early_end : (p : Parts) → p.gates go_a ≡ false → p.gates go_b ≡ true → p.gates sel ≡ false → (chosen_side p ≡ p.side_b) × (chosen_side (with_gate go_b false p) ≡ p.side_a)
early_end p no_a b no_sel = (grind arith, grind arith)

-- Sel brought over before the Go gate is open: the other side is chosen with no image
early_selection : (p : Parts) → p.gates go_a ≡ false → p.gates go_b ≡ false → p.gates sel ≡ false → chosen_side (with_gate sel true p) ≡ p.side_b
early_selection p no_a no_b no_sel = grind arith
