-- What gates say after a page is programmed.
use Rattle.std.proofs.Common.{◌≡◌, ◌≢◌, inl, inr, ℕ, ◌<◌, ◌≤◌, ◌==◌, Bool, true, false, if◌then◌else◌, List, [], length, set, get_or, refl, ap, ◌∙◌, arith, get_or-set_same, get_or-set_other}
use Rattle.std.proofs.lemmas.Bool.Decides.{nat_tests}
use Rattle.std.proofs.lemmas.Bool.{cases_eq}
use Rattle.flash_pages.specs.State.{State, Ext, IsState, with_page}
use Rattle.external_flash.specs.declared.Gate.{Gate}
use Rattle.external_flash.specs.declared.Gate.TheVariants.{Fmt, Man, Sym, Rel, Img, GoA, GoB, Sel}
use Rattle.external_flash.specs.Gates.{gate_page, gate_place, opens, is_open, opened, closed, open_page, closed_page}

-- gates stand on the first eight pages
pub gate_below_eight : (gate : Gate) → gate_page gate < 8
gate_below_eight Fmt = omega arith
gate_below_eight Man = omega arith
gate_below_eight Sym = omega arith
gate_below_eight Rel = omega arith
gate_below_eight Img = omega arith
gate_below_eight GoA = omega arith
gate_below_eight GoB = omega arith
gate_below_eight Sel = omega arith

-- whether a page opens a gate, after one page is set
opens-set : (ext : List (List ℕ)) (p q : ℕ) (bytes : List ℕ) → p < length ext → opens (get_or (set ext p bytes) q []) ≡ (if q == p then opens bytes else opens (get_or ext q []))
opens-set ext p q bytes within = elim (cases_eq q p) [
  | inl same ↦ let held = get_or-set_same ext p bytes [] within in grind (arith, nat_tests)
  | inr other ↦ let kept = get_or-set_other ext p q bytes [] other in grind (arith, nat_tests)
]

-- after a program of a gate's page that gate is as the bytes say, and each other as before
pub is_open-gate_page : (s : State) (g gate : Gate) (bytes : List ℕ) → IsState s → is_open g (with_page s (gate_place gate) bytes) ≡ (if gate_page g == gate_page gate then opens bytes else is_open g s)
is_open-gate_page s g gate bytes is = let low = gate_below_eight gate in opens-set s.ext (gate_page gate) (gate_page g) bytes (omega (arith, is.ext))

-- a program of a page behind the gates leaves each gate as it is
pub is_open-other_page : (s : State) (g : Gate) (page : ℕ) (bytes : List ℕ) → 8 ≤ page → is_open g (with_page s (Ext page) bytes) ≡ is_open g s
is_open-other_page s g page bytes behind =
    let low = gate_below_eight g in
    let apart : gate_page g ≢ page = omega arith in
    ap (λ (l : List ℕ). opens l) (get_or-set_other s.ext page (gate_page g) bytes [] apart)

-- a gate that was opened is open
pub is_open-opened : (s : State) (gate : Gate) → IsState s → is_open gate (opened gate s) ≡ true
is_open-opened s gate is = go (is_open gate s) refl
  where
    go : (b : Bool) → is_open gate s ≡ b → is_open gate (opened gate s) ≡ true
    go true open_now = rw open_now open_now
    go false shut = rw shut (is_open-gate_page s gate gate open_page is ∙ grind (arith, nat_tests))

-- a gate that was closed isn't open
pub is_open-closed : (s : State) (gate : Gate) → IsState s → is_open gate (closed gate s) ≡ false
is_open-closed s gate is = go (is_open gate s) refl
  where
    go : (b : Bool) → is_open gate s ≡ b → is_open gate (closed gate s) ≡ false
    go true open_now = rw open_now (is_open-gate_page s gate gate closed_page is ∙ grind (arith, nat_tests))
    go false shut = rw shut shut
