-- From pages of a board to parts of a mote.
use Rattle.std.proofs.Common.{◌≡◌, inl, inr, ℕ, Bool, true, false, cond, List, refl, sym as flip, ap, ◌∙◌, subst, arith}
use Rattle.flash_pages.specs.State.{State, IsState, MayHold, with_page}
use Rattle.external_flash.specs.declared.Gate.{Gate}
use Rattle.external_flash.specs.declared.Gate.TheVariants.{Fmt, Man, Sym, Rel, Img, GoA, GoB, Sel}
use Rattle.external_flash.specs.Gates.{gate_page, gate_place, opens, is_open, opened, closed, open_page, closed_page}
use Rattle.external_flash.proofs.GateLemmas.{gate_below_eight}
use Rattle.kept_definitions.specs.Sides.{Parts}
use Rattle.kept_laws.specs.Steps.{with_gate}
use Rattle.kept_laws.proofs.Programs.{each_page_is_in_one_part}
use Rattle.kept_laws.proofs.Standing.{gates_stay}
use Rattle.kept_journal.specs.Steps.{parts}

-- a gate of the parts is the gate of that page
pub gate_known : (gate : Gate) (s : State) → (parts s).gates (gate_page gate) ≡ is_open gate s
gate_known Fmt s = refl
gate_known Man s = refl
gate_known Sym s = refl
gate_known Rel s = refl
gate_known Img s = refl
gate_known GoA s = refl
gate_known GoB s = refl
gate_known Sel s = refl

-- a gate's page that is programmed
pub parts_gate : (s : State) (gate : Gate) (bytes : List ℕ) → IsState s → parts (with_page s (gate_place gate) bytes) ≡ with_gate (gate_page gate) (opens bytes) (parts s)
parts_gate s gate bytes is = let low = gate_below_eight gate in each_page_is_in_one_part.gate s.prog s.ext (gate_page gate) bytes (omega arith) (omega (arith, is.ext))

-- a gate that stands so already
parts_same : (s : State) (gate : Gate) (b : Bool) → is_open gate s ≡ b → parts s ≡ with_gate (gate_page gate) b (parts s)
parts_same s gate b is = flip (gates_stay (parts s) (gate_page gate)) ∙ ap (λ (x : Bool). with_gate (gate_page gate) x (parts s)) (gate_known gate s ∙ is)

pub parts_closed : (s : State) (gate : Gate) → IsState s → parts (closed gate s) ≡ with_gate (gate_page gate) false (parts s)
parts_closed s gate is = go (is_open gate s) refl
  where
    go : (b : Bool) → is_open gate s ≡ b → parts (closed gate s) ≡ with_gate (gate_page gate) false (parts s)
    go true was = ap (λ (b : Bool). parts (cond b (with_page s (gate_place gate) closed_page) s)) was ∙ parts_gate s gate closed_page is
    go false was = ap (λ (b : Bool). parts (cond b (with_page s (gate_place gate) closed_page) s)) was ∙ parts_same s gate false was

pub parts_opened : (s : State) (gate : Gate) → IsState s → parts (opened gate s) ≡ with_gate (gate_page gate) true (parts s)
parts_opened s gate is = go (is_open gate s) refl
  where
    go : (b : Bool) → is_open gate s ≡ b → parts (opened gate s) ≡ with_gate (gate_page gate) true (parts s)
    go true was = ap (λ (b : Bool). parts (cond b s (with_page s (gate_place gate) open_page))) was ∙ parts_same s gate true was
    go false was = ap (λ (b : Bool). parts (cond b s (with_page s (gate_place gate) open_page))) was ∙ parts_gate s gate open_page is

-- a program of a gate, from a state of whose parts Q holds
pub gate_step : (Q : Parts → Type 0) (needed : State → Type 0) (gate : Gate) (s y : State) → IsState s → Q (parts s) → ((b : Bool) → needed s → Q (with_gate (gate_page gate) b (parts s))) → MayHold needed (gate_place gate) s y → Q (parts y)
gate_step Q needed gate s y is here step (inl same) = subst (λ (x : State). Q (parts x)) (flip same) here
gate_step Q needed gate s y is here step (inr spoilt) =
    subst (λ (x : State). Q (parts x)) (flip spoilt.1.is) (subst Q (flip (parts_gate s gate spoilt.1.bytes is)) (step (opens spoilt.1.bytes) spoilt.0))
