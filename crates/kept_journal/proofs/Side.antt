-- Pages of a side that are read or written one after another.
use Rattle.std.proofs.Common.{◌≡◌, inl, inr, ℕ, ◌+◌, ◌≤◌, ◌<◌, Bool, true, false, cond, Option, Some, None, List, [], ◌∷◌, ◌++◌, length, take, drop, get_or, set, refl, sym as flip, ap, ap₂, ◌∙◌, subst, arith, length-drop, get_or-set_same, length-set}
use Rattle.std.specs.Prelude.{IfSome, IfNone, is_some, ◌&&◌}
use Rattle.std.specs.List.{concat}
use Rattle.std.specs.Option.{option_map}
use Rattle.std.proofs.lemmas.Bool.{both_ways}
use Rattle.std.proofs.lemmas.List.{take_more, take_all, take-set-le, get_or-take, get_or-drop, length-take-le}
use Rattle.flash_pages.specs.State.{State}
use Rattle.kept_manifests.specs.declared.pages.SlotManifest.{SlotManifest}
use Rattle.kept_definitions.specs.Stored.{Stores}
use Rattle.kept_manifests.specs.Slots.{stored_of}
use Rattle.kept_definitions.specs.Sides.{Parts, is_on_b, chosen_side, is_pending}
use Rattle.component_package.specs.mote.Sides.{pages_from, man, img}
use Rattle.kept_laws.specs.Standing.{IsNoRelease, IsUnformatted, IsIncoming}
use Rattle.kept_journal.specs.declared.standing.Side.{Side}
use Rattle.kept_journal.specs.declared.standing.Flags.{Flags}
use Rattle.kept_journal.specs.declared.standing.Standing.{Standing}
use Rattle.kept_definitions.specs.Sound.{IsSound}
use Rattle.kept_definitions.specs.Machine.{Mote}
use Rattle.kept_definitions.specs.Headline.{has_incoming, is_linked, StandsFor}
use Rattle.kept_laws.proofs.Standing.{sound_parts_tell}
use Rattle.kept_journal.specs.Standing.{IsStanding, IsOfMote, incoming_of, SideSays, FlagsSay, StoresRelease, side_bytes}
use Rattle.kept_journal.specs.Steps.{parts}

-- the first page of a side
abbrev pub first_of : Bool → ℕ
first_of on_b = cond on_b 13 8

-- ---- reading

-- one page more
pub read_more : (first i : ℕ) (pages ext : List (List ℕ)) (x : List ℕ) → length pages ≡ 5 → i < 5 → first + 5 ≤ length ext → take i pages ≡ take i (pages_from first 5 ext) → x ≡ get_or ext (first + i) []
    → take (i + 1) (set pages i x) ≡ take (i + 1) (pages_from first 5 ext)
read_more first i pages ext x size within fits before is =
    let area : List (List ℕ) = pages_from first 5 ext in
    let area_size : length area ≡ 5 = length-take-le 5 (drop first ext) (omega (arith, length-drop first ext)) in
    let there : get_or area i [] ≡ x = get_or-take 5 (drop first ext) i [] within ∙ get_or-drop first ext i [] ∙ flip is in
    let held : get_or (set pages i x) i [] ≡ x = get_or-set_same pages i x [] (omega (arith, size)) in
    take_more (set pages i x) i [] (omega (arith, length-set pages i x, size))
    ∙ ap₂ (λ (l : List (List ℕ)) (y : List ℕ). l ++ y ∷ []) (take-set-le i pages i x (omega arith) ∙ before) (held ∙ flip there)
    ∙ flip (take_more area i [] (omega (arith, area_size)))

-- all five
pub read_all : (first i : ℕ) (pages ext : List (List ℕ)) → length pages ≡ 5 → i ≡ 5 → first + 5 ≤ length ext → take i pages ≡ take i (pages_from first 5 ext) → pages ≡ pages_from first 5 ext
read_all first i pages ext size all fits before =
    let area : List (List ℕ) = pages_from first 5 ext in
    let area_size : length area ≡ 5 = length-take-le 5 (drop first ext) (omega (arith, length-drop first ext)) in
    flip (take_all i pages (omega (arith, size))) ∙ before ∙ take_all i area (omega (arith, area_size))

-- the bytes of a side
pub side_is : (on_b : Bool) (first : ℕ) (s : State) → first ≡ cond on_b 13 8 → concat (pages_from first 5 s.ext) ≡ side_bytes on_b (parts s)
side_is true first s is = ap (λ (n : ℕ). concat (pages_from n 5 s.ext)) is
side_is false first s is = ap (λ (n : ℕ). concat (pages_from n 5 s.ext)) is

pub stores_release : (b : List ℕ) (o : Option SlotManifest) → IfSome o (λ m. Stores b (stored_of m)) → IfNone o (IsNoRelease b) → StoresRelease b o
stores_release b None some none = none
stores_release b (Some m) some none = some

-- ---- what was read

pub side_none : (p : Parts) → SideSays None p → IsUnformatted p
side_none p (inl shut) = inl shut
side_none p (inr both) = inr (inl both)

-- the bytes of the chosen side
chosen_bytes : (p : Parts) (on_b : Bool) → on_b ≡ is_on_b p → side_bytes on_b p ≡ chosen_side p
chosen_bytes p on_b is = ap (λ (b : Bool). cond b p.side_b p.side_a) is

pub release_none : (p : Parts) (side : Side) → SideSays (Some side) p → StoresRelease (side_bytes side.on_b p) None → IsUnformatted p
release_none p side says none = inr (inr (subst IsNoRelease (chosen_bytes p side.on_b says.2) none))

pub standing_is : (p : Parts) (side : Side) (current : SlotManifest) (incoming : Option SlotManifest) (flags : Flags) → SideSays (Some side) p → StoresRelease (side_bytes side.on_b p) (Some current)
    → IsIncoming p (option_map stored_of incoming) → FlagsSay (is_some incoming) flags p
    → IsStanding p (record { on_b = side.on_b; pending = side.pending; symbols = flags.symbols; relocs = flags.relocs; image = flags.image; current = current; incoming = incoming })
standing_is p side current incoming flags says stores comes gates = record {
  formatted = says.0;
  one_go = says.1;
  on_b = says.2;
  pending = says.3;
  current = subst (λ (b : List ℕ). Stores b (stored_of current)) (chosen_bytes p side.on_b says.2) stores;
  incoming = comes;
  symbols = gates.0;
  relocs = gates.1;
  image = gates.2;
}

-- parts of which this is read aren't unformatted
pub standing_formatted : (p : Parts) (t : Standing) → IsStanding p t → IsUnformatted p → ⊥
standing_formatted p t is (inl shut) = both_ways (p.gates 0) shut is.formatted
standing_formatted p t is (inr (inl both)) = both_ways (p.gates 6) (is.one_go both.0) both.1
standing_formatted p t is (inr (inr none)) = none (stored_of t.current) is.current

-- where something comes in no commit stands
calm_where_incoming : (p : Parts) → has_incoming p ≡ true → is_pending p ≡ false
calm_where_incoming p has = at (is_pending p) refl has
  where
    at : (b : Bool) → is_pending p ≡ b → cond b false (p.gates man) ≡ true → is_pending p ≡ false
    at true is h = absurd cc
    at false is h = is

-- the gate Img of what comes in says whether it is linked
linked_is : (p : Parts) (t : Mote) (o : Option SlotManifest) → IsSound p → StandsFor p t → IsIncoming p (option_map stored_of o) → (is_some o && p.gates img) ≡ is_linked p
linked_is p t None sound stands comes = go (is_linked p) refl
  where
    go : (b : Bool) → is_linked p ≡ b → false ≡ is_linked p
    go true is = let (m, none) = sound_parts_tell.linked p t None sound stands comes is in absurd cc
    go false is = flip is
linked_is p t (Some m) sound stands comes = flip (ap (λ (b : Bool). cond b false (p.gates img)) (calm_where_incoming p comes.0))

pub of_mote : (p : Parts) (t : Mote) (x : Standing) → IsSound p → StandsFor p t → IsStanding p x → IsOfMote t x
of_mote p t x sound stands is = record {
  current = sound_parts_tell.current p t (stored_of x.current) stands is.current;
  incoming = sound_parts_tell.incoming p t (incoming_of x) sound stands is.incoming;
  linked = is.image ∙ linked_is p t x.incoming sound stands is.incoming ∙ flip stands.linked;
  standing = is.pending ∙ flip stands.standing;
}
