-- Pages of the other side that are written one after another.
use Rattle.std.proofs.Common.{◌≡◌, inl, inr, ℕ, ◌+◌, ◌-◌, ◌*◌, ◌≤◌, ◌<◌, Bool, true, false, cond, not, Option, Some, None, List, [], ◌∷◌, ◌++◌, length, take, drop, get_or, set, refl, sym as flip, ap, ap₂, ◌∙◌, subst, arith, slice_range, length-drop, length-set, get_or-set_same}
use Rattle.std.specs.List.{concat}
use Rattle.std.proofs.lemmas.Bool.Decides.{nat_tests}
use Rattle.std.proofs.lemmas.Bool.{both_ways}
use Rattle.std.proofs.lemmas.List.{take_more, take_all, take-set-le, append-nil, length-take-le}
use Rattle.std.proofs.lemmas.List.Folds.{concat-append}
use Rattle.flash_pages.specs.State.{State, Ext, MayHold, with_page}
use Rattle.flash_pages.specs.Board.{View, Programs}
use Rattle.kept_definitions.specs.Stored.{StoredRelease, IsStored, stored_bytes}
use Rattle.component_package.proofs.StoredLemmas.{take_further}
use Rattle.kept_manifests.proofs.StoredLemmas.{length-stored}
use Rattle.kept_definitions.specs.Sides.{Parts, is_on_b, is_pending}
use Rattle.component_package.specs.mote.Sides.{pages_from, man}
use Rattle.kept_definitions.specs.Sound.{IsSound}
use Rattle.kept_definitions.specs.Machine.{Mote}
use Rattle.kept_definitions.specs.Headline.{has_incoming, StandsForIncoming, StandsFor}
use Rattle.kept_laws.specs.Steps.{with_other_side, Keeps}
use Rattle.kept_laws.proofs.Steps.{writing_keeps}
use Rattle.kept_laws.proofs.Stands.{resting_steps_stand}
use Rattle.kept_laws.proofs.Programs.{each_page_is_in_one_part}
use Rattle.mote_laws.proofs.Programs.{pages_within}
use Rattle.kept_journal.specs.Steps.{parts, Stands, Step, Takes, Becomes, CanWrite, stays, with_side, side_pages}
use Rattle.kept_journal.proofs.Takes.{keeps_same, takes_program, becomes}

-- the first page of a side
abbrev pub first_of : Bool → ℕ
first_of on_b = cond on_b 13 8

-- the pages of a side
abbrev pub area_of : Bool → State → List (List ℕ)
area_of on_b s = pages_from (first_of on_b) 5 s.ext

-- the side that isn't chosen
pub other_is : (on_b : Bool) (bytes : List ℕ) (p : Parts) → on_b ≡ not (is_on_b p) → with_side on_b bytes p ≡ with_other_side bytes p
other_is on_b bytes p is = go (is_on_b p) refl
  where
    go : (b : Bool) → is_on_b p ≡ b → with_side on_b bytes p ≡ with_other_side bytes p
    go true at = ap₂ (λ (x y : Bool). record p { side_a = cond x p.side_a bytes; side_b = cond y bytes p.side_b }) (is ∙ ap not at) (is ∙ ap not at)
        ∙ flip (ap (λ (x : Bool). record p { side_a = cond x bytes p.side_a; side_b = cond x p.side_b bytes }) at)
    go false at = ap₂ (λ (x y : Bool). record p { side_a = cond x p.side_a bytes; side_b = cond y bytes p.side_b }) (is ∙ ap not at) (is ∙ ap not at)
        ∙ flip (ap (λ (x : Bool). record p { side_a = cond x bytes p.side_a; side_b = cond x p.side_b bytes }) at)

-- the bytes of a side are its own
side_own : (on_b : Bool) (s : State) → parts s ≡ with_side on_b (concat (area_of on_b s)) (parts s)
side_own true s = refl
side_own false s = refl

-- the later bytes stay
side_twice : (on_b : Bool) (x y : List ℕ) (p : Parts) → with_side on_b x (with_side on_b y p) ≡ with_side on_b x p
side_twice true x y p = refl
side_twice false x y p = refl

-- page i of a side
side_page : (on_b : Bool) (page i : ℕ) (s : State) (bytes : List ℕ) → page ≡ first_of on_b + i → i < 5 → parts (with_page s (Ext page) bytes) ≡ with_side on_b (concat (set (area_of on_b s) i bytes)) (parts s)
side_page true page i s bytes is within =
    let at : page - 13 ≡ i = omega (arith, is) in
    each_page_is_in_one_part.side_b s.prog s.ext page bytes (omega (arith, is)) (omega (arith, is)) ∙ ap (λ (n : ℕ). with_side true (concat (set (area_of true s) n bytes)) (parts s)) at
side_page false page i s bytes is within =
    let at : page - 8 ≡ i = omega (arith, is) in
    each_page_is_in_one_part.side_a s.prog s.ext page bytes (omega (arith, is)) (omega (arith, is)) ∙ ap (λ (n : ℕ). with_side false (concat (set (area_of false s) n bytes)) (parts s)) at

area_page : (on_b : Bool) (page i : ℕ) (s : State) (bytes : List ℕ) → page ≡ first_of on_b + i → i < 5 → area_of on_b (with_page s (Ext page) bytes) ≡ set (area_of on_b s) i bytes
area_page on_b page i s bytes is within =
    let at : page - first_of on_b ≡ i = omega (arith, is) in
    pages_within (first_of on_b) 5 s.ext page bytes (omega (arith, is)) (omega (arith, is)) ∙ ap (λ (n : ℕ). set (area_of on_b s) n bytes) at

page_allowed : (on_b : Bool) (page i : ℕ) → page ≡ first_of on_b + i → i < 5 → side_pages on_b (Ext page) ≡ true
page_allowed true page i is within = grind (arith, nat_tests)
page_allowed false page i is within = grind (arith, nat_tests)

-- a page of the other side may be written while Man is closed
writes_other : (on_b : Bool) (bytes : List ℕ) (p : Parts) → IsSound p → is_pending p ≡ false → p.gates man ≡ false → on_b ≡ not (is_on_b p) → Keeps p (with_side on_b bytes p)
writes_other on_b bytes p sound calm shut is = subst (Keeps p) (flip (other_is on_b bytes p is)) (writing_keeps.side p bytes sound calm shut)

-- the first i pages of the side are those of these bytes, and the other parts are as they were
pub record Written (on_b : Bool) (i : ℕ) (bytes : List ℕ) (s : State) (v : View) : Type 0 where
  pub end : State
  pub told : v.state ≡ Some end
  pub parts_are : parts end ≡ with_side on_b (concat (area_of on_b end)) (parts s)
  pub front : concat (take i (area_of on_b end)) ≡ take (256 * i) bytes

pub written_starts : (on_b : Bool) (bytes : List ℕ) (s : State) (v : View) → v.state ≡ Some s → Written on_b 0 bytes s v
written_starts on_b bytes s v told = record { end = s; told = told; parts_are = side_own on_b s; front = refl }

module _ (on_b : Bool) (i page : ℕ) (needed : State → Type 0) (bytes piece : List ℕ) (a b c : View) (s : State) (written : Written on_b i bytes s b) (is : page ≡ first_of on_b + i) (within : i < 5) where
  abbrev pub meant : Mote → Type 0
  meant = CanWrite on_b (parts s)

  abbrev pub t : State
  t = written.end

  module _ (run : Takes (Step meant (side_pages on_b) s) (side_pages on_b) i a b) (program : Programs needed (Ext page) b c) where
    keeps_page : (y : State) → MayHold needed (Ext page) t y → (u : Mote) → Stands s u → meant u → IsSound (parts t) → Keeps (parts t) (parts y)
    keeps_page y (inl same) u stands m sound = subst (λ (x : State). Keeps (parts t) (parts x)) (flip same) (keeps_same (parts t) sound)
    keeps_page y (inr spoilt) u stands m sound =
        subst (λ (x : State). Keeps (parts t) (parts x)) (flip spoilt.1.is)
        (subst (Keeps (parts t)) (flip (side_page on_b page i t spoilt.1.bytes is within))
        (writes_other on_b (concat (set (area_of on_b t) i spoilt.1.bytes)) (parts t) sound
        (ap is_pending written.parts_are ∙ flip stands.mote.standing ∙ m.0)
        (ap (λ (p : Parts). p.gates man) written.parts_are ∙ m.1)
        (m.2 ∙ ap not (flip (ap is_on_b written.parts_are)))))

    pub wrote_page : Takes (Step meant (side_pages on_b) s) (side_pages on_b) (i + 1) a c
    wrote_page = takes_program meant (side_pages on_b) i needed (Ext page) a b c s t run written.told (page_allowed on_b page i is within) program keeps_page

  pub written_more : c.state ≡ Some (with_page t (Ext page) piece) → piece ≡ slice_range bytes (256 * i) (256 * i + 256) → Written on_b (i + 1) bytes s c
  written_more told_c piece_is =
      let sizes = b.sizes t written.told in
      let area = area_of on_b t in
      let next : State = with_page t (Ext page) piece in
      let area_is : area_of on_b next ≡ set area i piece = area_page on_b page i t piece is within in
      let area_size : length area ≡ 5 = length-take-le 5 (drop (first_of on_b) t.ext) (omega (arith, length-drop (first_of on_b) t.ext, sizes.ext, first_small on_b)) in
      let held : get_or (set area i piece) i [] ≡ piece = get_or-set_same area i piece [] (omega (arith, area_size)) in
      let n : 256 * i + 256 - 256 * i ≡ 256 = omega arith in
      let more : 256 * (i + 1) ≡ 256 * i + 256 = omega arith in
      record {
        end = next;
        told = told_c;
        parts_are = side_page on_b page i t piece is within ∙ ap₂ (λ (l : List (List ℕ)) (p : Parts). with_side on_b (concat l) p) (flip area_is) written.parts_are
            ∙ side_twice on_b (concat (area_of on_b next)) (concat area) (parts s);
        front = ap (λ (l : List (List ℕ)). concat (take (i + 1) l)) area_is
            ∙ ap concat (take_more (set area i piece) i [] (omega (arith, length-set area i piece, area_size)))
            ∙ concat-append (take i (set area i piece)) (get_or (set area i piece) i [] ∷ [])
            ∙ ap₂ (λ (x y : List ℕ). x ++ y) (ap concat (take-set-le i area i piece (omega arith)) ∙ written.front) (append-nil (get_or (set area i piece) i []) ∙ held ∙ piece_is ∙ ap (λ (k : ℕ). take k (drop (256 * i) bytes)) n)
            ∙ flip (take_further bytes (256 * i) 256) ∙ ap (λ (k : ℕ). take k bytes) (flip more);
      }
    where
      first_small : (x : Bool) → first_of x ≤ 13
      first_small true = omega arith
      first_small false = omega arith

-- nothing comes in where Man is closed
nothing_comes : (p : Parts) (u : Mote) → StandsFor p u → p.gates man ≡ false → u.incoming ≡ None
nothing_comes p u stands shut = at u.incoming stands.incoming
  where
    none : (b : Bool) → cond b false (p.gates man) ≡ false
    none true = refl
    none false = shut

    at : (o : Option StoredRelease) → StandsForIncoming p o → o ≡ None
    at None is = refl
    at (Some m) is = absurd (both_ways (has_incoming p) (none (is_pending p)) is.0)

-- all five pages
pub side_written : (on_b : Bool) (i : ℕ) (m : StoredRelease) (a b : View) (s : State) → IsStored m → i ≡ 5 → Takes (Step (CanWrite on_b (parts s)) (side_pages on_b) s) (side_pages on_b) i a b → Written on_b i (stored_bytes m) s b
    → Becomes (with_side on_b (stored_bytes m) (parts s)) (CanWrite on_b (parts s)) stays s b
side_written on_b i m a b s stored all run written =
    let sizes = b.sizes written.end written.told in
    let area = area_of on_b written.end in
    let area_size : length area ≡ 5 = length-take-le 5 (drop (first_of on_b) written.end.ext) (omega (arith, length-drop (first_of on_b) written.end.ext, sizes.ext, first_small on_b)) in
    let size : length (stored_bytes m) ≡ 1280 = length-stored m stored in
    let bytes : concat area ≡ stored_bytes m = ap concat (flip (take_all i area (omega (arith, area_size)))) ∙ written.front ∙ take_all (256 * i) (stored_bytes m) (omega (arith, size)) in
    becomes (CanWrite on_b (parts s)) (side_pages on_b) i stays (with_side on_b (stored_bytes m) (parts s)) s written.end a b run written.told
    (written.parts_are ∙ ap (λ (l : List ℕ). with_side on_b l (parts s)) bytes)
    (λ u stands can sound. subst (λ (p : Parts). StandsFor p u) (flip (other_is on_b (stored_bytes m) (parts s) can.2))
    (resting_steps_stand.side (parts s) u (stored_bytes m) stands.mote (nothing_comes (parts s) u stands.mote can.1)))
  where
    first_small : (x : Bool) → first_of x ≤ 13
    first_small true = omega arith
    first_small false = omega arith
