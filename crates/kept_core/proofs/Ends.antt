-- END is the one frame that has the answer of an end.
use Rattle.std.proofs.Common.{[], ◌≡◌, ℕ, Bool, true, false, not, cond, eqb, ltb, List, length, drop, Option, Some, None, refl, slice_get, arith}
use Rattle.std.specs.Prelude.{slice_index, slice_index_or, slice_range}
use Rattle.std.proofs.lemmas.Bool.Decides.{nat_tests}
use Rattle.component_package.specs.declared.answer.Answer.TheVariants.{Ended}
use Rattle.component_package.specs.declared.manifest.ManifestFault.{ManifestFault}
use Rattle.kept_definitions.specs.Stored.{StoredRelease, Placed}
use Rattle.component_package.specs.packages.Manifest.{Release, manifest_fault, release_in}
use Rattle.component_package.specs.mote.Store.{SetFault, Missing, BadPackage, is_same}
use Rattle.kept_definitions.specs.Kept.{set_fault, coming_set}
use Rattle.component_package.specs.link.Link.{Cause, FlashFull, RamFull, Symbols, Relocations, Duplicate, Undefined, Range, link_cause}
use Rattle.component_package.specs.mote.Frames.{Frame, is_end}
use Rattle.component_package.specs.mote.Page.{filled_page}
use Rattle.kept_definitions.specs.Machine.{Mote, Step, unless_standing, is_incoming, take_manifest, take_piece, take_piece_of, link_set, link_held, link_incoming, commit_incoming, step}
use Rattle.component_package.specs.mote.Machine.{is_bad_frame, is_piece_of}

-- the step isn't the end of the session
abbrev GoesOn : Step → Type 0
GoesOn x = x.answer ≡ Ended → ⊥

both : (b : Bool) (x y : Step) → GoesOn x → GoesOn y → GoesOn (cond b x y)
both true x y first second = first
both false x y first second = second

module _ (s : Mote) where
  standing_goes : (x : Step) → GoesOn x → GoesOn (unless_standing s x)
  standing_goes x goes = both s.standing _ _ (λ e. cc) goes

  manifest_goes : (fault : Option ManifestFault) (r : Release) → GoesOn (take_manifest s fault r)
  manifest_goes (Some fault) r = λ e. cc
  manifest_goes None r = both (not (ltb s.current.release.number r.number)) _ _ (λ e. cc) (both (is_incoming s.incoming r) _ _ (λ e. cc) (λ e. cc))

  piece_of_goes : (payload : List ℕ) (p : Option Placed) → GoesOn (take_piece_of s payload p)
  piece_of_goes payload None = λ e. cc
  piece_of_goes payload (Some p) =
      both (is_piece_of p.entry.length (slice_index payload 1) (drop 2 payload)) _ _
      (both (not p.fresh) _ _ (λ e. cc)
      (both (is_same (slice_range (slice_index_or s.inbox p.slot []) _ _) (filled_page (drop 2 payload))) _ _ (λ e. cc) (λ e. cc)))
      (λ e. cc)

  piece_goes : (payload : List ℕ) (incoming : Option StoredRelease) → GoesOn (take_piece s payload incoming)
  piece_goes payload None = λ e. cc
  piece_goes payload (Some m) = both (ltb (length payload) 3) _ _ (λ e. cc) (piece_of_goes payload (slice_get m.placed (slice_index payload 0)))

  cause_goes : (n : ℕ) (cause : Option Cause) → GoesOn (link_set s n cause)
  cause_goes n None = λ e. cc
  cause_goes n (Some (FlashFull t)) = λ e. cc
  cause_goes n (Some (RamFull t)) = λ e. cc
  cause_goes n (Some (Symbols k)) = λ e. cc
  cause_goes n (Some (Relocations k)) = λ e. cc
  cause_goes n (Some (Duplicate a i j)) = λ e. cc
  cause_goes n (Some (Undefined k r a)) = λ e. cc
  cause_goes n (Some (Range k r c)) = λ e. cc

  held_goes : (m : StoredRelease) (fault : Option SetFault) → GoesOn (link_held s m fault)
  held_goes m (Some (Missing k)) = λ e. cc
  held_goes m (Some (BadPackage k n)) = λ e. cc
  held_goes m None = cause_goes m.number (link_cause (coming_set s.current s.inbox m))

  link_goes : (incoming : Option StoredRelease) → GoesOn (link_incoming s incoming)
  link_goes None = λ e. cc
  link_goes (Some m) = both s.linked _ _ (λ e. cc) (held_goes m (set_fault s.inbox m))

  commit_goes : (incoming : Option StoredRelease) → GoesOn (commit_incoming s incoming)
  commit_goes None = λ e. cc
  commit_goes (Some m) = both s.linked _ _ (λ e. cc) (λ e. cc)

-- of the frames with a type that there is, and nothing in them where nothing belongs, the last is END
last_is_end : (f : Frame) → is_bad_frame f ≡ false → eqb f.kind 1 ≡ false → eqb f.kind 2 ≡ false → eqb f.kind 3 ≡ false → eqb f.kind 4 ≡ false → eqb f.kind 5 ≡ false → eqb f.kind 6 ≡ false
    → eqb f.kind 7 ≡ false → is_end f ≡ true
last_is_end f bad one two three four five six seven = grind (arith, nat_tests)

split : (P : Step → Type 0) (b : Bool) (x y : Step) → (b ≡ true → P x) → (b ≡ false → P y) → P (cond b x y)
split P true x y then_x else_y = then_x refl
split P false x y then_x else_y = else_y refl

pub ended_is_end : (s : Mote) (f : Frame) → (step s f).answer ≡ Ended → is_end f ≡ true
ended_is_end s f =
    let P : Step → Type 0 = λ x. x.answer ≡ Ended → is_end f ≡ true in
    split P (is_bad_frame f) _ _ (λ bad e. absurd (let q : ⊥ = cc in q)) (λ good.
    split P (eqb f.kind 1) _ _ (λ k e. absurd (standing_goes s _ (manifest_goes s (manifest_fault f.payload) (release_in f.payload)) e)) (λ one.
    split P (eqb f.kind 2) _ _ (λ k e. absurd (standing_goes s _ (piece_goes s f.payload s.incoming) e)) (λ two.
    split P (eqb f.kind 3) _ _ (λ k e. absurd (standing_goes s _ (link_goes s s.incoming) e)) (λ three.
    split P (eqb f.kind 4) _ _ (λ k e. absurd (both s.standing _ _ (λ q. cc) (commit_goes s s.incoming) e)) (λ four.
    split P (eqb f.kind 5) _ _ (λ k e. absurd (let q : ⊥ = cc in q)) (λ five.
    split P (eqb f.kind 6) _ _ (λ k e. absurd (let q : ⊥ = cc in q)) (λ six.
    split P (eqb f.kind 7) _ _ (λ k e. absurd (standing_goes s _ (λ q. cc) e)) (λ seven e.
    last_is_end f good one two three four five six seven))))))))
