-- The cases of an update: which frames there are, by the mote's last release and the one that it is asked from.
use Rattle.std.proofs.Common.{◌≡◌, ℕ, ◌<◌, ◌≤◌, Bool, true, false, cond, eqb, ltb, List, [], ◌∷◌, Option, Some, None, refl, ap, ap₂, ◌∙◌, arith}
use Rattle.std.specs.Prelude.{◌||◌}
use Rattle.std.specs.Option.{option_map, option_and_then}
use Rattle.std.proofs.lemmas.Bool.{cond-true, cond-false, eq-eqb, ne_eqb, lt-ltb, le-ltb}
use Rattle.component_package.specs.declared.frames.TheConstants.{END}
use Rattle.component_package.specs.mote.Frames.{Frame}
use Rattle.release_rows.specs.declared.part.Numbered.{Numbered}
use Rattle.release_rows.specs.Tables.{Tables, release_count, stored_release}
use Rattle.release_rows.specs.Kept.{packages_of}
use Rattle.update_laws.specs.Update.{Delivered, bare_frame, update_frames}
use Rattle.release_updates.specs.Updates.{with_packages, parts_alone, delivered, release_parts, release_delivered, update_between, update_of}

-- ---- the cases of the definition

or_right : (a b : Bool) → b ≡ true → (a || b) ≡ true
or_right true b is = refl
or_right false b is = is

module _ (t : Tables) (mote : List ℕ) (have : ℕ) where
  abbrev last : ℕ
  last = release_count t mote

  abbrev rest : Option (List Frame)
  rest = update_between have last (release_parts t mote have) (release_delivered t mote last)

  pub no_release : last ≡ 0 → update_of t mote have ≡ None
  no_release none = ap (λ (b : Bool). cond (b || ltb last have) None (cond (eqb have last) (Some (bare_frame END ∷ [])) rest)) (eq-eqb last 0 none)

  pub above_last : last < have → update_of t mote have ≡ None
  above_last above =
      cond-true (eqb last 0 || ltb last have) _ _ (or_right (eqb last 0) (ltb last have) (lt-ltb last have above))

  not_none : 1 ≤ last → have ≤ last → update_of t mote have ≡ cond (eqb have last) (Some (bare_frame END ∷ [])) rest
  not_none some low =
      ap₂ (λ (a b : Bool). cond (a || b) None (cond (eqb have last) (Some (bare_frame END ∷ [])) rest))
      (ne_eqb last 0 (λ zero_is. omega (arith, some, zero_is))) (le-ltb last have low)

  pub at_last : 1 ≤ last → have ≡ last → update_of t mote have ≡ Some (bare_frame END ∷ [])
  at_last some same = not_none some (omega (arith, same)) ∙ cond-true (eqb have last) _ _ (eq-eqb have last same)

  pub below_last : have < last → update_of t mote have ≡ rest
  below_last below = not_none (omega (arith, below)) (omega (arith, below)) ∙ cond-false (eqb have last) _ _ (ne_eqb have last (λ same. omega (arith, below, same)))

-- ---- from one release to another

-- a release that isn't release 0 is a stored one
pub last_delivered : (t : Tables) (mote : List ℕ) (number : ℕ) → (number ≡ 0 → ⊥) → release_delivered t mote number ≡ option_and_then (delivered t) (stored_release t mote number)
last_delivered t mote number some = ap (option_and_then (delivered t)) (cond-false (eqb number 0) _ _ (ne_eqb number 0 some))

no_packages : (have number : ℕ) (olds : Option (List Numbered)) (news : Option (List Delivered)) → news ≡ None → update_between have number olds news ≡ None
no_packages have number None news none = refl
no_packages have number (Some ps) news none = ap (option_map (update_frames have (parts_alone ps) number)) none

module _ (t : Tables) (mote : List ℕ) (have number : ℕ) (some : number ≡ 0 → ⊥) where
  -- the later release isn't there, or one of its packages isn't
  pub no_row : stored_release t mote number ≡ None → update_between have number (release_parts t mote have) (release_delivered t mote number) ≡ None
  no_row none = no_packages have number (release_parts t mote have) (release_delivered t mote number) (last_delivered t mote number some ∙ ap (option_and_then (delivered t)) none)

  pub no_package : (parts : List Numbered) → stored_release t mote number ≡ Some parts → packages_of t parts ≡ None
      → update_between have number (release_parts t mote have) (release_delivered t mote number) ≡ None
  no_package parts there none =
      no_packages have number (release_parts t mote have) (release_delivered t mote number)
      (last_delivered t mote number some ∙ ap (option_and_then (delivered t)) there ∙ ap (option_map (with_packages parts)) none)

  -- both are there
  pub frames_between : (olds parts : List Numbered) (set : List (List ℕ)) → release_parts t mote have ≡ Some olds → stored_release t mote number ≡ Some parts → packages_of t parts ≡ Some set
      → update_between have number (release_parts t mote have) (release_delivered t mote number) ≡ Some (update_frames have (parts_alone olds) number (with_packages parts set))
  frames_between olds parts set older there all =
      ap₂ (λ (ps : Option (List Numbered)) (ds : Option (List Delivered)). update_between have number ps ds) older
      (last_delivered t mote number some ∙ ap (option_and_then (delivered t)) there ∙ ap (option_map (with_packages parts)) all)
