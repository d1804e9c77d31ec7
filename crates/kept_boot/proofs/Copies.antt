-- What a copy of the staged image has made after some pages.
use Rattle.std.proofs.Common.{◌≡◌, inl, inr, ℕ, ◌+◌, ◌<◌, true, Some, List, [], ◌∷◌, ◌++◌, length, get_or, set, take, drop, refl, sym as flip, ◌∙◌, ap, subst, arith, append_assoc, length-drop}
use Rattle.std.proofs.lemmas.List.{set_at, drop_more, take_more, take_all, drop_all, append-nil, get_or-take, get_or-drop, length-take-le}
use Rattle.flash_pages.specs.State.{State, IsState, MayHold, Prog, Ext, page_at, with_page}
use Rattle.flash_pages.specs.Board.{View, Programs}
use Rattle.kept_definitions.specs.Sides.{is_pending}
use Rattle.component_package.specs.mote.Sides.{pages_from}
use Rattle.kept_definitions.specs.Sound.{IsSound}
use Rattle.kept_definitions.specs.Machine.{Mote}
use Rattle.kept_laws.specs.Steps.{Keeps}
use Rattle.kept_laws.proofs.Steps.{writing_keeps}
use Rattle.kept_laws.proofs.Stands.{standing_steps_stand}
use Rattle.kept_definitions.specs.Headline.{StandsFor}
use Rattle.kept_journal.specs.Steps.{parts, Stands, Step, Takes, Pends}
use Rattle.kept_journal.proofs.Takes.{keeps_same, takes_program, takes_end}
use Rattle.kept_boot.specs.Boots.{copied, program_pages}

abbrev pub staged_of : State → List (List ℕ)
staged_of s = pages_from 306 480 s.ext

-- the first n program pages are staged ones
abbrev pub copied_to : ℕ → State → State
copied_to n s = record s { prog = take n (staged_of s) ++ drop n s.prog }

pub length-staged : (s : State) → IsState s → length (staged_of s) ≡ 480
length-staged s sizes = length-take-le 480 (drop 306 s.ext) (omega (arith, length-drop 306 s.ext, sizes.ext))

-- a staged page
pub staged_page : (s : State) (n : ℕ) → n < 480 → get_or (staged_of s) n [] ≡ page_at s (Ext (306 + n))
staged_page s n within = get_or-take 480 (drop 306 s.ext) n [] within ∙ get_or-drop 306 s.ext n []

-- one page more
pub copied_more : (s : State) (n : ℕ) → IsState s → n < 480 → with_page (copied_to n s) (Prog n) (page_at (copied_to n s) (Ext (306 + n))) ≡ copied_to (n + 1) s
copied_more s n sizes within = λ i. record s { prog = pages i }
  where
    front : length (take n (staged_of s)) ≡ n
    front = length-take-le n (staged_of s) (omega (arith, length-staged s sizes))

    pages : set (take n (staged_of s) ++ drop n s.prog) n (get_or s.ext (306 + n) []) ≡ take (n + 1) (staged_of s) ++ drop (n + 1) s.prog
    pages =
        ap (λ (l : List (List ℕ)). set (take n (staged_of s) ++ l) n (get_or s.ext (306 + n) [])) (drop_more s.prog n [] (omega (arith, sizes.prog)))
        ∙ set_at (take n (staged_of s)) (get_or s.prog n []) (drop (n + 1) s.prog) (get_or s.ext (306 + n) []) n front
        ∙ ap (λ (page : List ℕ). take n (staged_of s) ++ page ∷ drop (n + 1) s.prog) (flip (staged_page s n within))
        ∙ flip (append_assoc (take n (staged_of s)) (get_or (staged_of s) n [] ∷ []) (drop (n + 1) s.prog))
        ∙ ap (λ (l : List (List ℕ)). l ++ drop (n + 1) s.prog) (flip (take_more (staged_of s) n [] (omega (arith, length-staged s sizes))))

-- all of them
pub copied_all : (s : State) (n : ℕ) → IsState s → n ≡ 480 → copied_to n s ≡ copied s
copied_all s n sizes all = λ i. record s { prog = pages i }
  where
    pages : take n (staged_of s) ++ drop n s.prog ≡ staged_of s
    pages =
        ap (λ (l : List (List ℕ)). l ++ drop n s.prog) (take_all n (staged_of s) (omega (arith, length-staged s sizes)))
        ∙ ap (λ (l : List (List ℕ)). staged_of s ++ l) (drop_all n s.prog (omega (arith, sizes.prog)))
        ∙ append-nil (staged_of s)

-- a program page may hold any bytes while a commit stands
keeps_prog : (needed : State → Type 0) (page : ℕ) (t y : State) → MayHold needed (Prog page) t y → is_pending (parts t) ≡ true → IsSound (parts t) → Keeps (parts t) (parts y)
keeps_prog needed page t y (inl same) pending sound = subst (λ (x : State). Keeps (parts t) (parts x)) (flip same) (keeps_same (parts t) sound)
keeps_prog needed page t y (inr spoilt) pending sound =
    subst (λ (x : State). Keeps (parts t) (parts x)) (flip spoilt.1.is) (writing_keeps.prog (parts t) (set t.prog page spoilt.1.bytes) sound pending)

-- a run, and then the copy of a page
pub copies_page : (n : ℕ) (needed : State → Type 0) (old mid new : View) (s : State) → Takes (Step Pends program_pages s) program_pages n old mid → mid.state ≡ Some (copied_to n s) → Programs needed (Prog n) mid new
    → Takes (Step Pends program_pages s) program_pages (n + 1) old new
copies_page n needed old mid new s run told program =
    takes_program Pends program_pages n needed (Prog n) old mid new s (copied_to n s) run told refl program
    (λ y holds u stands pends sound. keeps_prog needed n (copied_to n s) y holds (flip stands.mote.standing ∙ pends) sound)

-- a copy that was done
pub is_copied : (n : ℕ) (old new : View) (s : State) → IsState s → n ≡ 480 → Takes (Step Pends program_pages s) program_pages n old new → new.state ≡ Some (copied_to n s)
    → (t : Mote) → Stands s t → Pends t → Stands (copied s) t
is_copied n old new s sizes all run told t stands pends =
    let same = copied_all s n sizes all in
    subst (λ (x : State). Stands x t) same
    (record { sound = (step.keeps t stands pends).sound; mote = subst (λ (x : State). StandsFor (parts x) t) (flip same) mote })
  where
    step : Step Pends program_pages s (copied_to n s)
    step = takes_end (Step Pends program_pages s) program_pages n old new (copied_to n s) run told

    mote : StandsFor (parts (copied s)) t
    mote = standing_steps_stand.prog (parts s) t (staged_of s) stands.mote (flip stands.mote.standing ∙ pends)
