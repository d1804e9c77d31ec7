-- What a list of changes, undone one after another, tells of the past of a state.
use Rattle.std.specs.Prelude.{◌≡◌, ◌⊎◌, ℕ, ◌+◌, ◌≤◌, ◌==◌, if◌then◌else◌, Bool, true, false, List, [], ◌∷◌, length, take, drop, Some}
use Rattle.std.proofs.Common.{inl, inr, refl, subst, ◌∙◌}
use Rattle.std.proofs.Math.Nat.{lt_irrefl}
use Rattle.std.proofs.lemmas.Option.{same_Some}
use Rattle.flash_pages.specs.State.{State, Place, Prog, Ext, IsState, Spoils, with_page, with_sent}
use Rattle.flash_pages.specs.Board.{View}
use Rattle.flash_pages.specs.declared.log.Change.{Change}
use Rattle.flash_pages.specs.declared.log.Change.TheVariants.{ProgHeld, ExtHeld, SentSoFar}

-- the state before this change
abbrev pub undo : State → Change → State
undo s (ProgHeld page bytes) = with_page s (Prog page) bytes
undo s (ExtHeld page bytes) = with_page s (Ext page) bytes
undo s (SentSoFar count) = record s { sent = take count s.sent }

-- what a cut inside this change may leave
abbrev pub Inside : Change → State → State → State → Type 0
Inside (ProgHeld page bytes) before after x = Spoils (Prog page) before x
Inside (ExtHeld page bytes) before after x = Spoils (Ext page) before x
Inside (SentSoFar count) before after x =
    (k : ℕ) × (x ≡ with_sent before (take k (drop count after.sent)))

-- what a cut may have left since there were t changes, the newest of them first
abbrev pub LeftSince : State → List Change → ℕ → State → Type 0
LeftSince s [] t x = x ≡ s
LeftSince s (change ∷ older) t x =
    (x ≡ s) ⊎ ((t ≤ length older)
    × (Inside change (undo s change) s x ⊎ LeftSince (undo s change) older t x))

-- whether a change is a program
abbrev pub is_program : Change → Bool
is_program (ProgHeld page bytes) = true
is_program (ExtHeld page bytes) = true
is_program (SentSoFar count) = false

-- whether a change is a program of this page
abbrev pub is_program_of : Place → Change → Bool
is_program_of (Prog p) (ProgHeld page bytes) = p == page
is_program_of (Ext p) (ExtHeld page bytes) = p == page
is_program_of place change = false

-- how many changes pass a test
abbrev pub count_changes : (Change → Bool) → List Change → ℕ
count_changes p [] = 0
count_changes p (change ∷ older) = (if p change then 1 else 0) + count_changes p older

-- the present state may always have been left
pub left_at_once : (s : State) (log : List Change) (t : ℕ) → LeftSince s log t s
left_at_once s [] t = refl
left_at_once s (change ∷ older) t = inl refl

-- and no other, since the newest change
pub only_now : (s x : State) (log : List Change) → LeftSince s log (length log) x → x ≡ s
only_now s x [] is = is
only_now s x (change ∷ older) (inl is) = is
only_now s x (change ∷ older) (inr past) = absurd (lt_irrefl (length older) past.0)

-- a state that is told is well formed
abbrev pub Forms : State → Type 0
Forms s = (x : State) → Some s ≡ Some x → IsState x

-- a board with this state and these changes, the newest of them first
abbrev pub logged_view : (s : State) → Forms s → List ℕ → List Change → ℕ → ℕ → View
logged_view s sizes left log flash_faults line_faults = record {
  state = Some s;
  left = Some left;
  moment = length log;
  left_since = LeftSince s log;
  programs = λ place. count_changes (is_program_of place) log;
  all_programs = count_changes is_program log;
  flash_faults = flash_faults;
  line_faults = line_faults;
  sizes = sizes;
  present = λ x t is le.
      subst (λ y. LeftSince s log t y) (same_Some s x is) (left_at_once s log t);
  only_now = λ x y is left. only_now s y log left ∙ same_Some s x is;
}
