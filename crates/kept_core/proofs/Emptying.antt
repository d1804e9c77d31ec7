-- What is left of a board while it is emptied.
use Rattle.std.proofs.Common.{◌≡◌, ◌≢◌, length-append, ◌⊎◌, inl, inr, zero, suc, ℕ, ◌+◌, ◌<◌, Bool, true, false, cond, Some, ⊎_elim, List, [], ◌∷◌, ◌++◌, length, set, get_or, take, drop, replicate, slice_index, refl, sym as flip, ◌∙◌, ap, subst, arith, append_assoc}
use Rattle.std.proofs.lemmas.Bool.Decides.{nat_tests}
use Rattle.std.proofs.lemmas.List.{set_at, drop_more, take_more, drop_all, take_all, append-nil, length-replicate, length-take-le, get_or-replicate, take-append-drop}
use Rattle.flash_pages.specs.State.{State, IsState, MayHold, Prog, Ext, always, with_page, SendsPart}
use Rattle.flash_pages.specs.Board.{View, Programs, UsesLine}
use Rattle.flash_pages.specs.Page.{blank_page}
use Rattle.flash_pages.specs.Moments.{LeavesOnly}
use Rattle.flash_pages.proofs.Runs.{programs, follows, weaker, sends}
use Rattle.external_flash.specs.Gates.{IsShut, opens, opened, open_page, closed_page}
use Rattle.external_flash.specs.declared.Gate.TheVariants.{Fmt}
use Rattle.kept_definitions.specs.Sound.{IsSound}
use Rattle.kept_definitions.specs.Headline.{StandsFor}
use Rattle.mote_laws.specs.Formatted.{blank_prog}
use Rattle.kept_laws.specs.Formatted.{empty_page, formatted_ext, formatted_mote}
use Rattle.kept_laws.specs.Steps.{with_gate}
use Rattle.kept_laws.proofs.Formatted.{formatted_is_sound}
use Rattle.kept_laws.proofs.Standing.{gates_stay}
use Rattle.kept_definitions.specs.Sides.{Parts, parts_of}
use Rattle.kept_journal.specs.Steps.{parts}
use Rattle.kept_journal.proofs.Bridge.{parts_gate}
use Rattle.kept_core.specs.Sending.{SendsBut}
use Rattle.kept_core.specs.Format.{IsFormatted, HasForm, FormatLeaves, HasFormatted, Clears, OnlyProg, formatted_line, filled_to, cleared, blanked, emptied}

-- ---- pages that are filled one after another

filled_more : (these l : List (List ℕ)) (bytes : List ℕ) (n : ℕ) → n < length these → n < length l → bytes ≡ get_or these n [] → set (filled_to n these l) n bytes ≡ filled_to (n + 1) these l
filled_more these l bytes n low within is =
    ap (λ (r : List (List ℕ)). set (take n these ++ r) n bytes) (drop_more l n [] within)
    ∙ set_at (take n these) (get_or l n []) (drop (n + 1) l) bytes n (length-take-le n these (omega arith))
    ∙ flip (append_assoc (take n these) (bytes ∷ []) (drop (n + 1) l))
    ∙ ap (λ (b : List ℕ). (take n these ++ (b ∷ [])) ++ drop (n + 1) l) is
    ∙ ap (λ (r : List (List ℕ)). r ++ drop (n + 1) l) (flip (take_more these n [] low))

filled_all : (these l : List (List ℕ)) (n : ℕ) → length these ≡ n → length l ≡ n → filled_to n these l ≡ these
filled_all these l n full long =
    ap (λ (r : List (List ℕ)). take n these ++ r) (drop_all n l (omega (arith, long))) ∙ append-nil (take n these) ∙ take_all n these (omega (arith, full))

-- how many pages an empty board has, and which they are
length-formatted : (page : List ℕ) → length (formatted_ext page) ≡ 2048
unfolding formatted_ext
length-formatted page =
    omega (arith, length-append (page ∷ replicate 7 (replicate 256 0) ++ empty_page ∷ []) (replicate 2039 (replicate {A = ℕ} 256 0)), length-replicate 2039 (replicate {A = ℕ} 256 0))

length-blank : length blank_prog ≡ 480
unfolding blank_prog
length-blank = length-replicate 480 blank_page

page_blank : (n : ℕ) → n < 480 → blank_page ≡ get_or blank_prog n []
unfolding blank_prog
page_blank n low = flip (get_or-replicate 480 n blank_page [] low)

pub page_eight : empty_page ≡ get_or (formatted_ext closed_page) 8 []
unfolding formatted_ext
page_eight = refl

pub page_zero : (n : ℕ) → n < 2048 → n ≢ 8 → replicate 256 0 ≡ get_or (formatted_ext closed_page) n []
unfolding formatted_ext
page_zero zero low other = refl
page_zero (suc zero) low other = refl
page_zero (suc (suc zero)) low other = refl
page_zero (suc (suc (suc zero))) low other = refl
page_zero (suc (suc (suc (suc zero)))) low other = refl
page_zero (suc (suc (suc (suc (suc zero))))) low other = refl
page_zero (suc (suc (suc (suc (suc (suc zero)))))) low other = refl
page_zero (suc (suc (suc (suc (suc (suc (suc zero))))))) low other = refl
page_zero (suc (suc (suc (suc (suc (suc (suc (suc zero)))))))) low other = absurd (other refl)
page_zero (suc (suc (suc (suc (suc (suc (suc (suc (suc n))))))))) low other = flip (get_or-replicate 2039 n (replicate 256 0) [] (omega arith))

pub cleared_more : (s : State) (n : ℕ) (bytes : List ℕ) → IsState s → n < 2048 → bytes ≡ get_or (formatted_ext closed_page) n [] → with_page (cleared n s) (Ext n) bytes ≡ cleared (n + 1) s
cleared_more s n bytes sizes within is =
    let more = filled_more (formatted_ext closed_page) s.ext bytes n (omega (arith, length-formatted closed_page)) (omega (arith, sizes.ext)) is in λ i. record s { ext = more i }

pub blanked_more : (s : State) (n : ℕ) → IsState s → n < 480 → with_page (blanked n s) (Prog n) blank_page ≡ blanked (n + 1) s
blanked_more s n sizes within =
    let more = filled_more blank_prog s.prog blank_page n (omega (arith, length-blank)) (omega (arith, sizes.prog)) (page_blank n within) in λ i. record s { prog = more i }

-- ---- what a cut may leave on the way

pub clears_none : (s : State) → Clears s s
clears_none s = record { form = inr (inl refl); sent = refl }

-- once page 0 holds zeros, Fmt is closed
shut_at : (s : State) (n : ℕ) → IsShut Fmt (cleared (suc n) s)
unfolding formatted_ext
shut_at s n = refl

shut_still : (s : State) (n : ℕ) (bytes : List ℕ) → IsShut Fmt (with_page (cleared (suc n) s) (Ext (suc n)) bytes)
unfolding formatted_ext
shut_still s n bytes = refl

clears_page : (s y : State) (n : ℕ) → MayHold always (Ext n) (cleared n s) y → Clears s y
clears_page s y zero (inl same) = record { form = inr (inl same); sent = ap (λ (x : State). x.sent) same }
clears_page s y zero (inr spoilt) = record { form = inr (inr spoilt); sent = ap (λ (x : State). x.sent) spoilt.1.is }
clears_page s y (suc n) (inl same) = record { form = inl (subst (IsShut Fmt) (flip same) (shut_at s n)); sent = ap (λ (x : State). x.sent) same }
clears_page s y (suc n) (inr spoilt) = record { form = inl (subst (IsShut Fmt) (flip spoilt.1.is) (shut_still s n spoilt.1.bytes)); sent = ap (λ (x : State). x.sent) spoilt.1.is }

pub clears_more : (n : ℕ) (old mid new : View) (s : State) → LeavesOnly (Clears s) n old mid → mid.state ≡ Some (cleared n s) → Programs always (Ext n) mid new → LeavesOnly (Clears s) (n + 1) old new
clears_more n old mid new s run told program = programs (Clears s) n always (Ext n) old mid new (cleared n s) run told program (λ y holds. clears_page s y n holds)

pub blanks_none : (s : State) → OnlyProg s s
blanks_none s = record { ext = refl; sent = refl }

blanks_page : (s y : State) (n : ℕ) → MayHold always (Prog n) (blanked n s) y → OnlyProg s y
blanks_page s y n (inl same) = record { ext = ap (λ (x : State). x.ext) same; sent = ap (λ (x : State). x.sent) same }
blanks_page s y n (inr spoilt) = record { ext = ap (λ (x : State). x.ext) spoilt.1.is; sent = ap (λ (x : State). x.sent) spoilt.1.is }

pub blanks_more : (n : ℕ) (old mid new : View) (s : State) → LeavesOnly (OnlyProg s) n old mid → mid.state ≡ Some (blanked n s) → Programs always (Prog n) mid new → LeavesOnly (OnlyProg s) (n + 1) old new
blanks_more n old mid new s run told program = programs (OnlyProg s) n always (Prog n) old mid new (blanked n s) run told program (λ y holds. blanks_page s y n holds)

-- ---- a state of one of the three forms is sound if the one before was, or has Fmt closed

formatted_sound : (x : State) → IsFormatted x → IsSound (parts x)
formatted_sound x is = subst (λ (e : List (List ℕ)). IsSound (parts_of x.prog e)) (flip is.ext) (subst (λ (p : List (List ℕ)). IsSound (parts_of p (formatted_ext is.page))) (flip is.prog) (formatted_is_sound.sound is.page is.opens))

-- page 0 alone was set, and opens Fmt still
page_sound : (s : State) (bytes : List ℕ) (b : Bool) → IsState s → opens bytes ≡ b → IsSound (parts s) → IsSound (parts (with_page s (Ext 0) bytes)) ⊎ IsShut Fmt (with_page s (Ext 0) bytes)
page_sound s bytes true sizes is sound =
    let same : parts (with_page s (Ext 0) bytes) ≡ parts s =
    parts_gate s Fmt bytes sizes ∙ ap (λ (b : Bool). with_gate 0 b (parts s)) (is ∙ flip sound.formatted) ∙ gates_stay (parts s) 0 in
    inl (subst IsSound (flip same) sound)
page_sound s bytes false sizes is sound = inr (ap (λ (p : Parts). p.gates 0) (parts_gate s Fmt bytes sizes) ∙ is)

form_sound : (s x : State) → IsState s → HasForm s x → IsSound (parts s) → IsSound (parts x) ⊎ IsShut Fmt x
form_sound s x sizes (inl shut) sound = inr shut
form_sound s x sizes (inr (inl (inl same))) sound = inl (subst (λ (y : State). IsSound (parts y)) (flip same) sound)
form_sound s x sizes (inr (inl (inr spoilt))) sound =
    subst (λ (y : State). IsSound (parts y) ⊎ IsShut Fmt y) (flip spoilt.1.is) (page_sound s spoilt.1.bytes (opens spoilt.1.bytes) sizes refl sound)
form_sound s x sizes (inr (inr is)) sound = inl (formatted_sound x is)

leaves : (s x : State) → IsState s → HasForm s x → x.sent ≡ s.sent → FormatLeaves s x
leaves s x sizes form same = record {
  form = form;
  sound = form_sound s x sizes form;
  sent = inl same;
  owed = formatted_line;
  line = ap (λ (l : List ℕ). l ++ formatted_line) (flip same);
}

leaves_clears : (s x : State) → IsState s → Clears s x → FormatLeaves s x
leaves_clears s x sizes is = leaves s x sizes (⊎_elim (λ shut. inl shut) (λ holds. inr (inl holds)) is.form) is.sent

-- ---- all of it

-- external flash is an empty board's, with all gates closed, and program flash 0xFF
abbrev pub ready : State → State
ready s = blanked 480 (cleared 2048 s)

ready_shut : (s x : State) → x.ext ≡ (cleared 2048 s).ext → IsShut Fmt x
ready_shut s x same = subst (λ (e : List (List ℕ)). opens (get_or e 0 []) ≡ false) (flip same) (shut_at s 2047)

leaves_prog : (s x : State) → IsState s → OnlyProg (cleared 2048 s) x → FormatLeaves s x
leaves_prog s x sizes is = leaves s x sizes (inl (ready_shut s x is.ext)) is.sent

opens_is : (bytes : List ℕ) → opens bytes ≡ true → slice_index bytes 0 ≡ 165
opens_is bytes is = grind (arith, nat_tests)

ready_prog : (s : State) → IsState s → (ready s).prog ≡ blank_prog
ready_prog s sizes = filled_all blank_prog s.prog 480 length-blank sizes.prog

first_set : (bytes : List ℕ) → set (formatted_ext closed_page) 0 bytes ≡ formatted_ext bytes
unfolding formatted_ext
first_set bytes = refl

first_page : (bytes : List ℕ) → get_or (formatted_ext bytes) 0 [] ≡ bytes
unfolding formatted_ext
first_page bytes = refl

ready_ext : (s : State) (bytes : List ℕ) → IsState s → (with_page (ready s) (Ext 0) bytes).ext ≡ formatted_ext bytes
ready_ext s bytes sizes = ap (λ (r : List (List ℕ)). set r 0 bytes) (filled_all (formatted_ext closed_page) s.ext 2048 (length-formatted closed_page) sizes.ext) ∙ first_set bytes

opened_form : (s : State) (bytes : List ℕ) (b : Bool) → IsState s → opens bytes ≡ b → HasForm s (with_page (ready s) (Ext 0) bytes)
opened_form s bytes true sizes is = inr (inr (record { page = bytes; opens = opens_is bytes is; prog = ready_prog s sizes; ext = ready_ext s bytes sizes }))
opened_form s bytes false sizes is = inl (ap (λ (e : List (List ℕ)). opens (get_or e 0 [])) (ready_ext s bytes sizes) ∙ ap opens (first_page bytes) ∙ is)

leaves_gate : (s x : State) → IsState s → MayHold (IsShut Fmt) (Ext 0) (ready s) x → FormatLeaves s x
leaves_gate s x sizes (inl same) = leaves s x sizes (inl (ready_shut s x (ap (λ (y : State). y.ext) same))) (ap (λ (y : State). y.sent) same)
leaves_gate s x sizes (inr spoilt) =
    leaves s x sizes (subst (HasForm s) (flip spoilt.1.is) (opened_form s spoilt.1.bytes (opens spoilt.1.bytes) sizes refl)) (ap (λ (y : State). y.sent) spoilt.1.is)

pub ready_opened : (s : State) → IsState s → opened Fmt (ready s) ≡ emptied s
ready_opened s sizes =
    ap (λ (b : Bool). cond b (ready s) (with_page (ready s) (Ext 0) open_page)) (ready_shut s (ready s) refl)
    ∙ (let prog = ready_prog s sizes in let ext = ready_ext s open_page sizes in λ i. record s { prog = prog i; ext = ext i })

module _ (a b : View) (s : State) (sizes : IsState s) (clear : LeavesOnly (Clears s) 2048 a b) where
  clear_leaves : LeavesOnly (FormatLeaves s) 2048 a b
  clear_leaves = weaker (Clears s) (FormatLeaves s) 2048 2048 a b (omega arith) (λ x is. leaves_clears s x sizes is) clear

  pub stops_clear : LeavesOnly (FormatLeaves s) 2529 a b
  stops_clear = weaker (FormatLeaves s) (FormatLeaves s) 2048 2529 a b (omega arith) (λ x is. is) clear_leaves

  module _ (c : View) (blank : LeavesOnly (OnlyProg (cleared 2048 s)) 480 b c) where
    blank_leaves : LeavesOnly (FormatLeaves s) 2528 a c
    blank_leaves = follows (FormatLeaves s) 2048 480 a b c clear_leaves (weaker (OnlyProg (cleared 2048 s)) (FormatLeaves s) 480 480 b c (omega arith) (λ x is. leaves_prog s x sizes is) blank)

    pub stops_blank : LeavesOnly (FormatLeaves s) 2529 a c
    stops_blank = weaker (FormatLeaves s) (FormatLeaves s) 2528 2529 a c (omega arith) (λ x is. is) blank_leaves

    pub stops_gate : (d : View) → c.state ≡ Some (ready s) → Programs (IsShut Fmt) (Ext 0) c d → LeavesOnly (FormatLeaves s) 2529 a d
    stops_gate d told program = programs (FormatLeaves s) 2528 (IsShut Fmt) (Ext 0) a c d (ready s) blank_leaves told program (λ y holds. leaves_gate s y sizes holds)

-- ---- and the line

emptied_is : (s : State) → IsFormatted (emptied s)
emptied_is s = record { page = open_page; opens = refl; prog = refl; ext = refl }

-- the empty board, with some bytes sent of the line
leaves_sent : (s x : State) (owed : List ℕ) → IsState s → SendsBut owed formatted_line (emptied s) x → FormatLeaves s x
leaves_sent s x owed sizes sent =
    let is : IsFormatted x = record { page = open_page; opens = refl; prog = sent.prog; ext = sent.ext } in
    record { form = inr (inr is); sound = form_sound s x sizes (inr (inr is)); sent = inr is; owed = owed; line = sent.sent }

part_sent : (piece : List ℕ) (s y : State) → SendsPart piece s y → (owed : List ℕ) × SendsBut owed piece s y
part_sent piece s y part = (
  drop part.count piece,
  record {
    prog = ap (λ (x : State). x.prog) part.is;
    ext = ap (λ (x : State). x.ext) part.is;
    sent = ap (λ (l : List ℕ). s.sent ++ l) (flip (take-append-drop part.count piece)) ∙ flip (append_assoc s.sent (take part.count piece) (drop part.count piece)) ∙ ap (λ (x : State). x.sent ++ drop part.count piece) (flip part.is);
  },
)

pub sends_line : (a b c : View) (s x : State) → IsState s → LeavesOnly (FormatLeaves s) 2529 a b → b.state ≡ Some (emptied s) → c.state ≡ Some x → UsesLine (SendsPart formatted_line) b c → LeavesOnly (FormatLeaves s) 2529 a c
sends_line a b c s x sizes run told told_end line =
    sends (FormatLeaves s) 2529 (SendsPart formatted_line) a b c (emptied s) x run told told_end line
    (λ y part. let some = part_sent formatted_line (emptied s) y part in leaves_sent s y some.0 sizes some.1)

pub has_formatted : (s x : State) (owed : List ℕ) (v : View) → v.state ≡ Some x → SendsBut owed formatted_line (emptied s) x → owed ≡ [] → HasFormatted s v
has_formatted s x owed v told sent none = record {
  end = x;
  told = told;
  prog = sent.prog;
  ext = sent.ext;
  sent = flip (sent.sent ∙ ap (λ (l : List ℕ). x.sent ++ l) none ∙ append-nil x.sent);
  stands = record {
    sound = formatted_sound x (record { page = open_page; opens = refl; prog = sent.prog; ext = sent.ext });
    mote =
        subst (λ (e : List (List ℕ)). StandsFor (parts_of x.prog e) formatted_mote) (flip sent.ext) (subst (λ (p : List (List ℕ)). StandsFor (parts_of p (formatted_ext open_page)) formatted_mote) (flip sent.prog) (formatted_is_sound.stands open_page refl));
  };
}
