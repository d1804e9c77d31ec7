-- On any board that tells its state: what there is to boot stays so.
use Rattle.std.proofs.Common.{◌≡◌, inl, inr, ℕ, ◌+◌, ◌*◌, ◌<◌, ◌≤◌, Bool, true, false, cond, eqb, ltb, leb, ◌&&◌, List, [], ◌∷◌, ◌++◌, length, take, drop, get_or, Option, Some, refl, sym, ap, ◌∙◌, subst, arith, length-append, length-drop}
use Rattle.std.specs.Prelude.{slice_index}
use Rattle.std.specs.List.{concat}
use Rattle.std.proofs.lemmas.List.{length-take, length-take-le, get_or-take, get_or-drop, get_or_append_left, same_lists}
use Rattle.std.specs.Option.{option_map}
use Rattle.std.proofs.lemmas.Bool.{false≢true}
use Rattle.std.proofs.lemmas.Bool.Decides.{nat_tests}
use Rattle.flash_pages.specs.State.{State, with_page}
use Rattle.flash_pages.specs.Board.{View}
use Rattle.component_package.specs.declared.answer.Answer.{Answer}
use Rattle.component_package.specs.declared.answer.Answer.TheVariants as answers
use Rattle.kept_manifests.specs.declared.pages.SlotManifest.{SlotManifest}
use Rattle.kept_definitions.specs.Stored.{Placed, StoredRelease, Stores}
use Rattle.kept_manifests.specs.Slots.{stored_of}
use Rattle.kept_definitions.specs.Sides.{Parts, is_on_b, is_pending, chosen_side, other_side}
use Rattle.component_package.specs.mote.Sides.{fmt, go_a, go_b, sel}
use Rattle.component_package.specs.mote.Frames.{Frame, is_end}
use Rattle.kept_definitions.specs.Machine.{Mote}
use Rattle.component_package.specs.mote.Machine.{is_bad_frame}
use Rattle.component_store.specs.Pieces.{piece_place}
use Rattle.kept_laws.specs.Standing.{IsNoRelease, IsUnformatted, IsIncoming}
use Rattle.kept_laws.specs.Steps.{with_gate, other_go}
use Rattle.kept_laws.proofs.Programs.{each_page_is_in_one_part}
use Rattle.kept_sessions.specs.Lines.{prints}
use Rattle.kept_journal.specs.declared.standing.Standing.{Standing}
use Rattle.kept_journal.specs.Standing.{IsStanding}
use Rattle.kept_journal.specs.Steps.{parts, Becomes, abandoned, taken_in, finished}
use Rattle.component_package.specs.packages.Reading.{header_of, total_of}
use Rattle.kept_store.specs.Tables.{with_run, with_pages, run_pages, table_first, inbox_slot}
use Rattle.kept_boot.specs.Boots.{copied, one_run, with_runs, chosen_entries, booted}
use Rattle.kept_core.specs.Reading.{frame_of}
use Rattle.kept_core.specs.Serving.{BootsAlike, StaysFormatted, AnswersEnd}

-- ---- parts

abbrev side_by : Bool → Bool → Bool → List ℕ → List ℕ → List ℕ
side_by a b s x y = cond (cond a false (cond b true s)) y x

same_side : (a b s c d e : Bool) (x y u w : List ℕ) → a ≡ c → b ≡ d → s ≡ e → x ≡ u → y ≡ w → side_by a b s x y ≡ side_by c d e u w
same_side a b s c d e x y u w p q r i j = rw (p, q, r, i, j) refl

-- alike parts have the same to boot
pub alike_unformatted : (p q : Parts) → BootsAlike p q → IsUnformatted q → IsUnformatted p
alike_unformatted p q same (inl closed) = inl (sym same.fmt_is ∙ closed)
alike_unformatted p q same (inr (inl both)) = inr (inl (sym same.go_a_is ∙ both.0, sym same.go_b_is ∙ both.1))
alike_unformatted p q same (inr (inr none)) =
    let side : chosen_side q ≡ chosen_side p =
    same_side (q.gates go_a) (q.gates go_b) (q.gates sel) (p.gates go_a) (p.gates go_b) (p.gates sel) q.side_a q.side_b p.side_a p.side_b same.go_a_is same.go_b_is same.sel_is same.side_a_is same.side_b_is in
    inr (inr (subst IsNoRelease side none))

kept_side : (b : Bool) (x y w : List ℕ) → cond b (cond b y w) (cond b w x) ≡ cond b y x
kept_side true x y w = refl
kept_side false x y w = refl

-- a manifest is written to the side that isn't chosen
pub taken_unformatted : (bytes : List ℕ) (p : Parts) → IsUnformatted (taken_in bytes p) → IsUnformatted p
taken_unformatted bytes p (inl closed) = inl closed
taken_unformatted bytes p (inr (inl both)) = inr (inl both)
taken_unformatted bytes p (inr (inr none)) = inr (inr (subst IsNoRelease (kept_side (is_on_b p) p.side_a p.side_b bytes) none))

-- the end of an installation of a side
abbrev ended : Bool → Parts → Parts
ended on_b p = with_gate (cond on_b go_b go_a) false (abandoned (with_gate sel on_b p))

on_b_side : (a : Bool) (p : Parts) → p.gates go_a ≡ a → cond a false (cond (p.gates go_b) true (p.gates sel)) ≡ true → a ≡ false
on_b_side true p is on = absurd (false≢true on)
on_b_side false p is on = refl

ended_unformatted : (on_b : Bool) (p : Parts) → is_on_b p ≡ on_b → IsUnformatted (ended on_b p) → IsUnformatted p
ended_unformatted true p on (inl closed) = inl closed
ended_unformatted true p on (inr (inl both)) = absurd (false≢true both.1)
ended_unformatted true p on (inr (inr none)) =
    let a = on_b_side (p.gates go_a) p refl on in
    let there : chosen_side (ended true p) ≡ p.side_b = ap (λ (g : Bool). cond (cond g false true) p.side_b p.side_a) a in
    let here : chosen_side p ≡ p.side_b = ap (λ (g : Bool). cond g p.side_b p.side_a) on in
    inr (inr (subst IsNoRelease (there ∙ sym here) none))
ended_unformatted false p on (inl closed) = inl closed
ended_unformatted false p on (inr (inl both)) = absurd (false≢true both.0)
ended_unformatted false p on (inr (inr none)) = by_gates (p.gates go_a) (p.gates go_b) refl refl
  where
    by_gates : (a b : Bool) → p.gates go_a ≡ a → p.gates go_b ≡ b → IsUnformatted p
    by_gates true true is_a is_b = inr (inl (is_a, is_b))
    by_gates true false is_a is_b =
        let there : chosen_side (ended false p) ≡ p.side_a = ap (λ (g : Bool). cond (cond g true false) p.side_b p.side_a) is_b in
        let here : chosen_side p ≡ p.side_a = ap (λ (g : Bool). cond g p.side_b p.side_a) on in
        inr (inr (subst IsNoRelease (there ∙ sym here) none))
    by_gates false true is_a is_b =
        absurd (false≢true (sym on ∙ ap (λ (g : Bool). cond g false (cond (p.gates go_b) true (p.gates sel))) is_a ∙ ap (λ (g : Bool). cond g true (p.gates sel)) is_b))
    by_gates false false is_a is_b =
        let there : chosen_side (ended false p) ≡ p.side_a = ap (λ (g : Bool). cond (cond g true false) p.side_b p.side_a) is_b in
        let here : chosen_side p ≡ p.side_a = ap (λ (g : Bool). cond g p.side_b p.side_a) on in
        inr (inr (subst IsNoRelease (there ∙ sym here) none))

-- ---- what a boot writes is behind gates and sides

-- the gates and the sides are in the first 18 pages, which are the same
record LowSame (x y : List (List ℕ)) : Type 0 where
  long : 18 ≤ length y
  same : (k : ℕ) (d : List ℕ) → k < 18 → get_or y k d ≡ get_or x k d

low_starts : (x : List (List ℕ)) → 18 ≤ length x → LowSame x x
low_starts x long = record { long = long; same = λ k d lt. refl }

low_then : (x y z : List (List ℕ)) → LowSame x y → LowSame y z → LowSame x z
low_then x y z first second = record { long = second.long; same = λ k d lt. second.same k d lt ∙ first.same k d lt }

low_pages : (first : ℕ) (pages x rest : List (List ℕ)) → 18 ≤ first → 18 ≤ length x → LowSame x ((take first x ++ pages) ++ rest)
low_pages first pages x rest far long =
    let front = length-take first x in
    let some : 18 ≤ length (take first x) = omega (arith, front) in
    let whole = length-append (take first x ++ pages) rest in
    let two = length-append (take first x) pages in
    record {
      long = omega (arith, some, whole, two);
      same = λ k d lt.
          get_or_append_left (take first x ++ pages) rest d k (omega (arith, some, two, lt)) ∙ get_or_append_left (take first x) pages d k (omega (arith, some, lt))
          ∙ get_or-take first x k d (omega (arith, far, lt));
    }

low_run : (slot : ℕ) (s : State) → 18 ≤ length s.ext → LowSame s.ext (with_run slot s).ext
low_run slot s long = by (leb (total_of (header_of (inbox_slot slot s))) 9984)
  where
    by : (b : Bool) → LowSame s.ext (cond b (with_pages (table_first slot) (run_pages slot s) s) s).ext
    by true = low_pages (1410 + 39 * slot) (run_pages slot s) s.ext (drop (1410 + 39 * slot + length (run_pages slot s)) s.ext) (omega arith) long
    by false = low_starts s.ext long

low_one : (p : Placed) (s : State) → 18 ≤ length s.ext → LowSame s.ext (one_run p s).ext
low_one p s long = by p.fresh
  where
    by : (b : Bool) → LowSame s.ext (cond b (with_run p.slot s) s).ext
    by true = low_run p.slot s long
    by false = low_starts s.ext long

low_runs : (ps : List Placed) (s : State) → 18 ≤ length s.ext → LowSame s.ext (with_runs ps s).ext
low_runs [] s long = low_starts s.ext long
low_runs (p ∷ ps) s long = let one = low_one p s long in low_then s.ext (one_run p s).ext (with_runs ps (one_run p s)).ext one (low_runs ps (one_run p s) one.long)

low_side : (first : ℕ) (x y : List (List ℕ)) → first ≤ 13 → 18 ≤ length x → LowSame x y → take 5 (drop first y) ≡ take 5 (drop first x)
low_side first x y near long low =
    let wide = low.long in
    let of_y : length (take 5 (drop first y)) ≡ 5 = length-take-le 5 (drop first y) (omega (arith, length-drop first y)) in
    let of_x : length (take 5 (drop first x)) ≡ 5 = length-take-le 5 (drop first x) (omega (arith, length-drop first x)) in
    same_lists (take 5 (drop first y)) (take 5 (drop first x)) (of_y ∙ sym of_x) (λ k d within.
    let lt : k < 5 = omega (arith, of_y) in
    get_or-take 5 (drop first y) k d lt ∙ get_or-drop first y k d ∙ low.same (first + k) d (omega arith) ∙ sym (get_or-take 5 (drop first x) k d lt ∙ get_or-drop first x k d))

low_alike : (s x : State) → 18 ≤ length s.ext → LowSame s.ext x.ext → BootsAlike (parts s) (parts x)
low_alike s x long low = record {
  fmt_is = gate 0 (omega arith);
  go_a_is = gate 5 (omega arith);
  go_b_is = gate 6 (omega arith);
  sel_is = gate 7 (omega arith);
  side_a_is = ap concat (low_side 8 s.ext x.ext (omega arith) long low);
  side_b_is = ap concat (low_side 13 s.ext x.ext (omega arith) long low);
}
  where
    gate : (g : ℕ) → g < 8 → (parts x).gates g ≡ (parts s).gates g
    gate g lt = ap (λ (b : List ℕ). ltb g 8 && eqb (slice_index b 0) 165) (low.same g [] (omega arith))

pub booted_unformatted : (s : State) → 18 ≤ length s.ext → IsUnformatted (booted s) → IsUnformatted (parts s)
booted_unformatted s long none = by (is_pending (parts s)) none
  where
    end : State
    end = with_runs (chosen_entries (parts s)) (copied s)

    alike : BootsAlike (parts s) (parts end)
    alike = low_alike s end long (low_runs (chosen_entries (parts s)) (copied s) long)

    by : (b : Bool) → IsUnformatted (cond b (finished (parts end)) (parts s)) → IsUnformatted (parts s)
    by true none = alike_unformatted (parts s) (parts end) alike (ended_unformatted (is_on_b (parts end)) (parts end) refl none)
    by false none = none

-- a commit of what comes in
abbrev chose : Bool → Parts → Parts
chose on_b p = with_gate (cond on_b go_a go_b) true p

chose_formatted : (on_b : Bool) (p : Parts) (m : StoredRelease) → is_on_b p ≡ on_b → p.gates fmt ≡ true → p.gates go_a ≡ false → p.gates go_b ≡ false → Stores (other_side p) m → IsUnformatted (chose on_b p) → ⊥
chose_formatted true p m on is_fmt a b stores (inl closed) = false≢true (sym closed ∙ is_fmt)
chose_formatted true p m on is_fmt a b stores (inr (inl both)) = false≢true (sym b ∙ both.1)
chose_formatted true p m on is_fmt a b stores (inr (inr none)) =
    let other : other_side p ≡ p.side_a = ap (λ (g : Bool). cond g p.side_a p.side_b) on in
    none m (subst (λ (side : List ℕ). Stores side m) other stores)
chose_formatted false p m on is_fmt a b stores (inl closed) = false≢true (sym closed ∙ is_fmt)
chose_formatted false p m on is_fmt a b stores (inr (inl both)) = false≢true (sym a ∙ both.0)
chose_formatted false p m on is_fmt a b stores (inr (inr none)) =
    let other : other_side p ≡ p.side_b = ap (λ (g : Bool). cond g p.side_a p.side_b) on in
    let chosen : chosen_side (chose false p) ≡ p.side_b = ap (λ (g : Bool). cond (cond g false true) p.side_b p.side_a) a in
    none m (subst (λ (side : List ℕ). Stores side m) (other ∙ sym chosen) stores)

no_go_a : (a b : Bool) → cond a true b ≡ false → (a ≡ false) × (b ≡ false)
no_go_a true b none = absurd (false≢true (sym none))
no_go_a false b none = (refl, none)

comes : (p : Parts) (o : Option SlotManifest) (m : SlotManifest) → o ≡ Some m → IsIncoming p (option_map stored_of o) → Stores (other_side p) (stored_of m)
comes p o m some incoming = let i : IsIncoming p (option_map stored_of (Some m)) = subst (λ (x : Option SlotManifest). IsIncoming p (option_map stored_of x)) some incoming in i.1

pub committed_formatted : (p : Parts) (a : Standing) (m : SlotManifest) → IsStanding p a → a.pending ≡ false → a.incoming ≡ Some m → IsUnformatted (with_gate (other_go p) true p) → ⊥
committed_formatted p a m is rests some =
    let none = no_go_a (p.gates go_a) (p.gates go_b) (sym is.pending ∙ rests) in
    chose_formatted (is_on_b p) p (stored_of m) refl is.formatted none.0 none.1 (comes p a.incoming m some is.incoming)

-- ---- boards

pub stays_here : (z : State) (v : View) → v.state ≡ Some z → StaysFormatted z v
stays_here z v told = record { end = z; told = told; stays = λ none. none }

pub stays_alike : (z x : State) (v : View) → v.state ≡ Some x → BootsAlike (parts z) (parts x) → StaysFormatted z v
stays_alike z x v told alike = record { end = x; told = told; stays = alike_unformatted (parts z) (parts x) alike }

-- behind a step of the journal
pub stays_becomes : (q : Parts) (meant : Mote → Type 0) (after : Mote → Mote) (z : State) (v : View) → Becomes q meant after z v → (IsUnformatted q → IsUnformatted (parts z)) → StaysFormatted z v
stays_becomes q meant after z v b back = record { end = b.end; told = b.told; stays = λ none. back (subst IsUnformatted b.parts_are none) }

-- a page of a slot
pub slot_formatted : (w : State) (slot page : ℕ) (bytes : List ℕ) → slot < 16 → page < 39 → IsUnformatted (parts (with_page w (piece_place slot page) bytes)) → IsUnformatted (parts w)
slot_formatted w slot page bytes low within none =
    let one = each_page_is_in_one_part.inbox w.prog w.ext slot page bytes low within in
    let here = subst IsUnformatted one none in
    here

pub stays_piece : (q : Parts) (meant : Mote → Type 0) (after : Mote → Mote) (z : State) (mid new : View) (slot page : ℕ) (bytes : List ℕ) → (b : Becomes q meant after z mid) → (IsUnformatted q → IsUnformatted (parts z))
    → slot < 16 → page < 39 → new.state ≡ Some (with_page b.end (piece_place slot page) bytes) → StaysFormatted z new
stays_piece q meant after z mid new slot page bytes b back low within told = record {
  end = with_page b.end (piece_place slot page) bytes;
  told = told;
  stays = λ none. back (subst IsUnformatted b.parts_are (slot_formatted b.end slot page bytes low within none));
}

-- ---- answers

-- an answer with a line is neither Ended nor Unformatted
pub prints_no_end : (a : Answer) → prints a ≡ true → a ≡ answers.Ended → ⊥
prints_no_end a line is = false≢true (ap prints (sym is) ∙ line)

pub prints_formatted : (a : Answer) → prints a ≡ true → a ≡ answers.Unformatted → ⊥
prints_formatted a line is = false≢true (ap prints (sym is) ∙ line)

pub no_end : (kind : ℕ) (payload : List ℕ) → (kind ≡ 8 → ⊥) → is_end (frame_of kind payload) ≡ true → ⊥
no_end kind payload other ends = other (grind (arith, nat_tests))

pub line_answers : (kind : ℕ) (payload : List ℕ) (a : Answer) → (kind ≡ 8 → ⊥) → prints a ≡ true → AnswersEnd (frame_of kind payload) a × (a ≡ answers.Unformatted → ⊥)
line_answers kind payload a other line =
    (record { only = λ is. absurd (prints_no_end a line is); always = λ ends. absurd (no_end kind payload other ends) }, prints_formatted a line)

pub end_answers : (f : Frame) → f ≡ frame_of 8 [] → AnswersEnd f answers.Ended × (answers.Ended ≡ answers.Unformatted → ⊥)
end_answers f same = (record { only = λ is. ap is_end same; always = λ ends. inl refl }, λ is. cc)

pub bad_no_end : (f : Frame) → is_bad_frame f ≡ true → is_end f ≡ true → ⊥
bad_no_end f bad ends = grind (arith, nat_tests)

-- what is read of formatted parts
pub standing_formatted : (p : Parts) (a : Standing) → IsStanding p a → IsUnformatted p → ⊥
standing_formatted p a is (inl closed) = false≢true (sym closed ∙ is.formatted)
standing_formatted p a is (inr (inl both)) = false≢true (sym (is.one_go both.0) ∙ both.1)
standing_formatted p a is (inr (inr none)) = none (stored_of a.current) is.current
