-- The pages of an image that are sent one after another.
use Rattle.std.proofs.Common.{◌≡◌, inl, inr, ℕ, ◌+◌, ◌<◌, ◌≤◌, Bool, true, false, Some, List, [], ◌∷◌, ◌++◌, length, get_or, take, drop, refl, sym as flip, ◌∙◌, ap, arith, append_assoc, length-drop}
use Rattle.std.specs.List.{concat}
use Rattle.std.proofs.lemmas.List.{take_more, drop_more, take_all, append-nil, take-append-drop, get_or-take, get_or-drop, length-take-le}
use Rattle.std.proofs.lemmas.List.Folds.{concat-append}
use Rattle.flash_pages.specs.State.{State, IsState, Ext, page_at, with_sent, SendsPart}
use Rattle.flash_pages.specs.Board.{View, Reads, UsesLine}
use Rattle.flash_pages.specs.Moments.{LeavesOnly}
use Rattle.flash_pages.proofs.Runs.{starts, follows, weaker, reads, sends}
use Rattle.kept_definitions.specs.Sides.{is_pending}
use Rattle.kept_definitions.specs.Machine.{Mote}
use Rattle.component_package.specs.link.Pages.{IsPages}
use Rattle.kept_laws.proofs.Says.{image_is_the_chosens}
use Rattle.kept_journal.specs.Steps.{parts, Stands}
use Rattle.kept_core.specs.Sending.{SendsBut}
use Rattle.kept_core.specs.Commands.{SameFlash, SendsSome, SendsAll, SendsImage, TellsUnformatted, image_pages, code_of, ends_writing}
use Rattle.kept_core.specs.declared.status.Status.{Status}
use Rattle.kept_core.specs.declared.status.Status.TheVariants.{Ended, FlashFault, LineFault, Unformatted}
use Rattle.kept_laws.specs.Standing.{IsUnformatted}
use Rattle.kept_journal.specs.declared.standing.Standing.{Standing}
use Rattle.kept_journal.specs.Standing.{IsStanding}
use Rattle.kept_journal.proofs.Side.{standing_formatted}
use Rattle.std.proofs.lemmas.Bool.{false≢true}

-- ---- pieces

pub sends_none : (piece : List ℕ) (s : State) → SendsSome piece s s
sends_none piece s = (piece, record { prog = refl; ext = refl; sent = refl })

pub part_sent : (piece : List ℕ) (s y : State) → SendsPart piece s y → SendsSome piece s y
part_sent piece s y part = (
  drop part.count piece,
  record {
    prog = ap (λ (x : State). x.prog) part.is;
    ext = ap (λ (x : State). x.ext) part.is;
    sent =
        ap (λ (l : List ℕ). s.sent ++ l) (flip (take-append-drop part.count piece))
        ∙ flip (append_assoc s.sent (take part.count piece) (drop part.count piece))
        ∙ ap (λ (x : State). x.sent ++ drop part.count piece) (flip part.is);
  },
)

-- a part of what is behind what was sent
pub part_of_more : (front piece behind whole : List ℕ) (s y : State) → whole ≡ front ++ (piece ++ behind) → SendsSome piece (with_sent s front) y → SendsSome whole s y
part_of_more front piece behind whole s y is some = (
  some.0 ++ behind,
  record {
    prog = some.1.prog;
    ext = some.1.ext;
    sent =
        ap (λ (l : List ℕ). s.sent ++ l) is
        ∙ flip (append_assoc s.sent front (piece ++ behind))
        ∙ flip (append_assoc (s.sent ++ front) piece behind)
        ∙ ap (λ (l : List ℕ). l ++ behind) some.1.sent
        ∙ append_assoc y.sent some.0 behind;
  },
)

-- all of it was sent
pub all_of : (piece owed : List ℕ) (s x : State) → SendsBut owed piece s x → owed ≡ [] → x ≡ with_sent s piece
all_of piece owed s x sent none =
    let bytes : s.sent ++ piece ≡ x.sent = sent.sent ∙ ap (λ (l : List ℕ). x.sent ++ l) none ∙ append-nil x.sent in
    λ i. record { prog = sent.prog i; ext = sent.ext i; sent = flip bytes i }

-- before anything is sent
pub sends_starts : (piece : List ℕ) (v : View) (s : State) → v.state ≡ Some s → LeavesOnly (SendsSome piece s) 0 v v
sends_starts piece v s told = starts (SendsSome piece s) v s told (sends_none piece s)

pub sends_read : (piece : List ℕ) (a b c : View) (s : State) → LeavesOnly (SendsSome piece s) 0 a b → Reads b c → LeavesOnly (SendsSome piece s) 0 a c
sends_read piece a b c s run read = reads (SendsSome piece s) 0 a b c run read

-- a read alone sends nothing
pub sends_after_read : (piece : List ℕ) (a b : View) (s : State) → a.state ≡ Some s → Reads a b → LeavesOnly (SendsSome piece s) 0 a b
sends_after_read piece a b s told read = sends_read piece a a b s (sends_starts piece a s told) read

-- where nothing more is sent no flash is changed
pub flash_same : (piece : List ℕ) (s : State) (a b : View) → LeavesOnly (SendsSome piece s) 0 a b → LeavesOnly (SameFlash s) 0 a b
flash_same piece s a b run = weaker (SendsSome piece s) (SameFlash s) 0 0 a b (omega arith) (λ x some. record { prog = some.1.prog; ext = some.1.ext }) run

-- a line, sent whole or in part, behind a read
pub sends_piece : (piece : List ℕ) (a b c : View) (s x : State) (owed : List ℕ) (done : Type 0) → a.state ≡ Some s → Reads a b → UsesLine (SendsPart piece) b c → c.state ≡ Some x → SendsBut owed piece s x → (done → owed ≡ []) → SendsAll piece done s a c
sends_piece piece a b c s x owed done told read line told_end sent whole = record {
  each = sends (SendsSome piece s) 0 (SendsPart piece) a b c s x (sends_after_read piece a b s told read) (read.state ∙ told) told_end line (λ y part. part_sent piece s y part);
  whole = λ is. told_end ∙ ap Some (all_of piece owed s x sent (whole is));
}

-- ---- pages

-- the pages that were sent, this one, and those behind it
pages_are : (pages : List (List ℕ)) (n : ℕ) → n < length pages → concat pages ≡ concat (take n pages) ++ (get_or pages n [] ++ concat (drop (n + 1) pages))
pages_are pages n within =
    ap concat (flip (take-append-drop n pages))
    ∙ concat-append (take n pages) (drop n pages)
    ∙ ap (λ (l : List (List ℕ)). concat (take n pages) ++ concat l) (drop_more pages n [] within)

pages_more : (pages : List (List ℕ)) (n : ℕ) → n < length pages → concat (take (n + 1) pages) ≡ concat (take n pages) ++ get_or pages n []
pages_more pages n within =
    ap concat (take_more pages n [] within)
    ∙ concat-append (take n pages) (get_or pages n [] ∷ [])
    ∙ ap (λ (l : List ℕ). concat (take n pages) ++ l) (append-nil (get_or pages n []))

-- the state with the first n pages sent
abbrev pub pages_sent : ℕ → List (List ℕ) → State → State
pages_sent n pages s = with_sent s (concat (take n pages))

pub sent_none : (pages : List (List ℕ)) (s : State) → s ≡ pages_sent 0 pages s
sent_none pages s = λ i. record s { sent = flip (append-nil s.sent) i }

pub sent_page : (pages : List (List ℕ)) (n : ℕ) (bytes owed : List ℕ) (s x : State) → n < length pages → bytes ≡ get_or pages n [] → SendsBut owed bytes (pages_sent n pages s) x → owed ≡ [] → x ≡ pages_sent (n + 1) pages s
sent_page pages n bytes owed s x within is sent none =
    all_of bytes owed (pages_sent n pages s) x sent none
    ∙ ap (λ (l : List ℕ). record s { sent = (s.sent ++ concat (take n pages)) ++ l }) is
    ∙ ap (λ (l : List ℕ). record s { sent = l }) (append_assoc s.sent (concat (take n pages)) (get_or pages n []) ∙ ap (λ (l : List ℕ). s.sent ++ l) (flip (pages_more pages n within)))

pub sends_page : (pages : List (List ℕ)) (n : ℕ) (bytes : List ℕ) (a b c d : View) (s x : State) → n < length pages → bytes ≡ get_or pages n [] → LeavesOnly (SendsSome (concat pages) s) 0 a b → b.state ≡ Some (pages_sent n pages s) → Reads b c
    → UsesLine (SendsPart bytes) c d → d.state ≡ Some x → LeavesOnly (SendsSome (concat pages) s) 0 a d
sends_page pages n bytes a b c d s x within is run told read line told_end =
    sends (SendsSome (concat pages) s) 0 (SendsPart bytes) a c d (pages_sent n pages s) x (sends_read (concat pages) a b c s run read) (read.state ∙ told) told_end line
    (λ y part. part_of_more (concat (take n pages)) bytes (concat (drop (n + 1) pages)) (concat pages) s y (pages_are pages n within ∙ ap (λ (l : List ℕ). concat (take n pages) ++ (l ++ concat (drop (n + 1) pages))) (flip is)) (part_sent bytes (pages_sent n pages s) y part))

pub sent_all : (pages : List (List ℕ)) (n : ℕ) (a b : View) (s : State) (done : Type 0) → length pages ≤ n → LeavesOnly (SendsSome (concat pages) s) 0 a b → b.state ≡ Some (pages_sent n pages s) → SendsAll (concat pages) done s a b
sent_all pages n a b s done long run told = record { each = run; whole = λ is. told ∙ ap (λ (l : List (List ℕ)). Some (with_sent s (concat l))) (take_all n pages long) }

-- where it wasn't done
pub sends_not : (piece : List ℕ) (done : Type 0) (s : State) (a b : View) → (done → ⊥) → LeavesOnly (SendsSome piece s) 0 a b → SendsAll piece done s a b
sends_not piece done s a b not run = record { each = run; whole = λ is. absurd (not is) }

-- how many pages there are, and each of them
pub length-image : (staged : Bool) (s : State) → IsState s → length (image_pages staged s) ≡ 480
length-image true s sizes = length-take-le 480 (drop 306 s.ext) (omega (arith, length-drop 306 s.ext, sizes.ext))
length-image false s sizes = sizes.prog

pub staged_page : (s : State) (n : ℕ) → n < 480 → get_or (image_pages true s) n [] ≡ page_at s (Ext (306 + n))
staged_page s n within = get_or-take 480 (drop 306 s.ext) n [] within ∙ get_or-drop 306 s.ext n []

-- they are the chosen set's
are_pages : (s : State) (t : Mote) (b : Bool) → is_pending (parts s) ≡ b → Stands s t → IsPages t.current.set (image_pages b s)
are_pages s t true is stands = image_is_the_chosens.stands (parts s) t.current stands.sound is stands.mote.current
are_pages s t false is stands = image_is_the_chosens.boots (parts s) t.current stands.sound is stands.mote.current

pub sends_image : (s : State) (t : Mote) (b : Bool) (done : Type 0) (a c : View) → is_pending (parts s) ≡ b → Stands s t → SendsAll (concat (image_pages b s)) done s a c → SendsImage t done s a c
sends_image s t b done a c is stands sent = record { pages = image_pages b s; are = are_pages s t b is stands; sends = sent }

-- a read first
pub read_first : (piece : List ℕ) (done : Type 0) (s : State) (a b c : View) → a.state ≡ Some s → Reads a b → SendsAll piece done s b c → SendsAll piece done s a c
read_first piece done s a b c told read sent = record { each = follows (SendsSome piece s) 0 0 a b c (sends_after_read piece a b s told read) sent.each; whole = sent.whole }

-- ---- how it ended

pub flash_not_done : FlashFault ≡ Ended → ⊥
flash_not_done same = omega (arith, ap code_of same)

pub line_not_done : LineFault ≡ Ended → ⊥
line_not_done same = omega (arith, ap code_of same)

pub unformatted_not_done : Unformatted ≡ Ended → ⊥
unformatted_not_done same = omega (arith, ap code_of same)

-- what writes doesn't find a board unformatted
pub writing_formatted : (status : Status) → ends_writing status ≡ true → status ≡ Unformatted → ⊥
writing_formatted status ends same = false≢true (flip (ap ends_writing same) ∙ ends)

pub tells_formatted : (status : Status) (s : State) (v : View) (t : Standing) → IsStanding (parts s) t → ends_writing status ≡ true → TellsUnformatted status s v
tells_formatted status s v t is ends = record {
  only = λ same. absurd (writing_formatted status ends same);
  always = λ not. absurd (standing_formatted (parts s) t is not);
  nothing = λ same. absurd (writing_formatted status ends same);
}

pub tells_unformatted : (s : State) (a b : View) → a.state ≡ Some s → Reads a b → IsUnformatted (parts s) → TellsUnformatted Unformatted s b
tells_unformatted s a b told read is = record { only = λ same. is; always = λ not. inl refl; nothing = λ same. read.state ∙ told }

pub tells_fault : (s : State) (v : View) → TellsUnformatted FlashFault s v
tells_fault s v = record { only = λ same. absurd (writing_formatted FlashFault refl same); always = λ not. inr refl; nothing = λ same. absurd (writing_formatted FlashFault refl same) }
