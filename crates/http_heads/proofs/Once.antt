-- An input has one kind: whole, refused or cut.
use Rattle.std.proofs.Common.{◌≡◌, ◌⊎◌, ℕ, ◌<◌, ◌≤◌, List, [], ◌++◌, length, take, drop, sym, ap, ◌∙◌, subst, inl, inr, append_assoc, arith}
use Rattle.std.proofs.lemmas.List.{take-append-le, take-append-drop, length-append}
use Rattle.std.proofs.Math.Seq.{take-append_seam}
use Rattle.httparse.specs.Grammar.{RequestHead, print_request, ReadsRequest, NeverHasRequest, MayBecomeRequest, EndsInTarget, HasNoRequest}
use Rattle.http_heads.specs.Heads.{HasHead, HasNoHead, IsCutHead}

-- a first part that isn't longer than another first part of the same list begins it
pub begins : (p r t a : List ℕ) → t ++ a ≡ p ++ r → length p ≤ length t → t ≡ p ++ drop (length p) t
begins p r t a same fits =
    let front : take (length p) t ≡ p = sym (take-append-le (length p) t a fits) ∙ ap (take (length p)) same ∙ take-append_seam p r in
    sym (take-append-drop (length p) t) ∙ ap (λ (xs : List ℕ). xs ++ drop (length p) t) front

-- bytes without a head, of which no head can follow or which are as long as a head may be
pub hold_none : (taken after : List ℕ) (h : RequestHead) (rest : List ℕ) → HasNoRequest taken → (length taken ≡ 8192) ⊎ NeverHasRequest taken
    → ReadsRequest (taken ++ after) h rest → length (print_request h) ≤ 8192 → ⊥
hold_none taken after h rest none (inl full) reads small =
    none h (drop (length (print_request h)) taken) (reads.0, begins (print_request h) rest taken after reads.1 (omega (arith, full)))
hold_none taken after h rest none (inr never) reads small = never after h rest reads

pub refused_or_whole : (input : List ℕ) → HasNoHead input → HasHead input → ⊥
refused_or_whole input refused has =
    hold_none refused.taken refused.after has.head has.rest refused.refused.none refused.refused.why
    (has.reads.0, sym refused.is ∙ has.reads.1) has.small

-- where no head can follow some bytes, a beginning with them becomes none
pub no_more : (taken after : List ℕ) → NeverHasRequest taken → MayBecomeRequest (taken ++ after) → EndsInTarget (taken ++ after)
no_more taken after never (inl (more, h, reads)) =
    absurd (never (after ++ more) h [] (reads.0, sym (append_assoc taken after more) ∙ reads.1))
no_more taken after never (inr ends) = ends

pub open_target : (taken after : List ℕ) → (length taken ≡ 8192) ⊎ NeverHasRequest taken → length (taken ++ after) < 8192 → MayBecomeRequest (taken ++ after) → EndsInTarget (taken ++ after)
open_target taken after (inl full) short may = absurd (omega (arith, full, length-append taken after))
open_target taken after (inr never) short may = no_more taken after never may

pub refused_or_cut : (input : List ℕ) → HasNoHead input → IsCutHead input → EndsInTarget input
refused_or_cut input refused cut =
    subst EndsInTarget (sym refused.is)
    (open_target refused.taken refused.after refused.refused.why (subst (λ (xs : List ℕ). length xs < 8192) refused.is cut.short) (subst MayBecomeRequest refused.is cut.open_still))
