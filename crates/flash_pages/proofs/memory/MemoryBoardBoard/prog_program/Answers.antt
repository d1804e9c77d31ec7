use Rattle.std.proofs.Common.{◌≡◌, ℕ, List, [], ap, refl, ◌∙◌, arith}
use Rattle.std.proofs.lemmas.List.{get_or_read}
use Rattle.std.proofs.lemmas.Result.{on_ok_weaker, on_err_weaker}
use Rattle.flash_pages.specs.State.{State, Prog}
use Rattle.flash_pages.specs.declared.log.Change.TheVariants.{ProgHeld}
use Rattle.flash_pages.proofs.Logged.{programs_result, programmed_result, at_ok}
use Rattle.flash_pages.proofs.memory.MemoryBoardBoard.prog_program.Goals as goal

pub returns-clause-programs : goal.returns-clause-programs
returns-clause-programs c =
    let b = c.args.self.now in
    let was = get_or_read b.prog.items c.args.page c.index.result.now (omega (arith, b.prog_size)) c.index.ensures [] in
    let to_state : List (List ℕ) → State = λ e. record { prog = e; ext = b.ext.items; sent = b.sent.items } in
    programs_result (Prog c.args.page) _ _ _ _ _ c.written-bytes.result _ _ _ _ _ (ProgHeld c.args.page c.index.result.now) c.replace.result
    (c.replace.ensures.size, c.replace.ensures.bytes) (ap (ProgHeld c.args.page) was) (omega arith)
    (on_ok_weaker c.replace.result (λ e. ap to_state e) c.replace.ensures.pages) c.replace.ensures.log
    (on_err_weaker c.replace.result (λ e. ap to_state e) c.replace.ensures.pages_err) c.replace.ensures.log_err

pub returns-then-is_err-clause-programs : goal.returns-then-is_err-clause-programs
returns-then-is_err-clause-programs c =
    let b = c.args.self.now in
    let was = get_or_read b.prog.items c.args.page c.index.result.now (omega (arith, b.prog_size)) c.index.ensures [] in
    let to_state : List (List ℕ) → State = λ e. record { prog = e; ext = b.ext.items; sent = b.sent.items } in
    programs_result (Prog c.args.page) _ _ _ _ _ c.written-bytes.result _ _ _ _ _ (ProgHeld c.args.page c.index.result.now) c.replace.result
    (c.replace.ensures.size, c.replace.ensures.bytes) (ap (ProgHeld c.args.page) was) c.raised-self-then-is_err.ensures.no_less
    (on_ok_weaker c.replace.result (λ e. ap to_state e) c.replace.ensures.pages) c.replace.ensures.log
    (on_err_weaker c.replace.result (λ e. ap to_state e) c.replace.ensures.pages_err) c.replace.ensures.log_err

pub returns-then-stops-clause-programs : goal.returns-then-stops-clause-programs
returns-then-stops-clause-programs c =
    let b = c.args.self.now in
    let was = get_or_read b.prog.items c.args.page c.index.result.now (omega (arith, b.prog_size)) c.index.ensures [] in
    let to_state : List (List ℕ) → State = λ e. record { prog = e; ext = b.ext.items; sent = b.sent.items } in
    programs_result (Prog c.args.page) _ _ _ _ _ c.written-bytes.result _ _ _ _ _ (ProgHeld c.args.page c.index.result.now) c.replace.result
    (c.replace.ensures.size, c.replace.ensures.bytes) (ap (ProgHeld c.args.page) was) c.raised-self-then-stops.ensures.no_less
    (on_ok_weaker c.replace.result (λ e. ap to_state e) c.replace.ensures.pages) c.replace.ensures.log
    (on_err_weaker c.replace.result (λ e. ap to_state e) c.replace.ensures.pages_err) c.replace.ensures.log_err

pub returns-clause-ok : goal.returns-clause-ok
returns-clause-ok c =
    let b = c.args.self.now in
    let was = get_or_read b.prog.items c.args.page c.index.result.now (omega (arith, b.prog_size)) c.index.ensures [] in
    let to_state : List (List ℕ) → State = λ e. record { prog = e; ext = b.ext.items; sent = b.sent.items } in
    let bytes_are : c.written-bytes.result ≡ c.args.from.now = c.written-bytes.ensures ∙ (rw c.if-stops.false refl) in
    programmed_result c.args.from.now (Prog c.args.page) _ _ _ _ _ c.written-bytes.result _ _ _ _ (ProgHeld c.args.page c.index.result.now)
    bytes_are (c.replace.ensures.size, c.replace.ensures.bytes) (ap (ProgHeld c.args.page) was) (ap to_state (at_ok c.replace.result c.if-is_err.ensures.value c.replace.ensures.pages)) (at_ok c.replace.result c.if-is_err.ensures.value c.replace.ensures.log)
