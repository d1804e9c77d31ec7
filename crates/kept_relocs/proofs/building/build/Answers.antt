use Rattle.std.proofs.Common.{◌≡◌, ℕ, ◌+◌, ◌*◌, List, drop, refl, ap, ◌∙◌, subst, arith}
use Rattle.std.proofs.lemmas.List.{drop-drop}
use Rattle.flash_pages.proofs.Runs.{uses_uses, weaker}
use Rattle.component_package.specs.declared.part.Site.{Site}
use Rattle.component_package.specs.link.Link.{sites_of}
use Rattle.component_package.specs.link.Areas.{list_bytes}
use Rattle.component_package.specs.link.Pages.{in_image_order, listed}
use Rattle.component_store.proofs.Calls.{reads_none}
use Rattle.kept_relocs.specs.Order.{rest_of}
use Rattle.kept_relocs.specs.Written.{OnlyList, in_pages}
use Rattle.kept_relocs.proofs.Only.{only_list_starts, only_list_next, set_stays}
use Rattle.kept_relocs.proofs.Written.{HoldsFirst, told_wears, each_read, once_read, wear_read, each_program, once_program, wear_program}
use Rattle.kept_relocs.proofs.Written.{spares_next, pass_next, holds_next, passed_none, wears_in, wears_other}
use Rattle.kept_relocs.proofs.Listing.{pages_count}
use Rattle.kept_relocs.proofs.Steps.{target, symbols_stays, symbols_stayed, page_is, list_is}
use Rattle.kept_relocs.proofs.building.build.Goals as goal

pub loop-page-init : goal.loop-page-init
loop-page-init g c = record {
  inside = omega arith;
  within = c.new-cursor.ensures.within c.args.set.now;
  uses = (reads_none (g.B.Board.view c.args.board.now)).uses;
  fault = refl;
  pass = λ s told. passed_none 50 OnlyList s (g.B.Board.view c.args.board.now) (only_list_starts s) told;
  symbols = λ s told. c.new-symbols.ensures s;
  rest = λ s told components holds. c.new-cursor.ensures.rest components;
  holds = λ s told components holds table tells x now p lt. absurd (omega (arith, lt));
  spares = λ s told components holds table tells p lt free. absurd (omega (arith, lt));
}

pub returns-in_default-clause-each : goal.returns-in_default-clause-each
returns-in_default-clause-each g c = λ s told.
    each_read 50 305 256 refl OnlyList only_list_next s _ (g.B.Board.view c.loop-page.board) (g.B.Board.view c.list_page.new.board) c.loop-page.page c.loop-page-test.true
    (c.loop-page.invariant.pass s told) c.list_page.ensures.reads

pub returns-in_default-clause-once : goal.returns-in_default-clause-once
returns-in_default-clause-once g c =
    told_wears _ _ _
    (λ s told.
    once_read 50 305 256 refl OnlyList only_list_next s _ (g.B.Board.view c.loop-page.board) (g.B.Board.view c.list_page.new.board) c.loop-page.page c.loop-page-test.true
    (c.loop-page.invariant.pass s told) c.list_page.ensures.reads)

pub returns-in_default-clause-wear : goal.returns-in_default-clause-wear
returns-in_default-clause-wear g c = λ s told components holds table tells.
    let b : List ℕ = list_bytes (listed components table) in
    wear_read 50 305 256 refl OnlyList only_list_next s _ (g.B.Board.view c.loop-page.board) (g.B.Board.view c.list_page.new.board) c.loop-page.page c.loop-page-test.true
    (c.loop-page.invariant.pass s told) c.list_page.ensures.reads
    (in_pages 256 b) (pages_count b) (c.loop-page.invariant.spares s told components holds table tells) told

pub returns-in_default-program_if_different-clause-each : goal.returns-in_default-program_if_different-clause-each
returns-in_default-program_if_different-clause-each g c = λ s told.
    each_program 50 305 256 refl OnlyList only_list_next s _ (g.B.Board.view c.loop-page.board) (g.B.Board.view c.list_page.new.board) c.loop-page.page
    c.loop-page-test.true (c.loop-page.invariant.pass s told) c.list_page.ensures.reads (g.B.Board.view c.program_if_different.new.board) c.list_page.new.page
    c.program_if_different.ensures.programs

pub returns-in_default-program_if_different-clause-once : goal.returns-in_default-program_if_different-clause-once
returns-in_default-program_if_different-clause-once g c =
    told_wears _ _ _
    (λ s told.
    once_program 50 305 256 refl OnlyList only_list_next s _ (g.B.Board.view c.loop-page.board) (g.B.Board.view c.list_page.new.board) c.loop-page.page
    c.loop-page-test.true (c.loop-page.invariant.pass s told) c.list_page.ensures.reads (g.B.Board.view c.program_if_different.new.board) c.list_page.new.page c.program_if_different.ensures.programs)

pub returns-in_default-program_if_different-clause-wear : goal.returns-in_default-program_if_different-clause-wear
returns-in_default-program_if_different-clause-wear g c = λ s told components holds table tells.
    let set = c.args.set.now in
    let pass = c.loop-page.invariant.pass s told in
    let x = pass.run.end in
    let holds_x = set_stays s x set components pass.run.ends holds in
    let bytes_are : c.list_page.new.page ≡ target components table c.loop-page.page =
    page_is s set components c.args.plan.now c.requires.set c.rooms.ensures c.requires.plan c.requires.few holds table tells x pass.run.ends
    (rest_of components c.loop-page.cursor) c.loop-page.page c.list_page.new.page c.loop-page-test.true
    (c.loop-page.invariant.rest s told components holds)
    (c.in-Ok.ensures.page x pass.run.told components holds_x (symbols_stays s x c.loop-page.symbols pass.run.ends (c.loop-page.invariant.symbols s told))) in
    let b : List ℕ = list_bytes (listed components table) in
    wear_program 50 305 256 refl OnlyList only_list_next s _ (g.B.Board.view c.loop-page.board) (g.B.Board.view c.list_page.new.board) c.loop-page.page
    c.loop-page-test.true (c.loop-page.invariant.pass s told) c.list_page.ensures.reads (g.B.Board.view c.program_if_different.new.board) c.list_page.new.page
    c.program_if_different.ensures.programs
    (in_pages 256 b) (pages_count b) bytes_are (c.loop-page.invariant.spares s told components holds table tells) told

pub loop-page-preserved : goal.loop-page-preserved
loop-page-preserved g c = record {
  inside = omega (arith, c.loop-page-test.true);
  within = c.in-Ok.ensures.within;
  uses = uses_uses _ _ _ (uses_uses _ _ _ c.loop-page.invariant.uses c.list_page.ensures.reads.uses) c.program_if_different.ensures.programs.uses;
  fault = c.in-Ok-program_if_different.ensures.faults ∙ c.in-Ok.ensures.faults ∙ c.loop-page.invariant.fault;
  pass = λ s told.
      pass_next 50 305 256 refl OnlyList only_list_next s _ (g.B.Board.view c.loop-page.board) (g.B.Board.view c.list_page.new.board) c.loop-page.page
      c.loop-page-test.true (c.loop-page.invariant.pass s told) c.list_page.ensures.reads (g.B.Board.view c.program_if_different.new.board) c.list_page.new.page
      c.program_if_different.ensures.programs c.in-Ok-program_if_different.ensures.ok;
  symbols = λ s told.
      let pass = c.loop-page.invariant.pass s told in
      let x = pass.run.end in
      let symbols_x = symbols_stays s x c.loop-page.symbols pass.run.ends (c.loop-page.invariant.symbols s told) in
      symbols_stayed s x c.list_page.new.symbols pass.run.ends (c.in-Ok.ensures.symbols x pass.run.told symbols_x);
  rest = λ s told components holds.
      let set = c.args.set.now in
      let pass = c.loop-page.invariant.pass s told in
      let x = pass.run.end in
      let holds_x = set_stays s x set components pass.run.ends holds in
      let order : List Site = in_image_order (sites_of components) in
      let here : rest_of components c.list_page.new.cursor ≡ drop 32 (rest_of components c.loop-page.cursor) = c.in-Ok.ensures.rest x pass.run.told components holds_x in
      let e : 32 * c.loop-page.page + 32 ≡ 32 * (c.loop-page.page + 1) = omega arith in
      here ∙ ap (drop 32) (c.loop-page.invariant.rest s told components holds) ∙ drop-drop 32 (32 * c.loop-page.page) order ∙ ap (λ (n : ℕ). drop n order) e;
  holds = λ s told components holds table tells.
      let set = c.args.set.now in
      let pass = c.loop-page.invariant.pass s told in
      let x = pass.run.end in
      let holds_x = set_stays s x set components pass.run.ends holds in
      let bytes_are : c.list_page.new.page ≡ target components table c.loop-page.page =
      page_is s set components c.args.plan.now c.requires.set c.rooms.ensures c.requires.plan c.requires.few holds table tells x pass.run.ends
      (rest_of components c.loop-page.cursor) c.loop-page.page c.list_page.new.page c.loop-page-test.true
      (c.loop-page.invariant.rest s told components holds)
      (c.in-Ok.ensures.page x pass.run.told components holds_x (symbols_stays s x c.loop-page.symbols pass.run.ends (c.loop-page.invariant.symbols s told))) in
      holds_next 50 305 256 refl OnlyList only_list_next s _ (g.B.Board.view c.loop-page.board) (g.B.Board.view c.list_page.new.board) c.loop-page.page
      c.loop-page-test.true (c.loop-page.invariant.pass s told) c.list_page.ensures.reads (g.B.Board.view c.program_if_different.new.board) c.list_page.new.page
      c.program_if_different.ensures.programs c.in-Ok-program_if_different.ensures.ok (omega arith)
      (target components table) bytes_are (c.loop-page.invariant.holds s told components holds table tells);
  spares = λ s told components holds table tells.
      let set = c.args.set.now in
      let pass = c.loop-page.invariant.pass s told in
      let x = pass.run.end in
      let holds_x = set_stays s x set components pass.run.ends holds in
      let bytes_are : c.list_page.new.page ≡ target components table c.loop-page.page =
      page_is s set components c.args.plan.now c.requires.set c.rooms.ensures c.requires.plan c.requires.few holds table tells x pass.run.ends
      (rest_of components c.loop-page.cursor) c.loop-page.page c.list_page.new.page c.loop-page-test.true
      (c.loop-page.invariant.rest s told components holds)
      (c.in-Ok.ensures.page x pass.run.told components holds_x (symbols_stays s x c.loop-page.symbols pass.run.ends (c.loop-page.invariant.symbols s told))) in
      spares_next 50 305 256 refl OnlyList only_list_next s _ (g.B.Board.view c.loop-page.board) (g.B.Board.view c.list_page.new.board) c.loop-page.page
      c.loop-page-test.true (c.loop-page.invariant.pass s told) c.list_page.ensures.reads (g.B.Board.view c.program_if_different.new.board) c.list_page.new.page
      c.program_if_different.ensures.programs
      (target components table) bytes_are (c.loop-page.invariant.spares s told components holds table tells);
}

pub returns-clause-ok : goal.returns-clause-ok
returns-clause-ok g c = λ s told components holds table tells.
    let set = c.args.set.now in
    let pass = c.loop-page.invariant.pass s told in
    let x = pass.run.end in
    let all : c.loop-page.page ≡ 256 = omega (arith, c.loop-page.invariant.inside, c.loop-page-test.false) in
    list_is s set components c.args.plan.now c.requires.set c.rooms.ensures c.requires.plan c.requires.few holds table tells (g.B.Board.view c.loop-page.board) x pass.run.told
    (subst (λ (n : ℕ). HoldsFirst 50 n x (target components table)) all (c.loop-page.invariant.holds s told components holds table tells x pass.run.told))

pub returns-clause-each : goal.returns-clause-each
returns-clause-each g c = λ s told.
    let pass = c.loop-page.invariant.pass s told in weaker (OnlyList s) (OnlyList s) c.loop-page.page 256 _ (g.B.Board.view c.loop-page.board)
    c.loop-page.invariant.inside (λ x here. here) pass.run

pub returns-clause-once : goal.returns-clause-once
returns-clause-once g c =
    told_wears _ _ _
    (λ s told. wears_in 50 305 c.loop-page.page _ (g.B.Board.view c.loop-page.board) (omega (arith, c.loop-page.invariant.inside)) (c.loop-page.invariant.pass s told).worn)

pub returns-clause-wear : goal.returns-clause-wear
returns-clause-wear g c = λ s told components holds table tells.
    let b : List ℕ = list_bytes (listed components table) in
    wears_other 50 c.loop-page.page (in_pages 256 b) s _ (g.B.Board.view c.loop-page.board) told (omega (arith, c.loop-page.invariant.inside, pages_count b))
    (c.loop-page.invariant.pass s told).worn (c.loop-page.invariant.spares s told components holds table tells)
