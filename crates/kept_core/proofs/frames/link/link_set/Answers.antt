use Rattle.std.proofs.Common.{true, false, Option, refl, ◌∙◌, subst, arith}
use Rattle.component_package.specs.declared.answer.Answer.{Answer}
use Rattle.kept_core.specs.Serving.{link_pages}
use Rattle.kept_core.specs.Links.{comes_of, IsEarlyFree, Counts, Goes}
use Rattle.kept_core.proofs.Links.{run_idle, run_then, read_then, read_only, weaker_run}
use Rattle.kept_core.proofs.Chain.{refused_here, refused_late, linked_all}
use Rattle.kept_core.proofs.Wears.{idle_starts, idle_reads, works_idle, works_reads, works_wider, works_then, list_idle, staged_idle, list_between, staged_between, list_before, staged_behind, staged_unmade}
use Rattle.kept_core.proofs.frames.link.link_set.Goals as goal

pub returns-in-Err-clause-links : goal.returns-in-Err-clause-links
returns-in-Err-clause-links g c s told t linking flags =
    refused_here t c.args.set.now c.in-Err.answer s (g.B.Board.view c.args.board.now) told linking (c.in-Err.ensures.refuses s (comes_of t c.args.set.now) linking.held)

pub returns-in-Err-clause-leaves : goal.returns-in-Err-clause-leaves
returns-in-Err-clause-leaves g c s told t linking flags =
    run_idle s t 771 (g.B.Board.view c.args.board.now) told linking.stands

pub returns-in-Ok-Some-clause-links : goal.returns-in-Ok-Some-clause-links
returns-in-Ok-Some-clause-links g c s told t linking flags =
    let room = c.in-Ok.ensures.room s (comes_of t c.args.set.now) linking.held in
    let counts = subst (λ (o : Option Answer). Counts o (comes_of t c.args.set.now)) c.in-Ok-Some.field-0-is (c.in-Ok-Some.ensures.counts s told (comes_of t c.args.set.now) linking.held room) in
    refused_here t c.args.set.now c.in-Ok-Some.answer s (g.B.Board.view c.count_set.new.board) (c.count_set.ensures.reads.state ∙ told) linking counts.0

pub returns-in-Ok-Some-clause-leaves : goal.returns-in-Ok-Some-clause-leaves
returns-in-Ok-Some-clause-leaves g c s told t linking flags =
    read_only s t 771 (g.B.Board.view c.args.board.now) (g.B.Board.view c.count_set.new.board) told linking.stands c.count_set.ensures.reads

pub returns-in-Err-count_set-clause-leaves : goal.returns-in-Err-count_set-clause-leaves
returns-in-Err-count_set-clause-leaves g c s told t linking flags =
    read_only s t 771 (g.B.Board.view c.args.board.now) (g.B.Board.view c.count_set.new.board) told linking.stands c.count_set.ensures.reads

pub returns-in-Ok-Some-make_areas-clause-links : goal.returns-in-Ok-Some-make_areas-clause-links
returns-in-Ok-Some-make_areas-clause-links g c s told t linking flags =
    let room = c.in-Ok.ensures.room s (comes_of t c.args.set.now) linking.held in
    let told_read = c.count_set.ensures.reads.state ∙ told in
    let counts = subst (λ (o : Option Answer). Counts o (comes_of t c.args.set.now)) c.in-Ok-None.field-0-is (c.in-Ok-None.ensures.counts s told (comes_of t c.args.set.now) linking.held room) in
    let early : IsEarlyFree (comes_of t c.args.set.now) = record { room = room; symbols = counts.0; relocs = counts.1 } in
    refused_late t c.args.set.now c.in-Ok-Some-make_areas.answer s (g.B.Board.view c.make_areas.new.board) linking early
    (subst (λ (o : Option Answer). Goes t c.args.set.now true true o s (g.B.Board.view c.make_areas.new.board)) c.in-Ok-Some-make_areas.field-0-is (c.in-Ok-Some-make_areas.ensures.goes s told_read t linking early flags))

pub returns-in-Ok-Some-make_areas-clause-leaves : goal.returns-in-Ok-Some-make_areas-clause-leaves
returns-in-Ok-Some-make_areas-clause-leaves g c s told t linking flags =
    let room = c.in-Ok.ensures.room s (comes_of t c.args.set.now) linking.held in
    let told_read = c.count_set.ensures.reads.state ∙ told in
    let counts = subst (λ (o : Option Answer). Counts o (comes_of t c.args.set.now)) c.in-Ok-None.field-0-is (c.in-Ok-None.ensures.counts s told (comes_of t c.args.set.now) linking.held room) in
    let early : IsEarlyFree (comes_of t c.args.set.now) = record { room = room; symbols = counts.0; relocs = counts.1 } in
    read_then s t 771 (g.B.Board.view c.args.board.now) (g.B.Board.view c.count_set.new.board) (g.B.Board.view c.make_areas.new.board) told linking.stands c.count_set.ensures.reads (weaker_run s 290 771 (g.B.Board.view c.count_set.new.board) (g.B.Board.view c.make_areas.new.board) (omega arith) (c.make_areas.ensures.leaves s told_read t linking (early, flags)))

pub returns-in-Err-make_areas-clause-leaves : goal.returns-in-Err-make_areas-clause-leaves
returns-in-Err-make_areas-clause-leaves g c s told t linking flags =
    let room = c.in-Ok.ensures.room s (comes_of t c.args.set.now) linking.held in
    let told_read = c.count_set.ensures.reads.state ∙ told in
    let counts = subst (λ (o : Option Answer). Counts o (comes_of t c.args.set.now)) c.in-Ok-None.field-0-is (c.in-Ok-None.ensures.counts s told (comes_of t c.args.set.now) linking.held room) in
    let early : IsEarlyFree (comes_of t c.args.set.now) = record { room = room; symbols = counts.0; relocs = counts.1 } in
    read_then s t 771 (g.B.Board.view c.args.board.now) (g.B.Board.view c.count_set.new.board) (g.B.Board.view c.make_areas.new.board) told linking.stands c.count_set.ensures.reads (weaker_run s 290 771 (g.B.Board.view c.count_set.new.board) (g.B.Board.view c.make_areas.new.board) (omega arith) (c.make_areas.ensures.leaves s told_read t linking (early, flags)))

pub returns-in-Ok-make_image-clause-leaves : goal.returns-in-Ok-make_image-clause-leaves
returns-in-Ok-make_image-clause-leaves g c s told t linking flags =
    let room = c.in-Ok.ensures.room s (comes_of t c.args.set.now) linking.held in
    let told_read = c.count_set.ensures.reads.state ∙ told in
    let counts = subst (λ (o : Option Answer). Counts o (comes_of t c.args.set.now)) c.in-Ok-None.field-0-is (c.in-Ok-None.ensures.counts s told (comes_of t c.args.set.now) linking.held room) in
    let early : IsEarlyFree (comes_of t c.args.set.now) = record { room = room; symbols = counts.0; relocs = counts.1 } in
    let first = subst (λ (o : Option Answer). Goes t c.args.set.now true true o s (g.B.Board.view c.make_areas.new.board)) c.in-Ok-None-make_areas.field-0-is (c.in-Ok-None-make_areas.ensures.goes s told_read t linking early flags) in
    let gates = first.gates refl in
    read_then s t 771 (g.B.Board.view c.args.board.now) (g.B.Board.view c.count_set.new.board) (g.B.Board.view c.make_image.new.board) told linking.stands c.count_set.ensures.reads
    (run_then link_pages s first.end 290 481 (g.B.Board.view c.count_set.new.board) (g.B.Board.view c.make_areas.new.board) (g.B.Board.view c.make_image.new.board) first.told (c.make_areas.ensures.leaves s told_read t linking (early, flags))
    (c.make_image.ensures.leaves first.end first.told t first.linking (gates.rel_is, gates.img_is ∙ flags.img_is)))

pub returns-in-Err-make_image-clause-leaves : goal.returns-in-Err-make_image-clause-leaves
returns-in-Err-make_image-clause-leaves g c s told t linking flags =
    let room = c.in-Ok.ensures.room s (comes_of t c.args.set.now) linking.held in
    let told_read = c.count_set.ensures.reads.state ∙ told in
    let counts = subst (λ (o : Option Answer). Counts o (comes_of t c.args.set.now)) c.in-Ok-None.field-0-is (c.in-Ok-None.ensures.counts s told (comes_of t c.args.set.now) linking.held room) in
    let early : IsEarlyFree (comes_of t c.args.set.now) = record { room = room; symbols = counts.0; relocs = counts.1 } in
    let first = subst (λ (o : Option Answer). Goes t c.args.set.now true true o s (g.B.Board.view c.make_areas.new.board)) c.in-Ok-None-make_areas.field-0-is (c.in-Ok-None-make_areas.ensures.goes s told_read t linking early flags) in
    let gates = first.gates refl in
    read_then s t 771 (g.B.Board.view c.args.board.now) (g.B.Board.view c.count_set.new.board) (g.B.Board.view c.make_image.new.board) told linking.stands c.count_set.ensures.reads
    (run_then link_pages s first.end 290 481 (g.B.Board.view c.count_set.new.board) (g.B.Board.view c.make_areas.new.board) (g.B.Board.view c.make_image.new.board) first.told (c.make_areas.ensures.leaves s told_read t linking (early, flags))
    (c.make_image.ensures.leaves first.end first.told t first.linking (gates.rel_is, gates.img_is ∙ flags.img_is)))

pub returns-in-Ok-make_image-clause-links : goal.returns-in-Ok-make_image-clause-links
returns-in-Ok-make_image-clause-links g c s told t linking flags =
    let room = c.in-Ok.ensures.room s (comes_of t c.args.set.now) linking.held in
    let told_read = c.count_set.ensures.reads.state ∙ told in
    let counts = subst (λ (o : Option Answer). Counts o (comes_of t c.args.set.now)) c.in-Ok-None.field-0-is (c.in-Ok-None.ensures.counts s told (comes_of t c.args.set.now) linking.held room) in
    let early : IsEarlyFree (comes_of t c.args.set.now) = record { room = room; symbols = counts.0; relocs = counts.1 } in
    let first = subst (λ (o : Option Answer). Goes t c.args.set.now true true o s (g.B.Board.view c.make_areas.new.board)) c.in-Ok-None-make_areas.field-0-is (c.in-Ok-None-make_areas.ensures.goes s told_read t linking early flags) in
    let gates = first.gates refl in
    linked_all t c.args.set.now _ s (g.B.Board.view c.make_areas.new.board) (g.B.Board.view c.make_image.new.board) linking first refl (c.in-Ok-make_image.ensures.done first.end first.told t first.linking gates.rel_is (gates.img_is ∙ flags.img_is))

pub returns-in-Err-clause-wears : goal.returns-in-Err-clause-wears
returns-in-Err-clause-wears g c s told = works_idle 18 785 _ s (g.B.Board.view c.args.board.now) (g.B.Board.view c.args.board.now) told (idle_starts (g.B.Board.view c.args.board.now))

pub returns-in-Err-clause-list : goal.returns-in-Err-clause-list
returns-in-Err-clause-list g c s told t linking flags = list_idle (comes_of t c.args.set.now) s (g.B.Board.view c.args.board.now) (g.B.Board.view c.args.board.now) (idle_starts (g.B.Board.view c.args.board.now))

pub returns-in-Err-clause-staged : goal.returns-in-Err-clause-staged
returns-in-Err-clause-staged g c s told t linking flags = staged_idle (comes_of t c.args.set.now) s (g.B.Board.view c.args.board.now) (g.B.Board.view c.args.board.now) (idle_starts (g.B.Board.view c.args.board.now))

pub returns-in-Ok-Some-clause-wears : goal.returns-in-Ok-Some-clause-wears
returns-in-Ok-Some-clause-wears g c s told = works_idle 18 785 _ s (g.B.Board.view c.args.board.now) (g.B.Board.view c.count_set.new.board) (c.count_set.ensures.reads.state ∙ told) (idle_reads (g.B.Board.view c.args.board.now) (g.B.Board.view c.count_set.new.board) c.count_set.ensures.reads)

pub returns-in-Ok-Some-clause-list : goal.returns-in-Ok-Some-clause-list
returns-in-Ok-Some-clause-list g c s told t linking flags = list_idle (comes_of t c.args.set.now) s (g.B.Board.view c.args.board.now) (g.B.Board.view c.count_set.new.board) (idle_reads (g.B.Board.view c.args.board.now) (g.B.Board.view c.count_set.new.board) c.count_set.ensures.reads)

pub returns-in-Ok-Some-clause-staged : goal.returns-in-Ok-Some-clause-staged
returns-in-Ok-Some-clause-staged g c s told t linking flags = staged_idle (comes_of t c.args.set.now) s (g.B.Board.view c.args.board.now) (g.B.Board.view c.count_set.new.board) (idle_reads (g.B.Board.view c.args.board.now) (g.B.Board.view c.count_set.new.board) c.count_set.ensures.reads)

pub returns-in-Err-count_set-clause-wears : goal.returns-in-Err-count_set-clause-wears
returns-in-Err-count_set-clause-wears g c s told = works_idle 18 785 _ s (g.B.Board.view c.args.board.now) (g.B.Board.view c.count_set.new.board) (c.count_set.ensures.reads.state ∙ told) (idle_reads (g.B.Board.view c.args.board.now) (g.B.Board.view c.count_set.new.board) c.count_set.ensures.reads)

pub returns-in-Err-count_set-clause-list : goal.returns-in-Err-count_set-clause-list
returns-in-Err-count_set-clause-list g c s told t linking flags = list_idle (comes_of t c.args.set.now) s (g.B.Board.view c.args.board.now) (g.B.Board.view c.count_set.new.board) (idle_reads (g.B.Board.view c.args.board.now) (g.B.Board.view c.count_set.new.board) c.count_set.ensures.reads)

pub returns-in-Err-count_set-clause-staged : goal.returns-in-Err-count_set-clause-staged
returns-in-Err-count_set-clause-staged g c s told t linking flags = staged_idle (comes_of t c.args.set.now) s (g.B.Board.view c.args.board.now) (g.B.Board.view c.count_set.new.board) (idle_reads (g.B.Board.view c.args.board.now) (g.B.Board.view c.count_set.new.board) c.count_set.ensures.reads)

pub returns-in-Ok-Some-make_areas-clause-wears : goal.returns-in-Ok-Some-make_areas-clause-wears
returns-in-Ok-Some-make_areas-clause-wears g c s told =
    let told_read = c.count_set.ensures.reads.state ∙ told in
    works_reads 18 785 true s (g.B.Board.view c.args.board.now) (g.B.Board.view c.count_set.new.board) (g.B.Board.view c.make_areas.new.board) c.count_set.ensures.reads (works_wider 18 305 18 785 (omega arith) (omega arith) true s (g.B.Board.view c.count_set.new.board) (g.B.Board.view c.make_areas.new.board) (c.in-Ok-Some-make_areas.ensures.wears s told_read))

pub returns-in-Ok-Some-make_areas-clause-list : goal.returns-in-Ok-Some-make_areas-clause-list
returns-in-Ok-Some-make_areas-clause-list g c s told t linking flags =
    let room = c.in-Ok.ensures.room s (comes_of t c.args.set.now) linking.held in
    let told_read = c.count_set.ensures.reads.state ∙ told in
    let counts = subst (λ (o : Option Answer). Counts o (comes_of t c.args.set.now)) c.in-Ok-None.field-0-is (c.in-Ok-None.ensures.counts s told (comes_of t c.args.set.now) linking.held room) in
    let early : IsEarlyFree (comes_of t c.args.set.now) = record { room = room; symbols = counts.0; relocs = counts.1 } in
    list_between (comes_of t c.args.set.now) s (g.B.Board.view c.args.board.now) (g.B.Board.view c.count_set.new.board) (g.B.Board.view c.make_areas.new.board) (g.B.Board.view c.make_areas.new.board) (idle_reads (g.B.Board.view c.args.board.now) (g.B.Board.view c.count_set.new.board) c.count_set.ensures.reads) (c.in-Ok-Some-make_areas.ensures.spares s told_read t linking early flags) (idle_starts (g.B.Board.view c.make_areas.new.board))

pub returns-in-Ok-Some-make_areas-clause-staged : goal.returns-in-Ok-Some-make_areas-clause-staged
returns-in-Ok-Some-make_areas-clause-staged g c s told t linking flags =
    let told_read = c.count_set.ensures.reads.state ∙ told in
    staged_between (comes_of t c.args.set.now) s (g.B.Board.view c.args.board.now) (g.B.Board.view c.count_set.new.board) (g.B.Board.view c.make_areas.new.board) (g.B.Board.view c.make_areas.new.board) (idle_reads (g.B.Board.view c.args.board.now) (g.B.Board.view c.count_set.new.board) c.count_set.ensures.reads) (staged_unmade (comes_of t c.args.set.now) true s (g.B.Board.view c.count_set.new.board) (g.B.Board.view c.make_areas.new.board) (c.in-Ok-Some-make_areas.ensures.wears s told_read)) (idle_starts (g.B.Board.view c.make_areas.new.board))

pub returns-in-Err-make_areas-clause-wears : goal.returns-in-Err-make_areas-clause-wears
returns-in-Err-make_areas-clause-wears g c s told =
    let told_read = c.count_set.ensures.reads.state ∙ told in
    works_reads 18 785 false s (g.B.Board.view c.args.board.now) (g.B.Board.view c.count_set.new.board) (g.B.Board.view c.make_areas.new.board) c.count_set.ensures.reads (works_wider 18 305 18 785 (omega arith) (omega arith) false s (g.B.Board.view c.count_set.new.board) (g.B.Board.view c.make_areas.new.board) (c.in-Err-make_areas.ensures.wears s told_read))

pub returns-in-Err-make_areas-clause-list : goal.returns-in-Err-make_areas-clause-list
returns-in-Err-make_areas-clause-list g c s told t linking flags =
    let room = c.in-Ok.ensures.room s (comes_of t c.args.set.now) linking.held in
    let told_read = c.count_set.ensures.reads.state ∙ told in
    let counts = subst (λ (o : Option Answer). Counts o (comes_of t c.args.set.now)) c.in-Ok-None.field-0-is (c.in-Ok-None.ensures.counts s told (comes_of t c.args.set.now) linking.held room) in
    let early : IsEarlyFree (comes_of t c.args.set.now) = record { room = room; symbols = counts.0; relocs = counts.1 } in
    list_between (comes_of t c.args.set.now) s (g.B.Board.view c.args.board.now) (g.B.Board.view c.count_set.new.board) (g.B.Board.view c.make_areas.new.board) (g.B.Board.view c.make_areas.new.board) (idle_reads (g.B.Board.view c.args.board.now) (g.B.Board.view c.count_set.new.board) c.count_set.ensures.reads) (c.in-Err-make_areas.ensures.spares s told_read t linking early flags) (idle_starts (g.B.Board.view c.make_areas.new.board))

pub returns-in-Err-make_areas-clause-staged : goal.returns-in-Err-make_areas-clause-staged
returns-in-Err-make_areas-clause-staged g c s told t linking flags =
    let told_read = c.count_set.ensures.reads.state ∙ told in
    staged_between (comes_of t c.args.set.now) s (g.B.Board.view c.args.board.now) (g.B.Board.view c.count_set.new.board) (g.B.Board.view c.make_areas.new.board) (g.B.Board.view c.make_areas.new.board) (idle_reads (g.B.Board.view c.args.board.now) (g.B.Board.view c.count_set.new.board) c.count_set.ensures.reads) (staged_unmade (comes_of t c.args.set.now) false s (g.B.Board.view c.count_set.new.board) (g.B.Board.view c.make_areas.new.board) (c.in-Err-make_areas.ensures.wears s told_read)) (idle_starts (g.B.Board.view c.make_areas.new.board))

pub returns-in-Ok-make_image-clause-wears : goal.returns-in-Ok-make_image-clause-wears
returns-in-Ok-make_image-clause-wears g c s told =
    let told_read = c.count_set.ensures.reads.state ∙ told in
    let one = c.in-Ok-None-make_areas.ensures.wears s told_read in
    works_reads 18 785 true s (g.B.Board.view c.args.board.now) (g.B.Board.view c.count_set.new.board) (g.B.Board.view c.make_image.new.board) c.count_set.ensures.reads
    (works_then 18 305 785 (omega arith) (omega arith) (omega arith) true true s (g.B.Board.view c.count_set.new.board) (g.B.Board.view c.make_areas.new.board) (g.B.Board.view c.make_image.new.board) one (c.in-Ok-make_image.ensures.wears one.end one.told) (λ yes. refl))

pub returns-in-Ok-make_image-clause-list : goal.returns-in-Ok-make_image-clause-list
returns-in-Ok-make_image-clause-list g c s told t linking flags =
    let room = c.in-Ok.ensures.room s (comes_of t c.args.set.now) linking.held in
    let told_read = c.count_set.ensures.reads.state ∙ told in
    let counts = subst (λ (o : Option Answer). Counts o (comes_of t c.args.set.now)) c.in-Ok-None.field-0-is (c.in-Ok-None.ensures.counts s told (comes_of t c.args.set.now) linking.held room) in
    let early : IsEarlyFree (comes_of t c.args.set.now) = record { room = room; symbols = counts.0; relocs = counts.1 } in
    let first = subst (λ (o : Option Answer). Goes t c.args.set.now true true o s (g.B.Board.view c.make_areas.new.board)) c.in-Ok-None-make_areas.field-0-is (c.in-Ok-None-make_areas.ensures.goes s told_read t linking early flags) in
    let gates = first.gates refl in
    let set = c.args.set.now in
    let one = c.in-Ok-None-make_areas.ensures.wears s told_read in
    list_between (comes_of t set) s (g.B.Board.view c.args.board.now) (g.B.Board.view c.count_set.new.board) (g.B.Board.view c.make_image.new.board) (g.B.Board.view c.make_image.new.board) (idle_reads (g.B.Board.view c.args.board.now) (g.B.Board.view c.count_set.new.board) c.count_set.ensures.reads)
    (list_before (comes_of t set) true s one.end (g.B.Board.view c.count_set.new.board) (g.B.Board.view c.make_areas.new.board) (g.B.Board.view c.make_image.new.board) (c.in-Ok-None-make_areas.ensures.spares s told_read t linking early flags) (c.in-Ok-make_image.ensures.wears one.end one.told)) (idle_starts (g.B.Board.view c.make_image.new.board))

pub returns-in-Ok-make_image-clause-staged : goal.returns-in-Ok-make_image-clause-staged
returns-in-Ok-make_image-clause-staged g c s told t linking flags =
    let room = c.in-Ok.ensures.room s (comes_of t c.args.set.now) linking.held in
    let told_read = c.count_set.ensures.reads.state ∙ told in
    let counts = subst (λ (o : Option Answer). Counts o (comes_of t c.args.set.now)) c.in-Ok-None.field-0-is (c.in-Ok-None.ensures.counts s told (comes_of t c.args.set.now) linking.held room) in
    let early : IsEarlyFree (comes_of t c.args.set.now) = record { room = room; symbols = counts.0; relocs = counts.1 } in
    let first = subst (λ (o : Option Answer). Goes t c.args.set.now true true o s (g.B.Board.view c.make_areas.new.board)) c.in-Ok-None-make_areas.field-0-is (c.in-Ok-None-make_areas.ensures.goes s told_read t linking early flags) in
    let gates = first.gates refl in
    let set = c.args.set.now in
    let one = c.in-Ok-None-make_areas.ensures.wears s told_read in
    staged_between (comes_of t set) s (g.B.Board.view c.args.board.now) (g.B.Board.view c.count_set.new.board) (g.B.Board.view c.make_image.new.board) (g.B.Board.view c.make_image.new.board) (idle_reads (g.B.Board.view c.args.board.now) (g.B.Board.view c.count_set.new.board) c.count_set.ensures.reads)
    (staged_behind (comes_of t set) (comes_of t set) true s first.end (g.B.Board.view c.count_set.new.board) (g.B.Board.view c.make_areas.new.board) (g.B.Board.view c.make_image.new.board) one first.told refl (c.in-Ok-make_image.ensures.spares first.end first.told t first.linking gates.rel_is)) (idle_starts (g.B.Board.view c.make_image.new.board))

pub returns-in-Err-make_image-clause-wears : goal.returns-in-Err-make_image-clause-wears
returns-in-Err-make_image-clause-wears g c s told =
    let told_read = c.count_set.ensures.reads.state ∙ told in
    let one = c.in-Ok-None-make_areas.ensures.wears s told_read in
    works_reads 18 785 false s (g.B.Board.view c.args.board.now) (g.B.Board.view c.count_set.new.board) (g.B.Board.view c.make_image.new.board) c.count_set.ensures.reads
    (works_then 18 305 785 (omega arith) (omega arith) (omega arith) true false s (g.B.Board.view c.count_set.new.board) (g.B.Board.view c.make_areas.new.board) (g.B.Board.view c.make_image.new.board) one (c.in-Err-make_image.ensures.wears one.end one.told) (λ yes. refl))

pub returns-in-Err-make_image-clause-list : goal.returns-in-Err-make_image-clause-list
returns-in-Err-make_image-clause-list g c s told t linking flags =
    let room = c.in-Ok.ensures.room s (comes_of t c.args.set.now) linking.held in
    let told_read = c.count_set.ensures.reads.state ∙ told in
    let counts = subst (λ (o : Option Answer). Counts o (comes_of t c.args.set.now)) c.in-Ok-None.field-0-is (c.in-Ok-None.ensures.counts s told (comes_of t c.args.set.now) linking.held room) in
    let early : IsEarlyFree (comes_of t c.args.set.now) = record { room = room; symbols = counts.0; relocs = counts.1 } in
    let first = subst (λ (o : Option Answer). Goes t c.args.set.now true true o s (g.B.Board.view c.make_areas.new.board)) c.in-Ok-None-make_areas.field-0-is (c.in-Ok-None-make_areas.ensures.goes s told_read t linking early flags) in
    let gates = first.gates refl in
    let set = c.args.set.now in
    let one = c.in-Ok-None-make_areas.ensures.wears s told_read in
    list_between (comes_of t set) s (g.B.Board.view c.args.board.now) (g.B.Board.view c.count_set.new.board) (g.B.Board.view c.make_image.new.board) (g.B.Board.view c.make_image.new.board) (idle_reads (g.B.Board.view c.args.board.now) (g.B.Board.view c.count_set.new.board) c.count_set.ensures.reads)
    (list_before (comes_of t set) false s one.end (g.B.Board.view c.count_set.new.board) (g.B.Board.view c.make_areas.new.board) (g.B.Board.view c.make_image.new.board) (c.in-Ok-None-make_areas.ensures.spares s told_read t linking early flags) (c.in-Err-make_image.ensures.wears one.end one.told)) (idle_starts (g.B.Board.view c.make_image.new.board))

pub returns-in-Err-make_image-clause-staged : goal.returns-in-Err-make_image-clause-staged
returns-in-Err-make_image-clause-staged g c s told t linking flags =
    let room = c.in-Ok.ensures.room s (comes_of t c.args.set.now) linking.held in
    let told_read = c.count_set.ensures.reads.state ∙ told in
    let counts = subst (λ (o : Option Answer). Counts o (comes_of t c.args.set.now)) c.in-Ok-None.field-0-is (c.in-Ok-None.ensures.counts s told (comes_of t c.args.set.now) linking.held room) in
    let early : IsEarlyFree (comes_of t c.args.set.now) = record { room = room; symbols = counts.0; relocs = counts.1 } in
    let first = subst (λ (o : Option Answer). Goes t c.args.set.now true true o s (g.B.Board.view c.make_areas.new.board)) c.in-Ok-None-make_areas.field-0-is (c.in-Ok-None-make_areas.ensures.goes s told_read t linking early flags) in
    let gates = first.gates refl in
    let set = c.args.set.now in
    let one = c.in-Ok-None-make_areas.ensures.wears s told_read in
    staged_between (comes_of t set) s (g.B.Board.view c.args.board.now) (g.B.Board.view c.count_set.new.board) (g.B.Board.view c.make_image.new.board) (g.B.Board.view c.make_image.new.board) (idle_reads (g.B.Board.view c.args.board.now) (g.B.Board.view c.count_set.new.board) c.count_set.ensures.reads)
    (staged_behind (comes_of t set) (comes_of t set) true s first.end (g.B.Board.view c.count_set.new.board) (g.B.Board.view c.make_areas.new.board) (g.B.Board.view c.make_image.new.board) one first.told refl (c.in-Err-make_image.ensures.spares first.end first.told t first.linking gates.rel_is)) (idle_starts (g.B.Board.view c.make_image.new.board))
