use Rattle.std.proofs.Common.{arith}
use Rattle.kept_manifests.specs.Slots.{stored_of}
use Rattle.kept_journal.specs.Steps.{Step}
use Rattle.kept_journal.proofs.Takes.{takes_more}
use Rattle.kept_boot.specs.Boots.{copied, installed_pages, Installs}
use Rattle.kept_boot.proofs.Installing.{copies, brings, installs, is_installed, wears_tables, wears_all}
use Rattle.kept_boot.proofs.install.Goals as goal

pub returns-in_err-copy_staged-clause-each : goal.returns-in_err-copy_staged-clause-each
returns-in_err-copy_staged-clause-each g c = λ s told.
    takes_more (Step (Installs (stored_of c.args.m.now)) (installed_pages (stored_of c.args.m.now).placed) s) (installed_pages (stored_of c.args.m.now).placed) 480 1110 _ _ (omega arith)
    (copies c.args.m.now _ _ s (c.copy_staged.ensures.each s told))

pub returns-in_err-keep_runs-clause-each : goal.returns-in_err-keep_runs-clause-each
returns-in_err-keep_runs-clause-each g c = λ s told.
    let here = c.in_ok-copy_staged.ensures.ok s told in
    takes_more (Step (Installs (stored_of c.args.m.now)) (installed_pages (stored_of c.args.m.now).placed) s) (installed_pages (stored_of c.args.m.now).placed) 1104 1110 _ _ (omega arith)
    (brings c.args.m.now _ _ s (c.copy_staged.ensures.each s told) _ here (c.in_ok-copy_staged.ensures.stands s told) (c.keep_runs.ensures.each (copied s) here))

pub returns-in_err-keep_runs-clause-wear : goal.returns-in_err-keep_runs-clause-wear
returns-in_err-keep_runs-clause-wear g c = λ s told.
    let here = c.in_ok-copy_staged.ensures.ok s told in
    wears_tables c.args.m.now _ _ s (c.copy_staged.ensures.each s told) _ here (c.in_ok-copy_staged.ensures.stands s told) (c.keep_runs.ensures.each (copied s) here) (c.copy_staged.ensures.wear s told)

pub returns-in_err-finish-clause-each : goal.returns-in_err-finish-clause-each
returns-in_err-finish-clause-each g c = λ s told.
    let here = c.in_ok-copy_staged.ensures.ok s told in
    let there = c.in_ok-keep_runs.ensures.ok (copied s) here in
    installs c.args.m.now _ _ s (c.copy_staged.ensures.each s told) _ here (c.in_ok-copy_staged.ensures.stands s told) (c.keep_runs.ensures.each (copied s) here) _ there
    (c.in_ok-keep_runs.ensures.kept (copied s) here) (c.finish.ensures.each _ there)

pub returns-in_err-finish-clause-wear : goal.returns-in_err-finish-clause-wear
returns-in_err-finish-clause-wear g c = λ s told.
    let here = c.in_ok-copy_staged.ensures.ok s told in
    let there = c.in_ok-keep_runs.ensures.ok (copied s) here in
    wears_all c.args.m.now _ _ s (c.copy_staged.ensures.each s told) _ here (c.in_ok-copy_staged.ensures.stands s told) (c.keep_runs.ensures.each (copied s) here) _ there
    (c.in_ok-keep_runs.ensures.kept (copied s) here) (c.finish.ensures.each _ there) (c.copy_staged.ensures.wear s told)

pub returns-clause-ok : goal.returns-clause-ok
returns-clause-ok g c = λ s told.
    let here = c.in_ok-copy_staged.ensures.ok s told in
    let there = c.in_ok-keep_runs.ensures.ok (copied s) here in
    is_installed c.args.m.now _ _ s (c.copy_staged.ensures.each s told) _ here (c.in_ok-copy_staged.ensures.stands s told) (c.keep_runs.ensures.each (copied s) here) _ there
    (c.in_ok-keep_runs.ensures.kept (copied s) here) (c.finish.ensures.each _ there) (c.in_ok-finish.ensures.ok _ there)

pub returns-clause-each : goal.returns-clause-each
returns-clause-each g c = λ s told.
    let here = c.in_ok-copy_staged.ensures.ok s told in
    let there = c.in_ok-keep_runs.ensures.ok (copied s) here in
    installs c.args.m.now _ _ s (c.copy_staged.ensures.each s told) _ here (c.in_ok-copy_staged.ensures.stands s told) (c.keep_runs.ensures.each (copied s) here) _ there
    (c.in_ok-keep_runs.ensures.kept (copied s) here) (c.finish.ensures.each _ there)

pub returns-clause-wear : goal.returns-clause-wear
returns-clause-wear g c = λ s told.
    let here = c.in_ok-copy_staged.ensures.ok s told in
    let there = c.in_ok-keep_runs.ensures.ok (copied s) here in
    wears_all c.args.m.now _ _ s (c.copy_staged.ensures.each s told) _ here (c.in_ok-copy_staged.ensures.stands s told) (c.keep_runs.ensures.each (copied s) here) _ there
    (c.in_ok-keep_runs.ensures.kept (copied s) here) (c.finish.ensures.each _ there) (c.copy_staged.ensures.wear s told)
