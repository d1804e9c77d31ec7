use Rattle.std.proofs.Common.{◌≡◌, length, ap, ◌∙◌, rules}
use Rattle.kept_manifests.specs.Slots.{stored_of}
use Rattle.kept_store.proofs.RestLemmas.{headers_fit, fits_flash, rest_held, unmarked_is}
use Rattle.kept_store.proofs.current.open_current.Goals as goal

pub returns-clause-release : goal.returns-clause-release
returns-clause-release g c = λ s told here.
    let m = c.args.m.now in
    let room : length c.in_ok-headers.headers ≡ 16 = search rules in
    let read = c.in_ok-headers.ensures.answer s told in
    let whole = c.installed_set.ensures.whole (headers_fit s m c.requires here c.in_ok-headers.headers room read) (fits_flash s m c.requires here c.in_ok-headers.headers room read) in
    ap stored_of whole.slots ∙ unmarked_is m

pub returns-clause-holds : goal.returns-clause-holds
returns-clause-holds g c = λ s told here.
    let m = c.args.m.now in
    let room : length c.in_ok-headers.headers ≡ 16 = search rules in
    let read = c.in_ok-headers.ensures.answer s told in
    let whole = c.installed_set.ensures.whole (headers_fit s m c.requires here c.in_ok-headers.headers room read) (fits_flash s m c.requires here c.in_ok-headers.headers room read) in
    rest_held s m c.requires here c.in_ok-headers.headers room read c.installed_set.result whole
