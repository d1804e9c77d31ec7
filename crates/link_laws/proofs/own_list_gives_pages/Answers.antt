use Rattle.link_laws.proofs.Own.{pages_patched, patched_are_pages}
use Rattle.link_laws.proofs.own_list_gives_pages.Goals as goal

pub returns : goal.returns
returns c = record { patched = pages_patched; are = patched_are_pages }
