-- What a reader of runs of bytes keeps.
use Rattle.std.specs.Prelude.{◌≡◌, IfSome}
use Rattle.flash_pages.specs.State.{State, Ext, page_at}
use Rattle.external_flash.specs.declared.reader.PageReader.{PageReader}

-- the page that it keeps, if it does, is as the board holds it
abbrev pub Keeps : State → PageReader → Type 0
Keeps s r = IfSome r.page (λ page. r.bytes ≡ page_at s (Ext page))
