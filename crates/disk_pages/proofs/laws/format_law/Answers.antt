use Rattle.disk_pages.proofs.HeaderPages.{headers_change}
use Rattle.disk_pages.proofs.laws.format_law.Goals as goal

pub returns : goal.returns
returns c = headers_change
