use Rattle.std.proofs.Common.{◌∙◌}
use Rattle.disk_check.proofs.Read.{low_pointer, high_pointer}
use Rattle.disk_check.proofs.parts.entry_pointer.Goals as goal

pub returns-then-n-lt12 : goal.returns-then-n-lt12
returns-then-n-lt12 c = λ blocks. c.page_pointer.ensures ∙ low_pointer (record { blocks = blocks; page = c.args.page.now; map = c.args.map.now }) c.args.n c.if-n-lt12.true

pub returns-else-n-lt12 : goal.returns-else-n-lt12
returns-else-n-lt12 c = λ blocks. c.map_pointer.ensures ∙ high_pointer (record { blocks = blocks; page = c.args.page.now; map = c.args.map.now }) c.args.n c.if-n-lt12.false
