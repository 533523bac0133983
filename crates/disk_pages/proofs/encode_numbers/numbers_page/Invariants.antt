use Rattle.disk_pages.proofs.NumberPages.{Keeps}
use Rattle.disk_pages.proofs.encode_numbers.numbers_page.Given as goal

abbrev pub invariant-loop-host : goal.invariant-loop-host
invariant-loop-host l = Keeps l.kept l.host l.page
