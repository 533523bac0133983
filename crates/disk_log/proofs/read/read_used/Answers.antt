use Rattle.std.proofs.Common.{◌≡◌, ◌∙◌, List, ℕ, ap}
use Rattle.disk_layout.specs.Half.{used_of, used_half, header_at, header_from}
use Rattle.disk_log.proofs.read.read_used.Goals as goal

pub returns-clause-used : goal.returns-clause-used
unfolding used_half
returns-clause-used g c = λ told.
    let image = (g.D.Disk.view c.args.disk.now).image in
    let zeroth : c.in_ok-zeroth.zeroth ≡ header_at image 0 = c.in_ok-zeroth.ensures.header told in
    let first : c.in_ok-first.first ≡ header_at image 1 = c.in_ok-first.ensures.header told ∙ ap (λ (l : List ℕ). header_from l 3146752) c.header_of.ensures.quiet.image in
    c.used_half.ensures.used ∙ (λ j. used_of c.args.pages (zeroth j) (first j))
