use Rattle.std.proofs.Common.{◌∙◌, ap, arith}
use Rattle.disk_log.specs.Log.{disk_of, state_of}
use Rattle.disk_log.specs.Puts.{page_of, settled_byte}
use Rattle.disk_log.specs.State.{State}
use Rattle.disk_space.proofs.Words.{found_none, found_some, cut_short}
use Rattle.disk_space.proofs.space.find_from.Goals as goal

pub returns-in-Some-clause-found : goal.returns-in-Some-clause-found
returns-in-Some-clause-found g c = λ told.
    let state = state_of c.args.log.now in
    let image = (g.D.Disk.view (disk_of c.args.log.now)).image in
    let same = c.page.ensures.reads.state in
    let many = c.blocks-2.ensures ∙ ap (λ (s : State). s.superblock.blocks) (c.settled.ensures.reads.state ∙ same) in
    found_some state image c.page.new.out c.settled.new.out c.args.first c.min-counts.result c.requires.whole (omega arith)
    (c.in_ok-page.ensures.bytes told ∙ ap (page_of state.entries state.puts image) c.page_of.ensures)
    (λ k lt. c.in_ok-settled.ensures.bytes told k lt ∙ (λ j. settled_byte (same j).entries (same j).forced (c.page.ensures.reads.quiet.image j) (c.page_of-2.ensures j) k))
    c.in-Some.i (omega (arith, c.requires.first, many)) c.in-Some.ensures.0 c.in-Some.ensures.1 c.in-Some.ensures.2

pub returns-in-None-clause-found : goal.returns-in-None-clause-found
returns-in-None-clause-found g c = λ told.
    let state = state_of c.args.log.now in
    let image = (g.D.Disk.view (disk_of c.args.log.now)).image in
    let same = c.page.ensures.reads.state in
    let many = c.blocks-2.ensures ∙ ap (λ (s : State). s.superblock.blocks) (c.settled.ensures.reads.state ∙ same) in
    found_none state image c.page.new.out c.settled.new.out c.args.first c.min-counts.result c.requires.whole (omega arith)
    (c.in_ok-page.ensures.bytes told ∙ ap (page_of state.entries state.puts image) c.page_of.ensures)
    (λ k lt. c.in_ok-settled.ensures.bytes told k lt ∙ (λ j. settled_byte (same j).entries (same j).forced (c.page.ensures.reads.quiet.image j) (c.page_of-2.ensures j) k))
    (cut_short _ _ _ _ c.min-counts.ensures many) c.in-None.ensures
