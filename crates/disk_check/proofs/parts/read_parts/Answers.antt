use Rattle.std.proofs.Common.{sym, ◌∙◌, arith}
use Rattle.disk_anode.specs.Node.{map_under}
use Rattle.disk_image.specs.Anodes.{entry_bytes}
use Rattle.disk_layout.specs.Numbers.{number_at}
use Rattle.disk_judge.specs.Metadata.{over}
use Rattle.disk_check.proofs.Read.{front}
use Rattle.disk_check.proofs.parts.read_parts.Goals as goal

pub returns-clause-parts : goal.returns-clause-parts
returns-clause-parts g c = λ told.
    let start = g.D.Disk.view c.args.disk.now in
    let metadata = c.args.metadata.now in
    let disk = over metadata start.image in
    let slot = c.args.slot in
    let i = c.args.i in
    let page_is = c.anode-page.ensures in
    let one = c.read_block.ensures.quiet.image in
    let two = c.read_block-2.ensures.quiet.image ∙ one in
    let three = c.read_block-3.ensures.quiet.image ∙ two in
    let four = c.read_block-4.ensures.quiet.image ∙ three in
    let map_is = c.in_ok-map.ensures.bytes told
    ∙ (λ j. map_under metadata.blocks (three j) (c.page_pointer-4.ensures j)) ∙ (λ j. map_under metadata.blocks start.image (number_at 4 72 (page_is j))) in
    record {
      own = c.in_ok-own.ensures.bytes told ∙ (λ j. map_under metadata.blocks start.image ((c.page_pointer.ensures ∙ front disk slot i 0 _ page_is (omega arith)) j));
      files = c.in_ok-files.ensures.bytes told ∙ (λ j. map_under metadata.blocks (one j) ((c.page_pointer-2.ensures ∙ front disk slot i 1 _ page_is (omega arith)) j));
      dirs = c.in_ok-dirs.ensures.bytes told ∙ (λ j. map_under metadata.blocks (two j) ((c.page_pointer-3.ensures ∙ front disk slot i 2 _ page_is (omega arith)) j));
      map = map_is;
      entries = c.in_ok-entries.ensures.bytes told slot i page_is
          (c.in_ok-map.ensures.bytes told ∙ (λ j. map_under metadata.blocks (sym c.read_block-4.ensures.quiet.image j) (c.page_pointer-4.ensures j)))
          ∙ (λ j. entry_bytes (over metadata (four j)) slot i);
    }
