use Rattle.std.proofs.Common.{◌∙◌, ap, map}
use Rattle.std.proofs.lemmas.List.{take_all}
use Rattle.service_stores.proofs.Pieces.{pieces_read, read_of}
use Rattle.service_stores.proofs.acts.pieces_of.Goals as goal

pub returns : goal.returns
returns c =
    let content = c.args.object.now.content in
    let spans = c.args.spans.now in
    c.loop-span.invariant
    ∙ ap (map (read_of content)) (take_all c.loop-span.span-index spans c.loop-span-test.false)
    ∙ pieces_read content spans c.requires
