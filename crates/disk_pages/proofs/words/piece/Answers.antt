use Rattle.std.proofs.Common.{◌≡◌, ◌∙◌, ◌+◌, ◌-◌, length, take, drop, refl, arith}
use Rattle.std.proofs.lemmas.List.{length-take-le, length-drop}
use Rattle.disk_layout.proofs.Words.{piece_bytes}
use Rattle.disk_pages.proofs.words.piece.Goals as goal

pub returns : goal.returns
returns c =
    let bytes = c.args.bytes.now in
    let n = c.args.at + c.args.n - c.args.at in
    let size : length (take n (drop c.args.at bytes)) ≡ c.args.n =
    length-take-le n (drop c.args.at bytes) (let e = length-drop c.args.at bytes in omega arith) ∙ omega arith in
    piece_bytes bytes _ c.args.at c.args.n n refl size (omega arith)
