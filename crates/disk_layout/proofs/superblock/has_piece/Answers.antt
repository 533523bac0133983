use Rattle.std.proofs.Common.{◌≡◌, ◌∙◌, ◌+◌, ◌-◌, length, take, drop, refl, sym, arith}
use Rattle.std.proofs.lemmas.List.{length-take-le, length-drop}
use Rattle.std.proofs.lemmas.Bool.Decides.{Decides-eqb}
use Rattle.std.proofs.lemmas.Slice.Eq.{slice_eq-Decides}
use Rattle.base_types.specs.Image.{bytes_from}
use Rattle.disk_layout.proofs.Words.{piece_bytes}
use Rattle.disk_layout.proofs.superblock.has_piece.Goals as goal

pub returns : goal.returns
returns c =
    let page = c.args.page.now in
    let n = c.args.at + length c.args.piece.now - c.args.at in
    let size : length (take n (drop c.args.at page)) ≡ length c.args.piece.now =
    length-take-le n (drop c.args.at page) (let e = length-drop c.args.at page in omega arith) ∙ omega arith in
    let is : take n (drop c.args.at page) ≡ bytes_from page c.args.at (length c.args.piece.now) = piece_bytes page _ c.args.at _ n refl size (omega arith) in
    let test = slice_eq-Decides Decides-eqb _ _ _ c.eq.ensures in
    (λ yes. sym is ∙ test.0 yes, λ same. test.1 (is ∙ same))
