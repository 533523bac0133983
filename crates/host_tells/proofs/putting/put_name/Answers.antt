use Rattle.std.proofs.Common.{List, None, arith, length, subst, ◌∙◌, ◌∷◌, ◌%◌, [], ℕ}
use Rattle.host_tells.specs.Spoken.{Puts}
use Rattle.host_tells.proofs.Room.{put_fails, puts_then}
use Rattle.host_tells.proofs.Spelled.{name_is}
use Rattle.host_tells.proofs.putting.put_name.Goals as goal

pub put-requires : goal.put-requires
put-requires c =
    let p = c.in_ok-at.ensures in
    let low = p.1 in
    let same = p.2 in
    omega (arith, low, same)

pub returns-in_err-at : goal.returns-in_err-at
returns-in_err-at c =
    rw c.from_residual.ensures (subst (λ (bytes : List ℕ). Puts bytes c.args.at c.args.out.now c.put_byte.new.out
    None) ((λ i. (length (c.as_bytes-bytes.ensures.value i) % 256) ∷ c.as_bytes-bytes.ensures.value i)
    ∙ name_is c.args.name.now)
    (put_fails ((length c.as_bytes-bytes.result.now % 256) ∷ []) (c.as_bytes-bytes.result.now) c.args.at
    c.args.out.now c.put_byte.new.out c.put_byte.new.out c.in_err-at.ensures))

pub returns : goal.returns
returns c =
    subst (λ (bytes : List ℕ). Puts bytes c.args.at c.args.out.now c.put.new.out c.put.result) ((λ i. (length
    (c.as_bytes-bytes.ensures.value i) % 256) ∷ c.as_bytes-bytes.ensures.value i)
    ∙ name_is c.args.name.now)
    (puts_then ((length c.as_bytes-bytes.result.now % 256) ∷ []) (c.as_bytes-bytes.result.now) c.args.at
    c.args.out.now c.put_byte.new.out c.put.new.out c.in_ok-at.at c.put.result
    c.in_ok-at.ensures c.put.ensures)
