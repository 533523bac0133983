use Rattle.std.proofs.Common.{◌≡◌, ◌++◌, List, ℕ, subst, OnOk}
use Rattle.message_parts.proofs.Whole.{last_taken}
use Rattle.message_parts.proofs.number.push_number.Goals as goal

pub returns : goal.returns
returns c =
    subst (λ (v : List ℕ). OnOk c.extend.result (c.extend.new.self ≡ c.args.out.now ++ v))
    (last_taken c.args.width c.args.n c.write_u64.new.buf c.write_u64.ensures c.requires) c.extend.ensures.ok
