use Rattle.std.proofs.Common.{◌≡◌, ◌∙◌, ◌+◌, ◌-◌, length, take, drop, get_or, arith}
use Rattle.disk_lists.proofs.AclLaid.{name_short, starts_first, starts_next, starts_take}
use Rattle.disk_lists.proofs.acl_bytes.name_at.Goals as goal

pub returns-in-Ok-clause-read : goal.returns-in-Ok-clause-read
returns-in-Ok-clause-read c = λ name stands.
    let bytes = c.args.bytes.now in
    let at = c.args.at in
    let first = starts_first bytes at (length name) name stands.1 in
    let short = name_short name stands.0 in
    let count : at + 1 + get_or bytes at 0 - (at + 1) ≡ length name = omega (arith, first, short) in
    c.in-Ok.ensures.ok ∙ (λ j. take (count j) (drop (at + 1) bytes))
    ∙ starts_take bytes (at + 1) name (omega (arith, short)) (starts_next bytes at (length name) name stands.1)

pub returns-in-Err-BadName-clause-read : goal.returns-in-Err-BadName-clause-read
returns-in-Err-BadName-clause-read c = λ name stands.
    let bytes = c.args.bytes.now in
    let at = c.args.at in
    let first = starts_first bytes at (length name) name stands.1 in
    let short = name_short name stands.0 in
    let count : at + 1 + get_or bytes at 0 - (at + 1) ≡ length name = omega (arith, first, short) in
    let same = (λ j. take (count j) (drop (at + 1) bytes)) ∙ starts_take bytes (at + 1) name (omega (arith, short)) (starts_next bytes at (length name) name stands.1) in
    let is = stands.0 in
    let bad = c.in-Err-BadName.ensures.bad in
    grind (arith, same, is, bad)
