use Rattle.std.proofs.Common.{inl, inr}
use Rattle.std.proofs.lemmas.Result.{err_from_is_err_and}
use Rattle.disk_lists.proofs.AclLaid.{kinds_named, read_err, user_read, group_read}
use Rattle.disk_lists.proofs.acl_bytes.who_at.Goals as goal

pub returns-in_err-name_at-in-2-clause-read : goal.returns-in_err-name_at-in-2-clause-read
returns-in_err-name_at-in-2-clause-read c = λ who stands.
    let found = kinds_named c.args.bytes.now c.args.at (inl c.in-2.is) who stands in
    let p = err_from_is_err_and c.from_residual.result c.from_residual.ensures.1 in
    rw (p.1, p.2) (read_err found.0 who c.in_err-name_at-in-2.field-0.0 (c.in_err-name_at-in-2.ensures.read found.0 found.1))

pub returns-in_err-name_at-in-4-clause-read : goal.returns-in_err-name_at-in-4-clause-read
returns-in_err-name_at-in-4-clause-read c = λ who stands.
    let found = kinds_named c.args.bytes.now c.args.at (inr c.in-4.is) who stands in
    let p = err_from_is_err_and c.from_residual-in_err-name_at-in-4.result c.from_residual-in_err-name_at-in-4.ensures.1 in
    rw (p.1, p.2) (read_err found.0 who c.in_err-name_at-in-4.field-0.0 (c.in_err-name_at-in-4.ensures.read found.0 found.1))

pub returns-in_ok-name_at-in-2-clause-read : goal.returns-in_ok-name_at-in-2-clause-read
returns-in_ok-name_at-in-2-clause-read c = λ who stands.
    user_read c.args.bytes.now c.args.at c.in_ok-name_at-in-2.field-0 c.in_ok-name_at-in-2.ensures.read c.in-2.is who stands.0 stands.1

pub returns-in_ok-name_at-in-4-clause-read : goal.returns-in_ok-name_at-in-4-clause-read
returns-in_ok-name_at-in-4-clause-read c = λ who stands.
    group_read c.args.bytes.now c.args.at c.in_ok-name_at-in-4.field-0 c.in_ok-name_at-in-4.ensures.read c.in-4.is who stands.0 stands.1
