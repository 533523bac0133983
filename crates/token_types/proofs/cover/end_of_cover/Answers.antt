use Rattle.std.proofs.Common.{sym}
use Rattle.token_types.specs.Covers.{covers_byte}
use Rattle.token_types.proofs.Found.{none_found}
use Rattle.token_types.proofs.Covered.{ends_beyond, covers_to_end, finds_bytes}
use Rattle.token_types.proofs.cover.end_of_cover.Goals as goal

pub returns-in_err-span-clause-none : goal.returns-in_err-span-clause-none
returns-in_err-span-clause-none c =
    rw c.from_residual.ensures (none_found (covers_byte c.args.fid c.args.update c.args.at) c.args.held.now
    (sym (c.in_err-span.ensures)))

pub returns-in-Bytes-clause-beyond : goal.returns-in-Bytes-clause-beyond
returns-in-Bytes-clause-beyond c =
    ends_beyond c.args.fid c.args.update c.args.at c.args.held.now c.in_ok-span.field-0.now c.in-Bytes.update
    c.in-Bytes.span (sym (c.in_ok-span.ensures)) c.in-Bytes.is

pub returns-in-Bytes-clause-covered : goal.returns-in-Bytes-clause-covered
returns-in-Bytes-clause-covered c =
    covers_to_end c.args.fid c.args.update c.args.at c.args.held.now c.in_ok-span.field-0.now c.in-Bytes.update
    c.in-Bytes.span (sym (c.in_ok-span.ensures)) c.in-Bytes.is

pub returns-in_default : goal.returns-in_default
returns-in_default c =
    absurd (finds_bytes c.args.fid c.args.update c.args.at c.args.held.now c.in_ok-span.field-0.now
    (sym c.in_ok-span.ensures) c.in_default.not-Bytes)
