use Rattle.std.proofs.Common.{ap, sym, ◌∙◌, subst, Option, option_copied}
use Rattle.tree_calls.specs.declared.part.Status.{Status as StatusOf}
use Rattle.host_cache.specs.Holding.{kind_has_byte, is_status}
use Rattle.host_cache.specs.Files.{HasRoom, Learns, with_token, with_status}
use Rattle.host_cache.proofs.Filing.{on_ok_then}
use Rattle.host_cache.proofs.Learning.{no_status, no_bytes, other_kind, plain_learnt}
use Rattle.host_cache.proofs.file.File.learn.Goals as goal

pub learn_bytes-requires-clause-room : goal.learn_bytes-requires-clause-room
learn_bytes-requires-clause-room c = subst (λ k. HasRoom k c.args.self.now.bytes) c.in-Bytes.is c.requires.room

pub learn_bytes-requires-clause-kind : goal.learn_bytes-requires-clause-kind
learn_bytes-requires-clause-kind c = λ at. ap (kind_has_byte at) c.in-Bytes.is

pub returns-in-Bytes-clause-ok : goal.returns-in-Bytes-clause-ok
returns-in-Bytes-clause-ok c =
    let none = no_status (option_copied c.args.status) c.args.token.kind c.requires.status_only
    (ap is_status c.in-Bytes.is) in
    on_ok_then c.learn_bytes.result c.learn_bytes.ensures.ok
    (λ l. subst (λ (o : Option StatusOf). Learns c.args.token o c.args.pieces.now c.args.entries.now c.args.self.now
    c.learn_bytes.new.self) (sym none) l)

pub returns-in-Status-clause-ok : goal.returns-in-Status-clause-ok
returns-in-Status-clause-ok c =
    on_ok_then c.learn_status.result c.learn_status.ensures.ok
    (λ e. plain_learnt c.args.token (option_copied c.args.status) c.args.pieces.now c.args.entries.now c.args.self.now
    c.learn_status.new.self (no_bytes c.args.token.kind (ap is_status c.in-Status.is)) e)

pub returns-in_default-clause-ok : goal.returns-in_default-clause-ok
returns-in_default-clause-ok c =
    let other = other_kind c.args.token.kind c.in_default.not-Bytes c.in_default.not-Status in
    let none = no_status (option_copied c.args.status) c.args.token.kind c.requires.status_only other.1 in
    on_ok_then c.put_first.result c.put_first.ensures.ok
    (λ e. plain_learnt c.args.token (option_copied c.args.status) c.args.pieces.now c.args.entries.now c.args.self.now
    c.put_first.new.self other.0
    (e ∙ ap (λ (o : Option StatusOf). with_token c.args.token (with_status o c.args.self.now)) (sym none)))
