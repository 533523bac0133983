-- What the answer to a call hangs on.
use Rattle.std.specs.Prelude.{◌≡◌, ◌≢◌, ◌==◌, [], true, not, filter}
use Rattle.base_types.specs.declared.ids.HostId.{HostId}
use Rattle.base_types.specs.declared.ids.ServerId.{ServerId}
use Rattle.tree_calls.specs.declared.call.Call.{Call}
use Rattle.tree_answers.specs.Answers.{answer_to}
use Rattle.tree_answers.specs.Finding.{Answer}
use Rattle.tree_answers.specs.Founding.{room_of}
use Rattle.tree_answers.specs.WellFormed.{ids_rise}
use Rattle.tree_answers.specs.declared.tree.Tree.{Tree}
use Rattle.need_laws.specs.Known.{IsAt, SameAt, SameUses, is_known, records_of}

-- Two answers are the same for a server: the reply, and what is left.
pub record AnswersSame (server : ServerId) (a b : Answer) : Type 0 where
  pub reply : a.reply ≡ b.reply
  pub left : SameAt server a.tree b.tree
  pub uses : SameUses a.tree b.tree

-- what a call at a server is answered, and what it leaves there, hangs on what the server knows, and on what is in use
abbrev pub CallsHangOnTheirServer : Type 0
CallsHangOnTheirServer =
    (a b : Tree) (server : ServerId) (host : HostId) (call : Call) →
    ids_rise a.filesets ≡ true → ids_rise b.filesets ≡ true → SameAt server a b → SameUses a b → IsAt server call →
    AnswersSame server (answer_to a host call) (answer_to b host call)

-- Nothing changed but what a server knows.
pub record StaysElsewhere (server : ServerId) (old new : Tree) : Type 0 where
  pub roster : new.roster ≡ old.roster
  pub rooms : (other : ServerId) → other ≢ server → room_of new.servers other ≡ room_of old.servers other
  pub records : new.away ≡ old.away
  -- the filesets that the server doesn't know
  pub filesets : filter (λ fileset. not (is_known (records_of server old) server fileset)) new.filesets
      ≡ filter (λ fileset. not (is_known (records_of server old) server fileset)) old.filesets

-- a call at a server changes nothing else
abbrev pub CallsStayAtTheirServer : Type 0
CallsStayAtTheirServer =
    (tree : Tree) (server : ServerId) (host : HostId) (call : Call) →
    IsAt server call → StaysElsewhere server tree (answer_to tree host call).tree

-- so where no fileset has moved away it leaves all the same for any other server
abbrev pub OthersStay : Type 0
OthersStay =
    (tree : Tree) (server other : ServerId) (host : HostId) (call : Call) →
    tree.away ≡ [] → IsAt server call → other ≢ server →
    SameAt other tree (answer_to tree host call).tree

-- the filesets of a server, apart from all others, are the same for it
abbrev pub PartsAreSame : Type 0
PartsAreSame =
    (tree : Tree) (server : ServerId) → tree.away ≡ [] →
    SameAt server (record tree { filesets = filter (λ fileset. fileset.server.0 == server.0) tree.filesets }) tree
