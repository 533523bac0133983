-- What is made of a Change that is written down.
use Rattle.std.specs.Prelude.{false, Some}
use Rattle.base_types.specs.declared.ids.HostId.{HostId}
use Rattle.tree_calls.specs.declared.reply.Reply.{Reply}
use Rattle.message_types.specs.declared.asking.Change.{Change as ChangeOf}
use Rattle.message_types.specs.declared.message.Body.TheVariants.{Done as IsDone}
use Rattle.message_types.specs.declared.telling.Done.{Done as DoneOf}
use Rattle.message_types.specs.declared.telling.DoneIs.TheVariants.{Reply as Replied}
use Rattle.run_rules.specs.declared.applied.Applied.TheVariants.{Done}
use Rattle.run_rules.specs.declared.applied.Written.{Written}
use Rattle.server_tables.specs.Answers.{done_without, renewed}
use Rattle.server_tables.specs.declared.tables.Tables.{Tables}
use Rattle.server_takes.specs.Drafts.{applying, saying, word}
use Rattle.server_takes.specs.Taking.{Made, made}
use Rattle.server_takes.specs.declared.draft.Draft.{Draft}

abbrev pub done_of : ChangeOf → Reply → DoneOf
done_of change reply = done_without change.fileset (Replied reply) change.number

abbrev pub written_of : HostId → ChangeOf → Reply → Written
written_of host change reply = record {
  fileset = change.fileset;
  number = change.number;
  answer = record { host = host; k = change.k; call = change.call; reply = reply; first = false };
}

-- it is written down with a reply, its host learns it, and it is noted
abbrev pub written_made : Tables → Draft → HostId → ChangeOf → Reply → Made
written_made x d host change reply = made
    (record x { changes = renewed x host (done_of change reply) (Some (written_of host change reply)) })
    (saying (applying d (Done (written_of host change reply))) (word x host (IsDone (done_of change reply))))
