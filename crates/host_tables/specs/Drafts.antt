-- Steps in the making.
use Rattle.std.specs.Prelude.{[], None}
use Rattle.base_types.specs.declared.ids.Node.{Node}
use Rattle.run_rules.specs.declared.step.Cause.{Cause}
use Rattle.run_rules.specs.declared.step.Step.{Step}
use Rattle.host_tables.specs.declared.draft.Draft.{Draft}

-- nothing is done
abbrev pub no_draft : Draft
no_draft = record {
  asked = None;
  taken = [];
  answers = [];
  wrote = None;
  begun = [];
  made = [];
  dropped = [];
  sent = [];
  due = [];
}

-- the step of a node and a cause in which this is done
abbrev pub step_of : Node → Cause → Draft → Step
step_of node cause draft = record {
  node = node;
  cause = cause;
  asked = draft.asked;
  taken = draft.taken;
  answers = draft.answers;
  wrote = draft.wrote;
  begun = draft.begun;
  made = draft.made;
  dropped = draft.dropped;
  applied = [];
  admitted = [];
  sent = draft.sent;
  shipped = [];
  reserved = [];
}
