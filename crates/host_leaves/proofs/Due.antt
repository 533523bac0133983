-- What is said leaves what is due.
use Rattle.std.proofs.Common.{List, None, Option, Some, [], fold, refl, ◌∙◌, ◌∷◌, ◌≡◌}
use Rattle.std.specs.Option.{option_map_or}
use Rattle.base_types.specs.declared.ids.FilesetId.{FilesetId}
use Rattle.host_gives.specs.Giving.{outstanding}
use Rattle.host_tables.specs.Updates.{home_at}
use Rattle.host_tables.specs.declared.draft.Draft.{Draft}
use Rattle.host_tables.specs.declared.tables.Tables.{Tables}
use Rattle.message_types.specs.declared.message.Message.{Message}
use Rattle.host_leaves.specs.Sending.{saying, sending_give}

one_stays : (m : Tables) (draft : Draft) (fileset : FilesetId) → (sending_give m draft fileset).due ≡ draft.due
one_stays m draft fileset = by_found (outstanding m.gives fileset)
  where
    by_found : (found : Option Message) →
        (option_map_or (λ (message : Message). saying m (home_at fileset) message.body draft) found draft).due
        ≡ draft.due
    by_found None = refl
    by_found (Some message) = refl

pub due_stays : (m : Tables) (filesets : List FilesetId) (draft : Draft) →
    (fold (sending_give m) draft filesets).due ≡ draft.due
due_stays m [] draft = refl
due_stays m (fileset ∷ filesets) draft =
    due_stays m filesets (sending_give m draft fileset) ∙ one_stays m draft fileset
