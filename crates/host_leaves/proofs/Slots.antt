-- Give-backs in slots of which some are empty.
use Rattle.std.proofs.Common.{List, None, Option, Some, [], fold, refl, ◌∷◌, ◌≡◌}
use Rattle.std.specs.Option.{option_map_or}
use Rattle.base_types.specs.declared.ids.FilesetId.{FilesetId}
use Rattle.message_types.specs.declared.message.Message.{Message}
use Rattle.host_gives.specs.Slots.{held_in}
use Rattle.host_leaves.specs.Sending.{filesets_given, with_fileset}

abbrev pub with_slot : List FilesetId → Option Message → List FilesetId
with_slot filesets slot = option_map_or (with_fileset filesets) slot filesets

given_from : (slots : List (Option Message)) (filesets : List FilesetId) →
    fold with_slot filesets slots ≡ fold with_fileset filesets (held_in slots)
given_from [] filesets = refl
given_from (None ∷ slots) filesets = given_from slots filesets
given_from (Some message ∷ slots) filesets = given_from slots (with_fileset filesets message)

pub given_in : (slots : List (Option Message)) → fold with_slot [] slots ≡ filesets_given (held_in slots)
given_in slots = given_from slots []
