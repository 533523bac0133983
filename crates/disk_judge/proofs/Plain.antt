-- What is judged by pages alone is judged so over any blocks.
use Rattle.std.proofs.Common.{◌≡◌, ℕ, List, refl}
use Rattle.disk_image.specs.Slots.{is_slot_header, is_slot_numbers}
use Rattle.disk_image.specs.Anodes.{is_slot_anode}
use Rattle.disk_judge.specs.Metadata.{over, plain}
use Rattle.disk_judge.specs.declared.metadata.Metadata.{Metadata}

module _ (metadata : Metadata) (image : List ℕ) (slot : ℕ) where
  pub same_header : is_slot_header (plain metadata) slot ≡ is_slot_header (over metadata image) slot
  unfolding is_slot_header
  same_header = refl

  pub same_numbers : is_slot_numbers (plain metadata) slot ≡ is_slot_numbers (over metadata image) slot
  unfolding is_slot_numbers
  same_numbers = refl

  pub same_anode : (i : ℕ) → is_slot_anode (plain metadata) slot i ≡ is_slot_anode (over metadata image) slot i
  unfolding is_slot_anode
  same_anode i = refl
