-- An entry of the object, or a mask, is known by its tag.
use Rattle.std.proofs.Common.{◌≡◌, ℕ, List, [], ◌∷◌, refl, ap, ◌∙◌}
use Rattle.std.specs.Prelude.{◌==◌, ◌||◌}
use Rattle.base_types.specs.Access.{same_who, has_who}
use Rattle.base_types.specs.declared.access.Who.{Who}
use Rattle.base_types.specs.declared.access.Who.TheVariants.{UserObj, User, GroupObj, Group, OtherObj, MaskObj}
use Rattle.base_types.specs.declared.access.AccessEntry.{AccessEntry}
use Rattle.message_parts.specs.Access.{who_tag, has_tag}

-- where the tag decides for each, it decides for the list
by_each : (who : Who) (tag : ℕ) → ((w : Who) → (who_tag w == tag) ≡ same_who w who) → (entries : List AccessEntry) → has_tag entries tag ≡ has_who entries who
by_each who tag each [] = refl
by_each who tag each (e ∷ entries) =
    ap (λ v. v || has_tag entries tag) (each e.who) ∙ ap (λ v. same_who e.who who || v) (by_each who tag each entries)

user_each : (w : Who) → (who_tag w == 1) ≡ same_who w UserObj
user_each UserObj = refl
user_each (User name) = refl
user_each GroupObj = refl
user_each (Group name) = refl
user_each OtherObj = refl
user_each MaskObj = refl

group_each : (w : Who) → (who_tag w == 3) ≡ same_who w GroupObj
group_each UserObj = refl
group_each (User name) = refl
group_each GroupObj = refl
group_each (Group name) = refl
group_each OtherObj = refl
group_each MaskObj = refl

other_each : (w : Who) → (who_tag w == 5) ≡ same_who w OtherObj
other_each UserObj = refl
other_each (User name) = refl
other_each GroupObj = refl
other_each (Group name) = refl
other_each OtherObj = refl
other_each MaskObj = refl

mask_each : (w : Who) → (who_tag w == 6) ≡ same_who w MaskObj
mask_each UserObj = refl
mask_each (User name) = refl
mask_each GroupObj = refl
mask_each (Group name) = refl
mask_each OtherObj = refl
mask_each MaskObj = refl

pub user_tag : (entries : List AccessEntry) → has_tag entries 1 ≡ has_who entries UserObj
user_tag = by_each UserObj 1 user_each

pub group_tag : (entries : List AccessEntry) → has_tag entries 3 ≡ has_who entries GroupObj
group_tag = by_each GroupObj 3 group_each

pub other_tag : (entries : List AccessEntry) → has_tag entries 5 ≡ has_who entries OtherObj
other_tag = by_each OtherObj 5 other_each

pub mask_tag : (entries : List AccessEntry) → has_tag entries 6 ≡ has_who entries MaskObj
mask_tag = by_each MaskObj 6 mask_each

pub ruleset by_tag = (user_tag, group_tag, other_tag, mask_tag)
