-- Reading users and places is right.
use Rattle.std.proofs.Common.{◌≡◌, ℕ, zero, suc, ◌≤◌, List, Ok, refl, arith}
use Rattle.base_types.specs.declared.user.User.{User}
use Rattle.base_types.specs.declared.ids.ServerId.{ServerId}
use Rattle.tree_calls.specs.declared.place.Place.{Place}
use Rattle.tree_calls.specs.declared.place.Which.{Which}
use Rattle.tree_calls.specs.declared.place.Which.TheVariants.{Own, Files, Dirs}
use Rattle.message_parts.specs.Spelled.{◌&◌}
use Rattle.message_parts.specs.Reading.{◌>>=◌}
use Rattle.message_parts.specs.Words.{spell_server, server_at, short, short_at, spell_name, name_at}
use Rattle.message_parts.proofs.More.{more_right}
use Rattle.message_parts.proofs.Parts.{last_right}
use Rattle.message_parts.proofs.Numbers.{number_right}
use Rattle.message_parts.proofs.Right.{Right, Any, IsRight}
use Rattle.message_parts.proofs.Words.{coded_right, variant_right, server_right, short_right, name_right}
use Rattle.message_parts.specs.Places.{spell_user, spell_place, spell_which, spell_rights, user_at, place_at, which_at, rights_at, which_code, which_of}

abbrev pub made_user : (List ℕ × List (List ℕ)) → User
made_user t = record { name = t.0; groups = t.1 }

pub user_parts : Right Any (λ t. spell_user (made_user t)) made_user user_at
unfolding spell_user user_at
user_parts =
    more_right (λ (t : (List ℕ × List (List ℕ))). Any t) spell_name (λ t. short spell_name t.1) (λ t. t.0) made_user name_at
    (λ a0 rest. short_at name_at rest >>= λ a1 rest. Ok (record { name = a0; groups = a1 }, rest)) name_right
    (λ a0 f0. last_right (λ (t : (List ℕ × List (List ℕ))). (Any t × (t.0 ≡ a0))) Any (short spell_name) (λ t. t.1) made_user (λ z. record { name = a0; groups = z }) (short_at name_at) (λ z any. ((a0, z), (tt, refl), refl)) (λ t c. (tt, cc)) (short_right spell_name name_at name_right))

pub user_right : IsRight spell_user user_at
user_right = variant_right Any spell_user made_user user_at (λ t. tt) (λ a c. ((a.name, a.groups), refl)) user_parts

abbrev pub made_place : (ServerId × List ℕ × List (List ℕ)) → Place
made_place t = record { server = t.0; fileset = t.1; path = t.2 }

pub place_parts : Right Any (λ t. spell_place (made_place t)) made_place place_at
unfolding spell_place place_at
place_parts =
    more_right (λ (t : (ServerId × List ℕ × List (List ℕ))). Any t) spell_server (λ t. spell_name t.1 & short spell_name t.2) (λ t. t.0) made_place server_at
    (λ a0 rest. name_at rest >>= λ a1 rest. short_at name_at rest >>= λ a2 rest. Ok (record { server = a0; fileset = a1; path = a2 }, rest)) server_right
    (λ a0 f0. more_right (λ (t : (ServerId × List ℕ × List (List ℕ))). (Any t × (t.0 ≡ a0))) spell_name (λ t. short spell_name t.2) (λ t. t.1) made_place name_at
    (λ a1 rest. short_at name_at rest >>= λ a2 rest. Ok (record { server = a0; fileset = a1; path = a2 }, rest)) name_right
    (λ a1 f1. last_right (λ (t : (ServerId × List ℕ × List (List ℕ))). ((Any t × (t.0 ≡ a0)) × (t.1 ≡ a1))) Any (short spell_name) (λ t. t.2) made_place (λ z. record { server = a0; fileset = a1; path = z }) (short_at name_at) (λ z any. ((a0, a1, z), ((tt, refl), refl), refl)) (λ t c. (tt, cc)) (short_right spell_name name_at name_right)))

pub place_right : IsRight spell_place place_at
place_right = variant_right Any spell_place made_place place_at (λ t. tt) (λ a c. ((a.server, a.fileset, a.path), refl)) place_parts

which_back : (x : Which) → which_of (which_code x) ≡ x
which_back Own = refl
which_back Files = refl
which_back Dirs = refl

which_again : (n : ℕ) → 0 ≤ n → n ≤ 2 → which_code (which_of n) ≡ n
which_again zero l h = refl
which_again (suc zero) l h = refl
which_again (suc (suc zero)) l h = refl
which_again (suc (suc (suc n))) l h = absurd (omega (arith, h))

pub which_right : IsRight spell_which which_at
which_right = coded_right 0 2 which_code which_of (omega arith) (omega arith) which_back which_again

pub rights_right : IsRight spell_rights rights_at
rights_right = number_right 0 63 (omega arith) 1 (omega arith)
