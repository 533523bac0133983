-- Reading what travels of an object is right.
use Rattle.std.proofs.Common.{◌≡◌, ℕ, Bool, List, length, Ok, refl, sym, ◌∙◌, ap}
use Rattle.std.specs.Prelude.{◌==◌}
use Rattle.std.proofs.lemmas.Bool.{and_parts, and_from, eq-eqb, eqb-true}
use Rattle.message_parts.proofs.Items.{items_right}
use Rattle.message_parts.specs.Reading.{items_at}
use Rattle.base_types.specs.declared.access.AccessEntry.{AccessEntry}
use Rattle.tree_calls.specs.declared.part.DirEntry.{DirEntry}
use Rattle.tree_calls.specs.declared.part.Status.{Status}
use Rattle.message_parts.specs.Spelled.{Spelled, ◌&◌, items}
use Rattle.message_parts.specs.Reading.{◌>>=◌}
use Rattle.message_parts.specs.Words.{spell_u32, u32_at, spell_flag, flag_at, spell_name, name_at}
use Rattle.message_parts.proofs.More.{more_right}
use Rattle.message_parts.proofs.Parts.{moved, last_right}
use Rattle.message_parts.proofs.Right.{Right, Any, same, IsRight}
use Rattle.message_parts.proofs.Words.{u32_right, variant_right, flag_right, name_right}
use Rattle.message_parts.specs.Access.{spell_access, access_at}
use Rattle.message_parts.specs.Objects.{spell_entry, spell_status, entry_at, status_at, list_count, spell_lists}
use Rattle.message_parts.proofs.Access.{access_right}

abbrev pub made_entry : (List ℕ × ℕ × ℕ) → DirEntry
made_entry t = record { name = t.0; anode = t.1; unique = t.2 }

pub entry_parts : Right Any (λ t. spell_entry (made_entry t)) made_entry entry_at
unfolding spell_entry entry_at
entry_parts =
    more_right (λ (t : (List ℕ × ℕ × ℕ)). Any t) spell_name (λ t. spell_u32 t.1 & spell_u32 t.2) (λ t. t.0) made_entry name_at
    (λ a0 rest. u32_at rest >>= λ a1 rest. u32_at rest >>= λ a2 rest. Ok (record { name = a0; anode = a1; unique = a2 }, rest)) name_right
    (λ a0 f0. more_right (λ (t : (List ℕ × ℕ × ℕ)). (Any t × (t.0 ≡ a0))) spell_u32 (λ t. spell_u32 t.2) (λ t. t.1) made_entry u32_at
    (λ a1 rest. u32_at rest >>= λ a2 rest. Ok (record { name = a0; anode = a1; unique = a2 }, rest)) u32_right
    (λ a1 f1. last_right (λ (t : (List ℕ × ℕ × ℕ)). ((Any t × (t.0 ≡ a0)) × (t.1 ≡ a1))) Any spell_u32 (λ t. t.2) made_entry (λ z. record { name = a0; anode = a1; unique = z }) u32_at (λ z any. ((a0, a1, z), ((tt, refl), refl), refl)) (λ t c. (tt, cc)) u32_right))

pub entry_right : IsRight spell_entry entry_at
entry_right = variant_right Any spell_entry made_entry entry_at (λ t. tt) (λ a c. ((a.name, a.anode, a.unique), refl)) entry_parts

lists_right : (count : ℕ) → IsRight (spell_lists count) (items_at access_at count)
unfolding spell_lists
lists_right count = moved (λ ls. length ls ≡ count) (items spell_access) same Any (spell_lists count) same (items_at access_at count)
    (λ ls bytes s. (ls, record { chosen = tt; fits = and_from (length ls == count) (items spell_access ls).fits (eq-eqb (length ls) count s.chosen) s.fits; whole = s.whole }, refl))
    (λ ls bytes s. let p = and_parts (length ls == count) (items spell_access ls).fits s.fits in
    (ls, record { chosen = eqb-true (length ls) count p.0; fits = p.1; whole = s.whole }, refl))
    (items_right spell_access access_at access_right count)

abbrev pub status_of : Bool → Bool → ℕ → List ℕ → List ℕ → List (List AccessEntry) → Status
status_of dir read_only length owner group lists = record { dir = dir; read_only = read_only; length = length; owner = owner; group = group; lists = lists }

abbrev pub is_kind : Bool → Status → Type 0
is_kind dir s = Any s × (s.dir ≡ dir)

lists_last : (d r : Bool) (l : ℕ) (o g : List ℕ) → Right (λ s. (((is_kind d s × (s.read_only ≡ r)) × (s.length ≡ l)) × (s.owner ≡ o)) × (s.group ≡ g)) (λ s. spell_lists (list_count s.dir) s.lists) same
    (λ rest. items_at access_at (list_count d) rest >>= λ lists rest. Ok (status_of d r l o g lists, rest))
lists_last d r l o g =
    let among : Status → Type 0 = λ s. (((is_kind d s × (s.read_only ≡ r)) × (s.length ≡ l)) × (s.owner ≡ o)) × (s.group ≡ g) in
    moved among (λ s. spell_lists (list_count d) s.lists) same among (λ s. spell_lists (list_count s.dir) s.lists) same
    (λ rest. items_at access_at (list_count d) rest >>= λ lists rest. Ok (status_of d r l o g lists, rest))
    (λ s bytes q. let e : s.dir ≡ d = q.chosen.0.0.0.0.1 in
    (s, record { chosen = q.chosen; fits = ap (λ v. (spell_lists (list_count v) s.lists).fits) e ∙ q.fits; whole = q.whole ∙ ap (λ v. (spell_lists (list_count v) s.lists).bytes) (sym e) }, refl))
    (λ s bytes q. let e : s.dir ≡ d = q.chosen.0.0.0.0.1 in
    (s, record { chosen = q.chosen; fits = ap (λ v. (spell_lists (list_count v) s.lists).fits) (sym e) ∙ q.fits; whole = q.whole ∙ ap (λ v. (spell_lists (list_count v) s.lists).bytes) e }, refl))
    (last_right among Any (spell_lists (list_count d)) (λ s. s.lists) same (status_of d r l o g) (items_at access_at (list_count d))
    (λ ls c. (status_of d r l o g ls, (((((tt, refl), refl), refl), refl), refl), refl))
    (λ s c. (tt, rw (← c.0.0.0.0.1, ← c.0.0.0.1, ← c.0.0.1, ← c.0.1, ← c.1) refl))
    (lists_right (list_count d)))

abbrev pub lists_in : Status → Spelled
lists_in s = spell_lists (list_count s.dir) s.lists

pub status_right : IsRight spell_status status_at
unfolding spell_status status_at
status_right =
    more_right Any spell_flag (λ s. spell_flag s.read_only & spell_u32 s.length & spell_name s.owner & spell_name s.group & lists_in s) (λ s. s.dir) same flag_at
    (λ d rest. flag_at rest >>= λ r rest. u32_at rest >>= λ l rest. name_at rest >>= λ o rest. name_at rest >>= λ g rest. items_at access_at (list_count d) rest >>= λ ls rest. Ok (status_of d r l o g ls, rest)) flag_right
    (λ d f. more_right (is_kind d) spell_flag (λ s. spell_u32 s.length & spell_name s.owner & spell_name s.group & lists_in s) (λ s. s.read_only) same flag_at
    (λ r rest. u32_at rest >>= λ l rest. name_at rest >>= λ o rest. name_at rest >>= λ g rest. items_at access_at (list_count d) rest >>= λ ls rest. Ok (status_of d r l o g ls, rest)) flag_right
    (λ r f. more_right (λ s. is_kind d s × (s.read_only ≡ r)) spell_u32 (λ s. spell_name s.owner & spell_name s.group & lists_in s) (λ s. s.length) same u32_at
    (λ l rest. name_at rest >>= λ o rest. name_at rest >>= λ g rest. items_at access_at (list_count d) rest >>= λ ls rest. Ok (status_of d r l o g ls, rest)) u32_right
    (λ l f. more_right (λ s. (is_kind d s × (s.read_only ≡ r)) × (s.length ≡ l)) spell_name (λ s. spell_name s.group & lists_in s) (λ s. s.owner) same name_at
    (λ o rest. name_at rest >>= λ g rest. items_at access_at (list_count d) rest >>= λ ls rest. Ok (status_of d r l o g ls, rest)) name_right
    (λ o f. more_right (λ s. ((is_kind d s × (s.read_only ≡ r)) × (s.length ≡ l)) × (s.owner ≡ o)) spell_name lists_in (λ s. s.group) same name_at
    (λ g rest. items_at access_at (list_count d) rest >>= λ ls rest. Ok (status_of d r l o g ls, rest)) name_right
    (λ g f. lists_last d r l o g)))))
