-- Reading messages is right.
use Rattle.std.proofs.Common.{◌≡◌, ℕ, zero, suc, ◌≤◌, ◌<◌, ◌^◌, Bool, true, false, List, Ok, refl, sym, ◌∙◌, ap, arith, lit<}
use Rattle.std.specs.Prelude.{◌||◌, ◌==◌, if◌then◌else◌}
use Rattle.base_types.specs.declared.ids.ServerId.{ServerId}
use Rattle.base_types.specs.declared.ids.HostId.{HostId}
use Rattle.message_types.specs.declared.message.Direction.{Direction}
use Rattle.message_types.specs.declared.message.Direction.TheVariants.{ToServer, ToHost, BetweenServers}
use Rattle.message_types.specs.declared.message.Message.{Message}
use Rattle.message_parts.specs.Spelled.{Spelled, ◌&◌, number}
use Rattle.message_parts.specs.Reading.{Reading, ◌>>=◌, number_at}
use Rattle.message_parts.specs.Words.{coded, coded_at, host_code, host_of, spell_server, server_at}
use Rattle.message_parts.proofs.More.{more_right}
use Rattle.message_parts.proofs.Parts.{moved, last_right}
use Rattle.message_parts.proofs.Numbers.{number_right}
use Rattle.message_parts.proofs.Right.{Right, Any, same, IsRight}
use Rattle.message_parts.proofs.Words.{coded_right, server_right, code_bounds}
use Rattle.message_spelling.specs.Bodies.{body_tag, body_fields}
use Rattle.message_spelling.specs.Readings.{body_of}
use Rattle.message_spelling.specs.Messages.{direction_code, direction_of, goes_to_host, goes_between, least_direction, most_direction, most_host, most_epoch, spell_message, message_at}
use Rattle.message_spelling.proofs.Contents.{Told, told_fields, of_kind as told_of, body_rest}

direction_back : (d : Direction) → direction_of (direction_code d) ≡ d
direction_back ToServer = refl
direction_back ToHost = refl
direction_back BetweenServers = refl

direction_again : (n : ℕ) → n ≤ 2 → direction_code (direction_of n) ≡ n
direction_again zero h = refl
direction_again (suc zero) h = refl
direction_again (suc (suc zero)) h = refl
direction_again (suc (suc (suc n))) h = absurd (omega (arith, h))

directions_by : (between host bye : Bool)
    → ((if between then 2 else if host then 1 else 0) ≤ (if between then 2 else if host || bye then 1 else 0)) × ((if between then 2 else if host || bye then 1 else 0) ≤ 2)
directions_by true host bye = (omega arith, omega arith)
directions_by false true bye = (omega arith, omega arith)
directions_by false false true = (omega arith, omega arith)
directions_by false false false = (omega arith, omega arith)

-- the range of directions of a kind
pub directions : (tag : ℕ) → (least_direction tag ≤ most_direction tag) × (most_direction tag ≤ 2)
directions tag = directions_by (goes_between tag) (goes_to_host tag) (tag == 15)

direction_right : (tag : ℕ) → IsRight (coded (least_direction tag) (most_direction tag) direction_code) (coded_at (least_direction tag) (most_direction tag) direction_of)
direction_right tag =
    let b = directions tag in
    coded_right (least_direction tag) (most_direction tag) direction_code direction_of b.0 (omega (arith, b.1)) direction_back
    (λ n l h. direction_again n (omega (arith, h, b.1)))

few_hosts : (d : Direction) → most_host d < 256
few_hosts ToServer = omega arith
few_hosts ToHost = omega arith
few_hosts BetweenServers = omega arith

host_right : (d : Direction) → IsRight (coded 0 (most_host d) host_code) (coded_at 0 (most_host d) host_of)
host_right d = coded_right 0 (most_host d) host_code host_of (omega arith) (few_hosts d) (λ a. refl) (λ n l h. refl)

pub epochs_room : (d : Direction) → most_epoch d < 256 ^ 8
epochs_room ToServer = lit< tt
epochs_room ToHost = lit< tt
epochs_room BetweenServers = lit< tt

epoch_right : (d : Direction) → IsRight (number 8 0 (most_epoch d)) (number_at 8 0 (most_epoch d))
epoch_right d = number_right 0 (most_epoch d) (omega arith) 8 (epochs_room d)

abbrev pub message_of : Direction → HostId → ServerId → ℕ → Told → Message
message_of direction host server epoch told =
    record { direction = direction; host = host; server = server; epoch = epoch; moves = told.0; body = told.1 }

abbrev pub told_in : Message → Told
told_in m = (m.moves, m.body)

-- what stands behind the direction, where it is this one
abbrev pub behind : Direction → Message → Spelled
behind d m =
    coded 0 (most_host d) host_code m.host & spell_server m.server & number 8 0 (most_epoch d) m.epoch & body_fields m.moves m.body

abbrev pub behind_direction : Message → Spelled
behind_direction m = behind m.direction m

-- what stands behind the kind, where it is this one
abbrev pub behind_tag : ℕ → Message → Spelled
behind_tag tag m = coded (least_direction tag) (most_direction tag) direction_code m.direction & behind_direction m

abbrev pub behind_kind : Message → Spelled
behind_kind m = behind_tag (body_tag m.body) m

abbrev pub of_kind : ℕ → Message → Type 0
of_kind tag m = Any m × (body_tag m.body ≡ tag)

abbrev pub of_way : ℕ → Direction → Message → Type 0
of_way tag d m = of_kind tag m × (m.direction ≡ d)

abbrev pub read_behind : ℕ → Direction → List ℕ → Reading Message
read_behind tag d rest =
    coded_at 0 (most_host d) host_of rest >>= λ host rest. server_at rest >>= λ server rest.
    number_at 8 0 (most_epoch d) rest >>= λ epoch rest. body_of tag rest >>= λ told rest. Ok (message_of d host server epoch told, rest)

body_last : (tag : ℕ) → 1 ≤ tag → tag ≤ 18 → (d : Direction) (h : HostId) (s : ServerId) (e : ℕ)
    → Right (λ m. ((of_way tag d m × (m.host ≡ h)) × (m.server ≡ s)) × (m.epoch ≡ e)) (λ m. body_fields m.moves m.body) same
    (λ rest. body_of tag rest >>= λ told rest. Ok (message_of d h s e told, rest))
body_last tag l u d h s e = last_right (λ m. ((of_way tag d m × (m.host ≡ h)) × (m.server ≡ s)) × (m.epoch ≡ e)) (told_of tag)
    told_fields told_in same (message_of d h s e) (body_of tag)
    (λ t c. (message_of d h s e t, (((((tt, c.1), refl), refl), refl), refl), refl))
    (λ m c. ((tt, c.0.0.0.0.1), rw (← c.0.0.0.1, ← c.0.0.1, ← c.0.1, ← c.1) refl))
    (body_rest tag l u)

rest_of_message : (tag : ℕ) → 1 ≤ tag → tag ≤ 18 → (d : Direction) → Right (of_way tag d) (behind d) same (read_behind tag d)
rest_of_message tag l u d =
    more_right (of_way tag d) (coded 0 (most_host d) host_code) (λ m. spell_server m.server & number 8 0 (most_epoch d) m.epoch & body_fields m.moves m.body)
    (λ m. m.host) same (coded_at 0 (most_host d) host_of)
    (λ h rest. server_at rest >>= λ server rest. number_at 8 0 (most_epoch d) rest >>= λ epoch rest. body_of tag rest >>= λ told rest. Ok (message_of d h server epoch told, rest)) (host_right d)
    (λ h f. more_right (λ m. of_way tag d m × (m.host ≡ h)) spell_server (λ m. number 8 0 (most_epoch d) m.epoch & body_fields m.moves m.body) (λ m. m.server) same server_at
    (λ s rest. number_at 8 0 (most_epoch d) rest >>= λ epoch rest. body_of tag rest >>= λ told rest. Ok (message_of d h s epoch told, rest)) server_right
    (λ s f. more_right (λ m. (of_way tag d m × (m.host ≡ h)) × (m.server ≡ s)) (number 8 0 (most_epoch d)) (λ m. body_fields m.moves m.body) (λ m. m.epoch) same (number_at 8 0 (most_epoch d))
    (λ e rest. body_of tag rest >>= λ told rest. Ok (message_of d h s e told, rest)) (epoch_right d)
    (λ e f. body_last tag l u d h s e)))

-- a message goes one way, and what stands behind is of that way
behind_way : (tag : ℕ) → 1 ≤ tag → tag ≤ 18 → (d : Direction) → Right (of_way tag d) behind_direction same (read_behind tag d)
behind_way tag l u d = moved (of_way tag d) (behind d) same (of_way tag d) behind_direction same (read_behind tag d)
    (λ m bytes s. let e = s.chosen.1 in
    (m, record { chosen = s.chosen; fits = ap (λ v. (behind v m).fits) e ∙ s.fits; whole = s.whole ∙ ap (λ v. (behind v m).bytes) (sym e) }, refl))
    (λ m bytes s. let e = s.chosen.1 in
    (m, record { chosen = s.chosen; fits = ap (λ v. (behind v m).fits) (sym e) ∙ s.fits; whole = s.whole ∙ ap (λ v. (behind v m).bytes) e }, refl))
    (rest_of_message tag l u d)

behind_kind_right : (tag : ℕ) → 1 ≤ tag → tag ≤ 18 → Right (of_kind tag) behind_kind same
    (λ rest. coded_at (least_direction tag) (most_direction tag) direction_of rest >>= λ direction rest. read_behind tag direction rest)
behind_kind_right tag l u =
    moved (of_kind tag) (behind_tag tag) same (of_kind tag) behind_kind same
    (λ rest. coded_at (least_direction tag) (most_direction tag) direction_of rest >>= λ direction rest. read_behind tag direction rest)
    (λ m bytes s. let e = s.chosen.1 in
    (m, record { chosen = s.chosen; fits = ap (λ v. (behind_tag v m).fits) e ∙ s.fits; whole = s.whole ∙ ap (λ v. (behind_tag v m).bytes) (sym e) }, refl))
    (λ m bytes s. let e = s.chosen.1 in
    (m, record { chosen = s.chosen; fits = ap (λ v. (behind_tag v m).fits) (sym e) ∙ s.fits; whole = s.whole ∙ ap (λ v. (behind_tag v m).bytes) e }, refl))
    (more_right (of_kind tag) (coded (least_direction tag) (most_direction tag) direction_code) behind_direction (λ m. m.direction) same
    (coded_at (least_direction tag) (most_direction tag) direction_of) (λ d rest. read_behind tag d rest) (direction_right tag)
    (λ d f. behind_way tag l u d))

pub message_right : IsRight spell_message message_at
unfolding spell_message message_at
message_right = more_right Any (number 1 1 18) behind_kind (λ m. body_tag m.body) same (number_at 1 1 18)
    (λ tag rest. coded_at (least_direction tag) (most_direction tag) direction_of rest >>= λ direction rest. read_behind tag direction rest)
    (number_right 1 18 (omega arith) 1 (omega arith))
    (λ tag f. let b = code_bounds 1 18 tag f in behind_kind_right tag b.0 b.1)
