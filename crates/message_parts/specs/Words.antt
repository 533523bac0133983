-- The smallest parts of messages: numbers, flags, bytes, names and lists.
use Rattle.std.specs.Prelude.{ℕ, ◌==◌, Bool, true, false, not, if◌then◌else◌, List, Option, Some, None, Ok}
use Rattle.base_types.specs.Name.{is_separator}
use Rattle.base_types.specs.declared.ids.HostId.{HostId}
use Rattle.base_types.specs.declared.ids.ServerId.{ServerId}
use Rattle.base_types.specs.declared.ids.FilesetId.{FilesetId}
use Rattle.message_parts.specs.Spelled.{Spelled, ◌&◌, one_byte, number, counted}
use Rattle.message_parts.specs.Reading.{Reading, ◌>>=◌, byte_at, number_at, counted_at}

unfoldable pub spell_u8 : ℕ → Spelled
spell_u8 n = number 1 0 255 n

unfoldable pub u8_at : List ℕ → Reading ℕ
u8_at bytes = number_at 1 0 255 bytes

unfoldable pub spell_u32 : ℕ → Spelled
spell_u32 n = number 4 0 4294967295 n

unfoldable pub u32_at : List ℕ → Reading ℕ
u32_at bytes = number_at 4 0 4294967295 bytes

unfoldable pub spell_u64 : ℕ → Spelled
spell_u64 n = number 8 0 18446744073709551615 n

unfoldable pub u64_at : List ℕ → Reading ℕ
u64_at bytes = number_at 8 0 18446744073709551615 bytes

-- A value of a few, by its number in one byte.
unfoldable pub coded : {A : Type 0} → ℕ → ℕ → (A → ℕ) → A → Spelled
coded least most code x = number 1 least most (code x)

unfoldable pub coded_at : {A : Type 0} → ℕ → ℕ → (ℕ → A) → List ℕ → Reading A
coded_at least most meant bytes = number_at 1 least most bytes >>= λ n rest. Ok (meant n, rest)

abbrev pub flag_code : Bool → ℕ
flag_code b = if b then 1 else 0

abbrev pub flag_of : ℕ → Bool
flag_of n = n == 1

abbrev pub spell_flag : Bool → Spelled
spell_flag = coded 0 1 flag_code

abbrev pub flag_at : List ℕ → Reading Bool
flag_at = coded_at 0 1 flag_of

abbrev pub host_code : HostId → ℕ
host_code host = host.0

abbrev pub host_of : ℕ → HostId
host_of n = record { 0 = n }

-- 0 to 17
abbrev pub spell_host : HostId → Spelled
spell_host = coded 0 17 host_code

abbrev pub host_at : List ℕ → Reading HostId
host_at = coded_at 0 17 host_of

abbrev pub server_code : ServerId → ℕ
server_code server = server.0

abbrev pub server_of : ℕ → ServerId
server_of n = record { 0 = n }

-- 1 to 4
abbrev pub spell_server : ServerId → Spelled
spell_server = coded 1 4 server_code

abbrev pub server_at : List ℕ → Reading ServerId
server_at = coded_at 1 4 server_of

unfoldable pub spell_fileset : FilesetId → Spelled
spell_fileset fileset = spell_u32 fileset.0

unfoldable pub fileset_at : List ℕ → Reading FilesetId
fileset_at bytes = u32_at bytes >>= λ n rest. Ok (record { 0 = n }, rest)

-- a list with a count of two bytes
abbrev pub short : {A : Type 0} → (A → Spelled) → List A → Spelled
short one = counted 2 0 65535 one

abbrev pub short_at : {A : Type 0} → (List ℕ → Reading A) → List ℕ → Reading (List A)
short_at one = counted_at 2 0 65535 one

-- a list with a count of eight bytes
abbrev pub long : {A : Type 0} → (A → Spelled) → List A → Spelled
long one = counted 8 0 18446744073709551615 one

abbrev pub long_at : {A : Type 0} → (List ℕ → Reading A) → List ℕ → Reading (List A)
long_at one = counted_at 8 0 18446744073709551615 one

-- a flag, and the value where there is one
unfoldable pub spell_optional : {A : Type 0} → (A → Spelled) → Option A → Spelled
spell_optional one None = spell_flag false
spell_optional one (Some x) = spell_flag true & one x

abbrev pub rest_of_optional : {A : Type 0} → (List ℕ → Reading A) → Bool → List ℕ → Reading (Option A)
rest_of_optional one false bytes = Ok (None, bytes)
rest_of_optional one true bytes = one bytes >>= λ x rest. Ok (Some x, rest)

unfoldable pub optional_at : {A : Type 0} → (List ℕ → Reading A) → List ℕ → Reading (Option A)
optional_at one bytes = flag_at bytes >>= λ there rest. rest_of_optional one there rest

-- a byte of a name
abbrev pub is_plain : ℕ → Bool
is_plain byte = not (is_separator byte)

unfoldable pub spell_name : List ℕ → Spelled
spell_name name = counted 1 1 60 (one_byte is_plain) name

unfoldable pub name_at : List ℕ → Reading (List ℕ)
name_at bytes = counted_at 1 1 60 (byte_at is_plain) bytes

abbrev pub any_byte : ℕ → Bool
any_byte byte = true

-- at most so many bytes
unfoldable pub spell_bytes : ℕ → List ℕ → Spelled
spell_bytes most bytes = counted 4 0 most (one_byte any_byte) bytes

unfoldable pub bytes_at : ℕ → List ℕ → Reading (List ℕ)
bytes_at most rest = counted_at 4 0 most (byte_at any_byte) rest
