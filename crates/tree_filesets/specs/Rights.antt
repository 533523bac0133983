-- The rights, as bits of a set of rights.
use Rattle.std.specs.Prelude.{ℕ}

abbrev pub read_right : ℕ
read_right = 1

abbrev pub write_right : ℕ
write_right = 2

abbrev pub execute_right : ℕ
execute_right = 4

abbrev pub control_right : ℕ
control_right = 8

abbrev pub insert_right : ℕ
insert_right = 16

abbrev pub delete_right : ℕ
delete_right = 32
