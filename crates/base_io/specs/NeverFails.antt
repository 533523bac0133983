-- What contracts see of an input that can't fail.
use Rattle.std.specs.Prelude.{ℕ, List}
use Rattle.base_io.specs.Memory.{left_of}
use Rattle.base_io.specs.declared.never_fails.NeverFails.{NeverFails}

-- the bytes that are left
abbrev pub input_of : NeverFails → List ℕ
input_of input = left_of input.source
