-- The blocks that filesets are promised.
use Rattle.std.proofs.Common.{ℕ, ◌+◌, ◌/◌, ◌%◌, refl, ap, ◌∙◌, arith}
use Rattle.std.specs.Prelude.{if◌then◌else◌}
use Rattle.std.specs.List.{sum_by}
use Rattle.std.proofs.lemmas.List.Sums.{sum_by-cons}
use Rattle.tree_objects.specs.Files.{present_length}
use Rattle.tree_filesets.specs.Promises.{anode_blocks, clone_promise, new_promise}
use Rattle.tree_laws.specs.Promises.{HoldsBytes, PromisesAreSo}

-- so many blocks hold so many bytes
holds : (len : ℕ) → HoldsBytes len ((len + 1023) / 1024)
holds len =
    let whole = (len + 1023) / 1024 in let rest = (len + 1023) % 1024 in
    record { enough = omega arith; least = omega arith }

pub promises_are_so : PromisesAreSo
promises_are_so = record {
  directory = λ entries lists. refl;
  file = λ list kept unsaved len. ((present_length kept len + 1023) / 1024, refl, holds (present_length kept len));
  object = λ unique object. refl;
  nothing = λ unique. refl;
  clone = λ fileset anode anodes e. ap (λ xs. sum_by anode_blocks xs) e ∙ sum_by-cons anode_blocks anode anodes;
  read_only = λ fileset e. ap (λ b. if b then clone_promise fileset else new_promise fileset.objects) e;
  writable = λ fileset e. ap (λ b. if b then clone_promise fileset else new_promise fileset.objects) e;
}
