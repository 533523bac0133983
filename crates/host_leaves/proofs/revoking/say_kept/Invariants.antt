use Rattle.std.proofs.Common.{◌≡◌, fold, take}
use Rattle.host_leaves.specs.Revoking.{fids_of, keeping_file}
use Rattle.host_leaves.proofs.revoking.say_kept.Given as goal

abbrev pub invariant-loop-index : goal.invariant-loop-index
invariant-loop-index l =
    l.draft ≡ fold (keeping_file l.tables l.tokens) l.initial.draft (fids_of (take l.index l.tokens))
