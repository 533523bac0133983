-- A log that was mounted.
use Rattle.std.proofs.Common.{◌≡◌, ◌<◌, ◌≤◌, ◌⊎◌, ◌∙◌, ℕ, inl, inr, ap, arith, get_or}
use Rattle.std.specs.Prelude.{replicate}
use Rattle.std.proofs.lemmas.Bool.{cases_lt}
use Rattle.std.proofs.lemmas.List.{get_or_past, get_or-replicate, length-replicate}
use Rattle.disk_layout.specs.declared.half.Half.{Half}
use Rattle.disk_layout.specs.declared.superblock.Superblock.{Superblock}
use Rattle.disk_log.specs.State.{State, HasNoOpen, fresh_state}

-- nothing is reserved in a new log
none_in : (n slot none : ℕ) → (slot < n) ⊎ (n ≤ slot) → get_or (replicate n none) slot none ≡ none
none_in n slot none (inl lt) = get_or-replicate n slot none none lt
none_in n slot none (inr le) = get_or_past (replicate n none) slot none (let e = length-replicate n none in omega (arith, e, le))

pub none_fresh : (state : State) (superblock : Superblock) (half : Half) → state ≡ fresh_state superblock half → HasNoOpen state
none_fresh state superblock half is = λ slot. ap (λ (s : State). get_or s.reservations slot 0) is ∙ none_in 2048 slot 0 (cases_lt slot 2048)
